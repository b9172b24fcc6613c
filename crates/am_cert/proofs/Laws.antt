-- What proofs of other crates may cite of the texts of certificates.

-- a text of few bytes is short, and so is what is left of it; no token comes back
pub use Rattle.am_cert.proofs.Bounds.{left_short, reached_short, text_short}
pub use Rattle.am_cert.proofs.Shaping.{reached_length}
-- a certificate's first line and its answer are read exactly where they are spelled; a problem that was read has few
-- fields
pub use Rattle.am_cert.proofs.CertificateLaws.{draft_shape, heading_law}
pub use Rattle.am_cert.proofs.AnswerLaws.{answered_law}
-- a canonical text reads back, an outcome that can be written makes a certificate, and an accepted one's text passes
pub use Rattle.am_cert.proofs.PrintedWords.{printed_certificates_read}
pub use Rattle.am_cert.proofs.Writable.{outcomes_are_writable}
pub use Rattle.am_cert.proofs.TextVerdicts.{accepted_texts_pass}
