-- What proofs of other crates may cite of the tokens of a text.
pub use Rattle.am_text.proofs.Front.{tokens_at-space, tokens_at-parenthesis, tokens_at-whole, parenthesis_is, IsSeam}
pub use Rattle.am_text.proofs.Front.{seam_front, seam_back, suffix_none}
pub use Rattle.am_text.proofs.Joining.{tokens_at-append, words_of-append, words_of-space, words_of-parenthesis}
pub use Rattle.am_text.proofs.Joining.{words_of-word, words_of-before}
