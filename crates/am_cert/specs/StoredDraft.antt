-- A draft as contracts see it.
use Rattle.am_problem.specs.StoredDraft.{seen_draft as seen_problem}
use Rattle.am_cert.specs.Texts.{Draft}
use Rattle.am_cert.specs.declared.draft.CertificateDraft.{CertificateDraft}

-- a stored draft as the draft that it holds
abbrev pub seen_draft : CertificateDraft → Draft
seen_draft d = record { version = d.version; problem = seen_problem d.problem; answer = d.answer }
