-- What is read for an analysis, as it is stored, and what its calls answer.
use Rattle.std.specs.Prelude.{◌≡◌, ℕ, List, Err, Ok, Result, map}
use Rattle.am_text.specs.Tokens.{Left}
use Rattle.am_cert.specs.Certificate.{Certificate}
use Rattle.am_cert.specs.Checking.{HasFault}
use Rattle.am_cert.specs.StoredDraft.{seen_draft}
use Rattle.am_cert.specs.Texts.{Draft}
use Rattle.am_flow.specs.Flows.{Flow}
use Rattle.am_syntax.specs.Readers.{Read}
use Rattle.am_syntax.specs.Texts.{IsRefusedAt}
use Rattle.am_syntax.specs.declared.refusal.ReadError.{ReadError}
use Rattle.am_syntax.specs.declared.refusal.ReadError.TheVariants.{NoMemory, Refused}
use Rattle.amurth.specs.Analysed.{Analysis as Data, IsFirstFault}
use Rattle.amurth.specs.declared.analysing.Unaccepted.{Unaccepted}
use Rattle.amurth.specs.declared.analysing.Unaccepted.TheVariants as unaccepted
use Rattle.amurth.specs.declared.inputs.Analysis.{Analysis}
use Rattle.amurth.specs.declared.inputs.Drafts.{Drafts}

-- ---- reading

-- stored drafts and a flow as those that they hold
abbrev pub seen_drafts : Drafts → List Draft × Flow
seen_drafts d = (map seen_draft d.certificates.items, d.flow)

-- a stored analysis as the one that it holds
abbrev pub seen_analysis : Analysis → Data
seen_analysis a = record { certificates = a.certificates.items; flow = a.flow }

-- what a call answered, seen by view, and where the cursor stands then, is what is read; or memory ran out
abbrev pub ReadsAt : {X Y : Type 0} → (X → Y) → Result X ReadError → Left → Read Y → Type 0
ReadsAt view (Ok x) new read = read ≡ Ok (view x, new)
ReadsAt view (Err (Refused r)) new read = IsRefusedAt r new read
ReadsAt view (Err NoMemory) new read = Unit {0}

-- ---- checking

-- a failure of this certificate: its number and its first fault, or want of memory
abbrev pub IsFailureAt : ℕ → Certificate → Unaccepted → Type 0
IsFailureAt i c (unaccepted.Rejected number fault) = (number ≡ i) × HasFault c fault
IsFailureAt i c unaccepted.NoMemory = Unit {0}

-- the number and the fault of the first certificate that isn't accepted, or want of memory
abbrev pub IsFailureAmong : List Certificate → Unaccepted → Type 0
IsFailureAmong cs (unaccepted.Rejected number fault) = IsFirstFault cs number fault
IsFailureAmong cs unaccepted.NoMemory = Unit {0}
