-- What `analyse` reads, certificates and then a flow, and what it writes: the flow's table.
use Rattle.std.specs.Prelude.{◌≡◌, ℕ, ◌⊎◌, Bool, false, true, nat_lt, List, [], ◌∷◌, All, decimal, codes, length, map}
use Rattle.std.specs.Prelude.{take, Some, Result, Ok, Err, slice_get, if◌then◌else◌}
use Rattle.am_bv.specs.declared.term.Term.{Term}
use Rattle.am_cert.specs.Certificate.{Certificate}
use Rattle.am_cert.specs.Checking.{HasFault}
use Rattle.am_cert.specs.Texts.{Draft, draft, settled}
use Rattle.am_flow.specs.Flows.{AllFit, Flow, IsFirstMisfit, Operation}
use Rattle.am_flow.specs.declared.signature.Signature.{Signature}
use Rattle.am_flow.specs.Grammar.{flow}
use Rattle.am_flow.specs.Runs.{CoversRuns}
use Rattle.am_flow.specs.States.{IsTable, State}
use Rattle.am_flow.specs.Texts.{table_text}
use Rattle.am_query.specs.declared.fault.Fault.{Fault}
use Rattle.am_query.specs.declared.outcome.Outcome.{Outcome}
use Rattle.am_query.specs.declared.outcome.Outcome.TheVariants.{Absent, Best, Conflicts, Turns}
use Rattle.am_syntax.specs.Pieces.{next_is, repeat_from}
use Rattle.am_syntax.specs.Readers.{◌>>=◌, Reader, done, judged}
use Rattle.am_syntax.specs.Texts.{read_whole}
use Rattle.am_syntax.specs.declared.refusal.Cause.TheVariants.{Count}
use Rattle.am_syntax.specs.declared.refusal.Refusal.{Refusal}
use Rattle.am_syntax.specs.declared.refusal.Refusal.TheVariants.{Mismatch}
use Rattle.amurth.specs.Answers.{IsAnswer}
use Rattle.amurth.specs.Checked.{IsProved}
use Rattle.amurth.specs.Lines.{fault_line, refusal_line}
use Rattle.amurth.specs.declared.status.Status.{Status}
use Rattle.amurth.specs.declared.status.Status.TheVariants.{Done, Refused, Rejected}

-- ---- the input

-- certificates, and a flow over their operations
pub record Analysis : Type 0 where
  pub certificates : List Certificate
  pub flow : Flow

-- a certificate after others, of so many at most
abbrev pub certificate_after : List Draft → Reader Draft
certificate_after seen = λ s. if nat_lt (length seen) 16 then draft s else judged (λ _. Err Count) s

-- certificates, and then a flow
abbrev pub drafts : Reader (List Draft × Flow)
drafts =
    repeat_from (next_is (codes "certificate")) certificate_after [] >>= λ cs.
    (flow (length cs)).read >>= λ f.
    done (cs, f)

-- the drafts of a text, or the first refusal of its bytes and tokens
abbrev pub drafts_of : List ℕ → Result (List Draft × Flow) Refusal
drafts_of text = read_whole drafts text

-- a certificate before others, or the first refusal
abbrev pub behind : Result Certificate Refusal → Result (List Certificate) Refusal → Result (List Certificate) Refusal
behind (Ok c) (Ok cs) = Ok (c ∷ cs)
behind (Ok c) (Err r) = Err r
behind (Err r) rest = Err r

-- the certificates of the drafts, or the first refusal of their problems
abbrev pub all_settled : List Draft → Result (List Certificate) Refusal
all_settled [] = Ok []
all_settled (d ∷ ds) = behind (settled d) (all_settled ds)

-- certificates and a flow are what is analysed, unless one is refused
abbrev pub settled_with : Flow → Result (List Certificate) Refusal → Result Analysis Refusal
settled_with f (Ok cs) = Ok (record { certificates = cs; flow = f })
settled_with f (Err r) = Err r

-- what is analysed of drafts, unless there is a refusal
abbrev pub analysed : Result (List Draft × Flow) Refusal → Result Analysis Refusal
analysed (Ok p) = settled_with p.1 (all_settled p.0)
analysed (Err r) = Err r

-- the certificates and the flow of a text, or its first refusal
abbrev pub analysis_of : List ℕ → Result Analysis Refusal
analysis_of text = analysed (drafts_of text)

-- ---- operations

-- whether an outcome is a best transformer
abbrev pub is_best : Outcome → Bool
is_best (Best t trace sound_log best_log) = true
is_best (Absent trace log) = false
is_best (Turns trace) = false
is_best (Conflicts trace asked log) = false

-- what an operation is over, and whether a certificate has a best transformer of it
abbrev pub signature : Certificate → Signature
signature c = record {
  width = c.problem.width;
  inputs = c.problem.inputs;
  kind = c.problem.kind;
  best = is_best c.outcome;
}

-- the terms of a best transformer
abbrev pub best_terms : Outcome → List Term
best_terms (Best t trace sound_log best_log) = t
best_terms (Absent trace log) = []
best_terms (Turns trace) = []
best_terms (Conflicts trace asked log) = []

-- a certificate's problem and its best transformer
abbrev pub operation : Certificate → Operation
operation c = record { problem = c.problem; terms = best_terms c.outcome }

-- ---- what is written

-- all operations fit into the flow, all certificates are accepted and right, and the table is written, which covers
-- all runs
pub record IsAnalysed (a : Analysis) (status : Status) (written : List ℕ) : Type 0 where
  pub ended : status ≡ Done
  pub fit : AllFit a.flow (map signature a.certificates)
  pub proved : All IsProved a.certificates
  pub table : State
  pub is_table : IsTable a.flow (map operation a.certificates) table
  pub covers : CoversRuns a.flow (map operation a.certificates) table
  pub wrote : written ≡ table_text table

-- an operation doesn't fit into the flow, and the number of the first is written
pub record IsMismatched (a : Analysis) (status : Status) (written : List ℕ) : Type 0 where
  pub ended : status ≡ Refused
  pub number : ℕ
  pub first : IsFirstMisfit a.flow (map signature a.certificates) number
  pub wrote : written ≡ refusal_line (Mismatch number)

-- the certificate with this number isn't accepted, with its first fault, and all before it are
pub record IsFirstFault (cs : List Certificate) (number : ℕ) (fault : Fault) : Type 0 where
  pub certificate : Certificate
  pub here : slice_get cs number ≡ Some certificate
  pub before : All IsProved (take number cs)
  pub has : HasFault certificate fault

-- all operations fit, a certificate isn't accepted, and the number of the first and its fault are written
pub record IsUnaccepted (a : Analysis) (status : Status) (written : List ℕ) : Type 0 where
  pub ended : status ≡ Rejected
  pub fit : AllFit a.flow (map signature a.certificates)
  pub number : ℕ
  pub fault : Fault
  pub first : IsFirstFault a.certificates number fault
  pub wrote : written ≡ fault_line (decimal number ∷ []) fault

-- what is due to certificates and a flow
abbrev pub IsAnalysisDue : Analysis → Status → List ℕ → Type 0
IsAnalysisDue a status written =
    IsAnalysed a status written ⊎ (IsMismatched a status written ⊎ IsUnaccepted a status written)

-- what `analyse` writes for an input, by the status after it
abbrev pub IsAnalyseDue : Status → List ℕ → List ℕ → Type 0
IsAnalyseDue = IsAnswer (λ input a. analysis_of input ≡ Ok a) analysis_of IsAnalysisDue
