-- The responses to an analysis.
use Rattle.std.proofs.Common.{◌≡◌, ℕ, ◌+◌, ◌<◌, List, Some, Result, Err, get_or, length, take, ap, subst, sym, ◌∙◌}
use Rattle.std.specs.Prelude.{All, IfErr}
use Rattle.std.proofs.lemmas.List.{take_more}
use Rattle.std.proofs.lemmas.List.Elements.{All-push}
use Rattle.std.proofs.lemmas.Option.{slice_get-get_or}
use Rattle.am_cert.specs.Certificate.{Certificate}
use Rattle.am_query.specs.declared.fault.Fault.{Fault}
use Rattle.amurth.specs.Analysed.{IsFirstFault}
use Rattle.amurth.specs.Checked.{IsProved}
use Rattle.amurth.specs.inside.Analyses.{IsFailureAmong, IsFailureAt}
use Rattle.amurth.specs.declared.analysing.Unaccepted.{Unaccepted}
use Rattle.amurth.specs.declared.analysing.Unaccepted.TheVariants as unaccepted

-- a certificate that fails, after those that are accepted, is the first
pub failure_among : (cs : List Certificate) (i : ℕ) (c : Certificate) (e : Unaccepted) → i < length cs →
    c ≡ get_or cs i c → All IsProved (take i cs) → IsFailureAt i c e → IsFailureAmong cs e
failure_among cs i c (unaccepted.Rejected number fault) inside is proved h =
    subst (λ n. IsFirstFault cs n fault) (sym h.0) (record {
      certificate = c;
      here = slice_get-get_or cs i c inside ∙ ap (λ (x : Certificate). Some x) (sym is);
      before = proved;
      has = h.1;
    })
failure_among cs i c unaccepted.NoMemory inside is proved h = tt

-- what holds of an error holds of the result that is this error
pub if_err : {E : Type 0} (P : E → Type 0) (r : Result (Unit {0}) E) (e : E) → r ≡ Err e → P e → IfErr r P
if_err {E = E} P r e is h = subst (λ (q : Result (Unit {0}) E). IfErr q P) (sym is) h

-- one more item of a front
pub All-more : {X : Type 0} (P : X → Type 0) (xs : List X) (i : ℕ) (x : X) → i < length xs → x ≡ get_or xs i x →
    All P (take i xs) → P x → All P (take (i + 1) xs)
All-more P xs i x inside is all h =
    rw (take_more xs i x inside) (All-push P (take i xs) (get_or xs i x) all (subst P is h))

-- a failure among certificates that is a rejection is the first fault
pub first_of : (cs : List Certificate) (e : Unaccepted) (number : ℕ) (fault : Fault) →
    e ≡ unaccepted.Rejected number fault →
    IsFailureAmong cs e → IsFirstFault cs number fault
first_of cs e number fault is h = subst (IsFailureAmong cs) is h
