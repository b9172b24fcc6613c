-- What may stand after a problem is what an answer with chains or with hints says.
use Rattle.std.proofs.Common.{◌≡◌, ℕ, ◌^◌, ◌<◌, ◌≤◌, Bool, true, false, List, [], ◌∷◌, codes, length, arith}
use Rattle.std.specs.Prelude.{◌⊎◌}
use Rattle.std.proofs.lemmas.Bool.{both_ways}
use Rattle.std.proofs.lemmas.List.Elements.{All-nil}
use Rattle.am_chain.specs.declared.chain.Chain.{Chain}
use Rattle.am_hint.specs.declared.hint.Hint.{Hint}
use Rattle.am_query.specs.declared.outcome.Outcome.{Outcome}
use Rattle.am_query.specs.declared.outcome.Outcome.TheVariants.{Absent, Best, Conflicts, Turns}
use Rattle.am_syntax.specs.Pieces.{Piece, choice, keyed, next_is, number, spelled_from}
use Rattle.am_syntax.specs.Readers.{Word}
use Rattle.am_cert.specs.Certificate.{AreBounded, AreCertificateNumbers, AreHints, AreHintsOf, AreProofsOf, IsBounded}
use Rattle.am_cert.specs.Certificate.{IsHint}
use Rattle.am_cert.specs.Grammar.{HintedBest, HintedNone, ProblemShape, answer, best, chained_part, code, good_where}
use Rattle.am_cert.specs.Grammar.{hint}
use Rattle.am_cert.specs.Grammar.{hinted_best, hinted_none, hinted_part, hints, log, none, numbers, outcome}
use Rattle.am_cert.specs.Grammar.{result_term, spelled_where, turns}
use Rattle.am_cert.specs.Versions.{has_hints}
use Rattle.am_cert.specs.declared.answer.Answer.{Answer}
use Rattle.am_cert.specs.declared.answer.Proofs.{Proofs}
use Rattle.am_cert.specs.declared.answer.Proofs.TheVariants.{Chains, Hinted}
use Rattle.am_cert.specs.declared.version.Version.{Version}
use Rattle.am_cert.proofs.Bounds.{bytes, four_bytes, hints_bounded, outcome_bounded, two_bytes}
use Rattle.am_cert.proofs.Items.{good_from_all}

-- an outcome, and what shows it, that may stand after a problem of this shape
pub record Stands (v : Version) (s : ProblemShape) (o : Outcome) (shown : Proofs) : Type 0 where
  pub good : (outcome s).Good o
  pub bounded : AreBounded o
  pub proofs : AreProofsOf v o shown

none_bounded : IsBounded []
none_bounded = record { chains = omega arith; steps = All-nil (λ (c : Chain). length c.steps < 2 ^ 30) }

-- ---- from the answer

module _ (v : Version) (s : ProblemShape) where
  abbrev hinted : Piece (HintedBest ⊎ HintedNone)
  hinted = choice (next_is (codes "best")) (hinted_best s) (hinted_none s)

  chained_stands : (o : Outcome) (proofs : Proofs) → has_hints v ≡ false →
      good_where (outcome s) (chained_part o proofs) →
      bytes (spelled_where (outcome s) (chained_part o proofs)) ≤ 2 ^ 32 → Stands v s o proofs
  chained_stands o Chains is good short =
      record { good = good; bounded = outcome_bounded s o short; proofs = is }
  chained_stands o (Hinted first second) is good short = absurd good

  hinted_stands : (o : Outcome) (proofs : Proofs) → has_hints v ≡ true → good_where hinted (hinted_part o proofs) →
      bytes (spelled_where hinted (hinted_part o proofs)) ≤ 2 ^ 32 → Stands v s o proofs
  unfolding outcome best none log hinted_best hinted_none
  hinted_stands (Best t trace [] []) (Hinted first second) is good short =
      let lines = spelled_from (λ _. keyed (codes "term") (result_term s)) [] t in
      let own = (turns s s.turns).spell trace in
      let sound = (hints (codes "sound")).spell first in
      let closest = (hints (codes "best")).spell second in
      let all = four_bytes (codes "best") lines own sound closest in
      let one = hints_bounded (codes "sound") first good.1.1.0 (omega (arith, short, all)) in
      let two = hints_bounded (codes "best") second good.1.1.1 (omega (arith, short, all)) in
      record {
        good = (good.0, (good.1.0, (tt, tt)));
        bounded = (none_bounded, none_bounded);
        proofs = (is, (one, two));
      }
  hinted_stands (Absent trace []) (Hinted first []) is good short =
      let own = (turns s s.turns).spell trace in
      let fit = (hints (codes "fit")).spell first in
      let all = two_bytes (codes "none") own fit in
      record {
        good = (good.0, tt);
        bounded = none_bounded;
        proofs = (is, hints_bounded (codes "fit") first good.1 (omega (arith, short, all)));
      }
  hinted_stands (Best t trace [] []) Chains is good short = absurd good
  hinted_stands (Best t trace [] (c ∷ best_log)) proofs is good short = absurd good
  hinted_stands (Best t trace (c ∷ sound_log) best_log) proofs is good short = absurd good
  hinted_stands (Absent trace []) (Hinted first (h ∷ second)) is good short = absurd good
  hinted_stands (Absent trace []) Chains is good short = absurd good
  hinted_stands (Absent trace (c ∷ chains)) proofs is good short = absurd good
  hinted_stands (Turns trace) proofs is good short = absurd good
  hinted_stands (Conflicts trace asked chains) proofs is good short = absurd good

  -- a good answer of few bytes may stand after the problem
  pub answer_stands : (by_hints : Bool) → has_hints v ≡ by_hints → (a : Answer) → (answer by_hints s).Good a →
      bytes ((answer by_hints s).spell a) ≤ 2 ^ 32 → Stands v s a.outcome a.proofs
  unfolding answer
  answer_stands true is a good short = hinted_stands a.outcome a.proofs is good short
  answer_stands false is a good short = chained_stands a.outcome a.proofs is good short

-- ---- to the answer

-- a number of 32 bits is a code
pub good_code : (n : ℕ) → n < 2 ^ 32 → code.Good n
unfolding number
good_code n below = (omega arith, omega (arith, below))

good_numbers : (ns : List ℕ) → AreCertificateNumbers ns → numbers.Good ns
good_numbers ns are = good_from_all (λ _. code) (λ n. n < 2 ^ 32) (λ _ n h. good_code n h) [] ns are.small

good_hint : (h : Hint) → IsHint h → hint.Good h
unfolding hint
good_hint h is = (good_numbers h.clause is.codes, good_numbers h.by is.places)

good_hints : (name : Word) (hs : List Hint) → AreHints hs → (hints name).Good hs
unfolding hints
good_hints name hs are = good_from_all (λ _. hint) IsHint (λ _ h is. good_hint h is) [] hs are.each

module _ (s : ProblemShape) where
  hinted_good : (o : Outcome) (first second : List Hint) → (outcome s).Good o → AreHintsOf o first second →
      (answer true s).Good (record { outcome = o; proofs = Hinted first second })
  unfolding answer outcome best none hinted_best hinted_none
  hinted_good (Best t trace [] []) first second good are =
      (good.0, (good.1.0, (good_hints (codes "sound") first are.0, good_hints (codes "best") second are.1)))
  hinted_good (Absent trace []) first [] good are = (good.0, good_hints (codes "fit") first are)
  hinted_good (Best t trace [] (c ∷ best_log)) first second good are = absurd are
  hinted_good (Best t trace (c ∷ sound_log) best_log) first second good are = absurd are
  hinted_good (Absent trace []) first (h ∷ second) good are = absurd are
  hinted_good (Absent trace (c ∷ chains)) first second good are = absurd are
  hinted_good (Turns trace) first second good are = absurd are
  hinted_good (Conflicts trace asked chains) first second good are = absurd are

  -- what may stand after a problem is a good answer
  pub good_answer : (v : Version) (by_hints : Bool) → has_hints v ≡ by_hints → (o : Outcome) (proofs : Proofs) →
      (outcome s).Good o → AreProofsOf v o proofs → (answer by_hints s).Good (record { outcome = o; proofs = proofs })
  unfolding answer
  good_answer v false is o Chains good are = good
  good_answer v true is o Chains good are = absurd (both_ways (has_hints v) are is)
  good_answer v true is o (Hinted first second) good are = hinted_good o first second good are.1
  good_answer v false is o (Hinted first second) good are = absurd (both_ways (has_hints v) is are.0)
