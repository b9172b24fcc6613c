-- The operations of accepted certificates that fit into a flow can be run with it, and cover its runs.
use Rattle.std.proofs.Common.{◌≡◌, ℕ, true, List, [], ◌∷◌, ◌++◌, Option, Some, None, get_or, length, map, ap, sym}
use Rattle.std.proofs.Common.{subst, refl, ◌∙◌}
use Rattle.std.specs.Prelude.{All, IsTrue, slice_get}
use Rattle.std.specs.Option.{option_map}
use Rattle.std.proofs.lemmas.List.{length-map}
use Rattle.std.proofs.lemmas.List.Elements.{All-cons, All-nil}
use Rattle.std.proofs.lemmas.Option.{get_or_from_slice_get, slice_get-get_or, slice_get-map, slice_get_within}
use Rattle.am_bv.specs.Terms.{fits}
use Rattle.am_bv.specs.declared.term.Term.{Term}
use Rattle.am_chain.specs.declared.chain.Chain.{Chain}
use Rattle.am_cert.specs.Certificate.{Certificate, IsCertificate}
use Rattle.am_cert.specs.Grammar.{best, outcome, result_term, shape_of}
use Rattle.am_domain.specs.Question.{IsSound}
use Rattle.am_flow.specs.Flows.{AllFit, AreOperations, Fits, Flow, IsFlow, IsFlowOperation, Operation, signature_of}
use Rattle.am_flow.specs.Runs.{AllSound}
use Rattle.am_problem.specs.Examples.{IsTransformer, all_fields}
use Rattle.am_problem.specs.Problem.{Problem, question_of}
use Rattle.am_problem.specs.Texts.{named}
use Rattle.am_query.specs.AcceptanceLaws.{IsRight}
use Rattle.am_query.specs.declared.outcome.Outcome.{Outcome}
use Rattle.am_query.specs.declared.outcome.Outcome.TheVariants.{Absent, Best, Conflicts, Turns}
use Rattle.am_query.specs.declared.turn.Turn.{Turn}
use Rattle.am_syntax.specs.Pieces.{good_from}
use Rattle.amurth.specs.Analysed.{best_terms, is_best, operation, signature}
use Rattle.amurth.specs.Checked.{IsProved}

-- ---- terms

terms_fit : (p : Problem) (seen ts : List Term) → good_from (λ _. result_term (shape_of (named p))) seen ts →
    All (λ t. IsTrue (fits p.width (all_fields p) t)) ts
terms_fit p seen [] good = All-nil (λ t. IsTrue (fits p.width (all_fields p) t))
terms_fit p seen (t ∷ ts) good =
    All-cons (λ t. IsTrue (fits p.width (all_fields p) t)) t ts good.0.fit (terms_fit p (seen ++ t ∷ []) ts good.1)

best_fits : (p : Problem) (t : List Term) (trace : List Turn) (sound_log best_log : List Chain) →
    (outcome (shape_of (named p))).Good (Best t trace sound_log best_log) → IsTransformer p t
unfolding outcome best
best_fits p t trace sound_log best_log good =
    record { counted = good.0.0; fit = terms_fit p [] t good.0.1 }

transformer_of : (p : Problem) (o : Outcome) → is_best o ≡ true → (outcome (shape_of (named p))).Good o →
    IsTransformer p (best_terms o)
transformer_of p (Best t trace sound_log best_log) is good = best_fits p t trace sound_log best_log good
transformer_of p (Absent trace log) is good = absurd cc
transformer_of p (Turns trace) is good = absurd cc
transformer_of p (Conflicts trace asked log) is good = absurd cc

sound_of : (p : Problem) (o : Outcome) → is_best o ≡ true → IsRight p o → IsSound (question_of p) (best_terms o)
sound_of p (Best t trace sound_log best_log) is right = right.sound
sound_of p (Absent trace log) is right = absurd cc
sound_of p (Turns trace) is right = absurd cc
sound_of p (Conflicts trace asked log) is right = absurd cc

-- ---- operations

all_here : {X : Type 0} (P : X → Type 0) (xs : List X) (i : ℕ) (x : X) → slice_get xs i ≡ Some x → All P xs → P x
all_here P xs i x e all = subst P (get_or_from_slice_get xs i x x e) (all i x (slice_get_within xs i x e))

-- the certificate of an operation
record IsOf (cs : List Certificate) (i : ℕ) (o : Operation) : Type 0 where
  certificate : Certificate
  here : slice_get cs i ≡ Some certificate
  is : operation certificate ≡ o

certificate_at_from : (cs : List Certificate) (i : ℕ) (found : Option Certificate) (o : Operation) →
    slice_get cs i ≡ found → option_map operation found ≡ Some o → IsOf cs i o
certificate_at_from cs i (Some c) o here e = record { certificate = c; here = here; is = cc }
certificate_at_from cs i None o here e = absurd (let f : ◌≡◌ {A = Option Operation} None (Some o) = e in cc)

certificate_at : (cs : List Certificate) (i : ℕ) (o : Operation) → slice_get (map operation cs) i ≡ Some o → IsOf cs i o
certificate_at cs i o e = certificate_at_from cs i (slice_get cs i) o refl (sym (slice_get-map operation cs i) ∙ e)

signature_at : (cs : List Certificate) (i : ℕ) (c : Certificate) → slice_get cs i ≡ Some c →
    slice_get (map signature cs) i ≡ Some (signature c)
signature_at cs i c e = slice_get-map signature cs i ∙ ap (option_map signature) e

module _ (f : Flow) (cs : List Certificate) (fit : AllFit f (map signature cs)) where
  -- each certificate that fits has a best transformer
  best_at : (i : ℕ) (c : Certificate) → slice_get cs i ≡ Some c → is_best c.outcome ≡ true
  best_at i c e = (fit i (signature c) (signature_at cs i c e)).best

  fits_at : (i : ℕ) (c : Certificate) → slice_get cs i ≡ Some c → Fits f i (signature_of (operation c))
  fits_at i c e =
      let own = fit i (signature c) (signature_at cs i c e) in
      record { best = refl; width = own.width; kind = own.kind; inputs = own.inputs }

  -- the operations of certificates that fit can be run with the flow
  pub are_operations : IsFlow (length cs) f → All IsCertificate cs → AreOperations f (map operation cs)
  are_operations is limits = record {
    flow = subst (λ n. IsFlow n f) (sym (length-map cs operation)) is;
    each = λ i o e.
        let of = certificate_at cs i o e in
        let c = of.certificate in
        let good = all_here IsCertificate cs i c of.here limits in
        subst (IsFlowOperation f i) of.is (record {
          fits = fits_at i c of.here;
          problem = good.problem;
          transformer = transformer_of c.problem c.outcome (best_at i c of.here) good.outcome;
        });
  }

  -- the operations of proved certificates are sound
  pub are_sound : All IsProved cs → AllSound (map operation cs)
  are_sound proved i o e =
      let of = certificate_at cs i o e in
      let c = of.certificate in
      subst (λ (o : Operation). IsSound (question_of o.problem) o.terms) of.is
      (sound_of c.problem c.outcome (best_at i c of.here) (all_here IsProved cs i c of.here proved).right)

  -- each certificate has a best transformer
  pub all_best : All (λ c. is_best c.outcome ≡ true) cs
  all_best i d inside = best_at i (get_or cs i d) (slice_get-get_or cs i d inside)
