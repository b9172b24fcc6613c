-- The problem of each number is within all limits, and has a sound transformer.
use Rattle.std.proofs.Common.{◌≡◌, ℕ, ◌+◌, ◌/◌, ◌%◌, ◌<◌, ◌≤◌, List, [], ◌∷◌, map}
use Rattle.std.proofs.Common.{refl, sym, subst, ap, ◌∙◌, arith, lit≤}
use Rattle.std.specs.List.{concat}
use Rattle.std.proofs.Math.Nat.{mod-lt}
use Rattle.std.proofs.lemmas.Bool.{and_from, eq-eqb}
use Rattle.std.proofs.lemmas.List.FromFn.{length-range_with_len}
use Rattle.am_bv.proofs.Laws.{fits-Field, fits-Node, nodes-Field, nodes-Node, val-Const, weight-Field}
use Rattle.am_bv.specs.Operators.{arity}
use Rattle.am_bv.specs.Terms.{binary, val, weight}
use Rattle.am_bv.specs.Words.{IsWidth}
use Rattle.am_bv.specs.declared.op.Op.{Op}
use Rattle.am_bv.specs.declared.term.Term.TheVariants.{Const, Field}
use Rattle.am_domain.specs.Question.{IsMember, IsSound}
use Rattle.am_problem.specs.Generator.{HasSound, argument_operator, field_operators, made_depth, made_kind}
use Rattle.am_problem.specs.Generator.{made_problem_of}
use Rattle.am_problem.specs.Generator.{made_operation, made_operations, made_operator, made_operators, made_width}
use Rattle.am_problem.specs.Kinds.{abstraction_of, fields_of}
use Rattle.am_problem.specs.Limits.{IsFormed, IsOperation, IsProblem}
use Rattle.am_problem.specs.Problem.{Problem, question_of}
use Rattle.am_problem.specs.lemmas.KindLaws.{laws_of}
use Rattle.am_problem.proofs.Fitting.{operations_give_words}
use Rattle.am_problem.proofs.Inputs.{members_are_words}
use Rattle.am_problem.proofs.Lists.{item_holds}
use Rattle.am_problem.proofs.MadeDomains.{IsHandled, made_kinds-handled, weight-binary}
use Rattle.am_problem.proofs.MadeRules.{PairOperator, weight_of-most}

-- ---- what a number chooses

made_width-width : (n : ℕ) → IsWidth (made_width n)
made_width-width n = let digit : n % 7 < 7 = mod-lt n (omega arith) in (omega arith, omega arith)

-- each operation of made problems has two arguments
pub made_operation-pair : (n : ℕ) → arity (made_operation n) ≡ 2
made_operation-pair n =
    item_holds (λ op. arity op ≡ 2) made_operations (n / 35 % 12) _ refl
    (refl, (refl, (refl, (refl, (refl, (refl, (refl, (refl, (refl, (refl, (refl, (refl, tt))))))))))))

abbrev made_pair : ℕ → PairOperator
made_pair s = record {
  op = made_operator s;
  pair =
      item_holds (λ op. arity op ≡ 2) made_operators (s % 8) _ refl
      (refl, (refl, (refl, (refl, (refl, (refl, (refl, (refl, tt))))))));
}

handled : (n : ℕ) →
    IsHandled (made_width n) (made_depth n) (field_operators (n / 840)) (argument_operator (n / 840)) (made_kind n)
handled n =
    let s = n / 840 in
    let digit : n / 420 % 2 < 2 = mod-lt (n / 420) (omega arith) in
    made_kinds-handled (made_width n) (made_width-width n) (n / 420 % 2) digit (made_pair s) (made_pair (s / 8 + 1))
    (made_pair (s / 64 + 3)) (made_pair (s / 512 + 5)) (n / 7 % 5)

-- ---- the operation

operation_fits : (w : ℕ) (op : Op) → arity op ≡ 2 → IsOperation w 2 (binary op (Field 0) (Field 1))
operation_fits w op pair = record {
  fit =
      let fields = and_from _ _ (fits-Field w 2 0) (and_from _ _ (fits-Field w 2 1) refl) in
      fits-Node w 2 op (Field 0 ∷ Field 1 ∷ []) ∙ and_from _ _ (eq-eqb 2 (arity op) (sym pair)) fields;
  small = simp (nodes-Node, nodes-Field) (lit≤ tt);
}

operation_light : (w : ℕ) → w ≤ 8 → (op : Op) → weight w (binary op (Field 0) (Field 1)) ≤ 288
operation_light w few op = simp (weight-binary, weight-Field) (omega (arith, weight_of-most w few op))

-- ---- the problem

-- the problem of each number is within all limits
pub made-problem : (n : ℕ) → IsProblem (made_problem_of n)
made-problem n =
    let width = made_width-width n in
    let kind = handled n in
    record {
      formed = record {
        width = width;
        some_input = lit≤ tt;
        few_inputs = lit≤ tt;
        operation = operation_fits (made_width n) (made_operation n) (made_operation-pair n);
        assume = tt;
        grammar = kind.small.grammar;
        leaves = kind.small.leaves;
        names = record {
          each = kind.named.counted ∙ sym kind.small.many;
          names = kind.named.names;
          once = kind.named.once;
        };
        start_per_field = length-range_with_len 0 (fields_of (made_kind n));
        turns = lit≤ tt;
        some_conflicts = lit≤ tt;
        few_conflicts = lit≤ tt;
      };
      slots = omega (arith, kind.small.slots);
      load =
          let operation = operation_light (made_width n) width.1 (made_operation n) in
          omega (arith, width.1, kind.small.block, kind.terms.valid, kind.terms.member, operation);
    }

-- ---- its sound transformer

constants_hold : (w : ℕ) (env words : List ℕ) → map (λ t. val w t env) (map Const words) ≡ words
constants_hold w env [] = refl
constants_hold w env (c ∷ words) =
    ap (λ v. v ∷ map (λ t. val w t env) (map Const words)) (val-Const w c env)
    ∙ ap (λ vs. c ∷ vs) (constants_hold w env words)

-- the words of the greatest abstract value are a sound transformer
top_sound : (p : Problem) → IsFormed p → IsSound (question_of p) (map Const ((abstraction_of p.kind).top p.width))
top_sound p formed inputs are words members assumed =
    let q = question_of p in
    let top = (abstraction_of p.kind).top p.width in
    let word = operations_give_words p formed words (members_are_words p inputs words are.counted members) in
    let covers = ((laws_of p.kind).has_top p.width formed.width).1 _ word in
    subst (λ a. IsMember q a (q.operation words)) (sym (constants_hold p.width (concat inputs) top)) covers

-- the problem of each number has a sound transformer
pub made-sound : (n : ℕ) → HasSound (made_problem_of n)
made-sound n = record {
  terms = map Const ((abstraction_of (made_kind n)).top (made_width n));
  derivable = (handled n).small.constants;
  sound = top_sound (made_problem_of n) (made-problem n).formed;
}
