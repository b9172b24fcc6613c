-- The lines of a problem are spelled as they are read, and read as they are spelled.
use Rattle.std.proofs.Common.{◌≡◌, ℕ, ◌*◌, ◌<◌, ◌≤◌, ◌^◌, false, codes, ap, refl, arith, lit<}
use Rattle.std.proofs.Math.Nat.{mul-le-mul}
use Rattle.am_problem.specs.declared.kind.Kind.{Kind}
use Rattle.am_syntax.specs.declared.limits.Letter.TheVariants.{X, F}
use Rattle.am_problem.specs.Kinds.{fields_of}
use Rattle.am_problem.specs.lemmas.KindLaws.{laws_of}
use Rattle.am_syntax.specs.Spelling.{IsScope}
use Rattle.am_syntax.specs.Pieces.{name_too_many, number, syntax, too_early}
use Rattle.am_problem.specs.Lines.{Header}
use Rattle.am_problem.specs.Grammar.{HeaderParts, budgets, budgets_of, budgets_parts, lines_of, lines_parts, header}
use Rattle.am_problem.specs.Grammar.{header_of, header_parts, problem, scope_at, starts}
use Rattle.am_problem.proofs.KindLaws.{domain_law}
use Rattle.am_syntax.proofs.Laws.{times_law}
use Rattle.am_syntax.specs.Exact.{IsExact, WithoutKey, always}
use Rattle.am_syntax.proofs.Laws.{closed_law, keyed_law, optional_law, seen_law, then_law}
use Rattle.am_problem.proofs.ProblemLaws.{rules_law}
use Rattle.am_syntax.proofs.Laws.{term_within_law, name_law, number_law}

-- ---- the lines

-- a term over the words of inputs has a width and few variables
pub input_scope : (w n : ℕ) → w ≤ 8 → n ≤ 3 → IsScope (scope_at w X n)
input_scope w n narrow few = record { width = narrow; variables = omega arith }

header_there : (x : HeaderParts) → (1 ≤ x.0) × (x.0 ≤ 1) → header_parts (header_of x) ≡ x
header_there x one = ap (λ (n : ℕ). (n, x.1)) (let e : 1 ≡ x.0 = omega (arith, one) in e)

-- the lines up to that of the assumption are read exactly as they are spelled, where no other `assume` follows
pub header_law : IsExact header (WithoutKey (codes "assume") always)
unfolding header number
header_law =
    seen_law header_of header_parts
    (then_law (keyed_law syntax (codes "amurth") (number_law 1 1 (lit< tt))) (λ _ _.
    then_law (keyed_law syntax (codes "width") (number_law 2 8 (lit< tt))) (λ w narrow.
    then_law (keyed_law syntax (codes "operation") (number_law 1 3 (lit< tt))) (λ n few.
    then_law (term_within_law (scope_at w X n) (input_scope w n narrow.1 few.1) false 64 64) (λ _ _.
    optional_law (codes "assume") (term_within_law (scope_at w X n) (input_scope w n narrow.1 few.1) false 64 64))
    (λ _ _ _ _ _ _. tt)) (λ _ _ _ _ _ _. tt)) (λ _ _ _ _ _ _. tt)) (λ _ _ _ _ _ _. tt))
    (λ x good. header_there x good.0) (λ h. refl)

-- so is the line of the starts
pub starts_law : (k : ℕ) → IsExact (starts k) always
unfolding starts
starts_law k =
    keyed_law syntax (codes "start") (times_law (λ seen. name_law (too_early (codes "depth"))) (λ _ _ _ _. tt) k)

-- so are the lines of what may be spent
pub budgets_law : IsExact budgets always
unfolding budgets
budgets_law =
    seen_law budgets_of budgets_parts
    (then_law (keyed_law name_too_many (codes "depth") (number_law 1 5 (lit< tt))) (λ _ _.
    then_law (keyed_law syntax (codes "turns") (number_law 0 4096 (lit< tt))) (λ _ _.
    keyed_law syntax (codes "conflicts") (number_law 1 1000000 (lit< tt)))
    (λ _ _ _ _ _ _. tt)) (λ _ _ _ _ _ _. tt))
    (λ x good. refl) (λ b. refl)

field_count : (n : ℕ) (k : Kind) → n ≤ 3 → n * fields_of k < 2 ^ 64
field_count n k h = let most : n * fields_of k ≤ 3 * 4 = mul-le-mul h (laws_of k).few_fields in omega (arith, most)

-- a term over the fields of inputs has a width and few variables
pub field_scope : (h : Header) (k : Kind) → header.Good h → IsScope (scope_at h.width F (h.inputs * fields_of k))
unfolding header number
field_scope h k good = record { width = good.1.0.1; variables = field_count h.inputs k good.1.1.0.1 }

-- all lines are read exactly as they are spelled
pub problem_law : IsExact problem always
unfolding problem
problem_law =
    seen_law lines_of lines_parts
    (then_law header_law (λ h good.
    then_law (keyed_law syntax (codes "domain") domain_law) (λ k _.
    then_law (starts_law (fields_of k)) (λ _ _.
    then_law budgets_law (λ _ _.
    closed_law syntax (codes "end")
    (rules_law (scope_at h.width F (h.inputs * fields_of k)) (field_scope h k good)) (λ rest. refl))
    (λ _ _ _ _ _ _. tt)) (λ _ _ _ _ _ _. tt)) (λ _ _ _ _ _ _. tt)) (λ _ _ _ _ _ _. (tt, refl)))
    (λ x good. refl) (λ d. refl)
