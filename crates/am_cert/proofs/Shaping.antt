-- The problem that a draft settles to says of rows what its lines say.
use Rattle.std.proofs.Common.{◌≡◌, ℕ, ◌≤◌, Bool, true, false, cond, length, nat_lt, Option, Some, None, Ok, Err, ap}
use Rattle.std.proofs.Common.{◌∙◌, arith, length-drop}
use Rattle.am_problem.specs.Limits.{slots_of}
use Rattle.am_problem.specs.Lines.{Lines}
use Rattle.am_problem.specs.Loads.{load_of}
use Rattle.am_problem.specs.Problem.{Problem}
use Rattle.am_problem.specs.Texts.{Draft, named, numbered, settled, settled_by}
use Rattle.am_problem.specs.declared.limits.TheConstants.{MOST_LOAD, MOST_SLOTS}
use Rattle.am_syntax.specs.declared.refusal.Refusal.{Refusal}
use Rattle.am_text.specs.Tokens.{Left}
use Rattle.am_syntax.specs.Readers.{Reached}
use Rattle.am_cert.specs.Grammar.{ProblemShape, shape_of}

-- ---- shapes

pub same_shape : (a b : ProblemShape) → a.width ≡ b.width → a.inputs ≡ b.inputs → a.fields ≡ b.fields → a.turns ≡
    b.turns →
    a ≡ b
same_shape a b w i f t =
    let at : ℕ → ℕ → ℕ → ℕ → ProblemShape = λ w i f t. record { width = w; inputs = i; fields = f; turns = t } in
    ap (λ n. at n a.inputs a.fields a.turns) w
    ∙ ap (λ n. at b.width n a.fields a.turns) i
    ∙ ap (λ n. at b.width b.inputs n a.turns) f
    ∙ ap (λ n. at b.width b.inputs b.fields n) t

-- a problem that passes two tests is the one that was tested
passed : (p q : Problem) (many heavy : Bool) (a b : Refusal) →
    cond many (Err a) (cond heavy (Err b) (Ok p)) ≡ Ok q → p ≡ q
passed p q true heavy a b e = absurd cc
passed p q false true a b e = absurd cc
passed p q false false a b e = cc

settled_lines : (l : Lines) (p : Problem) (place : Option ℕ) → settled_by l place ≡ Ok p →
    shape_of l ≡ shape_of (named p)
settled_lines l p (Some place) e = absurd cc
settled_lines l p None e =
    ap (λ (q : Problem). shape_of (named q))
    (passed (numbered l) p (nat_lt MOST_SLOTS (slots_of (numbered l))) (nat_lt MOST_LOAD (load_of (numbered l))) _ _ e)

-- the problem has the shape of its draft
pub settled_shape : (d : Draft) (p : Problem) → settled d ≡ Ok p → shape_of d.lines ≡ shape_of (named p)
settled_shape d p e = settled_lines d.lines p d.undefined e

-- ---- tokens

-- what was reached has no more tokens
pub reached_length : (s t : Left) → Reached s t → length t.tokens ≤ length s.tokens
reached_length s t to = omega (arith, ap length to.rest, length-drop to.taken s.tokens)
