-- Which problems are small enough to go through all their transformers and inputs.
use Rattle.std.specs.Prelude.{◌≡◌, ℕ, ◌-◌, ◌*◌, ◌^◌, ◌<◌, ◌≤◌, min}
use Rattle.am_syntax.specs.declared.refusal.Refusal.{Refusal}
use Rattle.am_syntax.specs.declared.refusal.Refusal.TheVariants.{BadByte, Syntax, Number, Name, Count, Twice}
use Rattle.am_syntax.specs.declared.refusal.Refusal.TheVariants.{Undefined, Slots, Load, Mismatch, Long, Wide, Many}
use Rattle.am_problem.specs.Kinds.{fields_of}
use Rattle.am_problem.specs.Problem.{Problem}
use Rattle.am_tree.specs.Counts.{tuple_count}

-- how many bits the fields of all inputs have
abbrev pub input_bits : Problem → ℕ
input_bits p = p.width * p.inputs * fields_of p.kind

-- how many tuples of trees there are
abbrev pub tuples : Problem → ℕ
tuples p = tuple_count p.rules p.starts p.depth

-- the inputs have at most 16 bits, and there are at most 4096 tuples of trees
pub record IsSmallProblem (p : Problem) : Type 0 where
  pub bits : input_bits p ≤ 16
  pub choices : tuples p ≤ 4096

-- the bits of the inputs are too many, or else the tuples of trees are; of these no more than 2^64 - 1 are told
abbrev pub IsTooGreat : Problem → Refusal → Type 0
IsTooGreat p (Wide bits) = (16 < input_bits p) × (bits ≡ input_bits p)
IsTooGreat p (Many count) =
    (input_bits p ≤ 16) × (4096 < tuples p) × (count ≡ min (tuples p) (2 ^ 64 - 1))
IsTooGreat p (BadByte at) = ⊥
IsTooGreat p (Syntax at) = ⊥
IsTooGreat p (Number at) = ⊥
IsTooGreat p (Name at) = ⊥
IsTooGreat p (Count at) = ⊥
IsTooGreat p (Twice at) = ⊥
IsTooGreat p (Undefined at) = ⊥
IsTooGreat p (Slots n) = ⊥
IsTooGreat p (Load n) = ⊥
IsTooGreat p (Mismatch i) = ⊥
IsTooGreat p Long = ⊥
