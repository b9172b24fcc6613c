-- How a term is read. Refusals are born in its judges.
use Rattle.std.specs.Prelude.{ℕ, zero, suc, ◌-◌, ◌^◌, Bool, true, false, ◌&&◌, ◌||◌, ◌==◌, nat_lt, if◌then◌else◌, List}
use Rattle.std.specs.Prelude.{[], ◌∷◌, Option, Some, None, Result, Ok, Err, bytes_eq, codes, sum_by}
use Rattle.am_bv.specs.Operators.{arity}
use Rattle.am_bv.specs.Terms.{nodes}
use Rattle.am_bv.specs.declared.term.Term.{Term}
use Rattle.am_bv.specs.declared.term.Term.TheVariants.{Const, Field, Node}
use Rattle.am_syntax.specs.declared.limits.TermLimits.{TermLimits}
use Rattle.am_syntax.specs.declared.refusal.Cause.{Cause}
use Rattle.am_syntax.specs.declared.refusal.Cause.TheVariants.{Syntax, Number, Name, Count}
use Rattle.am_syntax.specs.Numerals.{is_canonical, is_capital, is_digits, is_numeral, number_of}
use Rattle.am_syntax.specs.Spelling.{IsTermWithin, Scope, letter_code, scope_of, term_words}
use Rattle.am_syntax.specs.Readers.{◌>>=◌, Reader, Word, done, judged}
use Rattle.am_syntax.specs.Pieces.{Piece, closing, times_from}
use Rattle.am_syntax.specs.Names.{operator}

-- a constant below 2 ^ w, of a row of digits
abbrev pub constant_judge : ℕ → Word → Result Term Cause
constant_judge w v = if is_canonical v && nat_lt (number_of v) (2 ^ w) then Ok (Const (number_of v)) else Err Number

-- a variable that stands here
abbrev pub variable_judge : Scope → Word → Result Term Cause
variable_judge scope [] = Err Name
variable_judge scope (b ∷ bs) =
    if b == letter_code scope.letter && is_numeral bs && nat_lt (number_of bs) scope.variables
    then Ok (Field (number_of bs))
    else Err Name

-- whether the word begins with a capital letter
abbrev pub begins_capital : Word → Bool
begins_capital [] = false
begins_capital (b ∷ bs) = is_capital b

-- a constant or a variable
abbrev pub leaf_judge : Scope → Word → Result Term Cause
leaf_judge scope v =
    if is_digits v then constant_judge scope.width v else
    if begins_capital v then Err Syntax else
    variable_judge scope v

-- a leaf is a node too
abbrev pub within : ℕ → Result Term Cause → Result (Option Term) Cause
within room (Ok t) = if room == 0 then Err Count else Ok (Some t)
within room (Err cause) = Err cause

-- the first token of a term: a leaf, or None where an operator comes. In an argument a closing parenthesis is early
abbrev pub head_judge : Scope → Bool → ℕ → ℕ → Word → Result (Option Term) Cause
head_judge scope inside depth room v =
    if bytes_eq v (codes "(") then (if room == 0 || depth == 0 then Err Count else Ok None) else
    if bytes_eq v (codes ")") then Err (if inside then Count else Syntax) else
    within room (leaf_judge scope v)

-- what follows the first token, where the arguments are read so
abbrev pub node_by : (List Term → Reader Term) → Option Term → Reader Term
node_by argument (Some t) = done t
node_by argument None =
    operator.read >>= λ op.
    times_from argument (arity op) [] >>= λ args.
    closing.read >>= λ _.
    done (Node op args)

-- a term of so many nodes, and parentheses in one another, at most
unfoldable pub term_at : Scope → Bool → ℕ → ℕ → Reader Term
term_at scope inside zero room = judged (head_judge scope inside 0 room) >>= node_by (λ _. judged (λ _. Err Count))
term_at scope inside (suc depth) room =
    judged (head_judge scope inside (suc depth) room) >>=
    node_by (λ seen. term_at scope true depth (room - 1 - sum_by nodes seen))

-- a term, or an argument inside one
abbrev pub term_within : Scope → Bool → ℕ → ℕ → Piece Term
term_within scope inside depth room = record {
  spell = term_words (letter_code scope.letter);
  Good = IsTermWithin scope depth room;
  read = term_at scope inside depth room;
}

-- a term at this width, within these limits
abbrev pub term : ℕ → TermLimits → Piece Term
term w limits = term_within (scope_of w limits) false limits.nesting limits.nodes
