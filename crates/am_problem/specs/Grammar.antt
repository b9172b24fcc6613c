-- The grammar of a problem's text, line by line.
use Rattle.std.specs.Prelude.{◌≡◌, ℕ, ◌-◌, ◌*◌, ◌<◌, Bool, false, ◌&&◌, ◌||◌, not, ◌==◌, nat_le, nat_lt, if◌then◌else◌}
use Rattle.std.specs.Prelude.{List}
use Rattle.std.specs.Prelude.{[], ◌∷◌, length, map, sum_by, Option, Result, Ok, Err, bytes_eq, codes, ◌⊎◌, IsTrue, find}
use Rattle.std.specs.List.{list_any}
use Rattle.std.proofs.Common.{inl, inr}
use Rattle.am_bv.specs.Operators.{arity}
use Rattle.am_bv.specs.declared.op.Op.{Op}
use Rattle.am_bv.specs.declared.term.Term.{Term}
use Rattle.am_problem.specs.declared.kind.Kind.{Kind}
use Rattle.am_syntax.specs.declared.refusal.Cause.{Cause}
use Rattle.am_syntax.specs.declared.refusal.Cause.TheVariants.{Syntax, Count, Twice}
use Rattle.am_syntax.specs.declared.limits.Letter.{Letter}
use Rattle.am_syntax.specs.declared.limits.Letter.TheVariants.{X, F}
use Rattle.am_syntax.specs.Spelling.{Scope}
use Rattle.am_problem.specs.Kinds.{all_kinds, fields_of, kind_name}
use Rattle.am_syntax.specs.Numerals.{is_name}
use Rattle.am_syntax.specs.Readers.{Word, Words}
use Rattle.am_syntax.specs.Pieces.{◌▹◌, Piece, choice, closed, closed_or, count, key, keyed, keyed_number, keyed_or}
use Rattle.am_syntax.specs.Pieces.{name_or, name_too_many, next_is, number, one_more, optional, repeat, seen_as, times}
use Rattle.am_syntax.specs.Pieces.{token, too_early, width}
use Rattle.am_syntax.specs.Names.{is_op_name, named, operator}
use Rattle.am_syntax.specs.Terms.{term_within}
use Rattle.am_problem.specs.Lines.{Budgets, Lines, Header, Production, Rule, leaf, node}

-- ---- amurth 1, width W, operation N TERM, and maybe assume TERM

-- where a term stands: the width, the letter of its variables, and how many of them there are
abbrev pub scope_at : ℕ → Letter → ℕ → Scope
scope_at w letter n = record { width = w; letter = letter; variables = n }

-- no more parentheses are open than there are nodes
abbrev pub small_term : Scope → Piece Term
small_term scope = term_within scope false 64 64

-- the parts of the first lines, in the order in which they are read
abbrev pub HeaderParts : Type 0
HeaderParts = ℕ × (ℕ × (ℕ × (Term × Option Term)))

-- the first lines of these parts
abbrev pub header_of : HeaderParts → Header
header_of (_, (w, (n, (t, a)))) = record { width = w; inputs = n; operation = t; assume = a }

-- the parts of the first lines
abbrev pub header_parts : Header → HeaderParts
header_parts h = (1, (h.width, (h.inputs, (h.operation, h.assume))))

-- the lines up to that of the assumption
unfoldable pub header : Piece Header
header = seen_as header_of header_parts (
    keyed_number (codes "amurth") 1 1 ▹ λ _.
    width ▹ λ w.
    keyed_number (codes "operation") 1 3 ▹ λ n.
    small_term (scope_at w X n) ▹ λ _.
    optional (codes "assume") (small_term (scope_at w X n)))

-- a name where this word would come too early
abbrev pub name_before : Word → Piece Word
name_before word = name_or (too_early word)

-- ---- domain NAME

-- the domain of this name
unfoldable pub kind_named : Word → Option Kind
kind_named word = find (λ kind. bytes_eq (kind_name kind) word) all_kinds

-- a domain's name, or why another word is refused
abbrev pub domain_judge : Word → Result Kind Cause
domain_judge v = named (kind_named v) v

-- the name of a domain
unfoldable pub domain : Piece Kind
domain = token domain_judge kind_name (λ _. Unit {0})

-- domain and its name
abbrev pub keyed_domain : Piece Kind
keyed_domain = keyed (codes "domain") domain

-- ---- start NONTERMINAL { NONTERMINAL }

-- a nonterminal for each field of the result
unfoldable pub starts : ℕ → Piece (List Word)
starts k = keyed (codes "start") (times (λ _. name_before (codes "depth")) k)

-- ---- depth D, turns T, conflicts C

-- what may be spent, of its parts
abbrev pub budgets_of : ℕ × (ℕ × ℕ) → Budgets
budgets_of (d, (t, c)) = record { depth = d; turns = t; conflicts = c }

-- the parts of what may be spent
abbrev pub budgets_parts : Budgets → ℕ × (ℕ × ℕ)
budgets_parts b = (b.depth, (b.turns, b.conflicts))

-- the lines of the depth, of the turns and of the conflicts
unfoldable pub budgets : Piece Budgets
budgets = seen_as budgets_of budgets_parts (
    keyed_or name_too_many (codes "depth") (number 1 5) ▹ λ _.
    keyed_number (codes "turns") 0 4096 ▹ λ _.
    keyed_number (codes "conflicts") 1 1000000)

-- ---- rule NONTERMINAL { PRODUCTION }

-- the parenthesis of a production, of so many more at most
abbrev pub opening : ℕ → Piece (Unit {0})
opening room = one_more (nat_lt 0 room) (key (codes "("))

-- an operator, as many nonterminals as its arity, and a parenthesis
unfoldable pub node_production : ℕ → Piece (Unit {0} × (Op × List Word))
node_production room =
    opening room ▹ λ _. operator ▹ λ op. closed_or count (codes ")") (times (λ _. name_before (codes ")")) (arity op))

-- a leaf, which no node is left for where no production is
abbrev pub leaf_production : Scope → ℕ → Piece Term
leaf_production scope room = term_within scope false 64 (if room == 0 then 0 else 64)

-- whether an operator and a nonterminal come
abbrev pub opens_names : Words → Bool
opens_names [] = false
opens_names (a ∷ []) = false
opens_names (a ∷ b ∷ []) = false
opens_names (a ∷ b ∷ c ∷ vs) = bytes_eq a (codes "(") && is_op_name b && is_name c

-- a production of its parts: an operator at nonterminals, or a leaf
abbrev pub production_of : (Unit {0} × (Op × List Word)) ⊎ Term → Production
production_of (inl x) = node x.1.0 x.1.1
production_of (inr t) = leaf t

-- the parts of a production
abbrev pub production_parts : Production → (Unit {0} × (Op × List Word)) ⊎ Term
production_parts (leaf t) = inr t
production_parts (node op names) = inl (tt, (op, names))

-- a production, of so many more at most
unfoldable pub production : Scope → ℕ → Piece Production
production scope room =
    seen_as production_of production_parts (choice opens_names (node_production room) (leaf_production scope room))

-- whether a name is one of these
abbrev pub has_name : List Word → Word → Bool
has_name names name = list_any (bytes_eq name) names

-- the names of rules
abbrev pub names_of : List Rule → List Word
names_of rules = map (λ (r : Rule). r.name) rules

-- the name of a further rule: a word that is no name is wrong, one name too many counts before one used twice
abbrev pub rule_name_judge : List Rule → Word → Result Word Cause
rule_name_judge seen v =
    if is_name v then (if nat_le 16 (length seen) then Err Count else if has_name (names_of seen) v then Err
    Twice else Ok v) else Err Syntax

-- the name of a rule after other rules
unfoldable pub rule_name : List Rule → Piece Word
rule_name seen =
    token (rule_name_judge seen) (λ v. v) (λ v. IsTrue (is_name v) × (length seen < 16) ×
    (has_name (names_of seen) v ≡ false))

-- how many productions rules have together
abbrev pub productions_of_rules : List Rule → ℕ
productions_of_rules rules = sum_by (λ (r : Rule). length r.productions) rules

-- whether a production comes
abbrev pub goes_on : Words → Bool
goes_on [] = false
goes_on (v ∷ vs) = not (bytes_eq v (codes "rule") || bytes_eq v (codes "end"))

-- the productions of a rule, of so many at most
unfoldable pub productions : Scope → ℕ → Piece (List Production)
productions scope room = repeat goes_on (λ before. production scope (room - length before))

-- a rule of its name and its productions
abbrev pub rule_of : Word × List Production → Rule
rule_of (name, ps) = record { name = name; productions = ps }

-- the name and the productions of a rule
abbrev pub rule_parts : Rule → Word × List Production
rule_parts r = (r.name, r.productions)

-- a rule after other rules, of at most 64 productions all together
unfoldable pub rule : Scope → List Rule → Piece Rule
rule scope seen =
    seen_as rule_of rule_parts (keyed (codes "rule")
    (rule_name seen ▹ λ _. productions scope (64 - productions_of_rules seen)))

-- all rules, as long as one comes
unfoldable pub rules : Scope → Piece (List Rule)
rules scope = repeat (next_is (codes "rule")) (rule scope)

-- ---- the whole

abbrev pub LinesParts : Type 0
LinesParts = Header × (Kind × (List Word × (Budgets × List Rule)))

-- the lines of these parts
abbrev pub lines_of : LinesParts → Lines
lines_of (h, (k, (s, (b, r)))) = record { header = h; kind = k; starts = s; budgets = b; rules = r }

-- the parts of lines, in the order in which they are read
abbrev pub lines_parts : Lines → LinesParts
lines_parts d = (d.header, (d.kind, (d.starts, (d.budgets, d.rules))))

-- a problem, up to its end
unfoldable pub problem : Piece Lines
problem = seen_as lines_of lines_parts (
    header ▹ λ h.
    keyed_domain ▹ λ k.
    starts (fields_of k) ▹ λ _.
    budgets ▹ λ _.
    closed (codes "end") (rules (scope_at h.width F (h.inputs * fields_of k))))
