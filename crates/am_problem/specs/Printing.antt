-- The canonical text of a problem: a row of words for each line.
use Rattle.std.specs.Prelude.{ℕ, List, [], ◌∷◌, ◌++◌, Option, Some, None, codes, decimal, flat_map, map}
use Rattle.am_bv.specs.declared.term.Term.{Term}
use Rattle.am_syntax.specs.Canonical.{lines}
use Rattle.am_syntax.specs.Names.{op_name}
use Rattle.am_syntax.specs.Readers.{Words}
use Rattle.am_syntax.specs.Spelling.{letter_code, term_words}
use Rattle.am_syntax.specs.declared.limits.Letter.TheVariants.{X, F}
use Rattle.am_problem.specs.Kinds.{kind_name}
use Rattle.am_problem.specs.Limits.{IsProblem}
use Rattle.am_problem.specs.Lines.{Budgets, Header, Lines, Production, Rule, leaf, node}
use Rattle.am_problem.specs.Problem.{Problem}
use Rattle.am_problem.specs.Texts.{ReadsAsProblem, named}

-- the line of the operation
abbrev pub operation_row : Header → Words
operation_row h = codes "operation" ∷ decimal h.inputs ∷ term_words (letter_code X) h.operation

-- the line of an assumption, where there is one
abbrev pub assume_rows : Option Term → List Words
assume_rows None = []
assume_rows (Some t) = (codes "assume" ∷ term_words (letter_code X) t) ∷ []

-- the lines up to that of the assumption
abbrev pub header_rows : Header → List Words
header_rows h =
    (codes "amurth" ∷ decimal 1 ∷ []) ∷
    (codes "width" ∷ decimal h.width ∷ []) ∷
    operation_row h ∷
    assume_rows h.assume

-- the lines of the domain and of the starts
abbrev pub domain_rows : Lines → List Words
domain_rows l = (codes "domain" ∷ kind_name l.kind ∷ []) ∷ (codes "start" ∷ l.starts) ∷ []

-- the lines of what may be spent
abbrev pub budget_rows : Budgets → List Words
budget_rows b =
    (codes "depth" ∷ decimal b.depth ∷ []) ∷
    (codes "turns" ∷ decimal b.turns ∷ []) ∷
    (codes "conflicts" ∷ decimal b.conflicts ∷ []) ∷
    []

-- a leaf, or an operator and its nonterminals
abbrev pub production_words : Production → Words
production_words (leaf t) = term_words (letter_code F) t
production_words (node op names) = codes "(" ∷ op_name op ∷ (names ++ codes ")" ∷ [])

-- the line of a rule
abbrev pub rule_row : Rule → Words
rule_row r = codes "rule" ∷ r.name ∷ flat_map production_words r.productions

-- all lines but the last, in order
abbrev pub begun_rows : Lines → List Words
begun_rows l = header_rows l.header ++ (domain_rows l ++ (budget_rows l.budgets ++ map rule_row l.rules))

-- all lines, in order
abbrev pub problem_rows : Lines → List Words
problem_rows l =
    header_rows l.header ++
    (domain_rows l ++
    (budget_rows l.budgets ++
    (map rule_row l.rules ++
    (codes "end" ∷ []) ∷ [])))

-- the words of rows, one row after another
abbrev pub joined_rows_of : List Words → Words
joined_rows_of rows = flat_map (λ ws. ws) rows

-- the text of a problem, with the line of an assumption exactly where there is one
unfoldable pub problem_text : Problem → List ℕ
problem_text p = lines (problem_rows (named p))

-- what was printed reads back
abbrev pub CanonicalTextsAreRead : Type 0
CanonicalTextsAreRead = (p : Problem) → IsProblem p → ReadsAsProblem (problem_text p) p
