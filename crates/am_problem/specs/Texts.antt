-- A problem's whole text: what it says, and the first refusal of each that says nothing.
use Rattle.std.specs.Prelude.{◌≡◌, ℕ, Bool, ◌&&◌, not, nat_lt, if◌then◌else◌, List, [], ◌∷◌, map, slice_index_or, find}
use Rattle.std.specs.Prelude.{bytes_eq, codes, Option, Some, None, Result, Ok, Err, ◌⊎◌}
use Rattle.std.specs.List.{position_or_len, take_while}
use Rattle.std.specs.Option.{option_map}
use Rattle.am_text.specs.Tokens.{Placed, bad_byte, words_of}
use Rattle.am_syntax.specs.Numerals.{is_name}
use Rattle.am_syntax.specs.Readers.{◌>>=◌, Reader, Word, done}
use Rattle.am_syntax.specs.Texts.{RefusesForGood, read_whole}
use Rattle.am_syntax.specs.declared.refusal.Refusal.{Refusal}
use Rattle.am_syntax.specs.declared.refusal.Refusal.TheVariants.{Load, Slots, Undefined}
use Rattle.am_syntax.specs.declared.refusal.ReadError.{ReadError}
use Rattle.am_syntax.specs.declared.refusal.ReadError.TheVariants.{NoMemory, Refused}
use Rattle.am_tree.specs.Trees.{Rules}
use Rattle.am_tree.specs.declared.grammar.Production.{Production as Numbered}
use Rattle.am_tree.specs.declared.grammar.Production.TheVariants.{Leaf, Node}
use Rattle.am_problem.specs.Grammar.{has_name, names_of, problem}
use Rattle.am_problem.specs.Limits.{IsProblem, slots_of}
use Rattle.am_problem.specs.Lines.{Lines, Production, Rule, leaf, node}
use Rattle.am_problem.specs.Loads.{load_of}
use Rattle.am_problem.specs.Problem.{Problem}

-- ---- nonterminals by their numbers

-- a nonterminal has the number of its rule
abbrev pub number_in : List Word → Word → ℕ
number_in names name = position_or_len (bytes_eq name) names

-- a production with numbers for names
abbrev pub numbered_production : List Word → Production → Numbered
numbered_production names (leaf t) = Leaf t
numbered_production names (node op args) = Node op (map (number_in names) args)

-- the productions of all rules with numbers for names
abbrev pub numbered_rules : List Word → List Rule → Rules
numbered_rules names rules = map (λ (r : Rule). map (numbered_production names) r.productions) rules

-- the problem of these lines
abbrev pub numbered : Lines → Problem
numbered l = record {
  width = l.header.width;
  inputs = l.header.inputs;
  operation = l.header.operation;
  assume = l.header.assume;
  kind = l.kind;
  names = names_of l.rules;
  rules = numbered_rules (names_of l.rules) l.rules;
  starts = map (number_in (names_of l.rules)) l.starts;
  depth = l.budgets.depth;
  turns = l.budgets.turns;
  conflicts = l.budgets.conflicts;
}

-- ---- nonterminals by their names

-- the name of a number
abbrev pub name_at : List Word → ℕ → Word
name_at names n = slice_index_or names n []

-- a production with names for numbers
abbrev pub named_production : List Word → Numbered → Production
named_production names (Leaf t) = leaf t
named_production names (Node op args) = node op (map (name_at names) args)

-- a rule of this name and these productions, of the nonterminals of all names
abbrev pub named_rule : List Word → Word → List Numbered → Rule
named_rule names name ps = record { name = name; productions = map (named_production names) ps }

-- a rule for each name
abbrev pub named_rules : List Word → List Word → Rules → List Rule
named_rules names [] rules = []
named_rules names (v ∷ vs) [] = []
named_rules names (v ∷ vs) (ps ∷ rules) = named_rule names v ps ∷ named_rules names vs rules

-- the lines of a problem
abbrev pub named : Problem → Lines
named p = record {
  header = record { width = p.width; inputs = p.inputs; operation = p.operation; assume = p.assume };
  kind = p.kind;
  starts = map (name_at p.names) p.starts;
  budgets = record { depth = p.depth; turns = p.turns; conflicts = p.conflicts };
  rules = named_rules p.names p.names p.rules;
}

-- ---- names that no rule has

-- a name that no rule has
abbrev pub is_undefined : List Word → Word → Bool
is_undefined names v = is_name v && not (has_name names v)

-- the tokens before a problem's end
abbrev pub before_end : List Placed → List Placed
before_end tokens = take_while (λ (t : Placed). not (bytes_eq t.word (codes "end"))) tokens

-- the place of the first token before the end that is a name, as nonterminals alone are, and that no rule has
unfoldable pub undefined_in : List Word → List Placed → Option ℕ
undefined_in names tokens =
    option_map (λ (t : Placed). t.place) (find (λ (t : Placed). is_undefined names t.word) (before_end tokens))

-- a problem before its names are numbered and its size is tested
pub record Draft : Type 0 where
  pub lines : Lines
  pub undefined : Option ℕ

-- the draft of lines, and of the tokens from their beginning on
abbrev pub draft_with : List Placed → Lines → Draft
draft_with tokens l = record { lines = l; undefined = undefined_in (names_of l.rules) tokens }

-- a problem up to its end
abbrev pub draft : Reader Draft
draft s = (problem.read >>= λ l. done (draft_with s.tokens l)) s

-- the problem, where it has no more slots and no greater load than allowed
abbrev pub sized : Problem → Result Problem Refusal
sized p =
    if nat_lt 256 (slots_of p) then Err (Slots (slots_of p)) else
    if nat_lt 16777216 (load_of p) then Err (Load (load_of p)) else Ok p

-- the problem of lines, or the refusal of the name without a rule in this place
abbrev pub settled_by : Lines → Option ℕ → Result Problem Refusal
settled_by l (Some place) = Err (Undefined place)
settled_by l None = sized (numbered l)

-- the problem of a draft, or the refusal of a name without a rule, of its slots or of its load
abbrev pub settled : Draft → Result Problem Refusal
settled d = settled_by d.lines d.undefined

-- ---- whole texts

-- the text is this problem's, which is within all limits
pub record ReadsAsProblem (text : List ℕ) (p : Problem) : Type 0 where
  pub allowed : bad_byte text ≡ None
  pub spelled : words_of text ≡ problem.spell (named p)
  pub limits : IsProblem p

-- the draft of a text, or the first refusal of its bytes and tokens
abbrev pub draft_of : List ℕ → Result Draft Refusal
draft_of text = read_whole draft text

-- the problem of a draft that was read
abbrev pub settled_problem_of : Result Draft Refusal → Result Problem Refusal
settled_problem_of (Ok d) = settled d
settled_problem_of (Err r) = Err r

-- the problem of a text, or its first refusal
abbrev pub problem_of : List ℕ → Result Problem Refusal
problem_of text = settled_problem_of (draft_of text)

-- a refusal, and no want of memory
abbrev pub IfRefused : ReadError → (Refusal → Type 0) → Type 0
IfRefused (Refused r) P = P r
IfRefused NoMemory P = Unit {0}

-- the text is some problem's
abbrev pub IsProblemText : List ℕ → Type 0
IsProblemText text = (p : Problem) × ReadsAsProblem text p

-- a text is one problem's at most
abbrev pub IsOneProblem : List ℕ → Type 0
IsOneProblem text = (p q : Problem) → ReadsAsProblem text p → ReadsAsProblem text q → p ≡ q

-- a token that is refused in a problem's place is refused whatever follows it
abbrev pub ProblemsAreRefusedForGood : Type 0
ProblemsAreRefusedForGood = RefusesForGood draft IsProblemText

-- a text is some problem's and has no refusal, or it is none's and has one
abbrev pub IsSettledProblem : List ℕ → Type 0
IsSettledProblem text =
    ((p : Problem) × ReadsAsProblem text p × ((r : Refusal) → problem_of text ≡ Err r → ⊥)) ⊎
    ((r : Refusal) × (problem_of text ≡ Err r) × ((p : Problem) → ReadsAsProblem text p → ⊥))
