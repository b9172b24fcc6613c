-- What was printed reads back: the words of a canonical text are those of its rows, which are the problem's.
use Rattle.std.proofs.Common.{◌≡◌, ℕ, ◌-◌, ◌*◌, ◌<◌, ◌^◌, Bool, true, ◌&&◌, List, [], ◌∷◌, ◌++◌, length, map, flat_map}
use Rattle.std.proofs.Common.{codes, decimal, Option, None, Some, nat_lt, ap, sym, refl, ◌∙◌, arith, append-nil}
use Rattle.std.proofs.Common.{append_assoc, inl, inr}
use Rattle.std.specs.List.{AllByRecursion, list_all}
use Rattle.std.specs.Prelude.{IfSome}
use Rattle.std.proofs.lemmas.Bool.{and_parts, ltb-true}
use Rattle.std.proofs.lemmas.Grind.{flat_map-append}
use Rattle.am_text.specs.Tokens.{is_allowed, is_word_byte}
use Rattle.am_bv.specs.declared.term.Term.{Term}
use Rattle.am_syntax.proofs.Laws.{all_tokens, lines_is_text, lines_words, name_is_token, number_is_token}
use Rattle.am_syntax.proofs.Laws.{op_name_is_token, term_is_tokens, tokens-append}
use Rattle.am_syntax.specs.Canonical.{AreTokens, IsToken}
use Rattle.am_syntax.specs.Names.{operator}
use Rattle.am_syntax.specs.Pieces.{key_or, number, optional_spelled, spelled_from}
use Rattle.am_syntax.specs.Readers.{Word, Words}
use Rattle.am_syntax.specs.Spelling.{IsScope, IsTermWithin, Scope, letter_code, term_words}
use Rattle.am_syntax.specs.declared.limits.Letter.TheVariants.{X, F}
use Rattle.am_problem.specs.declared.kind.Kind.{Kind}
use Rattle.am_problem.specs.declared.kind.Kind.TheVariants.{UInterval}
use Rattle.am_problem.specs.Grammar.{budgets, domain, header, node_production, problem, production}
use Rattle.am_problem.specs.Grammar.{productions, rule, rule_name, rules, scope_at, small_term, starts}
use Rattle.am_problem.specs.Kinds.{fields_of, kind_name}
use Rattle.am_problem.specs.Limits.{IsProblem}
use Rattle.am_problem.specs.Lines.{Budgets, Header, Lines, Production, Rule, leaf, node}
use Rattle.am_problem.specs.Printing.{assume_rows, budget_rows, domain_rows, header_rows, operation_row}
use Rattle.am_problem.specs.Printing.{begun_rows, joined_rows_of, problem_rows, problem_text, production_words}
use Rattle.am_problem.specs.Printing.{rule_row}
use Rattle.am_problem.specs.Problem.{Problem}
use Rattle.am_problem.specs.Texts.{ReadsAsProblem, named}
use Rattle.am_problem.proofs.Formed.{lines_of_formed}
use Rattle.am_problem.proofs.LineLaws.{input_scope}
use Rattle.am_problem.specs.LineLimits.{AreNonterminals, IsLines, IsProduction, IsRule}
use Rattle.am_problem.proofs.Lists.{all_more}
use Rattle.am_problem.proofs.Printed.{few_variables}
use Rattle.am_problem.proofs.Undefined.{names_spelled}

-- ---- the words of the rows are tokens

-- a byte or more of words, and no other
abbrev pub is_plain : Word → Bool
is_plain v = (nat_lt 0 (length v) && list_all is_word_byte v) && list_all is_allowed v

-- such a row of bytes is a token
pub plain_token : (v : Word) → is_plain v ≡ true → IsToken v
plain_token v h =
    let parts = and_parts (nat_lt 0 (length v) && list_all is_word_byte v) (list_all is_allowed v) h in
    let word = and_parts (nat_lt 0 (length v)) (list_all is_word_byte v) parts.0 in
    record { shape = inr (ltb-true 0 (length v) word.0, word.1); allowed = parts.1 }

-- the name of a domain is a word
kind_plain : (kind : Kind) → is_plain (kind_name kind) ≡ true
kind_plain UInterval = refl
kind_plain _ = refl

-- a key word and a number
pub number_tokens : (key : Word) (n : ℕ) → is_plain key ≡ true → n < 2 ^ 64 → AreTokens (key ∷ decimal n ∷ [])
number_tokens key n plain small = (plain_token key plain, (number_is_token n small, tt))

names_tokens : (vs : List Word) → AreNonterminals vs → AreTokens vs
names_tokens [] h = tt
names_tokens (v ∷ vs) h = (name_is_token v h.0, names_tokens vs h.1)

module _ (scope : Scope) (is : IsScope scope) where
  assume_tokens : (o : Option Term) → IfSome o (IsTermWithin scope 64 64) →
      AllByRecursion AreTokens (assume_rows o)
  assume_tokens None h = tt
  assume_tokens (Some t) h = ((plain_token (codes "assume") refl, term_is_tokens X scope is t h.fit), tt)

  production_tokens : (p : Production) → IsProduction scope p → AreTokens (production_words p)
  production_tokens (leaf t) h = term_is_tokens F scope is t h.fit
  production_tokens (node op names) h =
      let opens : IsToken (codes "(") = record { shape = inl (refl, refl); allowed = refl } in
      let closes : IsToken (codes ")") = record { shape = inl (refl, refl); allowed = refl } in
      (opens, (op_name_is_token op, tokens-append names (codes ")" ∷ []) (names_tokens names h.1) (closes, tt)))

  rules_tokens : (rs : List Rule) → AllByRecursion (IsRule scope) rs → AllByRecursion AreTokens (map rule_row rs)
  rules_tokens [] h = tt
  rules_tokens (r ∷ rs) h =
      let each = all_more _ (λ q. AreTokens (production_words q)) production_tokens r.productions h.0.productions in
      let words = all_tokens production_words r.productions each in (
        (plain_token (codes "rule") refl, (name_is_token r.name h.0.name, words)),
        rules_tokens rs h.1,
      )

-- two lists of rows
pub both_tokens : (rows more : List Words) → AllByRecursion AreTokens rows → AllByRecursion AreTokens more →
    AllByRecursion AreTokens (rows ++ more)
both_tokens [] more h k = k
both_tokens (row ∷ rows) more h k = (h.0, both_tokens rows more h.1 k)

budgets_tokens : (l : Lines) → IsLines l → AllByRecursion AreTokens (budget_rows l.budgets)
budgets_tokens l is =
    let b = l.budgets in (
      number_tokens (codes "depth") b.depth refl (omega (arith, is.depth)),
      (
        number_tokens (codes "turns") b.turns refl (omega (arith, is.turns)),
        (number_tokens (codes "conflicts") b.conflicts refl (omega (arith, is.conflicts)), tt),
      ),
    )

domain_tokens : (l : Lines) → IsLines l → AllByRecursion AreTokens (domain_rows l)
domain_tokens l is = (
  (plain_token (codes "domain") refl, (plain_token (kind_name l.kind) (kind_plain l.kind), tt)),
  ((plain_token (codes "start") refl, names_tokens l.starts is.starts), tt),
)

header_tokens : (l : Lines) → IsLines l → AllByRecursion AreTokens (header_rows l.header)
header_tokens l is =
    let h = l.header in
    let scope = scope_at h.width X h.inputs in
    let over : IsScope scope = input_scope h.width h.inputs is.width.1 is.inputs.1 in
    let inputs = number_is_token h.inputs (omega (arith, is.inputs)) in (
      number_tokens (codes "amurth") 1 refl (omega arith),
      (
        number_tokens (codes "width") h.width refl (omega (arith, is.width)),
        (
          (plain_token (codes "operation") refl, (inputs, term_is_tokens X scope over h.operation is.operation.fit)),
          assume_tokens scope over h.assume is.assume,
        ),
      ),
    )

-- the words of a problem's rows are tokens
pub rows_tokens : (l : Lines) → IsLines l → AllByRecursion AreTokens (problem_rows l)
rows_tokens l is =
    let fields = scope_at l.header.width F (l.header.inputs * fields_of l.kind) in
    let over : IsScope fields =
    record { width = is.width.1; variables = few_variables l.header.inputs l.kind is.inputs.1 } in
    let last : List Words = (codes "end" ∷ []) ∷ [] in
    let end : AllByRecursion AreTokens last = ((plain_token (codes "end") refl, tt), tt) in
    let after_budgets = map rule_row l.rules ++ last in
    let after_starts = budget_rows l.budgets ++ after_budgets in
    both_tokens (header_rows l.header) (domain_rows l ++ after_starts) (header_tokens l is)
    (both_tokens (domain_rows l) after_starts (domain_tokens l is)
    (both_tokens (budget_rows l.budgets) after_budgets (budgets_tokens l is)
    (both_tokens (map rule_row l.rules) last (rules_tokens fields over l.rules is.rules.each) end)))

-- ---- the words of the rows are the problem's

-- the joined words of two lists of rows
pub joined-append : (rows more : List Words) → joined_rows_of (rows ++ more) ≡ joined_rows_of rows ++ joined_rows_of
    more
joined-append rows more = flat_map-append (λ ws. ws) rows more

assume_spelled : (w n : ℕ) (o : Option Term) →
    joined_rows_of (assume_rows o) ≡ optional_spelled (codes "assume") (small_term (scope_at w X n)) o
assume_spelled w n None = refl
assume_spelled w n (Some t) = append-nil (codes "assume" ∷ term_words (letter_code X) t)

module _ (w n : ℕ) where
  abbrev fields : Scope
  fields = scope_at w F n

  production_spelled : (room : ℕ) (p : Production) → production_words p ≡ (production fields room).spell p
  unfolding production node_production key_or operator
  production_spelled room (leaf t) = refl
  production_spelled room (node op names) =
      ap (λ (ws : Words). (codes "(" ∷ operator.spell op) ++ (ws ++ codes ")" ∷ []))
      (sym (names_spelled (codes ")") [] names))

  productions_spelled : (room : ℕ) (seen ps : List Production) →
      flat_map production_words ps ≡ spelled_from (λ before. production fields (room - length before)) seen ps
  productions_spelled room seen [] = refl
  productions_spelled room seen (p ∷ ps) =
      let own = (production fields (room - length seen)).spell p in
      ap (λ (ws : Words). ws ++ flat_map production_words ps) (production_spelled (room - length seen) p)
      ∙ ap (λ (ws : Words). own ++ ws) (productions_spelled room (seen ++ p ∷ []) ps)

  rule_spelled : (seen : List Rule) (r : Rule) → rule_row r ≡ (rule fields seen).spell r
  unfolding rule rule_name productions
  rule_spelled seen r = ap (λ (ws : Words). codes "rule" ∷ r.name ∷ ws) (productions_spelled _ [] r.productions)

  rules_spelled : (seen rs : List Rule) → joined_rows_of (map rule_row rs) ≡ spelled_from (rule fields) seen rs
  rules_spelled seen [] = refl
  rules_spelled seen (r ∷ rs) =
      ap (λ (ws : Words). ws ++ joined_rows_of (map rule_row rs)) (rule_spelled seen r)
      ∙ ap (λ (ws : Words). (rule fields seen).spell r ++ ws) (rules_spelled (seen ++ r ∷ []) rs)

header_spelled : (h : Header) → joined_rows_of (header_rows h) ≡ header.spell h
unfolding header number
header_spelled h =
    ap (λ (ws : Words). codes "amurth" ∷ decimal 1 ∷ codes "width" ∷ decimal h.width ∷ (operation_row h ++ ws))
    (assume_spelled h.width h.inputs h.assume)

domain_spelled : (l : Lines) →
    joined_rows_of (domain_rows l) ≡ (codes "domain" ∷ domain.spell l.kind) ++ (starts (fields_of l.kind)).spell
    l.starts
unfolding domain starts
domain_spelled l =
    ap (λ (ws : Words). codes "domain" ∷ kind_name l.kind ∷ codes "start" ∷ ws)
    (append-nil l.starts ∙ sym (names_spelled (codes "depth") [] l.starts))

budgets_spelled : (b : Budgets) → joined_rows_of (budget_rows b) ≡ budgets.spell b
unfolding budgets number
budgets_spelled b = refl

-- the words of all rows but the last are the spelling of a problem up to its rules
pub begun_spelled : (l : Lines) → joined_rows_of (begun_rows l) ≡
    header.spell l.header ++ ((codes "domain" ∷ domain.spell l.kind) ++ ((starts (fields_of l.kind)).spell l.starts ++
    (budgets.spell l.budgets ++
    spelled_from (rule (scope_at l.header.width F (l.header.inputs * fields_of l.kind))) [] l.rules)))
begun_spelled l =
    let rows = map rule_row l.rules in
    let after_starts = budget_rows l.budgets ++ rows in
    let after_header = domain_rows l ++ after_starts in
    let kind : Words = codes "domain" ∷ domain.spell l.kind in
    let start = (starts (fields_of l.kind)).spell l.starts in
    joined-append (header_rows l.header) after_header
    ∙ ap (λ (ws : Words). ws ++ joined_rows_of after_header) (header_spelled l.header)
    ∙ ap (λ (ws : Words). header.spell l.header ++ ws)
    (joined-append (domain_rows l) after_starts
    ∙ ap (λ (ws : Words). ws ++ joined_rows_of after_starts) (domain_spelled l)
    ∙ append_assoc kind start (joined_rows_of after_starts)
    ∙ ap (λ (ws : Words). kind ++ (start ++ ws))
    (joined-append (budget_rows l.budgets) rows
    ∙ ap (λ (ws : Words). ws ++ joined_rows_of rows) (budgets_spelled l.budgets)
    ∙ ap (λ (ws : Words). budgets.spell l.budgets ++ ws)
    (rules_spelled l.header.width (l.header.inputs * fields_of l.kind) [] l.rules)))

-- the words of a problem's rows are its spelling
pub rows_spelled : (l : Lines) → joined_rows_of (problem_rows l) ≡ problem.spell l
unfolding problem rules
rows_spelled l =
    let end : List Words = (codes "end" ∷ []) ∷ [] in
    let after_budgets = map rule_row l.rules ++ end in
    let after_starts = budget_rows l.budgets ++ after_budgets in
    let after_header = domain_rows l ++ after_starts in
    let kind : Words = codes "domain" ∷ domain.spell l.kind in
    let start = (starts (fields_of l.kind)).spell l.starts in
    joined-append (header_rows l.header) after_header
    ∙ ap (λ (ws : Words). ws ++ joined_rows_of after_header) (header_spelled l.header)
    ∙ ap (λ (ws : Words). header.spell l.header ++ ws)
    (joined-append (domain_rows l) after_starts
    ∙ ap (λ (ws : Words). ws ++ joined_rows_of after_starts) (domain_spelled l)
    ∙ append_assoc kind start (joined_rows_of after_starts)
    ∙ ap (λ (ws : Words). kind ++ (start ++ ws))
    (joined-append (budget_rows l.budgets) after_budgets
    ∙ ap (λ (ws : Words). ws ++ joined_rows_of after_budgets) (budgets_spelled l.budgets)
    ∙ ap (λ (ws : Words). budgets.spell l.budgets ++ ws)
    (joined-append (map rule_row l.rules) end
    ∙ ap (λ (ws : Words). ws ++ codes "end" ∷ [])
    (rules_spelled l.header.width (l.header.inputs * fields_of l.kind) [] l.rules))))

-- what was printed reads back
pub printed_reads : (p : Problem) → IsProblem p → ReadsAsProblem (problem_text p) p
unfolding problem_text
printed_reads p is =
    let rows = problem_rows (named p) in
    let tokens = rows_tokens (named p) (lines_of_formed p is.formed) in
    record {
      allowed = lines_is_text rows tokens;
      spelled = lines_words rows tokens ∙ rows_spelled (named p);
      limits = is;
    }
