-- A rule's name that is one too many, or that an earlier rule has, is refused in its place.
use Rattle.std.proofs.Common.{◌≡◌, ℕ, ◌-◌, ◌*◌, ◌<◌, true, false, not, ◌||◌, bytes_eq, cond, nat_le, List, [], ◌∷◌}
use Rattle.std.proofs.Common.{◌++◌, length, codes, Ok, Err, refl, sym, ap, subst, ◌∙◌, append-nil, append_assoc, arith}
use Rattle.std.proofs.lemmas.Bool.{le-leb, lt-leb}
use Rattle.am_text.specs.Tokens.{Left, Placed, text_left, words}
use Rattle.am_syntax.proofs.Laws.{Takes-halves, Takes-nothing, Takes-words, keyed_law, moves_on, so_far_fails}
use Rattle.am_syntax.proofs.Laws.{so_far_more}
use Rattle.am_syntax.specs.Exact.{Takes, words_in}
use Rattle.am_syntax.specs.Pieces.{◌▹◌, Piece, good_from, key_judge, key_or, keyed, closed, next_is, repeat_from}
use Rattle.am_syntax.specs.Pieces.{seen_as, spelled_from, syntax}
use Rattle.am_syntax.specs.Readers.{◌>>=◌, Reader, Word, Words, done, judged, onward, settled}
use Rattle.am_syntax.specs.Spelling.{IsScope, Scope}
use Rattle.am_syntax.specs.Texts.{opened, read_whole, refusal_at, whole}
use Rattle.am_syntax.specs.declared.limits.Letter.TheVariants.{F}
use Rattle.am_syntax.specs.declared.refusal.Cause.{Cause}
use Rattle.am_syntax.specs.declared.refusal.Cause.TheVariants as cause
use Rattle.am_syntax.specs.declared.refusal.Refusal.TheVariants.{Count, Twice}
use Rattle.am_problem.specs.declared.kind.Kind.{Kind}
use Rattle.am_problem.specs.Grammar.{budgets, domain, has_name, header, lines_of, lines_parts, names_of, problem}
use Rattle.am_problem.specs.Grammar.{productions_of_rules}
use Rattle.am_problem.specs.Grammar.{productions}
use Rattle.am_problem.specs.Grammar.{rule, rule_name, rule_name_judge, rule_of, rule_parts, rules, scope_at, starts}
use Rattle.am_problem.specs.Kinds.{fields_of}
use Rattle.am_problem.specs.Lines.{Budgets, Header, Lines, Rule}
use Rattle.am_problem.specs.Printing.{begun_rows, joined_rows_of}
use Rattle.am_problem.specs.Refusals.{BeginsRule}
use Rattle.am_problem.specs.Texts.{problem_of, settled_problem_of}
use Rattle.am_problem.proofs.KindLaws.{domain_law}
use Rattle.am_problem.proofs.LineLaws.{budgets_law, field_scope, header_law, starts_law}
use Rattle.am_problem.proofs.LineLimits.{lines_back}
use Rattle.am_problem.proofs.PrintingLaws.{begun_spelled}
use Rattle.am_problem.proofs.ProblemLaws.{EndsRule, rule_law, rule_moves}
use Rattle.am_problem.proofs.TextLaws.{drafted, problem_of_lines}

-- ---- a piece that is refused, after others

module _ {X Y : Type 0} where
  then_fails : (p : Piece X) (q : X → Piece Y) (s : Left) (x : X) (t : Left) (stop : Cause × Left) →
      p.read s ≡ Ok (x, t) → (q x).read t ≡ Err stop → (p ▹ q).read s ≡ Err stop
  then_fails p q s x t stop first later =
      ap (onward (λ (x : X). (q x).read >>= λ (y : Y). done (x, y))) first
      ∙ ap (onward (λ (y : Y). done (x, y))) later

  seen_fails : (to : X → Y) (from : Y → X) (p : Piece X) (s : Left) (stop : Cause × Left) → p.read s ≡ Err stop →
      (seen_as to from p).read s ≡ Err stop
  seen_fails to from p s stop e = ap (onward (λ (x : X). done (to x))) e

closed_fails : {X : Type 0} (word : Word) (p : Piece X) (s : Left) (stop : Cause × Left) → p.read s ≡ Err stop →
    (closed word p).read s ≡ Err stop
closed_fails {X = X} word p s stop e = ap (onward (λ (x : X). (key_or syntax word).read >>= λ _. done x)) e

-- ---- a rule's name

abbrev left_at : List Placed → ℕ → Left
left_at tokens end = record { tokens = tokens; end = end }

-- a rule whose name is refused
rule_fails : (scope : Scope) (seen : List Rule) (key name : Placed) (after : List Placed) (end : ℕ) (c : Cause) →
    key.word ≡ codes "rule" → rule_name_judge seen name.word ≡ Err c →
    (rule scope seen).read (left_at (key ∷ name ∷ after) end) ≡ Err (c, left_at (name ∷ after) end)
unfolding rule rule_name key_or judged
rule_fails scope seen key name after end c opens judge =
    let p = rule_name seen ▹ λ _. productions scope (64 - productions_of_rules seen) in
    let named : (rule_name seen).read (left_at (name ∷ after) end) ≡ Err (c, left_at (name ∷ after) end) =
    ap (settled name after end) judge in
    let own : p.read (left_at (name ∷ after) end) ≡ Err (c, left_at (name ∷ after) end) =
    ap (onward (λ (v : Word). (productions scope (64 - productions_of_rules seen)).read >>= λ (ps : List _). done
    (v, ps))) named in
    seen_fails rule_of rule_parts (keyed (codes "rule") p) (left_at (key ∷ name ∷ after) end)
    (c, left_at (name ∷ after) end)
    (ap
    (λ (w : Word). onward (λ (u : Unit {0}). p.read)
    (settled key (name ∷ after) end (key_judge syntax (codes "rule") w)))
    opens
    ∙ own)

-- rules one after another, and then one that is refused
module _ (scope : Scope) (is : IsScope scope) where
  abbrev one : List Rule → Reader Rule
  one seen = (rule scope seen).read

  -- a rule's key word opens it and ends the rule before it
  rule_opens : (seen : List Rule) (r : Rule) (rest : Words) →
      next_is (codes "rule") ((rule scope seen).spell r ++ rest) ≡ true
  unfolding rule
  rule_opens seen r rest = refl

  key_ends : (ws : Words) → next_is (codes "rule") ws ≡ true → EndsRule ws
  key_ends [] h = absurd cc
  key_ends (v ∷ vs) h = ap (λ b. not (b || bytes_eq v (codes "end"))) h

  opens_next : (seen xs : List Rule) (rest : Words) → next_is (codes "rule") rest ≡ true →
      next_is (codes "rule") (spelled_from (rule scope) seen xs ++ rest) ≡ true
  opens_next seen [] rest h = h
  opens_next seen (x ∷ xs) rest h =
      ap (next_is (codes "rule"))
      (append_assoc ((rule scope seen).spell x) (spelled_from (rule scope) (seen ++ x ∷ []) xs) rest)
      ∙ rule_opens seen x (spelled_from (rule scope) (seen ++ x ∷ []) xs ++ rest)

  rules_fail : (xs seen : List Rule) (s u : Left) (stop : Cause × Left) → good_from (rule scope) seen xs →
      Takes s (spelled_from (rule scope) seen xs) u → next_is (codes "rule") (words u) ≡ true →
      one (seen ++ xs) u ≡ Err stop → repeat_from (next_is (codes "rule")) one seen s ≡ Err stop
  rules_fail [] seen s u stop good taken opens fails =
      let same = Takes-nothing s u taken in
      let here : one seen s ≡ Err stop =
      ap (one seen) same ∙ ap (λ (rs : List Rule). one rs u) (sym (append-nil seen)) ∙ fails in
      so_far_fails (next_is (codes "rule")) one (moves_on (rule_law scope is) (rule_moves scope is)) seen s stop _
      (ap (λ (l : Left). next_is (codes "rule") (words l)) same ∙ opens) here refl
  rules_fail (x ∷ xs) seen s u stop good taken opens fails =
      let own = (rule scope seen).spell x in
      let others = spelled_from (rule scope) (seen ++ x ∷ []) xs in
      let h = Takes-halves s own others u taken in
      let after : words h.between ≡ others ++ words u = Takes-words h.between others u h.second in
      let next = ap (next_is (codes "rule")) after ∙ opens_next (seen ++ x ∷ []) xs (words u) opens in
      let begins =
      ap (next_is (codes "rule")) (Takes-words s own h.between h.first) ∙ rule_opens seen x (words h.between) in
      let read = (rule_law scope is seen).again s x h.between good.0 h.first (key_ends (words h.between) next) in
      sym
      (so_far_more (next_is (codes "rule")) one (moves_on (rule_law scope is) (rule_moves scope is)) seen s x h.between
      _ begins read refl)
      ∙ rules_fail xs (seen ++ x ∷ []) h.between u stop good.1 h.second opens
      (ap (λ (rs : List Rule). one rs u) (append_assoc seen (x ∷ []) xs) ∙ fails)

-- ---- lines up to their rules

module _ (l : Lines) (good : problem.Good l) where
  abbrev field : Scope
  field = scope_at l.header.width F (l.header.inputs * fields_of l.kind)

  abbrev kind_words : Words
  kind_words = codes "domain" ∷ domain.spell l.kind

  abbrev start_words : Words
  start_words = (starts (fields_of l.kind)).spell l.starts

  abbrev rules_words : Words
  rules_words = spelled_from (rule field) [] l.rules

  -- the pieces after each line
  abbrev after_budgets : Header → Kind → Piece (List Rule)
  after_budgets h k = closed (codes "end") (rules (scope_at h.width F (h.inputs * fields_of k)))

  abbrev after_starts : Header → Kind → Piece (Budgets × List Rule)
  after_starts h k = budgets ▹ λ _. after_budgets h k

  abbrev after_domain : Header → Kind → Piece (List Word × (Budgets × List Rule))
  after_domain h k = starts (fields_of k) ▹ λ _. after_starts h k

  abbrev after_header : Header → Piece (Kind × (List Word × (Budgets × List Rule)))
  after_header h = keyed (codes "domain") domain ▹ λ k. after_domain h k

  no_assume : (rest : Words) → next_is (codes "assume") (kind_words ++ rest) ≡ false
  no_assume rest = refl

  lines_fail : (s u : Left) (stop : Cause × Left) →
      Takes s (header.spell l.header ++ (kind_words ++ (start_words ++ (budgets.spell l.budgets ++ rules_words)))) u →
      next_is (codes "rule") (words u) ≡ true → (rule field l.rules).read u ≡ Err stop → problem.read s ≡ Err stop
  unfolding problem rules
  lines_fail s u stop taken opens fails =
      let rest_after_starts = budgets.spell l.budgets ++ rules_words in
      let rest_after_domain = start_words ++ rest_after_starts in
      let one = Takes-halves s (header.spell l.header) (kind_words ++ rest_after_domain) u taken in
      let two = Takes-halves one.between kind_words rest_after_domain u one.second in
      let three = Takes-halves two.between start_words rest_after_starts u two.second in
      let four = Takes-halves three.between (budgets.spell l.budgets) rules_words u three.second in
      let quiet = ap (next_is (codes "assume")) (Takes-words one.between (kind_words ++ rest_after_domain) u one.second)
      in
      let is = field_scope l.header l.kind good.0 in
      seen_fails lines_of lines_parts (header ▹ after_header) s stop
      (then_fails header after_header s l.header one.between stop
      (header_law.again s l.header one.between good.0 one.first (tt, quiet))
      (then_fails (keyed (codes "domain") domain) (after_domain l.header) one.between l.kind two.between stop
      ((keyed_law syntax (codes "domain") domain_law).again one.between l.kind two.between good.1.0 two.first tt)
      (then_fails (starts (fields_of l.kind)) (λ _. after_starts l.header l.kind) two.between l.starts
      three.between stop
      ((starts_law (fields_of l.kind)).again two.between l.starts three.between good.1.1.0 three.first tt)
      (then_fails budgets (λ _. after_budgets l.header l.kind) three.between l.budgets four.between stop
      (budgets_law.again three.between l.budgets four.between good.1.1.1.0 four.first tt)
      (closed_fails (codes "end") (rules field) four.between stop
      (rules_fail field is l.rules [] four.between u stop good.1.1.1.1 four.second opens fails))))))

-- ---- texts

-- the token of one word
one_token : (ts : List Placed) (w : Word) → words_in ts ≡ w ∷ [] → (t : Placed) × (ts ≡ t ∷ []) × (t.word ≡ w)
one_token [] w e = absurd cc
one_token (t ∷ []) w e = (t, refl, cc)
one_token (t ∷ u ∷ ts) w e = absurd cc

-- a text is refused where the name of a rule is
refused_there : (text : List ℕ) (l : Lines) (token : Placed) (c : Cause) → BeginsRule text l token →
    rule_name_judge l.rules token.word ≡ Err c → problem_of text ≡ Err (refusal_at c token.place)
unfolding read_whole
refused_there text l token c is judge =
    let good = lines_back l is.limits in
    let end = (text_left text).end in
    let u = left_at (token ∷ is.after) end in
    let taken : Takes (text_left text) (joined_rows_of (begun_rows l) ++ codes "rule" ∷ []) u =
    record { front = is.before; split = is.tokens; spelled = is.words; same_end = refl } in
    let h = Takes-halves (text_left text) (joined_rows_of (begun_rows l)) (codes "rule" ∷ []) u taken in
    let key = one_token h.second.front (codes "rule") h.second.spelled in
    let between : h.between ≡ left_at (key.0 ∷ token ∷ is.after) end =
    ap (λ (ts : List Placed). left_at ts h.between.end)
    (h.second.split ∙ ap (λ (ts : List Placed). ts ++ token ∷ is.after) key.1)
    ∙ ap (left_at (key.0 ∷ token ∷ is.after)) h.second.same_end in
    let fails = ap (rule (field l good) l.rules).read between
    ∙ rule_fails (field l good) l.rules key.0 token is.after end c key.2 judge in
    let opens = ap (λ (s : Left). next_is (codes "rule") (words s)) between
    ∙ ap (λ (w : Word). next_is (codes "rule") (w ∷ [])) key.2 in
    let begun = subst (λ (ws : Words). Takes (text_left text) ws h.between) (begun_spelled l) h.first in
    let read = lines_fail l good (text_left text) h.between (c, u) begun opens fails in
    problem_of_lines text
    ∙ ap (λ bad. settled_problem_of (drafted text (opened problem.read text bad))) is.allowed
    ∙ ap (λ read. settled_problem_of (drafted text (whole read))) read

-- the name of a seventeenth rule
pub counted_first : (text : List ℕ) (l : Lines) (token : Placed) → BeginsRule text l token → length l.rules ≡ 16 →
    problem_of text ≡ Err (Count token.place)
counted_first text l token is full =
    let v = token.word in
    refused_there text l token cause.Count is
    (ap
    (λ b. cond b
    (cond (nat_le 16 (length l.rules)) (Err cause.Count)
    (cond (has_name (names_of l.rules) v) (Err cause.Twice) (Ok v)))
    (Err cause.Syntax))
    is.name
    ∙ ap (λ b. cond b (Err cause.Count) (cond (has_name (names_of l.rules) v) (Err cause.Twice) (Ok v)))
    (le-leb 16 (length l.rules) (omega arith)))

-- the name of an earlier rule
pub twice_after : (text : List ℕ) (l : Lines) (token : Placed) → BeginsRule text l token → length l.rules < 16 →
    has_name (names_of l.rules) token.word ≡ true → problem_of text ≡ Err (Twice token.place)
twice_after text l token is few known =
    let v = token.word in
    refused_there text l token cause.Twice is
    (ap
    (λ b. cond b
    (cond (nat_le 16 (length l.rules)) (Err cause.Count)
    (cond (has_name (names_of l.rules) v) (Err cause.Twice) (Ok v)))
    (Err cause.Syntax))
    is.name
    ∙ ap (λ b. cond b (Err cause.Count) (cond (has_name (names_of l.rules) v) (Err cause.Twice) (Ok v)))
    (lt-leb 16 (length l.rules) few)
    ∙ ap (λ b. cond b (Err cause.Twice) (Ok v)) known)
