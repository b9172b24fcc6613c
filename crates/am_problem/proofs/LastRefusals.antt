-- Names without rules, the slots and the load are looked at after all tokens, in this order.
use Rattle.std.proofs.Common.{◌≡◌, ℕ, Bool, true, false, cond, nat_lt, List, [], ◌∷◌, bytes_eq, codes, Option, Some}
use Rattle.std.proofs.Common.{None, Result, Ok, Err, refl, sym, ap, arith, ◌∙◌}
use Rattle.std.proofs.lemmas.Bool.{ltb-false, ltb-true}
use Rattle.am_text.specs.Tokens.{Placed, bad_byte, tokens_at, text_left}
use Rattle.am_syntax.proofs.Laws.{text_found}
use Rattle.am_syntax.specs.Readers.{Read, Word}
use Rattle.am_syntax.specs.Texts.{ended, opened, read_whole, refusal_at, text_value, whole}
use Rattle.am_syntax.specs.declared.refusal.Cause.{Cause}
use Rattle.am_syntax.specs.declared.refusal.Cause.TheVariants as cause
use Rattle.am_syntax.specs.declared.refusal.Refusal.{Refusal}
use Rattle.am_syntax.specs.declared.refusal.Refusal.TheVariants.{Load, Slots, Undefined}
use Rattle.am_problem.specs.Grammar.{names_of, problem}
use Rattle.am_problem.specs.Limits.{slots_of}
use Rattle.am_problem.specs.Lines.{Lines}
use Rattle.am_problem.specs.Loads.{load_of}
use Rattle.am_problem.specs.Problem.{Problem}
use Rattle.am_problem.specs.Refusals.{HasLoad, HasSlots, IsFirstUndefined, IsOfLines, IsUndefinedAt}
use Rattle.am_problem.specs.Texts.{is_undefined, numbered, problem_of, settled_by, settled_problem_of, undefined_in}
use Rattle.am_problem.proofs.FirstUndefined.{undefined-cons, undefined-nil}
use Rattle.am_problem.proofs.LineLaws.{problem_law}
use Rattle.am_problem.proofs.LineLimits.{lines_good}
use Rattle.am_problem.proofs.PrintingLaws.{rows_spelled}
use Rattle.am_problem.proofs.TextLaws.{drafted, formed_text, problem_of_lines}

-- ---- refusals of bytes and tokens

-- such a refusal is none of the last three
abbrev IsEarly : Refusal → Type 0
IsEarly (Undefined place) = ⊥
IsEarly (Slots n) = ⊥
IsEarly (Load n) = ⊥
IsEarly _ = Unit {0}

early_cause : (c : Cause) (place : ℕ) → IsEarly (refusal_at c place)
early_cause cause.Syntax place = tt
early_cause _ place = tt

abbrev IsEarlyAnswer : Result Lines Refusal → Type 0
IsEarlyAnswer (Ok l) = Unit {0}
IsEarlyAnswer (Err r) = IsEarly r

early_end : (l : Lines) (tokens : List Placed) → IsEarlyAnswer (ended l tokens)
early_end l [] = tt
early_end l (t ∷ ts) = tt

early_whole : (read : Read Lines) → IsEarlyAnswer (whole read)
early_whole (Ok x) = early_end x.0 x.1.tokens
early_whole (Err stop) = early_cause stop.0 _

early_opened : (text : List ℕ) (bad : Option ℕ) → IsEarlyAnswer (opened problem.read text bad)
early_opened text (Some place) = tt
early_opened text None = early_whole (problem.read (text_left text))

early_value : (text : List ℕ) → IsEarlyAnswer (text_value problem text)
unfolding read_whole
early_value text = early_opened text (bad_byte text)

-- ---- the lines of a text

of_lines : (text : List ℕ) (l : Lines) → text_value problem text ≡ Ok l → IsOfLines text l
of_lines text l value =
    let is = text_found problem_law text l value in
    record { allowed = is.allowed; words = is.spelled ∙ sym (rows_spelled l); limits = lines_good l is.good }

-- ---- the first name without a rule

found_here : (names : List Word) (t : Placed) (ts : List Placed) (place : ℕ) (ends none : Bool) →
    bytes_eq t.word (codes "end") ≡ ends → is_undefined names t.word ≡ none →
    (undefined_in names ts ≡ Some place → IsFirstUndefined names ts place) →
    cond ends None (cond none (Some t.place) (undefined_in names ts)) ≡ Some place →
    IsFirstUndefined names (t ∷ ts) place
found_here names t ts place true none end undefined later found = absurd cc
found_here names t ts place false true end undefined later found = record {
  before = [];
  token = t;
  after = ts;
  split = refl;
  there = (let e : t.place ≡ place = cc in e);
  undefined = undefined;
  defined = tt;
}
found_here names t ts place false false end undefined later found =
    let next = later found in
    record {
      before = t ∷ next.before;
      token = next.token;
      after = next.after;
      split = ap (λ (us : List Placed). t ∷ us) next.split;
      there = next.there;
      undefined = next.undefined;
      defined = (undefined, next.defined);
    }

first_found : (names : List Word) (tokens : List Placed) (place : ℕ) → undefined_in names tokens ≡ Some place →
    IsFirstUndefined names tokens place
first_found names [] place found =
    absurd (let e : ◌≡◌ {A = Option ℕ} None (Some place) = sym (undefined-nil names) ∙ found in cc)
first_found names (t ∷ ts) place found =
    found_here names t ts place (bytes_eq t.word (codes "end")) (is_undefined names t.word) refl refl
    (first_found names ts place) (sym (undefined-cons names t ts) ∙ found)

-- ---- what is answered of lines

-- which of the last refusals a problem has
abbrev sized_by : Bool → Bool → Problem → Result Problem Refusal
sized_by many heavy p = cond many (Err (Slots (slots_of p))) (cond heavy (Err (Load (load_of p))) (Ok p))

no_undefined : (many heavy : Bool) (p : Problem) (place : ℕ) → sized_by many heavy p ≡ Err (Undefined place) → ⊥
no_undefined true heavy p place e = absurd cc
no_undefined false true p place e = absurd cc
no_undefined false false p place e = absurd cc

slots_by : (many heavy : Bool) (p : Problem) (n : ℕ) → sized_by many heavy p ≡ Err (Slots n) →
    (many ≡ true) × (n ≡ slots_of p)
slots_by true heavy p n e = (refl, cc)
slots_by false true p n e = absurd cc
slots_by false false p n e = absurd cc

load_by : (many heavy : Bool) (p : Problem) (n : ℕ) → sized_by many heavy p ≡ Err (Load n) →
    (many ≡ false) × (heavy ≡ true) × (n ≡ load_of p)
load_by true heavy p n e = absurd cc
load_by false true p n e = (refl, refl, cc)
load_by false false p n e = absurd cc

module _ (text : List ℕ) where
  abbrev undefined_of : Lines → Option ℕ
  undefined_of l = undefined_in (names_of l.rules) (tokens_at 0 text)

  -- ---- a name without a rule

  undefined_so : (l : Lines) (place : ℕ) (undefined : Option ℕ) → undefined_of l ≡ undefined →
      text_value problem text ≡ Ok l → settled_by l undefined ≡ Err (Undefined place) → IsUndefinedAt text place
  undefined_so l place (Some at) is value e =
      let same : at ≡ place = cc in
      record {
        lines = l;
        text_is = of_lines text l value;
        first = first_found (names_of l.rules) (tokens_at 0 text) place (is ∙ ap Some same);
      }
  undefined_so l place None is value e =
      absurd
      (no_undefined (nat_lt 256 (slots_of (numbered l))) (nat_lt 16777216 (load_of (numbered l))) (numbered l) place e)

  undefined_in_text : (place : ℕ) (value : Result Lines Refusal) → text_value problem text ≡ value →
      IsEarlyAnswer value →
      settled_problem_of (drafted text value) ≡ Err (Undefined place) → IsUndefinedAt text place
  undefined_in_text place (Ok l) is early e = undefined_so l place (undefined_of l) refl is e
  undefined_in_text place (Err (Undefined at)) is early e = absurd early
  undefined_in_text place (Err _) is early e = absurd cc

  -- ---- the slots

  slots_so : (l : Lines) (n : ℕ) (undefined : Option ℕ) → undefined_of l ≡ undefined →
      text_value problem text ≡ Ok l → settled_by l undefined ≡ Err (Slots n) → HasSlots text n
  slots_so l n (Some at) is value e = absurd cc
  slots_so l n None is value e =
      let k = slots_by (nat_lt 256 (slots_of (numbered l))) (nat_lt 16777216 (load_of (numbered l))) (numbered l) n e in
      record {
        lines = l;
        text_is = of_lines text l value;
        formed = formed_text l text value is;
        slots_are = k.1;
        many = (let many = ltb-true _ _ k.0 in omega arith);
      }

  slots_in_text : (n : ℕ) (value : Result Lines Refusal) → text_value problem text ≡ value → IsEarlyAnswer value →
      settled_problem_of (drafted text value) ≡ Err (Slots n) → HasSlots text n
  slots_in_text n (Ok l) is early e = slots_so l n (undefined_of l) refl is e
  slots_in_text n (Err (Slots at)) is early e = absurd early
  slots_in_text n (Err _) is early e = absurd cc

  -- ---- the load

  load_so : (l : Lines) (n : ℕ) (undefined : Option ℕ) → undefined_of l ≡ undefined →
      text_value problem text ≡ Ok l → settled_by l undefined ≡ Err (Load n) → HasLoad text n
  load_so l n (Some at) is value e = absurd cc
  load_so l n None is value e =
      let k = load_by (nat_lt 256 (slots_of (numbered l))) (nat_lt 16777216 (load_of (numbered l))) (numbered l) n e in
      record {
        lines = l;
        text_is = of_lines text l value;
        formed = formed_text l text value is;
        few_slots = ltb-false _ _ k.0;
        load_is = k.2;
        great = (let great = ltb-true _ _ k.1 in omega arith);
      }

  load_in_text : (n : ℕ) (value : Result Lines Refusal) → text_value problem text ≡ value → IsEarlyAnswer value →
      settled_problem_of (drafted text value) ≡ Err (Load n) → HasLoad text n
  load_in_text n (Ok l) is early e = load_so l n (undefined_of l) refl is e
  load_in_text n (Err (Load at)) is early e = absurd early
  load_in_text n (Err _) is early e = absurd cc

  -- ---- the last three refusals of a text

  -- a name without a rule is refused after all tokens
  pub undefined_last : (place : ℕ) → problem_of text ≡ Err (Undefined place) → IsUndefinedAt text place
  undefined_last place e =
      undefined_in_text place (text_value problem text) refl (early_value text) (sym (problem_of_lines text) ∙ e)

  -- the slots are refused after all names
  pub slots_last : (n : ℕ) → problem_of text ≡ Err (Slots n) → HasSlots text n
  slots_last n e =
      slots_in_text n (text_value problem text) refl (early_value text) (sym (problem_of_lines text) ∙ e)

  -- the load is refused after the slots
  pub load_last : (n : ℕ) → problem_of text ≡ Err (Load n) → HasLoad text n
  load_last n e =
      load_in_text n (text_value problem text) refl (early_value text) (sym (problem_of_lines text) ∙ e)
