-- Names in a set: the place of a name, and names put in one after another.
use Rattle.std.proofs.Common.{◌≡◌, ℕ, zero, suc, ◌+◌, ◌<◌, Bool, true, false, cond, not, ◌||◌, get_or, take, List, []}
use Rattle.std.proofs.Common.{◌∷◌, ◌++◌, length, bytes_eq, position, Some, None, Bor, ap, refl, ◌∙◌, arith}
use Rattle.std.specs.List.{AllByRecursion, IsDistinct, list_any, position_or_len}
use Rattle.std.proofs.lemmas.Bool.{lt-ltb}
use Rattle.std.proofs.lemmas.Map.Made.{IsDistinct-from_AllPairs}
use Rattle.indexmap.specs.IndexSet.{insert_key}
use Rattle.am_syntax.specs.Readers.{Word}
use Rattle.am_problem.specs.declared.draft.Rule.{Rule as StoredRule}
use Rattle.am_problem.specs.Grammar.{has_name, names_of}
use Rattle.am_problem.specs.Limits.{AreApart}
use Rattle.am_problem.specs.StoredLines.{seen_names, seen_rules}
use Rattle.am_problem.specs.Texts.{number_in}
use Rattle.am_problem.specs.inside.Names.{IsNameOf}
use Rattle.am_problem.proofs.Formed.{is_same, same_decides}
use Rattle.am_problem.proofs.Named.{number_below}

-- ---- the place of a name

-- whether a borrowed name is this one
abbrev is_name_of : Word → Bor (List ℕ) → Bool
is_name_of v k = bytes_eq v k.now

place_seen : (v : Word) (keys : List (Bor (List ℕ))) →
    position_or_len (is_name_of v) keys ≡ number_in (seen_names keys) v
place_seen v [] = refl
place_seen v (k ∷ keys) = ap (λ n. cond (not (bytes_eq v k.now)) (1 + n) 0) (place_seen v keys)

long_seen : (keys : List (Bor (List ℕ))) → length (seen_names keys) ≡ length keys
long_seen [] = refl
long_seen (k ∷ keys) = ap (λ n. suc n) (long_seen keys)

-- a name that is there has its number for its place
pub place_known : (v : Word) (keys : List (Bor (List ℕ))) → IsNameOf (seen_names keys) v →
    position (λ (k : Bor (List ℕ)). bytes_eq v k.now) keys ≡ Some (number_in (seen_names keys) v)
place_known v keys known =
    let below = number_below (seen_names keys) v known in
    let same = place_seen v keys in
    let within : position_or_len (is_name_of v) keys < length keys = omega (arith, below, same, long_seen keys) in
    ap (λ (b : Bool). cond b (Some (position_or_len (is_name_of v) keys)) None) (lt-ltb _ _ within) ∙ ap Some same

-- ---- names put into a set in order

abbrev same_slice : Bor (List ℕ) → Bor (List ℕ) → Bool
same_slice x y = bytes_eq x.now y.now

any_same : (keys : List (Bor (List ℕ))) (v : Bor (List ℕ)) →
    list_any (same_slice v) keys ≡ has_name (seen_names keys) v.now
any_same [] v = refl
any_same (k ∷ keys) v = ap (λ b. bytes_eq v.now k.now || b) (any_same keys v)

seen_push : (keys : List (Bor (List ℕ))) (v : Bor (List ℕ)) →
    seen_names (keys ++ v ∷ []) ≡ seen_names keys ++ v.now ∷ []
seen_push [] v = refl
seen_push (k ∷ keys) v = ap (λ (vs : List Word). k.now ∷ vs) (seen_push keys v)

-- a new name goes last
pub insert_new : (keys : List (Bor (List ℕ))) (v : Bor (List ℕ)) → has_name (seen_names keys) v.now ≡ false →
    seen_names (insert_key same_slice keys v) ≡ seen_names keys ++ v.now ∷ []
insert_new keys v new = ap (λ b. seen_names (cond b keys (keys ++ v ∷ []))) (any_same keys v ∙ new) ∙ seen_push keys v

or_from : (a b : Bool) → a ≡ false → b ≡ false → (a || b) ≡ false
or_from true b h k = absurd cc
or_from false b h k = k

apart_there : (n : Word) (rules : List StoredRule) (i : ℕ) (d : StoredRule) →
    AllByRecursion (λ y. bytes_eq y n ≡ false) (names_of (seen_rules rules)) → i < length rules →
    bytes_eq (get_or rules i d).name.now n ≡ false
apart_there n [] i d h below = absurd (omega (arith, below))
apart_there n (r ∷ rules) zero d h below = h.0
apart_there n (r ∷ rules) (suc i) d h below = apart_there n rules i d h.1 (omega (arith, below))

new_by : (rules : List StoredRule) (i : ℕ) (d : StoredRule) → IsDistinct is_same (names_of (seen_rules rules)) →
    i < length rules → has_name (names_of (seen_rules (take i rules))) (get_or rules i d).name.now ≡ false
unfolding IsDistinct
new_by [] i d h below = absurd (omega (arith, below))
new_by (r ∷ rules) zero d h below = refl
new_by (r ∷ rules) (suc i) d h below =
    or_from (bytes_eq (get_or rules i d).name.now r.name.now)
    (has_name (names_of (seen_rules (take i rules))) (get_or rules i d).name.now)
    (apart_there r.name.now rules i d h.0 (omega (arith, below))) (new_by rules i d h.1 (omega (arith, below)))

-- no earlier rule has a rule's name
pub name_is_new : (rules : List StoredRule) (i : ℕ) (d : StoredRule) → AreApart (names_of (seen_rules rules)) →
    i < length rules → has_name (names_of (seen_rules (take i rules))) (get_or rules i d).name.now ≡ false
name_is_new rules i d apart below =
    new_by rules i d (IsDistinct-from_AllPairs same_decides (names_of (seen_rules rules)) apart) below

grow_suc : (rules : List StoredRule) (i : ℕ) (d : StoredRule) → i < length rules →
    names_of (seen_rules (take (suc i) rules))
    ≡ names_of (seen_rules (take i rules)) ++ (get_or rules i d).name.now ∷ []
grow_suc [] i d below = absurd (omega (arith, below))
grow_suc (r ∷ rules) zero d below = refl
grow_suc (r ∷ rules) (suc i) d below =
    ap (λ (vs : List Word). r.name.now ∷ vs) (grow_suc rules i d (omega (arith, below)))

-- the names of one more rule
pub names_grow : (rules : List StoredRule) (i : ℕ) (d : StoredRule) → i < length rules →
    names_of (seen_rules (take (i + 1) rules))
    ≡ names_of (seen_rules (take i rules)) ++ (get_or rules i d).name.now ∷ []
names_grow rules i d below =
    ap (λ k. names_of (seen_rules (take k rules))) (let e : i + 1 ≡ suc i = omega arith in e) ∙ grow_suc rules i d below
