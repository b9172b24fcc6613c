-- The product of two domains, of which the first has two fields: a tuple has these and then the fields of the second.
use Rattle.std.specs.Prelude.{ℕ, ◌+◌, List, [], ◌∷◌, ◌++◌, take, drop, slice_index, filter, fold}
use Rattle.std.specs.List.{range_with_len}
use Rattle.std.specs.declared.option.Option.{Option}
use Rattle.std.specs.declared.option.Option.TheVariants.{Some, None}
use Rattle.am_bv.specs.Terms.{rename, ternary}
use Rattle.am_bv.specs.declared.op.Op.TheVariants.{Ite}
use Rattle.am_bv.specs.declared.term.Term.{Term}
use Rattle.am_bv.specs.declared.term.Term.TheVariants.{Const}
use Rattle.am_domain.specs.Abstraction.{Abstraction}
use Rattle.am_domain.specs.Meaning.{Meaning}
use Rattle.am_domain.specs.Laws.{is_member}
use Rattle.am_domain.specs.Walk.{walk}

-- the part of the first domain
abbrev pub first : List ℕ → List ℕ
first p = take 2 p

-- the part of the second domain
abbrev pub second : List ℕ → List ℕ
second p = drop 2 p

-- both parts are values, and the first part's field 0 is a member of the second; the members are those of both
abbrev pub meaning_product : Meaning → Meaning → Meaning
meaning_product a b = record {
  fields = 2 + b.fields;
  Valid = λ w p. a.Valid w (first p) × b.Valid w (second p) × b.Member w (second p) (slice_index p 0);
  Member = λ w p c. a.Member w (first p) c × b.Member w (second p) c;
}

-- the words of the walk of the first part that are members of the second, a value of this domain
abbrev pub common : Abstraction → ℕ → List ℕ → List ℕ → List ℕ
common b w x y = filter (is_member w (b.member_term w) y) (walk w x)

-- the last of a word and further ones
abbrev pub last_of : ℕ → List ℕ → ℕ
last_of c [] = c
last_of c (d ∷ words) = last_of d words

-- the value of a word, joined in order with the value of each further one
abbrev pub join_of_words : Abstraction → ℕ → ℕ → List ℕ → List ℕ
join_of_words b w c words = fold (λ v d. b.join w v (b.of_word w d)) (b.of_word w c) words

-- from the first to the last of some words, and the join of their values; nothing where there are none
abbrev pub hull_of_words : Abstraction → ℕ → List ℕ → Option (List ℕ)
hull_of_words b w [] = None
hull_of_words b w (c ∷ words) = Some (c ∷ last_of c words ∷ join_of_words b w c words)

-- the hull of the common words of two tidied parts; nothing where one of them is nothing
abbrev pub tidy_parts : Abstraction → ℕ → Option (List ℕ) → Option (List ℕ) → Option (List ℕ)
tidy_parts b w None y = None
tidy_parts b w (Some x) None = None
tidy_parts b w (Some x) (Some y) = hull_of_words b w (common b w x y)

-- the second domain's fields as they stand in a pair, and then this field for its word
abbrev pub second_fields : ℕ → ℕ → List ℕ
second_fields count word = range_with_len 2 count ++ word ∷ []

-- the first part is valid, the second is, and the first part's field 0 is a member of the second
abbrev pub pair_valid_term : Abstraction → Abstraction → ℕ → Term
pair_valid_term a b w =
    let count = b.meaning.fields in
    let second = rename (range_with_len 2 count) (b.valid_term w) in
    let meets = rename (second_fields count 0) (b.member_term w) in
    ternary Ite (a.valid_term w) (ternary Ite second meets (Const 0)) (Const 0)

-- the word after the pair's fields is a member of both parts
abbrev pub pair_member_term : Abstraction → Abstraction → ℕ → Term
pair_member_term a b w =
    let count = b.meaning.fields in
    let first = rename (0 ∷ 1 ∷ (2 + count) ∷ []) (a.member_term w) in
    let second = rename (second_fields count (2 + count)) (b.member_term w) in
    ternary Ite first second (Const 0)

-- the product of two domains
abbrev pub domain_product : Abstraction → Abstraction → Abstraction
domain_product a b = record {
  meaning = meaning_product a.meaning b.meaning;
  top = λ w. a.top w ++ b.top w;
  of_word = λ w c. a.of_word w c ++ b.of_word w c;
  some_member = λ w p. slice_index p 0;
  join = λ w p q. a.join w (first p) (first q) ++ b.join w (second p) (second q);
  tidy = λ w p. tidy_parts b w (a.tidy w (first p)) (b.tidy w (second p));
  rank = λ w p. a.rank w (first p) + b.rank w (second p);
  valid_term = pair_valid_term a b;
  member_term = pair_member_term a b;
}
