-- Members of tuples, and abstract values, as loops over words and numbers find them.
use Rattle.std.proofs.Common.{◌≡◌, ℕ, ◌+◌, ◌*◌, ◌^◌, ◌<◌, ◌≤◌, ◌⊎◌, ◌↔◌, inl, inr, List, [], ◌∷◌, ◌++◌, length, map}
use Rattle.std.proofs.Common.{sym, ap, ◌∙◌, subst, arith}
use Rattle.std.specs.Prelude.{All, Contains}
use Rattle.std.proofs.lemmas.Bool.{cases_eq}
use Rattle.std.proofs.lemmas.List.{map_push}
use Rattle.std.proofs.lemmas.List.Elements.{All-push, Contains-append_left, Contains-push}
use Rattle.am_problem.specs.Kinds.{fields_of, meaning_of}
use Rattle.am_problem.specs.Problem.{Problem}
use Rattle.am_all.specs.declared.values.Value.{Value}
use Rattle.am_all.specs.inside.Numbers.{words_at, tuple_number}
use Rattle.am_all.specs.inside.Values.{AreAllValues, IsAbstractValue}
use Rattle.am_all.proofs.NumberLaws.{words_at-number_of, number_of-below}

-- one word more, which is a member
pub with_word : (H H' M : ℕ → Type 0) (k : ℕ) → ((c : ℕ) → H c ↔ ((c < k) × M c)) → M k →
    ((c : ℕ) → H' c ↔ ((c ≡ k) ⊎ H c)) → (c : ℕ) → H' c ↔ ((c < k + 1) × M c)
with_word H H' M k has here grown c = (
  λ h. elim ((grown c).0 h) [
    | inl e ↦ (omega (arith, e), subst M (sym e) here)
    | inr old ↦ (omega (arith, ((has c).0 old).0), ((has c).0 old).1)
  ],
  λ m. (grown c).1 (elim (cases_eq c k) [ inl e ↦ inl e | inr ne ↦ inr ((has c).1 (omega (arith, m.0), m.1)) ]),
)

-- one word more, which is no member
pub without_word : (H M : ℕ → Type 0) (k : ℕ) → ((c : ℕ) → H c ↔ ((c < k) × M c)) → ¬ M k → (c : ℕ) → H c ↔
    ((c < k + 1) × M c)
without_word H M k has none c = (
  λ h. (omega (arith, ((has c).0 h).0), ((has c).0 h).1),
  λ m. elim (cases_eq c k) [ inl e ↦ absurd (none (subst M e m.1)) | inr ne ↦ (has c).1 (omega (arith, m.0), m.1) ],
)

-- one number more

-- the abstract values below a number
pub record Found (p : Problem) (values : List Value) (number : ℕ) : Type 0 where
  pub each : All (IsAbstractValue p) values
  pub all : (n : ℕ) → n < number → (meaning_of p.kind).Valid p.width (words_at p.width (fields_of p.kind) n) →
      Contains (map (λ v. v.fields) values) (words_at p.width (fields_of p.kind) n)

-- the tuple of the number is an abstract value
pub found_valid : (p : Problem) (values : List Value) (number : ℕ) (v : Value) → Found p values number → IsAbstractValue
    p v →
    v.fields ≡ words_at p.width (fields_of p.kind) number → Found p (values ++ v ∷ []) (number + 1)
found_valid p values number v found is e =
    let fields = λ (v : Value). v.fields in
    record {
      each = All-push (IsAbstractValue p) values v found.each is;
      all = λ n below valid. elim (cases_eq n number) [
        | inl same ↦
            rw (map_push fields values v, e, same)
            (Contains-push (map fields values) (words_at p.width (fields_of p.kind) number))
        | inr ne ↦
            rw (map_push fields values v) (Contains-append_left (map fields values) (v.fields ∷ [])
            (words_at p.width (fields_of p.kind) n) (found.all n (omega (arith, below)) valid))
      ];
    }

-- the tuple of the number is none
pub found_invalid : (p : Problem) (values : List Value) (number : ℕ) → Found p values number →
    ¬ (meaning_of p.kind).Valid p.width (words_at p.width (fields_of p.kind) number) → Found p values (number + 1)
found_invalid p values number found none = record {
  each = found.each;
  all = λ n below valid. elim (cases_eq n number) [
    | inl same ↦ absurd (none (subst
        (λ k. (meaning_of p.kind).Valid p.width (words_at p.width (fields_of p.kind) k)) same valid))
    | inr ne ↦ found.all n (omega (arith, below)) valid
  ];
}

-- all numbers
pub found_all : (p : Problem) (values : List Value) (number : ℕ) → Found p values number →
    2 ^ (p.width * fields_of p.kind) ≤ number → AreAllValues p values
found_all p values number found past = record {
  each = found.each;
  all = λ a is.
      let n = tuple_number p.width a in
      let below : n < 2 ^ (p.width * length a) = number_of-below p.width a is.tuple.words in
      let power : 2 ^ (p.width * length a) ≡ 2 ^ (p.width * fields_of p.kind) =
      ap (λ k. 2 ^ (p.width * k)) is.tuple.counted in
      let same : words_at p.width (fields_of p.kind) n ≡ a =
      ap (λ k. words_at p.width k n) (sym is.tuple.counted) ∙ words_at-number_of p.width a is.tuple.words in
      subst (Contains (map (λ v. v.fields) values)) same
      (found.all n (omega (arith, below, power, past)) (subst ((meaning_of p.kind).Valid p.width) (sym same) is.valid));
}
