-- Two members of a value in the order of its walk have the part between them.
use Rattle.std.proofs.Common.{◌≡◌, ℕ, ◌^◌, ◌<◌, ◌≤◌, List, [], ◌∷◌, slice_index, subst, sym}
use Rattle.am_bv.specs.Words.{IsWidth}
use Rattle.am_domain.specs.Abstraction.{Abstraction}
use Rattle.am_domain.specs.AnchoredLaws.{IsPart, WalksMembers}
use Rattle.am_domain.specs.Meaning.{IsAbstract}
use Rattle.am_domain.specs.Tuple.{IsTuple}
use Rattle.am_domain.specs.Walk.{steps}
use Rattle.am_domain.proofs.Tuples.{pair-IsTuple}
use Rattle.am_domain.proofs.Walks.{Contains-walk, part-between}

-- what the members of a part are follows from what those of all values are, where the two words are a value
pub part-IsPart : (d : Abstraction) → d.meaning.fields ≡ 2 → WalksMembers d → (w : ℕ) → IsWidth w → (a : List ℕ) →
    IsAbstract d.meaning w a → (c e : ℕ) → c < 2 ^ w → e < 2 ^ w →
    steps w (slice_index a 0) c ≤ steps w (slice_index a 0) e →
    d.meaning.Valid w (c ∷ e ∷ []) → IsPart d.meaning w (slice_index a 0) c e
part-IsPart d two walks w width a h c e hc he order valid = record {
  valid = valid;
  members = λ x hx.
      let ends = pair-IsTuple w c e hc he in
      let value : IsAbstract d.meaning w (c ∷ e ∷ []) =
      record { tuple = subst (λ n. IsTuple w n (c ∷ e ∷ [])) (sym two) ends; valid = valid } in
      let member = walks w width (c ∷ e ∷ []) value x hx in
      let among = Contains-walk w (c ∷ e ∷ []) x ends hx in
      let within = part-between w (slice_index a 0) c e x (h.tuple.words 0) hc he hx order in
      (λ m. within.0 (among.0 (member.0 m)), λ between. member.1 (among.1 (within.1 between)));
}
