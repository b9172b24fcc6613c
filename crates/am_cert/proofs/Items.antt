-- Items of lists of pieces that don't see those before them: what holds of all of them, and how they are spelled.
use Rattle.std.proofs.Common.{◌≡◌, List, [], ◌∷◌, ◌++◌, All, flat_map, ap, refl, ◌∙◌}
use Rattle.std.proofs.lemmas.List.Elements.{All-cons, All-head, All-nil, All-tail}
use Rattle.am_syntax.specs.Pieces.{Piece, good_from, spelled_from}
use Rattle.am_syntax.specs.Readers.{Words}

module _ {X : Type 0} (item : List X → Piece X) where
  -- items that are good wherever something holds of them
  pub good_from_all : (P : X → Type 0) → ((seen : List X) (x : X) → P x → (item seen).Good x) → (seen xs : List X) →
      All P xs → good_from item seen xs
  good_from_all P each seen [] h = tt
  good_from_all P each seen (x ∷ xs) h =
      (each seen x (All-head P x xs h), good_from_all P each (seen ++ x ∷ []) xs (All-tail P x xs h))

  -- something holds of all good items
  pub all_from_good : (P : X → Type 0) → ((seen : List X) (x : X) → (item seen).Good x → P x) → (seen xs : List X) →
      good_from item seen xs → All P xs
  all_from_good P each seen [] h = All-nil P
  all_from_good P each seen (x ∷ xs) h =
      All-cons P x xs (each seen x h.0) (all_from_good P each (seen ++ x ∷ []) xs h.1)

  -- items that are spelled so wherever they stand
  pub spelled_each : (words : X → Words) → ((seen : List X) (x : X) → (item seen).spell x ≡ words x) →
      (seen xs : List X) → spelled_from item seen xs ≡ flat_map words xs
  spelled_each words each seen [] = refl
  spelled_each words each seen (x ∷ xs) =
      ap (λ (ws : Words). ws ++ spelled_from item (seen ++ x ∷ []) xs) (each seen x)
      ∙ ap (λ (ws : Words). words x ++ ws) (spelled_each words each (seen ++ x ∷ []) xs)
