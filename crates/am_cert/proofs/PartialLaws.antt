-- A piece some of whose values alone are seen otherwise is exact where the piece is.
use Rattle.std.proofs.Common.{◌≡◌, Ok, ap, subst, sym, ◌∙◌, refl}
use Rattle.std.specs.Prelude.{None, Option, Some}
use Rattle.am_text.specs.Tokens.{Left, words}
use Rattle.am_syntax.specs.Exact.{IsExact, Takes}
use Rattle.am_syntax.specs.Pieces.{Piece}
use Rattle.am_syntax.specs.Readers.{Words, done, onward}
use Rattle.am_syntax.proofs.Laws.{bind_ok, ok_is, seen_advances, seen_alike}
use Rattle.am_cert.specs.Grammar.{good_where, seen_where, spelled_where}

module _ {X Y : Type 0} {p : Piece X} {May : Words → Type 0} (to : X → Y) (from : Y → Option X) (law : IsExact p May)
    (there : (x : X) → from (to x) ≡ Some x) (back : (y : Y) (x : X) → from y ≡ Some x → to x ≡ y) where
  again_where : (s : Left) (y : Y) (u : Left) (o : Option X) → from y ≡ o → good_where p o →
      Takes s (spelled_where p o) u → May (words u) → (seen_where to from p).read s ≡ Ok (y, u)
  again_where s y u None is good taken may = absurd good
  again_where s y u (Some x) is good taken may =
      ap (onward (λ z. done (to z))) (law.again s x u good taken may) ∙ ap (λ (z : Y). Ok (z, u)) (back y x is)

  -- the piece reads exactly the spellings of the values that are seen so
  pub seen_where_law : IsExact (seen_where to from p) May
  seen_where_law = record {
    takes = λ s y u e.
        let f = bind_ok (p.read s) (λ x. done (to x)) (y, u) e in
        let a = law.takes s f.0.0 f.0.1 f.1 in
        let made : Y × Left = (to f.0.0, f.0.1) in
        subst (λ (r : Y × Left). Takes s (spelled_where p (from r.0)) r.1 × good_where p (from r.0))
        (ok_is made (y, u) f.2)
        (subst (λ (o : Option X). Takes s (spelled_where p o) f.0.1 × good_where p o) (sym (there f.0.0)) a);
    again = λ s y u good taken may. again_where s y u (from y) refl good taken may;
    advances = seen_advances p.read to law.advances;
    no_further = seen_alike p.read to law.no_further law.advances;
  }
