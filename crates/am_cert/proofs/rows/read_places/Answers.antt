use Rattle.std.proofs.Common.{◌≤◌, ◌^◌, [], map, subst, sym, refl}
use Rattle.std.proofs.Math.Nat.{min-le_right}
use Rattle.am_syntax.specs.Pieces.{below, is_number_next, repeat_from}
use Rattle.am_syntax.specs.Readers.{Makes}
use Rattle.am_syntax.proofs.Laws.{moves_on}
use Rattle.am_cert.specs.Grammar.{place_after}
use Rattle.am_cert.proofs.RowLaws.{each_place_law, place_moves}
use Rattle.am_cert.proofs.Steps.{makes_same}
use Rattle.am_cert.proofs.rows.read_places.Goals as goal

pub read_list-requires : goal.read_list-requires
read_list-requires c =
    let few : c.min.result ≤ 2 ^ 32 =
    subst (λ m. m ≤ 2 ^ 32) (sym c.min.ensures) (min-le_right c.args.count (2 ^ 32)) in
    λ k. (
      (refl, tt),
      (
        few,
        moves_on (each_place_law c.min.result few) (place_moves c.min.result few),
      ),
    )

pub returns : goal.returns
returns c =
    makes_same c.read_list.result c.args.text.now c.read_list.new.text _
    (subst (λ m. Makes (map (λ n. n)) c.read_list.result c.args.text.now c.read_list.new.text
    (repeat_from is_number_next (λ seen. (below (place_after seen) m).read) [])) c.min.ensures
    c.read_list.ensures.read)
