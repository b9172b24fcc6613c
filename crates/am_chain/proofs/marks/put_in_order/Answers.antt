use Rattle.std.proofs.Common.{◌≡◌, eqb, true, filter, rules}
use Rattle.std.specs.Prelude.{Contains}
use Rattle.std.specs.List.{dedup}
use Rattle.std.specs.List.Sorted.{IsPermutation}
use Rattle.std.proofs.lemmas.Fn.{filter_same}
use Rattle.std.proofs.lemmas.List.Filters.{dedup_is}
use Rattle.std.proofs.lemmas.List.Kept.{Contains-dedup_nat, Contains-from_dedup}
use Rattle.std.proofs.lemmas.List.Elements.{All-contains, All-filter, All-contains_itself, filter_passes}
use Rattle.std.proofs.lemmas.Map.Keys.{IsStrictlyIncreasing-dedup}
use Rattle.std.proofs.lemmas.List.Sorted.{Contains-permutation, IsPermutation-sym}
use Rattle.am_lit.proofs.Laws.{Contains-filter}
use Rattle.am_chain.specs.inside.Marks.{mark_at}
use Rattle.am_chain.proofs.marks.put_in_order.Goals as goal

pub returns-clause-rises : goal.returns-clause-rises
returns-clause-rises c =
    let e : c.dedup.new.self.items ≡ dedup eqb c.sort_unstable.new.self.items =
    dedup_is eqb c.sort_unstable.new.self.items c.dedup.new.self.items c.dedup.ensures.filtered in
    rw e (IsStrictlyIncreasing-dedup c.sort_unstable.new.self.items c.sort_unstable.ensures.sorted)

pub returns-clause-members : goal.returns-clause-members
returns-clause-members c = λ l.
    let test = mark_at c.args.marks.now in
    let kept : c.retain.new.self.items ≡ filter test c.args.touched.now.items =
    filter_same _ test _ (λ x b f' k. search rules) _ _ c.retain.ensures.filtered in
    let e : c.dedup.new.self.items ≡ dedup eqb c.sort_unstable.new.self.items =
    dedup_is eqb c.sort_unstable.new.self.items c.dedup.new.self.items c.dedup.ensures.filtered in
    let p : IsPermutation (filter test c.args.touched.now.items) c.sort_unstable.new.self.items =
    rw kept at c.sort_unstable.ensures.permutation in
    rw e (
      (λ h.
          let there : Contains (filter test c.args.touched.now.items) l =
          Contains-permutation c.sort_unstable.new.self.items _ l (IsPermutation-sym _ c.sort_unstable.new.self.items p)
          (Contains-from_dedup eqb c.sort_unstable.new.self.items l h) in (
            All-contains (Contains c.args.touched.now.items) _ l
                (All-filter test (Contains c.args.touched.now.items) c.args.touched.now.items
                (All-contains_itself c.args.touched.now.items))
                there,
            All-contains (λ x. test x ≡ true) _ l (filter_passes test c.args.touched.now.items) there,
          )),
      (λ h. Contains-dedup_nat c.sort_unstable.new.self.items l
          (Contains-permutation _ c.sort_unstable.new.self.items l p
          (Contains-filter test c.args.touched.now.items l h.0 h.1))),
    )
