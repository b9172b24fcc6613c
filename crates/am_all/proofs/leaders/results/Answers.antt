use Rattle.std.proofs.Common.{◌≡◌, length, map, ap, ◌∙◌}
use Rattle.std.proofs.lemmas.List.{length-map}
use Rattle.std.proofs.lemmas.Result.{IfOk-weaker}
use Rattle.am_bv.specs.Words.{AreWords}
use Rattle.am_all.specs.declared.candidates.Candidate.{Candidate}
use Rattle.am_all.specs.inside.Leaders.{tree_numbers}
use Rattle.am_all.specs.inside.Results.{AreResultNumbers}
use Rattle.am_all.proofs.ChoiceLaws.{map-map}
use Rattle.am_all.proofs.Lists.{all-unmap}
use Rattle.am_all.proofs.TupleLaws.{found-numbers, tuple-few, tuple-each}
use Rattle.am_all.proofs.leaders.results.Goals as goal

pub numbers-requires : goal.numbers-requires
numbers-requires c =
    let p = c.args.p.now in
    let tuple = map (λ d. d.now) c.args.tuple.now in
    let trees = map-map (λ (d : Candidate). d.tree) (λ d. d.now) c.args.tuple.now in
    let each = tuple-each p c.args.cases.now tuple c.keeps_limits.ensures c.requires.cases c.requires.tuple
    (rw trees c.requires.trees) in
    let every = all-unmap (λ (d : Candidate).
    (length d.values ≡ length c.args.cases.now) × AreWords p.width d.values) (λ d. d.now) c.args.tuple.now each in
    let few = tuple-few p c.args.cases.now tuple c.keeps_limits.ensures c.requires.few c.requires.tuple in
    record {
      few = rw c.width.ensures (rw length-map at few);
      long = λ k d l. (every k d l).0;
      words = rw c.width.ensures (λ k d l. (every k d l).1);
    }

pub returns : goal.returns
returns c =
    let p = c.args.p.now in
    let tuple = map (λ d. d.now) c.args.tuple.now in
    let trees = map-map (λ (d : Candidate). d.tree) (λ d. d.now) c.args.tuple.now in
    IfOk-weaker c.numbers.result (AreResultNumbers p.width tuple (length c.args.cases.now))
    (λ numbers. numbers ≡ tree_numbers p c.args.cases.now (map (λ d. d.now.tree) c.args.tuple.now))
    (λ numbers found. found-numbers p c.args.cases.now tuple numbers c.requires.tuple found ∙ ap
    (tree_numbers p c.args.cases.now) trees)
    (rw c.width.ensures at c.numbers.ensures)
