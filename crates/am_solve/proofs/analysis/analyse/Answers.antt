use Rattle.std.proofs.Common.{arith, ◌≡◌, ◌-◌, ◌∙◌, ◌++◌, [], ap, get_or, take}
use Rattle.std.specs.List.Sorted.{IsStrictlyIncreasing}
use Rattle.std.proofs.lemmas.List.{length-map}
use Rattle.std.proofs.lemmas.List.Elements.{All-get_or, All-weaker}
use Rattle.am_lit.specs.Clause.{IsNormal}
use Rattle.am_lit.specs.UnitRow.{IsSettled}
use Rattle.am_trail.specs.Trails.{literals, upto}
use Rattle.am_trail.proofs.Laws.{consistent}
use Rattle.am_solve.proofs.Levels.{implied_above, low_literals, reaches}
use Rattle.am_solve.proofs.analysis.analyse.Goals as goal

pub first_unique-requires : goal.first_unique-requires
first_unique-requires c =
    let t = c.args.trail.now in
    let es = t.entries in
    let clauses = c.args.given.now ++ c.args.learnt.now in
    let start = c.count_upto-start.result in
    let one : c.level.result - 1 ≡ t.level - 1 = ap (λ n. n - 1) c.level.ensures in
    let low : literals (upto (t.level - 1) es) ≡ take start (literals es) =
    low_literals es (t.level - 1) start (c.count_upto-start.ensures.prefix ∙ ap (λ n. upto n es) one) in
    let settled : IsSettled (literals (upto (t.level - 1) es)) (get_or clauses c.args.conflict []) =
    All-get_or (IsSettled (literals (upto (t.level - 1) es))) clauses c.args.conflict [] c.requires.number
    (c.requires.below (t.level - 1) (omega arith)) in
    let there =
    reaches (literals es) (get_or clauses c.args.conflict []) start (consistent t c.known.ensures)
    (rw low at settled) c.requires.untrue in
    record {
      conflict = record {
        number = c.requires.number;
        untrue = c.requires.untrue;
        rise = All-weaker (IsNormal t.vars) IsStrictlyIncreasing (λ x n. n.rising) clauses c.requires.normal;
        explained = c.requires.explained;
      };
      leads = record {
        implied =
            implied_above es t.level start c.known.ensures.leads
            (λ k d le lt. let up = c.count_upto-start.ensures.above k d le lt in omega (arith, up, one));
        reaches = (there.0, there.1, omega (arith, there.2, length-map es (λ e. e.literal)), there.3);
      };
    }

pub returns : goal.returns
returns c =
    let t = c.args.trail.now in
    let es = t.entries in
    let one : c.level.result - 1 ≡ t.level - 1 = ap (λ n. n - 1) c.level.ensures in
    record {
      marks = c.in_ok-found.ensures.0;
      start = c.count_upto-start.result;
      low =
          low_literals es (t.level - 1) c.count_upto-start.result
          (c.count_upto-start.ensures.prefix ∙ ap (λ n. upto n es) one);
      unique = c.in_ok-found.ensures.1;
    }
