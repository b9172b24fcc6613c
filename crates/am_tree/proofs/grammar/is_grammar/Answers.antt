use Rattle.std.proofs.Common.{◌∙◌, length, arith}
use Rattle.am_tree.proofs.Formed.{all-below, all-tested}
use Rattle.am_tree.proofs.grammar.is_grammar.Goals as goal

pub returns : goal.returns
returns c =
    let productions = c.are_rules.ensures.0 c.if-not-are_rules.false in (
      λ e. record {
        productions = productions.each;
        starts_in = all-below (length c.args.rules.now) c.args.starts.now (rw c.are_below.ensures at e);
        few_rules = omega arith;
        few_productions = productions.few;
        few_starts = omega arith;
        some_depth = omega arith;
        most_depth = omega arith;
      },
      λ g. c.are_below.ensures ∙ all-tested (length c.args.rules.now) c.args.starts.now g.starts_in,
    )
