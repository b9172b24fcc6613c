use Rattle.std.proofs.Common.{refl, subst, sym, ◌∙◌}
use Rattle.std.specs.Prelude.{IsSome}
use Rattle.am_problem.proofs.Indexing.{place_known}
use Rattle.am_problem.proofs.numbering.number_name.Goals as goal

pub unwrap-requires : goal.unwrap-requires
unwrap-requires c =
    subst IsSome
    (sym (c.get_index_of.ensures.index ∙ place_known c.args.name.now c.args.names.now.keys c.requires.known)) refl

pub returns : goal.returns
returns c =
    let place = place_known c.args.name.now c.args.names.now.keys c.requires.known in
    let found = sym c.unwrap.ensures ∙ c.get_index_of.ensures.index ∙ place in
    cc
