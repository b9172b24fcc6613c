use Rattle.std.proofs.Common.{ℕ, List, [], ◌∷◌, ◌++◌, Bor, map, take, ap, refl, sym, ◌∙◌}
use Rattle.am_problem.specs.StoredLines.{seen_names}
use Rattle.am_problem.specs.Texts.{number_in}
use Rattle.am_problem.specs.inside.Names.{IsNameOf, names_in}
use Rattle.am_problem.proofs.Lists.{made_holds, map_grows}
use Rattle.am_problem.proofs.numbering.number_names.Goals as goal

pub number_name-requires-clause-known : goal.number_name-requires-clause-known
number_name-requires-clause-known c =
    made_holds (IsNameOf (names_in c.args.names.now)) (λ (v : Bor (List ℕ)). v.now) c.args.row.now
    c.loop-name.name-index
    _ _ c.requires.known c.loop-name-test.true refl

pub loop-name-preserved : goal.loop-name-preserved
loop-name-preserved c =
    let f = number_in (seen_names c.args.names.now.keys) in
    let before = map f (seen_names (take c.loop-name.name-index c.args.row.now)) in
    c.in_ok-push.ensures.ok
    ∙ ap (λ (ns : List ℕ). ns ++ c.number_name.result ∷ []) c.loop-name.invariant
    ∙ ap (λ (n : ℕ). before ++ n ∷ []) c.number_name.ensures
    ∙ sym (map_grows f (λ (v : Bor (List ℕ)). v.now) c.args.row.now c.loop-name.name-index _ c.loop-name-test.true)
