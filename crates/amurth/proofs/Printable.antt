-- The terms of a transformer can be printed.
use Rattle.std.proofs.Common.{◌≤◌, ◌<◌, ◌^◌, List, arith, lit≤, refl}
use Rattle.std.specs.List.{All}
use Rattle.std.proofs.lemmas.List.Elements.{All-weaker}
use Rattle.std.specs.Prelude.{IsTrue}
use Rattle.am_bv.specs.Terms.{fits}
use Rattle.am_bv.specs.declared.term.Term.{Term}
use Rattle.am_problem.specs.Limits.{IsProblem}
use Rattle.am_problem.specs.Problem.{Problem}
use Rattle.am_problem.proofs.Laws.{derivable_terms_fit, rows_are_short}
use Rattle.am_problem.specs.Examples.{all_fields}
use Rattle.am_query.specs.Transformers.{IsTransformerOf}
use Rattle.am_syntax.specs.Spelling.{FitsSomewhere}
use Rattle.am_syntax.specs.declared.limits.Letter.TheVariants.{F}
use Rattle.am_tree.specs.Trees.{AreTrees, terms_of}
use Rattle.am_tree.specs.declared.tree.Tree.{Tree}

-- the terms of a transformer can be printed
pub transformer_printable : (p : Problem) → IsProblem p → (terms : List Term) → IsTransformerOf p terms →
    All FitsSomewhere terms
transformer_printable p is terms derivable =
    let large : 13 ≤ 2 ^ 64 = lit≤ tt in
    let few : all_fields p < 2 ^ 64 = omega (arith, rows_are_short p is.formed, large) in
    All-weaker (λ t. IsTrue (fits p.width (all_fields p) t)) FitsSomewhere (λ t fit. record {
      scope = record { width = p.width; letter = F; variables = all_fields p };
      is = record { width = is.formed.width.1; variables = few };
      fit = fit;
    }) terms (derivable_terms_fit p is.formed terms derivable).fit

-- the terms of trees that derive can be printed
pub trees_printable : (p : Problem) → IsProblem p → (ts : List Tree) → AreTrees p.rules p.starts p.depth ts →
    All FitsSomewhere (terms_of p.rules p.starts ts)
trees_printable p is ts derive =
    transformer_printable p is (terms_of p.rules p.starts ts) (record { trees = ts; derive = derive; give = refl })
