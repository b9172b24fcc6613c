-- Which tuples of trees are best, by the numbers of their results.
use Rattle.std.proofs.Common.{◌≡◌, ℕ, inl, inr, List, length, refl, sym, ◌∙◌, subst, arith}
use Rattle.std.specs.Prelude.{Contains}
use Rattle.std.specs.List.{Any}
use Rattle.std.proofs.lemmas.List.Elements.{All-contains}
use Rattle.am_domain.specs.Question.{Betters, IsSound}
use Rattle.am_problem.specs.Limits.{IsProblem}
use Rattle.am_problem.specs.Problem.{Problem, question_of}
use Rattle.am_tree.specs.declared.tree.Tree.{Tree}
use Rattle.am_tree.specs.Trees.{AreTrees, terms_of}
use Rattle.am_all.specs.AllBest.{GivesBest}
use Rattle.am_tree.specs.Listed.{tuples_of}
use Rattle.am_all.specs.declared.cases.Case.{Case}
use Rattle.am_all.specs.declared.word_set.WordSet.{WordSet}
use Rattle.am_all.specs.inside.Leaders.{AreFacts, AreLeaders, IsLeading, IsLed, IsResult, all_numbers, tree_numbers}
use Rattle.am_all.specs.inside.Results.{IsBeyond, IsCovering, IsResultInside}
use Rattle.am_all.proofs.Deciding.{beyond-exceeds, covering-sound, inside-within, missing-unsound, numbers-result}
use Rattle.am_all.proofs.Deciding.{sound-covering, within-inside}
use Rattle.am_all.proofs.Lists.{any-all, any-contains}
use Rattle.am_all.proofs.PickLaws.{any-map}
use Rattle.am_all.proofs.TreeLaws.{tuples-listed}
use Rattle.am_all.proofs.TupleLaws.{trees-terms}

-- to be inside is transitive, among results of one length
pub inside-trans : (sets : List WordSet) (a b c : List ℕ) → length a ≡ length b → IsResultInside sets a b →
    IsResultInside sets b c → IsResultInside sets a c
inside-trans sets a b c same first second i l word has = second i (omega (arith, l, same)) word (first i l word has)

module _ (p : Problem) (sets : List WordSet) (cases : List Case) (leaders : List (List ℕ)) (limits : IsProblem p)
    (facts : AreFacts p sets cases)
    (lead : AreLeaders cases sets (all_numbers p cases) leaders) where
  -- the numbers of each tuple of trees are listed
  tree-listed : (ts : List Tree) → AreTrees p.rules p.starts p.depth ts →
      Contains (all_numbers p cases) (tree_numbers p cases ts)
  tree-listed ts are =
      let stands = (tuples-listed p.rules p.starts p.depth ts).1 are in
      (any-contains (all_numbers p cases) (tree_numbers p cases ts)).1
      ((any-map (λ ns. ns ≡ tree_numbers p cases ts) (tree_numbers p cases) (tuples_of p.rules p.starts p.depth)).1
      (stands.0, ts, stands.1, stands.2, refl))

  -- listed numbers are those of some tuple of trees
  listed-tree : (numbers : List ℕ) → Contains (all_numbers p cases) numbers →
      (ts : List Tree) × AreTrees p.rules p.starts p.depth ts × (tree_numbers p cases ts ≡ numbers)
  listed-tree numbers h =
      let found = (any-map (λ ns. ns ≡ numbers) (tree_numbers p cases) (tuples_of p.rules p.starts p.depth)).0
      ((any-contains (all_numbers p cases) numbers).0 h) in
      (found.1, (tuples-listed p.rules p.starts p.depth found.1).0 (found.0, found.2, found.3), found.4)

  -- a tuple that leads is best
  pub leading-best : (ts : List Tree) → AreTrees p.rules p.starts p.depth ts →
      IsLeading cases sets leaders (tree_numbers p cases ts) → GivesBest p ts
  leading-best ts are leading =
      let terms = terms_of p.rules p.starts ts in
      let is = trees-terms p limits ts are in
      record {
        derivable = record { trees = ts; derive = are; give = refl };
        sound = covering-sound p sets cases limits facts terms is leading.cover;
        unbettered = λ other derivable sound betters.
            let us = derivable.trees in
            let others = terms_of p.rules p.starts us in
            let is' = trees-terms p limits us derivable.derive in
            let sound' : IsSound (question_of p) others = subst (IsSound (question_of p)) derivable.give sound in
            let betters' : Betters (question_of p) others terms =
            subst (λ os. Betters (question_of p) os terms) derivable.give betters in
            let covers = sound-covering p sets cases limits facts others is' sound' in
            let led = All-contains (λ numbers. IsCovering cases sets numbers →
            Any (λ leader. IsResultInside sets leader numbers) leaders) (all_numbers p cases)
            (tree_numbers p cases us) lead.lead (tree-listed us derivable.derive) covers in
            let found = any-all (IsResult (length cases) (length sets))
            (λ leader. IsResultInside sets leader (tree_numbers p cases us)) leaders lead.results led in
            let leader = found.1 in
            let number = numbers-result p sets cases limits facts terms is in
            let number' = numbers-result p sets cases limits facts others is' in
            let inner : IsResultInside sets (tree_numbers p cases us) (tree_numbers p cases ts) =
            within-inside p sets cases limits facts others terms is' is betters'.within in
            let below : IsResultInside sets leader (tree_numbers p cases ts) =
            inside-trans sets leader (tree_numbers p cases us) (tree_numbers p cases ts)
            (found.4.0.counted ∙ sym number'.counted) found.4.1 inner in
            let back : IsResultInside sets (tree_numbers p cases ts) leader =
            All-contains (λ leader. IsResultInside sets leader (tree_numbers p cases ts) →
            IsResultInside sets (tree_numbers p cases ts) leader) leaders leader leading.unled
            (found.0, found.2, found.3) below in
            let whole : IsResultInside sets (tree_numbers p cases ts) (tree_numbers p cases us) =
            inside-trans sets (tree_numbers p cases ts) leader (tree_numbers p cases us)
            (number.counted ∙ sym found.4.0.counted) back found.4.1 in
            let within = inside-within p sets cases limits facts terms others is is' whole in
            let e = betters'.strict in
            e.no_member (within e.inputs e.are_inputs e.word e.below e.member);
      }

  -- a tuple with a leader strictly inside it isn't
  above-not_best : (ts : List Tree) → AreTrees p.rules p.starts p.depth ts → (leader : List ℕ) →
      Contains (all_numbers p cases) leader → IsCovering cases sets leader →
      IsResultInside sets leader (tree_numbers p cases ts) → IsBeyond sets (tree_numbers p cases ts) leader → ¬
      GivesBest p ts
  above-not_best ts are leader stands cover inside beyond best =
      let tree = listed-tree leader stands in
      let us = tree.0 in
      let terms = terms_of p.rules p.starts ts in
      let others = terms_of p.rules p.starts us in
      let is = trees-terms p limits ts are in
      let is' = trees-terms p limits us tree.1 in
      let same : tree_numbers p cases us ≡ leader = tree.2 in
      best.unbettered others (record { trees = us; derive = tree.1; give = refl })
      (covering-sound p sets cases limits facts others is' (subst (IsCovering cases sets) (sym same) cover))
      (record {
        within = inside-within p sets cases limits facts others terms is' is
            (subst (λ ns. IsResultInside sets ns (tree_numbers p cases ts)) (sym same) inside);
        strict = beyond-exceeds p sets cases limits facts terms others is is'
            (subst (IsBeyond sets (tree_numbers p cases ts)) (sym same) beyond);
      })

  -- a tuple that is led isn't best
  pub led-not_best : (ts : List Tree) → AreTrees p.rules p.starts p.depth ts →
      IsLed cases sets leaders (tree_numbers p cases ts) → ¬ GivesBest p ts
  led-not_best ts are (inl missing) best =
      missing-unsound p sets cases limits facts (terms_of p.rules p.starts ts)
      (trees-terms p limits ts are) missing best.sound
  led-not_best ts are (inr above) best =
      let found = any-all (Contains (all_numbers p cases))
      (λ leader. IsResultInside sets leader (tree_numbers p cases ts) × IsBeyond sets (tree_numbers p cases ts) leader)
      leaders lead.stand above in
      let cover = All-contains (IsCovering cases sets) leaders found.1 lead.cover (found.0, found.2, found.3) in
      above-not_best ts are found.1 found.4.0 cover found.4.1.0 found.4.1.1 best
