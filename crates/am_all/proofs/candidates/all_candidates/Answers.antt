use Rattle.std.proofs.Common.{◌+◌, List, [], ◌∷◌, ◌++◌, take, get_or}
use Rattle.std.specs.List.{AllZip}
use Rattle.std.proofs.lemmas.List.{take_more}
use Rattle.am_all.specs.inside.Candidates.{AreCandidates}
use Rattle.am_all.proofs.candidates.all_candidates.Goals as goal

-- two lists, place by place, with an item more each
zip-push : {A B : Type 0} (R : A → B → Type 0) (xs : List A) (ys : List B) (x : A) (y : B) → AllZip R xs ys → R x y →
    AllZip R (xs ++ x ∷ []) (ys ++ y ∷ [])
zip-push R [] [] x y h r = (r, tt)
zip-push R [] (b ∷ ys) x y h r = absurd h
zip-push R (a ∷ xs) [] x y h r = absurd h
zip-push R (a ∷ xs) (b ∷ ys) x y h r = (h.0, zip-push R xs ys x y h.1 r)

pub loop-start-preserved : goal.loop-start-preserved
loop-start-preserved c =
    let p = c.args.p.now in
    let i = c.loop-start.start-index in
    let starts = c.as_slice-start-items.result.now in
    let R = AreCandidates p c.args.cases.now in
    let grown = zip-push R (take i starts) c.loop-start.lists (get_or starts i 0) c.in_ok-candidates.field-0
    c.loop-start.invariant c.in_ok-candidates.ensures in
    let whole : AllZip R (take (i + 1) starts) c.push.new.self =
    rw (c.in_ok-push.ensures.ok, take_more starts i 0 c.loop-start-test.true) grown in
    whole
