use Rattle.std.proofs.Common.{◌≡◌, map, take}
use Rattle.am_all.proofs.ChoiceLaws.{extended}
use Rattle.am_all.proofs.choices.longer.Given as goal

abbrev pub invariant-loop-row : goal.invariant-loop-row
invariant-loop-row g l = map (λ row. map (λ t. t.now) row) l.longer ≡ extended l.list
    (map (λ row. map (λ t. t.now) row) (take l.row-index l.rows))
