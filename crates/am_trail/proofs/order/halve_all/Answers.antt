use Rattle.std.proofs.Common.{◌/◌, ◌<◌, length, get_or, arith}
use Rattle.std.proofs.lemmas.List.Edits.{map_over_more}
use Rattle.std.proofs.lemmas.List.{get_or_default}
use Rattle.am_trail.proofs.order.halve_all.Goals as goal

pub loop-activity-preserved : goal.loop-activity-preserved
loop-activity-preserved c =
    let i = c.loop-activity.activity-index in
    let within : i < length c.args.activities.now = omega arith in
    let here : i < length c.loop-activity.activities = omega arith in
    map_over_more (λ a. a / 2) c.args.activities.now c.loop-activity.activities i
    (get_or c.loop-activity.activities i 0) within c.loop-activity.invariant
    (get_or_default c.loop-activity.activities i 0 (get_or c.loop-activity.activities i 0) here)
