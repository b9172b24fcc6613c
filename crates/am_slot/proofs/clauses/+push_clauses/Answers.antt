use Rattle.std.proofs.Common.{◌-◌, ◌+◌, ◌<◌, ℕ, List, ◌++◌, length, length-append, append_assoc, sym, ◌∙◌, ap, arith}
use Rattle.am_slot.specs.Selectors.{widths}
use Rattle.am_slot.specs.Clauses.{symbols, level_clauses, next_asked, clauses_from}
use Rattle.am_slot.proofs.Derived.{symbols-next}
use Rattle.am_slot.proofs.Levels.{room-widths, room-above}
use Rattle.am_slot.proofs.Listing.{level-most, clauses-above, clauses-zero}
use Rattle.am_slot.proofs.Tables.{next-whole}
use Rattle.am_slot.proofs.clauses.+push_clauses.Goals as goal

pub push_level-requires-clause-selectors : goal.push_level-requires-clause-selectors
push_level-requires-clause-selectors t c =
    omega (arith, room-widths c.args.rules.now c.args.below (symbols c.args.level.now), c.requires.selectors)

pub push_level-requires-clause-room : goal.push_level-requires-clause-room
push_level-requires-clause-room t c =
    omega (arith, level-most c.args.rules.now c.args.below c.args.x c.args.level.now, c.requires.room)

pub next_asked-requires-clause-selectors : goal.next_asked-requires-clause-selectors
next_asked-requires-clause-selectors t c =
    omega (arith, room-widths c.args.rules.now c.args.below (symbols c.args.level.now), c.requires.selectors)

pub push_clauses-requires : goal.push_clauses-requires
push_clauses-requires t c =
    let rules = c.args.rules.now in
    let below = c.args.below in
    let x = c.args.x in
    let level = c.args.level.now in
    let ns = symbols level in
    let pos : 0 < below = omega arith in
    let same = c.as_slice.ensures.value ∙ c.in_ok-next.ensures in
    let first = c.in_ok-end.ensures.clauses in
    let end = c.in_ok-end.ensures.end in (
      omega arith,
      (
        c.requires.whole,
        (
          rw (same, symbols-next rules below x level) (next-whole rules below ns c.requires.whole),
          (
            rw (same, symbols-next rules below x level, end)
                (omega (arith, room-above rules below ns pos, c.requires.selectors)),
            rw (same, first, end) (omega (
              arith,
              ap (λ (cs : List (List ℕ)). length cs) (clauses-above rules below x level pos),
              length-append c.args.clauses.now (level_clauses rules below x level),
              length-append (level_clauses rules below x level)
                  (clauses_from rules (below - 1) (x + widths rules below ns) (next_asked rules below x level)),
              c.requires.room,
            )),
          ),
        ),
      ),
    )

pub returns-in_ok-push_clauses : goal.returns-in_ok-push_clauses
returns-in_ok-push_clauses t c =
    let rules = c.args.rules.now in
    let below = c.args.below in
    let level = c.args.level.now in
    let pos : 0 < below = omega arith in
    let same = c.as_slice.ensures.value ∙ c.in_ok-next.ensures in
    let last = rw (same, c.in_ok-end.ensures.clauses, c.in_ok-end.ensures.end) at c.in_ok-push_clauses.ensures in
    last
    ∙ append_assoc c.args.clauses.now (level_clauses rules below c.args.x level)
    (clauses_from rules (below - 1) (c.args.x + widths rules below (symbols level))
    (next_asked rules below c.args.x level))
    ∙ ap (λ (cs : List (List ℕ)). c.args.clauses.now ++ cs) (sym (clauses-above rules below c.args.x level pos))

pub returns-else-below-gt0 : goal.returns-else-below-gt0
returns-else-below-gt0 t c =
    c.in_ok-end.ensures.clauses
    ∙ ap (λ (cs : List (List ℕ)). c.args.clauses.now ++ cs)
    (sym (clauses-zero c.args.rules.now c.args.below c.args.x c.args.level.now c.if-below-gt0.false))
