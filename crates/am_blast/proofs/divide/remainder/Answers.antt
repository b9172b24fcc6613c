use Rattle.am_blast.proofs.Division.{Follows-remainder, IsWord-low}
use Rattle.am_blast.proofs.divide.remainder.Goals as goal

pub returns-clause-ok : goal.returns-clause-ok
returns-clause-ok c =
    let divided = c.in_ok-remainder.ensures.ok in
    rw (c.in_ok-low.ensures, c.as_slice.ensures)
    record {
      follows = Follows-remainder c.args.a.now c.args.b.now _ _ _ divided.follows;
      given = IsWord-low _ _ _ _ c.requires.words.lengths divided.given.1;
      grows = divided.grows;
    }
