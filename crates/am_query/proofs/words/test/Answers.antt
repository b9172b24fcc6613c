use Rattle.am_query.proofs.Calls.{GivesStep-test}
use Rattle.am_query.proofs.words.test.Goals as goal

pub returns : goal.returns
returns c =
    let value = c.in_ok-value.ensures.ok in
    let nonzero = rw (c.as_slice.ensures, value.given.bits) at c.in_ok-l.ensures.ok in
    GivesStep-test c.args.term.now c.args.words.now value nonzero
