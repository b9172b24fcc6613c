use Rattle.std.proofs.Common.{◌≡◌, ◌+◌, ◌++◌, ◌∷◌, [], length}
use Rattle.am_problem.specs.Kinds.{fields_of}
use Rattle.am_query.proofs.Tuples.{AreWordsIn-snoc}
use Rattle.am_query.proofs.statements.Statements.member_test.Goals as goal

pub test-requires-clause-fits : goal.test-requires-clause-fits
test-requires-clause-fits c =
    let p = c.args.self.now in
    let many : length (c.args.tuple ++ c.args.word ∷ []) ≡ fields_of p.kind + 1 =
    (AreWordsIn-snoc p.width (fields_of p.kind) _ c.args.tuple c.args.word c.requires.tuple c.requires.word).many in
    rw (c.width.ensures, c.as_slice.ensures, c.in_ok-push.ensures.ok, many) c.member.ensures.fit
