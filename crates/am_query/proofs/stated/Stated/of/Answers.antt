use Rattle.am_query.proofs.stated.Stated.of.Goals as goal

pub returns-clause-determined : goal.returns-clause-determined
returns-clause-determined c = c.finish.ensures.determined c.args.base c.requires
