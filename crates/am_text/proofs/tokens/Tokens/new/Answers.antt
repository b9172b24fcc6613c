use Rattle.am_text.proofs.Slices.{AreTokensOf-text}
use Rattle.am_text.proofs.tokens.Tokens.new.Goals as goal

pub returns-in-None-clause-tokens : goal.returns-in-None-clause-tokens
returns-in-None-clause-tokens c = AreTokensOf-text c.args.text.now
