use Rattle.amurth.proofs.AnalysisLaws.{input_short}
use Rattle.amurth.proofs.inputs.read_text.Goals as goal

pub read_drafts-requires : goal.read_drafts-requires
read_drafts-requires c = input_short c.args.text.now c.in_ok-cursor.cursor c.in_ok-cursor.ensures.ok c.requires
