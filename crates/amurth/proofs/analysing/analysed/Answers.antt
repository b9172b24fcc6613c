use Rattle.std.proofs.Common.{◌≡◌, Ok}
use Rattle.amurth.proofs.Dues.{answered}
use Rattle.amurth.specs.Analysed.{IsAnalysisDue, analysis_of}
use Rattle.amurth.specs.inside.Analyses.{seen_analysis}
use Rattle.amurth.proofs.analysing.analysed.Goals as goal

pub returns-in-Ok : goal.returns-in-Ok
returns-in-Ok c =
    answered (λ input a. analysis_of input ≡ Ok a) analysis_of IsAnalysisDue c.args.input.now
    (seen_analysis c.in-Ok.analysis)
    (record { short = c.requires; reads = c.in-Ok.ensures.value }) c.matched.result c.matched.ensures
