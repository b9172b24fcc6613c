use Rattle.std.proofs.Common.{◌≡◌, inr, refl, rules, subst}
use Rattle.amurth.specs.Analysed.{IsFirstFault}
use Rattle.amurth.specs.declared.analysing.Unaccepted.TheVariants.{Rejected}
use Rattle.amurth.proofs.AnalysisDues.{first_of}
use Rattle.amurth.proofs.analysing.accepted.Goals as goal

pub returns-in_ok-fault_line-in-Err-Rejected : goal.returns-in_ok-fault_line-in-Err-Rejected
returns-in_ok-fault_line-in-Err-Rejected c =
    let number = c.in-Err-Rejected.number in
    let fault = c.in-Err-Rejected.fault in
    let same : c.in-Err-Rejected.field-0 ≡ Rejected number fault = search rules in
    let found = first_of c.as_slice-certificates.result.now c.in-Err-Rejected.field-0 number fault same
    c.in-Err-Rejected.ensures.rejected in
    inr (inr (record {
      ended = refl;
      fit = c.requires.fit;
      number = number;
      fault = fault;
      first = subst (λ cs. IsFirstFault cs number fault) c.as_slice-certificates.ensures.value found;
      wrote = search rules;
    }))
