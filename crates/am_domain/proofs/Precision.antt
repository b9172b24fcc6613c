-- To be more precise is transitive.
use Rattle.std.proofs.Common.{List}
use Rattle.am_bv.specs.declared.term.Term.{Term}
use Rattle.am_domain.specs.Question.{Question, Betters}

-- what is more precise than a more precise transformer is more precise than the first
pub Betters-trans : (q : Question) (a b c : List Term) → Betters q a b → Betters q b c → Betters q a c
Betters-trans q a b c first second =
    let e = first.strict in
    record {
      within = λ inputs h word below member.
          second.within inputs h word below (first.within inputs h word below member);
      strict = record {
        inputs = e.inputs;
        are_inputs = e.are_inputs;
        word = e.word;
        below = e.below;
        member = second.within e.inputs e.are_inputs e.word e.below e.member;
        no_member = e.no_member;
      };
    }
