-- Sound transformers satisfy true examples, and better ones exclude what worse ones do.
use Rattle.std.proofs.Common.{List, get_or, arith}
use Rattle.std.specs.List.{All}
use Rattle.am_bv.specs.declared.term.Term.{Term}
use Rattle.am_domain.specs.Question.{Question, IsSound, IsWithin}
use Rattle.am_domain.specs.Examples.{Positive, Negative, IsTrueExample, IsValidExample, Covers, Excludes}
use Rattle.am_domain.specs.CentralLaw.{SoundCovers, BetterExcludes, NoneIsSound, NoneBetters}

-- a sound transformer covers true examples
pub sound_covers : (q : Question) → SoundCovers q
sound_covers q terms sound e is_true = sound e.inputs is_true.inputs e.words is_true.members is_true.assumed

-- a more precise transformer excludes what the other one does
pub within_excludes : (q : Question) (better worse : List Term) → IsWithin q better worse → (e : Negative) →
    IsValidExample q e →
    Excludes q worse e → Excludes q better e
within_excludes q better worse within e valid excluded = λ member.
    excluded (within e.inputs valid.inputs e.word valid.below member)

-- one that betters another excludes what the other one does
pub better_excludes : (q : Question) → BetterExcludes q
better_excludes q better worse betters = within_excludes q better worse betters.within

-- the same of all examples in a list
pub all_covered : (q : Question) (terms : List Term) (es : List Positive) → IsSound q terms → All (IsTrueExample q) es →
    All (Covers q terms) es
all_covered q terms es sound are_true = λ k d below. sound_covers q terms sound (get_or es k d) (are_true k d below)

-- the same of all examples in a list
pub all_excluded : (q : Question) (better worse : List Term) (es : List Negative) → IsWithin q better worse →
    All (IsValidExample q) es →
    All (Excludes q worse) es → All (Excludes q better) es
all_excluded q better worse es within valid excluded =
    λ k d below. within_excludes q better worse within (get_or es k d) (valid k d below) (excluded k d below)

-- where true examples can't be satisfied, no transformer is sound
pub none_is_sound : (q : Question) → NoneIsSound q
none_is_sound q positives are_true none terms derivable sound = none terms derivable (record {
  covers = all_covered q terms positives sound are_true;
  excludes = λ k d below. absurd (omega arith);
})

-- where none is closer, no sound transformer betters this one
pub none_betters : (q : Question) → NoneBetters q
none_betters q terms positives negatives derivable sound are_true are_valid excluded none = record {
  derivable = derivable;
  sound = sound;
  unbettered = λ other is_derivable is_sound betters.
      none other is_derivable (record {
        covers = all_covered q other positives is_sound are_true;
        excludes = all_excluded q other terms negatives betters.within are_valid excluded;
      }) betters.strict;
}
