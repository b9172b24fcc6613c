-- The abstract domains that a problem names: what each of them is called, and what it is.
use Rattle.std.specs.Prelude.{ℕ, List, [], ◌∷◌, codes}
use Rattle.am_bv.specs.declared.term.Term.{Term}
use Rattle.am_bits.specs.Congruences.{all_congruences}
use Rattle.am_bits.specs.KnownBits.{all_known_bits}
use Rattle.am_bits.specs.Parities.{all_parities}
use Rattle.am_domain.specs.Abstraction.{Abstraction}
use Rattle.am_domain.specs.Meaning.{Meaning}
use Rattle.am_interval.specs.Domains.{signed_intervals, unsigned_intervals}
use Rattle.am_pair.specs.Pairs.{domain_product}
use Rattle.am_wrap.specs.WrappedIntervals.{all_wrapped_intervals}
use Rattle.am_problem.specs.declared.kind.Kind.{Kind}
use Rattle.am_problem.specs.declared.kind.Kind.TheVariants.{UInterval, SInterval, KnownBits}
use Rattle.am_problem.specs.declared.kind.Kind.TheVariants.{Parity, Congruence, WInterval}
use Rattle.am_problem.specs.declared.kind.Kind.TheVariants.{UIntervalKnown, UIntervalCongruence, WIntervalCongruence}

-- the name by which a problem's text calls a domain
abbrev pub kind_name : Kind → List ℕ
kind_name UInterval = codes "u-interval"
kind_name SInterval = codes "s-interval"
kind_name KnownBits = codes "known-bits"
kind_name Parity = codes "parity"
kind_name Congruence = codes "congruence"
kind_name WInterval = codes "w-interval"
kind_name UIntervalKnown = codes "u-interval+known-bits"
kind_name UIntervalCongruence = codes "u-interval+congruence"
kind_name WIntervalCongruence = codes "w-interval+congruence"

-- all domains, in the order in which they are listed
abbrev pub all_kinds : List Kind
all_kinds =
    UInterval ∷ SInterval ∷ KnownBits ∷ Parity ∷ Congruence ∷ WInterval
    ∷ UIntervalKnown ∷ UIntervalCongruence ∷ WIntervalCongruence ∷ []

-- the domain of a kind
abbrev pub abstraction_of : Kind → Abstraction
abstraction_of UInterval = unsigned_intervals
abstraction_of SInterval = signed_intervals
abstraction_of KnownBits = all_known_bits
abstraction_of Parity = all_parities
abstraction_of Congruence = all_congruences
abstraction_of WInterval = all_wrapped_intervals
abstraction_of UIntervalKnown = domain_product unsigned_intervals all_known_bits
abstraction_of UIntervalCongruence = domain_product unsigned_intervals all_congruences
abstraction_of WIntervalCongruence = domain_product all_wrapped_intervals all_congruences

-- what the abstract values of a kind mean
abbrev pub meaning_of : Kind → Meaning
meaning_of kind = (abstraction_of kind).meaning

-- how many fields an abstract value of a kind has
abbrev pub fields_of : Kind → ℕ
fields_of kind = (meaning_of kind).fields

-- the term that tests whether fields are an abstract value of a kind
abbrev pub valid_term_of : Kind → ℕ → Term
valid_term_of kind = (abstraction_of kind).valid_term

-- the term that tests whether an abstract value of a kind has a word
abbrev pub member_term_of : Kind → ℕ → Term
member_term_of kind = (abstraction_of kind).member_term
