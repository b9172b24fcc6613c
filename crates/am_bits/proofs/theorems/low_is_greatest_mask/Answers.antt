use Rattle.am_bits.specs.lemmas.Bits.{below_power}
use Rattle.am_bits.specs.lemmas.Masks.{low-mask, low-within, low-greatest}
use Rattle.am_bits.proofs.theorems.low_is_greatest_mask.Goals as goal

pub returns : goal.returns
returns c = record {
  mask = λ x. let mask = low-mask x x (below_power x) in (mask.0, mask.2);
  within = low-within;
  greatest = low-greatest;
}
