-- What the proofs of other crates may cite of this crate's lemmas.
pub use Rattle.am_blast.proofs.Words.{bit-le, reads-lt, reads-zeros, reads-opposites, value-truth, value-falsity}
pub use Rattle.am_blast.proofs.Words.{All-later, All-zeros, All-opposites, IsWord-later, IsWord-zeros, IsWord-opposites}
pub use Rattle.am_blast.proofs.Words.{AreWordPair-alike, AreWordPair-swapped, AreWordPair-later, drop-from}
pub use Rattle.am_blast.proofs.Bits.{Means-bitwise, Means-choose, Means-choice, Makes-bitwise, Makes-choice}
pub use Rattle.am_blast.proofs.Table.{circuit}
pub use Rattle.am_blast.proofs.Blasted.{Means-blasted, Makes-blasted, blasted-Const, blasted-Field, blasted-Node}
pub use Rattle.am_blast.proofs.Blasted.{length-constant, All-constant, reads-constant, IsWord-constant}
pub use Rattle.am_blast.proofs.Blasted.{Follows-in_turn_at, Follows-in_turn_end}
pub use Rattle.am_blast.proofs.InTurn.{ReadEach, AreWordsFor, FitEach, Means-terms, Makes-terms}
pub use Rattle.am_blast.proofs.Equality.{Means-nonzero, Makes-nonzero}
