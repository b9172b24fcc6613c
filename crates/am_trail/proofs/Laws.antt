-- The lemmas that the proofs of other crates may cite, from one place. Declares nothing.
pub use Rattle.am_trail.proofs.Entries.{entry_of, literal_in, consistent}
pub use Rattle.am_trail.proofs.Leading.{Leads_push, next_at, rises_to, level_le, all_above, Leads_upto, upto-take}
pub use Rattle.am_trail.proofs.Leading.{in_upto, from_upto, upto-more, upto-all, upto-upto}
pub use Rattle.am_trail.proofs.Ranking.{in_range, from_range}
pub use Rattle.am_trail.proofs.Fewer.{shorter_held}
