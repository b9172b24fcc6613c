use Rattle.std.proofs.Common.{arith}
use Rattle.std.proofs.lemmas.List.{drop_all}
use Rattle.am_io.proofs.Bytes.{take_from_place}
use Rattle.am_io.proofs.memory.MemorySourceSource.take.Goals as goal

pub returns-clause-bytes : goal.returns-clause-bytes
returns-clause-bytes c = (
  rw (← c.self.view_is) (take_from_place c.self.inside.bytes.items _ _ c.self.inside.at c.min-count.result
      (rw c.deref-2.ensures.value at c.copy_from_slice.ensures.after) (omega arith)),
  λ none room. drop_all _ c.self.inside.bytes.items (omega arith),
)
