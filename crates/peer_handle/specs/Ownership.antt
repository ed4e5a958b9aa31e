-- What a seal owns: what the box of its machine would, if there is one.
use base.Fml.{Fml, ftrue}
use denote.RawPtr.{Ptr}
use Rattle.std.specs.Prelude.{Option, Some, None}
use Rattle.std.specs.Box.Ownership.{box_owns}
use Rattle.std.specs.Coded.{Coded, coded_option}
use Rattle.std.specs.Global.{Global}
use Rattle.std_heap.specs.contracts.GlobalAllocator.TheImpl.{ghosts}
use Rattle.peer_handle.specs.contracts.machine.Machine.{the_row}

abbrev pub Kept : Type 0
Kept = Option the_row.Denot

abbrev pub kept_coded : Coded Kept
kept_coded = coded_option the_row.coded

abbrev pub seal_owns : Global → Ptr → Kept → Fml
seal_owns alloc at None = ftrue
seal_owns alloc at (Some x) = box_owns (ghosts.dealloc_token alloc) the_row at x
