use Rattle.std.proofs.Common.{◌∙◌, ◌<◌, length, ap, arith}
use Rattle.std.proofs.lemmas.List.{length-set, get_or_default}
use Rattle.std.specs.List.{sum_by}
use Rattle.cell_store.specs.Frames.{numbers_for}
use Rattle.cell_store.specs.Slots.{slot_again}
use Rattle.cell_store.proofs.Begun.{before, same_count, room_here, room_in_forms, restarted_one, left_after, all_first}
use Rattle.cell_store.proofs.Begun.{queues_fit}
use Rattle.cell_store.proofs.slot.restart_all.Goals as goal

pub unreachable-requires : goal.unreachable-requires
unreachable-requires g c =
    let count = same_count _ _ c.requires.forms in
    let within : c.loop-index.index < length c.args.cells.now =
    omega (arith, c.loop-index-test.true, count, c.args.slots.now.ok) in
    let room = room_here c.args.membership.count _ _ _ c.args.cells.now _ c.requires.few.0
    (room_in_forms _ _ _ _ c.requires.forms c.requires.room) within
    (get_or_default c.args.cells.now c.loop-index.index c.index-cells-index.result _ within) in
    let first = c.loop-index.invariant.first in
    omega (
      arith,
      room,
      first.size ∙ ap (sum_by (numbers_for c.args.membership.count)) first.frames,
      c.loop-index.invariant.capacity,
      c.in-Err.ensures.full,
    )

pub restart-requires-clause-room : goal.restart-requires-clause-room
restart-requires-clause-room g c =
    let count = same_count _ _ c.requires.forms in
    let within : c.loop-index.index < length c.loop-index.slots.items =
    omega (arith, c.loop-index-test.true, c.loop-index.invariant.size, c.args.slots.now.ok) in
    let within' : c.loop-index.index < length c.args.cells.now =
    omega (arith, within, count, c.loop-index.invariant.size) in
    let read = get_or_default c.args.cells.now c.loop-index.index c.index-cells-index.result _ within' in
    let known = before _ _ _ _ _ c.loop-index.slots.items c.args.slots.now.items c.index_mut-slot.result.now
    c.requires.laid c.requires.forms c.requires.empty
    c.loop-index.invariant.left c.loop-index.invariant.size within c.index_mut-slot.ensures.value
    within' read in
    queues_fit _ _ c.index_mut-slot.result.now c.requires.few.0 known.fits

pub restart-requires-clause-empty : goal.restart-requires-clause-empty
restart-requires-clause-empty g c =
    let count = same_count _ _ c.requires.forms in
    let within : c.loop-index.index < length c.loop-index.slots.items =
    omega (arith, c.loop-index-test.true, c.loop-index.invariant.size, c.args.slots.now.ok) in
    let within' : c.loop-index.index < length c.args.cells.now =
    omega (arith, within, count, c.loop-index.invariant.size) in
    let read = get_or_default c.args.cells.now c.loop-index.index c.index-cells-index.result _ within' in
    let known = before _ _ _ _ _ c.loop-index.slots.items c.args.slots.now.items c.index_mut-slot.result.now
    c.requires.laid c.requires.forms c.requires.empty
    c.loop-index.invariant.left c.loop-index.invariant.size within c.index_mut-slot.ensures.value
    within' read in
    known.empty

pub loop-index-preserved : goal.loop-index-preserved
loop-index-preserved g c =
    let count = same_count _ _ c.requires.forms in
    let within : c.loop-index.index < length c.loop-index.slots.items =
    omega (arith, c.loop-index-test.true, c.loop-index.invariant.size, c.args.slots.now.ok) in
    let within' : c.loop-index.index < length c.args.cells.now =
    omega (arith, within, count, c.loop-index.invariant.size) in
    let read = get_or_default c.args.cells.now c.loop-index.index c.index-cells-index.result _ within' in
    let known = before _ _ _ _ _ c.loop-index.slots.items c.args.slots.now.items c.index_mut-slot.result.now
    c.requires.laid c.requires.forms c.requires.empty
    c.loop-index.invariant.left c.loop-index.invariant.size within c.index_mut-slot.ensures.value
    within' read in
    record {
      first = restarted_one _ _ _ _ _ c.requires.few.0 c.args.cells.now _ _ _ c.loop-index.slots.items
          c.index_mut-slot.result.now _
          c.loop-index.invariant.first within' read
          c.in-Ok.ensures.numbers within known.form known.fits
          (c.restart.ensures ∙ ap (λ at. slot_again c.args.membership.count at c.index_mut-slot.result.now)
          (c.len-at.ensures ∙ c.loop-index.block.ok.0));
      left = left_after c.loop-index.index c.loop-index.slots.items c.args.slots.now.items c.restart.new.self
          c.loop-index.invariant.left;
      size = length-set _ _ _ ∙ c.loop-index.invariant.size;
      capacity = omega (arith, c.loop-index.invariant.capacity, c.in-Ok.ensures.capacity);
    }

pub returns-clause-first : goal.returns-clause-first
returns-clause-first g c =
    let count = same_count _ _ c.requires.forms in
    all_first _ _ _ _ c.loop-index.index c.args.cells.now _ _ c.loop-index.invariant.first
    (omega (arith, c.loop-index-test.false, count, c.args.slots.now.ok, c.len-index-end.ensures))
    (omega (arith, c.loop-index-test.false, c.loop-index.invariant.size, c.args.slots.now.ok, c.len-index-end.ensures))
