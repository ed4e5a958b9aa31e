use Rattle.std.proofs.Common.{rules, ap, ◌∙◌, arith}
use Rattle.pool_message.specs.Seen.{row_seen}
use Rattle.live_layer.specs.Ready.{layout_of, stock_of}
use Rattle.live_layer.proofs.ReadyCells.{layout_kept, forms_rows, room_for_row, top_fits}
use Rattle.live_layer.proofs.puts.push_first.Goals as goal

pub returns-clause-ready : goal.returns-clause-ready
returns-clause-ready g c =
    let step = top_fits g.K.Start.begun c.args.pool.now (stock_of c.args.desk.now) c.requires.ready.pool
    c.requires.ready.fits c.args.queue.cell c.args.queue.index
    (room_for_row (row_seen c.args.pool.now) c.args.desk.now.cells c.args.queue.cell c.args.queue.index
    c.args.queue.capacity
    c.requires.room (omega arith))
    c.args.numbers c.push.new.self c.take_last.new.hand.items c.in-Some.message c.in-Some.ensures.some c.push.ensures in
    record {
      pool = step.0;
      layout = layout_kept (record (layout_of c.args.desk.now) { hand = c.take_last.new.hand.capacity })
          g.K.Start.begun.layout _
          (ap (λ n. record (layout_of c.args.desk.now) { hand = n }) c.take_last.ensures.capacity ∙
          c.requires.ready.layout) step.1.rows;
      fits = step.1;
      numbers = search rules;
      messages = search rules;
      forms = forms_rows _ _ c.args.queue.cell c.args.queue.index _ c.push.ensures ∙ c.requires.ready.forms;
      sent = search rules;
    }

pub returns-clause-shown : goal.returns-clause-shown
returns-clause-shown g c =
    (top_fits g.K.Start.begun c.args.pool.now (stock_of c.args.desk.now) c.requires.ready.pool c.requires.ready.fits
    c.args.queue.cell c.args.queue.index
    (room_for_row (row_seen c.args.pool.now) c.args.desk.now.cells c.args.queue.cell c.args.queue.index
    c.args.queue.capacity
    c.requires.room (omega arith))
    c.args.numbers c.push.new.self c.take_last.new.hand.items c.in-Some.message c.in-Some.ensures.some c.push.ensures).2
