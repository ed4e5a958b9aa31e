use Rattle.std.proofs.Common.{◌-◌, refl, option_map, vec_capacity, rules, sym, ap, subst, ◌∙◌}
use Rattle.std.specs.Prelude.{slice_index_or}
use Rattle.typed_layer.specs.View.{carried_tree, taken_tree}
use Rattle.typed_layer.specs.declared.tree.TakenMessage.{TakenMessage}
use Rattle.live_layer.specs.Fits.{most_bound}
use Rattle.live_layer.specs.Ready.{layout_of, stock_of, IsReady}
use Rattle.live_layer.specs.Stock.{laid}
use Rattle.live_layer.specs.Taken.{message_left, numbers_filled}
use Rattle.live_layer.proofs.ReadyCells.{layout_kept, forms_rows}
use Rattle.live_layer.proofs.ReadyTaken.{one_found, left_is, old_covered, taken_step, let_go_step}
use Rattle.live_layer.proofs.takes.take.Goals as goal

pub put_message-requires-clause-there : goal.put_message-requires-clause-there
put_message-requires-clause-there g c =
    old_covered g.K.Start.begun c.args.pool.now c.args.pool.now (stock_of c.args.desk.now) c.requires.pool
    c.requires.fits c.args.cell c.args.index
    c.in-Some.row (sym c.take.ensures.row ∙ c.in-Some.is) (carried_tree c.in-Some-message.slot.carried)
    c.in-Some-message.slot.slot
    (message_left (carried_tree c.in-Some-message.slot.carried) c.in-Some.row.message)
    (left_is c.in-Some-message.slot.carried c.in-Some.row.message (search rules))

pub returns-in-Some-message-clause-ready : goal.returns-in-Some-message-clause-ready
returns-in-Some-message-clause-ready g c =
    let step = taken_step g.K.Start.begun c.args.pool.now c.put_message.new.pool (stock_of c.args.desk.now)
    c.requires.pool c.requires.fits c.args.cell c.args.index
    c.in-Some.row (sym c.take.ensures.row ∙ c.in-Some.is) (carried_tree c.in-Some-message.slot.carried)
    c.in-Some-message.slot.slot
    (message_left (carried_tree c.in-Some-message.slot.carried) c.in-Some.row.message)
    (left_is c.in-Some-message.slot.carried c.in-Some.row.message (search rules)) (taken_tree c.args.taken.now)
    c.take.new.self c.set_numbers.new.numbers.items
    _
    (slice_index_or c.args.desk.now.tray.messages.items c.in-Some-message.slot.slot
    (message_left (carried_tree c.in-Some-message.slot.carried) c.in-Some.row.message))
    (ap (option_map (λ (m : TakenMessage). (m.slot, carried_tree m.carried))) c.in-Some-message.is) c.take.ensures.rest
    (c.set_numbers.ensures.numbers ∙
    ap (λ slots. numbers_filled slots c.in-Some.row.numbers c.args.desk.now.numbers.items) c.deref.ensures.value)
    refl refl c.put_message.ensures.returned in
    subst (λ t. IsReady g.K.Start.begun c.put_message.new.pool
    (record c.args.desk.now { cells = c.take.new.self; numbers = c.set_numbers.new.numbers; tray = t }))
    (sym c.put_message.ensures.set) record {
      pool = step.0;
      layout = layout_kept (record (layout_of c.args.desk.now)
          { numbers = vec_capacity c.set_numbers.new.numbers - most_bound }) g.K.Start.begun.layout _
          ((λ j. record (layout_of c.args.desk.now) { numbers = c.set_numbers.ensures.capacity j - most_bound }) ∙
          c.requires.layout) step.1.rows;
      fits = step.1;
      numbers = search rules;
      messages = c.requires.messages;
      forms = forms_rows _ _ c.args.cell c.args.index _ c.take.ensures.rest ∙ c.requires.forms;
      sent = c.requires.sent;
    }

pub returns-in-Some-message-clause-shown : goal.returns-in-Some-message-clause-shown
returns-in-Some-message-clause-shown g c =
    ap (λ t. laid c.put_message.new.pool
    (stock_of (record c.args.desk.now { cells = c.take.new.self; numbers = c.set_numbers.new.numbers; tray = t })))
    c.put_message.ensures.set ∙
    (taken_step g.K.Start.begun c.args.pool.now c.put_message.new.pool (stock_of c.args.desk.now) c.requires.pool
    c.requires.fits c.args.cell c.args.index
    c.in-Some.row (sym c.take.ensures.row ∙ c.in-Some.is) (carried_tree c.in-Some-message.slot.carried)
    c.in-Some-message.slot.slot
    (message_left (carried_tree c.in-Some-message.slot.carried) c.in-Some.row.message)
    (left_is c.in-Some-message.slot.carried c.in-Some.row.message (search rules)) (taken_tree c.args.taken.now)
    c.take.new.self c.set_numbers.new.numbers.items
    _
    (slice_index_or c.args.desk.now.tray.messages.items c.in-Some-message.slot.slot
    (message_left (carried_tree c.in-Some-message.slot.carried) c.in-Some.row.message))
    (ap (option_map (λ (m : TakenMessage). (m.slot, carried_tree m.carried))) c.in-Some-message.is) c.take.ensures.rest
    (c.set_numbers.ensures.numbers ∙
    ap (λ slots. numbers_filled slots c.in-Some.row.numbers c.args.desk.now.numbers.items) c.deref.ensures.value)
    refl refl c.put_message.ensures.returned).2

pub returns-in-None-clause-ready : goal.returns-in-None-clause-ready
returns-in-None-clause-ready g c =
    let step = let_go_step g.K.Start.begun c.args.pool.now c.let_go_if_any.new.pool (stock_of c.args.desk.now)
    c.requires.pool c.requires.fits c.args.cell c.args.index
    c.in-Some.row (sym c.take.ensures.row ∙ c.in-Some.is) (taken_tree c.args.taken.now) c.take.new.self
    c.set_numbers.new.numbers.items
    (ap (option_map (λ (m : TakenMessage). (m.slot, carried_tree m.carried))) c.in-None.is) c.take.ensures.rest
    (c.set_numbers.ensures.numbers ∙
    ap (λ slots. numbers_filled slots c.in-Some.row.numbers c.args.desk.now.numbers.items) c.deref.ensures.value)
    c.let_go_if_any.ensures.returned in
    record {
      pool = step.0;
      layout = layout_kept (record (layout_of c.args.desk.now)
          { numbers = vec_capacity c.set_numbers.new.numbers - most_bound }) g.K.Start.begun.layout _
          ((λ j. record (layout_of c.args.desk.now) { numbers = c.set_numbers.ensures.capacity j - most_bound }) ∙
          c.requires.layout) step.1.rows;
      fits = step.1;
      numbers = search rules;
      messages = search rules;
      forms = forms_rows _ _ c.args.cell c.args.index _ c.take.ensures.rest ∙ c.requires.forms;
      sent = search rules;
    }

pub returns-in-None-clause-found : goal.returns-in-None-clause-found
returns-in-None-clause-found g c =
    sym (one_found c.args.pool.now (stock_of c.args.desk.now) c.args.cell c.args.index c.in-Some.row
    (sym c.take.ensures.row ∙ c.in-Some.is))

pub returns-in-None-clause-shown : goal.returns-in-None-clause-shown
returns-in-None-clause-shown g c =
    (let_go_step g.K.Start.begun c.args.pool.now c.let_go_if_any.new.pool (stock_of c.args.desk.now) c.requires.pool
    c.requires.fits c.args.cell c.args.index
    c.in-Some.row (sym c.take.ensures.row ∙ c.in-Some.is) (taken_tree c.args.taken.now) c.take.new.self
    c.set_numbers.new.numbers.items
    (ap (option_map (λ (m : TakenMessage). (m.slot, carried_tree m.carried))) c.in-None.is) c.take.ensures.rest
    (c.set_numbers.ensures.numbers ∙
    ap (λ slots. numbers_filled slots c.in-Some.row.numbers c.args.desk.now.numbers.items) c.deref.ensures.value)
    c.let_go_if_any.ensures.returned).2
