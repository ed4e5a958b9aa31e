use Rattle.std.proofs.Common.{rules, ◌∙◌}
use Rattle.live_layer.specs.Ready.{layout_of, stock_of}
use Rattle.live_layer.proofs.ReadyCells.{layout_kept, forms_number, number_fits}
use Rattle.live_layer.proofs.writes.assign.Goals as goal

pub returns-clause-ready : goal.returns-clause-ready
returns-clause-ready g c =
    let step = number_fits g.K.Start.begun c.args.pool.now (stock_of c.args.desk.now) c.requires.pool c.requires.fits
    c.args.cell
    c.args.index c.args.value c.set.new.self c.set.ensures in
    record {
      pool = step.0;
      layout = layout_kept (layout_of c.args.desk.now) g.K.Start.begun.layout _ c.requires.layout
          step.1.rows;
      fits = step.1;
      numbers = search rules;
      messages = search rules;
      forms =
          forms_number _ _ c.args.cell c.args.index c.args.value c.set.ensures ∙ c.requires.forms;
      sent = search rules;
    }

pub returns-clause-shown : goal.returns-clause-shown
returns-clause-shown g c =
    (number_fits g.K.Start.begun c.args.pool.now (stock_of c.args.desk.now) c.requires.pool c.requires.fits c.args.cell
    c.args.index c.args.value c.set.new.self c.set.ensures).2
