use Rattle.std.proofs.Common.{rules, arith, option_copied, refl, sym, ap, ◌∙◌}
use Rattle.layer_desk.specs.Need.{Layout}
use Rattle.typed_layer.specs.View.{carried_tree}
use Rattle.pool_message.specs.Seen.{refs}
use Rattle.live_layer.specs.Ready.{stock_of}
use Rattle.live_layer.proofs.Fits.{can_keep}
use Rattle.live_layer.proofs.Lists.{items_are}
use Rattle.live_layer.proofs.Held.{held_there, held_lifted, stand_in_lifted}
use Rattle.live_layer.proofs.takes.lift_row.Goals as goal

pub push_kept-requires-clause-there : goal.push_kept-requires-clause-there
push_kept-requires-clause-there g c =
    (held_there g.K.Start.begun c.args.pool.now (stock_of c.args.desk.now) c.requires.pool c.requires.fits
    c.args.at.cell c.args.at.index c.args.at.row
    c.in-Some.message.now (sym c.row_message.ensures ∙ ap option_copied c.in-Some.is)).0

pub push_kept-requires-clause-keeps : goal.push_kept-requires-clause-keeps
push_kept-requires-clause-keeps g c =
    can_keep g.K.Start.begun c.args.pool.now c.args.desk.now c.requires (refs c.in-Some.message.now)

pub returns-in-Some-clause-ready : goal.returns-in-Some-clause-ready
returns-in-Some-clause-ready g c =
    let capacity = ap (λ (l : Layout). l.hand) c.requires.layout in
    let step = held_lifted g.K.Start.begun c.args.pool.now (stock_of c.args.desk.now) c.requires.pool c.requires.fits
    c.args.at.cell c.args.at.index
    c.push_kept.new.pool c.args.at.row (carried_tree c.args.carried) c.in-Some.message.now c.in-Some.message.now
    c.push_kept.new.self.items
    (sym c.row_message.ensures ∙ ap option_copied c.in-Some.is) refl (items_are _ _ _ c.push_kept.ensures.pushed)
    (omega arith) c.push_kept.ensures.kept in
    record {
      pool = step.0;
      layout = search rules;
      fits = step.1;
      numbers = search rules;
      messages =
          search rules;
      forms = search rules;
      sent = search rules;
    }

pub returns-in-Some-clause-shown : goal.returns-in-Some-clause-shown
returns-in-Some-clause-shown g c =
    let capacity = ap (λ (l : Layout). l.hand) c.requires.layout in
    (held_lifted g.K.Start.begun c.args.pool.now (stock_of c.args.desk.now) c.requires.pool c.requires.fits
    c.args.at.cell c.args.at.index
    c.push_kept.new.pool c.args.at.row (carried_tree c.args.carried) c.in-Some.message.now c.in-Some.message.now
    c.push_kept.new.self.items
    (sym c.row_message.ensures ∙ ap option_copied c.in-Some.is) refl (items_are _ _ _ c.push_kept.ensures.pushed)
    (omega arith) c.push_kept.ensures.kept).2

pub returns-else-is_too_wide-clause-shown : goal.returns-else-is_too_wide-clause-shown
returns-else-is_too_wide-clause-shown g c =
    let capacity = ap (λ (l : Layout). l.hand) c.requires.layout in
    (stand_in_lifted g.K.Start.begun c.args.pool.now (stock_of c.args.desk.now) c.requires.pool c.requires.fits
    c.args.at.cell c.args.at.index
    c.args.at.row (carried_tree c.args.carried) c.stand_in.result c.push.new.self.items
    (sym c.row_message.ensures ∙ ap option_copied c.in-None.is) c.stand_in.ensures (items_are _ _ _ c.push.ensures)
    (omega arith)).2
