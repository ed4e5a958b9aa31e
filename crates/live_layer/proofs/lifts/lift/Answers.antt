use Rattle.std.proofs.Common.{[], option_copied, rules, arith, refl, sym, ap, ◌∙◌}
use Rattle.std.specs.Prelude.{slice_get}
use Rattle.msg_core.specs.Chain.{plain}
use Rattle.layer_desk.specs.Need.{Layout}
use Rattle.pool_message.specs.Seen.{bodiless, refs}
use Rattle.live_layer.specs.Ready.{stock_of}
use Rattle.live_layer.proofs.Fits.{can_keep}
use Rattle.live_layer.proofs.Lists.{items_are}
use Rattle.live_layer.proofs.Ready.{scope_lifted, nothing_lifted}
use Rattle.live_layer.proofs.lifts.lift.Goals as goal

pub push_kept-requires-clause-keeps : goal.push_kept-requires-clause-keeps
push_kept-requires-clause-keeps g c =
    can_keep g.K.Start.begun c.args.pool.now c.args.desk.now c.requires (refs c.in-Some.message.now)

pub returns-in-Some-clause-ready : goal.returns-in-Some-clause-ready
returns-in-Some-clause-ready g c =
    let capacity = ap (λ (l : Layout). l.hand) c.requires.layout in
    let step = scope_lifted g.K.Start.begun c.args.pool.now c.push_kept.new.pool (stock_of c.args.desk.now)
    c.requires.pool c.requires.fits
    c.args.slot c.in-Some.message.now c.in-Some.message.now c.push_kept.new.self.items (plain [])
    (ap (slice_get c.args.desk.now.tray.messages.items) (sym c.from.ensures) ∙ sym c.message.ensures ∙
    ap option_copied c.in-Some.is) refl
    (items_are _ _ _ c.push_kept.ensures.pushed) (omega arith) c.push_kept.ensures.kept in
    record {
      pool = step.0;
      layout = search rules;
      fits = step.1;
      numbers = search rules;
      messages =
          search rules;
      forms = search rules;
      sent = search rules;
    }

pub returns-in-Some-clause-shown : goal.returns-in-Some-clause-shown
returns-in-Some-clause-shown g c =
    let capacity = ap (λ (l : Layout). l.hand) c.requires.layout in
    (scope_lifted g.K.Start.begun c.args.pool.now c.push_kept.new.pool (stock_of c.args.desk.now) c.requires.pool
    c.requires.fits
    c.args.slot c.in-Some.message.now c.in-Some.message.now c.push_kept.new.self.items (plain [])
    (ap (slice_get c.args.desk.now.tray.messages.items) (sym c.from.ensures) ∙ sym c.message.ensures ∙
    ap option_copied c.in-Some.is) refl
    (items_are _ _ _ c.push_kept.ensures.pushed) (omega arith) c.push_kept.ensures.kept).2

pub returns-in-None-clause-shown : goal.returns-in-None-clause-shown
returns-in-None-clause-shown g c =
    nothing_lifted g.K.Start.begun c.args.pool.now c.args.pool.now (stock_of c.args.desk.now) c.requires.pool
    c.requires.fits
    c.args.slot (bodiless []) c.push_bare.new.self.items
    (ap (slice_get c.args.desk.now.tray.messages.items) (sym c.from.ensures) ∙ sym c.message.ensures ∙
    ap option_copied c.in-None.is) refl
    (items_are _ _ _ c.push_bare.ensures)
