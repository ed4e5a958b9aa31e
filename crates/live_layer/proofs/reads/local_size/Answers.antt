use Rattle.std.proofs.Common.{[], length, option_copied, sym, ap, ◌∙◌}
use Rattle.std.specs.Prelude.{slice_get}
use Rattle.msg_core.specs.Chain.{Content, plain}
use Rattle.pool_message.specs.Seen.{content_seen}
use Rattle.live_layer.proofs.Lists.{seen_none}
use Rattle.live_layer.proofs.reads.local_size.Goals as goal

pub returns-in-None : goal.returns-in-None
returns-in-None g c =
    sym (ap (λ (m : Content). length m.body)
    (seen_none (content_seen c.args.pool.now) c.args.desk.now.tray.messages.items c.args.slot (plain [])
    (ap (slice_get c.args.desk.now.tray.messages.items) (sym c.from.ensures) ∙ sym c.message.ensures ∙
    ap option_copied c.in-None.is)))
