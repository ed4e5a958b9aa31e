use Rattle.std.proofs.Common.{◌-◌, sym, subst}
use Rattle.circular_buffer.specs.Buffer.{buffer}
use Rattle.layer_stage.specs.Front.{first_way, after_first}
use Rattle.typed_layer.specs.View.{layer_tree}
use Rattle.pool_message.specs.Sent.{first_sent}
use Rattle.live_layer.specs.Ready.{IsReady}
use Rattle.live_layer.proofs.Visit.{begun_at, begins_ready}
use Rattle.live_layer.proofs.visits.visit.Goals as goal

pub take_event-predicted-requires-clause-ready : goal.take_event-predicted-requires-clause-ready
take_event-predicted-requires-clause-ready c =
    subst (λ e. IsReady (begun_at c.args.pool.now e) c.args.pool.now e) (sym c.begin-direction.ensures.desk)
    (begins_ready (layer_tree c.args.layer.now) c.args.pool.now c.args.desk.now c.requires.rest
    (first_sent c.args.events.now.items).1
    (buffer (after_first c.args.events.now.items) (c.args.events.now.capacity - 1)) (first_way c.args.events.now.items)
    c.begin-direction.ensures.within c.begin-direction.ensures.few c.requires.event c.requires.out c.requires.covered
    c.requires.counts)
