use Rattle.std.proofs.Common.{None, sym, ap, ◌∙◌, refl}
use Rattle.msg_core.specs.Chain.{plain}
use Rattle.layer_words.specs.declared.events.Kind.TheVariants as kind
use Rattle.packet_full.specs.Scanned.{packet_scanned}
use Rattle.stack_queue.specs.Pending.{task_seen}
use Rattle.stack_queue.specs.Put.{task_with}
use Rattle.group_member.specs.Stepping.{stack_of}
use Rattle.group_member.proofs.Entering.{entering, of_peer, from_top, only_first, brings_carried, brings_bare}
use Rattle.group_member.proofs.Entering.{packet_task}
use Rattle.group_member.proofs.enters.enter.Goals as goal

pub returns-in-Cast-clause-brings : goal.returns-in-Cast-clause-brings
returns-in-Cast-clause-brings c =
    brings_carried _ _ _ _ _ _ _ c.requires.none _ c.enter_above.ensures
    (ap (from_top (stack_of c.args.ground.now) (plain c.in-Cast.body.now))
    (c.of_peer-envelope.ensures ∙ ap (of_peer kind.Cast) c.from.ensures)
    ∙ sym (ap (entering (stack_of c.args.ground.now) c.args.ground.now.here.now) c.in-Cast.is))

pub returns-in-Send-clause-brings : goal.returns-in-Send-clause-brings
returns-in-Send-clause-brings c =
    brings_carried _ _ _ _ _ _ _ c.requires.none _ c.enter_above-in-Send.ensures
    (ap (from_top (stack_of c.args.ground.now) (plain c.in-Send.body.now)) c.of_peer.ensures
    ∙ sym (ap (entering (stack_of c.args.ground.now) c.args.ground.now.here.now) c.in-Send.is))

pub returns-in-Leave-clause-brings : goal.returns-in-Leave-clause-brings
returns-in-Leave-clause-brings c =
    brings_bare _ _ _ c.args.pool.now _ _ _ c.requires.none c.push_bare.ensures refl
    (ap (λ t. task_seen c.args.pool.now (task_with t None)) c.leaving.ensures
    ∙ sym (ap (entering (stack_of c.args.ground.now) c.args.ground.now.here.now) c.in-Leave.is))

pub returns-in-Tick-clause-brings : goal.returns-in-Tick-clause-brings
returns-in-Tick-clause-brings c =
    brings_bare _ _ _ c.args.pool.now _ _ _ c.requires.none c.push_bare-in-Tick.ensures refl
    (ap (λ t. task_seen c.args.pool.now (task_with t None)) c.ticking.ensures
    ∙ sym (ap (entering (stack_of c.args.ground.now) c.args.ground.now.here.now) c.in-Tick.is))

pub returns-in-Packet-clause-brings : goal.returns-in-Packet-clause-brings
returns-in-Packet-clause-brings c =
    brings_carried _ _ _ _ _ _ _ c.requires.none _ c.enter_packet.ensures
    (packet_task (stack_of c.args.ground.now) c.args.ground.now.here.now.rank
    (packet_scanned c.args.ground.now.here.now c.in-Packet.bytes.now c.in-Packet.scan.now)
    ∙ sym (ap (entering (stack_of c.args.ground.now) c.args.ground.now.here.now) c.in-Packet.is))

pub returns-in-Cast-clause-only : goal.returns-in-Cast-clause-only
returns-in-Cast-clause-only c = only_first _ _ _ c.requires.none c.enter_above.ensures.last

pub returns-in-Send-clause-only : goal.returns-in-Send-clause-only
returns-in-Send-clause-only c = only_first _ _ _ c.requires.none c.enter_above-in-Send.ensures.last

pub returns-in-Leave-clause-only : goal.returns-in-Leave-clause-only
returns-in-Leave-clause-only c = only_first _ _ _ c.requires.none c.push_bare.ensures

pub returns-in-Tick-clause-only : goal.returns-in-Tick-clause-only
returns-in-Tick-clause-only c = only_first _ _ _ c.requires.none c.push_bare-in-Tick.ensures

pub returns-in-Packet-clause-only : goal.returns-in-Packet-clause-only
returns-in-Packet-clause-only c = only_first _ _ _ c.requires.none c.enter_packet.ensures.last
