use Rattle.std.proofs.Common.{refl}
use Rattle.node_loop.proofs.Datagrams.{one_sent, one_lost, none_sent, sent_handled, lost_handled}
use Rattle.node_loop.specs.Sending.{sent_to}
use Rattle.node_loop.proofs.sending.send_to.Goals as goal

pub returns-in-Ok-clause-handed : goal.returns-in-Ok-clause-handed
returns-in-Ok-clause-handed g c =
    sent_handled c.args.sending.number _ _ _
    (one_sent (sent_to c.args.sending.from c.args.sending.bytes.now c.args.to) _ _ refl c.in-Ok.ensures.faults
    c.in-Ok.ensures.counted
    c.in-Ok.ensures.told.0 c.in-Ok.ensures.told.1)

pub returns-in-Err-Failed-clause-handed : goal.returns-in-Err-Failed-clause-handed
returns-in-Err-Failed-clause-handed g c =
    let e = c.in-Err-Failed.ensures in
    lost_handled c.args.sending.number _ _ _ _ c.write_lost.result
    (one_lost (sent_to c.args.sending.from c.args.sending.bytes.now c.args.to) _ _ c.in-Err-Failed.field-0
    c.in-Err-Failed.field-0-is refl e.faults e.counted e.told)
    c.write_lost.ensures refl refl refl

pub returns-in-Err-Memory-clause-handed : goal.returns-in-Err-Memory-clause-handed
returns-in-Err-Memory-clause-handed g c =
    let e = c.in-Err-Memory.ensures in
    none_sent _ (sent_to c.args.sending.from c.args.sending.bytes.now c.args.to) _ _ c.in-Err-Memory.field-0
    c.in-Err-Memory.field-0-is refl e.faults e.counted e.told
