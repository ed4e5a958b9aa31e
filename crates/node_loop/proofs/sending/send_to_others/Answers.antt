use Rattle.std.proofs.Common.{◌∙◌, refl, sym, arith}
use Rattle.std.proofs.lemmas.Result.{err_from_is_err_and}
use Rattle.node_loop.proofs.Datagrams.{front_begins, front_cut, front_ends, front_more, front_same, front_takes}
use Rattle.node_loop.proofs.Ids.{others_next, others_past, others_without}
use Rattle.node_loop.proofs.sending.send_to_others.Goals as goal
use Rattle.node_loop.proofs.sending.send_to_others.Goals.{then-has+then-to-sending+in_ok-send_to, else-has}
use Rattle.node_loop.proofs.sending.send_to_others.Goals.{else-has-via-then-has+else-to-sending, else-has-via-else-has}

pub loop-to-init : goal.loop-to-init
loop-to-init g c = record {
  front = front_begins c.args.sending.number c.args.sending.from c.args.sending.bytes.now c.args.view _;
  listening = λ m. refl;
}

pub send_to-requires-clause-peer : goal.send_to-requires-clause-peer
send_to-requires-clause-peer g c =
    let next = others_next c.args.view c.args.sending.from c.loop-to.to c.loop-to-test.true
    (sym c.has.ensures ∙ c.if-has.true) c.if-to-sending.true in
    (front_takes c.args.sending.number c.args.sending.from c.args.sending.bytes.now c.args.view c.loop-to.to _ _ _ _
    c.requires.peers
    (c.loop-to.invariant.listening c.args.sending.from) next c.loop-to.invariant.front).0

pub send_to-requires-clause-size : goal.send_to-requires-clause-size
send_to-requires-clause-size g c =
    let next = others_next c.args.view c.args.sending.from c.loop-to.to c.loop-to-test.true
    (sym c.has.ensures ∙ c.if-has.true) c.if-to-sending.true in
    (front_takes c.args.sending.number c.args.sending.from c.args.sending.bytes.now c.args.view c.loop-to.to _ _ _ _
    c.requires.peers
    (c.loop-to.invariant.listening c.args.sending.from) next c.loop-to.invariant.front).1

pub returns-in_err-send_to-clause-handed : goal.returns-in_err-send_to-clause-handed
returns-in_err-send_to-clause-handed g c =
    let next = others_next c.args.view c.args.sending.from c.loop-to.to c.loop-to-test.true
    (sym c.has.ensures ∙ c.if-has.true) c.if-to-sending.true in
    let p = err_from_is_err_and c.from_residual.result c.from_residual.ensures.1 in
    rw (p.1, p.2) (front_cut c.args.sending.number c.args.sending.from c.args.sending.bytes.now c.args.view c.loop-to.to
    _ _ _ _ next
    c.loop-to.invariant.front c.in_err-send_to.ensures.handed)

pub loop-to-preserved : goal.loop-to-preserved
loop-to-preserved g c =
    let number = c.args.sending.number in
    let from = c.args.sending.from in
    let bytes = c.args.sending.bytes.now in
    let view = c.args.view in
    let to = c.loop-to.to in
    let so = c.loop-to.invariant in elim c.if-has.branch [
      | then-has+then-to-sending+in_ok-send_to w ↦
          rw (w.out-is, w.links-is) record {
            front = front_more number from bytes view to _ _ _
                (others_next view from to c.loop-to-test.true (sym c.has.ensures ∙ w.if-has.true) w.if-to-sending.true)
                so.front w.in_ok-send_to.ensures.handed;
            listening = λ m. w.in_ok-send_to.ensures.listening m ∙ so.listening m;
          }
      | else-has w ↦
          rw (w.out-is, w.links-is) record {
            front = front_same number from bytes view to _ _ (elim w.else-has.branch [
              | else-has-via-then-has+else-to-sending v ↦ others_past view from to c.loop-to-test.true
                  (sym c.has.ensures ∙ v.if-has.true) v.if-to-sending.false
              | else-has-via-else-has v ↦ others_without view from to c.loop-to-test.true
                  (sym c.has.ensures ∙ v.if-has.false)
            ]) so.front;
            listening = so.listening;
          }
    ]

pub returns-clause-handed : goal.returns-clause-handed
returns-clause-handed g c =
    front_ends c.args.sending.number c.args.sending.from c.args.sending.bytes.now c.args.view c.loop-to.to _ _
    (omega (arith, c.loop-to-test.false)) c.loop-to.invariant.front
