use Rattle.std.proofs.Common.{arith}
use Rattle.std.proofs.lemmas.Result.{err_from_is_err_and}
use Rattle.node_loop.proofs.Listens.{listens_end, listens_more}
use Rattle.node_loop.proofs.serving.listen_all.Goals as goal

pub returns-in_err-listen-clause-told : goal.returns-in_err-listen-clause-told
returns-in_err-listen-clause-told g c =
    let p = err_from_is_err_and c.from_residual.result c.from_residual.ensures.1 in
    rw (p.1, p.2) (listens_end _ c.args.peers.now _ _ _ _ _ _ _ (g.N.Links.told c.listen.new.self) c.loop-id.id-index
    c.args.me.now c.in_err-listen.field-0.0 (omega (arith, c.loop-id-test.true)) c.loop-id.invariant
    c.in_err-listen.ensures.counted c.in_err-listen.ensures.told)

pub loop-id-preserved : goal.loop-id-preserved
loop-id-preserved g c =
    listens_more _ _ c.args.peers.now _ _ _ _ _ _ _ _ _ c.loop-id.id-index c.args.me.now
    (omega (arith, c.loop-id-test.true))
    c.loop-id.invariant c.in_ok-listen.ensures.counted c.listen.ensures.sends c.listen.ensures.others
    c.in_ok-listen.ensures.listening c.in_ok-listen.ensures.told.0 c.in_ok-listen.ensures.told.1
