use Rattle.std.proofs.Common.{◌∙◌, refl}
use Rattle.std.proofs.lemmas.Result.{err_from_is_err_and}
use Rattle.node_loop.proofs.Datagrams.{handles_bytes, may_take_bytes}
use Rattle.node_loop.proofs.Passing.{breaks_first, memory_stops}
use Rattle.node_loop.proofs.sending.hand_on.Goals as goal

pub send_to_all_of-requires : goal.send_to_all_of-requires
send_to_all_of-requires g c =
    record { peers = may_take_bytes _ _ _ _ (c.deref.ensures.value ∙ c.in_ok-spell.ensures) c.requires.peers }

pub returns-clause-handed : goal.returns-clause-handed
returns-clause-handed g c =
    handles_bytes c.args.source.number c.args.source.id _ _ _ _ _ c.send_to_all_of.result
    (c.deref.ensures.value ∙ c.in_ok-spell.ensures) c.send_to_all_of.ensures.handed

pub returns-in_err-spell-clause-handed : goal.returns-in_err-spell-clause-handed
returns-in_err-spell-clause-handed g c =
    let p = err_from_is_err_and c.from_residual.result c.from_residual.ensures.1 in
    rw (p.1, p.2) (breaks_first _ _ _ _ (memory_stops _ _) refl refl refl)
