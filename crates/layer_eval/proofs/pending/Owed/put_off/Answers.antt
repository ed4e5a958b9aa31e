use Rattle.std.proofs.Common.{[], ◌∷◌, ◌++◌, refl, ap}
use Rattle.layer_eval.proofs.Owed.{put_off_event}
use Rattle.layer_eval.proofs.pending.Owed.put_off.Goals as goal

pub returns-clause-put_off : goal.returns-clause-put_off
returns-clause-put_off g c =
    let p = g.D.Desk.shown c.args.pool.now c.args.desk.now in
    record {
      sent = ap (λ event. p.sent ++ event ∷ [])
          (put_off_event c.args.place c.args.emission.now c.in-Some.content c.in-Local.slot p
          c.envelope-self-inside.result
          c.write_header.new.header c.in-Some.is c.in-Local.is c.write_header.ensures c.envelope-self-inside.ensures);
      places = refl;
    }
