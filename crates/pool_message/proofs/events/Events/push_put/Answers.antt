use Rattle.std.proofs.Common.{refl}
use Rattle.pool_message.proofs.Moves.{put_alone, made_of}
use Rattle.pool_message.proofs.events.Events.push_put.Goals as goal

pub returns : goal.returns
returns c = record {
  message = _;
  made = made_of _ _ _ _ c.args.headers.now _ (put_alone _ _ _ _ c.in-Some.ensures.some _ refl refl refl);
  last = c.push_made.ensures;
  room = λ full. absurd (cc (c.in-Some.ensures.full.1 full));
}
