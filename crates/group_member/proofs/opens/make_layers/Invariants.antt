use Rattle.std.proofs.Common.{◌≡◌, take, vec_len, vec_capacity}
use Rattle.live_layer.specs.Making.{making}
use Rattle.group_member.specs.Making.{AreFresh, Made}
use Rattle.group_member.proofs.opens.make_layers.Given as goal

abbrev pub invariant-loop-place : goal.invariant-loop-place
invariant-loop-place l = record {
  fresh_are : AreFresh l.membership.me l.membership.count l.membership.ltime (take l.place (making l.fn.maker).stack)
      l.layers.items;
  making_is : Made l.place (making l.fn.maker) (making l.maker);
  count : vec_len l.layers ≡ l.place;
  room : vec_capacity l.layers ≡ l.places;
  pool : l.pool ≡ l.fn.pool;
}
