use Rattle.std.proofs.Common.{◌≡◌, ◌+◌, ◌≤◌, drop, length, vec_len, vec_capacity}
use Rattle.packet_short.specs.Fits.{following}
use Rattle.packet_short.proofs.Variable.{KeepsOn}
use Rattle.packet_short.proofs.agreement.following.Given as goal

abbrev pub invariant-loop-place : goal.invariant-loop-place
invariant-loop-place l = record {
  rest : following l.left (drop l.place l.fields) ≡ following l.planned l.fields;
  items : KeepsOn l.planned l.fields l.left (drop l.place l.fields) l.fn.into.items l.into.items;
  len : vec_len l.into + length l.left ≤ vec_len l.fn.into + length l.planned;
  capacity : vec_capacity l.into ≡ vec_capacity l.fn.into;
}
