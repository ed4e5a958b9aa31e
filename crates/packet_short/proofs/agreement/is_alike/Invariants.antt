use Rattle.std.proofs.Common.{◌≡◌, ◌+◌, ◌≤◌, ◌++◌, drop, length, vec_len, vec_capacity}
use Rattle.std.specs.Prelude.{flat_map}
use Rattle.packet_mean.specs.Plan.{variable}
use Rattle.packet_short.specs.Fits.{alike}
use Rattle.packet_short.proofs.agreement.is_alike.Given as goal

abbrev pub invariant-loop-place : goal.invariant-loop-place
invariant-loop-place l = record {
  alike : alike (drop l.place l.tags) l.fields (drop l.place l.theirs) ≡
      alike l.plan.tags.items l.plan.fields.items l.headers;
  items : variable l.plan.fields.items (flat_map (λ h. h.fields) l.headers)
      ≡ l.into.items ++ variable l.fields (flat_map (λ h. h.fields) (drop l.place l.theirs));
  len : vec_len l.into + length l.fields ≤ length l.plan.fields.items;
  capacity : vec_capacity l.into ≡ vec_capacity l.fn.into;
}
