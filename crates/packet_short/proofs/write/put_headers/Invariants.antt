use Rattle.std.proofs.Common.{◌≡◌, ◌+◌, ◌*◌, ◌≤◌, ◌++◌, drop, vec_len, vec_capacity}
use Rattle.std.specs.Prelude.{flat_map}
use Rattle.packet_mean.specs.Plan.{variable}
use Rattle.packet_mean.specs.Spelling.{number_bytes}
use Rattle.packet_short.proofs.write.put_headers.Given as goal

abbrev pub invariant-loop-header : goal.invariant-loop-header
invariant-loop-header l = record {
  items : l.fn.into.items ++
      flat_map number_bytes (variable l.plan.fields.items (flat_map (λ h. h.fields) l.header-items))
      ≡ l.into.items ++ flat_map number_bytes
      (variable l.left (flat_map (λ h. h.fields) (drop l.header-index l.header-items)));
  len : vec_len l.into ≤ vec_len l.fn.into + 16 * l.header-index;
  capacity : vec_capacity l.into ≡ vec_capacity l.fn.into;
}
