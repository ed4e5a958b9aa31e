use Rattle.std.proofs.Common.{◌≡◌, None, ◌-◌, ◌≤◌, vec_len}
use Rattle.std.specs.Prelude.{replicate}
use Rattle.udp_link.proofs.links.nobody.Given as goal

-- nobody listens yet
abbrev pub invariant-loop-members : goal.invariant-loop-members
invariant-loop-members l = record {
  few : vec_len l.members ≤ 32;
  nobody : l.members.items ≡ replicate (vec_len l.members) None;
}

abbrev pub decreases-loop-members : goal.decreases-loop-members
decreases-loop-members l = 32 - vec_len l.members
