use Rattle.std.proofs.Common.{◌≡◌, ◌-◌, ◌*◌, ◌≤◌, ◌++◌, length, take, drop}
use Rattle.std.specs.Prelude.{option_map}
use Rattle.script_mean.specs.Words.{hex_bytes}
use Rattle.script_text.proofs.values.write_bytes.Given as goal

abbrev pub invariant-loop-bytes : goal.invariant-loop-bytes
invariant-loop-bytes l = (length l.bytes ≡ length l.initial.bytes) × (l.done ≤ length l.bytes)
    × (hex_bytes l.digits ≡ option_map (λ more. take l.done l.bytes ++ more) (hex_bytes (drop (2 * l.done) l.digits)))

abbrev pub decreases-loop-bytes : goal.decreases-loop-bytes
decreases-loop-bytes l = length l.bytes - l.done
