use Rattle.std.proofs.Common.{◌≡◌, ◌*◌, ◌++◌, take, drop}
use Rattle.std.specs.Prelude.{nat_lt, option_map}
use Rattle.script_mean.specs.Words.{hex_bytes}
use Rattle.script_text.proofs.Hex.{joined}
use Rattle.script_text.proofs.values.write_last.Given as goal

abbrev pub invariant-loop-i : goal.invariant-loop-i
invariant-loop-i l = option_map (λ more. take l.done l.initial.bytes ++ more) (hex_bytes (drop (2 * l.done) l.digits))
    ≡ joined (nat_lt l.most 16) (take l.i l.bytes) (hex_bytes (drop (2 * l.i) l.digits))
