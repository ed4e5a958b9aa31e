use Rattle.std.proofs.Common.{◌≡◌, drop}
use Rattle.std.specs.Prelude.{◌==◌}
use Rattle.std.specs.List.{slice_split}
use Rattle.script_text.specs.Parts.{parts_after}
use Rattle.breach_text.proofs.telling.after_lines.Given as goal

abbrev pub invariant-loop : goal.invariant-loop
invariant-loop l = parts_after 10 l.rest ≡ drop l.counter (slice_split (λ byte. byte == 10) l.fn.text)
