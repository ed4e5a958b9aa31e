use Rattle.std.proofs.Common.{◌≡◌, ◌++◌, take}
use Rattle.synth_print.specs.Entries.{more_planned}
use Rattle.synth_print.proofs.plans.push_more_planned.Given as goal

abbrev pub invariant-loop-field : goal.invariant-loop-field
invariant-loop-field l = l.line ≡ l.initial.line ++ more_planned (take l.field-index l.fields)
