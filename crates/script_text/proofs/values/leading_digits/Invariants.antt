use Rattle.std.proofs.Common.{◌<◌, ◌^◌, take}
use Rattle.script_text.specs.Reading.{IsAllDigits}
use Rattle.script_text.proofs.values.leading_digits.Given as goal

abbrev pub invariant-loop-place : goal.invariant-loop-place
invariant-loop-place l = IsAllDigits (take l.place l.text) l.value × (l.value < 10 ^ l.place)
