use Rattle.memchr.specs.Find.{Nowhere, Passes, is_byte}
use Rattle.script_text.proofs.splits.first_near.Given as goal

abbrev pub invariant-loop-place : goal.invariant-loop-place
invariant-loop-place l = Nowhere (Passes (is_byte l.at) l.text) 0 l.place
