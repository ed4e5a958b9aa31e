use Rattle.std.proofs.Common.{arith}
use Rattle.std.proofs.lemmas.List.{length-map}
use Rattle.file_parse.proofs.Ending.{stack_refused, stack_read}
use Rattle.file_parse.proofs.files.stack.Goals as goal

pub returns-then-not-is_empty : goal.returns-then-not-is_empty
returns-then-not-is_empty c =
    stack_refused _ _ _ _ _ _ _ c.in_ok-rest.ensures c.in_ok-inside.ensures c.in_ok-places.ensures.read
    c.in_ok-rest-2.ensures c.if-not-is_empty.ensures

pub returns : goal.returns
returns c =
    stack_read _ _ _ _ _ _ _ c.in_ok-rest.ensures c.in_ok-inside.ensures c.in_ok-places.ensures.read
    c.in_ok-rest-2.ensures c.if-not-is_empty.ensures (grind (arith, length-map, c.in_ok-places.ensures.some))
