use Rattle.std.proofs.Common.{arith, sym, ◌∙◌, drop}
use Rattle.packet_short.proofs.Alike.{disagrees, goes_on, none_left, ends_alike}
use Rattle.packet_short.proofs.Keeping.{one_more_kept, kept_if}
use Rattle.packet_short.proofs.Variable.{headers_kept}
use Rattle.packet_short.proofs.agreement.is_alike.Goals as goal

pub returns-in_default-clause-alike : goal.returns-in_default-clause-alike
returns-in_default-clause-alike c =
    sym (sym c.loop-place.invariant.alike
    ∙ disagrees (drop c.loop-place.place c.as_slice-tags.result.now) c.loop-place.fields.now c.slice-theirs.result.now
    c.loop-place.place
    c.index-theirs-place.result (omega (arith, c.loop-place-test.true)) c.index-theirs-place.is
    c.in_default.ensures.rest)

pub loop-place-preserved : goal.loop-place-preserved
loop-place-preserved c = record {
  alike =
      goes_on c.as_slice-tags.result.now c.loop-place.fields.now c.in-Some.rest.now c.slice-theirs.result.now
      c.loop-place.place
      c.index-theirs-place.result
      (omega (arith, c.if-tags-theirs.false, c.loop-place-test.true)) (omega (arith, c.loop-place-test.true))
      c.index-theirs-place.is
      c.if-tags-place.false c.in-Some.ensures.rest
      ∙ c.loop-place.invariant.alike;
  items =
      one_more_kept _ _ _ c.loop-place.fields.now c.in-Some.rest.now c.slice-theirs.result.now c.loop-place.place
      c.index-theirs-place.result
      (omega (arith, c.loop-place-test.true)) c.index-theirs-place.is c.loop-place.invariant.items
      c.in-Some.ensures.items;
  len = omega (arith, c.in-Some.ensures.len, c.loop-place.invariant.len);
  capacity = c.in-Some.ensures.capacity ∙ c.loop-place.invariant.capacity;
}

pub returns-clause-alike : goal.returns-clause-alike
returns-clause-alike c =
    ends_alike (drop c.loop-place.place c.as_slice-tags.result.now) c.loop-place.fields.now
    (drop c.loop-place.place c.slice-theirs.result.now)
    c.is_empty.result
    (none_left c.slice-theirs.result.now c.loop-place.place (omega (arith, c.loop-place-test.false)))
    (none_left c.as_slice-tags.result.now c.loop-place.place
    (omega (arith, c.if-tags-theirs.false, c.loop-place-test.false)))
    c.is_empty.ensures
    ∙ c.loop-place.invariant.alike

pub returns-clause-fields : goal.returns-clause-fields
returns-clause-fields c =
    kept_if c.is_empty.result _ _
    (headers_kept _ c.loop-place.fields.now c.slice-theirs.result.now c.loop-place.place _ c.loop-place.invariant.items
    (omega (arith, c.loop-place-test.false)))
