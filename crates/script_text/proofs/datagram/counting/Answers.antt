use Rattle.std.proofs.Common.{◌+◌, ◌≤◌, ◌%◌, ◌++◌, ◌∷◌, [], ◌∙◌, ap, length, sym, subst, refl, arith}
use Rattle.std.proofs.lemmas.List.FromFn.{map-range_with_len_more, length-range_with_len}
use Rattle.std.proofs.lemmas.List.{length-map}
use Rattle.std.specs.List.{range_with_len}
use Rattle.script_text.proofs.datagram.counting.Goals as goal

pub push_reserved-requires : goal.push_reserved-requires
push_reserved-requires c =
    let many = ap length c.loop-place.invariant.0 ∙ length-map (range_with_len c.args.number c.loop-place.place)
    (λ byte. byte % 256)
    ∙ length-range_with_len c.args.number c.loop-place.place in
    let room = c.loop-place.invariant.1 in
    let more = c.loop-place-test.true in
    omega (arith, many, room, more)

pub loop-place-preserved : goal.loop-place-preserved
loop-place-preserved c = (
  c.push_reserved.ensures.items
      ∙ (λ i. c.loop-place.invariant.0 i ++ ((c.from.ensures i + c.from-in-loop-place.ensures i) % 256) ∷ [])
      ∙ sym (map-range_with_len_more (λ byte. byte % 256) c.args.number c.loop-place.place
      (c.args.number + c.loop-place.place) refl),
  subst (λ n. c.args.size ≤ n) (sym c.push_reserved.ensures.capacity) c.loop-place.invariant.1,
)
