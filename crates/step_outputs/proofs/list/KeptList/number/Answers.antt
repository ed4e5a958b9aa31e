use Rattle.std.proofs.Common.{List, ◌∙◌, ap, arith, length, take, vec_capacity}
use Rattle.std.proofs.lemmas.List.{with_items_is}
use Rattle.circular_buffer.specs.Buffer.{Buffer, buffer}
use Rattle.step_outputs.specs.Kept.{numbered_outputs}
use Rattle.step_outputs.specs.declared.kept.Kept.{Kept}
use Rattle.step_outputs.proofs.list.KeptList.number.Goals as goal

pub invariant_of-self : goal.invariant_of-self
invariant_of-self c =
    let items = with_items_is c.self.inside.places c.number_front.new.list
    (omega (arith, c.number_front.auto.list, c.as_mut_slice.ensures.len)) in
    let size = ap length items in
    omega (arith, size, c.number_front.auto.list, c.as_mut_slice.ensures.len, c.self.invariant)

pub returns : goal.returns
returns c =
    let items = with_items_is c.self.inside.places c.number_front.new.list
    (omega (arith, c.number_front.auto.list, c.as_mut_slice.ensures.len)) in
    ap (λ (xs : List Kept). buffer (take c.self.inside.count xs) (vec_capacity c.self.inside.places)) items
    ∙ ap (λ (xs : List Kept). buffer xs (vec_capacity c.self.inside.places)) c.number_front.ensures
    ∙ ap (λ (xs : List Kept). buffer (numbered_outputs c.args.count c.args.first (take c.self.inside.count xs))
    (vec_capacity c.self.inside.places)) c.as_mut_slice.ensures.value
    ∙ ap (λ (b : Buffer Kept). buffer (numbered_outputs c.args.count c.args.first b.items) b.capacity) c.self.view_is
