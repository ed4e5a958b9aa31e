use Rattle.std.proofs.Common.{◌∙◌, ◌∷◌, ap}
use Rattle.cell_store.proofs.Written.{within_shown, rows_read, has_room, still_rings, shown_written}
use Rattle.cell_store.proofs.rings.Rings.put_front.Goals as goal

pub push_front_reserved-requires : goal.push_front_reserved-requires
push_front_reserved-requires g c =
    let below = within_shown _ _ _ _ _ c.self.view_is c.requires.there in
    has_room _ _ _ _ _ _ c.self.view_is c.self.invariant below c.index_mut-ring.ensures.value c.requires.room

pub invariant_of-self : goal.invariant_of-self
invariant_of-self g c =
    let below = within_shown _ _ _ _ _ c.self.view_is c.requires.there in
    still_rings _ _ _ _ _ _ c.self.invariant below c.index_mut-ring.ensures.value c.push_front_reserved.ensures.capacity

pub returns : goal.returns
returns g c =
    let below = within_shown _ _ _ _ _ c.self.view_is c.requires.there in
    let rows = rows_read _ _ _ _ _ _ c.self.view_is c.self.invariant below c.index_mut-ring.ensures.value in
    shown_written _ _ _ _ _ _ _ c.self.view_is
    (c.push_front_reserved.ensures.items ∙ ap (λ rows. c.args.row ∷ rows) rows)
