use Rattle.std.proofs.Common.{rules, ap}
use Rattle.file_slots.specs.Visible.{Shown}
use Rattle.file_slots.proofs.Slots.{slot_found, slot_nowhere}
use Rattle.file_slots.proofs.visible.Visible.slot.Goals as goal

pub returns-in-None : goal.returns-in-None
returns-in-None c =
    slot_nowhere c.self.inside.slots.items c.args.self.now.names c.args.word.now
    (ap (λ (v : Shown). v.names) c.self.view_is)
    (search rules)

pub returns-in-Some : goal.returns-in-Some
returns-in-Some c =
    slot_found c.self.inside.slots.items c.args.self.now.names c.args.word.now c.in-Some.s.now
    (ap (λ (v : Shown). v.names) c.self.view_is) (search rules)
