use Rattle.std.proofs.Common.{ℕ, List, drop, length, ap, ◌∙◌, ◌-◌}
use Rattle.layer_words.specs.declared.words.Word.{Word}
use Rattle.file_slots.specs.Visible.{Shown, entries}
use Rattle.file_slots.proofs.Slots.{entries_take}
use Rattle.file_slots.proofs.visible.Visible.leave.Goals as goal

pub returns : goal.returns
returns c =
    let shows : List (Word × ℕ) → Shown = λ names. record { names = names; taken = c.self.inside.taken } in
    let left : Shown → Shown = λ v. record { names = drop (length v.names - c.args.outer) v.names; taken = v.taken } in
    ap (λ slots. shows (entries slots)) c.truncate.ensures.items
    ∙ (ap shows (entries_take c.args.outer c.self.inside.slots.items) ∙ ap left c.self.view_is)
