use Rattle.std.proofs.Common.{◌∙◌, ap, refl, sym}
use Rattle.std.proofs.lemmas.Result.{on_ok_weaker}
use Rattle.std.specs.HashMap as hash
use Rattle.chart_draw.specs.Bearers.{same_word}
use Rattle.chart_draw.specs.Reading.{line_shown, word_shown}
use Rattle.chart_draw.proofs.Marked.{noted, not_noted}
use Rattle.chart_draw.proofs.marks.note.Goals as goal

pub returns-in-Some : goal.returns-in-Some
returns-in-Some c =
    on_ok_weaker c.note_packet.result
    (noted c.args.told (line_shown c.args.line.now) _ c.in-Some.word.now _
    (hash.get same_word c.note_packet.new.bearers) (ap word_shown (sym c.in-Some.is) ∙ c.key.ensures)
    (rw c.sender.ensures refl))
    c.note_packet.ensures

pub returns-in-None : goal.returns-in-None
returns-in-None c =
    not_noted c.args.told (line_shown c.args.line.now) (hash.get same_word c.args.bearers.now)
    (ap word_shown (sym c.in-None.is) ∙ c.key.ensures)
