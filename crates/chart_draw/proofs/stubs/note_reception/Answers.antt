use Rattle.std.proofs.lemmas.Result.{on_ok_weaker}
use Rattle.std.specs.HashMap as hash
use Rattle.chart_draw.specs.Scenes.{same_reception}
use Rattle.chart_draw.proofs.Stubbed.{put_received}
use Rattle.chart_draw.proofs.stubs.note_reception.Goals as goal

pub returns-in-Give : goal.returns-in-Give
returns-in-Give c = rw c.in-Give.is (on_ok_weaker c.put_reception.result
    (put_received (hash.get same_reception c.args.receptions.now)
    (hash.get same_reception c.put_reception.new.receptions)
    (record { number = c.in-Give.number; member = c.in-Give.member }))
    c.put_reception.ensures)
