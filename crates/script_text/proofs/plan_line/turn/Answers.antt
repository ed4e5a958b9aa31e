use Rattle.std.proofs.Common.{Err, subst, sym}
use Rattle.std.proofs.lemmas.Result.{err_from_is_err_and}
use Rattle.script_mean.specs.PlanLine.{request_line}
use Rattle.script_text.specs.Reading.{IsTurn, words_left}
use Rattle.script_text.proofs.Requests.{turn_after, turn_read, turn_refused}
use Rattle.script_text.proofs.plan_line.turn.Goals as goal

pub returns-in_err-event : goal.returns-in_err-event
returns-in_err-event c =
    let p = err_from_is_err_and c.from_residual-in_err-event.result c.from_residual-in_err-event.ensures.1 in
    let line = turn_after c.args.earliest c.in_ok-turn.turn (words_left c.args.words) (words_left c.the_word.new.self)
    (words_left c.number_within.new.self) c.in_ok-the_word.ensures c.in_ok-turn.ensures in
    rw (p.1, p.2) (subst (λ taken. IsTurn c.args.members taken (Err c.in_err-event.field-0.0)) (sym line)
    (turn_refused c.args.members c.in_ok-turn.turn (request_line (words_left c.number_within.new.self))
    c.in_err-event.field-0.0 c.in_err-event.ensures))

pub returns : goal.returns
returns c =
    let line = turn_after c.args.earliest c.in_ok-turn.turn (words_left c.args.words) (words_left c.the_word.new.self)
    (words_left c.number_within.new.self) c.in_ok-the_word.ensures c.in_ok-turn.ensures in
    rw line (turn_read c.args.members c.in_ok-turn.turn (request_line (words_left c.number_within.new.self))
    c.in_ok-event.event c.in_ok-event.ensures)
