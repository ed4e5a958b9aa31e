use Rattle.std.proofs.Common.{rules}
use Rattle.script_text.specs.Reading.{words_left}
use Rattle.script_text.proofs.Requests.{asked_cast, asked_send, asked_leave, no_request}
use Rattle.script_text.proofs.plan_line.request.Goals as goal

pub returns-then-eq : goal.returns-then-eq
returns-then-eq c = rw
    (asked_cast (words_left c.args.words) (words_left c.next.new.self) c.in_ok-verb.verb.now (search rules)
    (search rules)) c.cast.ensures

pub returns-then-eq-2 : goal.returns-then-eq-2
returns-then-eq-2 c =
    rw (asked_send (words_left c.args.words) (words_left c.next.new.self) c.in_ok-verb.verb.now (search rules)
    (search rules) (search rules)) c.send.ensures

pub returns-then-eq-3 : goal.returns-then-eq-3
returns-then-eq-3 c =
    rw (asked_leave (words_left c.args.words) (words_left c.next.new.self) c.in_ok-verb.verb.now (search rules)
    (search rules) (search rules) (search rules)) c.leave.ensures

pub returns-else-eq-3 : goal.returns-else-eq-3
returns-else-eq-3 c = no_request (words_left c.args.words) (words_left c.next.new.self) c.in_ok-verb.verb.now
    (search rules) (search rules) (search rules) (search rules)
