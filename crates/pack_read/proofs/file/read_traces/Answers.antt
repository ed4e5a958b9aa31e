use Rattle.std.proofs.Common.{rules, sym, subst}
use Rattle.audit_mean.specs.Text.{lines_of}
use Rattle.stack_judge.specs.Answer.{stack_tree}
use Rattle.pack_read.specs.Lines.{lines_left}
use Rattle.pack_read.specs.Files.{Reads}
use Rattle.pack_read.proofs.Steps.{first_read, rest_bound}
use Rattle.pack_read.proofs.file.read_traces.Goals as goal

pub read_after-requires : goal.read_after-requires
read_after-requires c = rest_bound c.args.text.now c.in-Some.first.now (lines_left c.next.new.self) (search rules)
    c.requires

pub returns : goal.returns
returns c = λ dues alike. subst (λ z. Reads z c.read_after.result)
    (sym (first_read (stack_tree c.args.stack.now) dues c.args.due.now c.in-Some.first.now (lines_of c.args.text.now)
    (lines_left c.next.new.self)
    (search rules) (search rules) alike)) c.read_after.ensures
