use Rattle.std.proofs.Common.{rules, Some}
use Rattle.job_text.specs.Shown.{text}
use Rattle.job_text.proofs.Members.{few_members}
use Rattle.job_text.proofs.numbers.some_members.Goals as goal

pub returns-then-is_ascending-clause-are : goal.returns-then-is_ascending-clause-are
returns-then-is_ascending-clause-are c = search rules

pub returns-then-is_ascending-clause-few : goal.returns-then-is_ascending-clause-few
returns-then-is_ascending-clause-few c = few_members (text c.args.given) (Some c.in-Some-2.members.items)
    (returns-then-is_ascending-clause-are c)
