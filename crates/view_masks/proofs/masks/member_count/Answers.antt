use Rattle.std.proofs.Common.{arith}
use Rattle.std.proofs.lemmas.Nat.{ones-le}
use Rattle.view_masks.proofs.Counting.{members_counted}
use Rattle.view_masks.proofs.masks.member_count.Goals as goal

pub returns-clause-count : goal.returns-clause-count
returns-clause-count c = members_counted c.args.view (omega arith)

pub returns-clause-few : goal.returns-clause-few
returns-clause-few c = ones-le 32 c.args.view.mask (omega arith)
