use Rattle.std.proofs.Common.{◌∙◌, ◌^◌, ap, is_some}
use Rattle.msg_core.specs.View.{rank}
use Rattle.group_world.proofs.FirstView.{rank_in_first}
use Rattle.member_open.proofs.Alone.{opens_first}
use Rattle.member_open.proofs.opening.begin_one.Goals as goal

pub begin-requires-clause-member : goal.begin-requires-clause-member
begin-requires-clause-member c =
    ap (λ v. is_some (rank v c.args.id)) c.first_view-view.ensures ∙
    rank_in_first c.args.n c.args.id c.requires.members c.requires.id

pub returns : goal.returns
returns c =
    opens_first c.args.opening c.args.n c.args.id _ (2 ^ 62) _ _ _ _ c.first_view-view.ensures c.requires.members
    c.requires.opening c.begin.ensures
