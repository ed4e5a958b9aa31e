-- What holds of a member that is given an input.
use Rattle.std.specs.Prelude.{◌≡◌}
use Rattle.stack_mean.specs.Plans.{plans_of}
use Rattle.run_mean.specs.Member.{Input}
use Rattle.chain_laws.specs.Runs.{TypedStack}
use Rattle.member_laws.specs.Members.{IsChainedMember, IsInput}
use Rattle.group_member.specs.Placed.{Placed}

-- Its stack is typed, its plans are the stack's, what it keeps is chained, and the input is made of bytes and numbers.
pub record IsGiven (p : Placed) (input : Input) : Type 0 where
  pub typed : TypedStack p.stack
  pub plans : p.plans ≡ plans_of p.stack
  pub chained : IsChainedMember p.stack p.member
  pub range : IsInput input
