-- A member that is opened alone.
use Rattle.std.proofs.Common.{◌≡◌, ℕ, ◌<◌, ◌≤◌, ◌∙◌, ap, subst, List, Result, Ok, Err}
use Rattle.std.proofs.Common.{Bor, Option, Some, None, option_copied, option_map}
use Rattle.std.specs.Rc.{rc_value}
use Rattle.std.specs.declared.rc.Rc.{Rc}
use Rattle.msg_core.specs.View.{first_view, member_count}
use Rattle.msg_core.specs.declared.packet.View.{View}
use Rattle.stack_mean.specs.Acceptance.{rows_of, most_rows}
use Rattle.run_mean.specs.Member.{opened_member}
use Rattle.live_layer.specs.Making.{Making}
use Rattle.group_member.specs.Opening.{CanOpen, Opens, rows_in, stack_in}
use Rattle.group_member.specs.Placed.{Placed}
use Rattle.group_member.specs.declared.error.OpenError.{OpenError}
use Rattle.group_member.specs.declared.error.OpenError.TheVariants.{TooLarge, Memory}
use Rattle.group_member.specs.declared.opening.Opening.{Opening}
use Rattle.group_world.proofs.FirstView.{count_of_first}
use Rattle.layer_mean.specs.Tree.{LayerTree}
use Rattle.run_mean.specs.Mode.{Mode}
use Rattle.group_mean.specs.Room.{HasRoom}
use Rattle.group_member.specs.Opening.{mode_in}
use Rattle.member_open.specs.OneMember.{IsAtFirst, IsFirst, OpensFirst}

rows_are : (o : Opening) (view : View) (n : ℕ) → view ≡ first_view n → n ≤ 32 → rows_in o view ≡ rows_of (stack_in o) n
rows_are o view n first few = ap (λ v. rows_in o v) first ∙ ap (rows_of (stack_in o)) (count_of_first n few)

pub opens_first : (o : Opening) (n id : ℕ) (view : View) (most : ℕ) (maker before after : Making)
    (r : Result Placed OpenError) →
    view ≡ first_view n → n ≤ 32 → CanOpen most maker o → Opens o view id before after r → OpensFirst o n id r
opens_first o n id view most maker before after (Ok m) first few can is = record {
  first = record {
    member = is.member ∙ ap (λ v. opened_member (stack_in o) v id) first;
    stack_is = is.stack_is;
    plans_are = is.plans_are ∙ can.plans_are;
    mode_is = is.mode_is;
    group_is = is.group_is;
    stamp_is = is.stamp_is;
    id_is = is.id_is;
  };
  room = subst (λ (rows : ℕ). rows ≤ most_rows) (rows_are o view n first few) is.few;
}
opens_first o n id view most maker before after (Err TooLarge) first few can is =
    subst (λ (rows : ℕ). most_rows < rows) (rows_are o view n first few) is.0
opens_first o n id view most maker before after (Err Memory) first few can is = tt

-- A member that is first over a stack and a mode that equal these is first over these.
pub opened_as : (o : Opening) (n id : ℕ) (m : Placed) (mode : Mode) (stack : List LayerTree) → mode_in o ≡ mode →
    stack_in o ≡ stack → IsFirst o n id m → IsAtFirst mode stack o.group o.stamp n id m × HasRoom stack n
opened_as o n id m mode stack mode_is stack_is is = (
  subst (λ (s : List LayerTree). IsAtFirst mode s o.group o.stamp n id m) stack_is
      (subst (λ (md : Mode). IsAtFirst md (stack_in o) o.group o.stamp n id m) mode_is is.first),
  subst (λ (s : List LayerTree). HasRoom s n) stack_is is.room,
)

-- Code that is lent is what it was.
pub lent_as : {X Z : Type 0} (lent : Option (Bor (Rc X Z))) (codes : Option (Rc X Z)) → option_copied lent ≡ codes →
    option_map (λ c. rc_value c.now) lent ≡ option_map rc_value codes
lent_as None codes is = ap (option_map rc_value) is
lent_as (Some c) codes is = ap (option_map rc_value) is
