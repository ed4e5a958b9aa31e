-- What is told of a member that is as it is to be.
use Rattle.std.proofs.Common.{◌≡◌, ℕ, ◌<◌, ◌≤◌, List, Option, Some, refl, ap, sym, subst, ◌∙◌, arith}
use Rattle.std.specs.Prelude.{length, slice_get}
use Rattle.std.specs.Rc.{rc_value}
use Rattle.chain_laws.proofs.Lists.{Where, each_where}
use Rattle.run_mean.specs.Member.{Output}
use Rattle.stack_mean.specs.Plan.{Plan}
use Rattle.stack_shapes.specs.Trees.{plans_tree}
use Rattle.step_outputs.specs.Gathered.{Gathered}
use Rattle.group_member.specs.Placed.{Placed}
use Rattle.group_peer.specs.Heads.{Puts, bytes_of, head_of, room_of}
use Rattle.group_peer.specs.Next.{HasNoRoom, TellsOutput}
use Rattle.group_peer.specs.Standing.{IsFit, IsShort, most_room}
use Rattle.group_peer.specs.Telling.{Passed, Stays, next_output}
use Rattle.group_peer.specs.declared.peer.Peer.{Peer}
use Rattle.group_peer.specs.declared.told.Head.{Head}
use Rattle.group_peer.specs.declared.told.Put.TheVariants.{Fits, Short}

-- the next output of a member is short
short_at : (m : Placed) (outputs : Gathered) (k : ℕ) (o : Output × Option ℕ) → IsFit m outputs →
    slice_get outputs.outputs k ≡ Some o → IsShort m.plans o
short_at m outputs k o is found =
    subst (Where (IsShort m.plans)) found (each_where (IsShort m.plans) outputs.outputs k is.short)

pub room_at : (m : Placed) (outputs : Gathered) (k spare : ℕ) (o : Output × Option ℕ) → IsFit m outputs →
    slice_get outputs.outputs k ≡ Some o → most_room ≤ spare → room_of o ≤ spare
room_at m outputs k spare o is found room =
    let short = short_at m outputs k o is found in omega (arith, short.0, room)

pub tells_output : (old new : Peer) (room after : List ℕ) (h : Head) (n : ℕ) (o : Output × Option ℕ) →
    old.member.id ≡ old.id → plans_tree (rc_value old.plans) ≡ old.member.plans →
    next_output old ≡ Some o → h ≡ head_of old.id o →
    Puts (bytes_of (plans_tree (rc_value old.plans)) o) room after (Fits n) → Passed old new →
    TellsOutput old new room after h n
tells_output old new room after h n o id plans found told puts passed =
    let both = subst (λ (ps : List Plan). Puts (bytes_of ps o) room after (Fits n)) plans puts in
    record {
      output = o;
      is_next = found;
      head = told ∙ ap (λ id. head_of id o) (sym id);
      count = both.0;
      bytes = both.1;
      passed = passed;
    }

pub has_no_room : (old new : Peer) (room after : List ℕ) (n : ℕ) (o : Output × Option ℕ) →
    IsFit old.member old.outputs → plans_tree (rc_value old.plans) ≡ old.member.plans →
    next_output old ≡ Some o →
    Puts (bytes_of (plans_tree (rc_value old.plans)) o) room after (Short n) → Stays old new →
    HasNoRoom old new room after n
has_no_room old new room after n o is plans found puts stays =
    let short = short_at old.member old.outputs old.next o is found in
    let both = subst (λ (ps : List Plan). Puts (bytes_of ps o) room after (Short n)) plans puts in
    record {
      output = o;
      is_next = found;
      count = both.0;
      short = both.1;
      few = omega (arith, both.0, short.1);
      room_is = both.2;
      stays = stays;
    }
