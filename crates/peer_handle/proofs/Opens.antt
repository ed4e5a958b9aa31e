-- What opening answers.
use Rattle.std.proofs.Common.{◌≡◌, ℕ, ◌<◌, ◌≤◌, Bool, true, false, List, Option, Some, None, Result, Ok, Err, refl}
use Rattle.std.proofs.Common.{arith, is_some}
use Rattle.std.proofs.Common.{ap, sym, subst, ◌∙◌}
use Rattle.std.specs.Prelude.{◌&&◌, nat_le, nat_lt, length}
use Rattle.std.proofs.lemmas.Bool.{and_parts, leb-true, ltb-true}
use Rattle.layer_mean.specs.Tree.{LayerTree}
use Rattle.msg_core.specs.View.{most_members}
use Rattle.end_mean.specs.Status as status
use Rattle.file_judge.specs.Answer.{Judges}
use Rattle.file_judge.specs.declared.error.FileError.{FileError}
use Rattle.file_judge.specs.declared.error.FileError.TheVariants as file
use Rattle.output_mean.specs.Judged.{Means}
use Rattle.run_mean.specs.Mode.{Mode}
use Rattle.group_member.specs.declared.error.OpenError.{OpenError}
use Rattle.group_member.specs.declared.error.OpenError.TheVariants.{TooLarge, Memory}
use Rattle.group_open.specs.Opening.{CanRun}
use Rattle.group_open.proofs.Running.{can_run}
use Rattle.group_peer.specs.Opening.{IsOpenPeer, OpensPeer}
use Rattle.group_peer.specs.declared.peer.Peer.{Peer}
use Rattle.peer_handle.specs.Faults.{Beginning, IsRefused, error_fault, error_sentence, is_cause}
use Rattle.peer_handle.specs.Opens.{IsOpen, IsTooLarge, Makes, Opens, OpensStack, RefusesFile, Wanted, error_opening}
use Rattle.peer_handle.specs.Opens.{is_possible, mode_for}
use Rattle.peer_handle.specs.Ownership.{Kept}
use Rattle.peer_handle.specs.declared.answer.Opening.{Opening}
use Rattle.peer_handle.specs.declared.answer.Opening.TheVariants as opening
use Rattle.peer_handle.specs.declared.fault.ToldFault.{ToldFault}
use Rattle.peer_handle.proofs.Sound.{means_sound}

-- a possible group has few members, and the member
pub few_members : (members id : ℕ) → is_possible members id ≡ true → members ≤ most_members
few_members members id is =
    leb-true members most_members (and_parts (nat_le members most_members) (nat_lt id members) is).0

pub has_member : (members id : ℕ) → is_possible members id ≡ true → id < members
has_member members id is = ltb-true id members (and_parts (nat_le members most_members) (nat_lt id members) is).1

-- a stack that bytes mean can be run
pub runs : (mode : Mode) (text : List ℕ) (stack : List LayerTree) → Means text stack → CanRun mode stack
runs mode text stack means = can_run mode stack (means_sound text stack means)

-- what opening a member makes, over a stack that bytes mean
pub is_made : (w : Wanted) (stack : List LayerTree) (mode : Mode) (p : Peer) → Means w.text stack →
    mode ≡ mode_for w.bypass → IsOpenPeer mode stack w.group w.stamp w.members w.id p → IsOpen w p
is_made w stack mode p means same is = record {
  stack = stack;
  means = means;
  first = subst (λ (m : Mode). IsOpenPeer m stack w.group w.stamp w.members w.id p) same is;
}

pub not_made : (w : Wanted) (stack : List LayerTree) (mode : Mode) (e : OpenError) → Means w.text stack →
    OpensPeer mode stack w.group w.stamp w.members w.id (Err e) → Makes w (Err e)
not_made w stack mode TooLarge means is = record { stack = stack; means = means; many = is }
not_made w stack mode Memory means is = tt

-- a handle that stays without a member, where none was made
pub none_opened : (w : Wanted) (kept : Kept) (e : OpenError) (answer : Opening) → kept ≡ None →
    answer ≡ error_opening e → Makes w (Err e) → OpensStack w kept answer
none_opened w (Some m) e answer none is made = absurd (cc none)
none_opened w None TooLarge answer none is made = subst (OpensStack w None) (sym is) made
none_opened w None Memory answer none is made = subst (OpensStack w None) (sym is) tt

-- a cause that the judge of files answers is the definitions'
refused : (text : List ℕ) (e : FileError) (fault : ToldFault) (room after : List ℕ) → Judges text (Err e) →
    is_cause e ≡ true → fault ≡ error_fault e (length (error_sentence e)) → Beginning (error_sentence e) room after →
    IsRefused text fault room after
refused text file.TooLarge fault room after j told n w =
    record { cause = status.too_large; refuses = j; numbers = n; words = w }
refused text (file.BadToken at) fault room after j told n w =
    record { cause = status.bad_token at; refuses = j; numbers = n; words = w }
refused text (file.Unexpected at) fault room after j told n w =
    record { cause = status.unexpected at; refuses = j; numbers = n; words = w }
refused text (file.Unknown at) fault room after j told n w =
    record { cause = status.unknown at; refuses = j; numbers = n; words = w }
refused text (file.Twice at) fault room after j told n w =
    record { cause = status.twice at; refuses = j; numbers = n; words = w }
refused text (file.OverLimit at) fault room after j told n w =
    record { cause = status.over_limit at; refuses = j; numbers = n; words = w }
refused text (file.Kind at) fault room after j told n w =
    record { cause = status.wrong_kind at; refuses = j; numbers = n; words = w }
refused text (file.Arity at) fault room after j told n w =
    record { cause = status.arity at; refuses = j; numbers = n; words = w }
refused text (file.Direction at) fault room after j told n w =
    record { cause = status.direction at; refuses = j; numbers = n; words = w }
refused text (file.Header at) fault room after j told n w =
    record { cause = status.header at; refuses = j; numbers = n; words = w }
refused text (file.Initial at) fault room after j told n w =
    record { cause = status.initial at; refuses = j; numbers = n; words = w }
refused text (file.Cycle place kind) fault room after j told n w =
    record { cause = status.cycle place kind; refuses = j; numbers = n; words = w }
refused text (file.TooMany weight) fault room after j told n w =
    record { cause = status.too_many weight; refuses = j; numbers = n; words = w }
refused text file.TooManyJoins fault room after j told n w =
    record { cause = status.too_many_joins; refuses = j; numbers = n; words = w }
refused text file.Memory fault room after j told n w = absurd (cc told)

pub is_refused : (text : List ℕ) (e : FileError) (sentence : List ℕ) (n : ℕ) (fault : ToldFault)
    (room after : List ℕ) → Judges text (Err e) → is_cause e ≡ true → sentence ≡ error_sentence e →
    n ≡ length sentence →
    fault ≡ error_fault e n → Beginning sentence room after → IsRefused text fault room after
is_refused text e sentence n fault room after judged told words count numbers put =
    refused text e fault room after judged told
    (numbers ∙ ap (error_fault e) (count ∙ ap length words))
    (subst (λ (s : List ℕ). Beginning s room after) words put)

-- a handle that is full has a member, and stays
pub has_one : (w : Wanted) (full : Bool) (kept : Kept) (fault : ToldFault) (room : List ℕ) → full ≡ is_some kept →
    full ≡ true → Opens w kept kept fault fault room room opening.HasOne
has_one w full None fault room tied is = absurd (cc (tied, is))
has_one w full (Some m) fault room tied is = (refl, refl, refl)

-- a handle that isn't, and stays, where there is no such member
pub no_member : (w : Wanted) (full : Bool) (kept : Kept) (fault : ToldFault) (room : List ℕ) → full ≡ is_some kept →
    full ≡ false → is_possible w.members w.id ≡ false → Opens w kept kept fault fault room room opening.NoMember
no_member w full None fault room tied empty is = (is, refl, refl)
no_member w full (Some m) fault room tied empty is = absurd (cc (tied, empty))

-- a handle that isn't full has none
pub none_kept : (full : Bool) (kept : Kept) → full ≡ is_some kept → full ≡ false → kept ≡ None
none_kept full None tied empty = refl
none_kept full (Some m) tied empty = absurd (cc (tied, empty))

-- what opening over a stack answers, and what refusing does, is what opening answers of a handle that had no member
pub opens_stack : (w : Wanted) (old new : Kept) (before fault : ToldFault) (room after : List ℕ) (answer : Opening) →
    old ≡ None →
    OpensStack w new answer → fault ≡ before → after ≡ room → Opens w old new before fault room after answer
opens_stack w (Some m) new before fault room after answer none is f r = absurd (cc none)
opens_stack w None (Some new) before fault room after opening.Opened none is f r = (is, f, r)
opens_stack w None None before fault room after opening.TooLarge none is f r = (is, f, r)
opens_stack w None None before fault room after opening.NoMemory none is f r = (f, r)
opens_stack w None None before fault room after opening.Opened none is f r = absurd is
opens_stack w None (Some new) before fault room after opening.TooLarge none is f r = absurd is
opens_stack w None (Some new) before fault room after opening.NoMemory none is f r = absurd is
opens_stack w None new before fault room after opening.HasOne none is f r = absurd (no_other w new is)
  where
    no_other : (w : Wanted) (new : Kept) → OpensStack w new opening.HasOne → ⊥
    no_other w None is = is
    no_other w (Some new) is = is
opens_stack w None new before fault room after opening.NoMember none is f r = absurd (no_other w new is)
  where
    no_other : (w : Wanted) (new : Kept) → OpensStack w new opening.NoMember → ⊥
    no_other w None is = is
    no_other w (Some new) is = is
opens_stack w None new before fault room after opening.Refused none is f r = absurd (no_other w new is)
  where
    no_other : (w : Wanted) (new : Kept) → OpensStack w new opening.Refused → ⊥
    no_other w None is = is
    no_other w (Some new) is = is

pub refuses_file : (w : Wanted) (old new : Kept) (before fault : ToldFault) (room after : List ℕ) (answer : Opening) →
    old ≡ None → new ≡ old → RefusesFile w.text before fault room after answer →
    Opens w old new before fault room after answer
refuses_file w (Some m) new before fault room after answer none same is = absurd (cc none)
refuses_file w None (Some m) before fault room after answer none same is = absurd (cc same)
refuses_file w None None before fault room after opening.Refused none same is = is
refuses_file w None None before fault room after opening.NoMemory none same is = is
refuses_file w None None before fault room after opening.Opened none same is = absurd is
refuses_file w None None before fault room after opening.HasOne none same is = absurd is
refuses_file w None None before fault room after opening.NoMember none same is = absurd is
refuses_file w None None before fault room after opening.TooLarge none same is = absurd is
