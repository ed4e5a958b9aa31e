-- What inputs enter as, before anything is done.
use Rattle.std.specs.Prelude.{◌≡◌, ℕ, ◌≤◌, List, [], drop, length, Result, Ok, Err}
use Rattle.packet_mean.specs.declared.here.Here.{Here}
use Rattle.packet_full.specs.Scanned.{packet_scanned}
use Rattle.packet_mean.specs.Plan.{kind_of}
use Rattle.packet_short.specs.Layouts.{IsReadAs}
use Rattle.stack_mean.specs.Plan.{Plan}
use Rattle.run_mean.specs.Member as member
use Rattle.run_mean.specs.Member.{Entered, app_cast, app_send, app_leave, clock_tick, from_peer}
use Rattle.view_core.specs.Refusals.{refusal_meant}
use Rattle.view_core.specs.declared.refusal.Refusal.{Refusal}
use Rattle.group_member.specs.declared.entry.Entry.{Entry}
use Rattle.group_member.specs.declared.entry.Entry.TheVariants.{Cast, Send, Leave, Tick, Packet}

abbrev pub entry_meant : Here → Entry → Entered
entry_meant here (Cast body) = app_cast body.now
entry_meant here (Send to body) = app_send to body.now
entry_meant here Leave = app_leave
entry_meant here (Tick moment) = clock_tick moment
entry_meant here (Packet scan bytes known) = from_peer (packet_scanned here bytes.now scan.now)

-- The judgement is what enters, or the reason why nothing does.
abbrev pub Judges : Here → Result Entered member.Refusal → Result Entry Refusal → Type 0
Judges here entered (Ok entry) = entered ≡ Ok (entry_meant here entry)
Judges here entered (Err reason) = entered ≡ Err (refusal_meant reason)

-- The body of what entered, and that it lies in the datagram.
abbrev pub body_of : Entry → List ℕ
body_of (Cast body) = body.now
body_of (Send to body) = body.now
body_of Leave = []
body_of (Tick moment) = []
body_of (Packet scan bytes known) = drop scan.now.body bytes.now

abbrev pub LiesWithin : Entry → Type 0
LiesWithin (Packet scan bytes known) = scan.now.body ≤ length bytes.now
LiesWithin _ = Unit {0}

-- What reading told of a packet's plan holds, and these are the fields that the plan leaves variable.
abbrev pub IsKnown : List Plan → (kept : List ℕ) → Entry → Type 0
IsKnown plans kept (Packet scan bytes known) = IsReadAs plans known (kind_of scan.now.dest) scan.now.headers kept
IsKnown plans kept _ = Unit {0}
