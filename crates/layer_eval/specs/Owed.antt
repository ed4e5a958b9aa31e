-- Emissions that are yet to go.
use Rattle.std.specs.Prelude.{◌≡◌, ℕ, ◌+◌, Bool, true, false, List, [], ◌∷◌, ◌++◌, slice_index_or, Option, Some, None}
use Rattle.std.specs.Prelude.{Result, Ok, Err}
use Rattle.std.specs.Option.{option_map_or}
use Rattle.msg_core.specs.Chain.{plain}
use Rattle.layer_words.specs.declared.events.Dir.{Dir}
use Rattle.layer_mean.specs.declared.run.Event.{Event}
use Rattle.layer_mean.specs.Tree.{StatementTree, bind, assign, assign_square, EmissionTree, MessageTree, message}
use Rattle.layer_mean.specs.Effect.{sent_as}
use Rattle.layer_desk.specs.Laid.{Laid, bound, assigned, assigned_square}
use Rattle.layer_mean.specs.Envelope.{event_in}
use Rattle.layer_desk.specs.Need.{Room, Need}
use Rattle.layer_desk.specs.Spent.{SpentAtMost, Lacks}
use Rattle.layer_desk.specs.declared.no_room.NoRoom.{NoRoom}
use Rattle.layer_eval.specs.declared.pending.Pending.{Pending}
use Rattle.layer_eval.specs.Worth.{number_of}

-- A statement that sets a number alone: it sends nothing, and no message of the scope changes.
abbrev pub sets_number : StatementTree → Bool
sets_number (bind k e) = true
sets_number (assign c i e) = true
sets_number (assign_square c row column e) = true
sets_number _ = false

-- What lies at a desk once such a statement has set its number; what any other statement does isn't said here.
abbrev pub number_set : StatementTree → Laid → Laid
number_set (bind k e) p = bound k (number_of e p) p
number_set (assign c i e) p = assigned c (number_of i p) (number_of e p) p
number_set (assign_square c row column e) p =
    assigned_square c (number_of row p) (number_of column p) (number_of e p) p
number_set _ p = p

-- An emission that may wait for the end of the visit: it sends a message of the scope as it lies there.
abbrev pub is_of_scope : MessageTree → Bool
is_of_scope (message k) = true
is_of_scope _ = false

abbrev pub may_wait : EmissionTree → Bool
may_wait e = option_map_or (λ c. is_of_scope c.message) e.content false

-- The event of an emission that is yet to go.
abbrev pub owed_event : Pending → Laid → Dir × Event
owed_event e p = (
  e.sending.direction,
  event_in e.sending.envelope
      (Some (sent_as e.sending.direction e.sending.header (slice_index_or p.scope.messages e.slot (plain [])))),
)

-- What was sent once an emission that is owed has gone, if there is one; and what lies at a desk then.
abbrev pub with_owed : Option Pending → Laid → List (Dir × Event)
with_owed None p = p.sent
with_owed (Some e) p = p.sent ++ owed_event e p ∷ []

abbrev pub with_debt_paid : Option Pending → Laid → Laid
with_debt_paid owed p = record p { sent = with_owed owed p }

-- How many places an emission that is owed takes, and a need with these added.
abbrev pub owed_places : Option Pending → ℕ
owed_places None = 0
owed_places (Some e) = 1

abbrev pub owing : Option Pending → Need → Need
owing owed n = record n { places = owed_places owed + n.places }

-- On success, at most this need and what was owed before was spent; what is owed now isn't spent yet. Otherwise there
-- was less room than this need and what was owed before.
abbrev pub SpentOwing : {A : Type 0} → Option Pending → Option Pending → Room → Room → Need → Result A NoRoom → Type 0
SpentOwing before now old new n (Ok a) = SpentAtMost (record old { places = owed_places now + old.places }) new
    (owing before n)
SpentOwing before now old new n (Err e) = Lacks old (owing before n) e

-- An emission of this event is owed.
pub record PutOff (owed : Option Pending) (event : Dir × Event) (p : Laid) : Type 0 where
  pub sent : with_owed owed p ≡ p.sent ++ event ∷ []
  pub places : owed_places owed ≡ 1

-- Whether an emission was put off; if not, nothing is owed.
abbrev pub IsPutOff : Bool → Option Pending → Dir × Event → Laid → Type 0
IsPutOff true owed event p = PutOff owed event p
IsPutOff false owed event p = owed ≡ None
