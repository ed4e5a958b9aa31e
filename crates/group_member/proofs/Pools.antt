-- Pools of which all references are known, while some are made and others end.
use Rattle.std.proofs.Common.{◌≡◌, ℕ, ◌+◌, ◌≤◌, List, [], ◌++◌, length, Option, Some, None, arith, length-append}
use Rattle.slot_pool.specs.Held.{Held, spare}
use Rattle.slot_pool.specs.References.{Moved, Exact, Covers}
use Rattle.slot_pool.proofs.Times.{times-append}
use Rattle.slot_pool.proofs.References.{slots-shared, count-most}
use Rattle.stack_mean.specs.Acceptance.{joins_limit}
use Rattle.layer_stage.specs.Room.{CountsWithin}
use Rattle.stack_queue.specs.Stages.{most_at_first}
use Rattle.pool_message.specs.Seen.{body_refs, refs_if, event_refs}
use Rattle.pool_message.specs.declared.event.PoolEvent.{PoolEvent}
use Rattle.pool_message.specs.declared.message.PoolMessage.{PoolMessage}
use Rattle.pool_message.specs.declared.part.Part.{Part}
use Rattle.pool_laws.specs.Room.{IsPoolFor}

-- an event has one reference at most
body_few : (body : Option Part) → length (body_refs body) ≤ 1
body_few None = omega arith
body_few (Some part) = omega arith

message_few : (m : Option PoolMessage) → length (refs_if m) ≤ 1
message_few None = omega arith
message_few (Some m) = body_few m.body

pub event_few : (e : PoolEvent) → length (event_refs e) ≤ 1
event_few e = message_few e.message

module _ (p q : List Held) (xs ys : List ℕ) where
  -- some are made
  pub exact_more : Exact p xs → Moved p q [] ys → Exact q (xs ++ ys)
  exact_more e m = record {
    exact = λ i. let was = e.exact i in let counts = m.counts i in
        omega (arith, times-append i xs ys);
  }

  -- some end
  pub exact_less : Exact p (xs ++ ys) → Moved p q ys [] → Exact q xs
  exact_less e m = record {
    exact = λ i. let was = e.exact i in let counts = m.counts i in
        omega (arith, times-append i xs ys);
  }

  -- all become others
  pub exact_run : (news : List ℕ) → Exact p (xs ++ ys) → Moved p q (xs ++ (ys ++ [])) news → Exact q news
  exact_run news e m = record {
    exact = λ i. let was = e.exact i in let counts = m.counts i in
        omega (arith, times-append i xs ys, times-append i xs (ys ++ []), times-append i ys []);
  }

pub covers_all : (p : List Held) (xs : List ℕ) → Exact p xs → Covers p xs
covers_all p xs e = record { covers = λ i. let is = e.exact i in omega arith }

pub covers_back : (p : List Held) (xs ys : List ℕ) → Exact p (xs ++ ys) → Covers p ys
covers_back p xs ys e = record { covers = λ i. let is = e.exact i in omega (arith, times-append i xs ys) }

pub covers_turned : (p : List Held) (xs ys : List ℕ) → Exact p (xs ++ ys) → Covers p (ys ++ xs)
covers_turned p xs ys e =
    record { covers = λ i. let is = e.exact i in omega (arith, times-append i xs ys, times-append i ys xs) }

-- after a first reference of an event there is room for the joins of a run
pub record Room (q : List Held) : Type 0 where
  pub joins : joins_limit ≤ spare q
  pub counts : CountsWithin most_at_first q

pub room_left : (rows : ℕ) (p q : List Held) (xs : List ℕ) (event : PoolEvent) → IsPoolFor rows p xs →
    Exact q (xs ++ event_refs event) →
    spare p ≤ spare q + 1 → Room q
room_left rows p q xs event is e slots =
    let few = is.few in let size = is.slots in let within = is.within in let one = event_few event in
    let shared = slots-shared p xs is.exact in
    let more : length (xs ++ event_refs event) ≡ length xs + length (event_refs event) =
    length-append xs (event_refs event) in record {
      joins = omega arith;
      counts = record { within = λ i. let most = count-most q (xs ++ event_refs event) i e in omega arith };
    }
