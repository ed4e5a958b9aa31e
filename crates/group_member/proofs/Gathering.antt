-- Events leave a stack one by one.
use Rattle.std.proofs.Common.{◌≡◌, ◌∙◌, suc, ◌+◌, ◌≤◌, List, [], ◌∷◌, ◌++◌, map, drop, length, Some, None, slice_get}
use Rattle.std.proofs.Common.{refl, sym, ap, subst, arith, append_assoc, length-append}
use Rattle.std.specs.List.{AllByRecursion}
use Rattle.std.proofs.lemmas.List.{append-nil}
use Rattle.slot_pool.specs.Held.{Held}
use Rattle.slot_pool.specs.References.{Moved, Covers}
use Rattle.slot_pool.proofs.References.{moved-same}
use Rattle.layer_words.specs.declared.events.Dir.{Dir}
use Rattle.layer_mean.specs.declared.run.Event.{Event}
use Rattle.pool_message.specs.Moves.{Returned}
use Rattle.pool_message.specs.Seen.{event_refs, event_seen, EventLies}
use Rattle.pool_message.specs.Sent.{sent_refs, sent_seen, SentLie, first_sent}
use Rattle.pool_message.specs.declared.event.PoolEvent.{PoolEvent}
use Rattle.pool_message.proofs.Lists.{covers_front, covers_rest, moved_rest, each_stays}
use Rattle.pool_message.proofs.Stays.{event_stays}
use Rattle.step_outputs.specs.Gathered.{Gathered, full_output}
use Rattle.group_member.specs.Gathering.{BringsAsKind, IsGathering}
use Rattle.group_member.specs.Working.{outputs_in}

pub gathering_begins : (p : List Held) (all : List (Dir × PoolEvent)) (out : Gathered) → SentLie p all →
    Covers p (sent_refs all) →
    AllByRecursion BringsAsKind all → length out.outputs + length all ≤ out.places → IsGathering p all out p all out
gathering_begins p all out lie covers bring room = record {
  lie = lie;
  covers = covers;
  bring = bring;
  room = room;
  moved = moved-same p (sent_refs all);
  slots = omega arith;
  outputs = refl;
  here = refl;
  places = refl;
}

-- what is asked of the one that leaves
pub record Leaving (p : List Held) (event : PoolEvent) (dir : Dir) (now : Gathered) : Type 0 where
  pub lies : EventLies p event
  pub brings : BringsAsKind (dir, event)
  pub covers : Covers p (event_refs event)
  pub room : suc (length now.outputs) ≤ now.places

after_lies : (p q : List Held) (e : PoolEvent) (rest : List (Dir × PoolEvent)) → Moved p q (event_refs e) [] →
    Covers p (event_refs e ++ sent_refs rest) → SentLie p rest → SentLie q rest × (sent_seen q rest ≡ sent_seen p rest)
after_lies p q e rest moved covers lie =
    each_stays (λ (x : Dir × PoolEvent). event_refs x.1) (λ x. EventLies p x.1) (λ x. EventLies q x.1)
    (λ (x : Dir × PoolEvent). (x.0, event_seen p x.1)) (λ (x : Dir × PoolEvent). (x.0, event_seen q x.1)) p
    (event_refs e)
    (λ x there lies. let stays = event_stays p q (event_refs e) [] moved x.1 there lies in
    (stays.0, ap (λ (s : Event). (x.0, s)) stays.1))
    rest covers lie

module _ (start : List Held) (all : List (Dir × PoolEvent)) (first : Gathered) (p : List Held) where
  pub leaving : (left : List (Dir × PoolEvent)) (now : Gathered) (dir : Dir) (event : PoolEvent) →
      IsGathering start all first p left now →
      slice_get left 0 ≡ Some (dir, event) → Leaving p event dir now
  leaving [] now dir event is at = absurd (cc)
  leaving (x ∷ rest) now dir event is at =
      let same : x ≡ (dir, event) = cc in
      subst (λ (y : Dir × PoolEvent). Leaving p y.1 y.0 now) same record {
        lies = is.lie.0;
        brings = is.bring.0;
        covers = covers_front p (event_refs x.1) (sent_refs rest) is.covers;
        room = let room = is.room in omega arith;
      }

  pub gathered_one : (q : List Held) (left : List (Dir × PoolEvent)) (now : Gathered) (dir : Dir) (event : PoolEvent) →
      IsGathering start all first p left now → slice_get left 0 ≡ Some (dir, event) →
      Returned p q (event_refs (first_sent left).1) →
      IsGathering start all first q (drop 1 left)
      (record now { outputs = now.outputs ++ full_output now.here (dir, event_seen p event) ∷ [] })
  gathered_one q [] now dir event is at returned = absurd (cc)
  gathered_one q (x ∷ rest) now dir event is at returned =
      let same : (dir, event) ≡ x = cc in
      let stays = after_lies p q x.1 rest returned.moved is.covers is.lie.1 in
      subst (λ (y : Dir × PoolEvent). IsGathering start all first q rest (record now {
        outputs = now.outputs ++ full_output now.here (
          y.0,
          event_seen p y.1,
        ) ∷ [];
      }))
      (sym same) record {
        lie = stays.0;
        covers = covers_rest (λ (y : Dir × PoolEvent). event_refs y.1) p q (x ∷ rest) x refl is.covers returned.moved;
        bring = is.bring.1;
        room =
            let room = is.room in
            let more : length (now.outputs ++ full_output now.here (x.0, event_seen p x.1) ∷ []) ≡
            length now.outputs + 1 =
            length-append now.outputs (full_output now.here (x.0, event_seen p x.1) ∷ []) in omega arith;
        moved = moved_rest (λ (y : Dir × PoolEvent). event_refs y.1) start p q (sent_refs all) (x ∷ rest) x refl
            is.moved returned.moved;
        slots = let one = is.slots in let two = returned.slots in omega arith;
        outputs =
            append_assoc now.outputs (full_output now.here (x.0, event_seen p x.1) ∷ []) (outputs_in now.here q rest)
            ∙ ap (λ (seen : List (Dir × Event)). now.outputs ++
            (full_output now.here (x.0, event_seen p x.1) ∷ map (full_output now.here) seen))
            stays.1
            ∙ is.outputs;
        here = is.here;
        places = is.places;
      }

  pub gathered_all : (left : List (Dir × PoolEvent)) (now : Gathered) → IsGathering start all first p left now →
      slice_get left 0 ≡ None →
      (left ≡ []) × Returned start p (sent_refs all) ×
      (now ≡ record first { outputs = first.outputs ++ outputs_in first.here start all })
  gathered_all (x ∷ left) now is at = absurd (cc)
  gathered_all [] now is at = (
    refl,
    record { moved = is.moved; slots = is.slots },
    λ i. record { here = is.here i; outputs = (sym (append-nil now.outputs) ∙ is.outputs) i; places = is.places i },
  )
