-- A script, event by event.
use Rattle.std.proofs.Common.{◌≡◌, ℕ, zero, suc, ◌+◌, ◌<◌, ◌≤◌, Bool, true, false, [], ◌∷◌, ◌++◌, length, length-append}
use Rattle.std.proofs.Common.{get_or, refl, sym, ap, subst, ◌∙◌, arith}
use Rattle.std.proofs.Math.Seq.{get_or-append_seam}
use Rattle.std.proofs.lemmas.Bool.{ltb-true, ltb-false}
use Rattle.std.proofs.lemmas.List.{get_or_append_left}
use Rattle.std.proofs.lemmas.Option.{slice_get_read}
use Rattle.std.specs.Prelude.{Some, nat_lt, slice_get}
use Rattle.msg_core.specs.View.{most_members}
use Rattle.script_mean.specs.Event.{member_of}
use Rattle.script_mean.specs.Generate.{an_event, generate, generator_after}
use Rattle.script_mean.specs.declared.event.ScriptEvent.{ScriptEvent}
use Rattle.script_text.specs.Course.{Course, IsAt, IsNext}
use Rattle.script_text.specs.Making.{IsWithin}
use Rattle.script_text.specs.declared.maker.Maker.{Maker}

module _ (seed members : ℕ) (raw : Bool) where
  -- the event of a number, after those that are made
  abbrev drawn : ℕ → ScriptEvent
  drawn k = (an_event raw members k (generator_after seed members raw k).cursors
      (generator_after seed members raw k).seed).0.0

  -- as many events are made as were asked for
  pub made_length : (k : ℕ) → length (generator_after seed members raw k).events ≡ k
  made_length zero = refl
  made_length (suc k) =
      let before = made_length k in
      let both = length-append (generator_after seed members raw k).events (drawn k ∷ []) in
      omega (arith, before, both)

  last_made : (d : ScriptEvent) (k : ℕ) → get_or (generator_after seed members raw (suc k)).events k d ≡ drawn k
  last_made d k = subst (λ i. get_or ((generator_after seed members raw k).events ++ drawn k ∷ []) i d ≡ drawn k)
      (made_length k)
      (get_or-append_seam (generator_after seed members raw k).events (drawn k) [] d)

  -- an event stays the one of its number while others are made
  each_made : (d : ScriptEvent) (k n : ℕ) → k < n → get_or (generator_after seed members raw n).events k d ≡ drawn k
  each_made d k zero lt = absurd (omega (arith, lt))
  each_made d k (suc n) lt = go (nat_lt k n) refl (each_made d k n) where
    go : (b : Bool) → nat_lt k n ≡ b → (k < n → get_or (generator_after seed members raw n).events k d ≡ drawn k) →
        get_or (generator_after seed members raw (suc n)).events k d ≡ drawn k
    go true is before =
        let less = ltb-true k n is in
        let within : k < length (generator_after seed members raw n).events = omega (arith, less, made_length n) in
        get_or_append_left (generator_after seed members raw n).events (drawn n ∷ []) d k within ∙ before less
    go false is before =
        let past = ltb-false k n is in
        let same : n ≡ k = omega (arith, past, lt) in
        subst (λ i. get_or (generator_after seed members raw (suc i)).events k d ≡ drawn k) (sym same) (last_made d k)

-- the event that a maker makes is the script's of its number
pub is_made : (seed events k : ℕ) (old new : Maker) (event : ScriptEvent) → IsAt seed k old → k < events →
    an_event old.raw old.members k old.cursors.items old.seed.value ≡ ((event, new.cursors.items), new.seed.value) →
    slice_get (generate seed events old.members old.raw).events k ≡ Some event
is_made seed events k old new event at lt makes =
    let drawn_is : drawn seed old.members old.raw k ≡ event =
    (λ i. (an_event old.raw old.members k (at.cursors_are i) (at.seed_is i)).0.0) ∙ ap (λ x. x.0.0) makes in
    slice_get_read (generate seed events old.members old.raw).events events k event
    (sym (made_length seed old.members old.raw events)) lt
    (sym (each_made seed old.members old.raw event k events lt ∙ drawn_is))

-- how far the script is made by a maker
abbrev pub course_of : (seed events k : ℕ) → Maker → Course
course_of seed events k m =
    record { workload = record { seed = seed; events = events; members = m.members; raw = m.raw }; made = k }

pub is_next : (seed events k : ℕ) (old new : Maker) (event : ScriptEvent) → IsAt seed k old → k < events →
    an_event old.raw old.members k old.cursors.items old.seed.value ≡ ((event, new.cursors.items), new.seed.value) →
    member_of event < old.members →
    new.raw ≡ old.raw → new.members ≡ old.members →
    IsNext (course_of seed events k old) (course_of seed events (k + 1) new) event
is_next seed events k old new event at lt makes of_member raw_is members_is = record {
  event_is = is_made seed events k old new event at lt makes;
  of_member = of_member;
  course = λ i. record {
    workload = record { seed = seed; events = events; members = members_is i; raw = raw_is i };
    made = k + 1;
  };
}

-- and it stands one further after it
pub one_further : (seed k : ℕ) (old new : Maker) (event : ScriptEvent) → IsAt seed k old →
    an_event old.raw old.members k old.cursors.items old.seed.value ≡ ((event, new.cursors.items), new.seed.value) →
    new.raw ≡ old.raw → new.members ≡ old.members → length new.cursors.items ≡ length old.cursors.items →
    IsWithin (k + 1) new.cursors.items →
    IsAt seed (k + 1) new
one_further seed k old new event at makes raw_is members_is count within =
    let next : k + 1 ≡ suc k = omega arith in
    record {
      seed_is = (λ i. (generator_after seed (members_is i) (raw_is i) (next i)).seed)
          ∙ (λ i. (an_event old.raw old.members k (at.cursors_are i) (at.seed_is i)).1) ∙ ap (λ x. x.1) makes;
      cursors_are = (λ i. (generator_after seed (members_is i) (raw_is i) (next i)).cursors)
          ∙ (λ i. (an_event old.raw old.members k (at.cursors_are i) (at.seed_is i)).0.1) ∙ ap (λ x. x.0.1) makes;
      count = count ∙ at.count ∙ sym members_is;
      within = within;
      some_member = subst (λ n. 1 ≤ n) (sym members_is) at.some_member;
      most = subst (λ n. n ≤ most_members) (sym members_is) at.most;
    }
