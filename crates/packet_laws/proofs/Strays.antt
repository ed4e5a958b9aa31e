-- A member takes bytes exactly as the packet for it that they spell.
use Rattle.std.proofs.Common.{◌≡◌, ℕ, ◌≢◌, Bool, true, false, List, Option, Some, None, refl, ap, ◌∙◌, subst}
use Rattle.std.specs.Prelude.{Result, Ok, Err, ok_or, length, nat_lt, nat_le, not, ◌==◌, ◌&&◌, ◌||◌}
use Rattle.std.specs.Result.{result_ok, result_err}
use Rattle.std.proofs.lemmas.Bool.{eqb-true, eq-eqb, eqb-false, ltb-true, lt-ltb, leb-true, le-leb}
use Rattle.msg_core.specs.Parts.{longest_body}
use Rattle.msg_core.specs.declared.packet.Packet.{Packet}
use Rattle.msg_core.specs.declared.packet.Stray.{Stray}
use Rattle.msg_core.specs.declared.packet.Stray.TheVariants as cause
use Rattle.msg_core.specs.declared.packet.View.{View}
use Rattle.layer_mean.specs.Tree.{LayerTree}
use Rattle.stack_mean.specs.Plan.{Plan}
use Rattle.packet_mean.specs.Reading.{preamble_of, preamble, named_plan, headers}
use Rattle.msg_core.specs.View.{member_count}
use Rattle.packet_mean.specs.Received.{◌>>=◌, unless, same_view, is_for, meant_for, packet_of, received, IsFor}
use Rattle.packet_mean.specs.Spelling.{full_form, short_form, AreBytes, SpellsPacket}
use Rattle.packet_mean.specs.declared.here.Here.{Here}
use Rattle.packet_laws.specs.Strays.{AreNumbered, ReceivedAsMeant, TakenAsSpelled, StrayOrSpelled}
use Rattle.packet_laws.proofs.Each.{Each, each_of_all, each_so}
use Rattle.packet_laws.proofs.Planned.{both, Constants}
use Rattle.packet_laws.proofs.Whole.{spelled_read, read_spelled}

-- steps that agree, after one step
after_one : {A B : Type 0} (r : Result A Stray) (f g : A → Result B Stray) → ((x : A) → f x ≡ g x) →
    (r >>= f) ≡ (r >>= g)
after_one (Ok x) f g h = h x
after_one (Err e) f g h = refl

pub received_as_meant : ReceivedAsMeant
unfolding received
received_as_meant stack plans here bytes p spells =
    let read = spelled_read stack plans bytes p spells in
    rw (read.front, read.is_form)
    (after_one (meant_for here (preamble_of read.form p)) _ (λ _. Ok p) (λ x. rw (
      read.named,
      read.contents,
      le-leb (length p.message.body) longest_body spells.spellable.chained.body,
    ) refl))

-- a step after one that met no cause, one after a value that is there, and one after a test that passed
after_ok : {A B C : Type 0} (f : A → Result B Stray) (r : Result A Stray) (y : B) → (r >>= f) ≡ Ok y →
    ((x : A) → r ≡ Ok x → f x ≡ Ok y → C) → C
after_ok f (Ok x) y h k = k x refl h
after_ok f (Err e) y h k = absurd (cc h)

after_some : {A B C : Type 0} (f : A → Result B Stray) (o : Option A) (e : Stray) (y : B) → (ok_or o e >>= f) ≡ Ok y →
    ((x : A) → o ≡ Some x → f x ≡ Ok y → C) → C
after_some f (Some x) e y h k = k x refl h
after_some f None e y h k = absurd (cc h)

after_test : {B C : Type 0} (f : Unit {0} → Result B Stray) (b : Bool) (e : Stray) (y : B) →
    (unless b e >>= f) ≡ Ok y →
    (b ≡ true → f tt ≡ Ok y → C) → C
after_test f true e y h k = k refl h
after_test f false e y h k = absurd (cc h)

last_test : (b : Bool) (e : Stray) (x : Unit {0}) → unless b e ≡ Ok x → b ≡ true
last_test true e x h = refl
last_test false e x h = absurd (cc h)

not_true : (b : Bool) → not b ≡ true → b ≡ false
not_true true h = absurd (cc h)
not_true false h = refl

views_same : (v w : View) → same_view v w ≡ true → v ≡ w
views_same v w h =
    let parts = both (v.ltime == w.ltime) (v.mask == w.mask) h in
    let ltime = eqb-true v.ltime w.ltime parts.0 in
    let mask = eqb-true v.mask w.mask parts.1 in
    λ x. record { ltime = ltime x; mask = mask x }

same_ok : (x y : Packet) → ◌≡◌ {A = Result Packet Stray} (Ok x) (Ok y) → x ≡ y
same_ok x y h = cc h

meant_is_for : (here : Here) (form : ℕ) (p : Packet) (x : Unit {0}) → meant_for here (preamble_of form p) ≡ Ok x →
    IsFor here p
meant_is_for here form p x h =
    after_test _ (p.group == here.group) cause.Group _ h (λ group h1.
    after_test _ (p.stamp == here.stamp) cause.Stamp _ h1 (λ stamp h2.
    after_test _ (same_view p.view here.view) cause.View _ h2 (λ view h3.
    after_test _ (nat_lt p.sender (member_count here.view) && not (p.sender == here.rank)) cause.Sender _ h3
    (λ sender h4.
    let parts = both (nat_lt p.sender (member_count here.view)) (not (p.sender == here.rank)) sender in
    record {
      group = eqb-true p.group here.group group;
      stamp = eqb-true p.stamp here.stamp stamp;
      view = views_same p.view here.view view;
      sender = ltb-true p.sender (member_count here.view) parts.0;
      other = eqb-false p.sender here.rank (not_true (p.sender == here.rank) parts.1);
      addressed = last_test (is_for here.rank p.dest) cause.Dest x h4;
    }))))

other_number : (a b : ℕ) (c : Bool) → (a == b) ≡ c → (a ≢ b) → not c ≡ true
other_number a b true is other = absurd (other (eqb-true a b is))
other_number a b false is other = refl

for_is_meant : (here : Here) (form : ℕ) (p : Packet) → IsFor here p → meant_for here (preamble_of form p) ≡ Ok tt
for_is_meant here form p is =
    rw (
      eq-eqb p.group here.group is.group,
      eq-eqb p.stamp here.stamp is.stamp,
      eq-eqb p.view.ltime here.view.ltime (ap (λ v. v.ltime) is.view),
      eq-eqb p.view.mask here.view.mask (ap (λ v. v.mask) is.view),
      lt-ltb p.sender (member_count here.view) is.sender,
      other_number p.sender here.rank (p.sender == here.rank) refl is.other,
      is.addressed,
    ) refl

-- what was taken was spelled, and is for the member
taken_spelled : (stack : List LayerTree) (plans : List Plan) (here : Here) (bytes : List ℕ) (p : Packet) →
    AreNumbered plans →
    AreBytes bytes → received stack plans here bytes ≡ Ok p → SpellsPacket stack plans bytes p × IsFor here p
unfolding received
taken_spelled stack plans here bytes p numbered small is =
    after_some _ (preamble bytes) cause.Short _ is (λ (f, following) front is1.
    after_test _ ((f.form == full_form) || (f.form == short_form)) cause.Form _ is1 (λ form is2.
    after_ok _ (meant_for here f) _ is2 (λ x meant is3.
    after_some _ (named_plan plans f following) cause.Plan _ is3 (λ (plan, rest) named is4.
    after_some _ (headers stack plan rest) cause.Chain _ is4 (λ (hs, body) contents is5.
    after_test _ (nat_le (length body) longest_body) cause.Body _ is5 (λ short is6.
    subst (λ q. SpellsPacket stack plans bytes q × IsFor here q) (same_ok (packet_of f hs body) p is6) (
      read_spelled stack plans bytes f following plan rest hs body constants (each_of_all _ bytes small) front form
          named
          contents (leb-true (length body) longest_body short),
      meant_is_for here f.form (packet_of f hs body) x meant,
    )))))))
  where
    constants : Each (λ plan. Constants plan.fields) plans
    constants = each_so _ _ (λ plan fields. each_of_all _ plan.fields fields) plans (each_of_all _ plans numbered)

spelled_taken : (stack : List LayerTree) (plans : List Plan) (here : Here) (bytes : List ℕ) (p : Packet) →
    SpellsPacket stack plans bytes p → IsFor here p → received stack plans here bytes ≡ Ok p
spelled_taken stack plans here bytes p spells is =
    received_as_meant stack plans here bytes p spells ∙ ap (λ r. r >>= (λ _. Ok p)) (for_is_meant here full_form p is)

pub taken_as_spelled : TakenAsSpelled
taken_as_spelled stack plans here bytes p numbered small =
    (taken_spelled stack plans here bytes p numbered small, λ h. spelled_taken stack plans here bytes p h.0 h.1)

-- a result without a cause has a packet
no_cause : (r : Result Packet Stray) → result_err r ≡ None → (p : Packet) × (r ≡ Ok p)
no_cause (Ok p) h = (p, refl)
no_cause (Err e) h = absurd (cc h)

pub stray_or_spelled : StrayOrSpelled
stray_or_spelled stack plans here bytes numbered small = (
  (
    λ none. let taken = no_cause (received stack plans here bytes) none in
        let spells = taken_spelled stack plans here bytes taken.0 numbered small taken.1 in
        (taken.0, spells.0, spells.1),
    λ (p, spells, is). ap result_err (spelled_taken stack plans here bytes p spells is),
  ),
  λ p spells is. ap result_ok (spelled_taken stack plans here bytes p spells is),
)
