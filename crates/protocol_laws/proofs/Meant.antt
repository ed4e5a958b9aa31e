-- A packet that is meant for a member is for it.
use Rattle.std.proofs.Common.{◌≡◌, ◌==◌, ◌&&◌, not, Bool, true, false, refl, Result, Ok}
use Rattle.std.specs.Prelude.{nat_lt}
use Rattle.std.proofs.lemmas.Bool.{and_parts, eqb-true, eqb-false, ltb-true}
use Rattle.msg_core.specs.View.{member_count}
use Rattle.msg_core.specs.declared.packet.Packet.{Packet}
use Rattle.msg_core.specs.declared.packet.Stray.{Stray}
use Rattle.msg_core.specs.declared.packet.Stray.TheVariants as cause
use Rattle.msg_core.specs.declared.packet.View.{View}
use Rattle.packet_mean.specs.Reading.{preamble_of}
use Rattle.packet_mean.specs.Received.{◌>>=◌, unless, same_view, is_for, meant_for, IsFor}
use Rattle.packet_mean.specs.Spelling.{full_form}
use Rattle.packet_mean.specs.declared.here.Here.{Here}

after_test : {B C : Type 0} (f : Unit {0} → Result B Stray) (b : Bool) (e : Stray) (y : B) →
    (unless b e >>= f) ≡ Ok y → (b ≡ true → f tt ≡ Ok y → C) → C
after_test f true e y h k = k refl h
after_test f false e y h k = absurd (cc h)

last_test : (b : Bool) (e : Stray) (x : Unit {0}) → unless b e ≡ Ok x → b ≡ true
last_test true e x h = refl
last_test false e x h = absurd (cc h)

not_true : (b : Bool) → not b ≡ true → b ≡ false
not_true true h = absurd (cc h)
not_true false h = refl

views_same : (v w : View) → same_view v w ≡ true → v ≡ w
views_same v w h =
    let parts = and_parts (v.ltime == w.ltime) (v.mask == w.mask) h in
    let ltime = eqb-true v.ltime w.ltime parts.0 in
    let mask = eqb-true v.mask w.mask parts.1 in
    λ x. record { ltime = ltime x; mask = mask x }

pub meant_is_for : (here : Here) (p : Packet) (x : Unit {0}) → meant_for here (preamble_of full_form p) ≡ Ok x →
    IsFor here p
meant_is_for here p x h =
    after_test _ (p.group == here.group) cause.Group _ h (λ group h1.
    after_test _ (p.stamp == here.stamp) cause.Stamp _ h1 (λ stamp h2.
    after_test _ (same_view p.view here.view) cause.View _ h2 (λ view h3.
    after_test _ (nat_lt p.sender (member_count here.view) && not (p.sender == here.rank)) cause.Sender _ h3
    (λ sender h4.
    let parts = and_parts (nat_lt p.sender (member_count here.view)) (not (p.sender == here.rank)) sender in
    record {
      group = eqb-true p.group here.group group;
      stamp = eqb-true p.stamp here.stamp stamp;
      view = views_same p.view here.view view;
      sender = ltb-true p.sender (member_count here.view) parts.0;
      other = eqb-false p.sender here.rank (not_true (p.sender == here.rank) parts.1);
      addressed = last_test (is_for here.rank p.dest) cause.Dest x h4;
    }))))
