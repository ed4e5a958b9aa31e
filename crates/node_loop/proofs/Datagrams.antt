-- Datagrams of one packet, handed on one after the other.
use Rattle.std.proofs.Common.{◌≡◌, ℕ, ◌+◌, ◌<◌, ◌≤◌, Bool, true, false, List, [], ◌∷◌, ◌++◌, length, map, drop, refl}
use Rattle.std.proofs.Common.{sym, ap, subst, ◌∙◌, append_assoc, append-nil, arith, Option, Some, None}
use Rattle.std.proofs.lemmas.List.{map-append}
use Rattle.std.specs.Prelude.{Result, Err, IfSome, IsSomeAnd, option_to_list, slice_get}
use Rattle.std.specs.List.{AllByRecursion}
use Rattle.std.specs.Option.{option_map}
use Rattle.live_layer.proofs.Lists.{all-following}
use Rattle.outside.specs.Links.{Network, Sends, after_send, faults_after_call, is_failure, next_fate}
use Rattle.outside.specs.declared.links.LinkError.{LinkError}
use Rattle.outside.specs.declared.links.TheConstants.{LONGEST_DATAGRAM}
use Rattle.outside.specs.declared.links.LinkError.TheVariants as link
use Rattle.outside.specs.declared.sink.SinkError.{SinkError}
use Rattle.outside.specs.declared.sink.SinkError.TheVariants as sink
use Rattle.msg_core.specs.declared.packet.View.{View}
use Rattle.msg_core.specs.declared.packet.Dest.{Dest}
use Rattle.msg_core.specs.declared.packet.Dest.TheVariants.{All, Rank}
use Rattle.msg_core.specs.View.{ids}
use Rattle.run_mean.specs.Journal.{Handed, receivers}
use Rattle.outside.specs.Lines.{Gains, Wrote}
use Rattle.outside.proofs.Gaining.{gains_none}
use Rattle.node_laws.specs.Acts.{Act, puts, sends, lost_acts, sending_acts}
use Rattle.node_laws.specs.Losses.{lost_line}
use Rattle.node_laws.specs.Network.{Tells, sent_as}
use Rattle.node_laws.proofs.Acts.{sending_sends}
use Rattle.node_loop.specs.Around.{Around}
use Rattle.node_loop.specs.Passing.{Breaks, Handles, Passes, PassesAll, Stops, Takes}
use Rattle.node_loop.specs.Sending.{MayTake, sent_to}
use Rattle.node_loop.proofs.Ids.{others_from, others_begin, others_end}
use Rattle.node_loop.proofs.Passing.{breaks_first, breaks_then, handles_then, lines_handled, memory_stops, passes_none}
use Rattle.node_loop.proofs.Passing.{passes_then}

-- One datagram.

told_one : (h : Handed) (fails : Bool) (a b : Option Network) → IfSome a (λ n. is_failure (next_fate n.fates) ≡ fails) →
    b ≡ option_map (after_send (sent_as h)) a → Tells (Takes (h ∷ []) (fails ∷ [])) a b
told_one h fails None b met is = subst (Tells (Takes (h ∷ []) (fails ∷ [])) None) (sym is) tt
told_one h fails (Some n) b met is = subst (Tells (Takes (h ∷ []) (fails ∷ [])) (Some n)) (sym is) record {
  failed_are = ap (λ x. x ∷ []) (sym met);
  is = refl;
}

pub one_sent : (h : Handed) (a b : Around) → b.output ≡ a.output → b.faults ≡ a.faults → b.sends ≡ a.sends →
    IfSome a.told (λ n. is_failure (next_fate n.fates) ≡ false) → b.told ≡ option_map (after_send (sent_as h)) a.told →
    Passes (sends h ∷ []) (false ∷ []) a b
one_sent h a b output faults sendings met told = record {
  gained = subst (λ o. Gains a.output o []) (sym output) (gains_none a.output);
  each = refl;
  faults = faults;
  sendings = sendings;
  told = told_one h false a.told b.told met told;
}

pub one_lost : (h : Handed) (a b : Around) (r : LinkError) → r ≡ link.Failed → b.output ≡ a.output →
    b.faults ≡ a.faults →
    b.sends ≡ faults_after_call {T = Unit {0}} a.sends (Err r) →
    Sends {T = Unit {0}} (sent_as h) a.told b.told (Err r) →
    Passes (sends h ∷ []) (true ∷ []) a b
one_lost h a b link.Failed is output faults sendings told = record {
  gained = subst (λ o. Gains a.output o []) (sym output) (gains_none a.output);
  each = refl;
  faults = faults;
  sendings = sendings;
  told = told_one h true a.told b.told told.0 told.1;
}
one_lost h a b link.Memory is output faults sendings told = absurd (cc is)

-- Memory ran out in a send.
pub none_sent : (acts : List Bool → List Act) (h : Handed) (a b : Around) (r : LinkError) → r ≡ link.Memory →
    b.output ≡ a.output →
    b.faults ≡ a.faults → b.sends ≡ faults_after_call {T = Unit {0}} a.sends (Err r) →
    Sends {T = Unit {0}} (sent_as h) a.told b.told (Err r) →
    Breaks acts sink.Memory a b
none_sent acts h a b link.Memory is output faults sendings told =
    breaks_first a b acts sink.Memory
    (subst (Stops sink.Memory [] (acts []) a.output) (sym output) (memory_stops a.output (acts [])))
    faults sendings told
none_sent acts h a b link.Failed is output faults sendings told = absurd (cc is)

pub sent_handled : (k : ℕ) (h : Handed) (a b : Around) → Passes (sends h ∷ []) (false ∷ []) a b →
    PassesAll (sending_acts k (h ∷ [])) a b
sent_handled k h a b p = record { failed = false ∷ []; passed = p }

-- One that failed, and then its line.
pub lost_handled : (k : ℕ) (h : Handed) (a b c : Around) (r : Result (Unit {0}) SinkError) →
    Passes (sends h ∷ []) (true ∷ []) a b →
    Wrote (lost_line k ∷ []) b.output c.output r → c.faults ≡ b.faults → c.sends ≡ b.sends → c.told ≡ b.told →
    Handles (sending_acts k (h ∷ [])) a c r
lost_handled k h a b c r p wrote faults sendings told =
    handles_then a b c (sends h ∷ []) (λ g. puts (lost_line k) ∷ []) (sending_acts k (h ∷ [])) (true ∷ []) r p
    (lines_handled b c (lost_line k ∷ []) r (omega arith) wrote faults sendings told) (λ g few. refl)

-- Datagrams in two parts: which sendings failed is told for each of the first part.

lost_same : (k : ℕ) (x : Bool) (f g : List Bool) → lost_acts k (x ∷ f) ≡ lost_acts k (x ∷ g)
lost_same k true f g = refl
lost_same k false f g = refl

pub sending_append : (k : ℕ) (xs ys : List Handed) (f g : List Bool) → length f ≡ length xs →
    sending_acts k (xs ++ ys) (f ++ g) ≡ sending_acts k xs f ++ sending_acts k ys g
sending_append k [] ys [] g is = refl
sending_append k [] ys (x ∷ f) g is = absurd (cc is)
sending_append k (h ∷ xs) ys [] g is = absurd (cc is)
sending_append k (h ∷ xs) ys (x ∷ f) g is =
    ap (λ acts. sends h ∷ (acts ++ sending_acts k (xs ++ ys) (f ++ g))) (lost_same k x (f ++ g) f)
    ∙ ap (λ acts. sends h ∷ (lost_acts k (x ∷ f) ++ acts)) (sending_append k xs ys f g (omega (arith, is)))
    ∙ ap (λ acts. sends h ∷ acts) (sym (append_assoc (lost_acts k (x ∷ f)) (sending_acts k xs f) (sending_acts k ys g)))

-- Whom a packet may go to.

pub may_take : (bytes : List ℕ) (to : ℕ) (front rest whole : List ℕ) (first now : Option ℕ) →
    IsSomeAnd first (λ peers. AllByRecursion (MayTake bytes peers) whole) → whole ≡ front ++ to ∷ rest → now ≡ first →
    IsSomeAnd now (λ peers. to < peers) × (length bytes ≤ LONGEST_DATAGRAM)
may_take bytes to front rest whole first now may are same =
    subst (λ o. IsSomeAnd o (λ peers. to < peers) × (length bytes ≤ LONGEST_DATAGRAM)) (sym same) (go first may) where
      go : (o : Option ℕ) → IsSomeAnd o (λ peers. AllByRecursion (MayTake bytes peers) whole) →
          IsSomeAnd o (λ peers. to < peers) × (length bytes ≤ LONGEST_DATAGRAM)
      go None h = absurd h
      go (Some peers) h = (all-following (MayTake bytes peers) front (to ∷ rest)
          (subst (AllByRecursion (MayTake bytes peers)) are h)).0

-- The datagrams of a cast, up to an id.
pub record PassesFront (k from : ℕ) (bytes : List ℕ) (view : View) (at : ℕ) (a b : Around) : Type 0 where
  pub front : List ℕ
  pub failed : List Bool
  pub whole : others_from view from 0 ≡ front ++ others_from view from at
  pub passed : Passes (sending_acts k (map (sent_to from bytes) front) failed) failed a b

module _ (k from : ℕ) (bytes : List ℕ) (view : View) where
  abbrev sent : ℕ → Handed
  sent = sent_to from bytes

  abbrev all : List Bool → List Act
  all = sending_acts k (map sent (receivers from view All))

  failed_each : (front : List ℕ) (failed : List Bool) (a b : Around) →
      Passes (sending_acts k (map sent front) failed) failed a b →
      length failed ≡ length (map sent front)
  failed_each front failed a b p = p.each ∙ ap length (sending_sends k (map sent front) failed)

  pub front_takes : (at : ℕ) (a b : Around) (first now : Option ℕ) →
      IsSomeAnd first (λ peers. AllByRecursion (MayTake bytes peers) (receivers from view All)) →
      now ≡ first → others_from view from at ≡ at ∷ others_from view from (at + 1) →
      PassesFront k from bytes view at a b →
      IsSomeAnd now (λ peers. at < peers) × (length bytes ≤ LONGEST_DATAGRAM)
  front_takes at a b first now may same next p = may_take bytes at p.front (others_from view from (at + 1))
      (receivers from view All) first now may
      (others_begin view from ∙ p.whole ∙ ap (λ o. p.front ++ o) next) same

  pub front_begins : (a : Around) → PassesFront k from bytes view 0 a a
  front_begins a = record { front = []; failed = []; whole = refl; passed = passes_none a }

  pub front_same : (at : ℕ) (a b : Around) → others_from view from at ≡ others_from view from (at + 1) →
      PassesFront k from bytes view at a b →
      PassesFront k from bytes view (at + 1) a b
  front_same at a b same p =
      record { front = p.front; failed = p.failed; whole = p.whole ∙ ap (λ o. p.front ++ o) same; passed = p.passed }

  pub front_more : (at : ℕ) (a b c : Around) → others_from view from at ≡ at ∷ others_from view from (at + 1) →
      PassesFront k from bytes view at a b →
      PassesAll (sending_acts k (sent at ∷ [])) b c → PassesFront k from bytes view (at + 1) a c
  front_more at a b c next p q = record {
    front = p.front ++ at ∷ [];
    failed = p.failed ++ q.failed;
    whole = p.whole ∙ ap (λ o. p.front ++ o) next ∙
        sym (append_assoc p.front (at ∷ []) (others_from view from (at + 1)));
    passed = passes_then a b c _ _ _ p.failed q.failed p.passed q.passed
        (ap (λ hs. sending_acts k hs (p.failed ++ q.failed)) (map-append sent p.front (at ∷ []))
        ∙ sending_append k (map sent p.front) (sent at ∷ []) p.failed q.failed
        (failed_each p.front p.failed a b p.passed));
  }

  pub front_cut : (at : ℕ) (a b c : Around) (e : SinkError) → others_from view from at ≡ at ∷
      others_from view from (at + 1) →
      PassesFront k from bytes view at a b → Breaks (sending_acts k (sent at ∷ [])) e b c → Breaks all e a c
  front_cut at a b c e next p q =
      let rest = map sent (others_from view from (at + 1)) in
      let are : map sent (receivers from view All) ≡ map sent p.front ++ sent at ∷ rest =
      ap (map sent) (others_begin view from ∙ p.whole ∙ ap (λ o. p.front ++ o) next) ∙
      map-append sent p.front (at ∷ others_from view from (at + 1)) in
      breaks_then a b c (sending_acts k (map sent p.front) p.failed) (sending_acts k (sent at ∷ [])) all p.failed e
      p.passed q record {
        more = λ g. sending_acts k rest (drop 1 g);
        are = λ g few. ap (λ hs. sending_acts k hs (p.failed ++ g)) are
            ∙ sending_append k (map sent p.front) (sent at ∷ rest) p.failed g
            (failed_each p.front p.failed a b p.passed)
            ∙ ap (λ acts. sending_acts k (map sent p.front) p.failed ++
            (sends (sent at) ∷ (acts ++ sending_acts k rest (drop 1 g))))
            (sym (append-nil (lost_acts k g)));
      }

  pub front_ends : (at : ℕ) (a b : Around) → 32 ≤ at → PassesFront k from bytes view at a b → PassesAll all a b
  front_ends at a b past p = record {
    failed = p.failed;
    passed = subst (λ o. Passes (sending_acts k (map sent o) p.failed) p.failed a b)
        (sym (others_begin view from ∙ p.whole ∙ ap (λ o. p.front ++ o) (others_end view from at past) ∙
        append-nil p.front)) p.passed;
  }

-- Datagrams by what is known of whom they go to, and of their bytes.

pub ranked_receivers : (from : ℕ) (view : View) (dest : Dest) (rank : ℕ) (found : Option ℕ) → dest ≡ Rank rank →
    found ≡ slice_get (ids view) rank →
    receivers from view dest ≡ option_to_list found
ranked_receivers from view dest rank found is found_is = ap (receivers from view) is ∙ ap option_to_list (sym found_is)

pub handles_to : (k from : ℕ) (bytes : List ℕ) (xs ys : List ℕ) (a b : Around) (r : Result (Unit {0}) SinkError) →
    xs ≡ ys →
    Handles (sending_acts k (map (sent_to from bytes) ys)) a b r →
    Handles (sending_acts k (map (sent_to from bytes) xs)) a b r
handles_to k from bytes xs ys a b r is h = subst (λ tos. Handles (sending_acts k (map (sent_to from bytes) tos)) a b r)
    (sym is) h

pub handles_bytes : (k from : ℕ) (x y : List ℕ) (tos : List ℕ) (a b : Around) (r : Result (Unit {0}) SinkError) →
    x ≡ y →
    Handles (sending_acts k (map (sent_to from x) tos)) a b r →
    Handles (sending_acts k (map (sent_to from y) tos)) a b r
handles_bytes k from x y tos a b r is h = subst (λ bytes. Handles (sending_acts k (map (sent_to from bytes) tos)) a b r)
    is h

pub may_take_bytes : (x y tos : List ℕ) (o : Option ℕ) → x ≡ y →
    IsSomeAnd o (λ peers. AllByRecursion (MayTake y peers) tos) →
    IsSomeAnd o (λ peers. AllByRecursion (MayTake x peers) tos)
may_take_bytes x y tos o is h = subst (λ bytes. IsSomeAnd o (λ peers. AllByRecursion (MayTake bytes peers) tos))
    (sym is) h
