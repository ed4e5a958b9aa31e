-- The acts of outputs, one after the other.
use Rattle.std.proofs.Common.{◌≡◌, ◌≢◌, ℕ, zero, suc, ◌+◌, ◌<◌, ◌≤◌, Bool, List, [], ◌∷◌, ◌++◌, length, map, take, drop}
use Rattle.std.proofs.Common.{refl, sym, ap, subst, ◌∙◌, append_assoc, append-nil, arith, Option, Some, None}
use Rattle.std.proofs.lemmas.List.{drop-append-le, length-drop, take-append-drop, take-append-le, take_all, take_more}
use Rattle.std.proofs.lemmas.Option.{get_or_from_slice_get}
use Rattle.std.specs.Prelude.{Result, Ok, Err, IsSomeAnd, slice_get}
use Rattle.std.specs.List.{AllByRecursion, flat_map}
use Rattle.outside.specs.declared.sink.SinkError.{SinkError}
use Rattle.live_layer.proofs.Lists.{all-following, all-front}
use Rattle.layer_mean.specs.Tree.{LayerTree}
use Rattle.packet_mean.specs.declared.here.Here.{Here}
use Rattle.stack_mean.specs.Plan.{Plan}
use Rattle.run_mean.specs.Journal.{Handed, handed_output, receivers}
use Rattle.run_mean.specs.Member.{Output, deliver_cast, deliver_send, block, announce, packet, nowhere, timer, quiet}
use Rattle.run_mean.specs.Report.{number_following, output_lines}
use Rattle.outside.specs.Lines.{Wrote}
use Rattle.step_outputs.specs.Views.{output_meant}
use Rattle.step_outputs.specs.declared.view.OutputView.{OutputView}
use Rattle.step_outputs.specs.declared.view.OutputView.TheVariants.{Cast, Send, Block, Announce, Timer, Packet, Nowhere}
use Rattle.step_outputs.specs.declared.view.OutputView.TheVariants.{Quiet}
use Rattle.packet_full.specs.declared.view.PacketView.{PacketView}
use Rattle.view_core.specs.declared.step.Change.{Change}
use Rattle.report_text.specs.Numbered.{number_after}
use Rattle.report_text.specs.Told.{change_lines}
use Rattle.node_laws.specs.Acts.{Act, puts, output_acts, outputs_acts, sending_acts, sends_in}
use Rattle.node_laws.specs.Groups.{IsSendable}
use Rattle.node_laws.specs.Losses.{fan}
use Rattle.node_laws.proofs.Acts.{output_sends_are, outputs_sends_are, puts_none}
use Rattle.node_laws.proofs.Fans.{fans, output_fan, outputs_fan}
use Rattle.node_loop.specs.Around.{Around}
use Rattle.node_loop.specs.Passing.{Breaks, Handles, Passes, PassesAll}
use Rattle.node_loop.specs.Sending.{MayTake, datagram_of, sends_of_outputs, sent_to}
use Rattle.node_loop.proofs.Passing.{breaks_longer, breaks_then, handles_then, lines_break, lines_handled, passes_lines}
use Rattle.node_loop.proofs.Passing.{passes_none, passes_then}

-- One output.

one_line : (stack : List LayerTree) (id k : ℕ) (o : Output) → length (output_lines stack id k o) ≤ 1
one_line stack id k (deliver_cast peer body) = omega arith
one_line stack id k (deliver_send peer body) = omega arith
one_line stack id k (block a) = omega arith
one_line stack id k (announce a) = omega arith
one_line stack id k (packet p) = omega arith
one_line stack id k nowhere = omega arith
one_line stack id k (timer a) = omega arith
one_line stack id k (quiet dir event) = omega arith

-- A packet.
pub packet_handed : (plans : List Plan) (id : ℕ) (here : Here) (o : OutputView) (v : PacketView) → o ≡ Packet v →
    handed_output plans id (output_meant here o) ≡
    map (sent_to id (datagram_of plans here v)) (receivers id here.view v.dest)
packet_handed plans id here o v is = ap (λ x. handed_output plans id (output_meant here x)) is

-- Any other output.
pub none_handed : (plans : List Plan) (id : ℕ) (here : Here) (o : OutputView) → ((v : PacketView) → o ≢ Packet v) →
    handed_output plans id (output_meant here o) ≡ []
none_handed plans id here (Cast peer body) other = refl
none_handed plans id here (Send peer body) other = refl
none_handed plans id here (Block a) other = refl
none_handed plans id here (Announce ranks) other = refl
none_handed plans id here (Timer moment) other = refl
none_handed plans id here (Packet v) other = absurd (other v refl)
none_handed plans id here (Nowhere plan) other = refl
none_handed plans id here (Quiet dir signal) other = refl

takes_each : (peers id : ℕ) (bytes tos : List ℕ) → AllByRecursion (IsSendable peers id) (map (sent_to id bytes) tos) →
    AllByRecursion (MayTake bytes peers) tos
takes_each peers id bytes [] h = tt
takes_each peers id bytes (to ∷ tos) h =
    ((h.0.peer, let short = h.0.short in omega (arith, short)), takes_each peers id bytes tos h.1)

pub sendable_takes : (id : ℕ) (bytes tos : List ℕ) (hs : List Handed) (first now : Option ℕ) →
    hs ≡ map (sent_to id bytes) tos → now ≡ first →
    IsSomeAnd first (λ peers. AllByRecursion (IsSendable peers id) hs) →
    IsSomeAnd now (λ peers. AllByRecursion (MayTake bytes peers) tos)
sendable_takes id bytes tos hs first now are same h =
    subst (λ o. IsSomeAnd o (λ peers. AllByRecursion (MayTake bytes peers) tos)) (sym same) (go first h) where
      go : (o : Option ℕ) → IsSomeAnd o (λ peers. AllByRecursion (IsSendable peers id) hs) →
          IsSomeAnd o (λ peers. AllByRecursion (MayTake bytes peers) tos)
      go None h = absurd h
      go (Some peers) h = takes_each peers id bytes tos (subst (AllByRecursion (IsSendable peers id)) are h)

module _ (stack : List LayerTree) (plans : List Plan) (id : ℕ) where
  abbrev of_output : ℕ → Output × Option ℕ → List Bool → List Act
  of_output k o = output_acts stack plans id k o

  abbrev of_outputs : ℕ → List (Output × Option ℕ) → List Bool → List Act
  of_outputs k outs = outputs_acts stack plans id k outs

  -- Its line was cut short, or was put and then its datagrams were handed on.
  pub output_cut : (k : ℕ) (o : Output × Option ℕ) (a b : Around) (e : SinkError) →
      Wrote (output_lines stack id k o.0) a.output b.output (Err e) →
      b.faults ≡ a.faults → b.sends ≡ a.sends → b.told ≡ a.told → Breaks (of_output k o) e a b
  output_cut k o a b e wrote faults sendings told =
      lines_break a b (output_lines stack id k o.0) (sending_acts k (handed_output plans id o) []) (of_output k o) e
      (one_line stack id k o.0) refl wrote
      faults sendings told

  pub output_handled : (k : ℕ) (o : Output × Option ℕ) (a b c : Around) (r : Result (Unit {0}) SinkError)
      (hs : List Handed) →
      Wrote (output_lines stack id k o.0) a.output b.output (Ok tt) → b.faults ≡ a.faults → b.sends ≡ a.sends →
      b.told ≡ a.told →
      handed_output plans id o ≡ hs → Handles (sending_acts k hs) b c r → Handles (of_output k o) a c r
  output_handled k o a b c r hs wrote faults sendings told are h =
      handles_then a b c (map puts (output_lines stack id k o.0)) (sending_acts k hs) (of_output k o) [] r
      (passes_lines a b (output_lines stack id k o.0) wrote faults sendings told) h
      (λ g few. ap (λ hs. map puts (output_lines stack id k o.0) ++ sending_acts k hs g) are)

  -- Outputs in two parts: which sendings failed is told for each of the first part.
  no_more : {A : Type 0} (xs : List A) → length xs ≤ 0 → xs ≡ []
  no_more [] few = refl
  no_more (x ∷ xs) few = absurd (omega (arith, few))

  outputs_append : (k : ℕ) (xs ys : List (Output × Option ℕ)) (f g : List Bool) → length f ≡ fans id xs →
      of_outputs k (xs ++ ys) (f ++ g) ≡ of_outputs k xs f ++ of_outputs (number_after k xs) ys g
  outputs_append k [] ys f g is = ap (λ f. of_outputs k ys (f ++ g)) (no_more f (omega (arith, is)))
  outputs_append k (o ∷ xs) ys f g is =
      let n = fan id o.0 in
      let within : n ≤ length f = omega (arith, is) in
      let left : length (drop n f) ≡ fans id xs = (let d = length-drop n f in omega (arith, is, d)) in
      ap (λ flags. of_output k o flags ++ of_outputs (number_following k o.0) (xs ++ ys) (drop n (f ++ g)))
      (take-append-le n f g within)
      ∙ ap (λ flags. of_output k o (take n f) ++ of_outputs (number_following k o.0) (xs ++ ys) flags)
      (drop-append-le n f g within)
      ∙ ap (λ acts. of_output k o (take n f) ++ acts) (outputs_append (number_following k o.0) xs ys (drop n f) g left)
      ∙ sym (append_assoc (of_output k o (take n f)) (of_outputs (number_following k o.0) xs (drop n f))
      (of_outputs (number_after (number_following k o.0) xs) ys g))

  -- an output with as many flags as it has sendings
  one_output : (k : ℕ) (o : Output × Option ℕ) (rest : List (Output × Option ℕ)) (g : List Bool) →
      length g ≤ fan id o.0 →
      of_outputs k (o ∷ rest) g ≡ of_output k o g ++ of_outputs (number_following k o.0) rest (drop (fan id o.0) g)
  one_output k o rest g few =
      ap (λ flags. of_output k o flags ++ of_outputs (number_following k o.0) rest (drop (fan id o.0) g))
      (take_all (fan id o.0) g few)

  few_flags : (k : ℕ) (o : Output × Option ℕ) (f g : List Bool) → length g ≤ length (sends_in (of_output k o f)) →
      length g ≤ fan id o.0
  few_flags k o f g few =
      let n = ap length (output_sends_are stack plans id k o f) in let m = output_fan plans id o.0 o.1 in
      omega (arith, few, n, m)

  outputs_more : (outs : List (Output × Option ℕ)) (i : ℕ) (o : Output × Option ℕ) → i < length outs →
      slice_get outs i ≡ Some o →
      take (i + 1) outs ≡ take i outs ++ o ∷ []
  outputs_more outs i o small is = take_more outs i o small ∙
      ap (λ x. take i outs ++ x ∷ []) (get_or_from_slice_get outs i o o is)

  outputs_whole : (outs : List (Output × Option ℕ)) (i : ℕ) (o : Output × Option ℕ) → i < length outs →
      slice_get outs i ≡ Some o →
      outs ≡ take i outs ++ o ∷ drop (i + 1) outs
  outputs_whole outs i o small is =
      sym (take-append-drop (i + 1) outs) ∙ ap (λ front. front ++ drop (i + 1) outs) (outputs_more outs i o small is)
      ∙ append_assoc (take i outs) (o ∷ []) (drop (i + 1) outs)

  each_flag : (k : ℕ) (outs : List (Output × Option ℕ)) (f : List Bool) (a b : Around) →
      Passes (of_outputs k outs f) f a b → length f ≡ fans id outs
  each_flag k outs f a b p = p.each ∙ ap length (outputs_sends_are stack plans id k outs f) ∙ outputs_fan plans id outs

  module _ (first : ℕ) (outs : List (Output × Option ℕ)) where
    pub outputs_pass : (i k : ℕ) (o : Output × Option ℕ) (a b c : Around) →
        PassesAll (of_outputs first (take i outs)) a b →
        PassesAll (of_output k o) b c → k ≡ number_after first (take i outs) → i < length outs →
        slice_get outs i ≡ Some o →
        PassesAll (of_outputs first (take (i + 1) outs)) a c
    outputs_pass i k o a b c p q number small is =
        let front = take i outs in
        let f = p.failed in
        let g = q.failed in
        let few = few_flags k o g g (let each = q.passed.each in omega (arith, each)) in record {
          failed = f ++ g;
          passed = passes_then a b c (of_outputs first front f) (of_output k o g) _ f g p.passed q.passed
              (ap (λ outs. of_outputs first outs (f ++ g)) (outputs_more outs i o small is)
              ∙ outputs_append first front (o ∷ []) f g (each_flag first front f a b p.passed)
              ∙ ap (λ n. of_outputs first front f ++ of_outputs n (o ∷ []) g) (sym number)
              ∙ ap (λ acts. of_outputs first front f ++ acts) (one_output k o [] g few ∙ append-nil (of_output k o g)));
        }

    pub outputs_cut : (i k : ℕ) (o : Output × Option ℕ) (a b c : Around) (e : SinkError) →
        PassesAll (of_outputs first (take i outs)) a b →
        Breaks (of_output k o) e b c → k ≡ number_after first (take i outs) → i < length outs →
        slice_get outs i ≡ Some o →
        Breaks (of_outputs first outs) e a c
    outputs_cut i k o a b c e p q number small is =
        let front = take i outs in
        let rest = drop (i + 1) outs in
        let f = p.failed in
        breaks_then a b c (of_outputs first front f) (of_output k o) (of_outputs first outs) f e p.passed q record {
          more = λ g. of_outputs (number_following k o.0) rest (drop (fan id o.0) g);
          are = λ g few. ap (λ outs. of_outputs first outs (f ++ g)) (outputs_whole outs i o small is)
              ∙ outputs_append first front (o ∷ rest) f g (each_flag first front f a b p.passed)
              ∙ ap (λ n. of_outputs first front f ++ of_outputs n (o ∷ rest) g) (sym number)
              ∙ ap (λ acts. of_outputs first front f ++ acts) (one_output k o rest g (few_flags k o g g few));
        }

    pub outputs_begin : (a : Around) → PassesAll (of_outputs first (take 0 outs)) a a
    outputs_begin a = record { failed = []; passed = passes_none a }

    pub outputs_end : (i : ℕ) (a b : Around) → length outs ≤ i → PassesAll (of_outputs first (take i outs)) a b →
        PassesAll (of_outputs first outs) a b
    outputs_end i a b past p = subst (λ outs. PassesAll (of_outputs first outs) a b) (take_all i outs past) p

    -- After outputs comes the line of where the member is then.
    few_changes : (change : Option Change) → length (change_lines id change) ≤ 1
    few_changes None = omega arith
    few_changes (Some change) = omega arith

    pub taken_cut : (change : Option Change) (a b : Around) (e : SinkError) → Breaks (of_outputs first outs) e a b →
        Breaks (λ g. of_outputs first outs g ++ map puts (change_lines id change)) e a b
    taken_cut change a b e q = breaks_longer a b (of_outputs first outs) (λ g. map puts (change_lines id change)) _ e
        (λ g. refl) q

    pub taken_handled : (change : Option Change) (a b c : Around) (r : Result (Unit {0}) SinkError) →
        PassesAll (of_outputs first outs) a b →
        Wrote (change_lines id change) b.output c.output r → c.faults ≡ b.faults → c.sends ≡ b.sends → c.told ≡ b.told →
        Handles (λ g. of_outputs first outs g ++ map puts (change_lines id change)) a c r
    taken_handled change a b c r p wrote faults sendings told =
        let lines = change_lines id change in
        handles_then a b c (of_outputs first outs p.failed) (λ g. map puts lines)
        (λ g. of_outputs first outs g ++ map puts lines) p.failed r p.passed
        (lines_handled b c lines r (few_changes change) wrote faults sendings told)
        (λ g few. let n = ap length (puts_none lines) in
        ap (λ f. of_outputs first outs f ++ map puts lines)
        (ap (λ g. p.failed ++ g) (no_more g (omega (arith, few, n))) ∙ append-nil p.failed))

-- What is known of each of some outputs.

sends_at : {A B : Type 0} (P : B → Type 0) (f : A → List B) (xs : List A) (i : ℕ) (x : A) → slice_get xs i ≡ Some x →
    AllByRecursion P (flat_map f xs) →
    AllByRecursion P (f x)
sends_at P f [] i x is h = absurd (cc is)
sends_at P f (y ∷ xs) zero x is h = let same : y ≡ x = cc is in
    subst (λ y. AllByRecursion P (f y)) same (all-front P (f y) (flat_map f xs) h)
sends_at P f (y ∷ xs) (suc i) x is h = sends_at P f xs i x is (all-following P (f y) (flat_map f xs) h)

pub sendable_at : (plans : List Plan) (id : ℕ) (outs : List (Output × Option ℕ)) (i : ℕ) (o : Output × Option ℕ)
    (first now : Option ℕ) →
    slice_get outs i ≡ Some o → now ≡ first →
    IsSomeAnd first (λ peers. AllByRecursion (IsSendable peers id) (sends_of_outputs plans id outs)) →
    IsSomeAnd now (λ peers. AllByRecursion (IsSendable peers id) (handed_output plans id o))
sendable_at plans id outs i o first now is same h =
    subst (λ n. IsSomeAnd n (λ peers. AllByRecursion (IsSendable peers id) (handed_output plans id o))) (sym same)
    (go first h) where
      go : (n : Option ℕ) →
          IsSomeAnd n (λ peers. AllByRecursion (IsSendable peers id) (sends_of_outputs plans id outs)) →
          IsSomeAnd n (λ peers. AllByRecursion (IsSendable peers id) (handed_output plans id o))
      go None h = absurd h
      go (Some peers) h = sends_at (IsSendable peers id) (handed_output plans id) outs i o is h
