-- What a node handed to its network and heard of it, and which of its receives failed.
use Rattle.std.proofs.Common.{arith, ◌≡◌, refl, sym, ◌∙◌, ap, subst, ℕ, zero, suc, ◌+◌, ◌<◌, ◌≤◌, Bool, true, false}
use Rattle.std.proofs.Common.{List, [], ◌∷◌, ◌++◌, length, drop, map, Option, Some, None, append-nil}
use Rattle.std.specs.Prelude.{replicate, if◌then◌else◌, cond}
use Rattle.std.proofs.lemmas.List.Sums.{sum_by-cons}
use Rattle.outside.specs.Links.{Network, Came, Quiet, Broke, next_met, after_recv, first_for}
use Rattle.outside.specs.Shelf.{is_next_to_fail}
use Rattle.layer_mean.specs.Tree.{LayerTree}
use Rattle.script_mean.specs.declared.plan.NodePlan.{NodePlan}
use Rattle.stack_mean.specs.Plan.{Plan}
use Rattle.stack_mean.specs.Plans.{plans_of}
use Rattle.run_mean.specs.Mode.{Mode}
use Rattle.run_mean.specs.Journal.{Heard, datagram, silence, failure, Handed, handed_datagrams, journal}
use Rattle.run_mean.specs.Report.{moments}
use Rattle.run_mean.specs.World.{World, happens}
use Rattle.group_mean.specs.Node.{node_words}
use Rattle.group_mean.specs.Node.{Surroundings, failures, is_failure, handed_by}
use Rattle.node_laws.specs.Doings.{Doing, does, asks, bears, doings_of, heard_in}
use Rattle.node_laws.specs.Losses.{event_sends, failures_in, sends_of}
use Rattle.node_laws.specs.Network.{Goes, Tells, met_as, after_sends}
use Rattle.node_laws.proofs.Doings.{notes_are_of_doings}
use Rattle.node_laws.proofs.Losses.{sends_are_handed}
use Rattle.node_laws.proofs.Parts.{goes_handed, goes_met}
use Rattle.node_laws.proofs.Sendings.{tells_as}
use Rattle.node_loop.specs.Passing.{HandedSome}
use Rattle.node_loop.specs.Serve.{Task, RanOver, after_listens, first_of_plan, flags_of}
use Rattle.node_laws.specs.Network.{sent_as}

-- what was handed on is what the journal hands on
sends_are : (stack : List LayerTree) (plan : NodePlan) (turns : ℕ) (me : List ℕ) (patience : ℕ) (mode : Mode)
    (s : Surroundings) →
    sends_of mode stack (plans_of stack) (first_of_plan stack plan) (doings_of plan me turns patience s.clock s.heard)
    ≡ handed_by stack plan (node_words turns me patience mode) s
sends_are stack plan turns me patience mode s =
    sym (sends_are_handed mode stack (plans_of stack) (first_of_plan stack plan)
    (doings_of plan me turns patience s.clock s.heard))
    ∙ ap (λ notes. handed_datagrams mode stack (plans_of stack)
    (moments stack (plans_of stack) (first_of_plan stack plan) (journal notes)))
    (notes_are_of_doings plan me 0 turns patience s.clock s.heard)

module _ (stack : List LayerTree) (plan : NodePlan) (turns : ℕ) (me : List ℕ) (patience : ℕ) (mode : Mode)
    (s : Surroundings)
    (all : heard_in (doings_of plan me turns patience s.clock s.heard) ≡ s.heard) where
  abbrev task : Task
  task = record { stack = stack; plan = plan; words = node_words turns me patience mode }

  abbrev doings : List Doing
  doings = doings_of plan me turns patience s.clock s.heard

  -- a network that tells was handed this, and told this
  ran_over : (n n' : Network) → RanOver task s n n' →
      HandedSome (handed_by stack plan (node_words turns me patience mode) s) s.heard n n'
  ran_over n n' r = record {
    handed = goes_handed mode stack (plans_of stack) (first_of_plan stack plan) doings r.flags
        (after_listens plan.peers me n) n' r.goes
        ∙ ap (λ h. n.handed ++ map sent_as h) (sends_are stack plan turns me patience mode s);
    met = goes_met mode stack (plans_of stack) (first_of_plan stack plan) doings r.flags (after_listens plan.peers me n)
        n' r.goes
        ∙ ap (λ h. n.met ++ map met_as h) all;
  }

  pub handed_on : (told told_after : Option Network) → Tells (RanOver task s) told told_after →
      Tells (HandedSome (handed_by stack plan (node_words turns me patience mode) s) s.heard) told told_after
  handed_on told told_after t = tells_as told told_after t ran_over

-- a network after listens, or after no call, was handed nothing and told nothing
pub handed_nothing : (n n' : Network) → n'.handed ≡ n.handed → n'.met ≡ n.met → HandedSome [] [] n n'
handed_nothing n n' handed met =
    record { handed = handed ∙ sym (append-nil n.handed); met = met ∙ sym (append-nil n.met) }

-- the receives that fail are those that are to fail

flag_is : (id : ℕ) (n : Network) (heard : Heard) → next_met id n ≡ met_as heard →
    is_next_to_fail n.recvs ≡ is_failure heard
flag_is id n heard is = go (is_next_to_fail n.recvs) (first_for id n.waiting) heard is where
  go : (b : Bool) (o : Option (List ℕ)) (heard : Heard) →
      (if b then Broke else elim o [ None ↦ Quiet | Some bytes ↦ Came bytes ]) ≡ met_as heard →
      b ≡ is_failure heard
  go true o (datagram bytes) is = absurd (cc is)
  go true o silence is = absurd (cc is)
  go true o failure is = refl
  go false None (datagram bytes) is = refl
  go false None silence is = refl
  go false None failure is = absurd (cc is)
  go false (Some got) (datagram bytes) is = refl
  go false (Some got) silence is = refl
  go false (Some got) failure is = absurd (cc is)

flags_more : (count : ℕ) (flags : List Bool) → failures_in (flags_of (suc count) flags)
    ≡ cond (is_next_to_fail flags) 1 0 + failures_in (flags_of count (drop 1 flags))
flags_more count flags = sum_by-cons (λ f. cond f 1 0) (is_next_to_fail flags) (flags_of count (drop 1 flags))

-- a network after sends is to fail the same receives
receives_after : (sends : List Handed) (n : Network) → (after_sends sends n).recvs ≡ n.recvs
receives_after [] n = refl
receives_after (h ∷ sends) n = receives_after sends _

pub receives_failed : (mode : Mode) (stack : List LayerTree) (plans : List Plan) (w : World) (doings : List Doing)
    (flags : List (List Bool)) (n n' : Network) →
    Goes mode stack plans w doings flags n n' → failures_in (flags_of (length (heard_in doings)) n.recvs) ≡
    failures (heard_in doings)
receives_failed mode stack plans w [] flags n n' g = refl
receives_failed mode stack plans w (does event ∷ doings) flags n n' g =
    ap (λ recvs. failures_in (flags_of (length (heard_in doings)) recvs))
    (sym (receives_after (event_sends mode stack plans w event) n))
    ∙ receives_failed mode stack plans (happens stack plans w event).world doings (drop 1 flags)
    (after_sends (event_sends mode stack plans w event) n) n' g.1
receives_failed mode stack plans w (asks id heard ∷ doings) flags n n' g =
    flags_more (length (heard_in doings)) n.recvs
    ∙ ap (λ b. cond b 1 0 + failures_in (flags_of (length (heard_in doings)) (drop 1 n.recvs))) (flag_is id n heard g.0)
    ∙ ap (λ k. cond (is_failure heard) 1 0 + k)
    (receives_failed mode stack plans w doings flags (after_recv id n) n' g.1)
    ∙ sym (sum_by-cons (λ x. cond (is_failure x) 1 0) heard (heard_in doings))
receives_failed mode stack plans w (bears id ∷ doings) flags n n' g =
    receives_failed mode stack plans w doings flags n n' g

-- fewer calls fail no more
pub fewer_fail : (few more : ℕ) (flags : List Bool) → few ≤ more → failures_in (flags_of few flags) ≤ failures_in
    (flags_of more flags)
fewer_fail zero more flags le = omega arith
fewer_fail (suc few) zero flags le = absurd (omega (arith, le))
fewer_fail (suc few) (suc more) flags le =
    let one = flags_more few flags in
    let other = flags_more more flags in
    let rest = fewer_fail few more (drop 1 flags) (omega (arith, le)) in
    omega (arith, one, other, rest)

-- where the next calls all go well, none of them is the first that fails
pub none_before : (count more : ℕ) (flags : List Bool) → count < more → flags_of more flags ≡ replicate more false →
    flags_of (count + 1) flags ≡ replicate count false ++ true ∷ [] → ⊥
none_before zero zero flags lt well fails = omega (arith, lt)
none_before zero (suc more) flags lt well fails =
    let one : is_next_to_fail flags ≡ false = cc well in
    let other : is_next_to_fail flags ≡ true = cc fails in
    absurd (cc (sym one ∙ other))
none_before (suc count) zero flags lt well fails = omega (arith, lt)
none_before (suc count) (suc more) flags lt well fails =
    let next : suc count + 1 ≡ suc (count + 1) = omega arith in
    let first : flags_of (suc (count + 1)) flags ≡ replicate (suc count) false ++ true ∷ [] =
    subst (λ k. flags_of k flags ≡ replicate (suc count) false ++ true ∷ []) next fails in
    none_before count more (drop 1 flags) (omega (arith, lt)) (ap (drop 1) well) (ap (drop 1) first)
