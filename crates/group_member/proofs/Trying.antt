-- A step is tried by its code.
use Rattle.std.proofs.Common.{◌≡◌, ◌∙◌, ℕ, ◌≤◌, Bool, true, false, List, ◌++◌, map, length, Option, Some, Ok, refl, sym}
use Rattle.std.proofs.Common.{ap, subst, arith}
use Rattle.std.proofs.lemmas.List.{length-map}
use Rattle.slot_pool.specs.Held.{Held}
use Rattle.slot_pool.proofs.References.{slots-shared}
use Rattle.msg_core.specs.Headers.{most_places}
use Rattle.msg_core.specs.Parts.{longest_body}
use Rattle.msg_core.specs.View.{member_count, most_members}
use Rattle.layer_words.specs.declared.events.Dir.{Dir}
use Rattle.layer_mean.specs.declared.run.Case.{Case}
use Rattle.layer_mean.specs.declared.run.Event.{Event}
use Rattle.layer_mean.specs.State.{State}
use Rattle.layer_mean.specs.Tree.{LayerTree}
use Rattle.packet_mean.specs.declared.here.Here.{Here}
use Rattle.stack_mean.specs.Acceptance.{acceptance, largest_weight, rows_of}
use Rattle.stack_mean.specs.Plan.{Plan}
use Rattle.stack_queue.specs.Stages.{Stand}
use Rattle.run_mean.specs.Member.{Entered, app_cast, app_send, app_leave, clock_tick, from_peer, Output}
use Rattle.member_laws.specs.Members.{IsEntered}
use Rattle.trace_laws.specs.Members.{AreOf}
use Rattle.trace_mean.specs.Worth.{Input}
use Rattle.guard_mean.specs.Code.{Code}
use Rattle.guard_mean.specs.Machine.{tested, run_code}
use Rattle.guard_mean.specs.Perform.{End}
use Rattle.guard_laws.specs.Counts.{code_outputs}
use Rattle.guard_laws.specs.Safe.{SafeCode}
use Rattle.stack_shapes.specs.Entries.{entry_for}
use Rattle.stack_shapes.specs.declared.entry.EntryOf.{EntryOf}
use Rattle.pool_laws.proofs.Room.{room_at_first}
use Rattle.live_layer.specs.Layer.{place_of, tree_of, IsInOrder}
use Rattle.live_layer.specs.declared.layer.FileLayer.{FileLayer}
use Rattle.step_outputs.specs.Gathered.{Gathered, full_output}
use Rattle.code_tests.specs.Registers.{needs_of, IsEmpty, SamePlaces}
use Rattle.code_tests.specs.declared.values.Values.{Values}
use Rattle.code_run.specs.Performing.{CanPerform, HasPerformed, Performs}
use Rattle.code_table.specs.Codes.{CodesTree, code_at}
use Rattle.code_table.specs.Room.{HasRoom, ServesAll}
use Rattle.handler_laws.specs.Handled.{step_input, EndsAs, HandlesStep, IsHandled, StepsAreHandled}
use Rattle.group_member.specs.Serving.{AreCodes, AreCodesOf}
use Rattle.group_member.specs.Stepping.{stack_of, plans_in, codes_in, step_over, IsGround}
use Rattle.group_member.specs.Trying.{Handles, IsBegun, IsTried, HasPassed, Tries}
use Rattle.group_member.specs.Viewing.{input_at, IsIn}
use Rattle.group_member.specs.Working.{states_in, refs_in, IsReady}
use Rattle.group_member.specs.declared.commons.Tried.{Tried}
use Rattle.group_member.specs.declared.ground.Ground.{Ground}
use Rattle.group_member.specs.declared.works.Works.{Works}
use Rattle.group_member.proofs.Members.{are_also}
use Rattle.group_member.proofs.Playing.{full_twice, own_pool}

-- the input of an entry is that of the member that is here
module _ (plans : List Plan) (here : Here) where
  its_rank : (what : Entered) → (step_input plans here what).me ≡ here.rank
  its_rank (app_cast body) = refl
  its_rank (app_send to body) = refl
  its_rank app_leave = refl
  its_rank (clock_tick moment) = refl
  its_rank (from_peer p) = refl

  its_count : (what : Entered) → (step_input plans here what).count ≡ member_count here.view
  its_count (app_cast body) = refl
  its_count (app_send to body) = refl
  its_count app_leave = refl
  its_count (clock_tick moment) = refl
  its_count (from_peer p) = refl

  its_ltime : (what : Entered) → (step_input plans here what).ltime ≡ here.view.ltime
  its_ltime (app_cast body) = refl
  its_ltime (app_send to body) = refl
  its_ltime app_leave = refl
  its_ltime (clock_tick moment) = refl
  its_ltime (from_peer p) = refl

-- so the code of an entry handles its step
module _ (g : Ground) (w : Works) (what : Entered) (ground : IsGround g)
    (is_in : IsIn (stack_of g) g.most g.here.now.view g.id (states_in w)) where
  pub own : AreOf (step_input (plans_in g) g.here.now what) (stack_of g) (states_in w)
  own = are_also (input_at g.here.now.view g.id) (step_input (plans_in g) g.here.now what)
      (sym ground.rank ∙ sym (its_rank (plans_in g) g.here.now what))
      (sym (its_count (plans_in g) g.here.now what))
      (sym (its_ltime (plans_in g) g.here.now what)) (stack_of g) (states_in w) is_in.members.own

  pub handles : StepsAreHandled → acceptance (stack_of g) ≡ Ok (stack_of g) → IsEntered (stack_of g) what →
      (codes : CodesTree) →
      codes_in g ≡ Some codes → (case : Case) → Handles g (states_in w) what codes case
  handles law accepts is_entered codes is case =
      let of : AreCodesOf (stack_of g) codes = subst (λ (c : Option CodesTree). AreCodes (stack_of g) c) is ground.codes
      in
      subst (λ (c : CodesTree). IsHandled case (stack_of g) (plans_in g) g.here.now g.id (states_in w) what
      (code_at c (entry_for (plans_in g) what) case)) (sym of.is)
      (law case (stack_of g) (plans_in g) of.bypasses g.here.now g.id (states_in w) what ground.typed accepts
      ground.plans of.of
      (record { typed = ground.typed; at = ground.here; states_are = is_in.inside_is.states_are; input = is_entered })
      own)

-- places of the same sizes serve the same codes
pub serves_on : (codes : CodesTree) (v v' : Values) → ServesAll codes v → IsEmpty v' → SamePlaces v v' →
    ServesAll codes v'
serves_on codes v v' serves empty same = record {
  empty = empty;
  each = λ e case c at. let room = serves.each e case c at in record {
    places = record {
      numbers = subst (λ (n : ℕ). (needs_of c).numbers ≤ n) (sym same.numbers) room.places.numbers;
      messages = subst (λ (n : ℕ). (needs_of c).messages ≤ n) (sym same.messages) room.places.messages;
      rows = subst (λ (n : ℕ). (needs_of c).rows ≤ n) (sym same.rows) room.places.rows;
      body = subst (λ (n : ℕ). 1 ≤ n) (sym same.body) room.places.body;
    };
    few = room.few;
  };
}

module _ (case : Case) (g : Ground) (old : Works) (what : Entered) (code : Code) (i : Input)
    (same : i ≡ step_input (plans_in g) g.here.now what)
    (ready : IsReady (stack_of g) g.most old)
    (handled : HandlesStep case (stack_of g) (plans_in g) g.here.now g.id (states_in old) what code) (out : Gathered)
    (begun : IsBegun g out) where
  trees : map tree_of old.layers.items ≡ stack_of g
  trees = ready.stand.layers

  -- code can be performed
  pub can_perform : (v : Values) → IsIn (stack_of g) g.most g.here.now.view g.id (states_in old) →
      length (stack_of g) ≤ most_places →
      i.count ≤ most_members → length i.body ≤ longest_body → HasRoom v code → IsEmpty v →
      CanPerform code i old.pool old.layers.items v out
  can_perform v is_in short members body room empty =
      let pool = own_pool (stack_of g) g.most g.id g.here.now.view old ready is_in in
      let rows_few = pool.few in let rows_within = pool.within in let size = pool.slots in
      let shared = slots-shared old.pool (refs_in old) pool.exact in
      let joins = handled.joins in let none = begun.none in let places = begun.places in record {
        stand = subst (λ (stack : List LayerTree). Stand place_of tree_of IsInOrder stack old.pool old.layers.items)
            (sym trees) ready.stand;
        few = omega (
          arith,
          length-map old.layers.items tree_of,
          ap (λ (stack : List LayerTree). length stack) trees,
          short,
        );
        exact = ready.exact;
        counts = (room_at_first (rows_of (stack_of g) g.most) old.pool (refs_in old) pool).counts;
        slots = omega (arith, rows_few, rows_within, size, shared, joins);
        members = members;
        body = body;
        safe = λ passes.
            subst (λ (stack : List LayerTree). SafeCode stack i code (states_in old)) (sym trees)
            (subst (λ (j : Input). (tested j code.tests (states_in old)).passes ≡ true →
            SafeCode (stack_of g) j code (states_in old)) (sym same)
            handled.safe passes);
        steps = room.few;
        places = room.places;
        empty = empty;
        outs = λ passes.
            let few = subst (λ (j : Input). (tested j code.tests (states_in old)).passes ≡ true →
            code_outputs code ≤ largest_weight (stack_of g))
            (sym same) handled.outputs passes in
            omega (arith, few, ap (λ (os : List (Output × Option ℕ)). length os) none, places);
      }

  ends : (e : End) → run_code i code (states_in old) ≡ Some e →
      EndsAs case (stack_of g) (plans_in g) (step_over g (states_in old) what) e
  ends e is = handled.passes e (ap (λ (j : Input). run_code j code (states_in old)) (sym same) ∙ is)

  -- code that was performed to its end has made the step
  made : (v v' : Values) (new : Works) (last : Gathered) → new.tasks ≡ old.tasks → new.outs ≡ old.outs →
      HasPerformed code i old.pool old.layers.items v out new.pool new.layers.items v' last →
      HasPassed case g old what new last
  made v v' new last tasks outs did =
      let end = ends did.end did.is in record {
        common = end.common;
        made = record {
          ready = record {
            stand = record { places = did.place ∙ ready.stand.places; layers = did.tree ∙ trees; ready = did.order };
            exact = did.exact;
            quiet = record { tasks = tasks ∙ ready.quiet.tasks; outs = outs ∙ ready.quiet.outs };
            slots = did.many ∙ ready.slots;
            few = ready.few;
          };
          states_are = did.states ∙ end.states;
          outputs =
              did.outputs
              ∙ ap (λ (os : List (Output × Option ℕ)). os ++ map (full_output out.here) did.end.outs) begun.none
              ∙ ap (λ (here : Here). map (full_output here) did.end.outs) begun.here
              ∙ ap (λ (xs : List (Dir × Event)). map (full_output g.here.now) xs) end.outs
              ∙ full_twice g.here.now (step_over g (states_in old) what).work.outs;
          here = did.here ∙ begun.here;
          taken = did.taken;
        };
      }

  pub tried : (v v' : Values) (new : Works) (last : Gathered) → new.tasks ≡ old.tasks → new.outs ≡ old.outs →
      (passed : Bool) →
      Performs code i old.pool old.layers.items v out new.pool new.layers.items v' last passed →
      Tries case g old what out new last passed
  tried v v' new last tasks outs true did = made v v' new last tasks outs did
  tried v v' new last tasks outs false did = record {
    uncommon = handled.misses (ap (λ (j : Input). run_code j code (states_in old)) (sym same) ∙ did.is);
    same = record { layers = did.layers; pool = did.pool; tasks = tasks; outs = outs };
    outs = did.out;
  }

-- what was kept is nothing again
pub kept_nothing : (code : Code) (i : Input) (p : List Held) (layers : List FileLayer) (v : Values) (out : Gathered)
    (q : List Held)
    (layers' : List FileLayer) (v' : Values) (out' : Gathered) (passed : Bool) →
    Performs code i p layers v out q layers' v' out' passed → IsEmpty v' × SamePlaces v v'
kept_nothing code i p layers v out q layers' v' out' true did = (did.empty, did.room)
kept_nothing code i p layers v out q layers' v' out' false did = (did.empty, did.room)

pub places_same : (code : Code) (i : Input) (p : List Held) (layers : List FileLayer) (v : Values) (out : Gathered)
    (q : List Held)
    (layers' : List FileLayer) (v' : Values) (out' : Gathered) (passed : Bool) →
    Performs code i p layers v out q layers' v' out' passed → out'.places ≡ out.places
places_same code i p layers v out q layers' v' out' true did = did.places
places_same code i p layers v out q layers' v' out' false did = ap (λ (o : Gathered). o.places) did.out

-- the code that is asked for is that of the entry
pub handled_at : (case : Case) (g : Ground) (states : List State) (what : Entered) (t : Tried) (r : Option Code) →
    IsTried g what t →
    Handles g states what t.codes.now case → r ≡ code_at t.codes.now t.entry case →
    IsHandled case (stack_of g) (plans_in g) g.here.now g.id states what r
handled_at case g states what t r tried handles at =
    subst (λ (o : Option Code). IsHandled case (stack_of g) (plans_in g) g.here.now g.id states what o)
    (sym (at ∙ ap (λ (e : EntryOf). code_at t.codes.now e case) tried.entry)) handles

-- what code does to layers that are lent it does to the layers that these equal
pub performs_at : (code : Code) (i : Input) (p : List Held) (v : Values) (out : Gathered) (q : List Held) (v' : Values)
    (last : Gathered)
    (passed : Bool) (lent olds news those : List FileLayer) → lent ≡ olds → news ≡ those →
    Performs code i p lent v out q news v' last passed →
    Performs code i p olds v out q those v' last passed
performs_at code i p v out q v' last passed lent olds news those same also did =
    subst (λ (xs : List FileLayer). Performs code i p xs v out q those v' last passed) same
    (subst (λ (ys : List FileLayer). Performs code i p lent v out q ys v' last passed) also did)
