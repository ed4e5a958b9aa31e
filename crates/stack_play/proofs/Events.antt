-- What one event gave.
use Rattle.std.proofs.Common.{◌≡◌, ℕ, ◌+◌, ◌++◌, add-zero, Bool, List, length, refl, sym, ap, subst, ◌∙◌}
use Rattle.std.specs.Prelude.{Result, Ok, Err, slice_index_or, Option, Some, None}
use Rattle.outside.specs.declared.sink.SinkError.{SinkError}
use Rattle.group_mean.specs.Told.{event_lines, lines_with_events}
use Rattle.run_mean.specs.Mode.{Mode}
use Rattle.layer_mean.specs.Tree.{LayerTree}
use Rattle.msg_core.specs.declared.packet.Packet.{Packet}
use Rattle.packet_mean.specs.Spelling.{full_bytes}
use Rattle.script_mean.specs.Event.{member_of}
use Rattle.script_mean.specs.declared.event.ScriptEvent.{ScriptEvent}
use Rattle.script_mean.specs.declared.event.ScriptEvent.TheVariants as script
use Rattle.stack_mean.specs.Plan.{Plan}
use Rattle.run_mean.specs.Member.{Member, inside, out, Output, Input, cast, send, leave, tick, datagram, Refusal}
use Rattle.run_mean.specs.Member.{Entered, entered_input}
use Rattle.run_mean.specs.Report.{mode_if, moment_lines, visits_in}
use Rattle.run_mean.specs.World as world
use Rattle.run_mean.specs.World.{World, happens, here_of, member_at, packet_number, stepped_inside, stepped_of}
use Rattle.run_mean.specs.World.{given_packet}
use Rattle.outside.specs.Lines.{Wrote}
use Rattle.outside.specs.Tells.{Tells}
use Rattle.outside.proofs.Turns.{wrote_as}
use Rattle.view_core.specs.Happenings.{DidIs}
use Rattle.view_core.specs.declared.step.Did.{Did}
use Rattle.view_core.specs.declared.step.Did.TheVariants.{Stepped, Absent, Shown}
use Rattle.view_core.specs.declared.step.Stepped.TheVariants.{Taken, Refused}
use Rattle.report_text.specs.Told.{told_lines}
use Rattle.report_text.proofs.Moments.{told_is_moment}
use Rattle.group_feed.specs.Feeding.{IsFed}
use Rattle.group_feed.specs.Showing.{shown_in}
use Rattle.group_feed.specs.Standing.{Peopled, Stands}
use Rattle.group_feed.proofs.Standing.{count_packets}
use Rattle.stack_play.specs.Turns.{Playing, moment_at, TellsEvent}

-- An event happened: the world after it, and what is told of it.
pub record Happened (mode : Mode) (stack : List LayerTree) (plans : List Plan) (w : World) (event : ScriptEvent)
    (c : Peopled) (outs : List (Output × Option ℕ))
    (before after : ℕ) (did : Did) : Type 0 where
  pub world : Stands c (happens stack plans w event).world
  pub told : DidIs mode stack plans (happens stack plans w event).did outs before after did

pub happened : (mode : Mode) (stack : List LayerTree) (plans : List Plan) (w : World) (event : ScriptEvent)
    (c c' : Peopled) (outs : List (Output × Option ℕ))
    (before after : ℕ) (did : Did) → c.mode ≡ mode → c.stack ≡ stack → c.plans ≡ plans →
    IsFed c (happens c.stack c.plans w event) c' outs before after did →
    Happened mode stack plans w event c' outs before after did
happened mode stack plans w event c c' outs before after did mode_is stack_is plans_are f =
    subst {A = Mode × (List LayerTree × List Plan)} (λ x. Happened x.0 x.1.0 x.1.1 w event c' outs before after did)
    (λ k. (mode_is k, (stack_is k, plans_are k)))
    (record { world = f.world; told = f.told })

-- visits are told on top of those before
visits_told : (mode : Mode) (stack : List LayerTree) (plans : List Plan) (h : world.Did)
    (outs : List (Output × Option ℕ)) (before after : ℕ) (did : Did) →
    DidIs mode stack plans h outs before after did → after ≡ before + visits_in mode stack plans h
visits_told mode stack plans (world.taken s) outs before after (Stepped (Taken common change)) is = is.visits_are
visits_told mode stack plans (world.refused r) outs before after (Stepped (Refused told)) is = is.quiet.visits_are ∙
    sym (add-zero before)
visits_told mode stack plans world.absent outs before after Absent is = is.visits_are ∙ sym (add-zero before)
visits_told mode stack plans world.shown outs before after Shown is = is.visits_are ∙ sym (add-zero before)
visits_told mode stack plans (world.taken s) outs before after (Stepped (Refused told)) is = absurd is
visits_told mode stack plans (world.taken s) outs before after Absent is = absurd is
visits_told mode stack plans (world.taken s) outs before after Shown is = absurd is
visits_told mode stack plans (world.refused r) outs before after (Stepped (Taken common change)) is = absurd is
visits_told mode stack plans (world.refused r) outs before after Absent is = absurd is
visits_told mode stack plans (world.refused r) outs before after Shown is = absurd is
visits_told mode stack plans world.absent outs before after (Stepped (Taken common change)) is = absurd is
visits_told mode stack plans world.absent outs before after (Stepped (Refused told)) is = absurd is
visits_told mode stack plans world.absent outs before after Shown is = absurd is
visits_told mode stack plans world.shown outs before after (Stepped (Taken common change)) is = absurd is
visits_told mode stack plans world.shown outs before after (Stepped (Refused told)) is = absurd is
visits_told mode stack plans world.shown outs before after Absent is = absurd is

-- what is told as a member that is shown is one
is_shown : (mode : Mode) (stack : List LayerTree) (plans : List Plan) (h : world.Did) (outs : List (Output × Option ℕ))
    (before after : ℕ) →
    DidIs mode stack plans h outs before after Shown → h ≡ world.shown
is_shown mode stack plans world.shown outs before after is = refl
is_shown mode stack plans (world.taken s) outs before after is = absurd is
is_shown mode stack plans (world.refused r) outs before after is = absurd is
is_shown mode stack plans world.absent outs before after is = absurd is

module _ (stack : List LayerTree) (plans : List Plan) (w : World) where
  -- a step shows no member
  step_shows_none : (id : ℕ) (input : Input) (m : Member) → (stepped_of stack plans w id input m).did ≡ world.shown → ⊥
  step_shows_none id input out is = cc is
  step_shows_none id input (inside view states) is = go (entered_input stack plans (here_of w view id) input) is where
    go : (r : Result Entered Refusal) → (stepped_inside stack w id view states r).did ≡ world.shown → ⊥
    go (Err refusal) is = cc is
    go (Ok what) is = cc is

  given_shows_none : (id : ℕ) (p : Option Packet) → (given_packet stack plans w id p).did ≡ world.shown → ⊥
  given_shows_none id None is = cc is
  given_shows_none id (Some p) is = step_shows_none id (datagram (full_bytes p)) (member_at w id) is

  -- a member that is shown changes nothing
  same_world : (event : ScriptEvent) → (happens stack plans w event).did ≡ world.shown →
      (happens stack plans w event).world ≡ w
  unfolding happens
  same_world (script.Cast id body) is = absurd (step_shows_none id (cast body) (member_at w id) is)
  same_world (script.Send id to body) is = absurd (step_shows_none id (send to body) (member_at w id) is)
  same_world (script.Leave id) is = absurd (step_shows_none id leave (member_at w id) is)
  same_world (script.Tick id moment) is = absurd (step_shows_none id (tick moment) (member_at w id) is)
  same_world (script.Give k id) is = absurd (given_shows_none id (packet_number w k) is)
  same_world (script.Raw id bytes) is = absurd (step_shows_none id (datagram bytes) (member_at w id) is)
  same_world (script.Show id) is = refl

module _ (mode : Mode) (stack : List LayerTree) (plans : List Plan) (events wire : Bool) (w : World)
    (event : ScriptEvent)
    (old new : Playing)
    (outs : List (Output × Option ℕ)) (did : Did)
    (h : Happened mode stack plans w event new.group outs old.visits new.visits did) where
  -- the member that is shown is the one of the world before
  member_shown : did ≡ Shown → shown_in new.group (member_of event) ≡ member_at w (member_of event)
  member_shown shows =
      let told : DidIs mode stack plans (happens stack plans w event).did outs old.visits new.visits Shown =
      subst (DidIs mode stack plans (happens stack plans w event).did outs old.visits new.visits) shows h.told in
      let same : (happens stack plans w event).world ≡ w =
      same_world stack plans w event
      (is_shown mode stack plans (happens stack plans w event).did outs old.visits new.visits told) in
      ap (λ ms. slice_index_or ms (member_of event) out) (sym h.world.members)
      ∙ ap (λ x. slice_index_or x.members (member_of event) out) same

  pub told_event : (first : ℕ) (a b : Tells) (r : Result (Unit {0}) SinkError) → first ≡ length old.group.spelled + 1 →
      Stands old.group w →
      Wrote (event_lines events event ++ told_lines stack plans wire event did outs
      (shown_in new.group (member_of event)) first) a b r →
      TellsEvent mode stack plans events wire w event old new a b r
  told_event first a b r number stands wrote =
      go r (wrote_as a b
      (event_lines events event ++ told_lines stack plans wire event did outs (shown_in new.group (member_of event))
      first)
      (lines_with_events events stack plans (mode_if wire mode) (moment_at stack plans w event)) r
      (ap (λ lines. event_lines events event ++ lines) same) wrote) where
        numbered : first ≡ length w.packets + 1
        numbered = number ∙ ap (λ n. n + 1) (count_packets old.group w stands)

        same : told_lines stack plans wire event did outs (shown_in new.group (member_of event)) first
            ≡ moment_lines stack plans (mode_if wire mode) (moment_at stack plans w event)
        same = told_is_moment mode stack plans wire (moment_at stack plans w event) outs old.visits new.visits did
            (shown_in new.group (member_of event)) first h.told member_shown numbered

        go : (r : Result (Unit {0}) SinkError) →
            Wrote (lines_with_events events stack plans (mode_if wire mode) (moment_at stack plans w event)) a b r →
            TellsEvent mode stack plans events wire w event old new a b r
        go (Ok done) gained = record {
          world = h.world;
          visits = visits_told mode stack plans (happens stack plans w event).did outs old.visits new.visits did h.told;
          gained = gained;
        }
        go (Err e) cut = cut
