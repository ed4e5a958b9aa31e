-- What one event gives, which is probed and then fed unless it was a common step.
use Rattle.std.proofs.Common.{◌≡◌, ℕ, true, if◌then◌else◌, List, [], Option, Some, None, option_map, refl, sym, ap}
use Rattle.std.proofs.Common.{subst, ◌∙◌, append-nil}
use Rattle.std.specs.List.{concat}
use Rattle.std.specs.Prelude.{Ok, option_to_list}
use Rattle.group_feed.specs.Probing.{IsProbed}
use Rattle.group_feed.specs.Standing.{Peopled, Stands}
use Rattle.layer_ast.specs.Tree.{FileTree}
use Rattle.layer_mean.specs.Tree.{LayerTree}
use Rattle.lack_mean.specs.Lacks.{Miss, entry_named, miss_by, miss_of, missed_in}
use Rattle.miss_mean.specs.Text.{miss_line}
use Rattle.outside.proofs.Gaining.{begins_after, begins_none}
use Rattle.outside.specs.Lines.{Begins, Gains}
use Rattle.outside.specs.Tells.{Tells}
use Rattle.run_mean.specs.Common.{entry_of, is_common}
use Rattle.run_mean.specs.Member.{Step}
use Rattle.run_mean.specs.World as world
use Rattle.run_mean.specs.World.{World, Happening, happens}
use Rattle.script_mean.specs.Event.{member_of}
use Rattle.script_mean.specs.declared.event.ScriptEvent.{ScriptEvent}
use Rattle.stack_mean.specs.Plan.{Plan}
use Rattle.step_misses.specs.Misses.{miss_meant}
use Rattle.step_misses.specs.declared.miss.Probed.{Probed}
use Rattle.step_misses.specs.declared.miss.Probed.TheVariants.{Common, Missed, Other}
use Rattle.miss_explain.specs.Explaining.{Follows, MayBeTold, lines_at, probed_lines}
use Rattle.miss_explain.specs.Told.{IsTold}
use Rattle.miss_explain.proofs.Told.{told}

-- a common step lacks nothing
common_lacks : (stack : List LayerTree) (plans : List Plan) (s : Step) → is_common stack plans s ≡ true →
    miss_of stack plans s ≡ None
unfolding miss_of
common_lacks stack plans s common =
    ap (λ b. if b then None else option_map (miss_by stack s (entry_of plans s.entered)) (entry_named plans s.entered))
    common

-- what was told
abbrev lacked_of : Probed → Option Miss
lacked_of Common = None
lacked_of Other = None
lacked_of (Missed miss) = Some (miss_meant miss)

own_lacked : (c c' : Peopled) (h : Happening) (probed : Probed) → IsProbed c h c' probed →
    missed_in c.stack c.plans h.did ≡ lacked_of probed
own_lacked c c' h Common is = ap (missed_in c.stack c.plans) is.did ∙ common_lacks c.stack c.plans is.step is.common
own_lacked c c' h Other is = is.lacked
own_lacked c c' h (Missed miss) is = is.lacked

own_after : (c c' : Peopled) (w : World) (event : ScriptEvent) (probed : Probed) (last : Peopled) →
    IsProbed c (happens c.stack c.plans w event) c' probed →
    Stands c w → ((v : World) → Stands c' v → Follows probed c' event v last (Ok tt)) →
    Stands last (happens c.stack c.plans w event).world
own_after c c' w event Common last is stands follows =
    subst (λ x. Stands x (happens c.stack c.plans w event).world)
    (sym (follows (happens c.stack c.plans w event).world is.world)) is.world
own_after c c' w event Other last is stands follows =
    subst (λ x. Stands last (happens x.stack x.plans w event).world) is.same
    (follows w (subst (λ x. Stands x w) (sym is.same) stands))
own_after c c' w event (Missed miss) last is stands follows =
    subst (λ x. Stands last (happens x.stack x.plans w event).world) is.same
    (follows w (subst (λ x. Stands x w) (sym is.same) stands))

probed_line : (file : FileTree) (stack : List LayerTree) (plans : List Plan) (number id : ℕ) (probed : Probed) →
    probed_lines file stack plans number id probed ≡
    option_to_list (option_map (miss_line file stack plans number id) (lacked_of probed))
probed_line file stack plans number id Common = refl
probed_line file stack plans number id Other = refl
probed_line file stack plans number id (Missed miss) = refl

-- lines that were all written, though memory ran out after them
pub begins_all : (a b : Tells) (lines : List (List ℕ)) → Gains a b lines → Begins a b (concat lines)
begins_all a b lines gained = begins_after a b b (concat lines) [] (concat lines) gained.gained (begins_none b [])
    (sym (append-nil (concat lines)))

module _ (file : FileTree) (stack : List LayerTree) (plans : List Plan) where
  -- what is missed in what happened may be told
  happened_told : (did : world.Did) (m : Miss) → missed_in stack plans did ≡ Some m → IsTold stack plans m
  happened_told (world.taken s) m is = told stack plans s m is
  happened_told (world.refused refusal) m is = absurd (cc is)
  happened_told world.absent m is = absurd (cc is)
  happened_told world.shown m is = absurd (cc is)

  module _ (c c' : Peopled) (stack_is : c.stack ≡ stack) (plans_are : c.plans ≡ plans) (w : World) (event : ScriptEvent)
      (probed : Probed)
      (is : IsProbed c (happens c.stack c.plans w event) c' probed) where
    -- what holds of a group's own stack and plans
    as_given : (P : List LayerTree → List Plan → Type 0) → P c.stack c.plans → P stack plans
    as_given P own = subst {A = List LayerTree × List Plan} (λ x. P x.0 x.1) (λ k. (stack_is k, plans_are k)) own

    lacked : missed_in stack plans (happens stack plans w event).did ≡ lacked_of probed
    lacked = as_given (λ st pl. missed_in st pl (happens st pl w event).did ≡ lacked_of probed)
        (own_lacked c c' (happens c.stack c.plans w event) probed is)

    pub may_be_told : MayBeTold stack plans probed
    may_be_told = go probed lacked where
      go : (p : Probed) → missed_in stack plans (happens stack plans w event).did ≡ lacked_of p →
          MayBeTold stack plans p
      go Common lacks = tt
      go Other lacks = tt
      go (Missed miss) lacks = happened_told (happens stack plans w event).did (miss_meant miss) lacks

    -- the lines of what was told are those of the event
    pub lines_are : (number id : ℕ) → id ≡ member_of event → probed_lines file stack plans number id probed ≡
        lines_at file stack plans number w event
    lines_are number id named =
        probed_line file stack plans number id probed
        ∙ ap (λ i. option_to_list (option_map (miss_line file stack plans number i) (lacked_of probed))) named
        ∙ ap (λ o. option_to_list (option_map (miss_line file stack plans number (member_of event)) o)) (sym lacked)

    -- after it the group stands at the world of what happened
    pub stands_after : (last : Peopled) → Stands c w →
        ((v : World) → Stands c' v → Follows probed c' event v last (Ok tt)) →
        Stands last (happens stack plans w event).world
    stands_after last stands follows =
        as_given (λ st pl. Stands last (happens st pl w event).world)
        (own_after c c' w event probed last is stands follows)
