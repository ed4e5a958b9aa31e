-- The moments of a script, one by one.
use Rattle.std.proofs.Common.{◌≡◌, ℕ, suc, ◌+◌, ◌<◌, List, [], ◌∷◌, ◌++◌, length, take, drop, get_or, refl, sym, ap}
use Rattle.std.proofs.Common.{◌∙◌}
use Rattle.std.proofs.lemmas.List.{take_more, take-append-drop}
use Rattle.layer_mean.specs.Tree.{LayerTree}
use Rattle.script_mean.specs.declared.event.ScriptEvent.{ScriptEvent}
use Rattle.script_mean.specs.declared.script.Script.{Script}
use Rattle.stack_mean.specs.Plan.{Plan}
use Rattle.run_mean.specs.Report.{Moment, moments, run_of}
use Rattle.run_mean.specs.World.{World, first_world, happens}
use Rattle.stack_play.specs.Turns.{moment_at}

module _ (stack : List LayerTree) (plans : List Plan) where
  -- the world after events
  abbrev pub following : World → List ScriptEvent → World
  following w [] = w
  following w (e ∷ events) = following (happens stack plans w e).world events

  moments_append : (w : World) (xs ys : List ScriptEvent) → moments stack plans w (xs ++ ys) ≡
      moments stack plans w xs ++ moments stack plans (following w xs) ys
  moments_append w [] ys = refl
  moments_append w (e ∷ xs) ys =
      ap (λ ms. moment_at stack plans w e ∷ ms) (moments_append (happens stack plans w e).world xs ys)

  after_append : (w : World) (xs ys : List ScriptEvent) → following w (xs ++ ys) ≡ following (following w xs) ys
  after_append w [] ys = refl
  after_append w (e ∷ xs) ys = after_append (happens stack plans w e).world xs ys

  pub moments_length : (w : World) (events : List ScriptEvent) → length (moments stack plans w events) ≡ length events
  moments_length w [] = refl
  moments_length w (e ∷ events) = ap suc (moments_length (happens stack plans w e).world events)

  module _ (s : Script) where
    -- the world after the first events of a script, and their moments
    abbrev pub stands_at : ℕ → World
    stands_at k = following (first_world stack s.group s.stamp s.members) (take k s.events)

    abbrev pub front : ℕ → List Moment
    front k = moments stack plans (first_world stack s.group s.stamp s.members) (take k s.events)

    module _ (k : ℕ) (event : ScriptEvent) (lt : k < length s.events) (is : event ≡ get_or s.events k event) where
      taken : take (k + 1) s.events ≡ take k s.events ++ event ∷ []
      taken = take_more s.events k event lt ∙ ap (λ e. take k s.events ++ e ∷ []) (sym is)

      pub front_more : front (k + 1) ≡ front k ++ moment_at stack plans (stands_at k) event ∷ []
      front_more = ap (moments stack plans (first_world stack s.group s.stamp s.members)) taken
          ∙ moments_append (first_world stack s.group s.stamp s.members) (take k s.events) (event ∷ [])

      pub stands_more : stands_at (k + 1) ≡ (happens stack plans (stands_at k) event).world
      stands_more = ap (following (first_world stack s.group s.stamp s.members)) taken
          ∙ after_append (first_world stack s.group s.stamp s.members) (take k s.events) (event ∷ [])

      -- the moments after those
      abbrev pub rest : List Moment
      rest = moments stack plans (stands_at (k + 1)) (drop (k + 1) s.events)

      pub whole : run_of stack plans s ≡ front (k + 1) ++ rest
      whole = ap (moments stack plans (first_world stack s.group s.stamp s.members))
          (sym (take-append-drop (k + 1) s.events))
          ∙ moments_append (first_world stack s.group s.stamp s.members) (take (k + 1) s.events) (drop (k + 1) s.events)
