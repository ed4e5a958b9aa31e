-- What is done, in parts.
use Rattle.std.proofs.Common.{◌≡◌, ℕ, zero, suc, ◌+◌, Bool, List, [], ◌∷◌, ◌++◌, length, map, drop, refl, sym, ap}
use Rattle.std.proofs.Common.{subst, ◌∙◌, append_assoc, append-nil, arith, Option, None}
use Rattle.std.proofs.lemmas.List.{map-append}
use Rattle.std.proofs.lemmas.List.Elements.{filter_map-append}
use Rattle.outside.specs.Links.{Network, after_recv}
use Rattle.layer_mean.specs.Tree.{LayerTree}
use Rattle.script_mean.specs.Event.{member_of}
use Rattle.script_mean.specs.declared.event.ScriptEvent.{ScriptEvent}
use Rattle.stack_mean.specs.Plan.{Plan}
use Rattle.run_mean.specs.Mode.{Mode}
use Rattle.run_mean.specs.Journal.{event_in, journal}
use Rattle.run_mean.specs.Common.{with_plans}
use Rattle.run_mean.specs.Member.{Output}
use Rattle.run_mean.specs.Report.{number_following}
use Rattle.run_mean.specs.World.{World, Did, taken, refused, absent, shown, happens}
use Rattle.std.specs.List.{filter_map}
use Rattle.std.specs.Prelude.{replicate}
use Rattle.node_laws.specs.Doings.{Doing, does, asks, bears, events_of, heard_in, note_in}
use Rattle.node_laws.specs.Losses.{following, deaf_line, event_lines, event_losses, event_sends, fan, losses, losses_in}
use Rattle.node_laws.specs.Losses.{lost_of, sends_of, written_of}
use Rattle.node_laws.specs.Network.{Goes, after_sends, met_as, sent_as}
use Rattle.node_laws.proofs.Sendings.{handed_after, listened_after, met_after, failures_none}

pub events_append : (xs ys : List Doing) → events_of (xs ++ ys) ≡ events_of xs ++ events_of ys
events_append xs ys = ap journal (filter_map-append note_in xs ys) ∙ filter_map-append event_in
    (filter_map note_in xs) (filter_map note_in ys)

pub heard_append : (xs ys : List Doing) → heard_in (xs ++ ys) ≡ heard_in xs ++ heard_in ys
heard_append [] ys = refl
heard_append (does event ∷ xs) ys = heard_append xs ys
heard_append (asks id heard ∷ xs) ys = ap (λ hs. heard ∷ hs) (heard_append xs ys)
heard_append (bears id ∷ xs) ys = heard_append xs ys

module _ (stack : List LayerTree) (plans : List Plan) where
  pub after_append : (w : World) (xs ys : List Doing) → following stack plans w (xs ++ ys) ≡
      following stack plans (following stack plans w xs) ys
  after_append w [] ys = refl
  after_append w (does event ∷ xs) ys = after_append (happens stack plans w event).world xs ys
  after_append w (asks id heard ∷ xs) ys = after_append w xs ys
  after_append w (bears id ∷ xs) ys = after_append w xs ys

  -- Two parts write what each writes, where it is told which sendings failed of each event of the first.
  pub written_append : (w : World) (xs ys : List Doing) (f g : List (List Bool)) → length f ≡ length (events_of xs) →
      written_of stack plans w (xs ++ ys) (f ++ g) ≡ written_of stack plans w xs f ++
      written_of stack plans (following stack plans w xs) ys g
  written_append w [] ys [] g is = refl
  written_append w [] ys (x ∷ f) g is = absurd (cc is)
  written_append w (does event ∷ xs) ys [] g is = absurd (cc is)
  written_append w (does event ∷ xs) ys (x ∷ f) g is =
      ap (λ ls. event_lines stack plans w event x ++ ls)
      (written_append (happens stack plans w event).world xs ys f g (omega (arith, is)))
      ∙ sym (append_assoc (event_lines stack plans w event x)
      (written_of stack plans (happens stack plans w event).world xs f)
      (written_of stack plans (following stack plans (happens stack plans w event).world xs) ys g))
  written_append w (asks id heard ∷ xs) ys f g is = written_append w xs ys f g is
  written_append w (bears id ∷ xs) ys f g is = ap (λ ls. deaf_line id ∷ ls) (written_append w xs ys f g is)

  pub lost_append : (w : World) (xs ys : List Doing) (f g : List (List Bool)) → length f ≡ length (events_of xs) →
      lost_of stack plans w (xs ++ ys) (f ++ g) ≡ lost_of stack plans w xs f ++
      lost_of stack plans (following stack plans w xs) ys g
  lost_append w [] ys [] g is = refl
  lost_append w [] ys (x ∷ f) g is = absurd (cc is)
  lost_append w (does event ∷ xs) ys [] g is = absurd (cc is)
  lost_append w (does event ∷ xs) ys (x ∷ f) g is =
      ap (λ ls. event_losses stack plans w event x ++ ls)
      (lost_append (happens stack plans w event).world xs ys f g (omega (arith, is)))
      ∙ sym (append_assoc (event_losses stack plans w event x)
      (lost_of stack plans (happens stack plans w event).world xs f)
      (lost_of stack plans (following stack plans (happens stack plans w event).world xs) ys g))
  lost_append w (asks id heard ∷ xs) ys f g is = lost_append w xs ys f g is
  lost_append w (bears id ∷ xs) ys f g is = lost_append w xs ys f g is

  -- Where no sending is told to have failed, none is lost.
  pub losses_none : (id k : ℕ) (outs : List (Output × Option ℕ)) → losses id k outs [] ≡ []
  losses_none id k [] = refl
  losses_none id k (o ∷ outs) =
      ap (λ n. replicate n k ++ losses id (number_following k o.0) outs (drop (fan id o.0) []))
      (failures_none (fan id o.0))
      ∙ ap (λ f. losses id (number_following k o.0) outs f) (drop_none (fan id o.0)) ∙
      losses_none id (number_following k o.0) outs where
        drop_none : (n : ℕ) → drop {A = Bool} n [] ≡ []
        drop_none zero = refl
        drop_none (suc n) = refl

  event_none : (w : World) (event : ScriptEvent) → event_losses stack plans w event [] ≡ []
  event_none w event = go (happens stack plans w event).did where
    go : (d : Did) → losses_in plans w event d [] ≡ []
    go (taken s) = losses_none (member_of event) (length w.packets + 1) (with_plans plans None s.outputs)
    go (refused r) = refl
    go absent = refl
    go shown = refl

  pub lost_none : (w : World) (xs : List Doing) → lost_of stack plans w xs [] ≡ []
  lost_none w [] = refl
  lost_none w (does event ∷ xs) =
      ap (λ ls. ls ++ lost_of stack plans (happens stack plans w event).world xs []) (event_none w event)
      ∙ lost_none (happens stack plans w event).world xs
  lost_none w (asks id heard ∷ xs) = lost_none w xs
  lost_none w (bears id ∷ xs) = lost_none w xs

module _ (mode : Mode) (stack : List LayerTree) (plans : List Plan) where
  pub goes_append : (w : World) (xs ys : List Doing) (f g : List (List Bool)) (n n' n'' : Network) →
      length f ≡ length (events_of xs) →
      Goes mode stack plans w xs f n n' → Goes mode stack plans (following stack plans w xs) ys g n' n'' →
      Goes mode stack plans w (xs ++ ys) (f ++ g) n n''
  goes_append w [] ys [] g n n' n'' is a b = subst (λ m. Goes mode stack plans w ys g m n'') a b
  goes_append w [] ys (x ∷ f) g n n' n'' is a b = absurd (cc is)
  goes_append w (does event ∷ xs) ys [] g n n' n'' is a b = absurd (cc is)
  goes_append w (does event ∷ xs) ys (x ∷ f) g n n' n'' is a b = (
    a.0,
    goes_append (happens stack plans w event).world xs ys f g
        (after_sends (event_sends mode stack plans w event) n) n' n'' (omega (arith, is)) a.1 b,
  )
  goes_append w (asks id heard ∷ xs) ys f g n n' n'' is a b =
      (a.0, goes_append w xs ys f g (after_recv id n) n' n'' is a.1 b)
  goes_append w (bears id ∷ xs) ys f g n n' n'' is a b = goes_append w xs ys f g n n' n'' is a b

  -- What a network was handed and what was heard of it.
  pub goes_handed : (w : World) (xs : List Doing) (f : List (List Bool)) (n n' : Network) →
      Goes mode stack plans w xs f n n' →
      n'.handed ≡ n.handed ++ map sent_as (sends_of mode stack plans w xs)
  goes_handed w [] f n n' is = ap (λ m. m.handed) is ∙ sym (append-nil n.handed)
  goes_handed w (does event ∷ xs) f n n' is =
      goes_handed (happens stack plans w event).world xs (drop 1 f)
      (after_sends (event_sends mode stack plans w event) n) n' is.1
      ∙ ap (λ h. h ++ map sent_as (sends_of mode stack plans (happens stack plans w event).world xs))
      (handed_after (event_sends mode stack plans w event) n)
      ∙ append_assoc n.handed (map sent_as (event_sends mode stack plans w event))
      (map sent_as (sends_of mode stack plans (happens stack plans w event).world xs))
      ∙ ap (λ h. n.handed ++ h)
      (sym (map-append sent_as (event_sends mode stack plans w event)
      (sends_of mode stack plans (happens stack plans w event).world xs)))
  goes_handed w (asks id heard ∷ xs) f n n' is = goes_handed w xs f (after_recv id n) n' is.1
  goes_handed w (bears id ∷ xs) f n n' is = goes_handed w xs f n n' is

  -- Its members went on to listen as they did.
  pub goes_listened : (w : World) (xs : List Doing) (f : List (List Bool)) (n n' : Network) →
      Goes mode stack plans w xs f n n' → n'.listened ≡ n.listened
  goes_listened w [] f n n' is = ap (λ m. m.listened) is
  goes_listened w (does event ∷ xs) f n n' is =
      goes_listened (happens stack plans w event).world xs (drop 1 f)
      (after_sends (event_sends mode stack plans w event) n) n' is.1
      ∙ listened_after (event_sends mode stack plans w event) n
  goes_listened w (asks id heard ∷ xs) f n n' is = goes_listened w xs f (after_recv id n) n' is.1
  goes_listened w (bears id ∷ xs) f n n' is = goes_listened w xs f n n' is

  pub goes_met : (w : World) (xs : List Doing) (f : List (List Bool)) (n n' : Network) →
      Goes mode stack plans w xs f n n' →
      n'.met ≡ n.met ++ map met_as (heard_in xs)
  goes_met w [] f n n' is = ap (λ m. m.met) is ∙ sym (append-nil n.met)
  goes_met w (does event ∷ xs) f n n' is =
      goes_met (happens stack plans w event).world xs (drop 1 f) (after_sends (event_sends mode stack plans w event) n)
      n' is.1
      ∙ ap (λ h. h ++ map met_as (heard_in xs)) (met_after (event_sends mode stack plans w event) n)
  goes_met w (asks id heard ∷ xs) f n n' is = goes_met w xs f (after_recv id n) n' is.1
      ∙ ap (λ m. n.met ++ m ∷ [] ++ map met_as (heard_in xs)) is.0
      ∙ append_assoc n.met (met_as heard ∷ []) (map met_as (heard_in xs))
  goes_met w (bears id ∷ xs) f n n' is = goes_met w xs f n n' is
