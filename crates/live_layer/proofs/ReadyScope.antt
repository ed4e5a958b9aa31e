-- The scope of a desk that has no more than it is made for.
use Rattle.std.proofs.Common.{◌≡◌, ℕ, suc, ◌+◌, ◌≤◌, List, [], ◌∷◌, ◌++◌, Option, Some, None, option_to_list, length}
use Rattle.std.proofs.Common.{refl, sym, ap, subst, arith}
use Rattle.std.specs.List.{AllByRecursion}
use Rattle.std.proofs.lemmas.List.{append-nil, length-append, map-append}
use Rattle.slot_pool.specs.Held.{Held}
use Rattle.slot_pool.specs.References.{Covers}
use Rattle.layer_desk.specs.Laid.{Laid}
use Rattle.layer_desk.specs.Need.{Layout}
use Rattle.layer_desk.specs.Spent.{Begun}
use Rattle.pool_message.specs.Seen.{bodiless, refs_if, content_seen}
use Rattle.pool_message.specs.Moves.{Returned}
use Rattle.pool_message.specs.Piled.{pile_refs}
use Rattle.pool_message.specs.declared.message.PoolMessage.{PoolMessage}
use Rattle.live_layer.specs.Stock.{Stock, laid}
use Rattle.live_layer.specs.Scope.{without_messages, with_messages_alone}
use Rattle.live_layer.specs.Entered.{with_arrived, with_bare}
use Rattle.live_layer.specs.Steps.{InPool}
use Rattle.live_layer.specs.Fits.{most_bound, IsShort, IsShortIf, StockFits}
use Rattle.live_layer.proofs.Lists.{all-append}
use Rattle.live_layer.proofs.Parts.{messages_within}
use Rattle.live_layer.proofs.Steps.{covered}
use Rattle.live_layer.proofs.Scope.{arrived_bound, bare_bound, messages_gone, arrived_gone, numbers_step}

pub fits_scope : (l : Layout) (s : Stock) (ns : List ℕ) (ms : List PoolMessage) (arrived : Option PoolMessage) →
    StockFits l s → length ns ≤ l.numbers + most_bound → length ms ≤ l.messages + 1 →
    AllByRecursion IsShort ms → StockFits l (record s { numbers = ns; messages = ms; arrived = arrived })
fits_scope l s ns ms arrived fits numbers messages short = record {
  rows = fits.rows;
  cells = fits.cells;
  numbers = numbers;
  messages = messages;
  short = short;
  hand = fits.hand;
  hand_short = fits.hand_short;
  sent = fits.sent;
  few = fits.few;
}

module _ (b : Begun) (p q : List Held) (s : Stock) (is : InPool b p s) (fits : StockFits b.layout s) where
  -- The messages of the scope are covered.
  pub scope_covered : Covers p (pile_refs s.messages)
  scope_covered = record { covers = λ i. omega (arith, (covered b p s is).covers i, messages_within i s) }

  -- They are given back.
  pub messages_back : Returned p q (pile_refs s.messages) →
      InPool b q (record s { messages = [] }) × StockFits b.layout (record s { messages = [] }) ×
      (laid q (record s { messages = [] }) ≡ without_messages (laid p s))
  messages_back gone =
      let step = messages_gone b p q s is gone in
      (step.0, fits_scope b.layout s s.numbers [] s.arrived fits fits.numbers (omega arith) tt, step.1)

  -- The numbers go, and the message that arrived is given back.
  pub arrived_back : (ns : List ℕ) → ns ≡ [] → Returned p q (refs_if s.arrived) →
      InPool b q (record s { numbers = ns; arrived = None }) ×
      StockFits b.layout (record s { numbers = ns; arrived = None }) ×
      (laid q (record s { numbers = ns; arrived = None }) ≡ with_messages_alone (laid p s))
  arrived_back ns empty gone =
      let step = arrived_gone b p q s is gone in
      subst (λ ns. InPool b q (record s { numbers = ns; arrived = None }) ×
      StockFits b.layout (record s { numbers = ns; arrived = None }) ×
      (laid q (record s { numbers = ns; arrived = None }) ≡ with_messages_alone (laid p s))) (sym empty) (
        numbers_step b q (record s { arrived = None }) step.0 [],
        fits_scope b.layout s [] s.messages None fits (omega arith) fits.messages fits.short,
        ap (λ (l : Laid). record l { scope = record { numbers = []; messages = l.scope.messages } }) step.1,
      )

-- The message that arrived comes into an empty scope, if there is one.
pub arrived_in : (b : Begun) (p : List Held) (s : Stock) → InPool b p s → StockFits b.layout s → s.messages ≡ [] →
    IsShortIf s.arrived →
    InPool b p (record s { messages = option_to_list s.arrived; arrived = None }) ×
    StockFits b.layout (record s { messages = option_to_list s.arrived; arrived = None }) ×
    (laid p (record s { messages = option_to_list s.arrived; arrived = None }) ≡ with_arrived (laid p s))
arrived_in b p s is fits empty short =
    subst (λ ms. InPool b p (record s { messages = ms; arrived = None }) ×
    StockFits b.layout (record s { messages = ms; arrived = None }) ×
    (laid p (record s { messages = ms; arrived = None }) ≡ with_arrived (laid p s)))
    (ap (λ ms. ms ++ option_to_list s.arrived) empty) (go s.arrived refl short)
  where
    go : (o : Option PoolMessage) → s.arrived ≡ o → IsShortIf o →
        InPool b p (record s { messages = s.messages ++ option_to_list o; arrived = None }) ×
        StockFits b.layout (record s { messages = s.messages ++ option_to_list o; arrived = None }) ×
        (laid p (record s { messages = s.messages ++ option_to_list o; arrived = None }) ≡
        with_arrived (laid p (record s { arrived = o })))
    go None at short =
        let same : s ≡ record s { messages = s.messages ++ []; arrived = None } = λ j.
        record s { messages = sym (append-nil s.messages) j; arrived = at j } in (
          subst (InPool b p) same is,
          subst (StockFits b.layout) same fits,
          ap (λ ms. record (laid p s) { scope = record { numbers = s.numbers; messages = ms }; arrived = None })
              (map-append (content_seen p) s.messages []),
        )
    go (Some m) at short =
        let step = arrived_bound b p s is m at in (
          step.0,
          fits_scope b.layout s s.numbers (s.messages ++ m ∷ []) None fits fits.numbers
              (omega (arith, length-append s.messages (m ∷ []), ap length empty))
              (all-append IsShort s.messages (m ∷ []) fits.short (short, tt)),
          step.1,
        )

-- A message without bytes comes into the scope.
pub bare_more : (b : Begun) (p : List Held) (s : Stock) → InPool b p s → StockFits b.layout s →
    length s.messages + 1 ≤ b.layout.messages + 1 →
    InPool b p (record s { messages = s.messages ++ bodiless [] ∷ [] }) ×
    StockFits b.layout (record s { messages = s.messages ++ bodiless [] ∷ [] }) ×
    ((k : ℕ) → with_bare k (laid p (record s { messages = s.messages ++ bodiless [] ∷ [] })) ≡
    with_bare (suc k) (laid p s))
bare_more b p s is fits few =
    let step = bare_bound b p s is (bodiless []) refl tt in (
      step.0,
      fits_scope b.layout s s.numbers (s.messages ++ bodiless [] ∷ []) s.arrived fits fits.numbers
          (omega (arith, length-append s.messages (bodiless [] ∷ []), few))
          (all-append IsShort s.messages (bodiless [] ∷ []) fits.short (omega arith, tt)),
      λ k. ap (with_bare k) step.1,
    )
