-- Steps of a desk that has no more than it is made for.
use Rattle.std.proofs.Common.{◌≡◌, ℕ, ◌+◌, ◌≤◌, Bool, true, false, if◌then◌else◌, nat_le, List, [], ◌∷◌, ◌++◌, Some}
use Rattle.std.proofs.Common.{None, map, get_or, slice_get, length, refl, sym, ap, subst, ◌∙◌, arith}
use Rattle.std.specs.List.{AllByRecursion}
use Rattle.std.proofs.lemmas.List.{append_assoc, length-append}
use Rattle.slot_pool.specs.Held.{Held}
use Rattle.slot_pool.specs.References.{Covers}
use Rattle.slot_pool.specs.Times.{times}
use Rattle.slot_pool.proofs.Times.{times-append}
use Rattle.msg_core.specs.Chain.{Content, plain}
use Rattle.msg_core.specs.Parts as parts
use Rattle.msg_core.specs.Parts.{longest_body}
use Rattle.layer_desk.specs.Laid.{lifted, front_joined}
use Rattle.layer_desk.specs.Need.{Layout}
use Rattle.layer_desk.specs.Spent.{Begun}
use Rattle.pool_message.specs.Seen.{bodiless, refs, content_seen, Lies}
use Rattle.pool_message.specs.Moves.{Kept, Returned, Derived, Made}
use Rattle.pool_message.specs.declared.message.PoolMessage.{PoolMessage}
use Rattle.live_layer.specs.Stock.{Stock, stock_refs, laid}
use Rattle.live_layer.specs.Steps.{InPool}
use Rattle.live_layer.specs.Fits.{IsShort, StockFits}
use Rattle.live_layer.proofs.Lists.{all-append, all-at, all-front, all-following, seen_at, seen_none, times-at}
use Rattle.live_layer.proofs.Hand.{bare_step, changed_step, joined_step, gone_step, lifted_step}
use Rattle.live_layer.proofs.Parts.{hand_out, messages_within}
use Rattle.live_layer.proofs.Steps.{covered}

-- Other messages in hand, no more than there may be.
pub fits_hand : (l : Layout) (s : Stock) (hand : List PoolMessage) → StockFits l s → length hand ≤ l.hand →
    AllByRecursion IsShort hand →
    StockFits l (record s { hand = hand })
fits_hand l s hand fits few short = record {
  rows = fits.rows;
  cells = fits.cells;
  numbers = fits.numbers;
  messages = fits.messages;
  short = fits.short;
  hand = few;
  hand_short = short;
  sent = fits.sent;
  few = fits.few;
}

join_headers : (x y : Content) → (parts.join x y).headers ≡ y.headers
join_headers x y = go (nat_le (length x.body + length y.body) longest_body)
  where
    go : (b : Bool) → (if b then record { headers = y.headers; body = x.body ++ y.body } else y).headers ≡ y.headers
    go true = refl
    go false = refl

module _ (b : Begun) (p q : List Held) (s : Stock) (is : InPool b p s) (fits : StockFits b.layout s) where
  -- The first message in hand becomes another with no more headers.
  pub changed_fits : (f : Content → Content) (rest : List PoolMessage) (x y : PoolMessage) (hand : List PoolMessage) →
      s.hand ≡ rest ++ x ∷ [] →
      hand ≡ rest ++ y ∷ [] → Derived f x y → length (f (content_seen [] x)).headers ≤ length x.headers →
      InPool b p (record s { hand = hand }) × StockFits b.layout (record s { hand = hand })
  changed_fits f rest x y hand at new made few =
      let short = subst (AllByRecursion IsShort) at fits.hand_short in
      let one : IsShort x = (all-following IsShort rest (x ∷ []) short).0 in
      let headers = ap (λ (c : Content). length c.headers) (made.shows []) in
      let long = ap length at in let all = fits.hand in
      subst (λ hand. InPool b p (record s { hand = hand }) × StockFits b.layout (record s { hand = hand })) (sym new) (
        (changed_step b p s is f rest x y at made).0,
        fits_hand b.layout s (rest ++ y ∷ []) fits
            (omega (arith, length-append rest (x ∷ []), length-append rest (y ∷ [])))
            (all-append IsShort rest (y ∷ []) (all-front IsShort rest (x ∷ []) short) (omega arith, tt)),
      )

  -- A message of the desk is kept, and the new one taken into the hand.
  pub lifted_fits : (m : PoolMessage) (hand : List PoolMessage) → hand ≡ s.hand ++ m ∷ [] →
      length s.hand + 1 ≤ b.layout.hand → IsShort m →
      Covers p (refs m) → Lies p m → Kept p q (refs m) →
      InPool b q (record s { hand = hand }) × StockFits b.layout (record s { hand = hand }) ×
      (laid q (record s { hand = hand }) ≡ lifted (content_seen p m) (laid p s))
  lifted_fits m hand new few short covers lies kept =
      let step = lifted_step b p q s is m covers lies kept in
      subst (λ hand. InPool b q (record s { hand = hand }) × StockFits b.layout (record s { hand = hand }) ×
      (laid q (record s { hand = hand }) ≡ lifted (content_seen p m) (laid p s)))
      (sym new) (
        step.0,
        fits_hand b.layout s (s.hand ++ m ∷ []) fits (omega (arith, length-append s.hand (m ∷ [])))
            (all-append IsShort s.hand (m ∷ []) fits.hand_short (short, tt)),
        step.1,
      )

  -- A message of the scope is in order.
  pub scope_there : (k : ℕ) (m : PoolMessage) → slice_get s.messages k ≡ Some m → Covers p (refs m) × Lies p m ×
      IsShort m
  scope_there k m there = (
    record {
      covers = λ i. let all = (covered b p s is).covers i in let own = messages_within i s in let one =
          times-at refs i s.messages k m there in omega arith;
    },
    all-at (Lies p) s.messages k m there is.lies.messages,
    all-at IsShort s.messages k m there fits.short,
  )

  pub scope_lifted : (k : ℕ) (m n : PoolMessage) (hand : List PoolMessage) (d : Content) →
      slice_get s.messages k ≡ Some m → n ≡ m → hand ≡ s.hand ++ n ∷ [] →
      length s.hand + 1 ≤ b.layout.hand → Kept p q (refs m) →
      InPool b q (record s { hand = hand }) × StockFits b.layout (record s { hand = hand }) ×
      (laid q (record s { hand = hand }) ≡ lifted (get_or (map (content_seen p) s.messages) k d) (laid p s))
  scope_lifted k m n hand d there same new few kept =
      let own = scope_there k m there in
      let step = lifted_fits m hand (new ∙ ap (λ x. s.hand ++ x ∷ []) same) few own.2 own.0 own.1 kept in
      (step.0, step.1, step.2 ∙ ap (λ c. lifted c (laid p s)) (sym (seen_at (content_seen p) s.messages k m d there)))

  pub nothing_lifted : (k : ℕ) (m : PoolMessage) (hand : List PoolMessage) → slice_get s.messages k ≡ None →
      m ≡ bodiless [] → hand ≡ s.hand ++ m ∷ [] →
      laid p (record s { hand = hand }) ≡ lifted (get_or (map (content_seen p) s.messages) k (plain [])) (laid p s)
  nothing_lifted k m hand there bare new =
      ap (λ hand. laid p (record s { hand = hand })) (new ∙ ap (λ x. s.hand ++ x ∷ []) bare) ∙
      (bare_step b p s is (bodiless []) refl tt).1 ∙
      ap (λ c. lifted c (laid p s)) (sym (seen_none (content_seen p) s.messages k (plain []) there))

  module _ (rest : List PoolMessage) (part m : PoolMessage) (at : s.hand ≡ (rest ++ part ∷ []) ++ m ∷ []) where
    -- The first two in hand lie in the pool, and are covered.
    pub two_covered : Covers p (refs part ++ refs m)
    two_covered = record {
      covers = λ i.
          let all = (covered b p s is).covers i in
          let out = (hand_out s rest (part ∷ m ∷ [])).times i in
          let whole = ap (λ hand. times i (stock_refs (record s { hand = hand })))
          (at ∙ append_assoc rest (part ∷ []) (m ∷ [])) in
          let two = times-append i (refs part) (refs m) in let three = times-append i (refs part) (refs m ++ []) in
          let four = times-append i (refs m) [] in
          omega arith;
    }

    pub two_lie : Lies p part × Lies p m
    two_lie =
        let lie = subst (AllByRecursion (Lies p)) at is.lies.hand in (
          (all-following (Lies p) rest (part ∷ []) (all-front (Lies p) (rest ++ part ∷ []) (m ∷ []) lie)).0,
          (all-following (Lies p) (rest ++ part ∷ []) (m ∷ []) lie).0,
        )

    shorts : AllByRecursion IsShort ((rest ++ part ∷ []) ++ m ∷ [])
    shorts = subst (AllByRecursion IsShort) at fits.hand_short

    -- They are joined.
    pub joined_fits : (x : PoolMessage) (hand : List PoolMessage) → hand ≡ rest ++ x ∷ [] →
        Made p q (refs part ++ refs m) (parts.join (content_seen p part) (content_seen p m)) x →
        InPool b q (record s { hand = hand }) × StockFits b.layout (record s { hand = hand }) ×
        (laid q (record s { hand = hand }) ≡ front_joined (laid p s))
    joined_fits x hand new made =
        let step = joined_step b p q s is rest part m x at made in
        let one : IsShort m = (all-following IsShort (rest ++ part ∷ []) (m ∷ []) shorts).0 in
        let headers = ap (λ (c : Content). length c.headers) made.shows in let same =
        ap length (join_headers (content_seen p part) (content_seen p m)) in
        let long = ap length at in let all = fits.hand in
        subst (λ hand. InPool b q (record s { hand = hand }) × StockFits b.layout (record s { hand = hand }) ×
        (laid q (record s { hand = hand }) ≡ front_joined (laid p s)))
        (sym new) (
          step.0,
          fits_hand b.layout s (rest ++ x ∷ []) fits
              (omega (
                arith,
                length-append rest (x ∷ []),
                length-append rest (part ∷ []),
                length-append (rest ++ part ∷ []) (m ∷ []),
              ))
              (all-append IsShort rest (x ∷ [])
              (all-front IsShort rest (part ∷ []) (all-front IsShort (rest ++ part ∷ []) (m ∷ []) shorts))
              (omega arith, tt)),
          step.1,
        )

    -- They are given back.
    pub gone_fits : Returned p q (refs part ++ refs m) → InPool b q (record s { hand = rest }) ×
        StockFits b.layout (record s { hand = rest })
    gone_fits gone =
        let long = ap length at in let all = fits.hand in (
          gone_step b p q s is rest part m at gone,
          fits_hand b.layout s rest fits
              (omega (arith, length-append rest (part ∷ []), length-append (rest ++ part ∷ []) (m ∷ [])))
              (all-front IsShort rest (part ∷ []) (all-front IsShort (rest ++ part ∷ []) (m ∷ []) shorts)),
        )

-- A message without bytes is taken into the hand.
pub bare_fits : (b : Begun) (p : List Held) (s : Stock) → InPool b p s → StockFits b.layout s →
    (m : PoolMessage) (hand : List PoolMessage) →
    hand ≡ s.hand ++ m ∷ [] → length s.hand + 1 ≤ b.layout.hand → IsShort m → refs m ≡ [] → Lies p m →
    InPool b p (record s { hand = hand }) × StockFits b.layout (record s { hand = hand }) ×
    (laid p (record s { hand = hand }) ≡ lifted (content_seen p m) (laid p s))
bare_fits b p s is fits m hand new few short none lies =
    let step = bare_step b p s is m none lies in
    subst (λ hand. InPool b p (record s { hand = hand }) × StockFits b.layout (record s { hand = hand }) ×
    (laid p (record s { hand = hand }) ≡ lifted (content_seen p m) (laid p s)))
    (sym new) (
      step.0,
      fits_hand b.layout s (s.hand ++ m ∷ []) fits (omega (arith, length-append s.hand (m ∷ [])))
          (all-append IsShort s.hand (m ∷ []) fits.hand_short (short, tt)),
      step.1,
    )
