-- One step of a desk: references are taken out of it, move, and others are put in.
use Rattle.std.proofs.Common.{◌≡◌, ℕ, List, ◌++◌, sym, ◌∙◌, arith}
use Rattle.slot_pool.specs.Held.{Held}
use Rattle.slot_pool.specs.References.{Moved, Covers}
use Rattle.slot_pool.proofs.Times.{times-append}
use Rattle.slot_pool.proofs.References.{moved-chain, moved-beside, moved-reordered}
use Rattle.layer_desk.specs.Spent.{Begun}
use Rattle.live_layer.specs.Stock.{Stock, stock_refs, laid, StockLies}
use Rattle.live_layer.specs.Steps.{InPool, TakesOut}
use Rattle.live_layer.proofs.Stays.{stock_stays}

-- The references of a desk are covered.
pub covered : (b : Begun) (p : List Held) (s : Stock) → InPool b p s → Covers p (stock_refs s)
covered b p s is = record {
  covers = λ i. let counts = is.moved.counts i in let there = is.covered.covers i in
      omega arith;
}

pub rest_stays : (b : Begun) (p q : List Held) (s t : Stock) (xs ys : List ℕ) → InPool b p s → TakesOut s t xs →
    StockLies p t → Moved p q xs ys →
    StockLies q t × (laid q t ≡ laid p t)
rest_stays b p q s t xs ys is out lies moved =
    let all = covered b p s is in
    stock_stays p q xs ys moved t
    (record {
      covers = λ i. let there = all.covers i in let parts = out.times i in let both =
          times-append i xs (stock_refs t) in omega arith;
    }) lies

pub stepped : (b : Begun) (p q : List Held) (s t u : Stock) (xs ys : List ℕ) → InPool b p s → TakesOut s t xs →
    TakesOut u t ys → Moved p q xs ys →
    StockLies q u → InPool b q u
stepped b p q s t u xs ys is out put moved lies = record {
  few = is.few;
  covered = is.covered;
  moved = moved-chain b.pool p q b.refs (stock_refs s) (stock_refs u) is.moved
      (moved-reordered p q (xs ++ stock_refs t) (ys ++ stock_refs t) (stock_refs s) (stock_refs u)
      (λ i. times-append i xs (stock_refs t) ∙ sym (out.times i))
      (λ i. times-append i ys (stock_refs t) ∙ sym (put.times i))
      (moved-beside p q xs ys (stock_refs t) moved));
  lies = lies;
}
