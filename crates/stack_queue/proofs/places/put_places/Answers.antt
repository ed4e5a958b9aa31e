use Rattle.std.proofs.Common.{◌∷◌, [], ◌∙◌, length, ap, arith}
use Rattle.std.proofs.lemmas.List.{length-append}
use Rattle.stack_queue.proofs.Lists.{goes_on}
use Rattle.stack_queue.proofs.places.put_places.Goals as goal

pub loop-k-preserved : goal.loop-k-preserved
loop-k-preserved c =
    let items = ap (λ b. b.items) c.put_place.ensures in (
      goes_on c.args.at c.loop-k.places.items c.args.events.now.items c.direction.result c.loop-k.k c.beyond.result
          c.put_place.new.places.items
          items c.beyond.ensures c.direction.ensures c.loop-k.invariant.2 ∙ c.loop-k.invariant.0,
      ap (λ b. b.capacity) c.put_place.ensures ∙ c.loop-k.invariant.1,
      ap length items ∙ omega (arith, c.loop-k.invariant.2, length-append c.loop-k.places.items (c.beyond.result ∷ [])),
    )
