use Rattle.std.proofs.Common.{rules, ◌<◌, length, sym, ap, subst}
use Rattle.slot_pool.specs.References.{Moved, Covers}
use Rattle.pool_message.specs.Piled.{pile_refs}
use Rattle.pool_message.proofs.Piles.{covers_last, covers_others, moved_others}
use Rattle.pool_message.proofs.messages.Messages.clear.Goals as goal

pub drop_last-requires-clause-there : goal.drop_last-requires-clause-there
drop_last-requires-clause-there c = covers_last c.loop-self.pool c.loop-self.self.items (search rules)
    c.loop-self.invariant.1

pub loop-self-preserved : goal.loop-self-preserved
loop-self-preserved c =
    let some : 0 < length c.loop-self.self.items = search rules in
    let left = sym (ap (λ b. b.items) c.drop_last.ensures.rest) in (
      search rules,
      subst (λ ms. Covers c.drop_last.new.pool (pile_refs ms)) left
          (covers_others c.loop-self.pool c.drop_last.new.pool c.loop-self.self.items some c.drop_last.ensures.returned
          c.loop-self.invariant.1),
      subst (λ ms. Moved c.args.pool.now c.drop_last.new.pool (pile_refs c.args.self.now.items) (pile_refs ms)) left
          (moved_others c.loop-self.pool c.drop_last.new.pool c.loop-self.self.items some c.drop_last.ensures.returned _
          _ c.loop-self.invariant.2),
      search rules,
    )
