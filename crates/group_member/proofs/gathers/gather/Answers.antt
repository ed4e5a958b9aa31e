use Rattle.std.proofs.Common.{◌≡◌, List, drop, sym, ap, subst, ◌∙◌}
use Rattle.circular_buffer.specs.Buffer.{Buffer, buffer}
use Rattle.layer_words.specs.declared.events.Dir.{Dir}
use Rattle.pool_message.specs.declared.event.PoolEvent.{PoolEvent}
use Rattle.step_outputs.specs.Gathered.{Gathered}
use Rattle.group_member.specs.Gathering.{IsGathering}
use Rattle.group_member.proofs.Gathering.{gathered_one, gathered_all}
use Rattle.group_member.proofs.gathers.gather.Goals as goal

pub loop-direction-preserved : goal.loop-direction-preserved
loop-direction-preserved c =
    let next = gathered_one c.args.pool.now c.args.outs.now.items c.args.out.now c.loop-direction.pool
    c.drop_first.new.pool
    c.loop-direction.outs.items c.loop-direction.out
    c.in-Some.direction c.in-Some.event.now c.loop-direction.invariant.gathering (sym c.in-Some.ensures)
    c.drop_first.ensures.returned in
    let left : c.drop_first.new.self.items ≡ drop 1 c.loop-direction.outs.items =
    ap (λ (b : Buffer (Dir × PoolEvent)). b.items)
    c.drop_first.ensures.rest in record {
      gathering = subst (λ (xs : List (Dir × PoolEvent)).
          IsGathering c.args.pool.now c.args.outs.now.items c.args.out.now c.drop_first.new.pool xs
          c.put.new.self)
          (sym left)
          (subst (λ (out : Gathered). IsGathering c.args.pool.now c.args.outs.now.items c.args.out.now
          c.drop_first.new.pool (drop 1
          c.loop-direction.outs.items) out)
          (sym c.put.ensures) next);
      room = ap (λ (b : Buffer (Dir × PoolEvent)). b.capacity) c.drop_first.ensures.rest ∙
          c.loop-direction.invariant.room;
    }

pub returns-clause-empty : goal.returns-clause-empty
returns-clause-empty c =
    let all = gathered_all c.args.pool.now c.args.outs.now.items c.args.out.now c.loop-direction.pool
    c.loop-direction.outs.items
    c.loop-direction.out c.loop-direction.invariant.gathering (sym c.in_default.ensures) in
    λ i. buffer (all.0 i) (c.loop-direction.invariant.room i)

pub returns-clause-returned : goal.returns-clause-returned
returns-clause-returned c =
    (gathered_all c.args.pool.now c.args.outs.now.items c.args.out.now c.loop-direction.pool c.loop-direction.outs.items
    c.loop-direction.out c.loop-direction.invariant.gathering (sym c.in_default.ensures)).1

pub returns-clause-gathered : goal.returns-clause-gathered
returns-clause-gathered c =
    (gathered_all c.args.pool.now c.args.outs.now.items c.args.out.now c.loop-direction.pool c.loop-direction.outs.items
    c.loop-direction.out c.loop-direction.invariant.gathering (sym c.in_default.ensures)).2
