use Rattle.std.proofs.Common.{sym, subst, vec_capacity}
use Rattle.stack_judge.specs.Answer.{stack_tree}
use Rattle.packet_full.specs.Taking.{left, preamble_tree}
use Rattle.packet_mean.specs.Plan.{kind_of}
use Rattle.stack_shapes.specs.Trees.{plans_tree}
use Rattle.packet_short.specs.Layouts.{IsReadAs}
use Rattle.packet_short.proofs.Filled.{filled_read, has_room_for, not_filled, read_as}
use Rattle.packet_short.proofs.Short.{no_full, not_dealt, dealt_contents}
use Rattle.packet_short.proofs.contents.contents.Goals as goal

pub read-requires : goal.read-requires
read-requires c = record {
  room = has_room_for (stack_tree c.args.known.now.stack.now) (plans_tree c.args.known.now.plans.now) c.in-Some.number
      c.in-Some.layout.now (vec_capacity c.args.fields.now) c.in-Some.ensures.laid c.requires.room;
}

pub returns-in_default-read-clause-read : goal.returns-in_default-read-clause-read
returns-in_default-read-clause-read c =
    not_dealt (stack_tree c.args.known.now.stack.now) (plans_tree c.args.known.now.plans.now)
    (preamble_tree c.args.front.now) (left c.args.cursor.now) _ _ (no_full _ c.if-front.true) c.in-Some.ensures.named
    (not_filled (stack_tree c.args.known.now.stack.now) (plans_tree c.args.known.now.plans.now) c.in-Some.number
    c.in-Some.layout.now (left c.laid_out.new.cursor) c.in-Some.ensures.laid c.in_default-read.ensures.read)

pub returns-in-Some-clause-read : goal.returns-in-Some-clause-read
returns-in-Some-clause-read c =
    dealt_contents (stack_tree c.args.known.now.stack.now) (plans_tree c.args.known.now.plans.now)
    (preamble_tree c.args.front.now) (left c.args.cursor.now) _ _ c.read.new.headers (left c.read.new.cursor)
    (no_full _ c.if-front.true) c.in-Some.ensures.named
    (filled_read (stack_tree c.args.known.now.stack.now) (plans_tree c.args.known.now.plans.now) c.in-Some.number
    c.in-Some.layout.now (left c.laid_out.new.cursor) c.read.new.headers c.read.new.fields.items
    (left c.read.new.cursor) c.in-Some.ensures.laid c.in-Some-read.ensures.read).0

pub returns-in-Some-clause-known : goal.returns-in-Some-clause-known
returns-in-Some-clause-known c =
    subst (λ number. IsReadAs (plans_tree c.args.known.now.plans.now) number (kind_of c.args.front.now.dest)
    c.read.new.headers c.read.new.fields.items) (sym c.known.ensures)
    (read_as (stack_tree c.args.known.now.stack.now) (plans_tree c.args.known.now.plans.now) c.in-Some.number
    c.in-Some.layout.now (kind_of c.args.front.now.dest) (left c.laid_out.new.cursor) c.read.new.headers
    c.read.new.fields.items (left c.read.new.cursor) c.in-Some.ensures.laid c.in-Some.ensures.kind
    c.in-Some-read.ensures.read)
