use Rattle.stack_judge.specs.Answer.{stack_tree}
use Rattle.stack_shapes.specs.Trees.{plans_tree}
use Rattle.std.proofs.Common.{Ok, Err}
use Rattle.packet_full.specs.Taking.{left}
use Rattle.packet_full.proofs.Steps.{not_opened, not_contents, closed_scan}
use Rattle.packet_full.proofs.Taken.{are_bytes}
use Rattle.packet_short.proofs.Took.{any_ends}
use Rattle.packet_short.proofs.scan.scan_packet.Goals as goal

pub returns-in-Err-clause-read : goal.returns-in-Err-clause-read
returns-in-Err-clause-read c =
    not_opened (stack_tree c.args.known.now.stack.now) (plans_tree c.args.known.now.plans.now)
    c.args.here.now c.args.bytes.now _
    c.in-Err.ensures.front

pub returns-in-Err-contents-clause-read : goal.returns-in-Err-contents-clause-read
returns-in-Err-contents-clause-read c =
    not_contents (stack_tree c.args.known.now.stack.now) (plans_tree c.args.known.now.plans.now)
    c.args.here.now c.args.bytes.now _ _ _
    c.in-Ok.ensures.front
    c.in-Err-contents.ensures.read

pub close-requires : goal.close-requires
close-requires c = λ short.
    (any_ends (stack_tree c.args.known.now.stack.now) (plans_tree c.args.known.now.plans.now)
    c.args.here.now c.args.bytes.now _ _ _ _
    (record { places = c.law_within_limits.ensures.places; fields = c.law_within_limits.ensures.fields })
    (are_bytes c.args.bytes.now c.type_inv.bytes) c.in-Ok.ensures.front c.in-Ok.ensures.read
    c.in-Ok-contents.ensures.read
    short).following

pub returns-in-Ok-close-clause-read : goal.returns-in-Ok-close-clause-read
returns-in-Ok-close-clause-read c =
    closed_scan (stack_tree c.args.known.now.stack.now) (plans_tree c.args.known.now.plans.now)
    c.args.here.now c.args.bytes.now c.in-Ok.opened.front (left c.in-Ok.opened.cursor)
    c.contents.new.headers (left c.contents.new.cursor)
    (Ok c.in-Ok-close.field-0) c.close.new.scan
    c.in-Ok.ensures.front
    c.in-Ok.ensures.own c.in-Ok-contents.ensures.read
    (λ short. (any_ends (stack_tree c.args.known.now.stack.now) (plans_tree c.args.known.now.plans.now)
    c.args.here.now c.args.bytes.now _ _
    _ _
    (record { places = c.law_within_limits.ensures.places; fields = c.law_within_limits.ensures.fields })
    (are_bytes c.args.bytes.now c.type_inv.bytes) c.in-Ok.ensures.front c.in-Ok.ensures.read
    c.in-Ok-contents.ensures.read
    short).ends)
    c.in-Ok-close.ensures

pub returns-in-Err-close-clause-read : goal.returns-in-Err-close-clause-read
returns-in-Err-close-clause-read c =
    closed_scan (stack_tree c.args.known.now.stack.now) (plans_tree c.args.known.now.plans.now)
    c.args.here.now c.args.bytes.now c.in-Ok.opened.front (left c.in-Ok.opened.cursor)
    c.contents.new.headers (left c.contents.new.cursor)
    (Err c.in-Err-close.cause) c.close.new.scan
    c.in-Ok.ensures.front
    c.in-Ok.ensures.own c.in-Ok-contents.ensures.read
    (λ short. (any_ends (stack_tree c.args.known.now.stack.now) (plans_tree c.args.known.now.plans.now)
    c.args.here.now c.args.bytes.now _ _
    _ _
    (record { places = c.law_within_limits.ensures.places; fields = c.law_within_limits.ensures.fields })
    (are_bytes c.args.bytes.now c.type_inv.bytes) c.in-Ok.ensures.front c.in-Ok.ensures.read
    c.in-Ok-contents.ensures.read
    short).ends)
    c.in-Err-close.ensures
