use Rattle.std.proofs.Common.{ap, ◌∙◌}
use Rattle.circular_buffer.specs.Buffer.{buffer}
use Rattle.stack_queue.proofs.Lists.{only_place}
use Rattle.stack_queue.proofs.places.stand_alone.Goals as goal

pub returns : goal.returns
returns c = c.set_first.ensures ∙
    ap (λ ps. buffer ps c.args.places.now.capacity) (only_place c.args.places.now.items c.args.at c.requires)
