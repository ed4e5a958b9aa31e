use Rattle.pack_words.specs.Reading.{left}
use Rattle.pack_read.proofs.Writing.{push_whole}
use Rattle.pack_read.proofs.queues.push.Goals as goal

pub returns : goal.returns
returns c = push_whole c.args.scope.now (left c.args.text.now) _ _ _ c.pushed_row.result c.pushed_row.ensures
