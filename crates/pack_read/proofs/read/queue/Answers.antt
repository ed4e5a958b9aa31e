use Rattle.pack_words.specs.Reading.{left}
use Rattle.pack_read.proofs.Opened.{queue_whole}
use Rattle.pack_read.proofs.read.queue.Goals as goal

pub returns : goal.returns
returns c = queue_whole c.args.scope.now (left c.args.text.now) _ _ _ c.queue.result c.queue.ensures
