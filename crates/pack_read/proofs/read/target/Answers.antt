use Rattle.pack_words.specs.Reading.{left}
use Rattle.pack_read.proofs.Opened.{target_whole}
use Rattle.pack_read.proofs.read.target.Goals as goal

pub returns : goal.returns
returns c = target_whole c.args.scope.now (left c.args.text.now) _ _ _ _ _ c.target_named.result c.name-name.ensures
    c.target_named.ensures
