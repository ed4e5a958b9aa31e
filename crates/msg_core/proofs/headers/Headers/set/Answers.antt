use Rattle.std.proofs.lemmas.List.{drop-set-add}
use Rattle.msg_core.proofs.headers.Headers.set.Goals as goal

pub returns : goal.returns
returns c = rw (c.from.ensures, c.from-2.ensures, ← c.self.view_is)
    (drop-set-add c.self.inside.first c.self.inside.places c.args.k c.args.header)
