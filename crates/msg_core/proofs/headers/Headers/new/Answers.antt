use Rattle.std.proofs.Common.{arith}
use Rattle.std.proofs.lemmas.List.{drop_all}
use Rattle.msg_core.proofs.headers.Headers.new.Goals as goal

pub returns : goal.returns
returns c = drop_all 24 c.from_fn.result (omega arith)
