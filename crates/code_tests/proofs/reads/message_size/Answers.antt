use Rattle.std.proofs.Common.{sym, ap, length, []}
use Rattle.msg_core.specs.Chain.{Content, plain}
use Rattle.pool_message.specs.Seen.{content_seen}
use Rattle.code_tests.proofs.Found.{missing}
use Rattle.code_tests.proofs.reads.message_size.Goals as goal

pub returns-in-None : goal.returns-in-None
returns-in-None c = ap (λ (m : Content). length m.body)
    (sym (missing (content_seen c.args._pool.now) c.args.messages.now.items c.args.k (plain []) c.in-None.ensures))
