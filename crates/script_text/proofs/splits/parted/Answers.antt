use Rattle.std.proofs.Common.{rules}
use Rattle.std.specs.Prelude.{◌==◌}
use Rattle.std.proofs.lemmas.List.{take_rest}
use Rattle.script_text.proofs.Cuts.{split_at_some, split_at_none}
use Rattle.script_text.proofs.splits.parted.Goals as goal

pub returns-in-Some : goal.returns-in-Some
returns-in-Some c = rw take_rest
    (split_at_some (λ byte. byte == c.args._at) c.args.text.now c.in-Some.end (search rules))

pub returns-in-None : goal.returns-in-None
returns-in-None c = split_at_none (λ byte. byte == c.args._at) c.args.text.now (search rules)
