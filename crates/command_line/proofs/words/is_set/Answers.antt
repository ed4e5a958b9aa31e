use Rattle.std.proofs.Common.{◌∙◌}
use Rattle.clap.specs.Matches.{found_of}
use Rattle.clap.specs.Walk.{one_of, rows_of}
use Rattle.clap.proofs.WalkLemmas.{one_text-rows}
use Rattle.command_line.proofs.Flags.{flag_is}
use Rattle.command_line.proofs.words.is_set.Goals as goal

pub returns : goal.returns
returns c =
    let rows = one_text-rows (found_of c.args.matches.now) c.args.name.now in
    c.unwrap_or.ensures
    ∙ flag_is _ (one_of c.args.name.now (rows_of (found_of c.args.matches.now))) c.get_one.result
    (λ none. c.get_one.ensures.none (rows ∙ none))
    (λ t some. c.get_one.ensures.value t (rows ∙ some))
