use Rattle.std.proofs.Common.{map}
use Rattle.std.specs.String.{string_bytes}
use Rattle.clap.specs.Simple.{app_of}
use Rattle.command_line.specs.Rules.{rows_found}
use Rattle.command_line.proofs.Found.{found, none_found}
use Rattle.command_line.proofs.words.taken.Goals as goal

pub returns-in-Ok : goal.returns-in-Ok
returns-in-Ok c = λ app is exact. found (app_of c.args.command) app (map string_bytes c.args.words.now)
    (rows_found c.in-Ok.matches) is exact c.in-Ok.ensures.kinds c.in-Ok.ensures.matches

pub returns-in-Err : goal.returns-in-Err
returns-in-Err c = λ app is exact. none_found rows_found (app_of c.args.command) app
    (map string_bytes c.args.words.now) c.in-Err.error c.refused.result is exact c.in-Err.ensures.kinds
    c.refused.ensures
