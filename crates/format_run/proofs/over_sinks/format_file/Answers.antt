use Rattle.std.proofs.Common.{refl}
use Rattle.format_run.specs.Ends.{around}
use Rattle.format_run.proofs.Comes.{written, stops}
use Rattle.format_run.proofs.over_sinks.format_file.Goals as goal

pub returns-in-Ok : goal.returns-in-Ok
returns-in-Ok g c =
    written c.args.name.now c.in-Ok.text.items _
    (around g.S.Shelf g.O.Sink c.args.shelf.now c.fetch.new.shelf c.args.out.now c.put_text.new.out)
    c.put_text.result c.deref.ensures.value c.in-Ok.ensures c.put_text.ensures

pub returns-in-Err : goal.returns-in-Err
returns-in-Err g c =
    stops c.args.name.now (around g.S.Shelf g.O.Sink c.args.shelf.now c.fetch.new.shelf c.args.out.now c.args.out.now)
    c.in-Err.ending c.in-Err.ensures refl
