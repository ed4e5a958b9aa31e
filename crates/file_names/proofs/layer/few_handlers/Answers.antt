use Rattle.std.proofs.lemmas.List.{take_rest}
use Rattle.file_names.proofs.Layers.{some_beyond}
use Rattle.file_names.proofs.layer.few_handlers.Goals as goal

pub returns-then-handlers-gt-MOST_HANDLERS : goal.returns-then-handlers-gt-MOST_HANDLERS
returns-then-handlers-gt-MOST_HANDLERS c =
    some_beyond c.args.found.now c.all_too_many.new.found c.args.handlers.now _ (take_rest c.args.handlers.now 64)
    c.all_too_many.ensures
