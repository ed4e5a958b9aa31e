use Rattle.std.proofs.Common.{rules, map}
use Rattle.layer_ast.specs.View.{place_tree}
use Rattle.file_names.proofs.Calls.{called_once, hidden, uncalled}
use Rattle.file_names.proofs.places.called.Goals as goal

pub returns-in-Some : goal.returns-in-Some
returns-in-Some c =
    let j = c.args.judged.now in
    hidden j.file.now.layers.items j.file.now.library.items (map place_tree j.file.now.places.items)
    (place_tree c.args.place.now) j.written_names _
    c.args.found.now j.written_names_are c.in-Some.ensures

pub returns-in-None-position : goal.returns-in-None-position
returns-in-None-position c =
    let j = c.args.judged.now in
    uncalled j.file.now.layers.items j.file.now.library.items (map place_tree j.file.now.places.items)
    (place_tree c.args.place.now)
    j.written_names j.library_names c.args.found.now j.written_names_are c.in-None.ensures j.library_names_are
    c.in-None-position.ensures

pub returns-in-Some-position : goal.returns-in-Some-position
returns-in-Some-position c =
    let j = c.args.judged.now in
    called_once j.file.now.layers.items j.file.now.library.items (map place_tree j.file.now.places.items)
    (place_tree c.args.place.now)
    j.written_names j.library_names j.library.items c.in-Some-position.k c.index.result.now c.args.found.now
    c.note_rank.new.self
    j.written_names_are c.in-None.ensures j.library_names_are c.in-Some-position.ensures j.library_is (search rules)
    c.note_rank.ensures
