use Rattle.std.proofs.Common.{rules, map}
use Rattle.layer_ast.specs.View.{place_tree}
use Rattle.file_names.proofs.Calls.{library_place, no_place, written_place}
use Rattle.file_names.proofs.places.place.Goals as goal

pub returns-in_ok-place_at-in-Some : goal.returns-in_ok-place_at-in-Some
returns-in_ok-place_at-in-Some c =
    let j = c.args.judged.now in
    written_place j.file.now.layers.items j.file.now.library.items (map place_tree j.file.now.places.items)
    (place_tree c.args.place.now)
    j.written_names c.in-Some.k c.index-layer.result.now c.args.found.now c.place_at.new.found j.written_names_are
    c.in-Some.ensures
    (search rules) c.in_ok-place_at-in-Some.ensures

pub returns-in_ok-place_at-in-Some-position : goal.returns-in_ok-place_at-in-Some-position
returns-in_ok-place_at-in-Some-position c =
    let j = c.args.judged.now in
    library_place j.file.now.layers.items j.file.now.library.items (map place_tree j.file.now.places.items)
    (place_tree c.args.place.now)
    j.written_names j.library_names c.in-Some-position.k c.index-layer-in-Some-position.result.now c.args.found.now
    c.place_at-in-Some-position.new.found j.written_names_are c.in-None.ensures j.library_names_are
    c.in-Some-position.ensures
    (search rules) c.in_ok-place_at-in-Some-position.ensures

pub returns-in-None-position : goal.returns-in-None-position
returns-in-None-position c =
    let j = c.args.judged.now in
    no_place j.file.now.layers.items j.file.now.library.items (map place_tree j.file.now.places.items)
    (place_tree c.args.place.now)
    j.written_names j.library_names c.args.found.now c.note.new.found j.written_names_are c.in-None.ensures
    j.library_names_are
    c.in-None-position.ensures c.note.ensures
