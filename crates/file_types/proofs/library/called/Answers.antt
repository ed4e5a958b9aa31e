use Rattle.std.proofs.Common.{rules, map}
use Rattle.layer_ast.specs.View.{place_tree}
use Rattle.file_types.proofs.Calls.{called_once, hidden, uncalled}
use Rattle.file_types.proofs.library.called.Goals as goal

pub returns-in-Some : goal.returns-in-Some
returns-in-Some c =
    let l = c.args.library.now in
    hidden l.file.now.layers.items l.file.now.library.items (map place_tree l.file.now.places.items)
    (place_tree c.args.place.now)
    l.written _ c.args.found.now l.written_are c.in-Some.ensures

pub returns-in-None-position : goal.returns-in-None-position
returns-in-None-position c =
    let l = c.args.library.now in
    uncalled l.file.now.layers.items l.file.now.library.items (map place_tree l.file.now.places.items)
    (place_tree c.args.place.now)
    l.written l.names c.args.found.now l.written_are c.in-None.ensures l.names_are c.in-None-position.ensures

pub returns-in-Some-position : goal.returns-in-Some-position
returns-in-Some-position c =
    let l = c.args.library.now in
    called_once l.file.now.layers.items l.file.now.library.items (map place_tree l.file.now.places.items)
    (place_tree c.args.place.now)
    l.written l.names l.ranks.items c.in-Some-position.k c.index.result.now c.args.found.now c.note_rank.new.self
    l.written_are c.in-None.ensures l.names_are c.in-Some-position.ensures l.ranks_are (search rules)
    c.note_rank.ensures
