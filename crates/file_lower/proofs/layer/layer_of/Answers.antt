use Rattle.std.proofs.Common.{arith, ap, sym, ◌∙◌, List, length, map, filter_map}
use Rattle.std.proofs.lemmas.List.{length-map}
use Rattle.layer_ast.specs.Tree.{LayerTree}
use Rattle.layer_ast.specs.View as written
use Rattle.layer_ast.specs.declared.syntax.Declaration.{Declaration}
use Rattle.layer_ast.specs.declared.syntax.Handler as rust
use Rattle.file_mean.specs.Layers.{cell_in, handler_of, header_in, layer_of}
use Rattle.typed_layer.specs.View.{handler_tree}
use Rattle.typed_layer.specs.declared.tree.Handler.{Handler}
use Rattle.file_slots.specs.Place.{placed_of}
use Rattle.file_lower.proofs.layer.layer_of.Goals as goal

pub of-requires-clause-few : goal.of-requires-clause-few
of-requires-clause-few c =
    let written_all = map written.handler_tree c.deref-3.result.now in
    let made = c.in_ok-handlers.handlers in
    let one = length-map made.items handler_tree in
    let two = ap length c.in_ok-handlers.ensures.is in
    let three = length-map written_all (handler_of (placed_of c.args.place.now)) in
    let four = ap (λ (l : List rust.Handler). length (map written.handler_tree l)) c.deref-3.ensures.value in
    let five = ap (λ (l : LayerTree). length l.handlers) c.requires.layer in
    omega (arith, made.ok, one, two, three, four, five, c.requires.holds.handlers)

pub returns : goal.returns
unfolding layer_of
returns c =
    let place = placed_of c.args.place.now in
    let same = c.requires.layer in
    let cells = c.in_ok-cells.ensures
    ∙ (ap (λ (l : List Declaration). filter_map (cell_in place) (map written.declaration_tree l)) c.deref.ensures.value
    ∙ ap (λ (l : LayerTree). filter_map (cell_in place) l.declarations) (sym same)) in
    let headers = c.in_ok-headers.ensures
    ∙ (ap (λ (l : List Declaration). filter_map header_in (map written.declaration_tree l)) c.deref-2.ensures.value
    ∙ ap (λ (l : LayerTree). filter_map header_in l.declarations) (sym same)) in
    let handlers = ap (λ (l : List Handler). map handler_tree l) c.in_ok-of.ensures
    ∙ (c.in_ok-handlers.ensures.is
    ∙ (ap (λ (l : List rust.Handler). map (handler_of place) (map written.handler_tree l)) c.deref-3.ensures.value
    ∙ ap (λ (l : LayerTree). map (handler_of place) l.handlers) (sym same))) in
    λ i. record {
      name = sym (ap (λ (l : LayerTree). l.name.word) same) i;
      cells = cells i;
      headers =
          headers i;
      handlers = handlers i;
    }
