use Rattle.std.proofs.Common.{◌≡◌, ◌≤◌, length, map, sym, ap, ◌∙◌, subst}
use Rattle.std.specs.List.{filter}
use Rattle.layer_ast.specs.Tree.{LayerTree}
use Rattle.layer_ast.specs.View.{declaration_tree, layer_tree}
use Rattle.fault_mean.specs.Declared.{cells_of, headers_of, is_cell, is_header}
use Rattle.fault_mean.specs.Scope.{Scope}
use Rattle.file_slots.specs.Placed.{HoldDeclarations, placement, words_of}
use Rattle.file_slots.proofs.placed_layer.PlacedLayer.of.Goals as goal

pub invariant_of-result : goal.invariant_of-result
invariant_of-result c =
    let same : layer_tree c.args.layer.now ≡ layer_tree c.of.result.layer.now =
    sym (ap (λ (s : Scope). s.layer) c.of.ensures) in
    record {
      cells_are = c.in_ok-cells.ensures
          ∙ (ap (λ ds. words_of (filter is_cell (map declaration_tree ds))) c.deref.ensures.value ∙
          ap (λ l. words_of (cells_of l)) same);
      headers_are = c.in_ok-headers.ensures
          ∙ (ap (λ ds. words_of (filter is_header (map declaration_tree ds))) c.deref-2.ensures.value ∙
          ap (λ l. words_of (headers_of l)) same);
      few_cells = subst (λ (l : LayerTree). length (cells_of l) ≤ 16) same c.requires.cells;
      few_headers = subst (λ (l : LayerTree). length (headers_of l) ≤ 7) same c.requires.headers;
      held = subst (λ (l : LayerTree). HoldDeclarations (placement l c.args.given.now c.args.blank)) same
          c.requires.declarations;
    }
