use Rattle.std.proofs.Common.{ℕ, Bool, true, List, map, sym, ap₂, ◌∙◌}
use Rattle.std.specs.List.{list_all}
use Rattle.std.specs.Option.{option_map_or}
use Rattle.layer_ast.specs.Tree.{LayerTree}
use Rattle.layer_ast.specs.View.{given_tree, layer_tree, place_tree}
use Rattle.layer_ast.specs.declared.syntax.Given.{Given}
use Rattle.fault_mean.specs.Limits.{is_within}
use Rattle.fault_mean.specs.Places.{param_value}
use Rattle.file_names.proofs.SizesWithin.{words_fail, words_hold}
use Rattle.file_names.proofs.value.are_within.Goals as goal

-- whether these words are within a limit, with what a place gives
abbrev holds : LayerTree → ℕ → List Given → List (List ℕ) → Bool
holds layer most given =
    list_all (λ w. option_map_or (is_within most) (param_value layer (map given_tree given) w) true)

pub returns-then-not-all_within : goal.returns-then-not-all_within
returns-then-not-all_within c =
    let layer = layer_tree c.args.scope.now.layer.now in
    words_fail layer (place_tree c.args.place.now) c.args.sizes.now c.requires.sizes
    (sym (ap₂ (holds layer 64) c.as_slice-given.ensures.value c.list.ensures) ∙
    (sym c.all_within.ensures ∙ c.if-not-all_within.true))

pub returns : goal.returns
returns c =
    let layer = layer_tree c.args.scope.now.layer.now in
    c.all_within-2.ensures
    ∙ (ap₂ (holds layer 32) c.as_slice-given.ensures.value c.list-2.ensures
    ∙ words_hold layer (place_tree c.args.place.now) c.args.sizes.now c.requires.sizes
    (sym (ap₂ (holds layer 64) c.as_slice-given.ensures.value c.list.ensures) ∙
    (sym c.all_within.ensures ∙ c.if-not-all_within.false)))
