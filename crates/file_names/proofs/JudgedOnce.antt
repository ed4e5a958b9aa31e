-- A layer of the library, judged once.
use Rattle.std.proofs.Common.{◌≡◌, Some, None, option_map, ℕ, Option, ap₂, ◌∙◌}
use Rattle.layer_ast.specs.Tree.{LayerTree}
use Rattle.fault_mean.specs.NameFaults.{layer_name_faults}
use Rattle.file_scope.specs.Found.{anywhere}
use Rattle.file_scope.specs.declared.found.Found.{Found}
use Rattle.file_scope.proofs.Firsts.{rank_is}
use Rattle.file_names.specs.Called.{called_of}
use Rattle.file_names.specs.Found.{Finds, name_shown}
use Rattle.file_names.specs.Gathered.{sizes_of}
use Rattle.file_names.specs.declared.library.Called.{Called}
use Rattle.file_names.specs.declared.sizes.Sizes.{Sizes}

pub judged_once : (layer : LayerTree) (start judged : Found) (sizes : Sizes) (rank : Option ℕ) → start.first ≡ None →
    start.moved ≡ Some anywhere →
    Finds start (layer_name_faults layer) judged → sizes ≡ sizes_of layer →
    rank ≡ option_map (λ f. f.rank) judged.first →
    (let called : Called = record { sizes = sizes; rank = rank } in called) ≡ called_of layer
judged_once layer start judged sizes rank first moved finds are ranks =
    ap₂ (λ (s : Sizes) (r : Option ℕ). let called : Called = record { sizes = s; rank = r } in called) are
    (ranks ∙ rank_is name_shown start judged (layer_name_faults layer) first moved finds)
