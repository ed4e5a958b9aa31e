-- Nothing is the beginning of a file, and no file is printed as nothing.
use Rattle.std.proofs.Common.{List, [], ◌∷◌, map, codes, refl}
use Rattle.layer_ast.specs.Print.{file}
use Rattle.layer_ast.specs.Spells.{Fits, Spells}
use Rattle.layer_ast.specs.Stops.{MayGoOn}
use Rattle.layer_ast.specs.Tree.{FileTree, LayerTree, PlaceTree}

-- A file with one place.
abbrev smallest : FileTree
smallest = record {
  layers = [];
  places = record { name = record { at = record { line = 1; col = 9 }; word = codes "a" }; given = [] } ∷ [];
  library = [];
}

pub nothing_begins : MayGoOn []
nothing_begins = record {
  begins = record {
    whole = smallest;
    placed = λ none. cc;
    rest = map (λ p. p.token) (file smallest);
    begins = refl;
  };
  within = tt;
}

-- No file fits no tokens.
nothing_fits : (layers : List LayerTree) (places : List PlaceTree) (library : List LayerTree) →
    Fits (file (record { layers = layers; places = places; library = library })) [] → ⊥
unfolding Fits
nothing_fits [] places library h = h
nothing_fits (l ∷ layers) places library h = h

pub nothing_spells : (f : FileTree) → Spells [] f → ⊥
nothing_spells f h = nothing_fits f.layers f.places f.library h.fits
