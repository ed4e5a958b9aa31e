-- The library's texts, laid out.
use Rattle.std.specs.Prelude.{◌≡◌, map}
use Rattle.file_library.specs.Library.{library}
use Rattle.format_mean.specs.Layout.{formatted}

-- each text stays as it is
abbrev pub LibraryStays : Type 0
LibraryStays = map (λ layer. formatted layer.1) library ≡ map (λ layer. layer.1) library
