-- Files that are held in memory, each under its name.
use Rattle.std.specs.Prelude.{ℕ, Bool, List, [], Option, Some, find, unwrap_or}
use Rattle.std.specs.Option.{option_map}
use Rattle.std.specs.Str.{bytes_eq}
use Rattle.std.specs.String.{string_bytes}
use Rattle.outside.specs.declared.named_file.NamedFile.{NamedFile}
use Rattle.outside.specs.Shelf.{Shelved}

-- the bytes of the first file of this name
abbrev pub file_named : List NamedFile → List ℕ → Option (List ℕ)
file_named files name =
    option_map (λ file. file.bytes.items) (find (λ file. bytes_eq (string_bytes file.name) name) files)

-- a shelf of these files, with the reads that are to fail
abbrev pub shelf_of : List NamedFile → List Bool → Shelved
shelf_of files failures = record { files = file_named files; failures = failures }

-- a shelf of these files that holds the empty file under every other name, and none of whose reads is to fail
abbrev pub still_shelf_of : List NamedFile → Shelved
still_shelf_of files = record { files = λ name. Some (unwrap_or (file_named files name) []); failures = [] }
