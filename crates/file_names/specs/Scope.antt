-- What is found as locals become visible.
use Rattle.std.specs.Prelude.{◌≡◌, List, map}
use Rattle.fault_mean.specs.NameFaults.{twice_among}
use Rattle.fault_mean.specs.Scope as names
use Rattle.file_scope.specs.declared.found.Found.{Found}
use Rattle.file_names.specs.Found.{Finds}

-- What is found as locals become visible, and the scope with them.
abbrev pub Declares : names.Scope → Found → List names.Local → Found → names.Scope → Type 0
Declares old before locals after new =
    Finds before (twice_among (names.visible old) (map (λ l. l.name) locals)) after ×
    (new ≡ names.with_locals old locals)
