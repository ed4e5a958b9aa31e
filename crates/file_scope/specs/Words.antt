-- Tables of words.
use Rattle.std.specs.Prelude.{◌≡◌, ℕ, suc, Bool, false, ◌&&◌, ◌==◌, if◌then◌else◌, List, [], ◌∷◌, bytes_eq, IfSome}
use Rattle.std.specs.Prelude.{Option, Some, None, option_map, map}
use Rattle.std.specs.Option.{option_or}
use Rattle.layer_ast.specs.Tree.{LayerTree}
use Rattle.fault_mean.specs.Declared.{declared_name}
use Rattle.indexmap.specs.IndexMap.{IndexMap, get}

-- Where a word is first among these, counted from 0.
abbrev pub place_of : List ℕ → List (List ℕ) → Option ℕ
place_of word [] = None
place_of word (w ∷ words) = if bytes_eq w word then Some 0 else option_map (λ k. suc k) (place_of word words)

-- A table tells of each word where it is first among these.
abbrev pub IsTable : {S : Type 0} → IndexMap (List ℕ) ℕ S → List (List ℕ) → Type 0
IsTable table words = (word : List ℕ) → get bytes_eq table word ≡ place_of word words

-- Words may have a table.
abbrev pub HasTable : {S : Type 0} → Option (IndexMap (List ℕ) ℕ S) → List (List ℕ) → Type 0
HasTable first words = IfSome first (λ table. IsTable table words)

-- A table tells what another does and, if the other doesn't know a word, that the word is at a place.
abbrev pub NotesFirst : {S : Type 0} → IndexMap (List ℕ) ℕ S → List ℕ → ℕ → IndexMap (List ℕ) ℕ S → Type 0
NotesFirst old word place new = (w : List ℕ) →
    get bytes_eq new w ≡ option_or (get bytes_eq old w) (if bytes_eq word w then Some place else None)

-- Whether a place is this one.
abbrev pub is_at : ℕ → Option ℕ → Bool
is_at place None = false
is_at place (Some k) = k == place

-- A table tells what another does, but not that a word is at a place.
abbrev pub Forgets : {S : Type 0} → IndexMap (List ℕ) ℕ S → List ℕ → ℕ → IndexMap (List ℕ) ℕ S → Type 0
Forgets old word place new = (w : List ℕ) →
    get bytes_eq new w ≡ if bytes_eq word w && is_at place (get bytes_eq old w) then None else get bytes_eq old w

-- Two tables tell the same.
abbrev pub IsSameTable : {S : Type 0} → IndexMap (List ℕ) ℕ S → IndexMap (List ℕ) ℕ S → Type 0
IsSameTable old new = (w : List ℕ) → get bytes_eq new w ≡ get bytes_eq old w

-- The words that a layer declares, in order.
abbrev pub own_words : LayerTree → List (List ℕ)
own_words layer = map (λ d. (declared_name d).word) layer.declarations
