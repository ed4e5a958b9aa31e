-- Text in a picture: `&`, `<`, `>` and `"` are spelled by their names, and each byte that isn't printable ASCII by the
-- sign for what can't be shown.
use Rattle.std.specs.Prelude.{ℕ, ◌==◌, ◌&&◌, ◌||◌, not, nat_le, Bool, true, List, [], ◌∷◌, length, take, codes}
use Rattle.std.specs.Prelude.{bytes_eq, if◌then◌else◌}
use Rattle.std.specs.List.{flat_map, list_any}

-- how one byte is spelled in a picture
abbrev pub escaped_byte : ℕ → List ℕ
escaped_byte byte =
    if byte == 38 then codes "&amp;"
    else if byte == 60 then codes "&lt;"
    else if byte == 62 then codes "&gt;"
    else if byte == 34 then codes "&quot;"
    else if nat_le 32 byte && nat_le byte 126 then byte ∷ []
    else codes "&#65533;"

-- a text as it is spelled in a picture, byte by byte
abbrev pub escaped : List ℕ → List ℕ
escaped text = flat_map escaped_byte text

-- what stands after an `&`
abbrev pub names : List (List ℕ)
names = codes "amp;" ∷ codes "lt;" ∷ codes "gt;" ∷ codes "quot;" ∷ codes "#65533;" ∷ []

-- this byte may stand before these: it is printable ASCII and no `<`, `>` or `"`, and an `&` begins a name
abbrev pub may_stand : ℕ → List ℕ → Bool
may_stand byte rest =
    (nat_le 32 byte && nat_le byte 126)
    && not (byte == 60) && not (byte == 62) && not (byte == 34)
    && (not (byte == 38) || list_any (λ name. bytes_eq name (take (length name) rest)) names)

-- a text that can't be taken for anything else where it stands in a picture
abbrev pub is_escaped : List ℕ → Bool
is_escaped [] = true
is_escaped (byte ∷ rest) = may_stand byte rest && is_escaped rest
