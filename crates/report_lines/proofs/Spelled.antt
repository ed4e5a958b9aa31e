-- Digits of bytes.
use Rattle.std.proofs.Common.{◌≡◌, ℕ, List, [], refl, ap, sym, ◌∙◌}
use Rattle.hex.specs.Hex.{encode_lower, encode_with}

none_spelled : encode_lower [] ≡ []
unfolding encode_with
none_spelled = refl

-- no bytes have no digits
pub no_digits : (digits bytes : List ℕ) → digits ≡ [] → bytes ≡ [] → digits ≡ encode_lower bytes
no_digits digits bytes none no_bytes = none ∙ sym none_spelled ∙ sym (ap encode_lower no_bytes)
