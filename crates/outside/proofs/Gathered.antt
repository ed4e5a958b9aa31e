-- What a sink holds for its stream, as the stream takes it.
use Rattle.std.proofs.Common.{◌≡◌, ℕ, ◌+◌, ◌-◌, List, [], ◌++◌, length, take, drop, Option, None, Some, sym, ◌∙◌, ap}
use Rattle.std.proofs.Common.{append_assoc, arith, length-drop}
use Rattle.std.proofs.lemmas.List.{append-nil, drop-drop, take_all, take-append-drop}
use Rattle.std.specs.Io.KnownBytes.{Appends, Keeps}
use Rattle.outside.specs.StdSink.{gathered_bytes}

-- all of what is left
pub take_rest : (k : ℕ) (bytes : List ℕ) → take (length bytes - k) (drop k bytes) ≡ drop k bytes
take_rest k bytes = take_all (length bytes - k) (drop k bytes) (omega (arith, length-drop k bytes))

-- the stream took n of the bytes that were held
pub gathered_moved : (a b : Option (List ℕ)) (done n : ℕ) (held : List ℕ) → Appends a b (take n (drop done held)) →
    Keeps (gathered_bytes a done held) (gathered_bytes b (done + n) held)
gathered_moved None b done n held moved = tt
gathered_moved (Some xs) None done n held moved = absurd moved
gathered_moved (Some xs) (Some ys) done n held moved =
    ap (λ l. l ++ drop (done + n) held) moved ∙ append_assoc xs (take n (drop done held)) (drop (done + n) held)
    ∙ ap (λ l. xs ++ (take n (drop done held) ++ l)) (sym (drop-drop n done held)) ∙
    ap (λ l. xs ++ l) (take-append-drop n (drop done held))

-- while nothing is held, what the stream gets is gathered
pub gathered_past : (o a b : Option (List ℕ)) (done : ℕ) (held bytes : List ℕ) → Keeps o (gathered_bytes a done held) →
    held ≡ [] → done ≡ 0 → Appends a b bytes → Appends o (gathered_bytes b done held) bytes
gathered_past None a b done held bytes kept none start more = tt
gathered_past (Some os) None b done held bytes kept none start more = absurd kept
gathered_past (Some os) (Some xs) None done held bytes kept none start more = absurd more
gathered_past (Some os) (Some xs) (Some ys) done held bytes kept none start more =
    rw (none, start) (append-nil ys ∙ more ∙ ap (λ l. l ++ bytes) (sym (append-nil xs) ∙ rw (none, start) at kept))

-- while nothing is held, the stream has all that is gathered
pub gathered_none : (o a : Option (List ℕ)) (done : ℕ) (held : List ℕ) → Keeps o (gathered_bytes a done held) →
    held ≡ [] →
    done ≡ 0 → Keeps o a
gathered_none None a done held kept none start = tt
gathered_none (Some os) None done held kept none start = absurd kept
gathered_none (Some os) (Some xs) done held kept none start = sym (append-nil xs) ∙ rw (none, start) at kept

-- a stream for which nothing is held yet
pub gathered_first : (a : Option (List ℕ)) (held : List ℕ) → held ≡ [] → Keeps a (gathered_bytes a 0 held)
gathered_first None held none = tt
gathered_first (Some xs) held none = rw none (append-nil xs)
