-- What a caller knows of a sink's contents after a series of puts.
use Rattle.std.proofs.Common.{ℕ, ◌+◌, List, [], ◌++◌, length, min, take, drop, Option, None, Some, Result, Ok, Err, sym}
use Rattle.std.proofs.Common.{◌∙◌, ap, append_assoc}
use Rattle.std.proofs.Math.Seq.{take-append-add, take-append_seam, take-add, take-length}
use Rattle.std.proofs.Math.Nat.{min-le_right}
use Rattle.std.proofs.lemmas.List.{append-nil, take-append-le, take_min}
use Rattle.std.specs.Io.KnownBytes.{Appends, Keeps}
use Rattle.outside.specs.Sink.{AppendsPrefix, Puts}
use Rattle.outside.specs.declared.sink.SinkError.{SinkError}
use Rattle.outside.specs.declared.sink.SinkError.TheVariants.{Failed, Memory}

-- nothing was appended yet
pub appends_none : (a : Option (List ℕ)) → Appends a a []
appends_none None = tt
appends_none (Some xs) = sym (append-nil xs)

-- puts one after another
pub appends_then : (a b c : Option (List ℕ)) (xs ys : List ℕ) → Appends a b xs → Appends b c ys → Appends a c (xs ++ ys)
appends_then None b c xs ys first second = tt
appends_then (Some as_) None c xs ys first second = absurd first
appends_then (Some as_) (Some bs) None xs ys first second = absurd second
appends_then (Some as_) (Some bs) (Some cs) xs ys first second = second ∙ ap (λ l. l ++ ys) first ∙
    append_assoc as_ xs ys

-- a prefix after puts
pub appends_then_prefix : (a b c : Option (List ℕ)) (xs ys : List ℕ) → Appends a b xs → AppendsPrefix b c ys →
    AppendsPrefix a c (xs ++ ys)
appends_then_prefix a b c xs ys first (n, second) =
    (length xs + n, rw (take-append-add xs ys n) (appends_then a b c xs (take n ys) first second))

-- what was appended is a prefix of what was to be appended in all
pub appends_as_prefix : (a b : Option (List ℕ)) (xs ys : List ℕ) → Appends a b xs → AppendsPrefix a b (xs ++ ys)
appends_as_prefix a b xs ys appended = (length xs, rw (take-append_seam xs ys) appended)

-- a prefix of a part is a prefix of all
pub prefix_longer : (a b : Option (List ℕ)) (xs ys : List ℕ) → AppendsPrefix a b xs → AppendsPrefix a b (xs ++ ys)
prefix_longer a b xs ys (n, appended) = (
  min n (length xs),
  rw (take-append-le (min n (length xs)) xs ys (min-le_right n (length xs)), take_min n xs)
      appended,
)

-- one more piece of some bytes
pub appends_piece : (a b c : Option (List ℕ)) (bytes : List ℕ) (k n : ℕ) → Appends a b (take k bytes) →
    Appends b c (take n (drop k bytes)) → Appends a c (take (k + n) bytes)
appends_piece a b c bytes k n first second =
    rw (take-add k n bytes) (appends_then a b c (take k bytes) (take n (drop k bytes)) first second)

-- a call that appends nothing
pub appends_keeps : (a b c : Option (List ℕ)) (xs : List ℕ) → Appends a b xs → Keeps b c → Appends a c xs
appends_keeps None b c xs appended kept = tt
appends_keeps (Some as_) None c xs appended kept = absurd appended
appends_keeps (Some as_) (Some bs) None xs appended kept = absurd kept
appends_keeps (Some as_) (Some bs) (Some cs) xs appended kept = kept ∙ appended

-- whatever a put answers, a prefix of its bytes was appended
pub puts_prefix : {T : Type 0} (failures : Option (List (Option ℕ))) (a b : Option (List ℕ)) (bytes : List ℕ)
    (result : Result T SinkError) → Puts failures a b bytes result → AppendsPrefix a b bytes
puts_prefix failures a b bytes (Ok done) put = (length bytes, rw (take-length bytes) put.0)
puts_prefix failures a b bytes (Err Failed) put = (put.0, put.1)
puts_prefix failures a b bytes (Err Memory) put = (put.0, put.1)

-- nothing is a prefix of anything
pub prefix_none : (a : Option (List ℕ)) (ys : List ℕ) → AppendsPrefix a a ys
prefix_none a ys = (0, appends_none a)
