-- Messages as they are sent.
use Rattle.std.proofs.Common.{◌≡◌, suc, ◌-◌, ◌<◌, ◌==◌, Bool, false, List, [], ◌∷◌, Option, Some, None, option_map}
use Rattle.std.proofs.Common.{slice_get, take, length, refl, sym, ap, subst, ◌∙◌, arith}
use Rattle.circular_buffer.specs.Buffer.{last_item}
use Rattle.msg_core.specs.declared.message.Header.{Header}
use Rattle.slot_pool.specs.Held.{Held}
use Rattle.layer_words.specs.declared.events.Dir.{Dir}
use Rattle.layer_words.specs.declared.events.Dir.TheVariants.{Up, Down}
use Rattle.layer_mean.specs.Effect.{sent_as}
use Rattle.pool_message.specs.Moves.{Derived}
use Rattle.pool_message.specs.Piled.{without_last, with_header_last}
use Rattle.pool_message.specs.Seen.{refs_if, seen_if, LiesIf}
use Rattle.pool_message.specs.Sent.{sent_after, CanPass}
use Rattle.pool_message.specs.declared.message.PoolMessage.{PoolMessage}
use Rattle.live_layer.specs.Fits.{IsShort}
use Rattle.live_layer.specs.Sent.{last_after, TakesLast}

pub is_derived : (dir : Dir) (header : Header) (m : PoolMessage) →
    Derived (sent_as dir header) m (sent_after dir header m)
is_derived Up header m = record { slots = refl; lies = λ p lies. lies; shows = λ p. refl }
is_derived Down header m = record { slots = refl; lies = λ p lies. lies; shows = λ p. refl }

-- a message with no more headers than there are places above a layer has room for one more
pub can_pass : (dir : Dir) (m : PoolMessage) → IsShort m → CanPass dir (Some m)
can_pass Up m short = tt
can_pass Down m short = omega (arith, short)

-- it refers to the same, lies where the other lies, and shows what is sent, if it is there
pub same_refs : (dir : Dir) (header : Header) (m : Option PoolMessage) →
    refs_if (option_map (sent_after dir header) m) ≡ refs_if m
same_refs Up header None = refl
same_refs Up header (Some m) = refl
same_refs Down header None = refl
same_refs Down header (Some m) = refl

pub still_lies : (p : List Held) (dir : Dir) (header : Header) (m : Option PoolMessage) → LiesIf p m →
    LiesIf p (option_map (sent_after dir header) m)
still_lies p Up header None lies = tt
still_lies p Up header (Some m) lies = lies
still_lies p Down header None lies = tt
still_lies p Down header (Some m) lies = lies

pub shows_sent : (p : List Held) (dir : Dir) (header : Header) (m : Option PoolMessage) →
    seen_if p (option_map (sent_after dir header) m) ≡ option_map (sent_as dir header) (seen_if p m)
shows_sent p Up header None = refl
shows_sent p Up header (Some m) = refl
shows_sent p Down header None = refl
shows_sent p Down header (Some m) = refl

-- the last one is taken out, once it is as it is sent
after_one : (f : PoolMessage → PoolMessage) (x : PoolMessage) (xs zs : List PoolMessage) (o : Option PoolMessage) →
    TakesLast f xs zs o → TakesLast f (x ∷ xs) (x ∷ zs) o
after_one f x xs zs None taken = absurd taken
after_one f x xs zs (Some y) taken =
    record { last = taken.last; before = ap (λ ys. x ∷ ys) taken.before; made = taken.made }

one_more : (f : PoolMessage → PoolMessage) (x : PoolMessage) (xs ys : List PoolMessage) → 0 < length ys →
    TakesLast f xs (without_last ys) (last_item ys) →
    TakesLast f (x ∷ xs) (without_last (x ∷ ys)) (last_item (x ∷ ys))
one_more f x xs [] some taken = absurd (omega (arith, some))
one_more f x xs (y ∷ ys) some taken =
    let long : suc (length (y ∷ ys) - 1) ≡ length (x ∷ y ∷ ys) - 1 = omega arith in
    subst (λ n. TakesLast f (x ∷ xs) (take n (x ∷ y ∷ ys)) (slice_get (x ∷ y ∷ ys) n)) long
    (after_one f x xs (without_last (y ∷ ys)) (last_item (y ∷ ys)) taken)

some_headed : (header : Header) (x : PoolMessage) (xs : List PoolMessage) →
    0 < length (with_header_last header (x ∷ xs))
some_headed header x [] = omega arith
some_headed header x (y ∷ xs) = omega arith

last_taken : (dir : Dir) (header : Header) (xs : List PoolMessage) → 0 < length xs →
    TakesLast (sent_after dir header) xs (without_last (last_after dir header xs))
    (last_item (last_after dir header xs))
last_taken dir header [] some = absurd (omega (arith, some))
last_taken Up header (x ∷ []) some = record { last = x; before = refl; made = refl }
last_taken Down header (x ∷ []) some = record { last = x; before = refl; made = refl }
last_taken Up header (x ∷ y ∷ xs) some = one_more (sent_after Up header) x (y ∷ xs) (y ∷ xs) (omega arith)
    (last_taken Up header (y ∷ xs) (omega arith))
last_taken Down header (x ∷ y ∷ xs) some =
    one_more (sent_after Down header) x (y ∷ xs) (with_header_last header (y ∷ xs)) (some_headed header y xs)
    (last_taken Down header (y ∷ xs) (omega arith))

-- from a hand that isn't empty the last one is taken, as it is sent
some_there : (xs : List PoolMessage) → (length xs == 0) ≡ false → 0 < length xs
some_there [] some = absurd (cc)
some_there (x ∷ xs) some = omega arith

pub taken_off : (dir : Dir) (header : Header) (xs ms zs : List PoolMessage) (empty : Bool) → empty ≡ (length xs == 0) →
    empty ≡ false →
    ms ≡ last_after dir header xs → zs ≡ without_last ms → TakesLast (sent_after dir header) xs zs (last_item ms)
taken_off dir header xs ms zs empty is some following off =
    subst (λ zs. TakesLast (sent_after dir header) xs zs (last_item ms)) (sym off)
    (subst (λ ms. TakesLast (sent_after dir header) xs (without_last ms) (last_item ms)) (sym following)
    (last_taken dir header xs (some_there xs (sym is ∙ some))))
