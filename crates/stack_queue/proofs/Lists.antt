-- Tasks whose events stand in one list, and their places in another.
use Rattle.std.proofs.Common.{◌≡◌, ℕ, suc, ◌≤◌, List, [], ◌∷◌, ◌++◌, drop, length, Option, Some, None, IfSome, IfNone}
use Rattle.std.proofs.Common.{get_or, slice_get, option_map, refl, sym, ap, subst, ◌∙◌, arith}
use Rattle.std.proofs.lemmas.List.{length-append, length-map}
use Rattle.circular_buffer.specs.Buffer.{Buffer, buffer}
use Rattle.slot_pool.specs.Held.{Held}
use Rattle.layer_words.specs.declared.events.Dir.{Dir}
use Rattle.layer_mean.specs.declared.run.Event.{Event}
use Rattle.layer_mean.specs.Queue.{beyond, tasks_of}
use Rattle.pool_message.specs.Seen.{event_refs, event_seen}
use Rattle.pool_message.specs.Sent.{sent_refs, sent_seen, SentLie, first_sent}
use Rattle.pool_message.specs.declared.event.PoolEvent.{PoolEvent}
use Rattle.stack_queue.specs.declared.tasks.PoolTask.{PoolTask}
use Rattle.stack_queue.specs.Pending.{first_task, tasks_seen, tasks_refs, TasksLie, tasks_at, places_on}

pub as_many : (places : List ℕ) (xs : List (Dir × PoolEvent)) → length places ≡ length xs →
    length (tasks_at places xs) ≡ length xs
as_many [] [] same = refl
as_many [] (x ∷ xs) same = absurd (omega (arith, same))
as_many (at ∷ places) [] same = absurd (omega (arith, same))
as_many (at ∷ places) (x ∷ xs) same = ap suc (as_many places xs (omega (arith, same)))

-- one more task
pub pushed : (places : List ℕ) (xs : List (Dir × PoolEvent)) (at : ℕ) (dir : Dir) (event : PoolEvent) →
    length places ≡ length xs →
    tasks_at (places ++ at ∷ []) (xs ++ (dir, event) ∷ []) ≡ tasks_at places xs ++
    record { at = at; direction = dir; event = event } ∷ []
pushed [] [] at dir event same = refl
pushed [] (x ∷ xs) at dir event same = absurd (omega (arith, same))
pushed (at' ∷ places) [] at dir event same = absurd (omega (arith, same))
pushed (at' ∷ places) (x ∷ xs) at dir event same =
    ap (λ ts. record { at = at'; direction = x.0; event = x.1 } ∷ ts)
    (pushed places xs at dir event (omega (arith, same)))

-- The only place becomes another one.
pub only_place : (places : List ℕ) (at : ℕ) → length places ≡ 1 → at ∷ drop 1 places ≡ at ∷ []
only_place [] at one = absurd (omega (arith, one))
only_place (to ∷ []) at one = refl
only_place (to ∷ next ∷ places) at one = absurd (omega (arith, one))

pub none_left : (places : List ℕ) (xs : List (Dir × PoolEvent)) → length places ≡ length xs → tasks_at places xs ≡ [] →
    (places ≡ []) × (xs ≡ [])
none_left [] [] same none = (refl, refl)
none_left [] (x ∷ xs) same none = absurd (omega (arith, same))
none_left (at ∷ places) [] same none = absurd (omega (arith, same))
none_left (at ∷ places) (x ∷ xs) same none = absurd (cc none)

-- the first one
pub no_first : (places : List ℕ) (xs : List (Dir × PoolEvent)) (tasks : List PoolTask) (o : Option ℕ) →
    tasks_at places xs ≡ tasks →
    o ≡ slice_get places 0 → IfNone o (tasks ≡ [])
no_first [] xs tasks None view is = sym view
no_first (at ∷ places) xs tasks None view is = absurd (cc is)
no_first [] xs tasks (Some at) view is = tt
no_first (at' ∷ places) xs tasks (Some at) view is = tt

-- the first of some tasks, which stands there, has the others after it
abbrev pub IsFirst : List PoolTask → ℕ → Type 0
IsFirst ts at = (ts ≡ first_task ts ∷ drop 1 ts) × ((first_task ts).at ≡ at)

first_stands : (places : List ℕ) (xs : List (Dir × PoolEvent)) (o : Option ℕ) → length places ≡ length xs →
    o ≡ slice_get places 0 →
    IfSome o (IsFirst (tasks_at places xs))
first_stands [] xs None same is = tt
first_stands (at ∷ places) xs None same is = tt
first_stands [] xs (Some at) same is = absurd (cc is)
first_stands (at' ∷ places) [] (Some at) same is = absurd (omega (arith, same))
first_stands (at' ∷ places) (x ∷ xs) (Some at) same is = (refl, sym (cc is))

pub first_place : (places : List ℕ) (xs : List (Dir × PoolEvent)) (tasks : List PoolTask) (o : Option ℕ) →
    length places ≡ length xs →
    tasks_at places xs ≡ tasks → o ≡ slice_get places 0 → IfSome o (IsFirst tasks)
first_place places xs tasks o same view is = subst (λ ts. IfSome o (IsFirst ts)) view (first_stands places xs o same is)

first_goes : (places : List ℕ) (xs : List (Dir × PoolEvent)) → length places ≡ length xs →
    ((first_task (tasks_at places xs)).direction, (first_task (tasks_at places xs)).event) ≡ first_sent xs
first_goes [] [] same = refl
first_goes [] (x ∷ xs) same = absurd (omega (arith, same))
first_goes (at ∷ places) [] same = absurd (omega (arith, same))
first_goes (at ∷ places) (x ∷ xs) same = refl

pub first_event : (places : List ℕ) (xs : List (Dir × PoolEvent)) (tasks : List PoolTask) → length places ≡ length xs →
    tasks_at places xs ≡ tasks →
    ((first_task tasks).direction, (first_task tasks).event) ≡ first_sent xs
first_event places xs tasks same view =
    subst (λ ts. ((first_task ts).direction, (first_task ts).event) ≡ first_sent xs) view (first_goes places xs same)

-- and those after it
rest_goes : (places : List ℕ) (xs : List (Dir × PoolEvent)) → length places ≡ length xs →
    tasks_at (drop 1 places) (drop 1 xs) ≡ drop 1 (tasks_at places xs)
rest_goes [] xs same = refl
rest_goes (at ∷ places) [] same = absurd (omega (arith, same))
rest_goes (at ∷ places) (x ∷ xs) same = refl

pub rest_at : (places : List ℕ) (xs : List (Dir × PoolEvent)) (tasks : List PoolTask) → length places ≡ length xs →
    tasks_at places xs ≡ tasks →
    tasks_at (drop 1 places) (drop 1 xs) ≡ drop 1 tasks
rest_at places xs tasks same view = rest_goes places xs same ∙ ap (drop 1) view

pub same_after : (places : List ℕ) (xs : List (Dir × PoolEvent)) → length places ≡ length xs →
    length (drop 1 places) ≡ length (drop 1 xs)
same_after [] [] same = refl
same_after [] (x ∷ xs) same = absurd (omega (arith, same))
same_after (at ∷ places) [] same = absurd (omega (arith, same))
same_after (at ∷ places) (x ∷ xs) same = omega (arith, same)

-- what they refer to, and that they lie
pub refs_at : (places : List ℕ) (xs : List (Dir × PoolEvent)) → length places ≡ length xs →
    tasks_refs (tasks_at places xs) ≡ sent_refs xs
refs_at [] [] same = refl
refs_at [] (x ∷ xs) same = absurd (omega (arith, same))
refs_at (at ∷ places) [] same = absurd (omega (arith, same))
refs_at (at ∷ places) (x ∷ xs) same = ap (λ rs. event_refs x.1 ++ rs) (refs_at places xs (omega (arith, same)))

pub lie_at : (p : List Held) (places : List ℕ) (xs : List (Dir × PoolEvent)) → SentLie p xs →
    TasksLie p (tasks_at places xs)
lie_at p [] xs lie = tt
lie_at p (at ∷ places) [] lie = tt
lie_at p (at ∷ places) (x ∷ xs) lie = (lie.0, lie_at p places xs lie.1)

pub events_lie : (p : List Held) (places : List ℕ) (xs : List (Dir × PoolEvent)) → length places ≡ length xs →
    TasksLie p (tasks_at places xs) →
    SentLie p xs
events_lie p [] [] same lie = tt
events_lie p [] (x ∷ xs) same lie = absurd (omega (arith, same))
events_lie p (at ∷ places) [] same lie = absurd (omega (arith, same))
events_lie p (at ∷ places) (x ∷ xs) same lie = (lie.0, events_lie p places xs (omega (arith, same)) lie.1)

-- what was sent from a place is seen as tasks after the others
sent_on : (q : List Held) (at : ℕ) (ys : List (Dir × PoolEvent)) → tasks_seen q (tasks_at (places_on at ys) ys) ≡
    tasks_of at (sent_seen q ys)
sent_on q at [] = refl
sent_on q at (y ∷ ys) = ap (λ ts. record { at = beyond y.0 at; dir = y.0; event = event_seen q y.1 } ∷ ts)
    (sent_on q at ys)

pub sent_after : (p q : List Held) (at : ℕ) (places : List ℕ) (xs ys : List (Dir × PoolEvent))
    (sent : List (Dir × Event)) →
    length places ≡ length xs → sent_seen q ys ≡ sent_seen p xs ++ sent →
    tasks_seen q (tasks_at (places ++ places_on at (drop (length places) ys)) ys) ≡ tasks_seen p (tasks_at places xs) ++
    tasks_of at sent
sent_after p q at [] [] ys sent same is = sent_on q at ys ∙ ap (tasks_of at) is
sent_after p q at [] (x ∷ xs) ys sent same is = absurd (omega (arith, same))
sent_after p q at (to ∷ places) [] ys sent same is = absurd (omega (arith, same))
sent_after p q at (to ∷ places) (x ∷ xs) [] sent same is = absurd (cc is)
sent_after p q at (to ∷ places) (x ∷ xs) (y ∷ ys) sent same is =
    let following = sent_after p q at places xs ys sent (omega (arith, same)) (ap (drop 1) is) in
    let first = ap (λ (es : List (Dir × Event)). get_or es 0 (x.0, event_seen p x.1)) is in
    λ k. record { at = to; dir = (first k).0; event = (first k).1 } ∷ following k

-- there are no fewer events after a visit
pub more_now : (p q : List Held) (xs ys : List (Dir × PoolEvent)) (sent : List (Dir × Event)) →
    sent_seen q ys ≡ sent_seen p xs ++ sent →
    length xs ≤ length ys
more_now p q xs ys sent is = omega (
  arith,
  ap length is,
  length-map {B = Dir × Event} ys (λ (e : Dir × PoolEvent). (e.0, event_seen q e.1)),
  length-map {B = Dir × Event} xs (λ (e : Dir × PoolEvent). (e.0, event_seen p e.1)),
  length-append (sent_seen p xs) sent,
)

-- and then each has a place again
pub placed_all : (at : ℕ) (places : List ℕ) (ys : List (Dir × PoolEvent)) → length places ≤ length ys →
    length (places ++ places_on at (drop (length places) ys)) ≡ length ys
placed_all at [] ys few = length-map ys (λ (x : Dir × PoolEvent). beyond x.0 at)
placed_all at (to ∷ places) [] few = absurd (omega (arith, few))
placed_all at (to ∷ places) (y ∷ ys) few = ap suc (placed_all at places ys (omega (arith, few)))

place_given : (at : ℕ) (places : List ℕ) (ys : List (Dir × PoolEvent)) (dir : Dir) →
    option_map (λ (x : Dir × PoolEvent). x.0) (slice_get ys (length places)) ≡ Some dir →
    (places ++ beyond dir at ∷ []) ++ places_on at (drop (length (places ++ beyond dir at ∷ [])) ys) ≡ places ++
    places_on at (drop (length places) ys)
place_given at [] [] dir is = absurd (cc is)
place_given at [] (y ∷ ys) dir is = let same : dir ≡ y.0 = cc is in ap (λ d. beyond d at ∷ places_on at ys) same
place_given at (to ∷ places) [] dir is = absurd (cc is)
place_given at (to ∷ places) (y ∷ ys) dir is = ap (λ ps. to ∷ ps) (place_given at places ys dir is)

-- the next one gets its place
pub goes_on : (at : ℕ) (places : List ℕ) (ys : List (Dir × PoolEvent)) (dir : Dir) (k to : ℕ) (now : List ℕ) →
    now ≡ places ++ to ∷ [] →
    to ≡ beyond dir at → option_map (λ (x : Dir × PoolEvent). x.0) (slice_get ys k) ≡ Some dir → length places ≡ k →
    now ++ places_on at (drop (length now) ys) ≡ places ++ places_on at (drop (length places) ys)
goes_on at places ys dir k to now is next there many =
    ap (λ ps. ps ++ places_on at (drop (length ps) ys)) (is ∙ ap (λ n. places ++ n ∷ []) next)
    ∙ place_given at places ys dir (ap (λ n. option_map (λ (x : Dir × PoolEvent). x.0) (slice_get ys n)) many ∙ there)

-- the only event goes on from the only place
pub alone_goes_on : (at : ℕ) (places : List ℕ) (ys : List (Dir × PoolEvent)) (dir : Dir) (to room : ℕ)
    (now : Buffer ℕ) → length places ≡ 1 → length ys ≡ 1 →
    to ≡ beyond dir at → dir ≡ (first_sent ys).0 → now ≡ buffer (to ∷ []) room →
    now ≡ buffer (drop 1 places ++ places_on at (drop (length (drop 1 places)) ys)) room
alone_goes_on at (p ∷ []) (y ∷ []) dir to room now one other next there is =
    is ∙ ap (λ n. buffer (n ∷ []) room) (next ∙ ap (λ d. beyond d at) there)
alone_goes_on at [] ys dir to room now one other next there is = absurd (omega (arith, one))
alone_goes_on at (p ∷ q ∷ places) ys dir to room now one other next there is = absurd (omega (arith, one))
alone_goes_on at (p ∷ []) [] dir to room now one other next there is = absurd (omega (arith, other))
alone_goes_on at (p ∷ []) (y ∷ z ∷ ys) dir to room now one other next there is = absurd (omega (arith, other))

-- the events that have no place yet get theirs after the places that are left once the first is gone
pub goes_after : (at : ℕ) (places : List ℕ) (ys : List (Dir × PoolEvent)) (room : ℕ) (left now : Buffer ℕ) →
    left ≡ buffer (drop 1 places) room →
    now ≡ buffer (left.items ++ places_on at (drop (length left.items) ys)) left.capacity →
    now ≡ buffer (drop 1 places ++ places_on at (drop (length (drop 1 places)) ys)) room
goes_after at places ys room left now is on =
    on ∙ ap (λ (b : Buffer ℕ). buffer (b.items ++ places_on at (drop (length b.items) ys)) b.capacity) is
