-- Ranges of bytes, with more bytes after.
use Rattle.std.proofs.Common.{◌≡◌, ℕ, ◌+◌, ◌<◌, ◌≤◌, List, [], ◌∷◌, ◌++◌, Option, None, refl, sym, ap, ◌∙◌, subst}
use Rattle.std.proofs.Common.{arith, length, length-append, length-drop, map, take, drop}
use Rattle.std.specs.List.{AllByRecursion}
use Rattle.std.proofs.lemmas.List.{take-append-le, drop-append-le, map-append}
use Rattle.slot_pool.specs.Held.{range}
use Rattle.msg_core.specs.Parts.{longest_body}
use Rattle.layer_words.specs.declared.events.Dir.{Dir}
use Rattle.layer_mean.specs.declared.run.Event.{Event}
use Rattle.packet_mean.specs.declared.here.Here.{Here}
use Rattle.run_mean.specs.Member as member
use Rattle.step_outputs.specs.Kept.{bytes_in, LiesWithin, output_in, output_with, AreKept, IsFor}
use Rattle.step_outputs.specs.declared.kept.Kept.{Kept}
use Rattle.step_outputs.specs.declared.kept.Span.{Span}

-- a range within bytes is the same with more after
pub range_stays : (from len : ℕ) (bytes more : List ℕ) → from + len ≤ length bytes → range from len (bytes ++ more) ≡
    range from len bytes
range_stays from len bytes more within =
    let rest = length-drop from bytes in
    ap (take len) (drop-append-le from bytes more (omega arith)) ∙
    take-append-le len (drop from bytes) more (omega arith)

within_stays : (bytes more : List ℕ) (span : Span) → LiesWithin bytes span → LiesWithin (bytes ++ more) span
within_stays bytes more span within = let both = length-append bytes more in omega arith

-- outputs are the same with more bytes after
outputs_stay : (here : Here) (bytes more : List ℕ) (list : List Kept) →
    AllByRecursion (λ k. LiesWithin bytes k.body) list →
    map (output_in here (bytes ++ more)) list ≡ map (output_in here bytes) list
outputs_stay here bytes more [] lie = refl
outputs_stay here bytes more (k ∷ list) lie = λ i.
    output_with here k.what k.headers (range_stays k.body.from k.body.len bytes more lie.0 i) ∷
    outputs_stay here bytes more list lie.1 i

-- one more output, with its bytes
pub with_one_more : (here : Here) (bytes more : List ℕ) (list : List Kept) (k : Kept) (o : member.Output × Option ℕ) →
    AllByRecursion (λ k. LiesWithin bytes k.body) list → output_in here (bytes ++ more) k ≡ o →
    map (output_in here (bytes ++ more)) (list ++ k ∷ []) ≡ map (output_in here bytes) list ++ o ∷ []
with_one_more here bytes more list k o lie is =
    map-append (output_in here (bytes ++ more)) list (k ∷ []) ∙
    (λ i. outputs_stay here bytes more list lie i ++ is i ∷ [])

all_lie : (bytes more : List ℕ) (list : List Kept) (k : Kept) → AllByRecursion (λ k. LiesWithin bytes k.body) list →
    LiesWithin (bytes ++ more) k.body → AllByRecursion (λ k. LiesWithin (bytes ++ more) k.body) (list ++ k ∷ [])
all_lie bytes more [] k lie within = (within, tt)
all_lie bytes more (x ∷ list) k lie within =
    (within_stays bytes more x.body lie.0, all_lie bytes more list k lie.1 within)

pub still_kept : (places room bodies bodies_after : ℕ) (bytes more : List ℕ) (list : List Kept) (k : Kept) →
    AreKept places room bodies bytes list → length list < places → bodies ≤ bodies_after → length more ≤ longest_body →
    LiesWithin (bytes ++ more) k.body → AreKept places room bodies_after (bytes ++ more) (list ++ k ∷ [])
still_kept places room bodies bodies_after bytes more list k kept free rises short within =
    let bytes_both = length-append bytes more in
    let list_both = length-append list (k ∷ []) in record {
      outputs = kept.outputs;
      held = omega (arith, free);
      bodies = omega (arith, kept.bodies);
      few = omega (arith, kept.few);
      lie = all_lie bytes more list k kept.lie within;
    }

-- a list of one more, with the bytes of all
pub put_keeps : (places room bodies room_after bodies_after : ℕ) (bytes more bytes_after : List ℕ)
    (list list_after : List Kept) (k : Kept)
    (span : Span) → AreKept places room bodies bytes list → length list < places → bytes_after ≡ bytes ++ more →
    list_after ≡ list ++ k ∷ [] →
    room_after ≡ room → bodies ≤ bodies_after → length more ≤ longest_body → k.body ≡ span →
    LiesWithin bytes_after span →
    AreKept places room_after bodies_after bytes_after list_after
put_keeps places room bodies room_after bodies_after bytes more bytes_after list list_after k s kept free bytes_is
    list_is room_is rises few at there =
    rw (bytes_is, list_is, room_is) (still_kept places room bodies bodies_after bytes more list k kept free rises few
    (subst (λ bs. LiesWithin bs k.body) bytes_is (subst (λ x. LiesWithin bytes_after x) (sym at) there)))

pub put_tells : (here : Here) (bytes more bytes_after : List ℕ) (list list_after : List Kept) (k : Kept)
    (o : member.Output × Option ℕ) →
    AllByRecursion (λ k. LiesWithin bytes k.body) list → bytes_after ≡ bytes ++ more → list_after ≡ list ++ k ∷ [] →
    output_in here bytes_after k ≡ o → map (output_in here bytes_after) list_after ≡
    map (output_in here bytes) list ++ o ∷ []
put_tells here bytes more bytes_after list list_after k o lie bytes_is list_is is =
    rw (bytes_is, list_is)
    (with_one_more here bytes more list k o lie (subst (λ bs. output_in here bs k ≡ o) bytes_is is))

-- what is kept of an event is its output
pub kept_tells : (here : Here) (dir : Dir) (e : Event) (bytes body : List ℕ) (k : Kept) (span : Span) →
    IsFor here dir e k.what →
    k.headers ≡ (member.content e).headers → k.body ≡ span → bytes_in bytes span ≡ body →
    body ≡ (member.content e).body →
    output_in here bytes k ≡ (member.output_of here (dir, e), None)
kept_tells here dir e bytes body k span what headers at shown is =
    (λ i. output_with here k.what (headers i) ((ap (bytes_in bytes) at ∙ shown ∙ is) i)) ∙ what
