-- Outputs that take their numbers in order are those with plans.
use Rattle.std.proofs.Common.{◌≡◌, ℕ, suc, ◌+◌, ◌*◌, ◌<◌, ◌≤◌, Bool, true, false, if◌then◌else◌, List, [], ◌∷◌, ◌++◌}
use Rattle.std.proofs.Common.{Option, Some, None, map, length, take, drop, set, get_or, slice_get, refl, sym, ap, ◌∙◌}
use Rattle.std.proofs.Common.{subst, arith, add-one, nat_lt, option_map}
use Rattle.std.specs.List.{AllByRecursion}
use Rattle.std.proofs.Math.Seq.{drop-cons}
use Rattle.std.proofs.lemmas.Bool.{ltb-true, ltb-false}
use Rattle.std.proofs.lemmas.List.{append_assoc, append-nil, drop-set-lt, drop_all, length-take-le, take-append-le}
use Rattle.std.proofs.lemmas.List.{take_all, take_more_set}
use Rattle.std.proofs.lemmas.Option.{slice_get_past, slice_get-get_or}
use Rattle.msg_core.specs.Parts.{longest_body}
use Rattle.msg_core.specs.declared.message.Header.{Header}
use Rattle.packet_mean.specs.declared.here.Here.{Here}
use Rattle.run_mean.specs.Common.{is_planned, plan_for, plan_after, with_plans}
use Rattle.run_mean.specs.Member.{Output}
use Rattle.stack_mean.specs.Plan.{Plan}
use Rattle.step_outputs.specs.Kept.{number_following, number_below, numbered_outputs, output_in, output_with, under}
use Rattle.step_outputs.specs.Kept.{AreKept}
use Rattle.step_outputs.specs.Kept.{LiesWithin}
use Rattle.step_outputs.specs.declared.kept.Kept.{Kept}
use Rattle.step_outputs.specs.declared.kept.What.{What}
use Rattle.step_outputs.specs.declared.kept.What.TheVariants.{Cast, Send, Block, Announce, Timer, Packet, Nowhere}
use Rattle.step_outputs.specs.declared.kept.What.TheVariants.{Quiet}

-- a number from the count of plans on is that of none, so that all these numbers are the same
none_past : (plans : List Plan) (n : ℕ) (b : Bool) → length plans ≤ n →
    (if b then option_map (λ plan. n) (slice_get plans n) else None) ≡ None
none_past plans n true past = ap (option_map (λ plan. n)) (slice_get_past plans n past)
none_past plans n false past = refl

after_past : (plans : List Plan) (m n : ℕ) (outs : List Output) (b : Bool) → with_plans plans (Some (m + 1)) outs ≡
    with_plans plans (Some (n + 1)) outs →
    with_plans plans (Some m) outs ≡ with_plans plans (Some n) outs →
    with_plans plans (if b then Some (m + 1) else Some m) outs ≡ with_plans plans (if b then Some (n + 1) else Some n)
    outs
after_past plans m n outs true more same = more
after_past plans m n outs false more same = same

same_past : (plans : List Plan) (m n : ℕ) (outs : List Output) → length plans ≤ m → length plans ≤ n →
    with_plans plans (Some m) outs ≡ with_plans plans (Some n) outs
same_past plans m n [] past also = refl
same_past plans m n (o ∷ outs) past also =
    let front = none_past plans m (is_planned o) past ∙ sym (none_past plans n (is_planned o) also) in
    let rest = after_past plans m n outs (is_planned o)
    (same_past plans (m + 1) (n + 1) outs (omega (arith, past)) (omega (arith, also)))
    (same_past plans m n outs past also) in
    λ i. (o, front i) ∷ rest i

-- the plan of a number
below_is : (plans : List Plan) (n : ℕ) (b : Bool) → nat_lt n (length plans) ≡ b → (if b then Some n else None) ≡
    option_map (λ plan. n) (slice_get plans n)
below_is [] n true is = absurd (omega (arith, ltb-true n 0 is))
below_is (p ∷ plans) n true is =
    sym (ap (option_map (λ (plan : Plan). n)) (slice_get-get_or (p ∷ plans) n p (ltb-true n (length (p ∷ plans)) is)))
below_is plans n false is =
    sym (ap (option_map (λ (plan : Plan). n)) (slice_get_past plans n (ltb-false n (length plans) is)))

number_is : (plans : List Plan) (n : ℕ) → number_below (length plans) n ≡ option_map (λ plan. n) (slice_get plans n)
number_is plans n = below_is plans n (nat_lt n (length plans)) refl

-- an output with its number
one_numbered : (here : Here) (plans : List Plan) (n : ℕ) (what : What) (headers : List Header) (body : List ℕ) →
    output_with here (under (number_below (length plans) n) what) headers body
    ≡ ((output_with here what headers body).0, plan_for plans (Some n) (output_with here what headers body).0)
one_numbered here plans n (Cast peer) headers body = refl
one_numbered here plans n (Send peer) headers body = refl
one_numbered here plans n (Block a) headers body = refl
one_numbered here plans n (Announce ranks) headers body = refl
one_numbered here plans n (Timer moment) headers body = refl
one_numbered here plans n (Packet dest plan) headers body =
    ap (λ k. ((output_with here (Packet dest plan) headers body).0, k)) (number_is plans n)
one_numbered here plans n (Nowhere plan) headers body = ap (λ k. ((output_with here (Nowhere plan) headers body).0, k))
    (number_is plans n)
one_numbered here plans n (Quiet dir signal) headers body = refl

-- the numbers after it
more_past : (plans : List Plan) (n : ℕ) (outs : List Output) (b : Bool) → nat_lt n (length plans) ≡ b →
    with_plans plans (Some (if b then n + 1 else n)) outs ≡ with_plans plans (Some (n + 1)) outs
more_past plans n outs true is = refl
more_past plans n outs false is =
    let past = ltb-false n (length plans) is in same_past plans n (n + 1) outs past (omega (arith, past))

after_numbered : (here : Here) (plans : List Plan) (n : ℕ) (what : What) (headers : List Header) (body : List ℕ)
    (outs : List Output) →
    with_plans plans (Some (number_following (length plans) n what)) outs ≡
    with_plans plans (plan_after (Some n) (output_with here what headers body).0) outs
after_numbered here plans n (Cast peer) headers body outs = refl
after_numbered here plans n (Send peer) headers body outs = refl
after_numbered here plans n (Block a) headers body outs = refl
after_numbered here plans n (Announce ranks) headers body outs = refl
after_numbered here plans n (Timer moment) headers body outs = refl
after_numbered here plans n (Packet dest plan) headers body outs =
    more_past plans n outs (nat_lt n (length plans)) refl
after_numbered here plans n (Nowhere plan) headers body outs = more_past plans n outs (nat_lt n (length plans)) refl
after_numbered here plans n (Quiet dir signal) headers body outs = refl

-- outputs that took their numbers
numbered_tells : (here : Here) (bytes : List ℕ) (plans : List Plan) (n : ℕ) (list : List Kept) →
    map (output_in here bytes) (numbered_outputs (length plans) n list) ≡
    with_plans plans (Some n) (map (λ o. o.0) (map (output_in here bytes) list))
numbered_tells here bytes plans n [] = refl
numbered_tells here bytes plans n (k ∷ list) =
    let o = (output_in here bytes k).0 in
    let front = one_numbered here plans n k.what k.headers (take k.body.len (drop k.body.from bytes)) in
    let rest = numbered_tells here bytes plans (number_following (length plans) n k.what) list
    ∙ after_numbered here plans n k.what k.headers (take k.body.len (drop k.body.from bytes))
    (map (λ o. o.0) (map (output_in here bytes) list)) in
    λ i. front i ∷ rest i

only_outputs : (outs : List Output) → map (λ (o : Output × Option ℕ). o.0) (map (λ o. (o, None)) outs) ≡ outs
only_outputs [] = refl
only_outputs (o ∷ outs) = ap (λ more. o ∷ more) (only_outputs outs)

pub sent_short : (here : Here) (bytes : List ℕ) (plans : List Plan) (count n : ℕ) (list : List Kept)
    (all : List (Output × Option ℕ)) (outs : List Output) →
    map (output_in here bytes) list ≡ all → length plans ≡ count → all ≡ map (λ o. (o, None)) outs →
    map (output_in here bytes) (numbered_outputs count n list) ≡ with_plans plans (Some n) outs
sent_short here bytes plans count n list all outs shown many full =
    ap (λ c. map (output_in here bytes) (numbered_outputs c n list)) (sym many) ∙ numbered_tells here bytes plans n list
    ∙ ap (λ (xs : List (Output × Option ℕ)). with_plans plans (Some n) (map (λ o. o.0) xs)) (shown ∙ full) ∙
    ap (with_plans plans (Some n)) (only_outputs outs)

-- what is kept stays where it is
length-numbered : (count n : ℕ) (list : List Kept) → length (numbered_outputs count n list) ≡ length list
length-numbered count n [] = refl
length-numbered count n (k ∷ list) = ap suc (length-numbered count (number_following count n k.what) list)

numbered_lie : (bytes : List ℕ) (count n : ℕ) (list : List Kept) → AllByRecursion (λ k. LiesWithin bytes k.body) list →
    AllByRecursion (λ k. LiesWithin bytes k.body) (numbered_outputs count n list)
numbered_lie bytes count n [] lie = tt
numbered_lie bytes count n (k ∷ list) lie =
    (lie.0, numbered_lie bytes count (number_following count n k.what) list lie.1)

pub numbered_kept : (places room bodies : ℕ) (bytes : List ℕ) (count n : ℕ) (list new : List Kept) (room_after : ℕ) →
    AreKept places room bodies bytes list → new ≡ numbered_outputs count n list → room_after ≡ room →
    AreKept places room_after bodies bytes new
numbered_kept places room bodies bytes count n list new room_after kept is room_is =
    let same = ap length is ∙ length-numbered count n list in record {
      outputs = omega (arith, room_is, kept.outputs);
      held = omega (arith, same, kept.held);
      bodies = kept.bodies;
      few = subst (λ c. length bytes ≤ c * longest_body) (sym same) kept.few;
      lie = subst (AllByRecursion (λ (k : Kept). LiesWithin bytes k.body)) (sym is)
          (numbered_lie bytes count n list kept.lie);
    }

-- one more takes its number
pub number_more : (count i n : ℕ) (whole list : List Kept) (d new : Kept) (next : ℕ) → i < length list →
    whole ≡ take i list ++ numbered_outputs count n (drop i list) →
    new ≡ record (get_or list i d) { what = under (number_below count n) (get_or list i d).what } →
    next ≡ number_following count n (get_or list i d).what → whole ≡ take (i + 1) (set list i new) ++
    numbered_outputs count next (drop (i + 1) (set list i new))
number_more count i n whole list d new next within so is following =
    let k = get_or list i d in
    let left : drop i list ≡ k ∷ drop (i + 1) list = drop-cons list i d within ∙
    ap (λ m. k ∷ drop m list) (sym (add-one i)) in
    so ∙ ap (λ xs. take i list ++ numbered_outputs count n xs) left
    ∙ (λ t. take i list ++ sym is t ∷ numbered_outputs count (sym following t) (drop (i + 1) list))
    ∙ sym (append_assoc (take i list) (new ∷ []) (numbered_outputs count next (drop (i + 1) list)))
    ∙ sym (λ t. take_more_set list i new within t ++
    numbered_outputs count next (drop-set-lt (i + 1) list i new (omega arith) t))

pub all_numbered : (count n i : ℕ) (whole list : List Kept) → length list ≤ i →
    whole ≡ take i list ++ numbered_outputs count n (drop i list) → list ≡ whole
all_numbered count n i whole list past so =
    sym (so ∙ (λ t. take_all i list past t ++ numbered_outputs count n (drop_all i list past t)) ∙ append-nil list)

-- the first ones take their numbers, with others after them
pub front_numbered : (count n used : ℕ) (list new following : List Kept) → used ≤ length list →
    new ≡ numbered_outputs count n (take used list) →
    take used (new ++ following) ≡ numbered_outputs count n (take used list)
front_numbered count n used list new following within is =
    let size : length new ≡ used = ap length is ∙ length-numbered count n (take used list) ∙
    length-take-le used list within in
    take-append-le used new following (omega (arith, size)) ∙ take_all used new (omega (arith, size)) ∙ is
