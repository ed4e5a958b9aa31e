-- Members that are opened one by one.
use Rattle.std.proofs.Common.{◌≡◌, ℕ, ◌+◌, ◌*◌, ◌<◌, ◌≤◌, List, [], ◌∷◌, ◌++◌, map, length, Err, refl, zero, suc, ap}
use Rattle.std.proofs.Common.{sym, subst, ◌∙◌, arith, add-one}
use Rattle.std.proofs.Math.Nat.{suc-mul}
use Rattle.std.proofs.lemmas.List.{map-append}
use Rattle.std.proofs.lemmas.List.FromFn.{map-range_with_len_more}
use Rattle.std.proofs.lemmas.Nat.{mul-le}
use Rattle.std.specs.List.{range_with_len}
use Rattle.msg_core.specs.declared.packet.View.{View}
use Rattle.stack_mean.specs.Acceptance.{rows_of, most_rows}
use Rattle.run_mean.specs.Member.{opened_member}
use Rattle.msg_core.specs.View.{first_view}
use Rattle.live_layer.specs.Making.{Making}
use Rattle.group_member.specs.Opening.{IsOpen, Opens, mode_in, plans_in, rows_in, stack_in}
use Rattle.group_member.specs.Placed.{Placed}
use Rattle.group_member.specs.declared.error.OpenError.{OpenError}
use Rattle.group_member.specs.declared.error.OpenError.TheVariants.{TooLarge, Memory}
use Rattle.group_member.specs.declared.opening.Opening.{Opening}
use Rattle.group_world.proofs.FirstView.{count_of_first}
use Rattle.group_world.specs.Opening.{AreOpen, IsNotOpen}
use Rattle.group_world.specs.Seats.{member_of, seat_of, seat}

-- one more, where each is told by its number
told_next : {X Y : Type 0} (f : X → Y) (g : ℕ → Y) (xs ys : List X) (x : X) (n : ℕ) →
    map f xs ≡ map g (range_with_len 0 n) →
    f x ≡ g n → ys ≡ xs ++ x ∷ [] → map f ys ≡ map g (range_with_len 0 (n + 1))
told_next f g xs ys x n before is more =
    ap (map f) more ∙ map-append f xs (x ∷ []) ∙ ap (λ zs. zs ++ f x ∷ []) before ∙
    ap (λ y. map g (range_with_len 0 n) ++ y ∷ []) is ∙
    sym (map-range_with_len_more g 0 n n (omega arith))

-- n + 1 times l
times_next : (n l : ℕ) → (n + 1) * l ≡ n * l + l
times_next n l = ap (λ k. k * l) (add-one n) ∙ suc-mul n l

times_within : (k n l : ℕ) → k < n → k * l + l ≤ n * l
times_within k n l lt =
    let le : k + 1 ≤ n = omega arith in
    subst (λ m. m ≤ n * l) (times_next k l) (mul-le (k + 1) l n l le (omega arith))

pub times_few : (k l : ℕ) → k ≤ 32 → l ≤ 24 → k * l ≤ 768
times_few k l few less = mul-le k l 32 24 few less

-- the members below an id are open
pub record AreBelow (o : Opening) (n id : ℕ) (before now : Making) (members : List Placed) : Type 0 where
  pub opened_are : map member_of members ≡ map (opened_member (stack_in o) (first_view n)) (range_with_len 0 id)
  pub seated : map seat_of members ≡ map (seat (mode_in o) (stack_in o) (plans_in o) o.group o.stamp)
      (range_with_len 0 id)
  pub few : 0 < id → rows_of (stack_in o) n ≤ most_rows
  pub same : now.stack ≡ before.stack
  pub made : now.made ≡ before.made + id * length (stack_in o)

same_making : (a b : Making) → a.stack ≡ b.stack → a.made ≡ b.made → a ≡ b
same_making a b stack made i = record { stack = stack i; made = made i }

module _ (o : Opening) (n id : ℕ) (view : View) (before now new : Making) (members : List Placed) where
  rows_are : view ≡ first_view n → n ≤ 32 → rows_in o view ≡ rows_of (stack_in o) n
  rows_are first most = ap (λ v. rows_in o v) first ∙ ap (rows_of (stack_in o)) (count_of_first n most)

  -- the next is opened
  pub open_next : (m : Placed) (more : List Placed) → AreBelow o n id before now members → view ≡ first_view n →
      n ≤ 32 →
      IsOpen o view id now new m → more ≡ members ++ m ∷ [] → AreBelow o n (id + 1) before new more
  open_next m more below first most is put = record {
    opened_are = told_next member_of (opened_member (stack_in o) (first_view n)) members more m id below.opened_are
        (is.member ∙ ap (λ v. opened_member (stack_in o) v id) first) put;
    seated = told_next seat_of (seat (mode_in o) (stack_in o) (plans_in o) o.group o.stamp) members more m id
        below.seated
        (λ i. record {
          mode = is.mode_is i;
          stack = is.stack_is i;
          plans = is.plans_are i;
          group =
              is.group_is i;
          stamp = is.stamp_is i;
          id = is.id_is i;
        }) put;
    few = λ _. subst (λ r. r ≤ most_rows) (rows_are first most) is.few;
    same = is.same ∙ below.same;
    made = let next = times_next id (length (stack_in o)) in let one = is.made in let all = below.made in
        omega (arith, next, one, all);
  }

  -- no member is open yet where members may keep too many rows
  first_one : AreBelow o n id before now members → most_rows < rows_of (stack_in o) n → id ≡ 0
  first_one below large = go id below.few where
    go : (k : ℕ) → (0 < k → rows_of (stack_in o) n ≤ most_rows) → k ≡ 0
    go zero few = refl
    go (suc k) few = let le = few (omega arith) in absurd (omega arith)

  -- the next isn't opened
  pub open_fails : (e : OpenError) → AreBelow o n id before now members → id < n → view ≡ first_view n → n ≤ 32 →
      Opens o view id now new (Err e) → IsNotOpen o n before new e
  open_fails TooLarge below lt first most is =
      let large : most_rows < rows_of (stack_in o) n = subst (λ r. most_rows < r) (rows_are first most) is.0 in
      let none : id ≡ 0 = first_one below large in
      let made : now.made ≡ before.made = below.made ∙ ap (λ k. before.made + k * length (stack_in o)) none ∙
      omega arith in
      (large, is.1 ∙ same_making now before below.same made)
  open_fails Memory below lt first most is = record {
    same = is.same ∙ below.same;
    made = let within = times_within id n (length (stack_in o)) lt in let one = is.made in let all = below.made in
        omega (arith, within, one, all);
  }

-- all of them are open
pub all_open : (o : Opening) (n id : ℕ) (before now : Making) (members : List Placed) →
    AreBelow o n id before now members → id ≡ n → 1 ≤ n →
    AreOpen o n before now members
all_open o n id before now members below last least =
    let all = subst (λ k. AreBelow o n k before now members) last below in
    record { opened_are = all.opened_are; seated = all.seated; few = all.few least; same = all.same; made = all.made }
