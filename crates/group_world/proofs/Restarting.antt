-- Members that begin again one by one, and their group.
use Rattle.std.proofs.Common.{◌≡◌, ◌∙◌, ℕ, suc, ◌<◌, ◌≤◌, List, [], ◌∷◌, ◌++◌, map, set, get_or, take, drop, length}
use Rattle.std.proofs.Common.{refl, sym, ap, subst, arith, drop-cons, length-set}
use Rattle.std.proofs.lemmas.List.{map-append, drop-set-lt, length-map, take_all}
use Rattle.std.proofs.lemmas.Simd.{map-map}
use Rattle.std.proofs.Math.Seq.{map-set_same, take-suc, take-suc-set}
use Rattle.std.specs.List.{range_with_len}
use Rattle.msg_core.specs.declared.packet.View.{View}
use Rattle.layer_mean.specs.Tree.{LayerTree}
use Rattle.stack_mean.specs.Plan.{Plan}
use Rattle.run_mean.specs.Member.{Member, opened_member}
use Rattle.run_mean.specs.Mode.{Mode}
use Rattle.msg_core.specs.View.{first_view}
use Rattle.run_mean.specs.World.{first_world}
use Rattle.group_member.specs.Placed.{Placed, SamePlace}
use Rattle.group_member.specs.Restarting.{IsRestarted}
use Rattle.group_feed.specs.Standing.{Peopled, SpellPackets, Stands, Stays}
use Rattle.group_world.specs.Restarting.{opened_in, AreAgain}
use Rattle.group_world.specs.Seats.{Seat, member_of, seat_of, seat, AreSeated}
use Rattle.group_world.proofs.Stepped.{are_seated, kept}

-- The first k members have begun again; the others are as they were.
pub record AreAgainTo (view : View) (k : ℕ) (olds news : List Placed) : Type 0 where
  pub front : map member_of (take k news) ≡ map (opened_in view) (take k olds)
  pub following : drop k news ≡ drop k olds
  pub seats : map seat_of news ≡ map seat_of olds
  pub size : length news ≡ length olds

pub none_again : (view : View) (members : List Placed) → AreAgainTo view 0 members members
none_again view members = record { front = refl; following = refl; seats = refl; size = refl }

-- what a member keeps as it begins again is its seat
same_seat : (old new : Placed) → SamePlace old new → seat_of new ≡ seat_of old
same_seat old new place = λ i. record {
  mode = place.mode i;
  stack = place.stack i;
  plans = place.plans i;
  group = place.group i;
  stamp = place.stamp i;
  id = place.id i;
}

module _ (view : View) (k : ℕ) (olds news : List Placed) (p : Placed) (is : AreAgainTo view k olds news)
    (within : k < length olds)
    (read : p ≡ get_or news k p)
  where
    record Next : Type 0 where
      pub old : get_or olds k p ≡ p
      pub following : drop (suc k) news ≡ drop (suc k) olds

    next_is : Next
    next_is =
        let size = is.size in
        let new_front : drop k news ≡ get_or news k p ∷ drop (suc k) news = drop-cons news k p (omega arith) in
        let old_front : drop k olds ≡ get_or olds k p ∷ drop (suc k) olds = drop-cons olds k p within in
        let both : ◌≡◌ {A = List Placed} (get_or olds k p ∷ drop (suc k) olds) (p ∷ drop (suc k) news) =
        sym old_front ∙ sym is.following ∙ new_front ∙ ap (λ (y : Placed). y ∷ drop (suc k) news) (sym read) in record {
          old = cc;
          following = cc;
        }

    -- the next one begins again
    pub again_next : (p' : Placed) → IsRestarted view p p' → AreAgainTo view (suc k) olds (set news k p')
    again_next p' again =
        let next = next_is in let size = is.size in
        let olds_are : take (suc k) olds ≡ take k olds ++ p ∷ [] =
        take-suc olds k p within ∙ ap (λ (z : Placed). take k olds ++ z ∷ []) next.old in
        let news_are : take (suc k) (set news k p') ≡ take k news ++ p' ∷ [] =
        take-suc-set news k p' (omega arith) in record {
          front = ap (map member_of) news_are ∙ map-append member_of (take k news) (p' ∷ [])
              ∙ (λ i. is.front i ++ again.member i ∷ [])
              ∙ sym (map-append (opened_in view) (take k olds) (p ∷ []))
              ∙ ap (map (opened_in view)) (sym olds_are);
          following = drop-set-lt (suc k) news k p' (omega arith) ∙ next.following;
          seats = map-set_same seat_of news k p' p (same_seat p p' again.place ∙ ap seat_of read) ∙ is.seats;
          size = length-set news k p' ∙ is.size;
        }

    -- or it stays where it is
    pub seats_left : (p' : Placed) → p' ≡ p → map seat_of (set news k p') ≡ map seat_of olds
    seats_left p' same = map-set_same seat_of news k p' p (ap seat_of (same ∙ read)) ∙ is.seats

-- all of them have begun again
pub all_again : (view : View) (n k : ℕ) (olds news : List Placed) → AreAgainTo view k olds news → length olds ≤ k →
    view ≡ first_view n → n ≡ length olds →
    AreAgain (first_view (length olds)) olds news
all_again view n k olds news is past first same =
    let size = is.size in
    subst (λ (v : View). AreAgain v olds news) (first ∙ ap first_view same) (record {
      members = ap (map member_of) (sym (take_all k news (omega arith))) ∙ is.front ∙
          ap (map (opened_in view)) (take_all k olds past);
      seats = is.seats;
    })

module _ (mode : Mode) (stack : List LayerTree) (plans : List Plan) (group stamp : ℕ) (olds news : List Placed) where
  -- they sit as they sat
  pub seated_again : AreSeated mode stack plans group stamp olds → map seat_of news ≡ map seat_of olds →
      AreSeated mode stack plans group stamp news
  seated_again seated same = are_seated mode stack plans group stamp (length olds) news (same ∙ seated)

  -- what is opened in a seat
  abbrev opened_seat : View → Seat → Member
  opened_seat view s = opened_member s.stack view s.id

  opened_seated : (view : View) → AreSeated mode stack plans group stamp olds →
      map (opened_in view) olds ≡ map (opened_member stack view) (range_with_len 0 (length olds))
  opened_seated view seated =
      sym (map-map (opened_seat view) seat_of olds) ∙ ap (map (opened_seat view)) seated ∙
      map-map (opened_seat view) (seat mode stack plans group stamp) (range_with_len 0 (length olds))

  pub count_again : map seat_of news ≡ map seat_of olds → length (map member_of news) ≡ length (map member_of olds)
  count_again same =
      length-map news member_of ∙ sym (length-map news seat_of) ∙ ap length same ∙ length-map olds seat_of ∙
      sym (length-map olds member_of)

  -- the group stands where it began
  pub stands_again : (c : Peopled) (before spelled : List (List ℕ)) →
      kept mode stack plans group stamp olds before ≡ c →
      AreSeated mode stack plans group stamp olds →
      AreAgain (first_view (length olds)) olds news → spelled ≡ [] →
      Stands (kept mode stack plans group stamp news spelled)
      (first_world c.stack c.group c.stamp (length c.members))
  stands_again c before spelled seen seated again none =
      subst (λ (x : Peopled). Stands (kept mode stack plans group stamp news spelled)
      (first_world x.stack x.group x.stamp (length x.members)))
      seen (record {
        group = refl;
        stamp = refl;
        members = ap (λ (n : ℕ). map (opened_member stack (first_view n)) (range_with_len 0 n))
            (length-map olds member_of)
            ∙ sym (again.members ∙ opened_seated (first_view (length olds)) seated);
        spelled = subst (λ xs. SpellPackets stack plans xs []) (sym none) tt;
      })

  pub stays_again : (c : Peopled) (before spelled : List (List ℕ)) → kept mode stack plans group stamp olds before ≡ c →
      map seat_of news ≡ map seat_of olds →
      Stays c (kept mode stack plans group stamp news spelled)
  stays_again c before spelled seen same =
      subst (λ (x : Peopled). Stays x (kept mode stack plans group stamp news spelled)) seen
      (record { mode = refl; stack = refl; plans = refl; count = count_again same })
