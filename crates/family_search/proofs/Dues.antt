-- Which events are due, and by which choices.
use Rattle.std.proofs.Common.{◌≡◌, ℕ, zero, suc, ◌+◌, ◌<◌, ◌≤◌, ◌⊎◌, inl, inr, Bool, true, false, List, [], ◌∷◌, ◌++◌}
use Rattle.std.proofs.Common.{length}
use Rattle.std.proofs.Common.{take, filter, refl, sym, ap, subst, ◌∙◌, arith, Option, Some, None, Result, Ok, Err}
use Rattle.std.specs.Prelude.{slice_get, slice_index_or, count_by, nat_lt, ◌&&◌, ◌==◌}
use Rattle.std.specs.Option.{unwrap_or}
use Rattle.std.specs.declared.alloc.AllocError.{AllocError}
use Rattle.std.proofs.lemmas.Bool.{ltb-true, lt-ltb, eqb-true, eq-eqb}
use Rattle.std.proofs.lemmas.List.Sums.{length-filter}
use Rattle.std.proofs.lemmas.List.{map-append}
use Rattle.std.proofs.lemmas.Option.{slice_get_within, unwrap_or-slice_get, get_or_from_slice_get}
use Rattle.msg_core.specs.declared.packet.Packet.{Packet}
use Rattle.layer_mean.specs.Tree.{LayerTree}
use Rattle.stack_mean.specs.Plan.{Plan}
use Rattle.stack_mean.specs.Plans.{plans_of}
use Rattle.run_mean.specs.World.{World, happens, given_packet}
use Rattle.script_mean.specs.Event.{member_of}
use Rattle.script_mean.specs.declared.event.ScriptEvent.{ScriptEvent}
use Rattle.script_mean.specs.declared.event.ScriptEvent.TheVariants as script
use Rattle.family_mean.specs.Family.{Family, IsDue, IsTaken, MayCome, MayFollow, same_kind, gives, world_of}
use Rattle.family_search.specs.declared.choice.Choice.{Choice}
use Rattle.family_search.specs.declared.choice.Choice.TheVariants.{Act, Give}
use Rattle.family_search.specs.Trying.{event_in, event_of, events_of, IsIn, AreAnswered}
use Rattle.family_search.specs.Coming.{act_due, due_in, due_by, rank_of, done_of, times_of, AnswersTakes, AnswersMay}
use Rattle.family_search.specs.Coming.{IsAnswered, IsChoice, HaveActs, HaveGives, AreAll, AreGiven}
use Rattle.family_search.specs.Coming.{IsLeft, AreSorted, AreSent, PutsIf}
use Rattle.family_search.proofs.Ranks.{at_rank, from_rank, count-map}
use Rattle.family_search.proofs.Tried.{in_front, is_last, last_or_front}

and_split : (a b : Bool) → (a && b) ≡ true → (a ≡ true) × (b ≡ true)
and_split true b h = (refl, h)
and_split false b h = absurd (cc)

and_both : (a b : Bool) → a ≡ true → b ≡ true → (a && b) ≡ true
and_both true b first h = h
and_both false b first h = absurd (cc)

-- An act is due in its place.
due_of_act : (f : Family) (past : List ScriptEvent) (e : ScriptEvent) → same_kind e e ≡ true →
    slice_get (filter (same_kind e) f.acts.events) (count_by (same_kind e) past) ≡ Some e → IsDue f past e
due_of_act f past (script.Cast m body) holds is = is
due_of_act f past (script.Send m to body) holds is = is
due_of_act f past (script.Leave m) holds is = is
due_of_act f past (script.Tick m moment) holds is = is
due_of_act f past (script.Give k id) holds is = absurd (cc)
due_of_act f past (script.Raw m bytes) holds is = is
due_of_act f past (script.Show m) holds is = is

option_there : (o : Option ScriptEvent) (e : ScriptEvent) → unwrap_or o (script.Show 0) ≡ e → same_kind e e ≡ true →
    o ≡ Some e
option_there None e is holds =
    let never : same_kind (script.Show 0) (script.Show 0) ≡ true =
    subst (λ x. same_kind x x ≡ true) (sym is) holds in absurd (cc)
option_there (Some x) e is holds = ap Some is

act_sound : (f : Family) (past : List Choice) (i : ℕ) (e : ScriptEvent) →
    slice_index_or f.acts.events i (script.Show 0) ≡ e →
    act_due f.acts.events past i e ≡ true → IsDue f (events_of f past) e
act_sound f past i e is due =
    let s = and_split (same_kind e e) (rank_of f.acts.events i e == done_of f.acts.events past e) due in
    let there : slice_get f.acts.events i ≡ Some e =
    option_there (slice_get f.acts.events i) e (unwrap_or-slice_get f.acts.events i (script.Show 0) ∙ is) s.0 in
    let n : length (filter (same_kind e) (take i f.acts.events)) ≡ count_by (same_kind e) (events_of f past) =
    length-filter (same_kind e) (take i f.acts.events) ∙
    eqb-true (rank_of f.acts.events i e) (done_of f.acts.events past e) s.1
    ∙ sym (count-map (same_kind e) (event_of f) past) in
    due_of_act f (events_of f past) e s.0
    (subst (λ n. slice_get (filter (same_kind e) f.acts.events) n ≡ Some e) n
    (at_rank (same_kind e) f.acts.events i e there s.0))

due_sound : (f : Family) (past : List Choice) (choice : Choice) → due_in f.acts.events f.repeats past choice ≡ true →
    IsDue f (events_of f past) (event_of f choice)
due_sound f past (Act i) due = act_sound f past i (event_in f.acts.events (Act i)) refl due
due_sound f past (Give k id) due =
    let lt = ltb-true (times_of f.acts.events past k id) (f.repeats + 1) due in
    let same = count-map (gives k id) (event_of f) past in omega (arith, lt, same)

pub may_answer : (f : Family) (past : List Choice) (choice : Choice) (f' : Family) (result : Result Bool AllocError) →
    due_by f past choice ≡ true → AnswersTakes f past choice f' result → AnswersMay f past choice f' result
may_answer f past choice f' (Ok true) due t =
    let s =
    and_split (due_in f.acts.events f.repeats past choice) (nat_lt (member_of (event_of f choice)) f.acts.members) due
    in record {
      stays = t.stays;
      may_is = record {
        member = ltb-true (member_of (event_of f choice)) f.acts.members s.1;
        due = due_sound f past choice s.0;
        taken = t.taken;
      };
    }
may_answer f past choice f' (Ok false) due t = record { stays = t.stays; may_is = λ due come. t.taken come.taken }
may_answer f past choice f' (Err e) due t = t

-- An act that is due is so by one of the choices.
chosen : (f : Family) (past : List Choice) (e : ScriptEvent) (all : List Choice) →
    slice_get (filter (same_kind e) f.acts.events) (count_by (same_kind e) (events_of f past)) ≡ Some e →
    member_of e < f.acts.members → HaveActs (length f.acts.events) all → IsLeft f past all e
chosen f past e all is member have =
    let p = from_rank (same_kind e) f.acts.events (count_by (same_kind e) (events_of f past)) e is in
    let same : event_of f (Act p.i) ≡ e = get_or_from_slice_get f.acts.events p.i e (script.Show 0) p.there in
    let rank : rank_of f.acts.events p.i e ≡ done_of f.acts.events past e =
    sym (length-filter (same_kind e) (take p.i f.acts.events)) ∙ p.rank ∙ count-map (same_kind e) (event_of f) past in
    let due : (act_due f.acts.events past p.i e && nat_lt (member_of e) f.acts.members) ≡ true =
    and_both (act_due f.acts.events past p.i e) (nat_lt (member_of e) f.acts.members)
    (and_both (same_kind e e) (rank_of f.acts.events p.i e == done_of f.acts.events past e) p.holds (eq-eqb _ _ rank))
    (lt-ltb _ _ member) in record {
      choice = Act p.i;
      among = have p.i (slice_get_within f.acts.events p.i e p.there);
      same = same;
      due = subst (λ x. (act_due f.acts.events past p.i x && nat_lt (member_of x) f.acts.members) ≡ true) (sym same)
          due;
    }

packet_there : (stack : List LayerTree) (plans : List Plan) (w : World) (id : ℕ) (o : Option Packet) →
    IsTaken (given_packet stack plans w id o).did → (p : Packet) × (o ≡ Some p)
packet_there stack plans w id None taken = absurd taken
packet_there stack plans w id (Some p) taken = (p, refl)

-- A packet that is taken was sent.
give_there : (stack : List LayerTree) (plans : List Plan) (w : World) (k id : ℕ) →
    IsTaken (happens stack plans w (script.Give k id)).did → (j : ℕ) × ((k ≡ j + 1) × (j < length w.packets))
unfolding happens
give_there stack plans w zero id taken = absurd taken
give_there stack plans w (suc j) id taken =
    let p = packet_there stack plans w id (slice_get w.packets j) taken in
    (j, (omega arith, slice_get_within w.packets j p.0 p.1))

give_chosen : (f : Family) (past : List Choice) (k id sent : ℕ) (all : List Choice) →
    MayCome f (events_of f past) (script.Give k id) → length (world_of f (events_of f past)).packets ≡ sent →
    HaveGives sent f.acts.members all → IsLeft f past all (script.Give k id)
give_chosen f past k id sent all come sent_is have =
    let t = give_there f.stack (plans_of f.stack) (world_of f (events_of f past)) k id come.taken in
    let j = t.0 in
    let few : j < sent = let lt = t.1.1 in omega (arith, lt, sent_is) in
    let times = count-map (gives k id) (event_of f) past in
    let due = come.due in
    let lt : times_of f.acts.events past k id < f.repeats + 1 = omega (arith, times, due) in record {
      choice = Give k id;
      among = subst (λ n. IsChoice (Give n id) all) (sym t.1.0) (have j id few come.member);
      same = refl;
      due =
          and_both (nat_lt (times_of f.acts.events past k id) (f.repeats + 1)) (nat_lt id f.acts.members)
          (lt-ltb _ _ lt)
          (lt-ltb _ _ come.member);
    }

-- What may come is due by one of all choices.
comes : (f : Family) (past : List Choice) (e : ScriptEvent) (sent : ℕ) (all : List Choice) →
    MayCome f (events_of f past) e → length (world_of f (events_of f past)).packets ≡ sent →
    AreAll (length f.acts.events) sent f.acts.members all → IsLeft f past all e
comes f past (script.Give k id) sent all come is are = give_chosen f past k id sent all come is are.have_gives
comes f past (script.Cast m body) sent all come is are =
    chosen f past (script.Cast m body) all come.due come.member are.have_acts
comes f past (script.Send m to body) sent all come is are =
    chosen f past (script.Send m to body) all come.due come.member are.have_acts
comes f past (script.Leave m) sent all come is are =
    chosen f past (script.Leave m) all come.due come.member are.have_acts
comes f past (script.Tick m moment) sent all come is are =
    chosen f past (script.Tick m moment) all come.due come.member are.have_acts
comes f past (script.Raw m bytes) sent all come is are =
    chosen f past (script.Raw m bytes) all come.due come.member are.have_acts
comes f past (script.Show m) sent all come is are =
    chosen f past (script.Show m) all come.due come.member are.have_acts

-- Choices that were put.
choice_last : (xs : List Choice) (c : Choice) → IsChoice c (xs ++ c ∷ [])
choice_last [] c = inl refl
choice_last (x ∷ xs) c = inr (choice_last xs c)

choice_front : (c : Choice) (xs : List Choice) (y : Choice) → IsChoice c xs → IsChoice c (xs ++ y ∷ [])
choice_front c [] y h = absurd h
choice_front c (x ∷ xs) y (inl h) = inl h
choice_front c (x ∷ xs) y (inr h) = inr (choice_front c xs y h)

choice_or : (c : Choice) (xs : List Choice) (y : Choice) → IsChoice c (xs ++ y ∷ []) → (c ≡ y) ⊎ IsChoice c xs
choice_or c [] y (inl h) = inl h
choice_or c [] y (inr h) = absurd h
choice_or c (x ∷ xs) y (inl h) = inr (inl h)
choice_or c (x ∷ xs) y (inr h) = elim (choice_or c xs y h) [ inl same ↦ inl same | inr among ↦ inr (inr among) ]

below_or : (i n : ℕ) → i < n + 1 → (i < n) ⊎ (i ≡ n)
below_or zero zero lt = inr refl
below_or zero (suc n) lt = inl (omega arith)
below_or (suc i) zero lt = absurd (omega (arith, lt))
below_or (suc i) (suc n) lt =
    elim (below_or i n (omega (arith, lt))) [ inl less ↦ inl (omega (arith, less)) | inr same ↦ inr (ap suc same) ]

pub gives_more : (k id : ℕ) (before now after : List Choice) → AreGiven k id before now →
    after ≡ now ++ Give k id ∷ [] → AreGiven k (id + 1) before after
gives_more k id before now after g is = record {
  given = λ i lt. subst (IsChoice (Give k i)) (sym is)
      (elim (below_or i id lt) [
        | inl less ↦ choice_front (Give k i) now (Give k id) (g.given i less)
        | inr same ↦ subst (λ i. IsChoice (Give k i) (now ++ Give k id ∷ [])) (sym same) (choice_last now (Give k id))
      ]);
  extends = λ c h. subst (IsChoice c) (sym is) (choice_front c now (Give k id) (g.extends c h));
}

pub acts_more : (n : ℕ) (now after : List Choice) → HaveActs n now → after ≡ now ++ Act n ∷ [] → HaveActs (n + 1) after
acts_more n now after have is = λ i lt. subst (IsChoice (Act i)) (sym is)
    (elim (below_or i n lt) [
      | inl less ↦ choice_front (Act i) now (Act n) (have i less)
      | inr same ↦ subst (λ i. IsChoice (Act i) (now ++ Act n ∷ [])) (sym same) (choice_last now (Act n))
    ])

pub no_gives : (acts n members : ℕ) (all : List Choice) → HaveActs n all → acts ≤ n → AreAll acts 0 members all
no_gives acts n members all have most = record {
  have_acts = λ i lt. have i (omega (arith, lt, most));
  have_gives = λ k id lt less. absurd (omega (arith, lt));
}

pub all_more : (acts n members : ℕ) (now after : List Choice) → AreAll acts n members now →
    AreGiven (n + 1) members now after → AreAll acts (n + 1) members after
all_more acts n members now after are g = record {
  have_acts = λ i lt. g.extends (Act i) (are.have_acts i lt);
  have_gives = λ k id lt less.
      elim (below_or k n lt) [
        | inl before ↦ g.extends (Give (k + 1) id) (are.have_gives k id before less)
        | inr same ↦ subst (λ k. IsChoice (Give (k + 1) id) after) (sym same) (g.given id less)
      ];
}

-- Sorting begins.
pub sorted_first : (f f' : Family) (past : List Choice) (acts sent members : ℕ) (all next : List Choice) →
    MayFollow f [] (events_of f past) → AreSent f past f' sent → acts ≡ length f'.acts.events →
    members ≡ f'.acts.members →
    AreAll acts sent members all → next ≡ [] → AreSorted f past f' all next
sorted_first f f' past acts sent members all next follow s acts_are members_are are none =
    let a : acts ≡ length f.acts.events = acts_are ∙ ap (λ g. length g.acts.events) s.stays in
    let m : members ≡ f.acts.members = members_are ∙ ap (λ g. g.acts.members) s.stays in
    let all_are : AreAll (length f.acts.events) sent f.acts.members all =
    subst (λ n. AreAll n sent f.acts.members all) a (subst (λ n. AreAll acts sent n all) m are) in record {
      stays = s.stays;
      follow = follow;
      others = λ e come. inl (comes f past e sent all come s.sent_are all_are);
      each = λ e among. absurd (subst (λ cs. IsIn e (events_of f cs)) none among);
    }

event_more : (f : Family) (past : List Choice) (c : Choice) →
    events_of f (past ++ c ∷ []) ≡ events_of f past ++ event_of f c ∷ []
event_more f past c = map-append (event_of f) past (c ∷ [])

left_or : (f : Family) (past left : List Choice) (c : Choice) (e : ScriptEvent) → IsLeft f past (left ++ c ∷ []) e →
    ((event_of f c ≡ e) × (due_by f past c ≡ true)) ⊎ IsLeft f past left e
left_or f past left c e l =
    elim (choice_or l.choice left c l.among) [
      | inl same ↦ inl (ap (event_of f) (sym same) ∙ l.same, ap (due_by f past) (sym same) ∙ l.due)
      | inr among ↦ inr (record { choice = l.choice; among = among; same = l.same; due = l.due })
    ]

sorted_yes : (f : Family) (past : List Choice) (f' f'' : Family) (left next : List Choice) (c : Choice) → f'' ≡ f →
    AreSorted f past f' (left ++ c ∷ []) next → MayCome f (events_of f past) (event_of f c) →
    AreSorted f past f'' left (next ++ c ∷ [])
sorted_yes f past f' f'' left next c stays s may = record {
  stays = stays;
  follow = s.follow;
  others = λ e come. subst (λ es. IsLeft f past left e ⊎ IsIn e es) (sym (event_more f next c))
      (elim (s.others e come) [
        | inl l ↦ elim (left_or f past left c e l) [
          | inl here ↦ inr (subst (λ x. IsIn x (events_of f next ++ event_of f c ∷ [])) here.0
              (is_last (events_of f next) (event_of f c)))
          | inr other ↦ inl other
        ]
        | inr among ↦ inr (in_front e (events_of f next) (event_of f c) among)
      ]);
  each = λ e among.
      elim (last_or_front e (events_of f next) (event_of f c) (subst (IsIn e) (event_more f next c) among)) [
        | inl same ↦ subst (MayCome f (events_of f past)) (sym same) may
        | inr front ↦ s.each e front
      ];
}

sorted_no : (f : Family) (past : List Choice) (f' f'' : Family) (left next : List Choice) (c : Choice) → f'' ≡ f →
    AreSorted f past f' (left ++ c ∷ []) next →
    (due_by f past c ≡ true → MayCome f (events_of f past) (event_of f c) → ⊥) → AreSorted f past f'' left next
sorted_no f past f' f'' left next c stays s never = record {
  stays = stays;
  follow = s.follow;
  others = λ e come.
      elim (s.others e come) [
        | inl l ↦ elim (left_or f past left c e l) [
          | inl here ↦ absurd (never here.1 (subst (MayCome f (events_of f past)) (sym here.0) come))
          | inr other ↦ inl other
        ]
        | inr among ↦ inr among
      ];
  each = s.each;
}

sorted_by : (f : Family) (past : List Choice) (f' f'' : Family) (left next : List Choice) (c : Choice) (may : Bool)
    (after : List Choice) → AreSorted f past f' (left ++ c ∷ []) next → IsAnswered f past c f'' may →
    PutsIf may next c after → AreSorted f past f'' left after
sorted_by f past f' f'' left next c true after s a put =
    subst (AreSorted f past f'' left) (sym put) (sorted_yes f past f' f'' left next c a.stays s a.may_is)
sorted_by f past f' f'' left next c false after s a put =
    subst (AreSorted f past f'' left) (sym put) (sorted_no f past f' f'' left next c a.stays s a.may_is)

pub sorted_on : (f : Family) (past : List Choice) (f' f'' : Family) (before left next : List Choice) (c : Choice)
    (may : Bool) (after : List Choice) → AreSorted f past f' before next → before ≡ left ++ c ∷ [] →
    IsAnswered f' past c f'' may → PutsIf may next c after → AreSorted f past f'' left after
sorted_on f past f' f'' before left next c may after s taken a put =
    sorted_by f past f' f'' left next c may after (subst (λ cs. AreSorted f past f' cs next) taken s)
    (subst (λ g. IsAnswered g past c f'' may) s.stays a) put

pub follow_still : (f : Family) (past : List Choice) (f' : Family) (left next : List Choice) →
    AreSorted f past f' left next → MayFollow f' [] (events_of f' past)
follow_still f past f' left next s = subst (λ g. MayFollow g [] (events_of g past)) (sym s.stays) s.follow

none_left : (left : List Choice) → length left ≡ 0 → left ≡ []
none_left [] none = refl
none_left (c ∷ left) none = absurd (omega (arith, none))

pub sorted_all : (f : Family) (past : List Choice) (f' : Family) (left next : List Choice) →
    AreSorted f past f' left next → length left ≡ 0 → AreAnswered f (events_of f past) f' (events_of f next)
sorted_all f past f' left next s none = record {
  stays = s.stays;
  are = record {
    all = λ e come.
        elim (s.others e come) [
          | inl l ↦ absurd (subst (IsChoice l.choice) (none_left left none) l.among)
          | inr among ↦ among
        ];
    each = s.each;
  };
}
