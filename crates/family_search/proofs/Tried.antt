-- Scripts that go on by one event, and by all that may come.
use Rattle.std.proofs.Common.{◌≡◌, ℕ, zero, suc, ◌+◌, ◌-◌, ◌<◌, ◌≤◌, ◌⊎◌, inl, inr, List, [], ◌∷◌, ◌++◌, length}
use Rattle.std.proofs.Common.{refl}
use Rattle.std.proofs.Common.{sym, ap, subst, ◌∙◌, arith, append_assoc}
use Rattle.std.proofs.lemmas.List.{append-nil, length-map, map-append}
use Rattle.script_mean.specs.declared.event.ScriptEvent.{ScriptEvent}
use Rattle.family_mean.specs.Family.{Family, MayCome, MayFollow, Keeps, IsShortestBreach}
use Rattle.family_search.specs.declared.choice.Choice.{Choice}
use Rattle.std.proofs.Common.{Bool, true, false, Ok, take}
use Rattle.std.proofs.Math.Seq.{take-append_seam}
use Rattle.family_search.specs.Trying.{event_of, events_of, IsIn, AreNext, AllGoingOnKeep, Remain, ShorterKeep}
use Rattle.family_search.specs.Trying.{Goes, Grows, IsKept, IsFound, Tries, AreAnswered, MayStop, Searches}
use Rattle.family_search.specs.Trying.{StopsAt}
use Rattle.family_search.specs.declared.found.Found.{Found}
use Rattle.family_search.specs.declared.found.Found.TheVariants.{Holds, Breach, HoldsTo}
use Rattle.family_search.specs.declared.stop.Stop.{Stop}
use Rattle.family_search.specs.declared.stop.Stop.TheVariants.{Late, Memory}
use Rattle.std.specs.Prelude.{Result, Err}
use Rattle.std.specs.declared.alloc.AllocError.{AllocError}

-- One more event after events that may come.
pub follow_more : (f : Family) (p xs : List ScriptEvent) (e : ScriptEvent) → MayFollow f p xs → MayCome f (p ++ xs) e →
    MayFollow f p (xs ++ e ∷ [])
follow_more f p [] e h come = (subst (λ q. MayCome f q e) (append-nil p) come, tt)
follow_more f p (x ∷ xs) e h come =
    (h.0, follow_more f (p ++ x ∷ []) xs e h.1 (subst (λ q. MayCome f q e) (sym (append_assoc p (x ∷ []) xs)) come))

-- The last of events is among them, and the others are.
pub is_last : (xs : List ScriptEvent) (x : ScriptEvent) → IsIn x (xs ++ x ∷ [])
is_last [] x = inl refl
is_last (y ∷ xs) x = inr (is_last xs x)

pub in_front : (e : ScriptEvent) (xs : List ScriptEvent) (x : ScriptEvent) → IsIn e xs → IsIn e (xs ++ x ∷ [])
in_front e [] x h = absurd h
in_front e (y ∷ xs) x (inl h) = inl h
in_front e (y ∷ xs) x (inr h) = inr (in_front e xs x h)

pub last_or_front : (e : ScriptEvent) (xs : List ScriptEvent) (x : ScriptEvent) → IsIn e (xs ++ x ∷ []) →
    (e ≡ x) ⊎ IsIn e xs
last_or_front e [] x (inl h) = inl h
last_or_front e [] x (inr h) = absurd h
last_or_front e (y ∷ xs) x (inl h) = inr (inl h)
last_or_front e (y ∷ xs) x (inr h) =
    elim (last_or_front e xs x h) [ inl same ↦ inl same | inr among ↦ inr (inr among) ]

-- None was tried.
pub remain_all : (f : Family) (left : ℕ) (past next : List ScriptEvent) → AreNext f past next → Remain f left past next
remain_all f left past next are = record { others = λ e h. inl (are.all e h); each = are.each }

-- The last one was tried.
tried_or : (f : Family) (left : ℕ) (past xs : List ScriptEvent) (x e : ScriptEvent) →
    AllGoingOnKeep f (left - 1) (past ++ x ∷ []) → IsIn e (xs ++ x ∷ []) →
    IsIn e xs ⊎ AllGoingOnKeep f (left - 1) (past ++ e ∷ [])
tried_or f left past xs x e keep among =
    elim (last_or_front e xs x among) [
      | inl same ↦ inr (subst (λ y. AllGoingOnKeep f (left - 1) (past ++ y ∷ [])) (sym same) keep)
      | inr front ↦ inl front
    ]

pub remain_less : (f : Family) (left : ℕ) (past xs : List ScriptEvent) (x : ScriptEvent) →
    Remain f left past (xs ++ x ∷ []) → AllGoingOnKeep f (left - 1) (past ++ x ∷ []) → Remain f left past xs
remain_less f left past xs x r keep = record {
  others = λ e h. elim (r.others e h) [ inl among ↦ tried_or f left past xs x e keep among | inr done ↦ inr done ];
  each = λ e among. r.each e (in_front e xs x among);
}

-- The last one may come.
pub last_may : (f : Family) (left : ℕ) (past xs : List ScriptEvent) (x : ScriptEvent) →
    Remain f left past (xs ++ x ∷ []) → MayCome f past x
last_may f left past xs x r = r.each x (is_last xs x)

-- All were tried.
tried_all : (f : Family) (n : ℕ) (past : List ScriptEvent) → Remain f (suc n) past [] → (events : List ScriptEvent) →
    length events ≡ suc n → MayFollow f past events → Keeps f (past ++ events)
tried_all f n past r [] long follow = absurd (omega (arith, long))
tried_all f n past r (e ∷ events) long follow =
    elim (r.others e follow.0) [
      | inl among ↦ absurd among
      | inr keep ↦ subst (Keeps f) (append_assoc past (e ∷ []) events) (keep events (omega (arith, long)) follow.1)
    ]

pub all_keep_more : (f : Family) (left : ℕ) (past : List ScriptEvent) → 0 < left → Remain f left past [] →
    AllGoingOnKeep f left past
all_keep_more f zero past some r = absurd (omega arith)
all_keep_more f (suc n) past some r = tried_all f n past r

-- No event more: the script itself.
pub all_keep_none : (f : Family) (left : ℕ) (past : List ScriptEvent) → left ≡ 0 → Keeps f past →
    AllGoingOnKeep f left past
all_keep_none f left past none keeps [] long follow = subst (Keeps f) (sym (append-nil past)) keeps
all_keep_none f left past none keeps (e ∷ events) long follow = absurd (omega (arith, long))

-- The search begins at what may come.
pub begins : (f f' : Family) (left depth : ℕ) (past seen next : List Choice) → seen ≡ past →
    AreAnswered f (events_of f seen) f' (events_of f next) → depth ≡ length past → 0 < left →
    MayFollow f [] (events_of f past) → Goes f left past depth f' past next
begins f f' left depth past seen next is answered deep some follow = record {
  stays = answered.stays;
  same = refl;
  deep = deep;
  some = some;
  follow = follow;
  remain =
      subst (λ s. Remain f left (events_of f s) (events_of f next)) is
      (remain_all f left (events_of f seen) (events_of f next) answered.are);
}

-- A choice more is an event more.
event_more : (f : Family) (past : List Choice) (c : Choice) →
    events_of f (past ++ c ∷ []) ≡ events_of f past ++ event_of f c ∷ []
event_more f past c = map-append (event_of f) past (c ∷ [])

-- The last choice is an event that may come.
follows : (f : Family) (left : ℕ) (past next : List Choice) (c : Choice) → MayFollow f [] (events_of f past) →
    Remain f left (events_of f past) (events_of f (next ++ c ∷ [])) → MayFollow f [] (events_of f (past ++ c ∷ []))
follows f left past next c follow r =
    subst (MayFollow f []) (sym (event_more f past c))
    (follow_more f [] (events_of f past) (event_of f c) follow
    (last_may f left (events_of f past) (events_of f next) (event_of f c)
    (subst (Remain f left (events_of f past)) (event_more f next c) r)))

pub may_go_on : (f : Family) (left depth : ℕ) (past : List Choice) (f' : Family) (now before next pushed : List Choice)
    (c : Choice) → Goes f left past depth f' now before → before ≡ next ++ c ∷ [] → pushed ≡ now ++ c ∷ [] →
    MayFollow f' [] (events_of f' pushed)
may_go_on f left depth past f' now before next pushed c goes taken put =
    subst (λ g. MayFollow g [] (events_of g pushed)) (sym goes.stays)
    (subst (λ cs. MayFollow f [] (events_of f cs)) (sym (put ∙ ap (λ cs. cs ++ c ∷ []) goes.same))
    (follows f left past next c goes.follow
    (subst (λ cs. Remain f left (events_of f past) (events_of f cs)) taken goes.remain)))

-- The last choice was tried.
remain_choice : (f : Family) (left : ℕ) (past next : List Choice) (c : Choice) →
    Remain f left (events_of f past) (events_of f (next ++ c ∷ [])) →
    AllGoingOnKeep f (left - 1) (events_of f (past ++ c ∷ [])) → Remain f left (events_of f past) (events_of f next)
remain_choice f left past next c r keep =
    remain_less f left (events_of f past) (events_of f next) (event_of f c)
    (subst (Remain f left (events_of f past)) (event_more f next c) r)
    (subst (AllGoingOnKeep f (left - 1)) (event_more f past c) keep)

kept_of : (f : Family) (left : ℕ) (past : List Choice) (f' : Family) (after : List Choice) (keep : Bool) →
    keep ≡ true → Tries f left past f' after (Ok keep) → IsKept f left past f' after
kept_of f left past f' after true is tries = tries
kept_of f left past f' after false is tries = absurd (cc)

found_of : (f : Family) (left : ℕ) (past : List Choice) (f' : Family) (after : List Choice) (keep : Bool) →
    keep ≡ false → Tries f left past f' after (Ok keep) → IsFound f left past f' after
found_of f left past f' after false is tries = tries
found_of f left past f' after true is tries = absurd (cc)

pub goes_on : (f : Family) (left depth : ℕ) (past : List Choice) (f' : Family) (now before next pushed : List Choice)
    (c : Choice) (f'' : Family) (after cut : List Choice) (keep : Bool) → Goes f left past depth f' now before →
    before ≡ next ++ c ∷ [] → pushed ≡ now ++ c ∷ [] → keep ≡ true → Tries f' (left - 1) pushed f'' after (Ok keep) →
    cut ≡ take depth after → Goes f left past depth f'' cut next
goes_on f left depth past f' now before next pushed c f'' after cut keep goes taken put is tries short =
    let kept = kept_of f' (left - 1) pushed f'' after keep is tries in
    let whole : pushed ≡ past ++ c ∷ [] = put ∙ ap (λ cs. cs ++ c ∷ []) goes.same in record {
      stays = kept.stays ∙ goes.stays;
      same =
          short ∙ ap (λ n. take n after) goes.deep ∙ ap (take (length past)) (kept.same ∙ whole)
          ∙ take-append_seam past (c ∷ []);
      deep = goes.deep;
      some = goes.some;
      follow = goes.follow;
      remain =
          remain_choice f left past next c
          (subst (λ cs. Remain f left (events_of f past) (events_of f cs)) taken goes.remain)
          (subst (λ cs. AllGoingOnKeep f (left - 1) (events_of f cs)) whole
          (subst (λ g. AllGoingOnKeep g (left - 1) (events_of g pushed)) goes.stays kept.keep));
    }

empty : (next : List Choice) → length next ≡ 0 → next ≡ []
empty [] none = refl
empty (c ∷ next) none = absurd (omega (arith, none))

pub all_gone : (f : Family) (left depth : ℕ) (past : List Choice) (f' : Family) (now next : List Choice) →
    Goes f left past depth f' now next → length next ≡ 0 → IsKept f left past f' now
all_gone f left depth past f' now next goes none = record {
  stays = goes.stays;
  same = goes.same;
  keep =
      all_keep_more f left (events_of f past) goes.some
      (subst (λ cs. Remain f left (events_of f past) (events_of f cs)) (empty next none) goes.remain);
}

-- A script that was found is of the family, and no shorter one breaks the law.
shortest_of : (f : Family) (n : ℕ) (past : List Choice) (f'' : Family) (found : List Choice) → past ≡ [] →
    ShorterKeep f n → IsFound f n past f'' found → n ≤ f.events → IsShortestBreach f (events_of f found)
shortest_of f n past f'' found none keep is few =
    let long : length (events_of f found) ≡ n =
    length-map found (event_of f) ∙ is.longer ∙ ap (λ cs. length cs + n) none ∙ omega arith in record {
      of = record { few = omega (arith, long); follow = is.follow };
      breaks = is.breaks;
      shorter = λ others h less. keep others (omega (arith, less, long)) h.follow;
    }

pub shortest : (f : Family) (n : ℕ) (f' : Family) (past : List Choice) (f'' : Family) (found : List Choice)
    (keep : Bool) → Grows f n f' past → keep ≡ false → Tries f' n past f'' found (Ok keep) → n ≤ f.events →
    (f'' ≡ f) × IsShortestBreach f (events_of f found)
shortest f n f' past f'' found keep grows is tries few =
    let found_is = found_of f' n past f'' found keep is tries in (
      found_is.stays ∙ grows.stays,
      shortest_of f n past f'' found grows.none grows.keep
          (subst (λ g. IsFound g n past f'' found) grows.stays found_is) few,
    )

-- Where a search stops at a length, all shorter scripts were tried.
may_stop_at : (f : Family) (n : ℕ) (past : List Choice) (f' : Family) (after : List Choice) (stop : Stop) →
    Tries f n past f' after (Err stop) → MayStop stop n
may_stop_at f n past f' after Late tries = tries.1
may_stop_at f n past f' after Memory tries = tt

pub may_stop : (f : Family) (n : ℕ) (f' : Family) (past : List Choice) (f'' : Family) (after : List Choice)
    (stop : Stop) → Tries f' n past f'' after (Err stop) → MayStop stop n
may_stop f n f' past f'' after stop tries = may_stop_at f' n past f'' after stop tries

stays_at : (f : Family) (n : ℕ) (past : List Choice) (f' : Family) (after : List Choice) (stop : Stop) →
    Tries f n past f' after (Err stop) → f' ≡ f
stays_at f n past f' after Late tries = tries.0
stays_at f n past f' after Memory tries = tries

pub stopped_at : (f : Family) (n : ℕ) (f' : Family) (past : List Choice) (f'' : Family) (after : List Choice)
    (stop : Stop) (answer : Result Found AllocError) → Grows f n f' past → n ≤ f.events →
    Tries f' n past f'' after (Err stop) → StopsAt stop n answer → Searches f f'' answer
stopped_at f n f' past f'' after Late (Ok (HoldsTo most)) grows within tries stops = record {
  stays = stays_at f' n past f'' after Late tries ∙ grows.stays;
  answers = (
    omega (arith, stops, within),
    λ events of few. grows.keep events (omega (arith, stops, few)) of.follow,
  );
}
stopped_at f n f' past f'' after Late (Ok Holds) grows within tries stops = absurd stops
stopped_at f n f' past f'' after Late (Ok (Breach found)) grows within tries stops = absurd stops
stopped_at f n f' past f'' after Late (Err error) grows within tries stops = absurd stops
stopped_at f n f' past f'' after Memory (Err error) grows within tries stops =
    stays_at f' n past f'' after Memory tries ∙ grows.stays
stopped_at f n f' past f'' after Memory (Ok found) grows within tries stops = absurd stops
