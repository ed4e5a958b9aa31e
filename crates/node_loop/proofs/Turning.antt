-- A turn goes on tick by tick, answer by answer and line by line of the plan, and its group is up all along.
use Rattle.std.proofs.Common.{◌≡◌, ℕ, zero, suc, ◌+◌, ◌<◌, ◌≤◌, Bool, true, false, List, [], ◌∷◌, ◌++◌, length, get_or}
use Rattle.std.proofs.Common.{drop, refl, sym, ap, ap₂, subst, ◌∙◌, arith, Option, Some}
use Rattle.std.proofs.lemmas.List.{at_drop_more, at_drop_all}
use Rattle.std.proofs.lemmas.Bool.{eq-eqb, eqb-false, eqb-true, ne_eqb}
use Rattle.std.specs.List.{AllByRecursion, list_any}
use Rattle.std.specs.Prelude.{◌==◌, ◌||◌, if◌then◌else◌, Result, Ok}
use Rattle.outside.specs.declared.sink.SinkError.{SinkError}
use Rattle.layer_mean.specs.Tree.{LayerTree}
use Rattle.script_mean.specs.Event.{member_of}
use Rattle.script_mean.specs.declared.event.ScriptEvent.{ScriptEvent}
use Rattle.script_mean.specs.declared.event.ScriptEvent.TheVariants.{Raw, Tick}
use Rattle.stack_mean.specs.Plan.{Plan}
use Rattle.run_mean.specs.Journal.{Heard}
use Rattle.group_feed.specs.Standing.{Peopled}
use Rattle.node_laws.specs.Doings.{Doing, does}
use Rattle.node_laws.specs.Stages.{Course, from_ticks, own_doing}
use Rattle.node_loop.specs.Around.{Around}
use Rattle.node_loop.specs.Course.{Advances, Begun, FedOn, SoFar, Within, now}
use Rattle.node_loop.specs.Feeding.{IsUp, RestsAgain}
use Rattle.node_loop.specs.declared.desk.NodeDesk.{NodeDesk}

-- what holds of each holds of one
pub each_at : {X : Type 0} (P : X → Type 0) (xs : List X) (i : ℕ) (d : X) → i < length xs → AllByRecursion P xs →
    P (get_or xs i d)
each_at P [] i d lt h = absurd (omega (arith, lt))
each_at P (y ∷ ys) zero d lt h = h.0
each_at P (y ∷ ys) (suc i) d lt h = each_at P ys i d (omega (arith, lt)) h.1

-- a test of two numbers, the other way round
eqb_turned : (x y : ℕ) → (x == y) ≡ (y == x)
eqb_turned x y = go (x == y) refl where
  go : (b : Bool) → (x == y) ≡ b → (x == y) ≡ (y == x)
  go true same = same ∙ sym (eq-eqb y x (sym (eqb-true x y same)))
  go false other = other ∙ sym (ne_eqb y x (λ same. eqb-false x y other (sym same)))

pub is_among : (ids : List ℕ) (x y : ℕ) (found b : Bool) → x ≡ y → found ≡ list_any (λ id. id == x) ids → found ≡ b →
    list_any (λ id. y == id) ids ≡ b
is_among ids x y found b same is so = sym (turned ids) ∙ ap (λ z. list_any (λ id. id == z) ids) (sym same) ∙ sym is ∙
    so where
      turned : (ids : List ℕ) → list_any (λ id. id == y) ids ≡ list_any (λ id. y == id) ids
      turned [] = refl
      turned (id ∷ ids) = ap₂ (λ b c. b || c) (eqb_turned id y) (turned ids)

each_any : (P : ℕ → Type 0) (xs : List ℕ) (x : ℕ) → list_any (λ y. x == y) xs ≡ true → AllByRecursion P xs → P x
each_any P [] x any h = absurd (cc any)
each_any P (y ∷ ys) x any h = go (x == y) refl (λ later. each_any P ys x later h.1) where
  go : (b : Bool) → (x == y) ≡ b → (list_any (λ y. x == y) ys ≡ true → P x) → P x
  go true same later = subst P (sym (eqb-true x y same)) h.0
  go false other later = later (ap (λ b. b || list_any (λ y. x == y) ys) (sym other) ∙ any)

module _ (stack : List LayerTree) (plans : List Plan) where
  pub again_then : (g g' g'' : Peopled) (d d' d'' : NodeDesk) → RestsAgain stack plans g d g' d' →
      RestsAgain stack plans g' d' g'' d'' →
      RestsAgain stack plans g d g'' d''
  again_then g g' g'' d d' d'' first second mode n w rests = let on = first mode n w rests in second mode n on.0 on.1

  each_listens : (n : ℕ) (heard heard' : ℕ → Option ℕ) (ids : List ℕ) → ((m : ℕ) → heard' m ≡ heard m) →
      AllByRecursion (λ id. (id < n) × (heard id ≡ Some n)) ids →
      AllByRecursion (λ id. (id < n) × (heard' id ≡ Some n)) ids
  each_listens n heard heard' [] same h = tt
  each_listens n heard heard' (id ∷ ids) same h = ((h.0.0, same id ∙ h.0.1), each_listens n heard heard' ids same h.1)

  -- a group is up after a stage at which it rests again
  pub up_on : (g g' : Peopled) (d d' : NodeDesk) (heard heard' : ℕ → Option ℕ) (ids : List ℕ) →
      IsUp stack plans g d heard ids →
      RestsAgain stack plans g d g' d' → ((m : ℕ) → heard' m ≡ heard m) → IsUp stack plans g' d' heard' ids
  up_on g g' d d' heard heard' ids up again same =
      let on = again up.mode up.members up.world up.rests in record {
        typed = up.typed;
        numbered = up.numbered;
        mode = up.mode;
        members = up.members;
        world = on.0;
        rests = on.1;
        listen = each_listens up.members heard heard' ids same up.listen;
      }

  -- and with one of its members alone
  pub up_at : (g : Peopled) (d : NodeDesk) (heard : ℕ → Option ℕ) (ids : List ℕ) (i : ℕ) → i < length ids →
      IsUp stack plans g d heard ids → IsUp stack plans g d heard (get_or ids i 0 ∷ [])
  up_at g d heard ids i lt up = record {
    typed = up.typed;
    numbered = up.numbered;
    mode = up.mode;
    members = up.members;
    world = up.world;
    rests = up.rests;
    listen = (each_at (λ id. (id < up.members) × (heard id ≡ Some up.members)) ids i 0 lt up.listen, tt);
  }

  pub up_any : (g : Peopled) (d : NodeDesk) (heard : ℕ → Option ℕ) (ids : List ℕ) (x : ℕ) →
      list_any (λ id. x == id) ids ≡
      true →
      IsUp stack plans g d heard ids → IsUp stack plans g d heard (x ∷ [])
  up_any g d heard ids x any up = record {
    typed = up.typed;
    numbered = up.numbered;
    mode = up.mode;
    members = up.members;
    world = up.world;
    rests = up.rests;
    listen = (each_any (λ id. (id < up.members) × (heard id ≡ Some up.members)) ids x any up.listen, tt);
  }

  pub of_bytes : (id : ℕ) (bytes bytes' : List ℕ) (g g' : Peopled) (d d' : NodeDesk) (a a' : Around)
      (r : Result (Unit {0}) SinkError) → bytes' ≡ bytes →
      FedOn stack plans (Raw id bytes') g g' d d' a a' r → FedOn stack plans (Raw id bytes) g g' d d' a a' r
  of_bytes id bytes bytes' g g' d d' a a' r same fed =
      subst (λ bytes. FedOn stack plans (Raw id bytes) g g' d d' a a' r) same fed

  -- i members took a tick.
  pub record Ticked (moment : ℕ) (me : List ℕ) (i : ℕ) (g g' : Peopled) (d d' : NodeDesk) (a a' : Around)
      (heard heard' : ℕ → Option ℕ) : Type 0 where
    pub told : (c : Course) (b : Begun) (moments answers t left borne : ℕ) (clock : Option (List ℕ)) →
        Within c b moments answers borne →
        SoFar stack plans c b moments answers (from_ticks c t left moment me) borne (now g d a clock) →
        SoFar stack plans c b moments answers (from_ticks c t left moment (drop i me)) borne (now g' d' a' clock)
    pub rests : RestsAgain stack plans g d g' d'
    pub counted : d'.events ≡ d.events + i
    pub listening : (m : ℕ) → heard' m ≡ heard m

  module _ (moment : ℕ) (me : List ℕ) where
    pub ticked_none : (g : Peopled) (d : NodeDesk) (a : Around) (heard : ℕ → Option ℕ) →
        Ticked moment me 0 g g d d a a heard heard
    ticked_none g d a heard = record {
      told = λ c b moments answers t left borne clock within so. so;
      rests = λ mode n w rests. (w, rests);
      counted = omega arith;
      listening = λ m. refl;
    }

    module _ (i : ℕ) (lt : i < length me) {g g' : Peopled} {d d' : NodeDesk} {a a' : Around}
        {heard heard' : ℕ → Option ℕ}
        (ticked : Ticked moment me i g g' d d' a a' heard heard') where
      pub ticked_up : IsUp stack plans g d heard me → IsUp stack plans g' d' heard' (get_or me i 0 ∷ [])
      ticked_up up = up_at g' d' heard' me i lt (up_on g g' d d' heard heard' me up ticked.rests ticked.listening)

      module _ (g'' : Peopled) (d'' : NodeDesk) (a'' : Around) where
        pub ticked_then : (r : Result (Unit {0}) SinkError) →
            FedOn stack plans (Tick (get_or me i 0) moment) g' g'' d' d'' a' a'' r →
            (c : Course) (b : Begun) (moments answers t left borne : ℕ) (clock : Option (List ℕ)) →
            Within c b moments answers borne →
            SoFar stack plans c b moments answers (from_ticks c t left moment me) borne (now g d a clock) →
            Advances stack plans c b moments answers (from_ticks c t left moment (drop (i + 1) me)) borne
            (now g'' d'' a'' clock) r
        ticked_then r fed c b moments answers t left borne clock within so =
            fed c b moments answers borne (from_ticks c t left moment (drop (i + 1) me)) clock within
            (subst (λ ids. SoFar stack plans c b moments answers (from_ticks c t left moment ids) borne
            (now g' d' a' clock))
            (at_drop_more (λ ids. ids) me i 0 lt) (ticked.told c b moments answers t left borne clock within so))

        pub ticked_more : {heard'' : ℕ → Option ℕ} →
            FedOn stack plans (Tick (get_or me i 0) moment) g' g'' d' d'' a' a'' (Ok tt) →
            RestsAgain stack plans g' d' g'' d'' → d''.events ≡ d'.events + 1 → ((m : ℕ) → heard'' m ≡ heard' m) →
            Ticked moment me (i + 1) g g'' d d'' a a'' heard heard''
        ticked_more fed again counted same = record {
          told = ticked_then (Ok tt) fed;
          rests = again_then g g' g'' d d' d'' ticked.rests again;
          counted = (let n = ticked.counted in omega (arith, n, counted));
          listening = λ m. same m ∙ ticked.listening m;
        }

    module _ (i : ℕ) {g g' : Peopled} {d d' : NodeDesk} {a a' : Around} {heard heard' : ℕ → Option ℕ}
        (ticked : Ticked moment me i g g' d d' a a' heard heard') where
      pub ticked_all : length me ≤ i →
          (c : Course) (b : Begun) (moments answers t left borne : ℕ) (clock : Option (List ℕ)) →
          Within c b moments answers borne →
          SoFar stack plans c b moments answers (from_ticks c t left moment me) borne (now g d a clock) →
          SoFar stack plans c b moments answers (from_ticks c t left moment []) borne (now g' d' a' clock)
      ticked_all all c b moments answers t left borne clock within so =
          subst (λ ids. SoFar stack plans c b moments answers (from_ticks c t left moment ids) borne
          (now g' d' a' clock))
          (at_drop_all (λ ids. ids) me i all) (ticked.told c b moments answers t left borne clock within so)

  -- An event of the plan, if it is of an own member.
  module _ (me : List ℕ) (event : ScriptEvent) (g : Peopled) (d : NodeDesk) (a : Around) where
    pub own_then : (g' : Peopled) (d' : NodeDesk) (a' : Around) (r : Result (Unit {0}) SinkError) →
        list_any (λ id. member_of event == id) me ≡ true → FedOn stack plans event g g' d d' a a' r →
        (c : Course) (b : Begun) (moments answers borne : ℕ) (rest : List ℕ → List Heard → List Doing)
        (clock : Option (List ℕ)) →
        Within c b moments answers borne →
        SoFar stack plans c b moments answers (λ later more. own_doing me event ++ rest later more) borne
        (now g d a clock) →
        Advances stack plans c b moments answers rest borne (now g' d' a' clock) r
    own_then g' d' a' r own fed c b moments answers borne rest clock within so =
        fed c b moments answers borne rest clock within
        (subst (λ any. SoFar stack plans c b moments answers
        (λ later more. (if any then does event ∷ [] else []) ++ rest later more) borne (now g d a clock)) own so)

    pub own_else : list_any (λ id. member_of event == id) me ≡ false →
        (c : Course) (b : Begun) (moments answers borne : ℕ) (rest : List ℕ → List Heard → List Doing)
        (clock : Option (List ℕ)) →
        Within c b moments answers borne →
        SoFar stack plans c b moments answers (λ later more. own_doing me event ++ rest later more) borne
        (now g d a clock) →
        SoFar stack plans c b moments answers rest borne (now g d a clock)
    own_else other c b moments answers borne rest clock within so =
        subst (λ any. SoFar stack plans c b moments answers
        (λ later more. (if any then does event ∷ [] else []) ++ rest later more) borne (now g d a clock)) other so
