-- What follows as a member asks the network.
use Rattle.std.proofs.Common.{◌≡◌, ℕ, suc, ◌+◌, ◌<◌, ◌≤◌, List, [], ◌∷◌, length, get_or, take, drop, refl, sym, ap}
use Rattle.std.proofs.Common.{subst, ◌∙◌, arith, Option, Some, None}
use Rattle.std.proofs.lemmas.List.{at_drop_more, at_drop_all}
use Rattle.std.specs.Option.{option_map}
use Rattle.std.specs.Prelude.{IfSome, Result, Ok, Err}
use Rattle.outside.specs.Count.{next_count}
use Rattle.outside.specs.Links.{Network, Met, Broke, Came, Quiet, Receives, after_recv, faults_after_call, next_met}
use Rattle.outside.specs.declared.links.LinkError.{LinkError}
use Rattle.outside.specs.declared.links.LinkError.TheVariants as links
use Rattle.outside.specs.declared.sink.SinkError.{SinkError}
use Rattle.outside.specs.declared.sink.SinkError.TheVariants as sink
use Rattle.layer_mean.specs.Tree.{LayerTree}
use Rattle.script_mean.specs.declared.event.ScriptEvent.TheVariants.{Raw}
use Rattle.stack_mean.specs.Plan.{Plan}
use Rattle.run_mean.specs.Journal.{Heard, datagram, silence, failure}
use Rattle.outside.specs.Lines.{Wrote}
use Rattle.group_feed.specs.Standing.{Peopled}
use Rattle.node_laws.specs.Doings.{Doing, does, asks, bears}
use Rattle.node_laws.specs.Losses.{deaf_line}
use Rattle.node_laws.specs.Network.{Tells}
use Rattle.node_laws.specs.Stages.{Course, from_asking}
use Rattle.node_loop.specs.Around.{Around}
use Rattle.node_loop.specs.Bearing.{Bears}
use Rattle.node_loop.specs.Causes.{unwritten}
use Rattle.node_loop.specs.Course.{Advances, Asked, Begun, CutOff, DeafAt, FedOn, Hears, Now, SoFar, Within}
use Rattle.node_loop.specs.Course.{nothing_left, now}
use Rattle.node_loop.specs.Feeding.{IsUp, RestsAgain}
use Rattle.node_loop.specs.declared.desk.NodeDesk.{NodeDesk}
use Rattle.node_loop.specs.declared.error.NodeError.{NodeError}
use Rattle.node_loop.specs.declared.error.NodeError.TheVariants.{Link, Write, Memory}
use Rattle.node_loop.proofs.Steps.{asked_heard, asked_so, borne_so, cut_line, cut_none}
use Rattle.node_loop.proofs.Turning.{again_then, up_at, up_on}

-- A network that tells met what a member heard.
tells_met : (id : ℕ) (met : Met) (before after : Option Network) → IfSome before (λ n. next_met id n ≡ met) →
    after ≡ option_map (after_recv id) before →
    Tells (λ n n'. (next_met id n ≡ met) × (n' ≡ after_recv id n)) before after
tells_met id met None after met_is is = subst (Tells (λ n n'. (next_met id n ≡ met) × (n' ≡ after_recv id n)) None)
    (sym is) tt
tells_met id met (Some n) after met_is is =
    subst (Tells (λ n n'. (next_met id n ≡ met) × (n' ≡ after_recv id n)) (Some n)) (sym is) (met_is, refl)

-- A desk at which only the room and the tools may have changed.
pub record IsDesk (d d' : NodeDesk) : Type 0 where
  pub outputs : d'.outputs ≡ d.outputs
  pub events : d'.events ≡ d.events

-- Links met something as a member received, and this may have failed.
pub record Met_at (id : ℕ) (met : Met) (faults : ℕ) (a a' : Around) : Type 0 where
  pub output : a'.output ≡ a.output
  pub sends : a'.sends ≡ a.sends
  pub faults_are : a'.faults ≡ faults
  pub met_is : IfSome a.told (λ n. next_met id n ≡ met)
  pub told : a'.told ≡ option_map (after_recv id) a.told

module _ (id : ℕ) (into : List ℕ) (a a' : Around) (output : a'.output ≡ a.output) (sends : a'.sends ≡ a.sends) where
  pub met_came : (count : ℕ) (got : Option ℕ) → got ≡ Some count → a'.faults ≡ a.faults →
      Receives id into a.told a'.told (Ok got) →
      Met_at id (Came (take count into)) a.faults a a'
  met_came count got is faults receives =
      let told = subst (λ got. Receives id into a.told a'.told (Ok got)) is receives in
      record { output = output; sends = sends; faults_are = faults; met_is = told.0; told = told.1 }

  pub met_quiet : (got : Option ℕ) → got ≡ None → a'.faults ≡ a.faults → Receives id into a.told a'.told (Ok got) →
      Met_at id Quiet a.faults a a'
  met_quiet got is faults receives =
      let told = subst (λ got. Receives id into a.told a'.told (Ok got)) is receives in
      record { output = output; sends = sends; faults_are = faults; met_is = told.0; told = told.1 }

  pub met_broke : (e : LinkError) → e ≡ links.Failed → a'.faults ≡ faults_after_call {T = Option ℕ} a.faults (Err e) →
      Receives id into a.told a'.told (Err e) →
      Met_at id Broke (next_count a.faults) a a'
  met_broke e is faults receives =
      let told = subst (λ e. Receives id into a.told a'.told (Err e)) is receives in record {
        output = output;
        sends = sends;
        faults_are = faults ∙ ap (λ e. faults_after_call {T = Option ℕ} a.faults (Err e)) is;
        met_is = told.0;
        told = told.1;
      }

-- What writing answered, as a node's end.
abbrev pub cut_short : Result (Unit {0}) SinkError → Result (Unit {0}) NodeError
cut_short (Ok wrote) = Ok wrote
cut_short (Err cause) = Err (unwritten cause)

same_around : (a a' : Around) → a'.output ≡ a.output → a'.faults ≡ a.faults → a'.sends ≡ a.sends → a'.told ≡ a.told →
    a' ≡ a
same_around a a' output faults sends told = λ k.
    record { output = output k; faults = faults k; sends = sends k; told = told k }

module _ (stack : List LayerTree) (plans : List Plan) where
  pub same_rests : (g : Peopled) (d d' : NodeDesk) → IsDesk d d' → RestsAgain stack plans g d g d'
  same_rests g d d' same mode n w rests = (
    w,
    record {
      somewhere = rests.somewhere;
      places = ap (λ o. o.places) same.outputs ∙ rests.places;
    },
  )

  pub again_on : (g g' : Peopled) (d mid d' : NodeDesk) → IsDesk d mid → RestsAgain stack plans g mid g' d' →
      RestsAgain stack plans g d g' d'
  again_on g g' d mid d' same again = again_then stack plans g g g' d mid d' (same_rests g d mid same) again

  -- What is told as a member asks.
  abbrev pub AskedOn : (id before after : ℕ) → Peopled → Peopled → NodeDesk → NodeDesk → Around → Around →
      Result (Unit {0}) NodeError → Type 0
  AskedOn id before after g g' d d' a a' r = (c : Course) (b : Begun) (moments answers t borne : ℕ) (ids : List ℕ)
      (clock : Option (List ℕ)) →
      borne + before ≡ b.patience → Within c b moments (answers + 1) borne →
      SoFar stack plans c b moments answers (from_asking c t before (id ∷ ids)) borne (now g d a clock) →
      Hears stack plans c b moments answers (answers + 1) (λ left. from_asking c t left ids) after (now g' d' a' clock)
      r

  pub asked_on : (c : Course) (b : Begun) (m k borne left : ℕ) (rest : ℕ → List ℕ → List Heard → List Doing)
      (least most : ℕ) (g : Peopled) (d : NodeDesk) (a : Around)
      (clock : Option (List ℕ)) (r : Result (Unit {0}) SinkError) → k ≡ most → borne + left ≡ b.patience →
      Advances stack plans c b m k (rest left) borne (now g d a clock) r →
      Hears stack plans c b m least most rest left (now g d a clock) (cut_short r)
  asked_on c b m k borne left rest least most g d a clock (Ok done) is sum so = record {
    borne = borne;
    sum = sum;
    so = subst (λ k. SoFar stack plans c b m k (rest left) borne (now g d a clock)) is so;
  }
  asked_on c b m k borne left rest least most g d a clock (Err sink.Failed) is sum cut = cut
  asked_on c b m k borne left rest least most g d a clock (Err sink.Memory) is sum cut = cut

  module _ (id patience : ℕ) (g : Peopled) (d : NodeDesk) (a : Around) where
    -- a datagram came
    pub came : (bytes bytes' : List ℕ) (g' : Peopled) (mid d' : NodeDesk) (mids a' : Around)
        (r : Result (Unit {0}) SinkError) → IsDesk d mid →
        Met_at id (Came bytes) a.faults a mids → bytes' ≡ bytes →
        FedOn stack plans (Raw id bytes') g g' mid d' mids a' r →
        AskedOn id patience patience g g' d d' a a' (cut_short r)
    came bytes bytes' g' mid d' mids a' r same met is fed c b moments answers t borne ids clock sum within so =
        asked_on c b moments (answers + 1) borne patience (λ left. from_asking c t left ids) answers (answers + 1) g' d'
        a' clock r refl sum
        (fed c b moments (answers + 1) borne (from_asking c t patience ids) clock within
        (subst (λ bytes. SoFar stack plans c b moments (answers + 1)
        (λ later more. does (Raw id bytes) ∷ from_asking c t patience ids later more) borne
        (now g mid mids clock)) (sym is)
        (asked_so stack plans c b moments answers borne borne (from_asking c t patience (id ∷ ids))
        (λ later more. does (Raw id bytes) ∷ from_asking c t patience ids later more) id (datagram bytes) g d mid a mids
        clock (λ later more. refl) so
        (omega arith) same.outputs same.events met.output met.sends met.faults_are
        (tells_met id (Came bytes) a.told mids.told met.met_is met.told))))

    -- nothing came
    pub quiet : (d' : NodeDesk) (a' : Around) → IsDesk d d' → Met_at id Quiet a.faults a a' →
        AskedOn id patience patience g g d d' a a' (Ok tt)
    quiet d' a' same met c b moments answers t borne ids clock sum within so = record {
      borne = borne;
      sum = sum;
      so = asked_so stack plans c b moments answers borne borne (from_asking c t patience (id ∷ ids))
          (from_asking c t patience ids) id silence g d d' a a' clock
          (λ later more. refl) so (omega arith) same.outputs same.events met.output met.sends met.faults_are
          (tells_met id Quiet a.told a'.told met.met_is met.told);
    }

    -- memory ran out
    pub wanted : (into : List ℕ) (d' : NodeDesk) (a' : Around) (e : LinkError) → e ≡ links.Memory →
        a'.output ≡ a.output →
        a'.faults ≡ faults_after_call {T = Option ℕ} a.faults (Err e) → a'.sends ≡ a.sends →
        Receives id into a.told a'.told (Err e) →
        AskedOn id patience patience g g d d' a a' (Err Memory)
    wanted into d' a' e is output faults sends receives c b moments answers t borne ids clock sum within so =
        let few = within.all in
        cut_none stack plans c b moments answers borne (from_asking c t patience (id ∷ ids)) (now g d a clock)
        (record { turns = within.turns; all = omega (arith, few); patient = within.patient }) so a'
        (same_around a a' output (faults ∙ ap (λ e. faults_after_call {T = Option ℕ} a.faults (Err e)) is) sends
        (subst (λ e. Receives id into a.told a'.told (Err e)) is receives))

  -- it failed
  module _ (id : ℕ) (g : Peopled) (d d' : NodeDesk) (a mid a' : Around) (same : IsDesk d d')
      (met : Met_at id Broke (next_count a.faults) a mid)
      (faults : a'.faults ≡ mid.faults) (sends : a'.sends ≡ mid.sends) (told : a'.told ≡ mid.told) where
    broke : (c : Course) (b : Begun) (m k borne : ℕ) (rest other : List ℕ → List Heard → List Doing)
        (clock : Option (List ℕ)) →
        ((later : List ℕ) (more : List Heard) → rest later (failure ∷ more) ≡ asks id failure ∷ other later more) →
        SoFar stack plans c b m k rest borne (now g d a clock) →
        SoFar stack plans c b m (k + 1) other (borne + 1) (now g d' mid clock)
    broke c b m k borne rest other clock is so =
        asked_so stack plans c b m k borne (borne + 1) rest other id failure g d d' a mid clock is so refl same.outputs
        same.events
        met.output met.sends met.faults_are (tells_met id Broke a.told mid.told met.met_is met.told)

    one_less : (c : Course) (t before after : ℕ) (ids : List ℕ) → before ≡ suc after →
        (later : List ℕ) (more : List Heard) →
        from_asking c t before (id ∷ ids) later (failure ∷ more) ≡ asks id failure ∷ bears id ∷
        from_asking c t after ids later more
    one_less c t before after ids is later more = ap (λ n. from_asking c t n (id ∷ ids) later (failure ∷ more)) is

    none_more : (c : Course) (t before : ℕ) (ids : List ℕ) → before ≡ 0 → (later : List ℕ) (more : List Heard) →
        from_asking c t before (id ∷ ids) later (failure ∷ more) ≡ asks id failure ∷ nothing_left later more
    none_more c t before ids is later more = ap (λ n. from_asking c t n (id ∷ ids) later (failure ∷ more)) is

    cut_here : (before after : ℕ) (e : SinkError) → before ≡ after + 1 →
        Wrote (deaf_line id ∷ []) mid.output a'.output (Err e) →
        (c : Course) (b : Begun) (moments answers t borne : ℕ) (ids : List ℕ) (clock : Option (List ℕ)) →
        borne + before ≡ b.patience → Within c b moments (answers + 1) borne →
        SoFar stack plans c b moments answers (from_asking c t before (id ∷ ids)) borne (now g d a clock) →
        CutOff stack plans c b e a' clock
    cut_here before after e more wrote c b moments answers t borne ids clock sum within so =
        cut_line stack plans c b moments (answers + 1) (borne + 1) (from_asking c t after ids) id g d' mid a' clock e
        (record { turns = within.turns; all = within.all; patient = omega (arith, sum, more) })
        (broke c b moments answers borne (from_asking c t before (id ∷ ids))
        (λ later more. bears id ∷ from_asking c t after ids later more) clock
        (one_less c t before after ids (omega (arith, more))) so) wrote faults sends told

    deaf_here : (before : ℕ) → before ≡ 0 → a'.output ≡ mid.output →
        (c : Course) (b : Begun) (moments answers t borne : ℕ) (ids : List ℕ) (clock : Option (List ℕ)) →
        borne + before ≡ b.patience →
        SoFar stack plans c b moments answers (from_asking c t before (id ∷ ids)) borne (now g d a clock) →
        DeafAt stack plans c b moments (answers + 1) (now g d' a' clock)
    deaf_here before none output c b moments answers t borne ids clock sum so = record {
      so = asked_so stack plans c b moments answers borne (b.patience + 1) (from_asking c t before (id ∷ ids))
          nothing_left id failure g d d' a a' clock
          (none_more c t before ids none) so (omega (arith, sum, none)) same.outputs same.events
          (output ∙ met.output) (sends ∙ met.sends) (faults ∙ met.faults_are)
          (tells_met id Broke a.told a'.told met.met_is (told ∙ met.told));
      before = so.heard;
      last = asked_heard stack plans c b moments answers borne (b.patience + 1) (from_asking c t before (id ∷ ids))
          nothing_left id failure g d d' a a' clock
          (none_more c t before ids none) so (omega (arith, sum, none)) same.outputs same.events
          (output ∙ met.output) (sends ∙ met.sends) (faults ∙ met.faults_are)
          (tells_met id Broke a.told a'.told met.met_is (told ∙ met.told));
    }

    pub failed : (before after : ℕ) (r : Result (Unit {0}) NodeError) →
        Bears (deaf_line id) before after mid.output a'.output r →
        AskedOn id before after g g d d' a a' r
    failed before after (Ok done) bore c b moments answers t borne ids clock sum within so =
        let more = bore.0 in record {
          borne = borne + 1;
          sum = omega (arith, sum, more);
          so = borne_so stack plans c b moments (answers + 1) (borne + 1) (from_asking c t after ids) id g d' d' mid a'
              clock
              (broke c b moments answers borne (from_asking c t before (id ∷ ids))
              (λ later more. bears id ∷ from_asking c t after ids later more) clock
              (one_less c t before after ids (omega (arith, more))) so) refl refl bore.1 faults sends told;
        }
    failed before after (Err Link) bore c b moments answers t borne ids clock sum within so =
        let none = bore.0 in record {
          answers = answers + 1;
          begun = omega arith;
          within = omega arith;
          deaf = deaf_here before none bore.1 c b moments answers t borne ids clock sum so;
        }
    failed before after (Err Write) bore c b moments answers t borne ids clock sum within so =
        cut_here before after sink.Failed bore.0 bore.1 c b moments answers t borne ids clock sum within so
    failed before after (Err Memory) bore c b moments answers t borne ids clock sum within so =
        cut_here before after sink.Memory bore.0 bore.1 c b moments answers t borne ids clock sum within so

  -- i members asked.
  pub record AskedSome (me : List ℕ) (i before after : ℕ) (g g' : Peopled) (d d' : NodeDesk) (a a' : Around)
      (heard heard' : ℕ → Option ℕ) : Type 0 where
    pub told : (c : Course) (b : Begun) (moments answers t borne : ℕ) (clock : Option (List ℕ)) →
        borne + before ≡ b.patience →
        Within c b moments (answers + length me) borne →
        SoFar stack plans c b moments answers (from_asking c t before me) borne (now g d a clock) →
        Asked stack plans c b moments (answers + i) (λ left. from_asking c t left (drop i me)) after
        (now g' d' a' clock)
    pub rests : RestsAgain stack plans g d g' d'
    pub counted : d'.events ≤ d.events + i
    pub listening : (m : ℕ) → heard' m ≡ heard m

  -- What is told of asking all.
  abbrev pub AskedAll : (me : List ℕ) (before after : ℕ) → Peopled → Peopled → NodeDesk → NodeDesk → Around → Around →
      Result (Unit {0}) NodeError → Type 0
  AskedAll me before after g g' d d' a a' r = (c : Course) (b : Begun) (moments answers t borne : ℕ)
      (clock : Option (List ℕ)) →
      borne + before ≡ b.patience → Within c b moments (answers + length me) borne →
      SoFar stack plans c b moments answers (from_asking c t before me) borne (now g d a clock) →
      Hears stack plans c b moments answers (answers + length me) (λ left. from_asking c t left []) after
      (now g' d' a' clock) r

  -- The members that asked may be said otherwise.
  pub all_asked : (asking others : List ℕ) (before after : ℕ) (g g' : Peopled) (d d' : NodeDesk) (a a' : Around)
      (r : Result (Unit {0}) NodeError) → asking ≡ others → AskedAll asking before after g g' d d' a a' r →
      AskedAll others before after g g' d d' a a' r
  all_asked asking others before after g g' d d' a a' r is told =
      subst (λ ids. AskedAll ids before after g g' d d' a a' r) is told

  -- An end comes within more answers, too.
  pub wider : (c : Course) (b : Begun) (m least most least' most' after after' : ℕ)
      (rest rest' : ℕ → List ℕ → List Heard → List Doing) (at : Now) (e : NodeError) →
      least' ≤ least → most ≤ most' → Hears stack plans c b m least most rest after at (Err e) →
      Hears stack plans c b m least' most' rest' after' at (Err e)
  wider c b m least most least' most' after after' rest rest' at Link low high hears = let l = hears.begun in let w =
      hears.within in record {
        answers = hears.answers;
        begun = omega (arith, l, low);
        within = omega (arith, w, high);
        deaf = hears.deaf;
      }
  wider c b m least most least' most' after after' rest rest' at Write low high cut = cut
  wider c b m least most least' most' after after' rest rest' at Memory low high cut = cut

  module _ (me : List ℕ) (before : ℕ) where
    pub asked_none : (g : Peopled) (d : NodeDesk) (a : Around) (heard : ℕ → Option ℕ) →
        AskedSome me 0 before before g g d d a a heard heard
    asked_none g d a heard = record {
      told = λ c b moments answers t borne clock sum within so. record {
        borne = borne;
        sum = sum;
        so = subst (λ k. SoFar stack plans c b moments k (from_asking c t before me) borne (now g d a clock))
            (omega arith) so;
      };
      rests = λ mode n w rests. (w, rests);
      counted = omega arith;
      listening = λ m. refl;
    }

    module _ (i : ℕ) (lt : i < length me) {mid : ℕ} {g g' : Peopled} {d d' : NodeDesk} {a a' : Around}
        {heard heard' : ℕ → Option ℕ}
        (some : AskedSome me i before mid g g' d d' a a' heard heard') where
      pub asked_up : IsUp stack plans g d heard me → IsUp stack plans g' d' heard' (get_or me i 0 ∷ [])
      asked_up up = up_at stack plans g' d' heard' me i lt
          (up_on stack plans g g' d d' heard heard' me up some.rests some.listening)

      module _ (after : ℕ) (g'' : Peopled) (d'' : NodeDesk) (a'' : Around) where
        asked_next : (r : Result (Unit {0}) NodeError) → AskedOn (get_or me i 0) mid after g' g'' d' d'' a' a'' r →
            (c : Course) (b : Begun) (moments answers t borne : ℕ) (clock : Option (List ℕ)) →
            borne + before ≡ b.patience →
            Within c b moments (answers + length me) borne →
            SoFar stack plans c b moments answers (from_asking c t before me) borne (now g d a clock) →
            Hears stack plans c b moments (answers + i) ((answers + i) + 1)
            (λ left. from_asking c t left (drop (i + 1) me)) after (now g'' d'' a'' clock) r
        asked_next r asked c b moments answers t borne clock sum within so =
            let here = some.told c b moments answers t borne clock sum within so in
            let all = within.all in
            let sum = here.sum in
            asked c b moments (answers + i) t here.borne (drop (i + 1) me) clock here.sum
            (record { turns = within.turns; all = omega (arith, all, lt); patient = omega (arith, sum) })
            (subst (λ ids. SoFar stack plans c b moments (answers + i) (from_asking c t mid ids) here.borne
            (now g' d' a' clock))
            (at_drop_more (λ ids. ids) me i 0 lt) here.so)

        pub asked_end : (e : NodeError) → AskedOn (get_or me i 0) mid after g' g'' d' d'' a' a'' (Err e) →
            AskedAll me before after g g'' d d'' a a'' (Err e)
        asked_end e asked c b moments answers t borne clock sum within so =
            wider c b moments (answers + i) ((answers + i) + 1) answers (answers + length me) after after
            (λ left. from_asking c t left (drop (i + 1) me)) (λ left. from_asking c t left []) (now g'' d'' a'' clock) e
            (omega arith) (omega (arith, lt))
            (asked_next (Err e) asked c b moments answers t borne clock sum within so)

        pub asked_more : {heard'' : ℕ → Option ℕ} → AskedOn (get_or me i 0) mid after g' g'' d' d'' a' a'' (Ok tt) →
            RestsAgain stack plans g' d' g'' d'' → d''.events ≤ d'.events + 1 → ((m : ℕ) → heard'' m ≡ heard' m) →
            AskedSome me (i + 1) before after g g'' d d'' a a'' heard heard''
        asked_more asked again counted same = record {
          told = λ c b moments answers t borne clock sum within so.
              subst (λ k. Asked stack plans c b moments k (λ left. from_asking c t left (drop (i + 1) me)) after
              (now g'' d'' a'' clock)) (omega arith)
              (asked_next (Ok tt) asked c b moments answers t borne clock sum within so);
          rests = again_then stack plans g g' g'' d d' d'' some.rests again;
          counted = (let n = some.counted in omega (arith, n, counted));
          listening = λ m. same m ∙ some.listening m;
        }

    module _ (i after : ℕ) {g g' : Peopled} {d d' : NodeDesk} {a a' : Around} {heard heard' : ℕ → Option ℕ}
        (some : AskedSome me i before after g g' d d' a a' heard heard') where
      pub asked_all : i ≡ length me → AskedAll me before after g g' d d' a a' (Ok tt)
      asked_all is c b moments answers t borne clock sum within so =
          let all : length me ≤ i = omega (arith, is) in
          subst (λ n. Asked stack plans c b moments (answers + n) (λ left. from_asking c t left []) after
          (now g' d' a' clock)) is
          (subst (λ ids. Asked stack plans c b moments (answers + i) (λ left. from_asking c t left ids) after
          (now g' d' a' clock))
          (at_drop_all (λ ids. ids) me i all) (some.told c b moments answers t borne clock sum within so))
