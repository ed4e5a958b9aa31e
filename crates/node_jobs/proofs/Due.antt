-- A node ends with the status that is due.
use Rattle.std.proofs.Common.{arith, ◌≡◌, refl, sym, ◌∙◌, ap, subst, ℕ, ◌+◌, ◌*◌, ◌<◌, ◌≤◌, true, List, [], ◌∷◌, length}
use Rattle.std.proofs.Common.{Option, Some, None, inl, inr, ⊎_elim, mul-le-mul_right}
use Rattle.std.specs.Prelude.{◌⊎◌, ◌&&◌, nat_lt, if◌then◌else◌}
use Rattle.std.specs.List.{AllByRecursion, list_all}
use Rattle.std.proofs.lemmas.Bool.{le-leb, lt-ltb}
use Rattle.std.proofs.lemmas.List.Elements.{recursion_from_All}
use Rattle.clap.specs.Walk.{Text}
use Rattle.outside.specs.Count.{Rose, last_count}
use Rattle.outside.specs.Links.{Network}
use Rattle.outside.specs.Shelf.{Shelved}
use Rattle.script_mean.specs.Script.{no_member}
use Rattle.script_mean.specs.NodePlan.{node_plan}
use Rattle.stack_mean.specs.Acceptance.{rows_of, most_rows}
use Rattle.stack_mean.specs.Plans.{plans_of}
use Rattle.job_mean.specs.Job.{job_of_words}
use Rattle.end_mean.specs.Status.{FileFault, SecondFault, Ended, done, file_refused, second_refused, read_failed}
use Rattle.end_mean.specs.Status.{write_failed, link_failed, no_memory, misspelled, too_many_rows, status_number}
use Rattle.job_ends.specs.Printed.{printed_text}
use Rattle.program_mean.specs.Headline.{Run}
use Rattle.output_mean.specs.Judged.{Means, Refuses}
use Rattle.group_mean.specs.Node.{failures, receiving}
use Rattle.output_mean.specs.Output.{IsNode}
use Rattle.program_mean.specs.Second.{after_plan, crowd_fault}
use Rattle.program_laws.proofs.Files.{one_meaning, good_or_refused}
use Rattle.program_laws.proofs.Ends.{files_are_due, seconds_are_due, misses_are_due, second_misses_are_due}
use Rattle.outside.specs.Said.{Errors}
use Rattle.job_ends.specs.Comes.{Around, Finds, Beside, BadFile, BadSecond, Unfound}
use Rattle.job_ends.specs.Due.{Due, NoPutFailed}
use Rattle.job_ends.specs.Shown.{Said}
use Rattle.job_ends.proofs.Due.{status_said}
use Rattle.node_laws.specs.Doings.{doings_of, heard_in}
use Rattle.node_laws.specs.Losses.{failures_in}
use Rattle.node_laws.specs.Network as network
use Rattle.node_loop.specs.Serve.{Task, Whereabouts, MadeAllTurns, WentDeaf, ListenFailed, RanOver, after_listens}
use Rattle.node_loop.specs.Serve.{first_of_plan, flags_of}
use Rattle.node_jobs.specs.Comes.{Beyond, Node, Good, Ran, Lost, NodeComes, job_of, task_of, before, following}
use Rattle.node_jobs.specs.Due.{IsBorne, LinksBear, CallsFor, NodeExact}
use Rattle.node_jobs.specs.Seen.{run_of, NodeSeen}
use Rattle.node_jobs.proofs.Heard.{failures_append_one}
use Rattle.node_jobs.proofs.Network.{fewer_fail, none_before, receives_failed}
use Rattle.node_jobs.proofs.Seen.{deaf_hears}

-- a count that rose by some rose
rose_by : (before after more : ℕ) → 1 ≤ more → ((after ≡ before + more) ⊎ (after ≡ last_count)) → Rose before after
rose_by before after more some (inl is) = inl (omega (arith, some, is))
rose_by before after more some (inr last) = inr last

-- a part of the turns has fewer answers than all
within_all : (clock turns me heard : ℕ) → clock ≤ turns → heard ≤ clock * me → heard ≤ turns * me
within_all clock turns me heard few within = let more = mul-le-mul_right me few in omega (arith, within, more)

-- good files aren't refused

own_members : (count : ℕ) (me : List ℕ) → AllByRecursion (λ id. id < count) me → list_all (λ id. nat_lt id count) me ≡
    true
own_members count [] h = refl
own_members count (id ∷ me) h =
    ap (λ b. b && list_all (λ id. nat_lt id count) me) (lt-ltb id count h.0) ∙ own_members count me h.1

none_refused : (file second me : List ℕ) (node : IsNode file second me) → after_plan node.stack me (node_plan second) ≡
    None
none_refused file second me node =
    let count = length node.plan.peers in
    ap (after_plan node.stack me) node.spelled
    ∙ ap (λ b. if b then crowd_fault node.stack count else Some (misspelled (no_member 1)))
    (own_members count me (recursion_from_All (λ id. id < count) me node.members))
    ∙ ap (λ b. if b then None else Some too_many_rows) (le-leb (rows_of node.stack count) most_rows node.room)

module _ (w : Node) (shelf : Shelved) (good : Good w (Some shelf)) where
  not_bad_file : (fault : FileFault) → BadFile (job_of w) (Some shelf) fault → ⊥
  not_bad_file fault b =
      let same : Some good.file ≡ Some b.file = sym good.found ∙ b.found in
      let file : b.file ≡ good.file = cc same in
      good_or_refused good.file good.node.stack fault good.node.means
      (subst (λ file. Refuses file fault) file b.refused)

  not_bad_second : (fault : SecondFault) → BadSecond (job_of w) (Some shelf) fault → ⊥
  not_bad_second fault b =
      let same : Some good.file ≡ Some b.file = sym good.found ∙ b.found in
      let file : b.file ≡ good.file = cc same in
      let beside : Some good.second ≡ Some b.second = sym good.beside ∙ b.beside in
      let second : b.second ≡ good.second = cc beside in
      let stack : b.stack ≡ good.node.stack =
      one_meaning good.file b.stack good.node.stack (subst (λ file. Means file b.stack) file b.means)
      good.node.means in
      let refused : after_plan good.node.stack w.me (node_plan good.second) ≡ Some fault =
      (λ k. after_plan (sym stack k) w.me (node_plan (sym second k))) ∙ b.refused in
      absurd (cc (sym refused ∙ none_refused good.file good.second w.me good.node))

  not_unfound : Unfound (job_of w) (Some shelf) → ⊥
  not_unfound (inl none) = absurd (cc (sym good.found ∙ none))
  not_unfound (inr (inl n)) = absurd (cc (sym good.beside ∙ n.none))
  not_unfound (inr (inr n)) = absurd (cc n.none)

-- a network that bears a node doesn't end it

unlistened : (w : Node) (told told_after : Option Network) (faults faults_after : ℕ) (task : Task) →
    task.words.me ≡ w.me →
    ((faults_after ≡ faults + 1) ⊎ (faults_after ≡ last_count)) → network.Tells (ListenFailed task) told told_after →
    LinksBear w told faults faults_after → ⊥
unlistened w None None faults after task me rose t bears = bears (rose_by faults after 1 (omega arith) rose)
unlistened w None (Some n') faults after task me rose t bears = t
unlistened w (Some n) None faults after task me rose t bears = t
unlistened w (Some n) (Some n') faults after task me rose t bears =
    none_before t.count (length w.me) n.listens (subst (λ me. t.count < length me) me t.within) bears.listens
    t.listens

module _ (w : Node) (told : Option Shelved) (good : Good w told) (a b : Whereabouts)
    (d : WentDeaf (task_of w told good) a b)
    (all : heard_in (doings_of good.node.plan w.me w.turns w.patience d.s.clock d.s.heard) ≡ d.s.heard) where
  too_many_failed : failures d.s.heard ≡ w.patience + 1
  too_many_failed = ap failures d.last ∙ failures_append_one d.before ∙ ap (λ n. n + 1) d.borne

  deaf_not_borne : (n n' : Network) → RanOver (task_of w told good) d.s n n' → IsBorne w n → ⊥
  deaf_not_borne n n' r borne =
      let stack = good.node.stack in
      let failed : failures_in (flags_of (length d.s.heard) n.recvs) ≡ failures d.s.heard =
      subst (λ heard. failures_in (flags_of (length heard) n.recvs) ≡ failures heard) all
      (receives_failed w.mode stack (plans_of stack) (first_of_plan stack good.node.plan)
      (doings_of good.node.plan w.me w.turns w.patience d.s.clock d.s.heard)
      r.flags (after_listens good.node.plan.peers w.me n) n' r.goes) in
      let fewer = fewer_fail (length d.s.heard) (w.turns * length (receiving w.me)) n.recvs
      (within_all (length d.s.clock) w.turns (length (receiving w.me)) (length d.s.heard) d.turns d.within) in
      let many = too_many_failed in
      let most = borne.receives in
      omega (arith, failed, fewer, many, most)

  deaf_unborne : (m m' : Option Network) (faults after : ℕ) →
      ((after ≡ faults + failures d.s.heard) ⊎ (after ≡ last_count)) →
      network.Tells (RanOver (task_of w told good) d.s) m m' → LinksBear w m faults after → ⊥
  deaf_unborne None None faults after rose t bears = let many = too_many_failed in
      bears (rose_by faults after (failures d.s.heard) (omega (arith, many)) rose)
  deaf_unborne None (Some n') faults after rose t bears = t
  deaf_unborne (Some n) None faults after rose t bears = t
  deaf_unborne (Some n) (Some n') faults after rose t bears = deaf_not_borne n n' t bears

-- what a good node's job gave

data Finished (w : Node) (a : Around) (n : Beyond) (end : Ended) : Type 0 where
  made : end ≡ done → Ran w a n MadeAllTurns → Finished w a n end
  wanted : end ≡ no_memory → Finished w a n end

module _ (words : List Text) (w : Node) (a : Around) (n : Beyond) (e : Errors)
    (is : job_of_words words ≡ Some (job_of w))
    (s : NodeSeen words w a n e) where
  module _ (shelf : Shelved) (told : a.told ≡ Some shelf) where
    good_finished : Good w (Some shelf) → NoPutFailed a → LinksBear w n.told n.faults n.faults_after → (end : Ended) →
        NodeComes w a n end →
        Finished w a n end
    good_finished good puts bears done r = made refl r
    good_finished good puts bears (file_refused fault) c =
        absurd (not_bad_file w shelf good fault (subst (λ t. BadFile (job_of w) t fault) told c.came.cause))
    good_finished good puts bears (second_refused fault) c =
        absurd (not_bad_second w shelf good fault (subst (λ t. BadSecond (job_of w) t fault) told c.came.cause))
    good_finished good puts bears read_failed c =
        absurd (not_unfound w shelf good (subst (Unfound (job_of w)) told c.came.unfound))
    good_finished good puts bears write_failed r = absurd (puts r.served.written.rose)
    good_finished good puts bears link_failed r = absurd (lost r.served) where
      lost : Lost (task_of w a.told r.good) (before a n) (following a n) → ⊥
      lost (inl c) = unlistened w n.told n.told_after n.faults n.faults_after (task_of w a.told r.good) refl c.faults
          c.network bears
      lost (inr d) = deaf_unborne w a.told r.good (before a n) (following a n) d
          (deaf_hears words w a n is (record { good = r.good; sound = r.sound; served = d })) n.told n.told_after
          n.faults n.faults_after d.told.faults d.told.network bears
    good_finished good puts bears no_memory r = wanted refl
    good_finished good puts bears _ r = absurd r

    good_due : Good w (Some shelf) → NoPutFailed a → LinksBear w n.told n.faults n.faults_after → (end : Ended) →
        NodeComes w a n end → Said end e →
        Due 0 e.status
    good_due good puts bears end came said = finished (good_finished good puts bears end came) where
      finished : Finished w a n end → Due 0 e.status
      finished (made end_is r) = subst (λ end. Due (status_number end) e.status) end_is (status_said end e said)
      finished (wanted end_is) =
          ⊎_elim inr inr (subst (λ end. Due (status_number end) e.status) end_is (status_said end e said))

    -- the files of the run are what the next reads find
    file_is : (found : Option (List ℕ)) → Finds (job_of w) (Some shelf) found → s.file ≡ found
    file_is found finds =
        let met : Finds (job_of w) (Some shelf) s.file = subst (λ t. Finds (job_of w) t s.file) told s.met in
        sym met ∙ finds

    second_is : (found : Option (List ℕ)) → Beside (job_of w) (Some shelf) found → s.second ≡ found
    second_is found finds =
        let met : Beside (job_of w) (Some shelf) s.second = subst (λ t. Beside (job_of w) t s.second) told s.beside in
        sym met ∙ finds

    abbrev the_run : Run
    the_run = run_of words a n e s.file s.second s.surroundings s.sent s.written s.said

    unfound_due : Unfound (job_of w) (Some shelf) → Due 4 e.status
    unfound_due (inl none) = misses_are_due printed_text the_run (job_of w) s.ran is (file_is None none)
    unfound_due (inr (inl m)) =
        second_misses_are_due printed_text the_run (job_of w) m.file m.stack s.ran is (file_is (Some m.file) m.found)
        m.means (second_is None m.none)
    unfound_due (inr (inr m)) = absurd (cc m.none)

    due : (end : Ended) → NodeComes w a n end → Said end e → (called : Ended) → CallsFor w a n shelf called →
        Due (status_number called) e.status
    due end came said done c = good_due c.0 c.1 c.2 end came said
    due end came said (file_refused fault) b =
        files_are_due printed_text the_run (job_of w) b.file fault s.ran is b.reads (file_is (Some b.file) b.found)
        b.refused
    due end came said (second_refused fault) b =
        seconds_are_due printed_text the_run (job_of w) b.file b.second b.stack fault s.ran is
        (file_is (Some b.file) b.found)
        (second_is (Some b.second) b.beside) b.means b.refused
    due end came said read_failed u = unfound_due u
    due end came said _ c = absurd c

    complete : (end : Ended) → NodeComes w a n end → Said end e → Good w (Some shelf) → NoPutFailed a →
        LinksBear w n.told n.faults n.faults_after →
        Ran w a n MadeAllTurns ⊎ (e.status ≡ 7)
    complete end came said good puts bears = finished (good_finished good puts bears end came) where
      finished : Finished w a n end → Ran w a n MadeAllTurns ⊎ (e.status ≡ 7)
      finished (made end_is r) = inl r
      finished (wanted end_is) =
          ⊎_elim inr inr (subst (λ end. Due (status_number end) e.status) end_is (status_said end e said))

  pub node_exact : (end : Ended) → NodeComes w a n end → Said end e → NodeExact w a n e.status
  node_exact end came said = record {
    due = λ shelf called told calls. due shelf told end came said called calls;
    complete = λ shelf good told puts bears. complete shelf told end came said good puts bears;
  }
