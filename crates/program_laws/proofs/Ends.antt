-- The ends of a run exclude each other.
use Rattle.std.proofs.Common.{arith, ◌≡◌, refl, sym, ◌∙◌, ap, subst, ℕ, ◌+◌, ◌<◌, true, List, [], ◌∷◌, ◌++◌, length}
use Rattle.std.proofs.Common.{Option, Some, None, inl, inr}
use Rattle.std.specs.Prelude.{nat_lt, IsSomeAnd, Result, Ok, Err, if◌then◌else◌}
use Rattle.clap.specs.Walk.{Text}
use Rattle.layer_mean.specs.Tree.{LayerTree}
use Rattle.script_mean.specs.NodePlan.{node_plan}
use Rattle.script_mean.specs.Script.{script_of}
use Rattle.script_mean.specs.declared.script.Script.{Script}
use Rattle.stack_mean.specs.Acceptance.{rows_of}
use Rattle.std.proofs.lemmas.Bool.{le-leb, lt-ltb}
use Rattle.std.proofs.lemmas.List.Elements.{All-head, All-tail}
use Rattle.std.specs.List.{All, fold, list_all}
use Rattle.job_mean.specs.Job.{Job, check, synth, pack, replay, replay_with, explain, load, node, audit, job_of_words}
use Rattle.end_mean.specs.Status.{FileFault, SecondFault, Ended, done, breached, file_refused, report_refused}
use Rattle.end_mean.specs.Status.{words_refused, second_refused, traces_refused, read_failed, write_failed, link_failed}
use Rattle.end_mean.specs.Status.{no_memory, status_number}
use Rattle.audit_mean.specs.Finding.{AuditFault, audit_of}
use Rattle.audit_mean.specs.declared.law.Law.{Law}
use Rattle.audit_mean.specs.declared.law.Finding.{Finding}
use Rattle.run_mean.specs.Journal.{Heard, failure}
use Rattle.pack_mean.specs.Accepted.{PackFault, Accepts, IsFault}
use Rattle.output_mean.specs.Judged.{Means, IsGood, Refuses}
use Rattle.group_mean.specs.Node.{is_failure, failures}
use Rattle.group_mean.specs.Room.{HasRoom}
use Rattle.output_mean.specs.Output.{IsNode}
use Rattle.program_mean.specs.Second.{crowd_fault, after_script, after_plan, second_fault}
use Rattle.program_mean.specs.Headline.{Printer, Counted, Run, Fails, IsSound, RoseBy, second_for, third_for}
use Rattle.program_mean.specs.Headline.{TakesTraces, WritesOf, OfJob, whole_end, WritesWhole, gone_on, HeardAll, Began}
use Rattle.program_mean.specs.Headline.{ReadsStack, RefusesFile, ReadsTraces, IsNoReport, RefusesReport, RefusesSecond}
use Rattle.program_mean.specs.Headline.{AreGood, RefusesTraces, Unread, ReadsFailed, LinksFail, Ends, Says, whole}
use Rattle.program_mean.specs.Headline.{cut_off, out_of_memory}
use Rattle.program_laws.specs.OneEnd.{Counts, CountsAll, OneEnd, Came, WordsAreDue, FilesAreDue, ReportsAreDue}
use Rattle.program_laws.specs.OneEnd.{MissesAreDue, IsAlone, GoodAreDue, SecondMissesAreDue, SecondsAreDue}
use Rattle.program_laws.specs.OneEnd.{TracesAreDue, ThirdMissesAreDue}
use Rattle.program_laws.proofs.Files.{one_meaning, one_refusal, good_or_refused}
use Rattle.program_laws.proofs.Traces.{one_traces_fault, accepted_or_refused}

-- A value that is there, with what is known of it, may be taken.
known : {A : Type 0} (o : Option A) (P : A → Type 0) (C : Type 0) → IsSomeAnd o P → ((x : A) → o ≡ Some x → P x → C) → C
known None P C h go = absurd h
known (Some x) P C h go = go x refl h

some_once : {A : Type 0} (x y : A) → Some x ≡ Some y → x ≡ y
some_once x y e = cc

-- A job, its file and its second file, as a run met them.
record Met (r : Run) (Holds : Job → (file second : List ℕ) → Type 0) : Type 0 where
  job : Job
  is_job : job_of_words r.words ≡ Some job
  sound : IsSound r.reads
  file : List ℕ
  is_file : r.file ≡ Some file
  second : List ℕ
  is_second : second_for job r.second ≡ Some second
  holds : Holds job file second

met : (r : Run) (Holds : Job → (file second : List ℕ) → Type 0) → OfJob r Holds → Met r Holds
met r Holds h = known (job_of_words r.words) _ (Met r Holds) h (λ job is_job x.
    known r.file _ (Met r Holds) x.1 (λ file is_file y.
    known (second_for job r.second) _ (Met r Holds) y (λ second is_second z. record {
      job = job;
      is_job = is_job;
      sound = x.0;
      file = file;
      is_file = is_file;
      second = second;
      is_second = is_second;
      holds = z;
    })))

-- Two facts of a run's job and files are of the same job and files.
both_of : (r : Run) (P Q : Job → (file second : List ℕ) → Type 0) → Met r P → Met r Q →
    Met r (λ job file second. P job file second × Q job file second)
both_of r P Q m n =
    let job : n.job ≡ m.job = some_once n.job m.job (sym n.is_job ∙ m.is_job) in
    let file : n.file ≡ m.file = some_once n.file m.file (sym n.is_file ∙ m.is_file) in
    let second : n.second ≡ m.second =
    some_once n.second m.second (sym n.is_second ∙ ap (λ j. second_for j r.second) job ∙ m.is_second) in record {
      job = m.job;
      is_job = m.is_job;
      sound = m.sound;
      file = m.file;
      is_file = m.is_file;
      second = m.second;
      is_second = m.is_second;
      holds = (
        m.holds,
        subst {A = Job × List ℕ × List ℕ} (λ x. Q x.0 x.1 x.2) (λ k. (job k, file k, second k))
            n.holds,
      );
    }

-- What follows from two facts of one job and its files follows for a run that has both.
against : (r : Run) (P Q : Job → (file second : List ℕ) → Type 0) (C : Type 0) → Met r P → Met r Q →
    ((job : Job) (file second : List ℕ) → P job file second → Q job file second → C) → C
against r P Q C m n go = let b = both_of r P Q m n in go b.job b.file b.second b.holds.0 b.holds.1

-- The finding of a law on a file that is a report.
record IsReport (law : Law) (file : List ℕ) : Type 0 where
  finding : Finding
  found : audit_of law file ≡ Ok finding

-- What a job needs of its files.
abbrev Good : (third : Option (List ℕ)) → Job → (file second : List ℕ) → Type 0
Good third (audit name law) file second = IsReport law file
Good third (replay_with name script given events wire count) file second =
    AreGood (replay_with name script given events wire count) file second × TakesTraces file third
Good third job file second = AreGood job file second

good_stack : (third : Option (List ℕ)) (job : Job) (file second : List ℕ) → ReadsStack job →
    Good third job file second → AreGood job file second
good_stack third (check name) file second reads good = good
good_stack third (synth name) file second reads good = good
good_stack third (pack name) file second reads good = good
good_stack third (replay name script mode events wire count) file second reads good = good
good_stack third (explain name script) file second reads good = good
good_stack third (load name seed events members raw mode) file second reads good = good
good_stack third (node name plan turns me patience mode) file second reads good = good
good_stack third (audit name law) file second reads good = absurd reads
good_stack third (replay_with name script given events wire count) file second reads good = good.0

-- A job that is refused for its second file or its members reads a stack.
reads_stack : (job : Job) (stack : List LayerTree) (second : List ℕ) (fault : SecondFault) →
    second_fault job stack second ≡ Some fault →
    ReadsStack job
reads_stack (check name) stack second fault refused = tt
reads_stack (synth name) stack second fault refused = tt
reads_stack (pack name) stack second fault refused = tt
reads_stack (replay name script mode events wire count) stack second fault refused = tt
reads_stack (replay_with name script given events wire count) stack second fault refused = tt
reads_stack (explain name script) stack second fault refused = tt
reads_stack (load name seed events members raw mode) stack second fault refused = tt
reads_stack (node name plan turns me patience mode) stack second fault refused = tt
reads_stack (audit name law) stack second fault refused = absurd (cc refused)

roomy : (stack : List LayerTree) (n : ℕ) → HasRoom stack n → crowd_fault stack n ≡ None
roomy stack n room = rw (le-leb (rows_of stack n) 8192 room) refl

below_all : (n : ℕ) (ids : List ℕ) → All (λ id. id < n) ids → list_all (λ id. nat_lt id n) ids ≡ true
below_all n [] all = refl
below_all n (id ∷ ids) all =
    rw (lt-ltb id n (All-head (λ x. x < n) id ids all)) (below_all n ids (All-tail (λ x. x < n) id ids all))

script_fine : (stack : List LayerTree) (text : List ℕ) (s : Script) → script_of text ≡ Ok s → HasRoom stack s.members →
    after_script stack (script_of text) ≡ None
script_fine stack text s is room = ap (after_script stack) is ∙ roomy stack s.members room

node_fine : (file text : List ℕ) (me : List ℕ) (n : IsNode file text me) → after_plan n.stack me (node_plan text) ≡ None
node_fine file text me n =
    ap (after_plan n.stack me) n.spelled
    ∙ rw (below_all (length n.plan.peers) me n.members) (roomy n.stack (length n.plan.peers) n.room)

writes_good : (print : Printer) (job : Job) (r : Run) (file second out : List ℕ) →
    WritesOf print job r file second out →
    Good r.third job file second
writes_good print (check name) r file second out w = record { stack = w.0.stack; means = w.0.means; fine = refl }
writes_good print (synth name) r file second out w = record { stack = w.0.stack; means = w.0.means; fine = refl }
writes_good print (pack name) r file second out w = record { stack = w.0.stack; means = w.0.means; fine = refl }
writes_good print (replay name script mode events wire count) r file second out w = record {
  stack = w.0.stack;
  means = w.0.means;
  fine = script_fine w.0.stack second w.0.script w.0.spelled w.0.room;
}
writes_good print (replay_with name script given events wire count) r file second out w = (
  record {
    stack = w.0.stack;
    means = w.0.means;
    fine = script_fine w.0.stack second w.0.script w.0.spelled w.0.room;
  },
  w.1,
)
writes_good print (explain name script) r file second out w = record {
  stack = w.0.stack;
  means = w.0.means;
  fine = script_fine w.0.stack second w.0.script w.0.spelled w.0.room;
}
writes_good print (load name seed events members raw mode) r file second out w =
    record { stack = w.0.stack; means = w.0.means; fine = roomy w.0.stack members w.0.room }
writes_good print (node name plan turns me patience mode) r file second out w =
    record { stack = w.node.stack; means = w.node.means; fine = node_fine file second me w.node }
writes_good print (audit name law) r file second out w = record { finding = w.0.finding; found = w.0.found }

links_good : (job : Job) (r : Run) (file second : List ℕ) → LinksFail job r file second → Good r.third job file second
links_good (node name plan turns me patience mode) r file second (inl w) =
    record { stack = w.0.node.stack; means = w.0.node.means; fine = node_fine file second me w.0.node }
links_good (node name plan turns me patience mode) r file second (inr w) =
    record { stack = w.0.node.stack; means = w.0.node.means; fine = node_fine file second me w.0.node }
links_good (check name) r file second w = absurd w
links_good (synth name) r file second w = absurd w
links_good (pack name) r file second w = absurd w
links_good (replay name script mode events wire count) r file second w = absurd w
links_good (replay_with name script given events wire count) r file second w = absurd w
links_good (explain name script) r file second w = absurd w
links_good (load name seed events members raw mode) r file second w = absurd w
links_good (audit name law) r file second w = absurd w

-- A run that got to good files.
abbrev Reached : Run → Type 0
Reached r = Met r (Good r.third)

reached_by : (r : Run) (Holds : Job → (file second : List ℕ) → Type 0) →
    ((job : Job) (file second : List ℕ) → Holds job file second → Good r.third job file second) →
    OfJob r Holds → Reached r
reached_by r Holds goods h = let m = met r Holds h in record {
  job = m.job;
  is_job = m.is_job;
  sound = m.sound;
  file = m.file;
  is_file = m.is_file;
  second = m.second;
  is_second = m.is_second;
  holds = goods m.job m.file m.second m.holds;
}

whole_reached : (print : Printer) (r : Run) (end : Ended) → WritesWhole print r end → Reached r
whole_reached print r end h = reached_by r _ (λ job file second w. writes_good print job r file second r.written w.0)
    h.0

began_reached : (print : Printer) (r : Run) → Began print r → Reached r
began_reached print r b =
    let m = reached_by (gone_on r b.clock b.heard b.sent) _
    (λ job file second. writes_good print job (gone_on r b.clock b.heard b.sent) file second (r.written ++ b.rest))
    b.whole in record {
      job = m.job;
      is_job = m.is_job;
      sound = m.sound;
      file = m.file;
      is_file = m.is_file;
      second = m.second;
      is_second = m.is_second;
      holds = m.holds;
    }

links_reached : (r : Run) → OfJob r (λ job file second. LinksFail job r file second) → Reached r
links_reached r h = reached_by r _ (λ job file second. links_good job r file second) h

-- The words of a run whose job reads a stack.
stack_job : (r : Run) (job : Job) → job_of_words r.words ≡ Some job → IsSomeAnd (job_of_words r.words) ReadsStack →
    ReadsStack job
stack_job r job is h = subst (λ o. IsSomeAnd o ReadsStack) is h

-- A refused file isn't reached as good.
refused_not_reached : (r : Run) (fault : FileFault) → Reached r → IsSomeAnd (job_of_words r.words) ReadsStack →
    IsSomeAnd r.file (λ file. Refuses file fault) → ⊥
refused_not_reached r fault m reads h = known r.file (λ file. Refuses file fault) ⊥ h (λ file is refuses.
    let good = good_stack r.third m.job m.file m.second (stack_job r m.job m.is_job reads) m.holds in
    let same : m.file ≡ file = some_once m.file file (sym m.is_file ∙ is) in
    good_or_refused file good.stack fault (subst (λ text. Means text good.stack) same good.means) refuses)

-- A refused second file isn't good.
second_or_fine : (job : Job) (file second : List ℕ) (stack : List LayerTree) (fault : SecondFault) → Means file stack →
    second_fault job stack second ≡ Some fault → AreGood job file second → ⊥
second_or_fine job file second stack fault means refused g =
    let same : stack ≡ g.stack = one_meaning file stack g.stack means g.means in
    let both : ◌≡◌ {A = Option SecondFault} (Some fault) None = sym refused ∙ ap (λ s. second_fault job s second) same ∙
    g.fine in cc

second_or_good : (third : Option (List ℕ)) (job : Job) (file second : List ℕ) (stack : List LayerTree)
    (fault : SecondFault) → Means file stack →
    second_fault job stack second ≡ Some fault → Good third job file second → ⊥
second_or_good third job file second stack fault means refused good =
    second_or_fine job file second stack fault means refused
    (good_stack third job file second (reads_stack job stack second fault refused) good)

second_not_reached : (r : Run) (fault : SecondFault) → Reached r → RefusesSecond r fault → ⊥
second_not_reached r fault m h = against r _ (Good r.third) ⊥ (met r _ h.refused) m (λ job file second refused good.
    second_or_good r.third job file second h.stack fault refused.0 refused.1 good)

-- A file that is no report isn't reached as one, nor as a stack.
no_report_or_good : (third : Option (List ℕ)) (job : Job) (file second : List ℕ) (fault : AuditFault) →
    IsNoReport job file fault →
    Good third job file second → ⊥
no_report_or_good third (audit name law) file second fault none good =
    let both : ◌≡◌ {A = Result Finding AuditFault} (Err fault) (Ok good.finding) = sym none ∙ good.found in cc
no_report_or_good third (check name) file second fault none good = none
no_report_or_good third (synth name) file second fault none good = none
no_report_or_good third (pack name) file second fault none good = none
no_report_or_good third (replay name script mode events wire count) file second fault none good = none
no_report_or_good third (replay_with name script given events wire count) file second fault none good = none
no_report_or_good third (explain name script) file second fault none good = none
no_report_or_good third (load name seed events members raw mode) file second fault none good = none
no_report_or_good third (node name plan turns me patience mode) file second fault none good = none

no_report_or_stack : (job : Job) (file : List ℕ) (fault : AuditFault) → IsNoReport job file fault → ReadsStack job → ⊥
no_report_or_stack (audit name law) file fault none reads = reads
no_report_or_stack (check name) file fault none reads = none
no_report_or_stack (synth name) file fault none reads = none
no_report_or_stack (pack name) file fault none reads = none
no_report_or_stack (replay name script mode events wire count) file fault none reads = none
no_report_or_stack (replay_with name script given events wire count) file fault none reads = none
no_report_or_stack (explain name script) file fault none reads = none
no_report_or_stack (load name seed events members raw mode) file fault none reads = none
no_report_or_stack (node name plan turns me patience mode) file fault none reads = none

report_not_reached : (r : Run) (fault : AuditFault) → Reached r → RefusesReport r fault → ⊥
report_not_reached r fault m h =
    against r _ (Good r.third) ⊥ (met r _ h.refused) m
    (λ job file second. no_report_or_good r.third job file second fault)

-- Traces that are taken aren't refused.
taken_or_refused : (file : List ℕ) (third : Option (List ℕ)) (stack : List LayerTree) (fault : PackFault) →
    Means file stack →
    IsSomeAnd third (λ text. IsFault stack text fault) → TakesTraces file third → ⊥
taken_or_refused file third stack fault means refused t =
    known third (λ text. IsFault stack text fault) ⊥ refused (λ text is x.
    accepted_or_refused stack text fault
    (subst (λ s. Accepts s text) (one_meaning file t.stack stack t.means means)
    (subst (λ o. IsSomeAnd o (Accepts t.stack)) is t.accepted)) x)

traces_or_good : (third : Option (List ℕ)) (job : Job) (file second : List ℕ) (stack : List LayerTree)
    (fault : PackFault) → ReadsTraces job →
    Means file stack → IsSomeAnd third (λ text. IsFault stack text fault) → Good third job file second → ⊥
traces_or_good third (replay_with name script given events wire count) file second stack fault reads means refused
    good =
    taken_or_refused file third stack fault means refused good.1
traces_or_good third (check name) file second stack fault reads means refused good = reads
traces_or_good third (synth name) file second stack fault reads means refused good = reads
traces_or_good third (pack name) file second stack fault reads means refused good = reads
traces_or_good third (replay name script mode events wire count) file second stack fault reads means refused good =
    reads
traces_or_good third (explain name script) file second stack fault reads means refused good = reads
traces_or_good third (load name seed events members raw mode) file second stack fault reads means refused good = reads
traces_or_good third (node name plan turns me patience mode) file second stack fault reads means refused good = reads
traces_or_good third (audit name law) file second stack fault reads means refused good = reads

traces_not_reached : (r : Run) (fault : PackFault) → Reached r → RefusesTraces r fault → ⊥
traces_not_reached r fault m h = against r _ (Good r.third) ⊥ (met r _ h.others) m (λ job file second x good.
    traces_or_good r.third job file second h.stack fault x.0 x.1 h.refused good)

-- A job that has a file of traces reads a stack, and no report.
traces_stack : (job : Job) → ReadsTraces job → ReadsStack job
traces_stack (replay_with name script given events wire count) reads = tt
traces_stack (check name) reads = absurd reads
traces_stack (synth name) reads = absurd reads
traces_stack (pack name) reads = absurd reads
traces_stack (replay name script mode events wire count) reads = absurd reads
traces_stack (explain name script) reads = absurd reads
traces_stack (load name seed events members raw mode) reads = absurd reads
traces_stack (node name plan turns me patience mode) reads = absurd reads
traces_stack (audit name law) reads = absurd reads

-- A run whose words are no job reached nothing.
no_job : (r : Run) (P : Job → Type 0) → job_of_words r.words ≡ None → IsSomeAnd (job_of_words r.words) P → ⊥
no_job r P none h = subst (λ o. IsSomeAnd o P) none h

jobless : (r : Run) → job_of_words r.words ≡ None → Reached r → ⊥
jobless r none m = let both : ◌≡◌ {A = Option Job} None (Some m.job) = sym none ∙ m.is_job in cc

-- A count that stood still and rose stands at its last value.
still_rose : (count : Counted) → Counts count → IsSound count → Fails count → ⊥
still_rose count counts sound (inl rose) = omega (arith, sound, rose)
still_rose count counts sound (inr last) = counts last

rose_apart : (count : Counted) (m n : ℕ) → Counts count → RoseBy count m → RoseBy count n → (m ≡ n → ⊥) → ⊥
rose_apart count m n counts (inl a) (inl b) apart = apart (omega (arith, a, b))
rose_apart count m n counts (inr last) b apart = counts last
rose_apart count m n counts (inl a) (inr last) apart = counts last

-- One more failure after others.
one_more : (before : List Heard) (n : ℕ) →
    fold (λ k heard. k + (if is_failure heard then 1 else 0)) n (before ++ failure ∷ []) ≡
    fold (λ k heard. k + (if is_failure heard then 1 else 0)) n before + 1
one_more [] n = refl
one_more (x ∷ before) n = one_more before _

one_failure : (before : List Heard) → failures (before ++ failure ∷ []) ≡ failures before + 1
one_failure before = one_more before 0

-- A node that made all its turns didn't end at its network.
served_or_deaf : (print : Printer) (job : Job) (r : Run) (file second : List ℕ) → CountsAll r → HeardAll r →
    WritesOf print job r file second r.written → LinksFail job r file second → ⊥
served_or_deaf print (node name plan turns me patience mode) r file second counts heard w (inl x) =
    rose_apart r.links (failures r.surroundings.heard) 1 counts.links heard x.1
    (λ same. let none = ap failures x.0.answers in let both : 0 ≡ 1 = sym none ∙ same in cc)
served_or_deaf print (node name plan turns me patience mode) r file second counts heard w (inr x) =
    let borne = w.borne in
    let all : failures r.surroundings.heard ≡ patience + 1 = ap failures x.0.last ∙ one_failure x.0.before ∙
    ap (λ n. n + 1) x.0.borne in
    absurd (omega (arith, borne, all))
served_or_deaf print (check name) r file second counts heard w x = x
served_or_deaf print (synth name) r file second counts heard w x = x
served_or_deaf print (pack name) r file second counts heard w x = x
served_or_deaf print (replay name script mode events wire count) r file second counts heard w x = x
served_or_deaf print (replay_with name script given events wire count) r file second counts heard w x = x
served_or_deaf print (explain name script) r file second counts heard w x = x
served_or_deaf print (load name seed events members raw mode) r file second counts heard w x = x
served_or_deaf print (audit name law) r file second counts heard w x = x

done_or_link : (print : Printer) (r : Run) (end : Ended) → CountsAll r → WritesWhole print r end →
    OfJob r (λ job file second. LinksFail job r file second) → ⊥
done_or_link print r end counts h i = against r _ _ ⊥ (met r _ h.0) (met r _ i) (λ job file second w fails.
    served_or_deaf print job r file second counts h.2 w.0 fails)

-- A job that wrote its whole output ends in one way.
whole_once : (print : Printer) (r : Run) (a b : Ended) → WritesWhole print r a → WritesWhole print r b → a ≡ b
whole_once print r a b h i = against r _ _ (a ≡ b) (met r _ h.0) (met r _ i.0) (λ job file second w v. sym w.1 ∙ v.1)

-- A refused file and a second file that is looked at.
file_or_second : (r : Run) (a : FileFault) (b : SecondFault) → RefusesFile r a → RefusesSecond r b → ⊥
file_or_second r a b h i =
    let n = met r _ i.refused in
    known r.file (λ file. Refuses file a) ⊥ h.refused (λ file is refuses.
    let same : n.file ≡ file = some_once n.file file (sym n.is_file ∙ is) in
    good_or_refused file i.stack a (subst (λ text. Means text i.stack) same n.holds.0) refuses)

file_once : (r : Run) (a b : FileFault) → RefusesFile r a → RefusesFile r b → a ≡ b
file_once r a b h i =
    known r.file (λ file. Refuses file a) (a ≡ b) h.refused (λ file is x.
    known r.file (λ file. Refuses file b) (a ≡ b) i.refused (λ other too y.
    let same : other ≡ file = some_once other file (sym too ∙ is) in
    one_refusal file a b x (subst (λ text. Refuses text b) same y)))

second_once : (r : Run) (a b : SecondFault) → RefusesSecond r a → RefusesSecond r b → a ≡ b
second_once r a b h i = against r _ _ (a ≡ b) (met r _ h.refused) (met r _ i.refused) (λ job file second x y.
    let stack : h.stack ≡ i.stack = one_meaning file h.stack i.stack x.0 y.0 in
    let both : ◌≡◌ {A = Option SecondFault} (Some a) (Some b) = sym x.1 ∙ ap (λ s. second_fault job s second) stack ∙
    y.1 in cc)

one_report_fault : (job : Job) (file : List ℕ) (a b : AuditFault) → IsNoReport job file a → IsNoReport job file b →
    a ≡ b
one_report_fault (audit name law) file a b x y =
    let both : ◌≡◌ {A = Result Finding AuditFault} (Err a) (Err b) = sym x ∙ y in cc
one_report_fault (check name) file a b x y = absurd x
one_report_fault (synth name) file a b x y = absurd x
one_report_fault (pack name) file a b x y = absurd x
one_report_fault (replay name script mode events wire count) file a b x y = absurd x
one_report_fault (replay_with name script given events wire count) file a b x y = absurd x
one_report_fault (explain name script) file a b x y = absurd x
one_report_fault (load name seed events members raw mode) file a b x y = absurd x
one_report_fault (node name plan turns me patience mode) file a b x y = absurd x

report_once : (r : Run) (a b : AuditFault) → RefusesReport r a → RefusesReport r b → a ≡ b
report_once r a b h i =
    against r _ _ (a ≡ b) (met r _ h.refused) (met r _ i.refused) (λ job file second. one_report_fault job file a b)

report_or_file : (r : Run) (a : AuditFault) (b : FileFault) → RefusesReport r a → RefusesFile r b → ⊥
report_or_file r a b h i =
    let m = met r _ h.refused in no_report_or_stack m.job m.file a m.holds (stack_job r m.job m.is_job i.job)

report_or_second : (r : Run) (a : AuditFault) (b : SecondFault) → RefusesReport r a → RefusesSecond r b → ⊥
report_or_second r a b h i = against r _ _ ⊥ (met r _ h.refused) (met r _ i.refused) (λ job file second x y.
    no_report_or_stack job file a x (reads_stack job i.stack second b y.1))

-- A file of traces that is looked at: those before it are good.
others_good : (r : Run) (a : PackFault) → RefusesTraces r a → Met r AreGood
others_good r a h = let m = met r _ h.others in record {
  job = m.job;
  is_job = m.is_job;
  sound = m.sound;
  file = m.file;
  is_file = m.is_file;
  second = m.second;
  is_second = m.is_second;
  holds = record { stack = h.stack; means = m.holds.1; fine = m.holds.2 };
}

-- A refused file isn't met as good, nor is a refused second file.
file_or_fine : (r : Run) (a : FileFault) → RefusesFile r a → Met r AreGood → ⊥
file_or_fine r a h n = known r.file (λ file. Refuses file a) ⊥ h.refused (λ file is refuses.
    let same : n.file ≡ file = some_once n.file file (sym n.is_file ∙ is) in
    good_or_refused file n.holds.stack a (subst (λ text. Means text n.holds.stack) same n.holds.means) refuses)

second_or_met : (r : Run) (a : SecondFault) → RefusesSecond r a → Met r AreGood → ⊥
second_or_met r a h n = against r _ AreGood ⊥ (met r _ h.refused) n (λ job file second x good.
    second_or_fine job file second h.stack a x.0 x.1 good)

report_or_traces : (r : Run) (a : AuditFault) (b : PackFault) → RefusesReport r a → RefusesTraces r b → ⊥
report_or_traces r a b h i = against r _ _ ⊥ (met r _ h.refused) (met r _ i.others) (λ job file second x y.
    no_report_or_stack job file a x (traces_stack job y.0))

traces_once : (r : Run) (a b : PackFault) → RefusesTraces r a → RefusesTraces r b → a ≡ b
traces_once r a b h i = against r _ _ (a ≡ b) (met r _ h.others) (met r _ i.others) (λ job file second x y.
    known r.third (λ text. IsFault h.stack text a) (a ≡ b) h.refused (λ text is p.
    let stack : i.stack ≡ h.stack = one_meaning file i.stack h.stack y.1 x.1 in
    let q : IsFault i.stack text b = subst (λ o. IsSomeAnd o (λ t. IsFault i.stack t b)) is i.refused in
    one_traces_fault h.stack text a b p (subst (λ s. IsFault s text b) stack q)))

-- A read that failed, and what was read without a fault.
read_or_sound : (r : Run) → CountsAll r → IsSound r.reads → ReadsFailed r → ⊥
read_or_sound r counts sound h = still_rose r.reads counts.reads sound h.rose

-- A run that stopped at its words or files.
abbrev Stops : Run → Ended → Type 0
Stops r words_refused = job_of_words r.words ≡ None
Stops r (file_refused fault) = RefusesFile r fault
Stops r (report_refused fault) = RefusesReport r fault
Stops r (second_refused fault) = RefusesSecond r fault
Stops r (traces_refused fault) = RefusesTraces r fault
Stops r read_failed = ReadsFailed r
Stops r _ = ⊥

-- A run that went on after them.
abbrev GoesOn : Printer → Run → Ended → Type 0
GoesOn print r done = WritesWhole print r done
GoesOn print r breached = WritesWhole print r breached
GoesOn print r write_failed = Fails r.puts
GoesOn print r link_failed = IsSound r.puts × OfJob r (λ job file second. LinksFail job r file second)
GoesOn print r _ = ⊥

-- How a run ended: it stopped at its words or files, it went on over good files, or memory ran out.
data Way (print : Printer) (r : Run) (end : Ended) : Type 0 where
  stopped : Stops r end → Way print r end
  went_on : GoesOn print r end → Reached r → Way print r end
  wanted : end ≡ no_memory → Way print r end

way : (print : Printer) (r : Run) (end : Ended) → Ends print r end → Way print r end
way print r done h = went_on h (whole_reached print r done h)
way print r breached h = went_on h (whole_reached print r breached h)
way print r (file_refused fault) h = stopped h
way print r (report_refused fault) h = stopped h
way print r words_refused h = stopped h.0
way print r (second_refused fault) h = stopped h
way print r (traces_refused fault) h = stopped h
way print r read_failed h = stopped h
way print r write_failed h = went_on h.0 (began_reached print r h.1)
way print r link_failed h = went_on h (links_reached r h.1)
way print r no_memory h = wanted refl

-- A run that stopped there didn't get to good files.
stops_before : (r : Run) (end : Ended) → CountsAll r → Stops r end → Reached r → ⊥
stops_before r words_refused counts h m = jobless r h m
stops_before r (file_refused fault) counts h m = refused_not_reached r fault m h.job h.refused
stops_before r (report_refused fault) counts h m = report_not_reached r fault m h
stops_before r (second_refused fault) counts h m = second_not_reached r fault m h
stops_before r (traces_refused fault) counts h m = traces_not_reached r fault m h
stops_before r read_failed counts h m = read_or_sound r counts m.sound h
stops_before r _ counts h m = h

-- It stopped for one cause.
stops_once : (r : Run) (a b : Ended) → CountsAll r → Stops r a → Stops r b → a ≡ b
stops_once r words_refused words_refused counts h i = refl
stops_once r words_refused (file_refused b) counts h i = absurd (no_job r _ h i.job)
stops_once r words_refused (report_refused b) counts h i = absurd (no_job r _ h i.refused)
stops_once r words_refused (second_refused b) counts h i = absurd (no_job r _ h i.refused)
stops_once r words_refused (traces_refused b) counts h i = absurd (no_job r _ h i.others)
stops_once r words_refused read_failed counts h i = absurd (no_job r _ h i.unread)
stops_once r words_refused _ counts h i = absurd i
stops_once r (file_refused a) words_refused counts h i = absurd (no_job r _ i h.job)
stops_once r (file_refused a) (file_refused b) counts h i = ap file_refused (file_once r a b h i)
stops_once r (file_refused a) (report_refused b) counts h i = absurd (report_or_file r b a i h)
stops_once r (file_refused a) (second_refused b) counts h i = absurd (file_or_second r a b h i)
stops_once r (file_refused a) (traces_refused b) counts h i = absurd (file_or_fine r a h (others_good r b i))
stops_once r (file_refused a) read_failed counts h i = absurd (read_or_sound r counts h.sound i)
stops_once r (file_refused a) _ counts h i = absurd i
stops_once r (report_refused a) words_refused counts h i = absurd (no_job r _ i h.refused)
stops_once r (report_refused a) (file_refused b) counts h i = absurd (report_or_file r a b h i)
stops_once r (report_refused a) (report_refused b) counts h i = ap report_refused (report_once r a b h i)
stops_once r (report_refused a) (second_refused b) counts h i = absurd (report_or_second r a b h i)
stops_once r (report_refused a) (traces_refused b) counts h i = absurd (report_or_traces r a b h i)
stops_once r (report_refused a) read_failed counts h i = absurd (read_or_sound r counts (met r _ h.refused).sound i)
stops_once r (report_refused a) _ counts h i = absurd i
stops_once r (second_refused a) words_refused counts h i = absurd (no_job r _ i h.refused)
stops_once r (second_refused a) (file_refused b) counts h i = absurd (file_or_second r b a i h)
stops_once r (second_refused a) (report_refused b) counts h i = absurd (report_or_second r b a i h)
stops_once r (second_refused a) (second_refused b) counts h i = ap second_refused (second_once r a b h i)
stops_once r (second_refused a) (traces_refused b) counts h i = absurd (second_or_met r a h (others_good r b i))
stops_once r (second_refused a) read_failed counts h i = absurd (read_or_sound r counts (met r _ h.refused).sound i)
stops_once r (second_refused a) _ counts h i = absurd i
stops_once r (traces_refused a) words_refused counts h i = absurd (no_job r _ i h.others)
stops_once r (traces_refused a) (file_refused b) counts h i = absurd (file_or_fine r b i (others_good r a h))
stops_once r (traces_refused a) (report_refused b) counts h i = absurd (report_or_traces r b a i h)
stops_once r (traces_refused a) (second_refused b) counts h i = absurd (second_or_met r b i (others_good r a h))
stops_once r (traces_refused a) (traces_refused b) counts h i = ap traces_refused (traces_once r a b h i)
stops_once r (traces_refused a) read_failed counts h i = absurd (read_or_sound r counts (met r _ h.others).sound i)
stops_once r (traces_refused a) _ counts h i = absurd i
stops_once r read_failed words_refused counts h i = absurd (no_job r _ i h.unread)
stops_once r read_failed (file_refused b) counts h i = absurd (read_or_sound r counts i.sound h)
stops_once r read_failed (report_refused b) counts h i = absurd (read_or_sound r counts (met r _ i.refused).sound h)
stops_once r read_failed (second_refused b) counts h i = absurd (read_or_sound r counts (met r _ i.refused).sound h)
stops_once r read_failed (traces_refused b) counts h i = absurd (read_or_sound r counts (met r _ i.others).sound h)
stops_once r read_failed read_failed counts h i = refl
stops_once r read_failed _ counts h i = absurd i
stops_once r _ _ counts h i = absurd h

-- A run that went on ended in one way.
goes_once : (print : Printer) (r : Run) (a b : Ended) → CountsAll r → GoesOn print r a → GoesOn print r b → a ≡ b
goes_once print r done done counts h i = refl
goes_once print r done breached counts h i = whole_once print r done breached h i
goes_once print r done write_failed counts h i = absurd (still_rose r.puts counts.puts h.1 i)
goes_once print r done link_failed counts h i = absurd (done_or_link print r done counts h i.1)
goes_once print r done _ counts h i = absurd i
goes_once print r breached done counts h i = whole_once print r breached done h i
goes_once print r breached breached counts h i = refl
goes_once print r breached write_failed counts h i = absurd (still_rose r.puts counts.puts h.1 i)
goes_once print r breached link_failed counts h i = absurd (done_or_link print r breached counts h i.1)
goes_once print r breached _ counts h i = absurd i
goes_once print r write_failed done counts h i = absurd (still_rose r.puts counts.puts i.1 h)
goes_once print r write_failed breached counts h i = absurd (still_rose r.puts counts.puts i.1 h)
goes_once print r write_failed write_failed counts h i = refl
goes_once print r write_failed link_failed counts h i = absurd (still_rose r.puts counts.puts i.0 h)
goes_once print r write_failed _ counts h i = absurd i
goes_once print r link_failed done counts h i = absurd (done_or_link print r done counts i h.1)
goes_once print r link_failed breached counts h i = absurd (done_or_link print r breached counts i h.1)
goes_once print r link_failed write_failed counts h i = absurd (still_rose r.puts counts.puts h.0 i)
goes_once print r link_failed link_failed counts h i = refl
goes_once print r link_failed _ counts h i = absurd i
goes_once print r _ _ counts h i = absurd h

pub one_end : OneEnd
one_end print r a b counts p q h i = go (way print r a h) (way print r b i) where
  go : Way print r a → Way print r b → a ≡ b
  go (stopped x) (stopped y) = stops_once r a b counts x y
  go (stopped x) (went_on y m) = absurd (stops_before r a counts x m)
  go (went_on x m) (stopped y) = absurd (stops_before r b counts y m)
  go (went_on x m) (went_on y n) = goes_once print r a b counts x y
  go (wanted e) y = absurd (p e)
  go x (wanted e) = absurd (q e)

-- What was said of an end.
said : (r : Run) (end : Ended) → Says r end → Came r (status_number end)
said r end (whole line status) = inl status
said r end (cut_off line failed status) = inl status
said r end (out_of_memory line status) = inr status

want : (r : Run) (n : ℕ) → Came r 7 → Came r n
want r n (inl seven) = inr seven
want r n (inr seven) = inr seven

-- The status of a run that ended for want of memory.
want_of : (r : Run) (end : Ended) (n : ℕ) → end ≡ no_memory → Came r (status_number end) → Came r n
want_of r end n is came = want r n (subst (λ e. Came r (status_number e)) is came)

pub words_are_due : WordsAreDue
words_are_due print r ran none = go ran.end (way print r ran.end ran.ends) (said r ran.end ran.says) where
  stops : (end : Ended) → Stops r end → Came r (status_number end) → Came r 2
  stops words_refused h came = came
  stops (file_refused fault) h came = absurd (no_job r _ none h.job)
  stops (report_refused fault) h came = absurd (no_job r _ none h.refused)
  stops (second_refused fault) h came = absurd (no_job r _ none h.refused)
  stops (traces_refused fault) h came = absurd (no_job r _ none h.others)
  stops read_failed h came = absurd (no_job r _ none h.unread)
  stops _ h came = absurd h

  go : (end : Ended) → Way print r end → Came r (status_number end) → Came r 2
  go end (stopped h) came = stops end h came
  go end (went_on h m) came = absurd (jobless r none m)
  go end (wanted is) came = want_of r end 2 is came

-- A read that failed, of a run whose file was read and is refused.
read_or_refused : (r : Run) (file : List ℕ) (fault : FileFault) → r.file ≡ Some file → Refuses file fault →
    ReadsFailed r → ⊥
read_or_refused r file fault is refuses h = known (job_of_words r.words) _ ⊥ h.unread (λ job is_job x. go job x) where
  go : (job : Job) → Unread r job → ⊥
  go job (inl none) = let both : ◌≡◌ {A = Option (List ℕ)} None (Some file) = sym none ∙ is in cc
  go job (inr (inl x)) = known r.file IsGood ⊥ x.1 (λ other too good.
      let same : other ≡ file = some_once other file (sym too ∙ is) in
      good_or_refused file good.stack fault (subst (λ text. Means text good.stack) same good.means) refuses)
  go job (inr (inr x)) =
      known r.file _ ⊥ x.1 (λ other too y. known (second_for job r.second) (AreGood job other) ⊥ y (λ second there good.
      let same : other ≡ file = some_once other file (sym too ∙ is) in
      good_or_refused file good.stack fault (subst (λ text. Means text good.stack) same good.means) refuses))

-- A job that was named and its files that were read.
met_at : (r : Run) (job : Job) (file : List ℕ) (P : Job → Type 0) (Q : List ℕ → Type 0) →
    job_of_words r.words ≡ Some job → r.file ≡ Some file →
    P job → Q file → IsSomeAnd (job_of_words r.words) P × IsSomeAnd r.file Q
met_at r job file P Q is_job is_file p q =
    (subst (λ o. IsSomeAnd o P) (sym is_job) p, subst (λ o. IsSomeAnd o Q) (sym is_file) q)

named : (r : Run) (job : Job) → job_of_words r.words ≡ Some job → job_of_words r.words ≡ None → ⊥
named r job is none = let both : ◌≡◌ {A = Option Job} None (Some job) = sym none ∙ is in cc

pub files_are_due : FilesAreDue
files_are_due print r job file fault ran is_job reads is_file refuses =
    go ran.end (way print r ran.end ran.ends) (said r ran.end ran.says) where
      at_job : IsSomeAnd (job_of_words r.words) ReadsStack × IsSomeAnd r.file (λ text. Refuses text fault)
      at_job = met_at r job file ReadsStack (λ text. Refuses text fault) is_job is_file reads refuses

      no_report : (b : AuditFault) → RefusesReport r b → ⊥
      no_report b i = let m = met r _ i.refused in
          no_report_or_stack m.job m.file b m.holds (stack_job r m.job m.is_job at_job.0)

      looked_on : (b : SecondFault) → RefusesSecond r b → ⊥
      looked_on b i = let n = met r _ i.refused in
          let same : n.file ≡ file = some_once n.file file (sym n.is_file ∙ is_file) in
          good_or_refused file i.stack fault (subst (λ text. Means text i.stack) same n.holds.0) refuses

      read_on : (b : PackFault) → RefusesTraces r b → ⊥
      read_on b i = let n = others_good r b i in
          let same : n.file ≡ file = some_once n.file file (sym n.is_file ∙ is_file) in
          good_or_refused file n.holds.stack fault (subst (λ text. Means text n.holds.stack) same n.holds.means) refuses

      stops : (end : Ended) → Stops r end → Came r (status_number end) → Came r 1
      stops words_refused h came = absurd (named r job is_job h)
      stops (file_refused other) h came = came
      stops (report_refused other) h came = came
      stops (second_refused other) h came = absurd (looked_on other h)
      stops (traces_refused other) h came = absurd (read_on other h)
      stops read_failed h came = absurd (read_or_refused r file fault is_file refuses h)
      stops _ h came = absurd h

      go : (end : Ended) → Way print r end → Came r (status_number end) → Came r 1
      go end (stopped h) came = stops end h came
      go end (went_on h m) came = absurd (refused_not_reached r fault m at_job.0 at_job.1)
      go end (wanted is) came = want_of r end 1 is came

-- A read that failed, of an audit whose file was read.
read_or_audited : (r : Run) (name : Text) (law : Law) (file : List ℕ) → job_of_words r.words ≡ Some (audit name law) →
    r.file ≡ Some file →
    ReadsFailed r → ⊥
read_or_audited r name law file is_job is_file h =
    go (subst (λ o. IsSomeAnd o (Unread r)) is_job h.unread) where
      go : Unread r (audit name law) → ⊥
      go (inl none) = let both : ◌≡◌ {A = Option (List ℕ)} None (Some file) = sym none ∙ is_file in cc
      go (inr (inl x)) = let both : ◌≡◌ {A = Option (List ℕ)} (Some []) None = x.0 in cc
      go (inr (inr x)) = let both : ◌≡◌ {A = Option (List ℕ)} (Some []) None = x.0 in cc

pub reports_are_due : ReportsAreDue
reports_are_due print r name law file fault ran is_job is_file refused =
    go ran.end (way print r ran.end ran.ends) (said r ran.end ran.says) where
      no_stack : IsSomeAnd (job_of_words r.words) ReadsStack → ⊥
      no_stack reads = stack_job r (audit name law) is_job reads

      reached : Reached r → ⊥
      reached m =
          let job : m.job ≡ audit name law = some_once m.job (audit name law) (sym m.is_job ∙ is_job) in
          let same : m.file ≡ file = some_once m.file file (sym m.is_file ∙ is_file) in
          let good : IsReport law file = subst {A = Job × List ℕ} (λ x. Good r.third x.0 x.1 m.second)
          (λ k. (job k, same k)) m.holds in
          let both : ◌≡◌ {A = Result Finding AuditFault} (Err fault) (Ok good.finding) = sym refused ∙ good.found in cc

      no_second : (b : SecondFault) → RefusesSecond r b → ⊥
      no_second b i = let n = met r _ i.refused in
          let job : n.job ≡ audit name law = some_once n.job (audit name law) (sym n.is_job ∙ is_job) in
          subst ReadsStack job (reads_stack n.job i.stack n.second b n.holds.1)

      no_third : (b : PackFault) → RefusesTraces r b → ⊥
      no_third b i = let n = met r _ i.others in
          let job : n.job ≡ audit name law = some_once n.job (audit name law) (sym n.is_job ∙ is_job) in
          subst ReadsTraces job n.holds.0

      stops : (end : Ended) → Stops r end → Came r (status_number end) → Came r 1
      stops words_refused h came = absurd (named r (audit name law) is_job h)
      stops (file_refused other) h came = came
      stops (report_refused other) h came = came
      stops (second_refused other) h came = absurd (no_second other h)
      stops (traces_refused other) h came = absurd (no_third other h)
      stops read_failed h came = absurd (read_or_audited r name law file is_job is_file h)
      stops _ h came = absurd h

      go : (end : Ended) → Way print r end → Came r (status_number end) → Came r 1
      go end (stopped h) came = stops end h came
      go end (went_on h m) came = absurd (reached m)
      go end (wanted is) came = want_of r end 1 is came

-- What a run met, at the job and the files that are told.
holds_there : (r : Run) (P : Job → (file second : List ℕ) → Type 0) (job : Job) (file second : List ℕ) →
    job_of_words r.words ≡ Some job →
    r.file ≡ Some file → second_for job r.second ≡ Some second → OfJob r P → P job file second
holds_there r P job file second is_job is_file is_second h =
    let m = met r P h in
    let same_job : m.job ≡ job = some_once m.job job (sym m.is_job ∙ is_job) in
    let same_file : m.file ≡ file = some_once m.file file (sym m.is_file ∙ is_file) in
    let same_second : m.second ≡ second =
    some_once m.second second (sym m.is_second ∙ ap (λ j. second_for j r.second) same_job ∙ is_second) in
    subst {A = Job × List ℕ × List ℕ} (λ x. P x.0 x.1 x.2) (λ k. (same_job k, same_file k, same_second k)) m.holds

-- A job without a network doesn't end at it.
no_links : (job : Job) (r : Run) (file second : List ℕ) → IsAlone job → LinksFail job r file second → ⊥
no_links (node name plan turns me patience mode) r file second alone fails = alone
no_links (check name) r file second alone fails = fails
no_links (synth name) r file second alone fails = fails
no_links (pack name) r file second alone fails = fails
no_links (replay name script mode events wire count) r file second alone fails = fails
no_links (replay_with name script given events wire count) r file second alone fails = fails
no_links (explain name script) r file second alone fails = fails
no_links (load name seed events members raw mode) r file second alone fails = fails
no_links (audit name law) r file second alone fails = fails

-- Where a job's files are good, its third file is there.
third_there : (third : Option (List ℕ)) (job : Job) (file second : List ℕ) → Good third job file second →
    third_for job third ≡ None → ⊥
third_there None (replay_with name script given events wire count) file second good none = good.1.accepted
third_there (Some third) (replay_with name script given events wire count) file second good none = cc none
third_there third (check name) file second good none = cc none
third_there third (synth name) file second good none = cc none
third_there third (pack name) file second good none = cc none
third_there third (replay name script mode events wire count) file second good none = cc none
third_there third (explain name script) file second good none = cc none
third_there third (load name seed events members raw mode) file second good none = cc none
third_there third (node name plan turns me patience mode) file second good none = cc none
third_there third (audit name law) file second good none = cc none

-- A read that failed after the first, where the first two files are there: it was that of the third.
unread_third : (r : Run) (job : Job) (file second : List ℕ) → job_of_words r.words ≡ Some job → r.file ≡ Some file →
    second_for job r.second ≡ Some second → ReadsFailed r → (third_for job r.third ≡ None) × AreGood job file second
unread_third r job file second is_job is_file is_second h = go (subst (λ o. IsSomeAnd o (Unread r)) is_job h.unread)
  where
    go : Unread r job → (third_for job r.third ≡ None) × AreGood job file second
    go (inl none) = absurd (let both : ◌≡◌ {A = Option (List ℕ)} None (Some file) = sym none ∙ is_file in cc)
    go (inr (inl x)) = absurd (let both : ◌≡◌ {A = Option (List ℕ)} None (Some second) = sym x.0 ∙ is_second in cc)
    go (inr (inr x)) = (
      x.0,
      subst (λ o. IsSomeAnd o (AreGood job file)) is_second
          (subst (λ o. IsSomeAnd o (λ f. IsSomeAnd (second_for job r.second) (AreGood job f))) is_file x.1),
    )

pub good_are_due : GoodAreDue
good_are_due print r job file second out ran puts alone is_job is_file is_second writes =
    go ran.end (way print r ran.end ran.ends) (said r ran.end ran.says) where
      good : Good r.third job file second
      good = writes_good print job r file second out writes

      at_job : (P : Job → (file second : List ℕ) → Type 0) → OfJob r P → P job file second
      at_job P h = holds_there r P job file second is_job is_file is_second h

      at_file : (other : FileFault) → RefusesFile r other → ⊥
      at_file other h = known r.file (λ text. Refuses text other) ⊥ h.refused (λ text is x.
          let same : text ≡ file = some_once text file (sym is ∙ is_file) in
          let g = good_stack r.third job file second (stack_job r job is_job h.job) good in
          good_or_refused file g.stack other g.means (subst (λ t. Refuses t other) same x))

      at_second : (other : SecondFault) → RefusesSecond r other → ⊥
      at_second other h = let x = at_job _ h.refused in second_or_good r.third job file second h.stack other x.0 x.1
          good

      at_third : (other : PackFault) → RefusesTraces r other → ⊥
      at_third other h = let x = at_job _ h.others in traces_or_good r.third job file second h.stack other x.0 x.1
          h.refused good

      unread : ReadsFailed r → ⊥
      unread h = third_there r.third job file second good (unread_third r job file second is_job is_file is_second h).0

      stops : (end : Ended) → Stops r end → ⊥
      stops words_refused h = named r job is_job h
      stops (file_refused other) h = at_file other h
      stops (report_refused other) h = no_report_or_good r.third job file second other (at_job _ h.refused) good
      stops (second_refused other) h = at_second other h
      stops (traces_refused other) h = at_third other h
      stops read_failed h = unread h
      stops _ h = h

      goes : (end : Ended) → GoesOn print r end → end ≡ whole_end job file
      goes done h = sym (at_job _ h.0).1
      goes breached h = sym (at_job _ h.0).1
      goes write_failed h = absurd (puts h)
      goes link_failed h = absurd (no_links job r file second alone (at_job _ h.1))
      goes _ h = absurd h

      go : (end : Ended) → Way print r end → Came r (status_number end) → Came r (status_number (whole_end job file))
      go end (stopped h) came = absurd (stops end h)
      go end (went_on h m) came = subst (λ e. Came r (status_number e)) (goes end h) came
      go end (wanted is) came = want_of r end (status_number (whole_end job file)) is came

pub misses_are_due : MissesAreDue
misses_are_due print r job ran is_job none = go ran.end (way print r ran.end ran.ends) (said r ran.end ran.says) where
  at_file : (P : List ℕ → Type 0) → IsSomeAnd r.file P → ⊥
  at_file P h = subst (λ o. IsSomeAnd o P) none h

  met_none : (P : Job → (file second : List ℕ) → Type 0) → Met r P → ⊥
  met_none P m = let both : ◌≡◌ {A = Option (List ℕ)} None (Some m.file) = sym none ∙ m.is_file in cc

  stops : (end : Ended) → Stops r end → Came r (status_number end) → Came r 4
  stops words_refused h came = absurd (named r job is_job h)
  stops (file_refused other) h came = absurd (at_file _ h.refused)
  stops (report_refused other) h came = absurd (met_none _ (met r _ h.refused))
  stops (second_refused other) h came = absurd (met_none _ (met r _ h.refused))
  stops (traces_refused other) h came = absurd (met_none _ (met r _ h.others))
  stops read_failed h came = came
  stops _ h came = absurd h

  go : (end : Ended) → Way print r end → Came r (status_number end) → Came r 4
  go end (stopped h) came = stops end h came
  go end (went_on h m) came = absurd (met_none (Good r.third) m)
  go end (wanted is) came = want_of r end 4 is came

pub seconds_are_due : SecondsAreDue
seconds_are_due print r job file second stack fault ran is_job is_file is_second means refuses =
    go ran.end (way print r ran.end ran.ends) (said r ran.end ran.says) where
      reads : IsSomeAnd (job_of_words r.words) ReadsStack
      reads = subst (λ o. IsSomeAnd o ReadsStack) (sym is_job) (reads_stack job stack second fault refuses)

      reached : Reached r → ⊥
      reached m =
          let same_job : m.job ≡ job = some_once m.job job (sym m.is_job ∙ is_job) in
          let same_file : m.file ≡ file = some_once m.file file (sym m.is_file ∙ is_file) in
          let same_second : m.second ≡ second =
          some_once m.second second (sym m.is_second ∙ ap (λ j. second_for j r.second) same_job ∙ is_second) in
          second_or_good r.third job file second stack fault means refuses
          (subst {A = Job × List ℕ × List ℕ} (λ x. Good r.third x.0 x.1 x.2)
          (λ k. (same_job k, same_file k, same_second k)) m.holds)

      at_file : (other : FileFault) → RefusesFile r other → ⊥
      at_file other h = known r.file (λ text. Refuses text other) ⊥ h.refused (λ text is x.
          let same : text ≡ file = some_once text file (sym is ∙ is_file) in
          good_or_refused file stack other means (subst (λ t. Refuses t other) same x))

      no_report : (b : AuditFault) → RefusesReport r b → ⊥
      no_report b i = let m = met r _ i.refused in
          no_report_or_stack m.job m.file b m.holds (stack_job r m.job m.is_job reads)

      unread : ReadsFailed r → ⊥
      unread h = second_or_fine job file second stack fault means refuses
          (unread_third r job file second is_job is_file is_second h).1

      at_third : (other : PackFault) → RefusesTraces r other → ⊥
      at_third other h = let x = holds_there r _ job file second is_job is_file is_second h.others in
          second_or_fine job file second stack fault means refuses (record { stack = h.stack; means = x.1; fine = x.2 })

      stops : (end : Ended) → Stops r end → Came r (status_number end) → Came r 3
      stops words_refused h came = absurd (named r job is_job h)
      stops (file_refused other) h came = absurd (at_file other h)
      stops (report_refused other) h came = absurd (no_report other h)
      stops (second_refused other) h came = came
      stops (traces_refused other) h came = absurd (at_third other h)
      stops read_failed h came = absurd (unread h)
      stops _ h came = absurd h

      go : (end : Ended) → Way print r end → Came r (status_number end) → Came r 3
      go end (stopped h) came = stops end h came
      go end (went_on h m) came = absurd (reached m)
      go end (wanted is) came = want_of r end 3 is came

pub second_misses_are_due : SecondMissesAreDue
second_misses_are_due print r job file stack ran is_job is_file means none =
    go ran.end (way print r ran.end ran.ends) (said r ran.end ran.says) where
      at_file : (other : FileFault) → RefusesFile r other → ⊥
      at_file other h = known r.file (λ text. Refuses text other) ⊥ h.refused (λ text is x.
          let same : text ≡ file = some_once text file (sym is ∙ is_file) in
          good_or_refused file stack other means (subst (λ t. Refuses t other) same x))

      met_none : (P : Job → (file second : List ℕ) → Type 0) → Met r P → ⊥
      met_none P m =
          let same : m.job ≡ job = some_once m.job job (sym m.is_job ∙ is_job) in
          let both : ◌≡◌ {A = Option (List ℕ)} None (Some m.second) = sym none ∙
          ap (λ j. second_for j r.second) (sym same) ∙ m.is_second in cc

      stops : (end : Ended) → Stops r end → Came r (status_number end) → Came r 4
      stops words_refused h came = absurd (named r job is_job h)
      stops (file_refused other) h came = absurd (at_file other h)
      stops (report_refused other) h came = absurd (met_none _ (met r _ h.refused))
      stops (second_refused other) h came = absurd (met_none _ (met r _ h.refused))
      stops (traces_refused other) h came = absurd (met_none _ (met r _ h.others))
      stops read_failed h came = came
      stops _ h came = absurd h

      go : (end : Ended) → Way print r end → Came r (status_number end) → Came r 4
      go end (stopped h) came = stops end h came
      go end (went_on h m) came = absurd (met_none (Good r.third) m)
      go end (wanted is) came = want_of r end 4 is came

-- A run whose first two files are good isn't refused for either.
module _ (r : Run) (job : Job) (file second : List ℕ) (stack : List LayerTree)
    (is_job : job_of_words r.words ≡ Some job) (is_file : r.file ≡ Some file)
    (is_second : second_for job r.second ≡ Some second) (means : Means file stack)
    (fine : second_fault job stack second ≡ None) where
  there : (P : Job → (file second : List ℕ) → Type 0) → OfJob r P → P job file second
  there P h = holds_there r P job file second is_job is_file is_second h

  no_bad_file : (other : FileFault) → RefusesFile r other → ⊥
  no_bad_file other h = known r.file (λ text. Refuses text other) ⊥ h.refused (λ text is x.
      let same : text ≡ file = some_once text file (sym is ∙ is_file) in
      good_or_refused file stack other means (subst (λ t. Refuses t other) same x))

  no_bad_second : (other : SecondFault) → RefusesSecond r other → ⊥
  no_bad_second other h = let x = there _ h.refused in
      second_or_fine job file second h.stack other x.0 x.1 (record { stack = stack; means = means; fine = fine })

pub traces_are_due : TracesAreDue
traces_are_due print r job file second third stack fault ran is_job reads is_file is_second means fine is_third
    refused =
    go ran.end (way print r ran.end ran.ends) (said r ran.end ran.says) where
      refused_there : IsSomeAnd r.third (λ text. IsFault stack text fault)
      refused_there = subst (λ o. IsSomeAnd o (λ text. IsFault stack text fault)) (sym is_third) refused

      unread : (job : Job) → ReadsTraces job → third_for job r.third ≡ None → ⊥
      unread (replay_with name script given events wire count) reads none =
          let both : ◌≡◌ {A = Option (List ℕ)} None (Some third) = sym none ∙ is_third in cc
      unread (check name) reads none = reads
      unread (synth name) reads none = reads
      unread (pack name) reads none = reads
      unread (replay name script mode events wire count) reads none = reads
      unread (explain name script) reads none = reads
      unread (load name seed events members raw mode) reads none = reads
      unread (node name plan turns me patience mode) reads none = reads
      unread (audit name law) reads none = reads

      no_report : (b : AuditFault) → RefusesReport r b → ⊥
      no_report b i = no_report_or_stack job file b
          (there r job file second stack is_job is_file is_second means fine _ i.refused) (traces_stack job reads)

      stops : (end : Ended) → Stops r end → Came r (status_number end) → Came r 9
      stops words_refused h came = absurd (named r job is_job h)
      stops (file_refused other) h came =
          absurd (no_bad_file r job file second stack is_job is_file is_second means fine other h)
      stops (report_refused other) h came = absurd (no_report other h)
      stops (second_refused other) h came =
          absurd (no_bad_second r job file second stack is_job is_file is_second means fine other h)
      stops (traces_refused other) h came = came
      stops read_failed h came = absurd (unread job reads (unread_third r job file second is_job is_file is_second h).0)
      stops _ h came = absurd h

      reached : Reached r → ⊥
      reached m =
          let same_job : m.job ≡ job = some_once m.job job (sym m.is_job ∙ is_job) in
          let same_file : m.file ≡ file = some_once m.file file (sym m.is_file ∙ is_file) in
          traces_or_good r.third job file m.second stack fault reads means refused_there
          (subst {A = Job × List ℕ} (λ x. Good r.third x.0 x.1 m.second) (λ k. (same_job k, same_file k)) m.holds)

      go : (end : Ended) → Way print r end → Came r (status_number end) → Came r 9
      go end (stopped h) came = stops end h came
      go end (went_on h m) came = absurd (reached m)
      go end (wanted is) came = want_of r end 9 is came

-- A job whose third file isn't there reads traces, and found none.
has_third : (third : Option (List ℕ)) (job : Job) → third_for job third ≡ None → ReadsTraces job × (third ≡ None)
has_third third (replay_with name script given events wire count) none = (tt, none)
has_third third (check name) none = absurd (cc none)
has_third third (synth name) none = absurd (cc none)
has_third third (pack name) none = absurd (cc none)
has_third third (replay name script mode events wire count) none = absurd (cc none)
has_third third (explain name script) none = absurd (cc none)
has_third third (load name seed events members raw mode) none = absurd (cc none)
has_third third (node name plan turns me patience mode) none = absurd (cc none)
has_third third (audit name law) none = absurd (cc none)

pub third_misses_are_due : ThirdMissesAreDue
third_misses_are_due print r job file second stack ran is_job is_file is_second means fine none =
    go ran.end (way print r ran.end ran.ends) (said r ran.end ran.says) where
      reads : ReadsTraces job
      reads = (has_third r.third job none).0

      no_report : (b : AuditFault) → RefusesReport r b → ⊥
      no_report b i = no_report_or_stack job file b
          (there r job file second stack is_job is_file is_second means fine _ i.refused) (traces_stack job reads)

      at_third : (P : List ℕ → Type 0) → IsSomeAnd r.third P → ⊥
      at_third P h = subst (λ o. IsSomeAnd o P) (has_third r.third job none).1 h

      stops : (end : Ended) → Stops r end → Came r (status_number end) → Came r 4
      stops words_refused h came = absurd (named r job is_job h)
      stops (file_refused other) h came =
          absurd (no_bad_file r job file second stack is_job is_file is_second means fine other h)
      stops (report_refused other) h came = absurd (no_report other h)
      stops (second_refused other) h came =
          absurd (no_bad_second r job file second stack is_job is_file is_second means fine other h)
      stops (traces_refused other) h came = absurd (at_third _ h.refused)
      stops read_failed h came = came
      stops _ h came = absurd h

      reached : Reached r → ⊥
      reached m =
          let same : m.job ≡ job = some_once m.job job (sym m.is_job ∙ is_job) in
          third_there r.third m.job m.file m.second m.holds (ap (λ j. third_for j r.third) same ∙ none)

      go : (end : Ended) → Way print r end → Came r (status_number end) → Came r 4
      go end (stopped h) came = stops end h came
      go end (went_on h m) came = absurd (reached m)
      go end (wanted is) came = want_of r end 4 is came
