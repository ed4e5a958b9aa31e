-- A run of the program ends with the status that is due.
use Rattle.std.proofs.Common.{◌≡◌, ◌≢◌, refl, sym, subst, ◌∙◌, ℕ, List, Option, Some, None, inl, inr, ⊎_elim, arith}
use Rattle.std.specs.Prelude.{◌⊎◌, Result, Ok, Err}
use Rattle.std.specs.List.{concat}
use Rattle.clap.specs.Walk.{Text}
use Rattle.outside.specs.Shelf.{Shelved}
use Rattle.audit_mean.specs.Finding.{AuditFault, audit_of}
use Rattle.audit_mean.specs.declared.law.Finding.{Finding}
use Rattle.audit_mean.specs.declared.law.Finding.TheVariants.{Holds, Breach}
use Rattle.job_mean.specs.Job.{Job, check, synth, pack, replay, replay_with, explain, load, node, audit, job_of_words}
use Rattle.end_mean.specs.Status.{Ended, done, breached, file_refused, report_refused, words_refused, second_refused}
use Rattle.end_mean.specs.Status.{traces_refused, read_failed, write_failed, link_failed, no_memory, status_number}
use Rattle.job_ends.specs.Printed.{printed_text}
use Rattle.program_mean.specs.Headline.{IsNoReport, end_found, whole_end, second_for, third_for}
use Rattle.outside.specs.Lines.{Gains}
use Rattle.outside.specs.Said.{Errors, SaysLine, whole, failed, no_memory as wanted}
use Rattle.program_laws.specs.OneEnd.{IsAlone}
use Rattle.program_laws.proofs.Ends.{words_are_due, files_are_due, reports_are_due, seconds_are_due, misses_are_due}
use Rattle.program_laws.proofs.Ends.{second_misses_are_due, good_are_due, traces_are_due, third_misses_are_due}
use Rattle.job_ends.specs.Comes.{Around, Finds, Beside, After, IsOutput, Good, BadReport, Unfound, Whole, Comes}
use Rattle.job_ends.specs.Due.{Due, NoPutFailed, CallsFor, Exact}
use Rattle.job_ends.specs.Seen.{run_of, Seen}
use Rattle.job_ends.specs.Shown.{Said}
use Rattle.job_ends.proofs.Comes.{writes_of, output_once, beside_once, after_once, third_is}

-- a line was said with its status, or memory ran out
line_said : (line : List ℕ) (n : ℕ) (e : Errors) → SaysLine line n e → Due n e.status
line_said line n e (whole gained is) = inl is
line_said line n e (failed fails is) = inl is
line_said line n e (wanted begun is) = inr is

-- the status that is said is the end's, or 7
pub status_said : (end : Ended) (e : Errors) → Said end e → Due (status_number end) e.status
status_said done e s = inl s.status
status_said breached e s = line_said _ 8 e s
status_said (file_refused fault) e s = line_said _ 1 e s
status_said (report_refused fault) e s = line_said _ 1 e s
status_said words_refused e s = line_said _ 2 e s
status_said (second_refused fault) e s = line_said _ 3 e s
status_said (traces_refused fault) e s = line_said _ 9 e s
status_said read_failed e s = line_said _ 4 e s
status_said write_failed e s = line_said _ 5 e s
status_said link_failed e s = line_said _ 6 e s
status_said no_memory e s = line_said _ 7 e s

-- the status of a whole output
abbrev IsWhole : ℕ → Type 0
IsWhole status = (status ≡ 0) ⊎ (status ≡ 8)

apart : (n status : ℕ) → IsWhole status → Due n status → n ≢ 0 → n ≢ 8 → ⊥
apart n status (inl zero) due a b = ⊎_elim (λ is. a (sym is ∙ zero)) (λ is. omega (arith, is, zero)) due
apart n status (inr eight) due a b = ⊎_elim (λ is. b (sym is ∙ eight)) (λ is. omega (arith, is, eight)) due

-- an end that was said with that status
pub data Finished (end : Ended) : Type 0 where
  well : end ≡ done → Finished end
  breach : end ≡ breached → Finished end

pub finished : (end : Ended) (e : Errors) → Said end e → IsWhole e.status → Finished end
finished end e s is = go end (status_said end e s) where
  go : (end : Ended) → Due (status_number end) e.status → Finished end
  go done due = well refl
  go breached due = breach refl
  go (file_refused fault) due = absurd (apart 1 e.status is due (λ x. omega (arith, x)) (λ x. omega (arith, x)))
  go (report_refused fault) due = absurd (apart 1 e.status is due (λ x. omega (arith, x)) (λ x. omega (arith, x)))
  go words_refused due = absurd (apart 2 e.status is due (λ x. omega (arith, x)) (λ x. omega (arith, x)))
  go (second_refused fault) due = absurd (apart 3 e.status is due (λ x. omega (arith, x)) (λ x. omega (arith, x)))
  go (traces_refused fault) due = absurd (apart 9 e.status is due (λ x. omega (arith, x)) (λ x. omega (arith, x)))
  go read_failed due = absurd (apart 4 e.status is due (λ x. omega (arith, x)) (λ x. omega (arith, x)))
  go write_failed due = absurd (apart 5 e.status is due (λ x. omega (arith, x)) (λ x. omega (arith, x)))
  go link_failed due = absurd (apart 6 e.status is due (λ x. omega (arith, x)) (λ x. omega (arith, x)))
  go no_memory due = absurd (apart 7 e.status is due (λ x. omega (arith, x)) (λ x. omega (arith, x)))

-- a job whose whole output is written ends well or with a breach
whole_number : (job : Job) (file : List ℕ) → IsWhole (status_number (whole_end job file))
whole_number (check name) file = inl refl
whole_number (synth name) file = inl refl
whole_number (pack name) file = inl refl
whole_number (replay name script mode events wire count) file = inl refl
whole_number (replay_with name script given events wire count) file = inl refl
whole_number (explain name script) file = inl refl
whole_number (load name seed events members raw mode) file = inl refl
whole_number (node name plan turns me patience mode) file = inl refl
whole_number (audit name law) file = go (audit_of law file) where
  go : (r : Result Finding AuditFault) → IsWhole (status_number (end_found r))
  go (Ok Holds) = inl refl
  go (Ok (Breach first second)) = inr refl
  go (Err fault) = inl refl

module _ (words : List Text) (job : Job) (a : Around) (e : Errors) (is : job_of_words words ≡ Some job)
    (alone : IsAlone job)
    (s : Seen words (Some job) a e) where
  module _ (shelf : Shelved) (told : a.told ≡ Some shelf) where
    -- the files of the run are what the next reads find
    file_is : (found : Option (List ℕ)) → Finds job (Some shelf) found → s.file ≡ found
    file_is found finds =
        let met : Finds job (Some shelf) s.file = subst (λ t. Finds job t s.file) told s.met in
        sym met ∙ finds

    second_is : (found : Option (List ℕ)) → Beside job (Some shelf) found → second_for job s.second ≡ found
    second_is found finds = beside_once job shelf (second_for job s.second) found
        (subst (λ t. Beside job t (second_for job s.second)) told s.beside) finds

    third_found : (found : Option (List ℕ)) → After job (Some shelf) found → third_for job s.third ≡ found
    third_found found finds = after_once job shelf (third_for job s.third) found
        (subst (λ t. After job t (third_for job s.third)) told s.following) finds

    good_due : (good : Good job (Some shelf)) → NoPutFailed a → Due (status_number (whole_end job good.file)) e.status
    good_due good puts = good_are_due printed_text (run_of words a e s.file s.second s.third s.written s.said) job
        good.file good.second (concat good.lines)
        s.ran puts alone is (file_is (Some good.file) good.found) (second_is (Some good.second) good.beside)
        (writes_of job _ good.file good.second good.third good.lines good.output refl
        (third_found (Some good.third) good.following))

    unfound_due : Unfound job (Some shelf) → Due 4 e.status
    unfound_due (inl none) = misses_are_due printed_text (run_of words a e s.file s.second s.third s.written s.said) job
        s.ran is (file_is None none)
    unfound_due (inr (inl n)) =
        second_misses_are_due printed_text (run_of words a e s.file s.second s.third s.written s.said) job n.file
        n.stack s.ran is
        (file_is (Some n.file) n.found) n.means (second_is None n.none)
    unfound_due (inr (inr n)) =
        third_misses_are_due printed_text (run_of words a e s.file s.second s.third s.written s.said) job n.file
        n.second n.stack
        s.ran is (file_is (Some n.file) n.found) (second_is (Some n.second) n.beside) n.means n.fine
        (third_found None n.none)

    report_due : (fault : AuditFault) (b : BadReport job (Some shelf) fault) → Due 1 e.status
    report_due fault b = go job is b.refused where
      go : (other : Job) → job_of_words words ≡ Some other → IsNoReport other b.file fault → Due 1 e.status
      go (audit name law) named refused =
          reports_are_due printed_text (run_of words a e s.file s.second s.third s.written s.said) name law b.file fault
          s.ran
          named (file_is (Some b.file) b.found) refused
      go (check name) named refused = absurd refused
      go (synth name) named refused = absurd refused
      go (pack name) named refused = absurd refused
      go (replay name script mode events wire count) named refused = absurd refused
      go (replay_with name script given events wire count) named refused = absurd refused
      go (explain name script) named refused = absurd refused
      go (load name seed events members raw mode) named refused = absurd refused
      go (node name plan turns me patience mode) named refused = absurd refused

    due : (end : Ended) → CallsFor job a shelf end → Due (status_number end) e.status
    due done c = subst (λ end. Due (status_number end) e.status) c.0.1 (good_due c.0.0 c.1)
    due breached c = subst (λ end. Due (status_number end) e.status) c.0.1 (good_due c.0.0 c.1)
    due (file_refused fault) b = files_are_due printed_text (run_of words a e s.file s.second s.third s.written s.said)
        job b.file fault s.ran is b.reads
        (file_is (Some b.file) b.found) b.refused
    due (report_refused fault) b = report_due fault b
    due (second_refused fault) b =
        seconds_are_due printed_text (run_of words a e s.file s.second s.third s.written s.said) job b.file b.second
        b.stack fault
        s.ran is (file_is (Some b.file) b.found) (second_is (Some b.second) b.beside) b.means b.refused
    due (traces_refused fault) b =
        traces_are_due printed_text (run_of words a e s.file s.second s.third s.written s.said) job b.file b.second
        b.third
        b.stack fault s.ran is b.reads (file_is (Some b.file) b.found) (second_is (Some b.second) b.beside) b.means
        b.fine
        (third_is job s.third b.third b.reads (third_found (Some b.third) b.following)) b.refused
    due read_failed u = unfound_due u
    due _ c = absurd c

    -- what a job finds on a shelf has one output
    lines_once : (one other : Good job (Some shelf)) → one.lines ≡ other.lines
    lines_once one other =
        let files : Some one.file ≡ Some other.file = sym one.found ∙ other.found in
        let seconds : Some one.second ≡ Some other.second = beside_once job shelf (Some one.second) (Some other.second)
        one.beside other.beside in
        let thirds : Some one.third ≡ Some other.third = after_once job shelf (Some one.third) (Some other.third)
        one.following other.following in
        let file : other.file ≡ one.file = cc (files) in
        let second : other.second ≡ one.second = cc (seconds) in
        let third : other.third ≡ one.third = cc (thirds) in
        output_once job one.file one.second one.third one.lines other.lines one.output
        (subst {A = List ℕ × List ℕ × List ℕ} (λ x. IsOutput job x.0 x.1 x.2 other.lines)
        (λ k. (file k, second k, third k)) other.output)

    gained : (end : Ended) (w : Whole job a end) (good : Good job (Some shelf)) →
        Gains a.output a.output_after good.lines
    gained end w good = subst (Gains a.output a.output_after)
        (subst (λ t. (g : Good job t) → g.lines ≡ good.lines) (sym told) (λ g. lines_once g good) w.good) w.written

    complete : (end : Ended) → Comes job a end → Said end e → (good : Good job (Some shelf)) → NoPutFailed a →
        Gains a.output a.output_after good.lines ⊎ (e.status ≡ 7)
    complete end came said good puts = ⊎_elim
        (λ own. inl (ended (finished end e said (subst IsWhole (sym own) (whole_number job good.file)))))
        inr
        (good_due good puts) where
          ended : Finished end → Gains a.output a.output_after good.lines
          ended (well well_ended) = gained done (subst (Comes job a) well_ended came) good
          ended (breach breach_found) = gained breached (subst (Comes job a) breach_found came) good

  pub exact : (end : Ended) → Comes job a end → Said end e → Exact job a e.status
  exact end came said = record {
    due = λ shelf end told calls. due shelf told end calls;
    complete = λ shelf good told puts. complete shelf told end came said good puts;
  }

-- words that are no job are refused
pub words_due : (words : List Text) (a : Around) (e : Errors) → Seen words None a e → job_of_words words ≡ None →
    Due 2 e.status
words_due words a e s is = words_are_due printed_text (run_of words a e s.file s.second s.third s.written s.said) s.ran
    is
