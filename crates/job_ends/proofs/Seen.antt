-- How a job ended, as a run of the program.
use Rattle.std.proofs.Common.{◌≡◌, refl, sym, subst, ◌∙◌, ℕ, List, [], ◌∷◌, ◌++◌, append-nil, Option, Some, None, inl}
use Rattle.std.proofs.Common.{inr}
use Rattle.std.specs.List.{concat}
use Rattle.std.specs.Prelude.{IfSome, IsSomeAnd}
use Rattle.outside.specs.Count.{Rose}
use Rattle.outside.specs.Shelf.{Shelved}
use Rattle.audit_mean.specs.Finding.{AuditFault}
use Rattle.std.specs.Io.KnownBytes.{Appends}
use Rattle.clap.specs.Walk.{Text}
use Rattle.outside.proofs.Appended.{appends_none}
use Rattle.job_mean.specs.Job.{Job, check, synth, pack, replay, replay_with, explain, load, node, audit, job_of_words}
use Rattle.end_mean.specs.Status.{Ended, done, breached, file_refused, report_refused, words_refused, second_refused}
use Rattle.end_mean.specs.Status.{traces_refused, read_failed, write_failed, link_failed, no_memory, status_number}
use Rattle.end_mean.specs.Status.{error_line}
use Rattle.job_ends.specs.Printed.{printed_text}
use Rattle.program_mean.specs.Headline.{Run, second_for, third_for, OfJob, ReadsStack, ReadsTraces, IsNoReport, AreGood}
use Rattle.program_mean.specs.Headline.{Unread, whole_end, WritesOf, WritesWhole, WroteNothing, Began, Ends, Says}
use Rattle.program_mean.specs.Headline.{whole, cut_off, out_of_memory}
use Rattle.output_mean.specs.Judged.{Means}
use Rattle.pack_mean.specs.Accepted.{IsFault}
use Rattle.program_mean.specs.Second.{second_fault}
use Rattle.outside.specs.Tells.{Tells}
use Rattle.outside.specs.Said.{Errors, SaysLine}
use Rattle.outside.specs.Said as said
use Rattle.outside.proofs.Gaining.{fails_part, begins_part}
use Rattle.job_ends.specs.Comes.{Around, Finds, Beside, After, Good, Unfound, Whole, Comes, NoJob}
use Rattle.job_ends.specs.Shown.{Said}
use Rattle.job_ends.specs.Seen.{counts_around, run_of, Seen}
use Rattle.job_ends.proofs.Comes.{writes_of, second_read, second_missed, next_file, next_second, third_read}
use Rattle.job_ends.proofs.Comes.{third_missed, next_third, third_is}

-- What a run met and wrote, and that it ended so.
pub record Reached (words : List Text) (job : Option Job) (a : Around) (end : Ended) : Type 0 where
  pub file : Option (List ℕ)
  pub second : Option (List ℕ)
  pub third : Option (List ℕ)
  pub met : IfSome job (λ j. Finds j a.told file)
  pub beside : IfSome job (λ j. Beside j a.told (second_for j second))
  pub following : IfSome job (λ j. After j a.told (third_for j third))
  pub written : List ℕ
  pub put : Appends a.output.contents a.output_after.contents written
  pub ends : (e : Errors) (said : List ℕ) → Ends printed_text (run_of words a e file second third written said) end

-- a sink that is as it was gained nothing
pub same_gained : (old new : Tells) → new ≡ old → Appends old.contents new.contents []
same_gained old new same = subst (λ t. Appends old.contents t.contents []) (sym same) (appends_none old.contents)

-- an audit has no second file, and no third
report_second : (job : Job) (file : List ℕ) (fault : AuditFault) → IsNoReport job file fault → (told : Option Shelved) →
    (second_for job None ≡ Some []) × Beside job told (Some []) × After job told (third_for job None)
report_second (audit name law) file fault refused told = (refl, refl, refl)
report_second (check name) file fault refused told = absurd refused
report_second (synth name) file fault refused told = absurd refused
report_second (pack name) file fault refused told = absurd refused
report_second (replay name script mode events wire count) file fault refused told = absurd refused
report_second (replay_with name script given events wire count) file fault refused told = absurd refused
report_second (explain name script) file fault refused told = absurd refused
report_second (load name seed events members raw mode) file fault refused told = absurd refused
report_second (node name plan turns me patience mode) file fault refused told = absurd refused

-- nothing was written
nothing : (words : List Text) (a : Around) (e : Errors) (file second third : Option (List ℕ)) (said : List ℕ) →
    WroteNothing (run_of words a e file second third [] said)
nothing words a e file second third said = record { written = refl; sent = refl; sound = refl }

module _ (words : List Text) (a : Around) (job : Job) (is : job_of_words words ≡ Some job) where
  -- what holds of the job, and of the job and its files
  some_job : (P : Job → Type 0) → P job → IsSomeAnd (job_of_words words) P
  some_job P holds = subst (λ o. IsSomeAnd o P) (sym is) holds

  job_holds : (Holds : Job → (file second : List ℕ) → Type 0) (e : Errors) (file : List ℕ)
      (second third : Option (List ℕ)) (text written said : List ℕ) →
      a.reads_after ≡ a.reads → second_for job second ≡ Some text → Holds job file text →
      OfJob (run_of words a e (Some file) second third written said) Holds
  job_holds Holds e file second third text written said sound beside holds =
      some_job (λ j. (a.reads_after ≡ a.reads) × IsSomeAnd (second_for j second) (λ t. Holds j file t))
      (sound, subst (λ o. IsSomeAnd o (λ t. Holds job file t)) (sym beside) holds)

  -- its second and its third file, as the run has them
  record Others (second third : List ℕ) : Type 0 where
    second_is : Option (List ℕ)
    second_for_it : second_for job second_is ≡ Some second
    beside : Beside job a.told (second_for job second_is)
    third_is : Option (List ℕ)
    third_for_it : third_for job third_is ≡ Some third
    following : After job a.told (third_for job third_is)

  -- what the reads found, as the run has it
  beside_as : (second : Option (List ℕ)) (found : Option (List ℕ)) → second_for job second ≡ found →
      Beside job a.told found →
      Beside job a.told (second_for job second)
  beside_as second found is beside = subst (Beside job a.told) (sym is) beside

  after_as : (third : Option (List ℕ)) (found : Option (List ℕ)) → third_for job third ≡ found →
      After job a.told found →
      After job a.told (third_for job third)
  after_as third found is following = subst (After job a.told) (sym is) following

  others : (second third : List ℕ) → Beside job a.told (Some second) → After job a.told (Some third) →
      Others second third
  others second third beside following =
      let s = second_read job a.told second beside in
      let t = third_read job a.told third following in record {
        second_is = s.0;
        second_for_it = s.1;
        beside = beside_as s.0 (Some second) s.1 beside;
        third_is = t.0;
        third_for_it = t.1;
        following = after_as t.0 (Some third) t.1 following;
      }

  abbrev others_of : (good : Good job a.told) → Others good.second good.third
  others_of good = others good.second good.third good.beside good.following

  -- an output that was written in part
  began : (good : Good job a.told) (o : Others good.second good.third) (written rest : List ℕ) (e : Errors)
      (said : List ℕ) →
      a.reads_after ≡ a.reads → concat good.lines ≡ written ++ rest →
      Began printed_text (run_of words a e (Some good.file) o.second_is o.third_is written said)
  began good o written rest e said sound all = record {
    clock = [];
    heard = [];
    sent = [];
    rest = rest;
    whole = job_holds (λ j f t.
        WritesOf printed_text j (run_of words a e (Some good.file) o.second_is o.third_is written said) f t
        (written ++ rest))
        e good.file o.second_is o.third_is good.second written said sound o.second_for_it
        (subst (λ out. WritesOf printed_text job (run_of words a e (Some good.file) o.second_is o.third_is written said)
        good.file good.second out) all
        (writes_of job _ good.file good.second good.third good.lines good.output refl o.third_for_it));
    heard_all = inl refl;
  }

  -- a whole output was written
  whole_reached : (end : Ended) (w : Whole job a end) →
      ((r : Run) → WritesWhole printed_text r end → Ends printed_text r end) → Reached words (Some job) a end
  whole_reached end w ended = let o = others_of w.good in record {
    file = Some w.good.file;
    second = o.second_is;
    third = o.third_is;
    met = w.good.found;
    beside = o.beside;
    following = o.following;
    written = concat w.good.lines;
    put = w.written.gained;
    ends = λ e said. ended (run_of words a e (Some w.good.file) o.second_is o.third_is (concat w.good.lines) said) (
      job_holds (λ j f t. WritesOf printed_text j
          (run_of words a e (Some w.good.file) o.second_is o.third_is (concat w.good.lines) said)
          f t (concat w.good.lines) × (whole_end j f ≡ end))
          e w.good.file o.second_is o.third_is w.good.second (concat w.good.lines) said w.sound o.second_for_it (
            writes_of job _ w.good.file w.good.second w.good.third w.good.lines w.good.output refl o.third_for_it,
            w.ends,
          ),
      w.written.sound,
      inl refl,
    );
  }

  -- an output was cut off after a part
  part_reached : (end : Ended) (good : Good job a.told) (part rest : List ℕ) → a.reads_after ≡ a.reads →
      concat good.lines ≡ part ++ rest →
      Appends a.output.contents a.output_after.contents part →
      ((r : Run) → r.puts ≡ counts_around a.output.faults a.output_after.faults → Began printed_text r →
      Ends printed_text r end) →
      Reached words (Some job) a end
  part_reached end good part rest sound all put ended = let o = others_of good in record {
    file = Some good.file;
    second = o.second_is;
    third = o.third_is;
    met = good.found;
    beside = o.beside;
    following = o.following;
    written = part;
    put = put;
    ends = λ e said. ended (run_of words a e (Some good.file) o.second_is o.third_is part said) refl
        (began good o part rest e said sound all);
  }

  -- nothing was written
  abbrev nothing_reached : (end : Ended) (file second third : Option (List ℕ)) → a.output_after ≡ a.output →
      Finds job a.told file →
      Beside job a.told (second_for job second) → After job a.told (third_for job third) →
      ((e : Errors) (said : List ℕ) → Ends printed_text (run_of words a e file second third [] said) end) →
      Reached words (Some job) a end
  nothing_reached end file second third same found beside following ends = record {
    file = file;
    second = second;
    third = third;
    met = found;
    beside = beside;
    following = following;
    written = [];
    put = same_gained a.output a.output_after same;
    ends = ends;
  }

  -- a run that looked for its later files or not, and wrote nothing
  unfound_reached : Unfound job a.told → a.output_after ≡ a.output → Rose a.reads a.reads_after →
      Reached words (Some job) a read_failed
  unfound_reached (inl none) same rose = let s = next_second job a.told in let t = next_third job a.told in
      nothing_reached read_failed None s.0 t.0 same none s.1 t.1 (λ e said. record {
        rose = rose;
        unread = some_job (Unread (run_of words a e None s.0 t.0 [] said)) (inl refl);
        nothing = nothing words a e None s.0 t.0 said;
      })
  unfound_reached (inr (inl n)) same rose = let none = second_missed job a.told n.none in let t =
      next_third job a.told in
      nothing_reached read_failed (Some n.file) None t.0 same n.found (beside_as None None none n.none) t.1
      (λ e said. record {
        rose = rose;
        unread = some_job (Unread (run_of words a e (Some n.file) None t.0 [] said))
            (inr (inl (none, record { stack = n.stack; means = n.means })));
        nothing = nothing words a e (Some n.file) None t.0 said;
      })
  unfound_reached (inr (inr n)) same rose = let none = third_missed job a.told n.none in let s =
      second_read job a.told n.second n.beside in
      nothing_reached read_failed (Some n.file) s.0 None same n.found (beside_as s.0 (Some n.second) s.1 n.beside)
      (after_as None None none n.none)
      (λ e said. record {
        rose = rose;
        unread = some_job (Unread (run_of words a e (Some n.file) s.0 None [] said)) (inr (inr (
          none,
          subst (λ o. IsSomeAnd o (AreGood job n.file)) (sym s.1)
              (record { stack = n.stack; means = n.means; fine = n.fine }),
        )));
        nothing = nothing words a e (Some n.file) s.0 None said;
      })

  pub reached : (end : Ended) → Comes job a end → Reached words (Some job) a end
  reached done w = whole_reached done w (λ r h. h)
  reached breached w = whole_reached breached w (λ r h. h)
  reached (file_refused fault) r = let s = next_second job a.told in let t = next_third job a.told in
      nothing_reached (file_refused fault) (Some r.cause.file) s.0 t.0 r.untouched r.cause.found s.1 t.1
      (λ e said. record {
        sound = r.sound;
        job = some_job ReadsStack r.cause.reads;
        refused = r.cause.refused;
        nothing = nothing words a e (Some r.cause.file) s.0 t.0 said;
      })
  reached (report_refused fault) r = let s = report_second job r.cause.file fault r.cause.refused a.told in
      nothing_reached (report_refused fault) (Some r.cause.file) None None r.untouched r.cause.found
      (beside_as None (Some []) s.0 s.1) s.2
      (λ e said. record {
        refused = job_holds (λ j f t. IsNoReport j f fault) e r.cause.file None None [] [] said r.sound s.0
            r.cause.refused;
        nothing = nothing words a e (Some r.cause.file) None None said;
      })
  reached (second_refused fault) r = let s = second_read job a.told r.cause.second r.cause.beside in let t =
      next_third job a.told in
      nothing_reached (second_refused fault) (Some r.cause.file) s.0 t.0 r.untouched r.cause.found
      (beside_as s.0 (Some r.cause.second) s.1 r.cause.beside) t.1 (λ e said. record {
        stack = r.cause.stack;
        refused = job_holds (λ j f x. Means f r.cause.stack × (second_fault j r.cause.stack x ≡ Some fault)) e
            r.cause.file s.0 t.0 r.cause.second [] said
            r.sound s.1 (r.cause.means, r.cause.refused);
        nothing = nothing words a e (Some r.cause.file) s.0 t.0 said;
      })
  reached (traces_refused fault) r = let o = others r.cause.second r.cause.third r.cause.beside r.cause.following in
      nothing_reached (traces_refused fault) (Some r.cause.file) o.second_is o.third_is r.untouched r.cause.found
      o.beside o.following (λ e said. record {
        stack = r.cause.stack;
        others = job_holds (λ j f x. ReadsTraces j × Means f r.cause.stack × (second_fault j r.cause.stack x ≡ None)) e
            r.cause.file
            o.second_is o.third_is r.cause.second [] said r.sound o.second_for_it
            (r.cause.reads, r.cause.means, r.cause.fine);
        refused = subst (λ found. IsSomeAnd found (λ text. IsFault r.cause.stack text fault))
            (sym (third_is job o.third_is r.cause.third r.cause.reads o.third_for_it)) r.cause.refused;
        nothing = nothing words a e (Some r.cause.file) o.second_is o.third_is said;
      })
  reached read_failed m = unfound_reached m.unfound m.untouched m.rose
  reached write_failed w = let f = fails_part a.output a.output_after w.good.lines w.written in
      part_reached write_failed w.good f.0 f.1 w.sound f.3 f.2
      (λ r puts b. (subst (λ p. Rose p.before p.after) (sym puts) w.written.rose, b))
  reached no_memory (inl same) =
      let f = next_file job a.told in
      let s = next_second job a.told in
      let t = next_third job a.told in
      nothing_reached no_memory f.0 s.0 t.0 same f.1 s.1 t.1 (λ e said. inl (nothing words a e f.0 s.0 t.0 said))
  reached no_memory (inr w) = let f = begins_part a.output a.output_after (concat w.good.lines) w.written in
      part_reached no_memory w.good f.0 f.1 w.sound f.3 f.2 (λ r puts b. inr b)
  reached _ w = absurd w

-- words that are no job
jobless_reached : (words : List Text) (a : Around) → job_of_words words ≡ None → (end : Ended) → NoJob a end →
    Reached words None a end
jobless_reached words a is words_refused n = record {
  file = None;
  second = None;
  third = None;
  met = tt;
  beside = tt;
  following = tt;
  written = [];
  put = same_gained a.output a.output_after n.untouched;
  ends = λ e said. (is, n.unread, nothing words a e None None None said);
}
jobless_reached words a is no_memory n = record {
  file = None;
  second = None;
  third = None;
  met = tt;
  beside = tt;
  following = tt;
  written = [];
  put = same_gained a.output a.output_after n.untouched;
  ends = λ e said. inl (nothing words a e None None None said);
}
jobless_reached words a is _ n = absurd n

-- what was said of an end
pub record Spoke (words : List Text) (a : Around) (e : Errors) (file second third : Option (List ℕ)) (written : List ℕ)
    (end : Ended) : Type 0 where
  pub said : List ℕ
  pub heard : Appends e.before.contents e.after.contents said
  pub says : Says (run_of words a e file second third written said) end

line_spoke : (words : List Text) (a : Around) (e : Errors) (file second third : Option (List ℕ)) (written : List ℕ)
    (end : Ended) →
    SaysLine (error_line end) (status_number end) e → Spoke words a e file second third written end
line_spoke words a e file second third written end (said.whole gained is) = record {
  said = error_line end;
  heard = subst (Appends e.before.contents e.after.contents) (append-nil (error_line end)) gained.gained;
  says = whole refl is;
}
line_spoke words a e file second third written end (said.failed fails is) = let f =
    fails_part e.before e.after (error_line end ∷ []) fails in record {
      said = f.0;
      heard = f.2;
      says = cut_off (record { rest = f.1; is = sym (append-nil (error_line end)) ∙ f.3 }) fails.rose is;
    }
line_spoke words a e file second third written end (said.no_memory begun is) = let f =
    begins_part e.before e.after (error_line end) begun in record {
      said = f.0;
      heard = f.2;
      says = out_of_memory (record { rest = f.1; is = f.3 }) is;
    }

pub spoke : (words : List Text) (a : Around) (e : Errors) (file second third : Option (List ℕ)) (written : List ℕ)
    (end : Ended) → Said end e →
    Spoke words a e file second third written end
spoke words a e file second third written done s = record {
  said = [];
  heard = same_gained e.before e.after s.silent;
  says = whole refl s.status;
}
spoke words a e file second third written breached s = line_spoke words a e file second third written breached s
spoke words a e file second third written (file_refused fault) s =
    line_spoke words a e file second third written (file_refused fault) s
spoke words a e file second third written (report_refused fault) s =
    line_spoke words a e file second third written (report_refused fault) s
spoke words a e file second third written words_refused s = line_spoke words a e file second third written words_refused
    s
spoke words a e file second third written (second_refused fault) s =
    line_spoke words a e file second third written (second_refused fault) s
spoke words a e file second third written (traces_refused fault) s =
    line_spoke words a e file second third written (traces_refused fault) s
spoke words a e file second third written read_failed s = line_spoke words a e file second third written read_failed s
spoke words a e file second third written write_failed s = line_spoke words a e file second third written write_failed s
spoke words a e file second third written link_failed s = line_spoke words a e file second third written link_failed s
spoke words a e file second third written no_memory s = line_spoke words a e file second third written no_memory s

seen_so : (words : List Text) (job : Option Job) (a : Around) (e : Errors) (end : Ended) → Reached words job a end →
    Said end e →
    Seen words job a e
seen_so words job a e end r s = let says = spoke words a e r.file r.second r.third r.written end s in record {
  file = r.file;
  second = r.second;
  third = r.third;
  met = r.met;
  beside = r.beside;
  following = r.following;
  written = r.written;
  put = r.put;
  said = says.said;
  heard = says.heard;
  ran = record { end = end; ends = r.ends e says.said; says = says.says; lost = inl refl };
}

pub seen : (words : List Text) (job : Job) (a : Around) (e : Errors) (end : Ended) → job_of_words words ≡ Some job →
    Comes job a end → Said end e →
    Seen words (Some job) a e
seen words job a e end is came s = seen_so words (Some job) a e end (reached words a job is end came) s

pub jobless_seen : (words : List Text) (a : Around) (e : Errors) (end : Ended) → job_of_words words ≡ None →
    NoJob a end → Said end e →
    Seen words None a e
jobless_seen words a e end is came s = seen_so words None a e end (jobless_reached words a is end came) s
