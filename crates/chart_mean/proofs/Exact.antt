-- The status of a run is the one that is due.
use Rattle.std.proofs.Common.{◌≡◌, ap, subst, ℕ, List, [], ◌∷◌, Option, Some, None, inl, inr, ⊎_elim}
use Rattle.std.specs.Prelude.{◌⊎◌, IfSome, Ok, Err}
use Rattle.audit_mean.specs.Finding.{AuditFault}
use Rattle.outside.specs.Lines.{Gains}
use Rattle.outside.specs.Shelf.{Shelved, found_in}
use Rattle.outside.specs.Said.{Errors, SaysLine, whole, failed, no_memory}
use Rattle.chart_mean.specs.Picture.{chart_of}
use Rattle.chart_mean.specs.Words.{Request}
use Rattle.chart_mean.specs.Ends.{status_number, error_line, Said}
use Rattle.chart_mean.specs.Runs.{Around, Draws, Comes, Due, NoPutFailed, ExactFor}
use Rattle.chart_mean.specs.declared.types.ChartEnding.{ChartEnding}
use Rattle.chart_mean.specs.declared.types.ChartEnding.TheVariants.{Done, TooLarge, Line, Words, Read, Write, Memory}

line_due : (line : List ℕ) (status : ℕ) (e : Errors) → SaysLine line status e → Due status e.status
line_due line status e (whole gained is) = inl is
line_due line status e (failed part is) = inl is
line_due line status e (no_memory begun is) = inr is

-- what is said of an end goes with its status
said_due : (end : ChartEnding) (e : Errors) → Said end e → Due (status_number end) e.status
said_due Done e said = inl said.status
said_due TooLarge e said = line_due (error_line TooLarge) 1 e said
said_due (Line number) e said = line_due (error_line (Line number)) 1 e said
said_due Words e said = line_due (error_line Words) 2 e said
said_due Read e said = line_due (error_line Read) 4 e said
said_due Write e said = line_due (error_line Write) 5 e said
said_due Memory e said = line_due (error_line Memory) 7 e said

only : (n status : ℕ) → Due 7 status → Due n status
only n status due = ⊎_elim (λ is. inr is) (λ is. inr is) due

-- where the shelf tells, what was found is what it has
on_shelf : (told : Option Shelved) (shelf : Shelved) (P : Shelved → Type 0) → told ≡ Some shelf → IfSome told P →
    P shelf
on_shelf told shelf P is found = subst (λ t. IfSome t P) is found

module _ (r : Request) (a : Around) (status : ℕ) (shelf : Shelved) (is : a.told ≡ Some shelf) where
  found : (file : List ℕ) → IfSome a.told (λ s. found_in s r.file ≡ Some file) → found_in shelf r.file ≡ Some file
  found file h = on_shelf a.told shelf (λ s. found_in s r.file ≡ Some file) is h

  missed : IfSome a.told (λ s. found_in s r.file ≡ None) → found_in shelf r.file ≡ None
  missed h = on_shelf a.told shelf (λ s. found_in s r.file ≡ None) is h

  apart : {X : Type 0} (file : List ℕ) → found_in shelf r.file ≡ Some file → found_in shelf r.file ≡ None → X
  apart file some none = absurd (cc (some, none))

  unread : (end : ChartEnding) → Draws r a end → Due (status_number end) status → found_in shelf r.file ≡ None →
      Due 4 status
  unread Done d due none = apart d.good.file (found d.good.file d.good.found) none
  unread TooLarge d due none = apart d.file (found d.file d.found) none
  unread (Line number) d due none = apart d.file (found d.file d.found) none
  unread Words d due none = absurd d
  unread Read d due none = due
  unread Write d due none = apart d.good.file (found d.good.file d.good.found) none
  unread Memory d due none = only 4 status due

  -- one file has one picture or one fault
  file_is : (file other : List ℕ) → found_in shelf r.file ≡ Some file → found_in shelf r.file ≡ Some other →
      file ≡ other
  file_is file other one two = cc (one, two)

  unlike : {X : Type 0} (file other picture : List ℕ) (fault : AuditFault) → found_in shelf r.file ≡ Some file →
      found_in shelf r.file ≡ Some other →
      chart_of r.excerpt file ≡ Ok picture → chart_of r.excerpt other ≡ Err fault → X
  unlike file other picture fault one two drawn not_drawn =
      let same = ap (chart_of r.excerpt) (file_is file other one two) in absurd (cc (same, drawn, not_drawn))

  refused : (end : ChartEnding) → Draws r a end → Due (status_number end) status → (file : List ℕ)
      (fault : AuditFault) → found_in shelf r.file ≡ Some file →
      chart_of r.excerpt file ≡ Err fault → Due 1 status
  refused Done d due file fault has not_drawn =
      unlike d.good.file file d.good.picture fault (found d.good.file d.good.found) has d.good.drawn not_drawn
  refused TooLarge d due file fault has not_drawn = due
  refused (Line number) d due file fault has not_drawn = due
  refused Words d due file fault has not_drawn = absurd d
  refused Read d due file fault has not_drawn = apart file has (missed d.none)
  refused Write d due file fault has not_drawn =
      unlike d.good.file file d.good.picture fault (found d.good.file d.good.found) has d.good.drawn not_drawn
  refused Memory d due file fault has not_drawn = only 1 status due

  picture_is : (file other one two : List ℕ) → found_in shelf r.file ≡ Some file → found_in shelf r.file ≡ Some other →
      chart_of r.excerpt file ≡ Ok one → chart_of r.excerpt other ≡ Ok two → one ≡ two
  picture_is file other one two has other_has drawn other_drawn =
      let same = ap (chart_of r.excerpt) (file_is file other has other_has) in cc (same, drawn, other_drawn)

  complete : (end : ChartEnding) → Draws r a end → Due (status_number end) status → (file picture : List ℕ) →
      found_in shelf r.file ≡ Some file →
      chart_of r.excerpt file ≡ Ok picture → NoPutFailed a →
      ((status ≡ 0) × Gains a.output a.output_after (picture ∷ [])) ⊎ (status ≡ 7)
  complete Done d due file picture has drawn sound =
      let same = picture_is d.good.file file d.good.picture picture (found d.good.file d.good.found) has d.good.drawn
      drawn in
      ⊎_elim (λ is. inl (is, subst (λ p. Gains a.output a.output_after (p ∷ [])) same d.written)) (λ is. inr is) due
  complete TooLarge d due file picture has drawn sound = unlike file d.file picture _ has (found d.file d.found) drawn
      d.refused
  complete (Line number) d due file picture has drawn sound = unlike file d.file picture _ has (found d.file d.found)
      drawn d.refused
  complete Words d due file picture has drawn sound = absurd d
  complete Read d due file picture has drawn sound = apart file has (missed d.none)
  complete Write d due file picture has drawn sound = absurd (sound d.written.rose)
  complete Memory d due file picture has drawn sound = ⊎_elim (λ is. inr is) (λ is. inr is) due

none_due : (end : ChartEnding) (a : Around) (status : ℕ) → Comes None a end → Due (status_number end) status →
    Due 2 status
none_due Done a status c due = absurd c
none_due TooLarge a status c due = absurd c
none_due (Line number) a status c due = absurd c
none_due Words a status c due = due
none_due Read a status c due = absurd c
none_due Write a status c due = absurd c
none_due Memory a status c due = only 2 status due

-- the status of a run that ended so, and said that, is the one that is due
pub exact : (request : Option Request) (a : Around) (e : Errors) (end : ChartEnding) → Comes request a end →
    Said end e → ExactFor request a e.status
exact None a e end c said = none_due end a e.status c (said_due end e said)
exact (Some r) a e end c said = let due = said_due end e said in record {
  unread = λ shelf is none. unread r a e.status shelf is end c due none;
  refused = λ shelf file fault is has not_drawn. refused r a e.status shelf is end c due file fault has not_drawn;
  complete = λ shelf file picture is has drawn sound. complete r a e.status shelf is end c due file picture has drawn
      sound;
}
