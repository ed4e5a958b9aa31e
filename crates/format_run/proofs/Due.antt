-- A run ends with the status that is due.
use Rattle.std.proofs.Common.{◌≡◌, refl, sym, ap, subst, ◌∙◌, ℕ, ◌<◌, cond, List, length, Option, Some, None, inl, inr}
use Rattle.std.proofs.Common.{⊎_elim}
use Rattle.std.specs.Prelude.{◌⊎◌, IfSome, IsSomeAnd}
use Rattle.std.proofs.lemmas.Bool.{lt-ltb}
use Rattle.layer_ast.specs.Cut.{text_tokens}
use Rattle.layer_ast.specs.Spells.{longest_file}
use Rattle.outside.specs.Lines.{Gains}
use Rattle.outside.specs.Said.{Errors, SaysLine, whole, failed, no_memory as wanted}
use Rattle.outside.specs.Shelf.{Shelved, found_in}
use Rattle.format_mean.specs.Layout.{formatted_lines}
use Rattle.format_run.specs.declared.ending.LayoutEnding.{LayoutEnding}
use Rattle.format_run.specs.declared.ending.LayoutEnding.TheVariants as ending
use Rattle.format_run.specs.Ends.{Around, name_of, by_token, verdict, end_for, Finds, Comes, ComesOf, Said, status_of}
use Rattle.format_run.specs.Ends.{Due, NoPutFailed, IsExact, Does}

-- a line was said with its status, or memory ran out
line_said : (line : List ℕ) (n : ℕ) (e : Errors) → SaysLine line n e → Due n e.status
line_said line n e (whole gained is) = inl is
line_said line n e (failed fails is) = inl is
line_said line n e (wanted begun is) = inr is

pub status_said : (end : LayoutEnding) (e : Errors) → Said end e → Due (status_of end) e.status
status_said ending.Done e s = inl s.status
status_said ending.Words e s = line_said _ 2 e s
status_said ending.TooLarge e s = line_said _ 1 e s
status_said (ending.BadToken at) e s = line_said _ 1 e s
status_said ending.Read e s = line_said _ 4 e s
status_said ending.Write e s = line_said _ 5 e s
status_said ending.Memory e s = line_said _ 7 e s

seven : (e : Errors) → Said ending.Memory e → e.status ≡ 7
seven e s = ⊎_elim (λ is. is) (λ is. is) (status_said ending.Memory e s)

-- what the read found, where the shelf tells
found_is : (name : List ℕ) (told : Option Shelved) (shelf : Shelved) (found : Option (List ℕ)) → told ≡ Some shelf →
    Finds name told found →
    found_in shelf name ≡ found
found_is name told shelf found is finds = subst (λ t. Finds name t found) is finds

large_is : (found : Option (List ℕ)) → IsSomeAnd found (λ file. longest_file < length file) →
    end_for found ≡ ending.TooLarge
large_is None large = absurd large
large_is (Some file) large = ap (λ t. cond t ending.TooLarge (by_token (text_tokens file).bad_at))
    (lt-ltb longest_file (length file) large)

module _ (name : List ℕ) (a : Around) (shelf : Shelved) (told : a.told ≡ Some shelf) (sound : NoPutFailed a) where
  -- the end is the one that is called for, or memory ran out
  ends_as : (end : LayoutEnding) → ComesOf name a end → (end_for (found_in shelf name) ≡ end) ⊎ (end ≡ ending.Memory)
  ends_as ending.Done c = inl (ap end_for (found_is name a.told shelf (Some c.file) told c.found.found) ∙ c.found.good)
  ends_as ending.Words c = absurd c.stopped
  ends_as ending.TooLarge c =
      inl (large_is (found_in shelf name)
      (subst (λ t. IfSome t (λ shelf. IsSomeAnd (found_in shelf name) (λ file. longest_file < length file))) told
      c.stopped.large))
  ends_as (ending.BadToken at) c =
      inl (ap end_for (found_is name a.told shelf (Some c.stopped.file) told c.stopped.found) ∙ c.stopped.bad)
  ends_as ending.Read c = inl (ap end_for (found_is name a.told shelf None told c.stopped.none))
  ends_as ending.Write c = absurd (sound c.written.rose)
  ends_as ending.Memory c = inr refl

  is_due : (end : LayoutEnding) (e : Errors) → ComesOf name a end → Said end e →
      Due (status_of (end_for (found_in shelf name))) e.status
  is_due end e c s =
      ⊎_elim (λ is. subst (λ n. Due n e.status) (sym (ap status_of is)) (status_said end e s))
      (λ is. inr (seven e (subst (λ end. Said end e) is s))) (ends_as end c)

  one_text : (f g : List ℕ) → Some f ≡ Some g → f ≡ g
  one_text f g is = cc

  is_whole : (file : List ℕ) → found_in shelf name ≡ Some file → verdict file ≡ ending.Done →
      (end : LayoutEnding) (e : Errors) →
      ComesOf name a end → Said end e → Gains a.output a.output_after (formatted_lines file) ⊎ (e.status ≡ 7)
  is_whole file found good end e c s =
      ⊎_elim (λ is. inl (done end c (sym is ∙ (ap end_for found ∙ good))))
      (λ is. inr (seven e (subst (λ end. Said end e) is s))) (ends_as end c)
    where
      done : (end : LayoutEnding) → ComesOf name a end → end ≡ ending.Done →
          Gains a.output a.output_after (formatted_lines file)
      done ending.Done c is =
          let same : c.file ≡ file =
          one_text c.file file (sym (found_is name a.told shelf (Some c.file) told c.found.found) ∙ found) in
          subst (λ f. Gains a.output a.output_after (formatted_lines f)) same c.written
      done ending.Words c is = absurd (cc is)
      done ending.TooLarge c is = absurd (cc is)
      done (ending.BadToken at) c is = absurd (cc is)
      done ending.Read c is = absurd (cc is)
      done ending.Write c is = absurd (cc is)
      done ending.Memory c is = absurd (cc is)

exact : (name : Option (List ℕ)) (a : Around) (end : LayoutEnding) (e : Errors) → Comes name a end → Said end e →
    IsExact name a e.status
exact None a ending.Done e c s = absurd c
exact None a ending.Words e c s = status_said ending.Words e s
exact None a ending.TooLarge e c s = absurd c
exact None a (ending.BadToken at) e c s = absurd c
exact None a ending.Read e c s = absurd c
exact None a ending.Write e c s = absurd c
exact None a ending.Memory e c s = absurd c
exact (Some name) a end e c s = record {
  due = λ shelf told sound. is_due name a shelf told sound end e c s;
  complete = λ shelf file told found good sound. is_whole name a shelf told sound file found good end e c s;
}

pub does : (words : List (List ℕ)) (a : Around) (end : LayoutEnding) (e : Errors) → Comes (name_of words) a end →
    Said end e → Does words a e
does words a end e c s = record { end = end; came = c; said = s; exact = exact (name_of words) a end e c s }
