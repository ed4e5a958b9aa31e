-- How a run ended, from what each of its steps answered.
use Rattle.std.proofs.Common.{◌≡◌, refl, sym, subst, append-nil, ℕ, List, [], ◌∷◌, Option, Some, None, inl, inr}
use Rattle.std.specs.Prelude.{Result, Ok, Err}
use Rattle.end_mean.specs.Status.{done, breached, no_memory}
use Rattle.outside.specs.Lines.{Begins, Wrote}
use Rattle.outside.specs.Shelf.{Shelved}
use Rattle.outside.specs.Tells.{Tells}
use Rattle.outside.specs.declared.sink.SinkError.{SinkError}
use Rattle.outside.specs.declared.sink.SinkError.TheVariants.{Failed, Memory}
use Rattle.job_ends.specs.Comes.{surrounding}
use Rattle.bound_mean.specs.Ends.{Checks, Comes, Good}
use Rattle.bound_mean.specs.Told.{Finish, ended}
use Rattle.bound_mean.specs.Words.{Request}
use Rattle.bound_run.specs.Fetching.{IsFetched}
use Rattle.bound_run.specs.Shown.{finish_for, finish_put}
use Rattle.bound_run.specs.declared.output.Kind.{Kind}
use Rattle.bound_run.specs.declared.output.Kind.TheVariants.{Held, HeldTo, Breach}
use Rattle.bound_run.specs.declared.output.Output.{Output}

-- where memory ran out over the words, nothing was done
pub wanted : (r : Option Request) (told : Option Shelved) (reads : ℕ) (output : Tells) →
    Comes r (surrounding told reads reads output output) (ended no_memory)
wanted None told reads output = record { untouched = refl; unread = refl }
wanted (Some r) told reads output = inl refl

module _ (r : Request) (told : Option Shelved) (reads reads_after : ℕ) (old new : Tells) where
  -- an output that is good was put so
  put_so : (kind : Kind) (put : Result (Unit {0}) SinkError) (good : Good r told reads reads_after (finish_for kind)) →
      Wrote (good.text ∷ []) old new put → Checks r (surrounding told reads reads_after old new) (finish_put kind put)
  put_so Held (Ok u) good gains = record { good = good; written = gains }
  put_so HeldTo (Ok u) good gains = record { good = good; written = gains }
  put_so Breach (Ok u) good gains = record { good = good; written = gains }
  put_so kind (Err Failed) good fails = record { finish = finish_for kind; good = good; written = fails }
  put_so kind (Err Memory) good begins = inr (record {
    finish = finish_for kind;
    good = good;
    written = subst (Begins old new) (append-nil good.text) begins;
  })

  pub written : (o : Output) (put : Result (Unit {0}) SinkError) (finish : Finish) →
      IsFetched r told reads reads_after o → Wrote (o.text ∷ []) old new put → finish ≡ finish_put o.kind put →
      Checks r (surrounding told reads reads_after old new) finish
  written o put finish f wrote is =
      subst (Checks r (surrounding told reads reads_after old new)) (sym is)
      (put_so o.kind put f.good (subst (λ text. Wrote (text ∷ []) old new put) (sym f.text_is) wrote))
