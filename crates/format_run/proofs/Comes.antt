-- How a run over a named file ends.
use Rattle.std.proofs.Common.{◌≡◌, ℕ, List, length, Option, Some, None, inl, inr, cond, sym, ap, subst, ◌∙◌}
use Rattle.std.proofs.lemmas.Bool.{le-ltb}
use Rattle.std.specs.Prelude.{◌≤◌, Result, Ok, Err}
use Rattle.std.specs.declared.alloc.Global.{Global}
use Rattle.std.specs.declared.vec.Vec.{Vec}
use Rattle.layer_words.specs.declared.places.At.{At}
use Rattle.layer_ast.specs.Cut.{text_tokens}
use Rattle.layer_ast.specs.Spells.{longest_file}
use Rattle.outside.specs.Shelf.{Shelved}
use Rattle.format_run.specs.declared.ending.LayoutEnding.{LayoutEnding}
use Rattle.format_run.specs.declared.ending.LayoutEnding.TheVariants as ending
use Rattle.format_run.specs.Ends.{Around, ComesOf, Fetches, Finds, IsGood, Judges, StopsAt, Writes, by_token, verdict}

-- what was written of a file that was found
pub written : (name file text : List ℕ) (a : Around) (end : LayoutEnding) → text ≡ file →
    IsGood name a.told a.reads a.reads_after file →
    Writes text a.output a.output_after end → ComesOf name a end
written name file text a ending.Done is good wrote =
    record { file = file; found = good; written = subst (λ t. Writes t a.output a.output_after ending.Done) is wrote }
written name file text a ending.Write is good wrote =
    record { file = file; found = good; written = subst (λ t. Writes t a.output a.output_after ending.Write) is wrote }
written name file text a ending.Memory is good wrote =
    inr (record {
      file = file;
      found = good;
      written = subst (λ t. Writes t a.output a.output_after ending.Memory) is
          wrote;
    })
written name file text a ending.Words is good wrote = absurd wrote
written name file text a ending.TooLarge is good wrote = absurd wrote
written name file text a (ending.BadToken at) is good wrote = absurd wrote
written name file text a ending.Read is good wrote = absurd wrote

-- a run that stopped at its read
pub stops : (name : List ℕ) (a : Around) (end : LayoutEnding) → StopsAt name a.told a.reads a.reads_after end →
    a.output_after ≡ a.output → ComesOf name a end
stops name a ending.Done stopped same = absurd stopped
stops name a ending.Write stopped same = absurd stopped
stops name a ending.Memory stopped same = inl (record { stopped = stopped; untouched = same })
stops name a ending.Words stopped same = absurd stopped
stops name a ending.TooLarge stopped same = record { stopped = stopped; untouched = same }
stops name a (ending.BadToken at) stopped same = record { stopped = stopped; untouched = same }
stops name a ending.Read stopped same = record { stopped = stopped; untouched = same }

-- a small file is judged by its tokens
judged : (file : List ℕ) (bad : Option At) → length file ≤ longest_file → bad ≡ (text_tokens file).bad_at →
    verdict file ≡ by_token bad
judged file bad small is =
    ap (λ t. cond t ending.TooLarge (by_token (text_tokens file).bad_at)) (le-ltb longest_file (length file) small) ∙
    ap by_token (sym is)

-- what was judged was read
pub fetched : (name : List ℕ) (told : Option Shelved) (reads reads_after : ℕ) (file : List ℕ) →
    Finds name told (Some file) → reads_after ≡ reads →
    length file ≤ longest_file → (r : Result (Vec ℕ Global) LayoutEnding) → Judges file r →
    Fetches name told reads reads_after r
fetched name told reads reads_after file found sound small (Ok text) h =
    subst (IsGood name told reads reads_after) (sym h.0)
    (record { found = found; good = judged file None small h.1; sound = sound })
fetched name told reads reads_after file found sound small (Err (ending.BadToken at)) h =
    record { file = file; found = found; bad = judged file (Some at) small h; sound = sound }
fetched name told reads reads_after file found sound small (Err ending.Memory) h = tt
fetched name told reads reads_after file found sound small (Err ending.Done) h = absurd h
fetched name told reads reads_after file found sound small (Err ending.Words) h = absurd h
fetched name told reads reads_after file found sound small (Err ending.TooLarge) h = absurd h
fetched name told reads reads_after file found sound small (Err ending.Read) h = absurd h
fetched name told reads reads_after file found sound small (Err ending.Write) h = absurd h
