-- A file of traces of too many bytes.
use Rattle.std.proofs.Common.{◌≡◌, ℕ, ◌<◌, List, length, Option}
use Rattle.std.specs.Prelude.{IfSome, IsSomeAnd}
use Rattle.clap.specs.Walk.{Text}
use Rattle.layer_mean.specs.Tree.{LayerTree}
use Rattle.outside.specs.Shelf.{Shelved, found_in}
use Rattle.pack_mean.specs.Accepted.{longest_file, too_large}
use Rattle.job_ends.proofs.Comes.{longer}
use Rattle.play_jobs.specs.Traces.{AreRefused}

pub large_traces : (stack : List LayerTree) (name : Text) (told : Option Shelved) (reads reads_after : ℕ) →
    IfSome told (λ shelf. IsSomeAnd (found_in shelf name) (λ text. longest_file < length text)) → reads_after ≡ reads →
    AreRefused stack name told reads reads_after too_large
large_traces stack name told reads reads_after h sound =
    let l = longer told name longest_file h in record { text = l.0; found = l.1; refused = l.2; sound = sound }
