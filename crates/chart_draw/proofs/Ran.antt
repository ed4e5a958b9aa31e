-- How a run ended, from what each of its steps answered.
use Rattle.std.proofs.Common.{arith, ◌≡◌, refl, subst, ap, append-nil, ℕ, zero, suc, ◌<◌, List, [], ◌∷◌, length, Option}
use Rattle.std.proofs.Common.{Some, None, inl, inr}
use Rattle.std.specs.Prelude.{IfSome, IsSomeAnd, Result, Ok, Err, if◌then◌else◌}
use Rattle.std.specs.declared.alloc.Global.{Global}
use Rattle.std.specs.declared.vec.Vec.{Vec}
use Rattle.std.proofs.lemmas.Bool.{lt-ltb}
use Rattle.audit_mean.specs.Finding.{too_large}
use Rattle.audit_mean.specs.Report.{running, report_from}
use Rattle.audit_mean.specs.Text.{lines_of}
use Rattle.outside.specs.Lines.{Begins}
use Rattle.outside.specs.Shelf.{Shelved, found_in}
use Rattle.outside.specs.Tells.{Tells}
use Rattle.chart_mean.specs.Picture.{chart_of, report_picture}
use Rattle.chart_mean.specs.Words.{Request}
use Rattle.chart_mean.specs.Runs.{surrounding, Draws, Comes}
use Rattle.chart_mean.specs.declared.types.ChartEnding.{ChartEnding}
use Rattle.chart_mean.specs.declared.types.ChartEnding.TheVariants.{Done, TooLarge, Line, Words, Read, Write, Memory}
use Rattle.audit_judge.specs.declared.judge.TheConstants.{LONGEST_REPORT}
use Rattle.chart_draw.specs.Charts.{IsNone, Charts, IsFound, IsPicture, IsRefused, StopsAt, Fetches, Writes}

-- where memory ran out over the words, nothing was done
pub wanted : (r : Option Request) (told : Option Shelved) (reads : ℕ) (output : Tells) →
    Comes r (surrounding told reads reads output output) Memory
wanted None told reads output = record { untouched = refl; unread = refl }
wanted (Some r) told reads output = inl refl

zeros : ℕ → List ℕ
zeros zero = []
zeros (suc n) = 0 ∷ zeros n

length_zeros : (n : ℕ) → length (zeros n) ≡ n
unfolding zeros
length_zeros zero = refl
length_zeros (suc n) = ap suc (length_zeros n)

-- a file of more than n bytes: the one that was found, where the shelf tells, and else any
longer : (told : Option Shelved) (name : List ℕ) (most : ℕ) →
    IfSome told (λ shelf. IsSomeAnd (found_in shelf name) (λ file. most < length file)) →
    (file : List ℕ) × IfSome told (λ shelf. found_in shelf name ≡ Some file) × (most < length file)
longer None name most h = let n = length_zeros (suc most) in (zeros (suc most), tt, omega (arith, n))
longer (Some shelf) name most h = found (found_in shelf name) h where
  found : (o : Option (List ℕ)) → IsSomeAnd o (λ file. most < length file) → (file : List ℕ) × (o ≡ Some file) ×
      (most < length file)
  found None h = absurd h
  found (Some file) h = (file, refl, h)

module _ (r : Request) (told : Option Shelved) (reads reads_after : ℕ) where
  pub large : IfSome told (λ shelf. IsSomeAnd (found_in shelf r.file) (λ file. LONGEST_REPORT < length file)) →
      reads_after ≡ reads →
      IsRefused r told reads reads_after too_large
  large h sound = let l = longer told r.file LONGEST_REPORT h in record {
    file = l.0;
    found = l.1;
    refused = ap (λ b. if b then Err too_large else report_picture r.excerpt (lines_of l.0)
        (report_from running 1 (lines_of l.0)))
        (lt-ltb LONGEST_REPORT (length l.0) l.2);
    sound = sound;
  }

  none : (file : List ℕ) (end : ChartEnding) → IsFound r told reads reads_after file →
      IsNone (chart_of r.excerpt file) end → StopsAt r told reads reads_after end
  none file TooLarge f c = record { file = file; found = f.found; refused = c; sound = f.sound }
  none file (Line number) f c = record { file = file; found = f.found; refused = c; sound = f.sound }
  none file Memory f c = tt
  none file Done f c = absurd c
  none file Words f c = absurd c
  none file Read f c = absurd c
  none file Write f c = absurd c

  -- what came of the file that was found
  pub fetched : (file : List ℕ) (answer : Result (Vec ℕ Global) ChartEnding) → IsFound r told reads reads_after file →
      Charts (chart_of r.excerpt file) answer → Fetches r told reads reads_after answer
  fetched file (Ok picture) f c = record { file = file; found = f.found; charted = c; sound = f.sound }
  fetched file (Err end) f c = none file end f c

  -- a picture that was fetched was written so far
  pub written : (picture : List ℕ) (old new : Tells) (end : ChartEnding) → IsPicture r told reads reads_after picture →
      Writes picture old new end → Draws r (surrounding told reads reads_after old new) end
  written picture old new Done f w =
      record {
        good = record { file = f.file; found = f.found; picture = picture; drawn = f.charted; sound = f.sound };
        written = w;
      }
  written picture old new Write f w =
      record {
        good = record { file = f.file; found = f.found; picture = picture; drawn = f.charted; sound = f.sound };
        written = w;
      }
  written picture old new Memory f w = inr (record {
    good = record { file = f.file; found = f.found; picture = picture; drawn = f.charted; sound = f.sound };
    written = subst (Begins old new) (append-nil picture) w;
  })
  written picture old new TooLarge f w = absurd w
  written picture old new (Line number) f w = absurd w
  written picture old new Words f w = absurd w
  written picture old new Read f w = absurd w

  -- a run that stopped before it wrote
  pub stopped : (output : Tells) (end : ChartEnding) → StopsAt r told reads reads_after end →
      Draws r (surrounding told reads reads_after output output) end
  stopped output TooLarge s =
      record { file = s.file; found = s.found; refused = s.refused; sound = s.sound; untouched = refl }
  stopped output (Line number) s =
      record { file = s.file; found = s.found; refused = s.refused; sound = s.sound; untouched = refl }
  stopped output Read s = record { none = s.none; rose = s.rose; untouched = refl }
  stopped output Memory s = inl refl
  stopped output Done s = absurd s
  stopped output Words s = absurd s
  stopped output Write s = absurd s
