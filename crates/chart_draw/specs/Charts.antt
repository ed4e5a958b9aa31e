-- What a picture's drawing, fetching and writing answer.
use Rattle.std.specs.Prelude.{◌≡◌, ℕ, ◌≤◌, ◌∷◌, [], List, length, Option, Some, None, IfSome, Result, Ok, Err}
use Rattle.std.specs.List.{concat}
use Rattle.std.specs.declared.alloc.Global.{Global}
use Rattle.std.specs.declared.vec.Vec.{Vec}
use Rattle.audit_mean.specs.Text.{lines_of}
use Rattle.audit_mean.specs.Finding.{AuditFault, too_large, bad_line}
use Rattle.outside.specs.Count.{Rose}
use Rattle.outside.specs.Lines.{Gains, Fails, Begins}
use Rattle.outside.specs.Shelf.{Shelved, found_in}
use Rattle.outside.specs.Tells.{Tells}
use Rattle.chart_mean.specs.Picture.{range_picture, chart_of}
use Rattle.chart_mean.specs.Words.{Request}
use Rattle.chart_mean.specs.Excerpt.{Excerpt}
use Rattle.chart_mean.specs.declared.types.ChartEnding.{ChartEnding}
use Rattle.chart_mean.specs.declared.types.ChartEnding.TheVariants.{Done, TooLarge, Line, Read, Write, Memory}

-- why there is no picture of a text; want of memory says nothing
abbrev pub IsNone : Result (List ℕ) AuditFault → ChartEnding → Type 0
IsNone charted TooLarge = charted ≡ Err too_large
IsNone charted (Line number) = charted ≡ Err (bad_line number)
IsNone charted Memory = Unit {0}
IsNone charted _ = ⊥

-- the picture of a text, or why there is none
abbrev pub Charts : Result (List ℕ) AuditFault → Result (Vec ℕ Global) ChartEnding → Type 0
Charts charted (Ok picture) = charted ≡ Ok picture.items
Charts charted (Err ending) = IsNone charted ending

-- a text is a report, so that it has a picture and isn't too large; or why not
abbrev pub IsReport : Excerpt → List ℕ → Result (Unit {0}) ChartEnding → Type 0
IsReport excerpt text (Ok done) = (length text ≤ 67108864) ×
    (chart_of excerpt text ≡ Ok (range_picture excerpt (lines_of text)))
IsReport excerpt text (Err ending) = IsNone (chart_of excerpt text) ending

-- the next read of this name found these bytes
pub record IsFound (r : Request) (told : Option Shelved) (reads reads_after : ℕ) (file : List ℕ) : Type 0 where
  pub found : IfSome told (λ shelf. found_in shelf r.file ≡ Some file)
  pub sound : reads_after ≡ reads

-- it found a report with this picture
pub record IsPicture (r : Request) (told : Option Shelved) (reads reads_after : ℕ) (picture : List ℕ) : Type 0 where
  pub file : List ℕ
  pub found : IfSome told (λ shelf. found_in shelf r.file ≡ Some file)
  pub charted : chart_of r.excerpt file ≡ Ok picture
  pub sound : reads_after ≡ reads

-- it found what is no report, for this fault
pub record IsRefused (r : Request) (told : Option Shelved) (reads reads_after : ℕ) (fault : AuditFault) : Type 0 where
  pub file : List ℕ
  pub found : IfSome told (λ shelf. found_in shelf r.file ≡ Some file)
  pub refused : chart_of r.excerpt file ≡ Err fault
  pub sound : reads_after ≡ reads

-- it found none, and the count of the shelf's faults rose
pub record IsMissed (r : Request) (told : Option Shelved) (reads reads_after : ℕ) : Type 0 where
  pub none : IfSome told (λ shelf. found_in shelf r.file ≡ None)
  pub rose : Rose reads reads_after

-- how the program ends at its file, without a picture
abbrev pub StopsAt : Request → Option Shelved → (reads reads_after : ℕ) → ChartEnding → Type 0
StopsAt r told reads reads_after TooLarge = IsRefused r told reads reads_after too_large
StopsAt r told reads reads_after (Line number) = IsRefused r told reads reads_after (bad_line number)
StopsAt r told reads reads_after Read = IsMissed r told reads reads_after
StopsAt r told reads reads_after Memory = Unit {0}
StopsAt r told reads reads_after _ = ⊥

-- the bytes of the file that was read, or how the program ends
abbrev pub ReadsText : Request → Option Shelved → (reads reads_after : ℕ) → Result (Vec ℕ Global) ChartEnding → Type 0
ReadsText r told reads reads_after (Ok text) = IsFound r told reads reads_after text.items
ReadsText r told reads reads_after (Err ending) = StopsAt r told reads reads_after ending

-- the picture of the report that was read, or how the program ends
abbrev pub Fetches : Request → Option Shelved → (reads reads_after : ℕ) → Result (Vec ℕ Global) ChartEnding → Type 0
Fetches r told reads reads_after (Ok picture) = IsPicture r told reads reads_after picture.items
Fetches r told reads reads_after (Err ending) = StopsAt r told reads reads_after ending

-- a picture was written in one put, or the put failed, or memory ran out
abbrev pub Writes : List ℕ → Tells → Tells → ChartEnding → Type 0
Writes picture old new Done = Gains old new (picture ∷ [])
Writes picture old new Write = Fails old new (picture ∷ [])
Writes picture old new Memory = Begins old new (concat (picture ∷ []))
Writes picture old new _ = ⊥
