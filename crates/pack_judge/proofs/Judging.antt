-- What judging a file of traces yields.
use Rattle.std.proofs.Common.{◌≡◌, ℕ, ◌≤◌, List, length, Result, Ok, Err}
use Rattle.std.specs.Prelude.{IfOk}
use Rattle.layer_mean.specs.Tree.{LayerTree}
use Rattle.bypass_laws.specs.Stack.{AreOfStack}
use Rattle.bypass_laws.specs.Making.{bypasses_of, simplest, IsSound}
use Rattle.pack_mean.specs.File.{traces_in}
use Rattle.pack_mean.specs.Accepted.{longest_file}
use Rattle.trace_core.specs.declared.bypass.Bypasses.{Bypasses}
use Rattle.trace_core.specs.Bypasses.{bypasses_tree}
use Rattle.pack_read.specs.Files.{Reads}
use Rattle.pack_read.specs.declared.error.ReadError.{ReadError}
use Rattle.pack_read.specs.declared.error.ReadError.TheVariants as read
use Rattle.pack_judge.specs.declared.error.BypassError.{BypassError}
use Rattle.pack_judge.specs.declared.error.BypassError.TheVariants.{TooLarge, Line, Differs, Memory}
use Rattle.pack_judge.specs.Due.{all_cases}
use Rattle.pack_judge.specs.Filling.{all_owned, all_filled, Fills}
use Rattle.pack_judge.specs.Judged.{Judges, JudgesInto}
use Rattle.pack_judge.specs.Unread.{unread}
use Rattle.pack_judge.proofs.Walk.{Traces}
use Rattle.pack_judge.proofs.Whole.{of_file, other_of_file, of_stack}

-- one whose traces are read
pub judged : (stack : List LayerTree) (own : Bypasses) → bypasses_tree own ≡ bypasses_of simplest stack →
    (text : List ℕ) →
    length text ≤ longest_file → (ts : Traces) → traces_in stack text ≡ Ok ts →
    (now : Traces) (b : Bypasses) (r : Result (Unit {0}) BypassError) →
    Fills (all_owned 0 (all_cases own)) (all_filled (all_cases own) ts) ts now (all_cases b) r →
    JudgesInto stack text b r
judged stack own own_is text short ts is now b (Ok done) h = of_file stack own own_is text short ts is b now h
judged stack own own_is text short ts is now b (Err (Differs entry case act)) h =
    other_of_file stack own own_is text short ts is entry case act h
judged stack own own_is text short ts is now b (Err Memory) h = tt
judged stack own own_is text short ts is now b (Err TooLarge) h = absurd h
judged stack own own_is text short ts is now b (Err (Line line)) h = absurd h

-- one that isn't read
pub unreadable : (stack : List LayerTree) (text : List ℕ) (b : Bypasses) → length text ≤ longest_file →
    (e : ReadError) →
    Reads (traces_in stack text) (Err e) → JudgesInto stack text b (Err (unread e))
unreadable stack text b short (read.Line n) h = (short, h)
unreadable stack text b short read.Memory h = tt

-- of a sound stack
pub sound_judged : (stack : List LayerTree) (text : List ℕ) (r : Result Bypasses BypassError) → IsSound stack →
    Judges stack text r →
    IfOk r (λ b. AreOfStack stack (bypasses_tree b))
sound_judged stack text (Ok b) sound h = of_stack stack text (bypasses_tree b) sound h
sound_judged stack text (Err e) sound h = tt
