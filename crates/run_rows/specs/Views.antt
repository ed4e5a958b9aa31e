-- A view is agreed on and installed: a member that wasn't heard from is suspected; the lowest that is left is elected,
-- blocks the others and announces the view without the suspected one.
use Rattle.std.specs.Prelude.{◌≡◌, ℕ, List, [], ◌∷◌, ◌++◌, codes}
use Rattle.layer_ast.specs.Reader.{file_of}
use Rattle.layer_ast.specs.Tree.{FileTree}
use Rattle.script_mean.specs.declared.event.ScriptEvent.{ScriptEvent}
use Rattle.script_mean.specs.declared.event.ScriptEvent.TheVariants as script
use Rattle.file_mean.specs.Stack.{stack_of}
use Rattle.library_rows.specs.Suspect as suspect
use Rattle.library_rows.specs.Elect as elect
use Rattle.library_rows.specs.Sync as sync
use Rattle.library_rows.specs.Intra as intra
use Rattle.library_rows.specs.Top as top
use Rattle.run_rows.specs.Written.{script_report}

-- The file `stack { suspect; elect; sync; intra; top; }`, and its stack.
abbrev pub file : FileTree
file = record (file_of (codes "stack { suspect; elect; sync; intra; top; }")) {
  library = suspect.layer ∷ elect.layer ∷ sync.layer ∷ intra.layer ∷ top.layer ∷ [];
}

-- Each of three members first hears its clock; member 2 is never heard from again.
abbrev pub beginning : List ScriptEvent
beginning =
    script.Tick 0 0 ∷ script.Tick 1 0 ∷ script.Tick 2 0 ∷ script.Tick 0 400 ∷ script.Tick 1 400 ∷ script.Give 1 1
    ∷ script.Give 3 0 ∷ script.Tick 0 600 ∷ []

-- What is written of that.
abbrev pub beginning_report : List ℕ
beginning_report =
    codes "timer 0 100\n" ++ codes "timer 1 100\n" ++ codes "timer 2 100\n"
    ++ codes "packet 1 0 1 suspect.ping() -\n" ++ codes "packet 2 0 2 suspect.ping() -\n" ++ codes "timer 0 500\n"
    ++ codes "packet 3 1 0 suspect.ping() -\n" ++ codes "packet 4 1 2 suspect.ping() -\n" ++ codes "timer 1 500\n"
    ++ codes "packet 5 0 1 suspect.ping() -\n" ++ codes "packet 6 0 2 suspect.ping() -\n" ++ codes "timer 0 700\n"
    ++ codes "packet 7 0 1 suspect.none()/elect.none()/sync.block(4) -\n" ++ codes "block 0 4\n"

-- The others answer, and the view is installed at both; a packet of the old view is refused; the member that was left
-- out installs a view of its own.
abbrev pub ending : List ScriptEvent
ending = script.Give 7 1 ∷ script.Give 8 0 ∷ script.Give 9 1 ∷ script.Give 5 1 ∷ script.Tick 2 600 ∷ []

-- What is written of that, and the end.
abbrev pub ending_report : List ℕ
ending_report =
    codes "block 1 4\n" ++ codes "packet 8 1 0 suspect.none()/elect.none()/sync.flush() -\n" ++ codes "announce 0 3\n"
    ++ codes "packet 9 0 1 suspect.none()/elect.none()/sync.none()/intra.view(3) -\n" ++ codes "view 0 1 3\n"
    ++ codes "announce 1 3\n" ++ codes "view 1 1 3\n" ++ codes "refused 1 view\n"
    ++ codes "packet 10 2 0 suspect.ping() -\n" ++ codes "packet 11 2 1 suspect.ping() -\n" ++ codes "timer 2 700\n"
    ++ codes "block 2 3\n" ++ codes "announce 2 4\n" ++ codes "view 2 1 4\n" ++ codes "end 13\n"

-- The whole report of both.
abbrev pub InstallsViews : Type 0
InstallsViews = script_report (stack_of file) 1 3 (beginning ++ ending) ≡ beginning_report ++ ending_report
