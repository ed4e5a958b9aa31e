-- Two stacks that go on alike once a sign is taken also go on alike where this sign is still wanted.
use Rattle.std.proofs.Common.{◌≡◌, ℕ, suc, Bool, true, false, if◌then◌else◌, List, [], ◌∷◌, ◌++◌, length, Option, Some}
use Rattle.std.proofs.Common.{None, Result, Ok, Err, refl, ◌∙◌}
use Rattle.std.specs.Borrow.{Bor}
use Rattle.layer_ast.specs.declared.tokens.Lexed.{Lexed}
use Rattle.layer_words.specs.declared.signs.Sign.{Sign}
use Rattle.layer_ast.specs.Depth.{room_after}
use Rattle.layer_ast.specs.Printed.{Printed}
use Rattle.grammar_laws.specs.Machine.{Symbol, one, is_sign, eats, refuses, stack_after, feed, step, run, Outcome}
use Rattle.file_parse.specs.Reading.{Begins, ParsesAll}
use Rattle.file_parse.specs.declared.readers.Fault.{Fault}
use Rattle.file_parse.specs.declared.readers.Fault.TheVariants.{Refused, Memory}

step_same : (following : Option ℕ) (is : Bool) (x y : List Symbol) (f g : Option (List Symbol)) (n : ℕ)
    (go : ℕ → List Symbol → Outcome) → ((room : ℕ) → go room x ≡ go room y) →
    step following (stack_after (if is then eats [] else refuses) x f) n go
    ≡ step following (stack_after (if is then eats [] else refuses) y g) n go
step_same None is x y f g n go same = refl
step_same (Some room) true x y f g n go same = same room
step_same (Some room) false x y f g n go same = refl

pub under : (want : Sign) (s : Symbol) (expected : List Symbol) (t : Lexed) (rest : List Lexed) →
    Begins s expected rest →
    (room : ℕ) (stack : List Symbol) →
    run room (one want ∷ s ∷ stack) (t ∷ rest) ≡ run room (one want ∷ expected ++ stack) (t ∷ rest)
under want s expected t rest same room stack =
    step_same (room_after t.token room) (is_sign want t.token) (s ∷ stack) (expected ++ stack)
    (feed (s ∷ stack) t.token)
    (feed (expected ++ stack) t.token) (suc (length rest)) (λ left symbols. run left symbols rest)
    (λ left. same.begins left stack)

-- what is read where the machine expects some symbols is read where it goes on alike with others
pub parses_as : {A T : Type 0} (print : T → List Printed → List Printed) (view : A → T) (from to : List Symbol)
    (room : ℕ)
    (tokens : List Lexed) (result : Result (A × Bor (List Lexed)) Fault) →
    ((stack : List Symbol) → run room (to ++ stack) tokens ≡ run room (from ++ stack) tokens) →
    ParsesAll print view from room tokens result → ParsesAll print view to room tokens result
parses_as print view from to room tokens (Ok r) same read = record {
  spelled = read.spelled;
  goes_on = λ stack. same stack ∙ read.goes_on stack;
  no_longer = read.no_longer;
}
parses_as print view from to room tokens (Err Memory) same read = tt
parses_as print view from to room tokens (Err (Refused n)) same read = record {
  stops = λ stack. same stack ∙ read.stops stack;
}
