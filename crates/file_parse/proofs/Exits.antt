-- How a reader goes on after its first token, and how it hands a refusal on.
use Rattle.std.proofs.Common.{◌≡◌, ℕ, suc, List, ◌∷◌, length, Err, ap}
use Rattle.layer_ast.specs.declared.tokens.Lexed.{Lexed}
use Rattle.layer_ast.specs.declared.tokens.Token.{Token}
use Rattle.layer_ast.specs.Depth.{room_after}
use Rattle.layer_ast.specs.Printed.{Printed}
use Rattle.grammar_laws.specs.Machine.{Symbol, feed, step, run}
use Rattle.file_parse.specs.Reading.{Stops, ParsesAll}
use Rattle.file_parse.specs.declared.readers.Fault.{Fault}
use Rattle.file_parse.specs.declared.readers.Fault.TheVariants.{Refused, Memory}

-- the machine's first step, where the first token is known
pub starts : (s : Symbol) (first : Lexed) (t : Token) (rest : List Lexed) (room : ℕ) (stack : List Symbol) →
    first.token ≡ t →
    run room (s ∷ stack) (first ∷ rest)
    ≡ step (room_after t room) (feed (s ∷ stack) t) (suc (length rest)) (λ left expected. run left expected rest)
starts s first t rest room stack is =
    ap (λ u. step (room_after u room) (feed (s ∷ stack) u) (suc (length rest))
    (λ left expected. run left expected rest)) is

-- a fault of a part is that of the whole, where a refusal of the part is one of the whole
pub fault_passes : {A B T U : Type 0} (print_part : T → List Printed → List Printed) (view_part : A → T)
    (part : List Symbol)
    (room_part : ℕ) (tokens : List Lexed) (print : U → List Printed → List Printed) (view : B → U) (whole : List Symbol)
    (room : ℕ)
    (all : List Lexed) (fault : Fault) → ParsesAll print_part view_part part room_part tokens (Err fault) →
    ((n : ℕ) → Stops part room_part tokens n → Stops whole room all n) → ParsesAll print view whole room all (Err fault)
fault_passes print_part view_part part room_part tokens print view whole room all Memory stops passes = tt
fault_passes print_part view_part part room_part tokens print view whole room all (Refused n) stops passes =
    passes n stops
