-- What a run of the machine says of the trees whose tokens it reads.
use Rattle.std.proofs.Common.{◌≡◌, ℕ, zero, suc, ◌+◌, if◌then◌else◌, Bool, true, false, List, [], ◌∷◌, ◌++◌, length}
use Rattle.std.proofs.Common.{take, map, slice_get, Option, Some, None, IfSome, refl, sym, ap, arith}
use Rattle.layer_words.specs.declared.places.At.{At}
use Rattle.layer_ast.specs.declared.tokens.Lexed.{Lexed}
use Rattle.layer_ast.specs.declared.tokens.Token.{Token}
use Rattle.layer_ast.specs.Depth.{room_after, WithRoom, IsWithin}
use Rattle.layer_ast.specs.Printed.{Printed}
use Rattle.layer_ast.specs.Spells.{Fits}
use Rattle.grammar_laws.specs.Machine.{Symbol, Move, eats, skips, refuses, move, stack_after, feed, all_optional}
use Rattle.grammar_laws.specs.Machine.{accepted}
use Rattle.grammar_laws.specs.Machine.{refused, step, run}
use Rattle.grammar_laws.proofs.Back.{Back, back}
use Rattle.grammar_laws.proofs.Complete.{toks, accepts, accepts_after}
use Rattle.grammar_laws.proofs.Phrases.{Phrases, split, leave_all, some_phrases}

-- the tokens of what was cut
abbrev pub tokens_in : List Lexed → List Token
tokens_in lexed = map (λ l. l.token) lexed

-- tokens that fit are the printed ones
pub tokens_fit : (printed : List Printed) (lexed : List Lexed) → Fits printed lexed → tokens_in lexed ≡ toks printed
unfolding Fits
tokens_fit [] [] h = refl
tokens_fit [] (l ∷ lexed) h = absurd h
tokens_fit (p ∷ printed) [] h = absurd h
tokens_fit (p ∷ printed) (l ∷ lexed) h = let rest = tokens_fit printed lexed h.2 in let token = h.0 in cc

-- the machine goes on after a token
abbrev GoesAfter : Option ℕ → Option (List Symbol) → (ℕ → List Symbol → Type 0) → Type 0
GoesAfter None fed go = ⊥
GoesAfter (Some room) None go = ⊥
GoesAfter (Some room) (Some stack) go = go room stack

-- the machine goes on after all tokens
abbrev pub Goes : ℕ → List Symbol → List Token → Type 0
Goes room stack [] = Unit {0}
Goes room stack (t ∷ tokens) = GoesAfter (room_after t room) (feed stack t) (λ left next. Goes left next tokens)

-- one step of a run that has room goes as one without brackets counted
run_steps : (following : Option ℕ) (fed : Option (List Symbol)) (n : ℕ) (lexed : List Lexed) →
    ((room : ℕ) (stack : List Symbol) → accepts stack (tokens_in lexed) ≡ true → IsWithin room (tokens_in lexed) →
    run room stack lexed ≡ accepted) →
    accepts_after fed (λ expected. accepts expected (tokens_in lexed)) ≡ true →
    WithRoom following (λ left. IsWithin left (tokens_in lexed)) →
    step following fed n (λ left stack. run left stack lexed) ≡ accepted
run_steps None fed n lexed go takes within = absurd within
run_steps (Some room) None n lexed go takes within = cc
run_steps (Some room) (Some stack) n lexed go takes within = go room stack takes within

-- tokens that the machine takes and that are nowhere too deep are accepted
pub run_accepts : (lexed : List Lexed) (room : ℕ) (stack : List Symbol) → accepts stack (tokens_in lexed) ≡ true →
    IsWithin room (tokens_in lexed) → run room stack lexed ≡ accepted
run_accepts [] room stack takes within = ap (λ b. if b then accepted else refused 0) takes
run_accepts (l ∷ lexed) room stack takes within =
    run_steps (room_after l.token room) (feed stack l.token) _ lexed (run_accepts lexed) takes within

-- and what is accepted the machine takes, and goes on after
accepted_steps : (following : Option ℕ) (fed : Option (List Symbol)) (n : ℕ) (lexed : List Lexed) →
    ((room : ℕ) (stack : List Symbol) → run room stack lexed ≡ accepted →
    (accepts stack (tokens_in lexed) ≡ true) × Goes room stack (tokens_in lexed)) →
    step following fed n (λ left stack. run left stack lexed) ≡ accepted →
    (accepts_after fed (λ expected. accepts expected (tokens_in lexed)) ≡ true)
    × GoesAfter following fed (λ left next. Goes left next (tokens_in lexed))
accepted_steps None fed n lexed go is = absurd (cc is)
accepted_steps (Some room) None n lexed go is = absurd (cc is)
accepted_steps (Some room) (Some stack) n lexed go is = go room stack is

accepted_end : (b : Bool) → (if b then accepted else refused 0) ≡ accepted → b ≡ true
accepted_end true is = refl
accepted_end false is = absurd (cc is)

pub accepted_takes : (lexed : List Lexed) (room : ℕ) (stack : List Symbol) → run room stack lexed ≡ accepted →
    (accepts stack (tokens_in lexed) ≡ true) × Goes room stack (tokens_in lexed)
accepted_takes [] room stack is = (accepted_end (all_optional stack) is, tt)
accepted_takes (l ∷ lexed) room stack is =
    accepted_steps (room_after l.token room) (feed stack l.token) _ lexed (accepted_takes lexed) is

-- where the machine goes on no bracket is too deep
within_step : (following : Option ℕ) (fed : Option (List Symbol)) (tokens : List Token) →
    ((room : ℕ) (stack : List Symbol) → Goes room stack tokens → IsWithin room tokens) →
    GoesAfter following fed (λ left next. Goes left next tokens) → WithRoom following (λ left. IsWithin left tokens)
within_step None fed tokens all goes = absurd goes
within_step (Some room) None tokens all goes = absurd goes
within_step (Some room) (Some stack) tokens all goes = all room stack goes

pub goes_within : (tokens : List Token) (room : ℕ) (stack : List Symbol) → Goes room stack tokens → IsWithin room tokens
goes_within [] room stack goes = tt
goes_within (t ∷ tokens) room stack goes =
    within_step (room_after t room) (feed stack t) tokens (goes_within tokens) goes

-- the machine goes on after tokens that are nowhere too deep and are the beginning of tokens that it takes
goes_step : (following : Option ℕ) (fed : Option (List Symbol)) (tokens rest : List Token) →
    ((room : ℕ) (stack : List Symbol) → accepts stack (tokens ++ rest) ≡ true → IsWithin room tokens →
    Goes room stack tokens) →
    accepts_after fed (λ expected. accepts expected (tokens ++ rest)) ≡ true →
    WithRoom following (λ left. IsWithin left tokens) → GoesAfter following fed (λ left next. Goes left next tokens)
goes_step None fed tokens rest all takes within = absurd within
goes_step (Some room) None tokens rest all takes within = absurd (cc takes)
goes_step (Some room) (Some stack) tokens rest all takes within = all room stack takes within

pub goes_if : (tokens rest : List Token) (room : ℕ) (stack : List Symbol) → accepts stack (tokens ++ rest) ≡ true →
    IsWithin room tokens → Goes room stack tokens
goes_if [] rest room stack takes within = tt
goes_if (t ∷ tokens) rest room stack takes within =
    goes_step (room_after t room) (feed stack t) tokens rest (goes_if tokens rest) takes within

-- one step back, for a whole stack
abbrev BackFed : List Symbol → Lexed → Option (List Symbol) → Type 0
BackFed stack l None = Unit {0}
BackFed stack l (Some next) =
    (p : List Printed) → Phrases next p →
    (q : Printed) × (l.token ≡ q.token) × IfSome q.at (λ a. l.at ≡ a) × Phrases stack (q ∷ p)

back_moved : (s : Symbol) (stack : List Symbol) (l : Lexed) (m : Move) (skipped : Option (List Symbol)) →
    Back s l.token l.at m → BackFed stack l skipped → BackFed (s ∷ stack) l (stack_after m stack skipped)
back_moved s stack l (eats new) skipped b h =
    λ p phrases.
    let (k, chain, following) = split new stack p phrases in
    let (q, token, place, here) = b p k chain in (q, token, place, (k, here, following))
back_moved s stack l skips None b h = tt
back_moved s stack l skips (Some next) b h =
    λ p phrases. let (q, token, place, following) = h p phrases in (q, token, place, (q ∷ p, b (q ∷ p), following))
back_moved s stack l refuses skipped b h = tt

back_fed : (stack : List Symbol) (l : Lexed) → BackFed stack l (feed stack l.token)
back_fed [] l = tt
back_fed (s ∷ stack) l =
    back_moved s stack l (move s l.token) (feed stack l.token) (back s l.token l.at) (back_fed stack l)

-- printed tokens of a stack that fit tokens to the end
abbrev pub WholeOf : List Symbol → List Lexed → Type 0
WholeOf stack lexed = (p : List Printed) × Phrases stack p × Fits p lexed

whole_step : (stack : List Symbol) (l : Lexed) (lexed : List Lexed) (fed : Option (List Symbol)) → BackFed stack l fed →
    ((next : List Symbol) → accepts next (tokens_in lexed) ≡ true → WholeOf next lexed) →
    accepts_after fed (λ expected. accepts expected (tokens_in lexed)) ≡ true → WholeOf stack (l ∷ lexed)
unfolding Fits
whole_step stack l lexed None b go takes = absurd (cc takes)
whole_step stack l lexed (Some next) b go takes =
    let (p, phrases, fits) = go next takes in
    let (q, token, place, here) = b p phrases in (q ∷ p, here, (token, place, fits))

-- what the machine takes to the end is printed so
pub whole_of : (lexed : List Lexed) (stack : List Symbol) → accepts stack (tokens_in lexed) ≡ true → WholeOf stack lexed
unfolding Fits
whole_of [] stack takes = ([], leave_all stack takes, tt)
whole_of (l ∷ lexed) stack takes =
    whole_step stack l lexed (feed stack l.token) (back_fed stack l) (whole_of lexed) takes

-- printed tokens of a stack that begin with tokens
abbrev pub BegunBy : List Symbol → List Token → Type 0
BegunBy stack tokens = (p : List Printed) × Phrases stack p × (rest : List Token) × (toks p ≡ tokens ++ rest)

begun_step : (stack : List Symbol) (t : Token) (tokens : List Token) (at : At) (following : Option ℕ)
    (fed : Option (List Symbol)) →
    BackFed stack (record { token = t; at = at }) fed →
    ((room : ℕ) (next : List Symbol) → Goes room next tokens → BegunBy next tokens) →
    GoesAfter following fed (λ left next. Goes left next tokens) → BegunBy stack (t ∷ tokens)
begun_step stack t tokens at None fed b go goes = absurd goes
begun_step stack t tokens at (Some room) None b go goes = absurd goes
begun_step stack t tokens at (Some room) (Some next) b go goes =
    let (p, phrases, rest, same) = go room next goes in
    let (q, token, place, here) = b p phrases in (q ∷ p, here, rest, rw (sym token, same))

-- where the machine goes on, its stack can be completed
pub begun_by : (tokens : List Token) (room : ℕ) (stack : List Symbol) → Goes room stack tokens → BegunBy stack tokens
begun_by [] room stack goes = let (p, phrases) = some_phrases stack in (p, phrases, toks p, refl)
begun_by (t ∷ tokens) room stack goes =
    let at : At = record { line = 1; col = 1 } in
    begun_step stack t tokens at (room_after t room) (feed stack t) (back_fed stack (record { token = t; at = at }))
    (begun_by tokens) goes

-- the machine goes on after `number` tokens, and not after one more
pub record StopsAfter (room : ℕ) (stack : List Symbol) (lexed : List Lexed) (left : ℕ) : Type 0 where
  pub number : ℕ
  pub token : Lexed
  pub is : slice_get lexed number ≡ Some token
  pub count : number + left ≡ length lexed
  pub goes : Goes room stack (take number (tokens_in lexed))
  pub stuck : Goes room stack (take (suc number) (tokens_in lexed)) → ⊥

-- the machine goes on after all tokens, and does not take them to the end
pub record StopsPast (room : ℕ) (stack : List Symbol) (lexed : List Lexed) : Type 0 where
  pub goes : Goes room stack (tokens_in lexed)
  pub short : accepts stack (tokens_in lexed) ≡ false

-- what is so of a run that is refused with n tokens left
abbrev pub StopsWith : ℕ → List Symbol → List Lexed → ℕ → Type 0
StopsWith room stack lexed zero = StopsPast room stack lexed
StopsWith room stack lexed (suc left) = StopsAfter room stack lexed (suc left)

module _ (room inside : ℕ) (stack next : List Symbol) (l : Lexed) (lexed : List Lexed)
    (fits : room_after l.token room ≡ Some inside) (fed : feed stack l.token ≡ Some next) where
  goes_more : (tokens : List Token) → Goes inside next tokens → Goes room stack (l.token ∷ tokens)
  goes_more tokens goes = rw (fits, fed) goes

  goes_less : (tokens : List Token) → Goes room stack (l.token ∷ tokens) → Goes inside next tokens
  goes_less tokens goes = rw (fits, fed) at goes

  stops_more : (left : ℕ) → StopsWith inside next lexed left → StopsWith room stack (l ∷ lexed) left
  stops_more zero h = record {
    goes = goes_more (tokens_in lexed) h.goes;
    short = rw fed h.short;
  }
  stops_more (suc left) h = record {
    number = suc h.number;
    token = h.token;
    is = h.is;
    count = omega (arith, h.count);
    goes = goes_more (take h.number (tokens_in lexed)) h.goes;
    stuck = λ goes. h.stuck (goes_less (take (suc h.number) (tokens_in lexed)) goes);
  }

-- the machine is stuck at the first token
stuck_here : (room : ℕ) (stack : List Symbol) (l : Lexed) (lexed : List Lexed) (left : ℕ) →
    (GoesAfter (room_after l.token room) (feed stack l.token) (λ inside next. Goes inside next []) → ⊥) →
    refused (suc (length lexed)) ≡ refused left → StopsWith room stack (l ∷ lexed) left
stuck_here room stack l lexed zero stuck is = absurd (cc is)
stuck_here room stack l lexed (suc left) stuck is =
    let same : suc (length lexed) ≡ suc left = cc is in
    record { number = 0; token = l; is = refl; count = omega (arith, same); goes = tt; stuck = stuck }

stop_steps : (room : ℕ) (stack : List Symbol) (l : Lexed) (lexed : List Lexed) (left : ℕ) (following : Option ℕ)
    (fed : Option (List Symbol)) → room_after l.token room ≡ following → feed stack l.token ≡ fed →
    ((inside : ℕ) (next : List Symbol) → run inside next lexed ≡ refused left → StopsWith inside next lexed left) →
    step following fed (suc (length lexed)) (λ inside next. run inside next lexed) ≡ refused left →
    StopsWith room stack (l ∷ lexed) left
stop_steps room stack l lexed left None fed fits takes go is =
    stuck_here room stack l lexed left (λ goes. rw fits at goes) is
stop_steps room stack l lexed left (Some inside) None fits takes go is =
    stuck_here room stack l lexed left (λ goes. rw (fits, takes) at goes) is
stop_steps room stack l lexed left (Some inside) (Some next) fits takes go is =
    stops_more room inside stack next l lexed fits takes left (go inside next is)

stop_end : (room : ℕ) (stack : List Symbol) (left : ℕ) (b : Bool) → all_optional stack ≡ b →
    (if b then accepted else refused 0) ≡ refused left → StopsWith room stack [] left
stop_end room stack left true optional is = absurd (cc is)
stop_end room stack zero false optional is = record { goes = tt; short = optional }
stop_end room stack (suc left) false optional is = absurd (cc is)

-- a run that is refused tells where the machine stops
pub stops_with : (lexed : List Lexed) (room : ℕ) (stack : List Symbol) (left : ℕ) →
    run room stack lexed ≡ refused left →
    StopsWith room stack lexed left
stops_with [] room stack left is = stop_end room stack left (all_optional stack) refl is
stops_with (l ∷ lexed) room stack left is =
    stop_steps room stack l lexed left (room_after l.token room) (feed stack l.token) refl refl
    (λ inside next refuses. stops_with lexed inside next left refuses) is
