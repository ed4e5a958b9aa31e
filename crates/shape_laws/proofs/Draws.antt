-- What is drawn along a way is what walking it sends.
use Rattle.std.proofs.Common.{◌≡◌, ℕ, zero, suc, Bool, true, false, List, [], ◌∷◌, ◌++◌, map, Option, Some, None, refl}
use Rattle.std.proofs.Common.{sym, subst}
use Rattle.std.specs.Prelude.{if◌then◌else◌, nat_le, Result, Ok, Err, slice_index_or, slice_set, slice_index}
use Rattle.std.specs.Prelude.{option_map, length, ◌+◌}
use Rattle.std.specs.Option.{option_map_or}
use Rattle.msg_core.specs.Chain.{Content, plain}
use Rattle.msg_core.specs.Parts as parts
use Rattle.layer_words.specs.declared.events.Dir.{Dir}
use Rattle.layer_words.specs.declared.events.Dir.TheVariants.{Up, Down}
use Rattle.layer_words.specs.declared.events.Kind.{Kind}
use Rattle.layer_mean.specs.declared.run.Case.TheVariants.{First, Second}
use Rattle.layer_mean.specs.declared.run.Row.{Row}
use Rattle.layer_mean.specs.Event.{carries, event_of}
use Rattle.layer_mean.specs.declared.run.Event.{Event}
use Rattle.layer_mean.specs.Tree.{Carried, part, whole, ExpressionTree, MessageTree, message, nothing, held, cut, tail}
use Rattle.layer_mean.specs.Tree.{join, ContentTree, EmissionTree, TakenTree}
use Rattle.layer_mean.specs.State.{State, row_at, has_room}
use Rattle.layer_mean.specs.Value.{Scope, is_true, val, mval, message_in}
use Rattle.layer_mean.specs.Effect as effect
use Rattle.layer_mean.specs.Effect.{sent_as, header_of, emitted_event, with_slots}
use Rattle.layer_mean.specs.Way.{Step, test, fork, set_slot, set_number, set_square, put, get, send, loop}
use Rattle.stack_mean.specs.NoShape.{NoShape, drawn_from}
use Rattle.stack_mean.specs.Drawn.{DrawnHeader, DrawnEvent, constant_of, DrawnMessage, chained, unknown, drawn_row}
use Rattle.stack_mean.specs.Drawn.{drawn_message, Drawing, with_header, sent_headers, emission_headers, with_sent}
use Rattle.stack_mean.specs.Drawn.{with_taken, draw_step, draw_steps}
use Rattle.shape_laws.specs.Walk.{Here, onward, walk_step, walk, took}
use Rattle.shape_laws.specs.Bare.{BareRow, BareMessage, BareTaken, BareContent, BareStep, BareBeyond, BareSteps}
use Rattle.shape_laws.specs.Known.{Pairwise, IsKnownAs, HeadersAre, MessageIs, EventIs}
use Rattle.shape_laws.proofs.Constants.{constants_are_values}

-- what is known of a message is so
abbrev pub Matches : DrawnMessage → Content → Type 0
Matches unknown m = Unit {0}
Matches (chained headers) m = HeadersAre headers m.headers

abbrev pub Scopes : List DrawnMessage → List Content → Type 0
Scopes [] [] = Unit {0}
Scopes (d ∷ ds) (m ∷ ms) = Matches d m × Scopes ds ms
Scopes _ _ = ⊥

same_headers : (d : DrawnMessage) (m n : Content) → m.headers ≡ n.headers → Matches d m → Matches d n
same_headers unknown m n e h = tt
same_headers (chained headers) m n e h = subst (HeadersAre headers) e h

look : (ds : List DrawnMessage) (ms : List Content) (k : ℕ) → Scopes ds ms →
    Matches (slice_index_or ds k (chained [])) (slice_index_or ms k (plain []))
look [] [] k h = tt
look (d ∷ ds) (m ∷ ms) zero h = h.0
look (d ∷ ds) (m ∷ ms) (suc k) h = look ds ms k h.1
look [] (m ∷ ms) k h = absurd h
look (d ∷ ds) [] k h = absurd h

fill : (ds : List DrawnMessage) (ms : List Content) (k : ℕ) (d : DrawnMessage) (m : Content) → Scopes ds ms →
    Matches d m →
    Scopes (slice_set ds k d) (slice_set ms k m)
fill [] [] k d m h one = tt
fill (c ∷ ds) (n ∷ ms) zero d m h one = (one, h.1)
fill (c ∷ ds) (n ∷ ms) (suc k) d m h one = (h.0, fill ds ms k d m h.1 one)
fill [] (n ∷ ms) k d m h one = absurd h
fill (c ∷ ds) [] k d m h one = absurd h

row_matches : (carried : Carried) (row : Option Row) → BareRow carried row →
    Matches (drawn_row carried) (message_in carried row)
row_matches part row bare = subst (HeadersAre []) (sym bare) tt
row_matches (whole blank) row bare = tt

join_headers : (p m : Content) → m.headers ≡ (parts.join p m).headers
join_headers p m = go (nat_le (length p.body + length m.body) 8192) where
  go : (b : Bool) → m.headers ≡ (if b then record { headers = m.headers; body = p.body ++ m.body } else m).headers
  go true = refl
  go false = refl

message_matches : (ds : List DrawnMessage) (x : MessageTree) (s : State) (l : Scope) → Scopes ds l.messages →
    BareMessage x s l →
    Matches (drawn_message ds x) (mval x s l)
message_matches ds (message k) s l h bare = look ds l.messages k h
message_matches ds nothing s l h bare = tt
message_matches ds (held c i row carried) s l h bare = row_matches carried (row_at s c (val i s l) (val row s l)) bare
message_matches ds (cut m from n) s l h bare = tt
message_matches ds (tail m from) s l h bare =
    same_headers (drawn_message ds m) (mval m s l) (mval (tail m from) s l) refl (message_matches ds m s l h bare)
message_matches ds (join p m) s l h bare =
    same_headers (drawn_message ds m) (mval m s l) (mval (join p m) s l) (join_headers (mval p s l) (mval m s l))
    (message_matches ds m s l h bare)

-- what is sent is as drawn
abbrev pub SentIs : Dir × DrawnEvent → Dir × Event → Type 0
SentIs d e = (d.0 ≡ e.0) × EventIs d.1 e.1

-- a walk stands where a drawing does
abbrev pub Stands : Drawing → Here → Type 0
Stands d h = Scopes d.scope h.scope.messages × Pairwise SentIs d.sent h.sent

abbrev pub Drawn : Result Drawing NoShape → Here → Type 0
Drawn (Err reason) h = Unit {0}
Drawn (Ok d) h = Stands d h

abbrev pub Draws : Result Drawing NoShape → Option Here → Type 0
Draws r None = Unit {0}
Draws r (Some h) = Drawn r h

slots_leave : (slots values : List ℕ) (l : Scope) → (with_slots slots values l).messages ≡ l.messages
slots_leave [] values l = refl
slots_leave (k ∷ slots) [] l = refl
slots_leave (k ∷ slots) (v ∷ values) l = slots_leave slots values _

taken_matches : (t : TakenTree) (row : Row) (ds : List DrawnMessage) (l : Scope) → Scopes ds l.messages →
    BareTaken t.message (Some row) → Scopes (with_taken t ds) (effect.with_taken t row l).messages
taken_matches t row ds l h bare = go t.message bare where
  base : Scopes ds (with_slots t.numbers row.numbers l).messages
  base = subst (Scopes ds) (sym (slots_leave t.numbers row.numbers l)) h

  go : (m : Option (ℕ × Carried)) → BareTaken m (Some row) →
      Scopes (option_map_or (λ slot. slice_set ds slot.0 (drawn_row slot.1)) m ds)
      (option_map_or (λ slot. effect.with_message slot.0 (message_in slot.1 (Some row))
      (with_slots t.numbers row.numbers l))
      m (with_slots t.numbers row.numbers l)).messages
  go None bare = base
  go (Some slot) bare = fill ds (with_slots t.numbers row.numbers l).messages slot.0 (drawn_row slot.1) _ base
      (row_matches slot.1 (Some row) bare)

-- an event of a kind is as drawn where its message is
of_kind : (kind : Kind) (numbers : List ℕ) (headers : Option (List DrawnHeader)) (m : Option Content) →
    MessageIs headers m →
    EventIs (record { kind = kind; headers = headers }) (event_of kind numbers m)
of_kind kind numbers headers m is = go (carries kind) where
  go : (b : Bool) → EventIs (record { kind = kind; headers = headers })
      (if b then record { kind = kind; peer = slice_index numbers 0; a = 0; b = 0; message = m } else record
      { kind = kind; peer = 0; a = slice_index numbers 0; b = slice_index numbers 1; message = m })
  go true = record { kind = refl; message = is }
  go false = record { kind = refl; message = is }

-- lists that agree so far, and further
pub pairs_append : {A B : Type 0} (R : A → B → Type 0) (xs us : List A) (ys vs : List B) → Pairwise R xs ys →
    Pairwise R us vs →
    Pairwise R (xs ++ us) (ys ++ vs)
pairs_append R [] us [] vs h more = more
pairs_append R (x ∷ xs) us (y ∷ ys) vs h more = (h.0, pairs_append R xs us ys vs h.1 more)
pairs_append R [] us (y ∷ ys) vs h more = absurd h
pairs_append R (x ∷ xs) us [] vs h more = absurd h

-- fields that are written with numbers alone are these numbers
field_known : (e : ExpressionTree) (s : State) (l : Scope) → IsKnownAs (constant_of e) (val e s l)
field_known e s l = go (constant_of e) refl where
  go : (c : Option ℕ) → constant_of e ≡ c → IsKnownAs c (val e s l)
  go None is = tt
  go (Some n) is = constants_are_values e n s l is

fields_known : (es : List ExpressionTree) (s : State) (l : Scope) →
    Pairwise IsKnownAs (map constant_of es) (map (λ e. val e s l) es)
fields_known [] s l = tt
fields_known (e ∷ es) s l = (field_known e s l, fields_known es s l)

pushed_matches : (place : ℕ) (dir : Dir) (c : ContentTree) (s : State) (l : Scope) (headers : List DrawnHeader)
    (m : Content) →
    HeadersAre headers m.headers →
    HeadersAre (with_header dir c headers) (sent_as dir (header_of place c s l) m).headers
pushed_matches place Up c s l headers m is = is
pushed_matches place Down c s l headers m is = (record { tag = refl; fields = fields_known c.fields s l }, is)

emission_matches : (place : ℕ) (e : EmissionTree) (d : Drawing) (h : Here) → Stands d h →
    BareContent e.content h.state h.scope →
    Drawn (drawn_from (λ headers. Ok (with_sent d e headers)) (emission_headers place e.direction d.scope e.content))
    (record h { sent = h.sent ++ (e.direction, emitted_event place e h.state h.scope) ∷ [] })
emission_matches place e d h stands bare = go e.content bare where
  numbers : List ℕ
  numbers = map (λ n. val n h.state h.scope) e.numbers

  content_of : ContentTree → Content
  content_of c = sent_as e.direction (header_of place c h.state h.scope) (mval c.message h.state h.scope)

  with_one : (headers : Option (List DrawnHeader)) (m : Option Content) → MessageIs headers m →
      Stands (with_sent d e headers) (record h { sent = h.sent ++ (e.direction, event_of e.kind numbers m) ∷ [] })
  with_one headers m same = (
    stands.0,
    pairs_append SentIs d.sent ((e.direction, record { kind = e.kind; headers = headers }) ∷ []) h.sent
        ((e.direction, event_of e.kind numbers m) ∷ []) stands.1 ((refl, of_kind e.kind numbers headers m same), tt),
  )

  known : (c : ContentTree) (m : DrawnMessage) → Matches m (mval c.message h.state h.scope) →
      Drawn (drawn_from (λ headers. Ok (with_sent d e headers)) (sent_headers place e.direction c m))
      (record h { sent = h.sent ++ (e.direction, event_of e.kind numbers (Some (content_of c))) ∷ [] })
  known c unknown same = tt
  known c (chained headers) same = with_one (Some (with_header e.direction c headers)) (Some (content_of c))
      (pushed_matches place e.direction c h.state h.scope headers (mval c.message h.state h.scope) same)

  go : (content : Option ContentTree) → BareContent content h.state h.scope →
      Drawn (drawn_from (λ headers. Ok (with_sent d e headers)) (emission_headers place e.direction d.scope content))
      (record h { sent = h.sent ++ (e.direction, event_of e.kind numbers (option_map content_of content)) ∷ [] })
  go None bare = with_one None None tt
  go (Some c) bare = known c (drawn_message d.scope c.message)
      (message_matches d.scope c.message h.state h.scope stands.0 bare)

step_draws : (place : ℕ) (x : Step) (d : Drawing) (h : Here) → Stands d h → BareStep x h →
    Draws (draw_step place x d) (walk_step place x h)
step_draws place (test true e) d h stands bare = go (is_true (val e h.state h.scope)) where
  go : (b : Bool) → Draws (Ok d) (if b then Some h else None)
  go true = stands
  go false = tt
step_draws place (test false e) d h stands bare = go (is_true (val e h.state h.scope)) where
  go : (b : Bool) → Draws (Ok d) (if b then None else Some h)
  go true = tt
  go false = stands
step_draws place (fork First e) d h stands bare = go (is_true (val e h.state h.scope)) where
  go : (b : Bool) → Draws (Ok d) (if b then Some h else None)
  go true = stands
  go false = tt
step_draws place (fork Second e) d h stands bare = go (is_true (val e h.state h.scope)) where
  go : (b : Bool) → Draws (Ok d) (if b then None else Some h)
  go true = tt
  go false = stands
step_draws place (set_slot k e) d h stands bare = stands
step_draws place (set_number c i e) d h stands bare = stands
step_draws place (set_square c row column e) d h stands bare = stands
step_draws place (put c i capacity row) d h stands bare = go _ (has_room h.state c (val i h.state h.scope) capacity)
  where
    go : (s : State) (b : Bool) → Draws (Ok d) (if b then Some (record h { state = s }) else None)
    go s true = stands
    go s false = tt
step_draws place (get c i taken) d h stands bare = go (row_at h.state c (val i h.state h.scope) 0) bare where
  go : (row : Option Row) → BareTaken taken.message row →
      Draws (Ok (record d { scope = with_taken taken d.scope })) (took c (val i h.state h.scope) taken h row)
  go None bare = tt
  go (Some row) bare = (taken_matches taken row d.scope h.scope stands.0 bare, stands.1)
step_draws place (send e) d h stands bare = emission_matches place e d h stands bare
step_draws place loop d h stands bare = tt

-- a way after its first step
goes_on : (place : ℕ) (xs : List Step) →
    ((d : Drawing) (h : Here) → Stands d h → BareSteps place xs h → Draws (draw_steps place xs d) (walk place xs h)) →
    (r : Result Drawing NoShape) (w : Option Here) → Draws r w → BareBeyond (BareSteps place xs) w →
    Draws (drawn_from (draw_steps place xs) r) (onward (walk place xs) w)
goes_on place xs rest r None stands bare = tt
goes_on place xs rest (Ok d) (Some h) stands bare = rest d h stands bare
goes_on place xs rest (Err reason) (Some h) stands bare = go (walk place xs h) where
  go : (w : Option Here) → Draws (Err reason) w
  go None = tt
  go (Some h) = tt

pub way_draws : (place : ℕ) (xs : List Step) (d : Drawing) (h : Here) → Stands d h → BareSteps place xs h →
    Draws (draw_steps place xs d) (walk place xs h)
way_draws place [] d h stands bare = stands
way_draws place (x ∷ xs) d h stands bare = goes_on place xs (way_draws place xs) (draw_step place x d)
    (walk_step place x h)
    (step_draws place x d h stands bare.0) bare.1
