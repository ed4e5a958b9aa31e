-- What acts do on the states of a member by themselves: values are read from what each cell held after each write, and
-- from the rows that were taken.
use Rattle.std.specs.Prelude.{ℕ, suc, ◌+◌, ◌==◌, ◌&&◌, if◌then◌else◌, List, [], ◌∷◌, ◌++◌, map, length, drop, slice_get}
use Rattle.std.specs.Prelude.{slice_index, slice_index_or, Option, Some, None, option_map}
use Rattle.msg_core.specs.Chain.{Content, plain}
use Rattle.msg_core.specs.declared.message.Header.{Header}
use Rattle.msg_core.specs.Parts as parts
use Rattle.layer_words.specs.declared.events.Dir.{Dir}
use Rattle.layer_mean.specs.declared.run.Event.{Event}
use Rattle.layer_mean.specs.declared.run.Row.{Row}
use Rattle.layer_mean.specs.Event.{event_of}
use Rattle.layer_mean.specs.State as state
use Rattle.layer_mean.specs.State.{State, Contents, numbers_in, queues_in, flat_index, rows_at, row_at, with_queue}
use Rattle.layer_mean.specs.Value.{is_true, applied, function_of, number_in, message_in}
use Rattle.trace_mean.specs.Worth.{Input, state_of}
use Rattle.trace_mean.specs.Follow.{Answer, reached, stopped}
use Rattle.guard_mean.specs.Hoist.{is_here}
use Rattle.guard_laws.proofs.States.{cell_in, celled}
use Rattle.symbol_mean.specs.Value.{Seen, NumberValue, number, peer, field, me, count, ltime, taken_number, element}
use Rattle.symbol_mean.specs.Value.{square, rows, item, size, binary, apply, pick, MessageValue, body, nothing}
use Rattle.symbol_mean.specs.Value.{taken_message, held, cut, tail, join, LinkValue, ChainedValue, Act, check, set}
use Rattle.symbol_mean.specs.Value.{set_square, push, take, output}
use Rattle.symbol_mean.specs.Symbolic.{writes_to}

-- what values are read from
pub record Past : Type 0 where
  pub cells : Seen → Contents
  pub rows : List (Option Row)

abbrev pub row_in : Past → Option ℕ → Option Row
row_in h None = None
row_in h (Some row) = slice_index_or h.rows row None

abbrev pub rows_of : Contents → ℕ → List Row
rows_of x j = slice_index_or (queues_in x) j []

abbrev mutual
  pub worth : Input → Past → NumberValue → ℕ
  worth i h (number n) = n
  worth i h peer = i.peer
  worth i h (field n) = slice_index i.fields n
  worth i h me = i.me
  worth i h count = i.count
  worth i h ltime = i.ltime
  worth i h (taken_number row k) = number_in k (row_in h row)
  worth i h (element x e) = slice_index (numbers_in (h.cells x)) (worth i h e)
  worth i h (square x r k) = slice_index (numbers_in (h.cells x)) (flat_index i.count (worth i h r) (worth i h k))
  worth i h (rows x e) = length (rows_of (h.cells x) (worth i h e))
  worth i h (item x e r k) = number_in k (slice_get (rows_of (h.cells x) (worth i h e)) (worth i h r))
  worth i h (size m) = length (content i h m).body
  worth i h (binary o a b) = applied o (worth i h a) (worth i h b)
  worth i h (apply f a) = function_of f (worth i h a)
  worth i h (pick c a b) = if is_true (worth i h c) then worth i h a else worth i h b

  pub content : Input → Past → MessageValue → Content
  content i h body = plain i.body
  content i h nothing = plain []
  content i h (taken_message row carried) = message_in carried (row_in h row)
  content i h (held x e r carried) = message_in carried (slice_get (rows_of (h.cells x) (worth i h e)) (worth i h r))
  content i h (cut m f n) = parts.cut (content i h m) (worth i h f) (worth i h n)
  content i h (tail m f) = parts.tail (content i h m) (worth i h f)
  content i h (join a b) = parts.join (content i h a) (content i h b)

abbrev pub header_of : Input → Past → LinkValue → Header
header_of i h l = record { layer = l.place; tag = l.tag; fields = map (worth i h) l.fields }

abbrev pub sent_of : Input → Past → ChainedValue → Content
sent_of i h m = record {
  headers = map (header_of i h) m.chain ++ (content i h m.message).headers;
  body =
      (content i h m.message).body;
}

-- how far acts have come
pub record Course : Type 0 where
  pub past : Past
  pub written : List (ℕ × ℕ)
  pub states : List State
  pub outs : List (Dir × Event)
  pub checks : ℕ

-- what cells held, with what one holds after its n-th write
abbrev pub holding : (Seen → Contents) → ℕ → ℕ → ℕ → Contents → Seen → Contents
holding f p c n now x = if (x.writes == n) && is_here x.place x.cell p c then now else f x

abbrev pub writes : Course → ℕ → ℕ → Contents → Course
writes y p c now = record y {
  past = record y.past {
    cells = holding y.past.cells p c (suc (writes_to y.written p c))
        (cell_in (celled y.states p c now) p c);
  };
  written = (p, c) ∷ y.written;
  states = celled y.states p c now;
}

abbrev pub takes : Course → Option Row → Course
takes y row = record y { past = record y.past { rows = y.past.rows ++ row ∷ [] } }

abbrev pub acts : Input → Course → Act → Course
acts i y (check e) = record y { checks = y.checks + 1 }
acts i y (set p c e x) = writes y p c (state.with_element (worth i y.past e) (worth i y.past x) (cell_in y.states p c))
acts i y (set_square p c r k x) = writes y p c
    (state.with_element (flat_index i.count (worth i y.past r) (worth i y.past k)) (worth i y.past x)
    (cell_in y.states p c))
acts i y (push p c e numbers message) =
    writes y p c (with_queue (worth i y.past e) (rows_at (state_of y.states p) c (worth i y.past e)
    ++ record { numbers = map (worth i y.past) numbers; message = option_map (sent_of i y.past) message } ∷ [])
    (cell_in y.states p c))
acts i y (take p c e) = writes (takes y (row_at (state_of y.states p) c (worth i y.past e) 0)) p c
    (with_queue (worth i y.past e) (drop 1 (rows_at (state_of y.states p) c (worth i y.past e))) (cell_in y.states p c))
acts i y (output dir kind numbers message) = record y {
  outs = y.outs ++ (dir, event_of kind (map (worth i y.past) numbers) (option_map (sent_of i y.past) message)) ∷ [];
}

-- what acts give
abbrev pub answer : Input → List Act → Course → Answer
answer i [] y = reached y.states y.outs
answer i (check e ∷ xs) y = if is_true (worth i y.past e) then answer i xs (acts i y (check e)) else stopped y.checks
answer i (x ∷ xs) y = answer i xs (acts i y x)
