-- What holds of a guarded handler that can't be made simpler.
use Rattle.std.specs.Prelude.{◌==◌, Bool, true, false, not, ◌&&◌, ◌||◌, List, [], ◌∷◌, ◌++◌}
use Rattle.std.specs.List.{list_all}
use Rattle.trace_mean.specs.Trace.{number, TraceNumber, atom, element, square, rows, item, size, binary, apply, pick}
use Rattle.trace_mean.specs.Trace.{TraceMessage, held, cut, tail, join, Operation, bind, note, check, set, set_square}
use Rattle.trace_mean.specs.Trace.{push, take, output, Guarded}
use Rattle.guard_mean.specs.Alike.{same_number, is_among}
use Rattle.guard_mean.specs.Simplify.{is_comparison, is_equal, is_number}

-- No operator, function or choice is over numbers alone, and nothing is compared with itself.
abbrev mutual
  -- Whether no operator, function or choice in a number is over literals alone, and nothing in it is asked to equal
  -- itself.
  pub plain : TraceNumber → Bool
  plain (element p c e) = plain e
  plain (square p c r k) = plain r && plain k
  plain (rows p c e) = plain e
  plain (item p c e r k) = plain e && plain r
  plain (size m) = plain_message m
  plain (binary o a b) = not (is_number a && is_number b) &&
      (not (is_equal o && same_number a b) && (plain a && plain b))
  plain (apply f a) = not (is_number a) && plain a
  plain (pick c a b) = not (is_number c && (is_number a && is_number b)) && (plain c && (plain a && plain b))
  plain _ = true

  -- Whether all numbers in a message are plain.
  pub plain_message : TraceMessage → Bool
  plain_message (held p c e r carried) = plain e && plain r
  plain_message (cut m f n) = plain_message m && (plain f && plain n)
  plain_message (tail m f) = plain_message m && plain f
  plain_message (join a b) = plain_message a && plain_message b
  plain_message _ = true

-- No comparison in it is one of these conjuncts.
abbrev mutual
  -- Whether no comparison in a number is one of these conjuncts.
  pub clear : List TraceNumber → TraceNumber → Bool
  clear ks (element p c e) = clear ks e
  clear ks (square p c r k) = clear ks r && clear ks k
  clear ks (rows p c e) = clear ks e
  clear ks (item p c e r k) = clear ks e && clear ks r
  clear ks (size m) = clear_message ks m
  clear ks (binary o a b) = not (is_comparison o && is_among ks (binary o a b)) && (clear ks a && clear ks b)
  clear ks (apply f a) = clear ks a
  clear ks (pick c a b) = clear ks c && (clear ks a && clear ks b)
  clear ks _ = true

  -- Whether no comparison in the numbers of a message is one of these conjuncts.
  pub clear_message : List TraceNumber → TraceMessage → Bool
  clear_message ks (held p c e r carried) = clear ks e && clear ks r
  clear_message ks (cut m f n) = clear_message ks m && (clear ks f && clear ks n)
  clear_message ks (tail m f) = clear_message ks m && clear ks f
  clear_message ks (join a b) = clear_message ks a && clear_message ks b
  clear_message ks _ = true

-- What an entry value or a conjunct must be after others: plain, no literal, and none of those before it.
abbrev pub is_new : List TraceNumber → TraceNumber → Bool
is_new es e = plain e && (not (is_number e) && not (is_among es e))

-- Whether each of these entry values is new after es and those before it.
abbrev pub all_new : List TraceNumber → List TraceNumber → Bool
all_new es [] = true
all_new es (x ∷ xs) = is_new es x && all_new (es ++ x ∷ []) xs

-- Whether each of these conjuncts is new after ks and those before it, and no comparison in it is one of them.
abbrev pub all_clear : List TraceNumber → List TraceNumber → Bool
all_clear ks [] = true
all_clear ks (x ∷ xs) = (is_new ks x && clear ks x) && all_clear (ks ++ x ∷ []) xs

-- The guard that never holds.
abbrev pub is_never : List TraceNumber → Bool
is_never (atom (number n) ∷ []) = n == 0
is_never _ = false

-- An operation whose expressions are plain.
abbrev pub plain_operation : Operation → Bool
plain_operation (bind e) = plain e
plain_operation (note m) = plain_message m
plain_operation (check e) = plain e
plain_operation (set p c e v) = plain e && plain v
plain_operation (set_square p c r k v) = plain r && (plain k && plain v)
plain_operation (push p c e numbers m) = plain e && list_all plain numbers
plain_operation (take p c e) = plain e
plain_operation (output dir kind numbers m) = true

-- A guarded handler in its simplest form: each entry value is new and so is each conjunct, unless the guard never
-- holds, and its operations are plain.
abbrev pub is_reduced : Guarded → Bool
is_reduced g = all_new [] g.values &&
    ((is_never g.conjuncts || all_clear [] g.conjuncts) && list_all plain_operation g.operations)
