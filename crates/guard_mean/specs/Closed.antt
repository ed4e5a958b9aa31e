-- Entry values that are used only after they are made.
use Rattle.std.specs.Prelude.{ℕ, suc, nat_lt, Bool, true, false, ◌&&◌, List, [], ◌∷◌, length}
use Rattle.std.specs.List.{list_all}
use Rattle.trace_mean.specs.Trace.{Atom, bound, taken_number, value, Core, noted, taken_message, TraceNumber, atom}
use Rattle.trace_mean.specs.Trace.{element, square, rows, item, size, binary, apply, pick, TraceMessage, core, held}
use Rattle.trace_mean.specs.Trace.{cut, tail, join, Guarded}

-- Only entry values below n are read, and nothing that is bound, noted or taken.
abbrev pub closed_atom : ℕ → Atom → Bool
closed_atom n (value k) = nat_lt k n
closed_atom n (bound k) = false
closed_atom n (taken_number r k) = false
closed_atom n _ = true

-- Whether a core is the input's body or none, and so names no note and no taken row.
abbrev pub closed_core : Core → Bool
closed_core (noted k) = false
closed_core (taken_message r carried) = false
closed_core _ = true

abbrev mutual
  -- Whether a number reads only entry values below n, and nothing that is bound, noted or taken.
  pub closed_number : ℕ → TraceNumber → Bool
  closed_number n (atom a) = closed_atom n a
  closed_number n (element p c e) = closed_number n e
  closed_number n (square p c r k) = closed_number n r && closed_number n k
  closed_number n (rows p c e) = closed_number n e
  closed_number n (item p c e r k) = closed_number n e && closed_number n r
  closed_number n (size m) = closed_message n m
  closed_number n (binary o a b) = closed_number n a && closed_number n b
  closed_number n (apply f a) = closed_number n a
  closed_number n (pick c a b) = closed_number n c && (closed_number n a && closed_number n b)
  closed_number n _ = true

  -- Whether a message names no note and no taken row, and its numbers read only entry values below n.
  pub closed_message : ℕ → TraceMessage → Bool
  closed_message n (core c) = closed_core c
  closed_message n (held p c e r carried) = closed_number n e && closed_number n r
  closed_message n (cut m f k) = closed_message n m && (closed_number n f && closed_number n k)
  closed_message n (tail m f) = closed_message n m && closed_number n f
  closed_message n (join a b) = closed_message n a && closed_message n b

-- Whether each of these entry values, numbered from n, reads only those of smaller numbers.
abbrev pub all_closed : ℕ → List TraceNumber → Bool
all_closed n [] = true
all_closed n (e ∷ es) = closed_number n e && all_closed (suc n) es

-- Each entry value reads earlier ones, and the conjuncts any.
abbrev pub is_closed : Guarded → Bool
is_closed g = all_closed 0 g.values && list_all (closed_number (length g.values)) g.conjuncts
