-- The lines of a handler, put one by one.
use Rattle.std.proofs.Common.{◌≡◌, ℕ, suc, ◌+◌, ◌<◌, ◌≤◌, Bool, false, true, List, [], ◌∷◌, ◌++◌, drop, get_or, length}
use Rattle.std.proofs.Common.{map, take, refl, sym, ap, subst, ◌∙◌, append-nil, arith}
use Rattle.std.proofs.lemmas.List.{append_assoc, map-append, map-id, take_more, take_all, take-append-drop}
use Rattle.std.proofs.lemmas.List.Sums.{fold-append}
use Rattle.std.specs.List.{enumerate_from, flat_map, fold}
use Rattle.std.specs.Prelude.{Err}
use Rattle.bypass_mean.specs.Lines.{conjunct_line, done_line, ended_line, guarded_lines, value_lines}
use Rattle.bypass_mean.specs.Text.{Written, nothing_written, operation_lines, writes}
use Rattle.layer_mean.specs.Tree.{LayerTree}
use Rattle.outside.specs.declared.sink.SinkError.{SinkError}
use Rattle.outside.specs.Tells.{Tells}
use Rattle.outside.specs.Lines.{Gains, Wrote}
use Rattle.outside.proofs.Gaining.{cut_short, gains_then}
use Rattle.synth_print.specs.Lines.{all_done, bare, conjunct_turn, done_lines, ended_lines, opened_line, value_turn}
use Rattle.synth_print.proofs.Follows.{writes_bare, writes_lines}
use Rattle.trace_mean.specs.Trace.{TraceNumber, Operation, Guarded}

-- what these operations wrote
abbrev pub so_far : Bool → List LayerTree → List Operation → Written
so_far noting stack os = fold (writes noting stack) nothing_written os

-- lines of operations as they are put
put_lines : Bool → List (List ℕ) → List (List ℕ)
put_lines noting lines = ended_lines (map (opened_line noting) lines)

ended_both : (xs ys : List (List ℕ)) → ended_lines (xs ++ ys) ≡ ended_lines xs ++ ended_lines ys
ended_both xs ys = map-append ended_line xs ys

put_both : (noting : Bool) (xs ys : List (List ℕ)) → put_lines noting (xs ++ ys) ≡ put_lines noting xs ++
    put_lines noting ys
unfolding put_lines
put_both noting xs ys =
    ap ended_lines (map-append (opened_line noting) xs ys) ∙
    ended_both (map (opened_line noting) xs) (map (opened_line noting) ys)

-- lines are put after those that there are
grown : (noting : Bool) (stack : List LayerTree) (w : Written) (os : List Operation) →
    (more : List (List ℕ)) × ((fold (writes noting stack) w os).lines ≡ w.lines ++ more)
grown noting stack w [] = ([], sym (append-nil w.lines))
grown noting stack w (o ∷ os) =
    let rest = grown noting stack (writes noting stack w o) os in
    let own = (writes noting stack (bare w) o).lines in
    (own ++ rest.0, rest.1 ∙ ap (λ ls. ls ++ rest.0) (writes_lines noting stack w o) ∙ append_assoc w.lines own rest.0)

module _ (noting : Bool) (stack : List LayerTree) (os : List Operation) (k : ℕ) (o d : Operation) (lt : k < length os)
    (at : o ≡ get_or os k d)
    (w : Written) (same : w ≡ bare (so_far noting stack (take k os))) where
  abbrev before : Written
  before = so_far noting stack (take k os)

  next : so_far noting stack (take (k + 1) os) ≡ writes noting stack before o
  next = ap (so_far noting stack) (take_more os k d lt ∙ ap (λ y. take k os ++ y ∷ []) (sym at))
      ∙ fold-append (writes noting stack) nothing_written (take k os) (o ∷ [])

  lines_next : all_done noting stack (take (k + 1) os) ≡ all_done noting stack (take k os) ++
      done_lines noting stack w o
  unfolding put_lines
  lines_next = ap (λ x. put_lines noting x.lines) next ∙ ap (put_lines noting) (writes_lines noting stack before o)
      ∙ put_both noting before.lines (writes noting stack (bare before) o).lines
      ∙ ap (λ v. all_done noting stack (take k os) ++ done_lines noting stack v o) (sym same)

  pub written_next : (v : Written) → v ≡ bare (writes noting stack w o) →
      v ≡ bare (so_far noting stack (take (k + 1) os))
  written_next v is = is ∙ ap (λ x. bare (writes noting stack x o)) same ∙ writes_bare noting stack before o ∙
      ap bare (sym next)

  pub operations_more : (a b c : Tells) → Gains a b (all_done noting stack (take k os)) →
      Gains b c (done_lines noting stack w o) →
      Gains a c (all_done noting stack (take (k + 1) os))
  operations_more a b c h now = gains_then a b c _ _ _ h now lines_next

  pub operations_cut : (a b c : Tells) (e : SinkError) → Gains a b (all_done noting stack (take k os)) →
      Wrote (done_lines noting stack w o) b c (Err e) →
      Wrote (all_done noting stack os) a c (Err e)
  unfolding put_lines
  operations_cut a b c e h now =
      let up_to = so_far noting stack (take (k + 1) os) in
      let rest = grown noting stack up_to (drop (k + 1) os) in
      cut_short a b c (all_done noting stack (take k os)) (done_lines noting stack w o) (all_done noting stack os)
      (put_lines noting rest.0) e h now
      (ap (λ x. put_lines noting x.lines)
      (ap (so_far noting stack) (sym (take-append-drop (k + 1) os)) ∙
      fold-append (writes noting stack) nothing_written (take (k + 1) os) (drop (k + 1) os))
      ∙ ap (put_lines noting) rest.1 ∙ put_both noting up_to.lines rest.0 ∙
      ap (λ ls. ls ++ put_lines noting rest.0) lines_next)

pub operations_done : (noting : Bool) (stack : List LayerTree) (os : List Operation) (n : ℕ) (a b : Tells) →
    Gains a b (all_done noting stack (take n os)) → length os ≤ n →
    Gains a b (all_done noting stack os)
operations_done noting stack os n a b h le = subst (λ xs. Gains a b (all_done noting stack xs)) (take_all n os le) h

-- entry values and conjuncts, with their numbers
pub values_turns : (stack : List LayerTree) (k : ℕ) (es : List TraceNumber) →
    flat_map (value_turn stack) (enumerate_from k es) ≡ ended_lines (value_lines stack k es)
values_turns stack k [] = refl
values_turns stack k (e ∷ es) =
    let next : k + 1 ≡ suc k = omega arith in
    ap (λ ls. value_turn stack (k, e) ++ ls)
    (ap (λ n. flat_map (value_turn stack) (enumerate_from n es)) next ∙ values_turns stack (suc k) es)

pub conjuncts_turns : (stack : List LayerTree) (k : ℕ) (es : List TraceNumber) →
    flat_map (conjunct_turn stack) (enumerate_from k es) ≡ ended_lines (map (conjunct_line stack) es)
conjuncts_turns stack k [] = refl
conjuncts_turns stack k (e ∷ es) = ap (λ ls. conjunct_turn stack (k, e) ++ ls) (conjuncts_turns stack (k + 1) es)

pub handler_lines : (stack : List LayerTree) (noting : Bool) (g : Guarded) → noting ≡ false →
    flat_map (value_turn stack) (enumerate_from 0 g.values) ++ flat_map (conjunct_turn stack)
    (enumerate_from 0 g.conjuncts) ++ all_done noting stack g.operations
    ≡ ended_lines (guarded_lines stack g)
handler_lines stack noting g spelled =
    let values = value_lines stack 0 g.values in
    let conjuncts = map (conjunct_line stack) g.conjuncts in
    let done = map done_line (operation_lines false stack g.operations) in
    ap (λ n. flat_map (value_turn stack) (enumerate_from 0 g.values) ++ flat_map (conjunct_turn stack)
    (enumerate_from 0 g.conjuncts) ++ all_done n stack g.operations) spelled
    ∙ ap (λ ls. ls ++ flat_map (conjunct_turn stack) (enumerate_from 0 g.conjuncts) ++ ended_lines done)
    (values_turns stack 0 g.values)
    ∙ ap (λ ls. ended_lines values ++ ls ++ ended_lines done) (conjuncts_turns stack 0 g.conjuncts)
    ∙ ap (λ ls. ls ++ ended_lines done) (sym (ended_both values conjuncts))
    ∙ sym (ended_both (values ++ conjuncts) done)

-- a trace's lines have nothing before them
pub trace_lines : (stack : List LayerTree) (noting : Bool) (os : List Operation) → noting ≡ true →
    all_done noting stack os ≡ ended_lines (operation_lines true stack os)
trace_lines stack noting os is = ap (λ n. all_done n stack os) is ∙
    ap ended_lines (map-id (operation_lines true stack os))
