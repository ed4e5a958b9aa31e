-- Acts in parts.
use Rattle.std.proofs.Common.{◌≡◌, ℕ, zero, suc, ◌+◌, ◌≤◌, Bool, List, [], ◌∷◌, ◌++◌, length, map, take, refl, sym, ap}
use Rattle.std.proofs.Common.{subst, ◌∙◌, append_assoc, append-nil, length-append, arith}
use Rattle.std.proofs.lemmas.List.{map-append}
use Rattle.std.specs.Io.KnownBytes.{Appends}
use Rattle.std.specs.Prelude.{Result, Ok, Err}
use Rattle.outside.specs.Count.{next_count}
use Rattle.outside.specs.Links.{Network}
use Rattle.outside.specs.declared.sink.SinkError.{SinkError}
use Rattle.outside.specs.declared.sink.SinkError.TheVariants as sink
use Rattle.run_mean.specs.Journal.{Handed}
use Rattle.outside.specs.Lines.{Begins, Gains, Wrote}
use Rattle.outside.specs.Tells as output
use Rattle.outside.proofs.Gaining.{begins_none, gains_none, gains_then, cut_short}
use Rattle.node_laws.specs.Acts.{Act, puts, sends, lines_in, sends_in}
use Rattle.node_laws.specs.Losses.{failures_in}
use Rattle.node_laws.specs.Network.{Tells, after_sends, fates_of, sent_as}
use Rattle.node_laws.proofs.Acts.{lines_append, puts_lines, puts_none, sends_append}
use Rattle.node_laws.proofs.Sendings.{failures_append, fates_add, fates_after, handed_after, listened_after}
use Rattle.node_laws.proofs.Sendings.{met_after, sends_then, tells_same, tells_then}
use Rattle.node_loop.specs.Around.{Around, count_on}
use Rattle.node_loop.specs.Passing.{Breaks, Handles, Passes, Stops, Takes, WentOn, next_line}

pub count_on_add : (k m n : ℕ) → count_on k (m + n) ≡ count_on (count_on k m) n
count_on_add k zero n = ap (count_on k) (let e : 0 + n ≡ n = omega arith in e)
count_on_add k (suc m) n = ap (count_on k) (let e : suc m + n ≡ suc (m + n) = omega arith in e) ∙
    count_on_add (next_count k) m n

takes_then : (xs ys : List Handed) (f g : List Bool) (n n' n'' : Network) → Takes xs f n n' → Takes ys g n' n'' →
    Takes (xs ++ ys) (f ++ g) n n''
takes_then xs ys f g n n' n'' s t = record {
  failed_are = ap (λ x. x ++ g) s.failed_are
      ∙ ap (λ x. fates_of (length xs) n.fates ++ x)
      (t.failed_are ∙ ap (fates_of (length ys)) (ap (λ m. m.fates) s.is ∙ fates_after xs n))
      ∙ sym (fates_add (length xs) (length ys) n.fates)
      ∙ ap (λ k. fates_of k n.fates) (sym (length-append xs ys));
  is = t.is ∙ ap (after_sends ys) s.is ∙ sym (sends_then xs ys n);
}

pub takes_some : (xs : List Handed) (f : List Bool) (n n' : Network) → Takes xs f n n' → WentOn [] xs [] n n'
takes_some xs f n n' t = record {
  listened = ap (λ m. m.listened) t.is ∙ listened_after xs n ∙ sym (append-nil n.listened);
  some = record {
    handed = ap (λ m. m.handed) t.is ∙ handed_after xs n;
    met = ap (λ m. m.met) t.is ∙ met_after xs n ∙ sym (append-nil n.met);
  };
}

-- A network of which nothing was asked.
pub asked_nothing : (n : Network) → WentOn [] [] [] n n
asked_nothing n = record {
  listened = sym (append-nil n.listened);
  some = record { handed = sym (append-nil n.handed); met = sym (append-nil n.met) };
}

takes_none : (n : Network) → Takes [] [] n n
takes_none n = record { failed_are = refl; is = refl }

-- Acts that were done, one after the other.

pub passes_none : (a : Around) → Passes [] [] a a
passes_none a = record {
  gained = gains_none a.output;
  each = refl;
  faults = refl;
  sendings = refl;
  told = tells_same (Takes [] []) a.told takes_none;
}

pub passes_then : (a b c : Around) (xs ys zs : List Act) (f g : List Bool) → Passes xs f a b → Passes ys g b c →
    zs ≡ xs ++ ys →
    Passes zs (f ++ g) a c
passes_then a b c xs ys zs f g p q is =
    let lines = ap lines_in is ∙ lines_append xs ys in
    let handed = ap sends_in is ∙ sends_append xs ys in record {
      gained = gains_then a.output b.output c.output (lines_in xs) (lines_in ys) (lines_in zs) p.gained q.gained lines;
      each = length-append f g ∙ ap (λ n. n + length g) p.each ∙ ap (λ n. length (sends_in xs) + n) q.each
          ∙ sym (length-append (sends_in xs) (sends_in ys)) ∙ sym (ap length handed);
      faults = q.faults ∙ p.faults;
      sendings = q.sendings ∙ ap (λ n. count_on n (failures_in g)) p.sendings ∙
          sym (count_on_add a.sends (failures_in f) (failures_in g))
          ∙ ap (count_on a.sends) (sym (failures_append f g));
      told = subst (λ h. Tells (Takes h (f ++ g)) a.told c.told) (sym handed)
          (tells_then a.told b.told c.told p.told q.told
          (λ n n' n'' s t. takes_then (sends_in xs) (sends_in ys) f g n n' n'' s t));
    }

-- Lines alone.
pub passes_lines : (a b : Around) (lines : List (List ℕ)) → Gains a.output b.output lines → b.faults ≡ a.faults →
    b.sends ≡ a.sends → b.told ≡ a.told →
    Passes (map puts lines) [] a b
passes_lines a b lines gained faults sendings told = record {
  gained = subst (Gains a.output b.output) (sym (puts_lines lines)) gained;
  each = sym (ap length (puts_none lines));
  faults = faults;
  sendings = sendings;
  told = subst (λ h. Tells (Takes h []) a.told b.told) (sym (puts_none lines))
      (subst (Tells (Takes [] []) a.told) (sym told) (tells_same (Takes [] []) a.told takes_none));
}

-- Where acts stop.

pub stops_then : (a b c : output.Tells) (xs done rest : List Act) (e : SinkError) → Gains a b (lines_in xs) →
    Stops e done rest b c → Stops e (xs ++ done) rest a c
stops_then a b c xs done rest sink.Failed gained s = record {
  line = s.line;
  more = s.more;
  next = s.next;
  mid = s.mid;
  put = gains_then a b s.mid (lines_in xs) (lines_in done) (lines_in (xs ++ done)) gained s.put (lines_append xs done);
  fails = s.fails;
}
stops_then a b c xs done rest sink.Memory gained s = record {
  mid = s.mid;
  put = gains_then a b s.mid (lines_in xs) (lines_in done) (lines_in (xs ++ done)) gained s.put (lines_append xs done);
  begun = s.begun;
}

take_none : (n : ℕ) → take {A = ℕ} n [] ≡ []
take_none zero = refl
take_none (suc n) = refl

pub stops_longer : (a b : output.Tells) (done rest more : List Act) (e : SinkError) → Stops e done rest a b →
    Stops e done (rest ++ more) a b
stops_longer a b done rest more sink.Failed s = record {
  line = s.line;
  more = s.more ++ more;
  next = ap (λ acts. acts ++ more) s.next;
  mid = s.mid;
  put = s.put;
  fails = s.fails;
}
stops_longer a b done rest more sink.Memory s = record { mid = s.mid; put = s.put; begun = begins rest s.begun } where
  begins : (rest : List Act) → Begins s.mid b (next_line rest) → Begins s.mid b (next_line (rest ++ more))
  begins [] h = record { count = 0; gained = subst (Appends s.mid.contents b.contents) (take_none h.count) h.gained }
  begins (puts line ∷ rest) h = h
  begins (sends handed ∷ rest) h = h

-- Acts that stop wrote a part of their lines.
pub stops_wrote : (a b : output.Tells) (done rest : List Act) (e : SinkError) → Stops e done rest a b →
    Wrote (lines_in (done ++ rest)) a b (Err e)
stops_wrote a b done rest sink.Failed s = cut_short a s.mid b (lines_in done) (s.line ∷ []) (lines_in (done ++ rest))
    (lines_in s.more) sink.Failed s.put s.fails
    (ap (λ r. lines_in (done ++ r)) s.next ∙ lines_append done (puts s.line ∷ s.more)
    ∙ sym (append_assoc (lines_in done) (s.line ∷ []) (lines_in s.more)))
stops_wrote a b done rest sink.Memory s = go rest s.begun where
  go : (rest : List Act) → Begins s.mid b (next_line rest) → Wrote (lines_in (done ++ rest)) a b (Err sink.Memory)
  go [] h = cut_short a s.mid b (lines_in done) [] (lines_in (done ++ [])) [] sink.Memory s.put h
      (lines_append done [] ∙ sym (append-nil (lines_in done ++ [])))
  go (puts line ∷ rest) h = cut_short a s.mid b (lines_in done) (line ∷ []) (lines_in (done ++ puts line ∷ rest))
      (lines_in rest) sink.Memory s.put
      (subst (Begins s.mid b) (sym (append-nil line)) h)
      (lines_append done (puts line ∷ rest) ∙ sym (append_assoc (lines_in done) (line ∷ []) (lines_in rest)))
  go (sends handed ∷ rest) h = cut_short a s.mid b (lines_in done) [] (lines_in (done ++ sends handed ∷ rest))
      (lines_in rest) sink.Memory s.put h
      (lines_append done (sends handed ∷ rest) ∙ ap (λ ls. ls ++ lines_in rest) (sym (append-nil (lines_in done))))

-- A line whose put was cut short.
pub line_stops : (a b : output.Tells) (line : List ℕ) (more : List Act) (e : SinkError) →
    Wrote (line ∷ []) a b (Err e) → Stops e [] (puts line ∷ more) a b
line_stops a b line more sink.Failed wrote =
    record { line = line; more = more; next = refl; mid = a; put = gains_none a; fails = wrote }
line_stops a b line more sink.Memory wrote =
    record { mid = a; put = gains_none a; begun = subst (Begins a b) (append-nil line) wrote }

-- At most one line.
lines_stop : (a b : output.Tells) (lines : List (List ℕ)) (more : List Act) (e : SinkError) → length lines ≤ 1 →
    Wrote lines a b (Err e) →
    Stops e [] (map puts lines ++ more) a b
lines_stop a b [] more sink.Failed few wrote =
    let n = ap length wrote.are in let l = length-append wrote.front (wrote.line ∷ wrote.following) in
    absurd (omega (arith, n, l))
lines_stop a b [] more sink.Memory few wrote = record {
  mid = a;
  put = gains_none a;
  begun = record { count = 0; gained = subst (Appends a.contents b.contents) (take_none wrote.count) wrote.gained };
}
lines_stop a b (line ∷ []) more e few wrote = line_stops a b line more e wrote
lines_stop a b (line ∷ next ∷ lines) more e few wrote = absurd (omega (arith, few))

pub memory_stops : (a : output.Tells) (rest : List Act) → Stops sink.Memory [] rest a a
memory_stops a rest = record { mid = a; put = gains_none a; begun = begins_none a (next_line rest) }

-- Acts that were broken off before anything was handed on.
pub breaks_first : (a b : Around) (acts : List Bool → List Act) (e : SinkError) →
    Stops e [] (acts []) a.output b.output → b.faults ≡ a.faults →
    b.sends ≡ a.sends → b.told ≡ a.told → Breaks acts e a b
breaks_first a b acts e stopped faults sendings told = record {
  failed = [];
  done = [];
  rest = acts [];
  are = refl;
  few = omega arith;
  stopped = stopped;
  faults = faults;
  sendings = sendings;
  told = subst (Tells (WentOn [] [] []) a.told) (sym told) (tells_same (WentOn [] [] []) a.told asked_nothing);
}

-- The whole is acts that were done, then a part, and then perhaps more acts.
pub record Follows (front : List Act) (f : List Bool) (part whole : List Bool → List Act) : Type 0 where
  pub more : (g : List Bool) → List Act
  pub are : (g : List Bool) → length g ≤ length (sends_in (part g)) → whole (f ++ g) ≡ front ++ (part g ++ more g)

fits : (part : List Bool → List Act) (e : SinkError) (b c : Around) (q : Breaks part e b c) →
    length q.failed ≤ length (sends_in (part q.failed))
fits part e b c q =
    let n = ap (λ acts. length (sends_in acts)) q.are in
    let m = ap length (sends_append q.done q.rest) in
    let l = length-append (sends_in q.done) (sends_in q.rest) in
    let k = q.few in omega (arith, n, m, l, k)

-- Acts that were done, and then acts that were broken off.
pub breaks_then : (a b c : Around) (xs : List Act) (part whole : List Bool → List Act) (f : List Bool) (e : SinkError) →
    Passes xs f a b → Breaks part e b c → Follows xs f part whole → Breaks whole e a c
breaks_then a b c xs part whole f e p q follow =
    let handed = sends_append xs q.done in record {
      failed = f ++ q.failed;
      done = xs ++ q.done;
      rest = q.rest ++ follow.more q.failed;
      are = follow.are q.failed (fits part e b c q) ∙ ap (λ acts. xs ++ (acts ++ follow.more q.failed)) q.are
          ∙ ap (λ acts. xs ++ acts) (append_assoc q.done q.rest (follow.more q.failed))
          ∙ sym (append_assoc xs q.done (q.rest ++ follow.more q.failed));
      few = (let m = length-append f q.failed in let l = ap length handed ∙
          length-append (sends_in xs) (sends_in q.done) in
          let x = p.each in let y = q.few in omega (arith, m, l, x, y));
      stopped = stops_longer a.output c.output (xs ++ q.done) q.rest (follow.more q.failed) e
          (stops_then a.output b.output c.output xs q.done q.rest e p.gained q.stopped);
      faults = q.faults ∙ p.faults;
      sendings = q.sendings ∙ ap (λ n. count_on n (failures_in q.failed)) p.sendings
          ∙ sym (count_on_add a.sends (failures_in f) (failures_in q.failed)) ∙
          ap (count_on a.sends) (sym (failures_append f q.failed));
      told = tells_then a.told b.told c.told p.told q.told (λ n n' n'' s t. record {
        listened = t.listened ∙ ap (λ x. x ++ []) (takes_some (sends_in xs) f n n' s).listened ∙
            append-nil (n.listened ++ []);
        some = record {
          handed = t.some.handed ∙
              ap (λ x. x ++ map sent_as (sends_in q.done)) (takes_some (sends_in xs) f n n' s).some.handed
              ∙ append_assoc n.handed (map sent_as (sends_in xs)) (map sent_as (sends_in q.done))
              ∙ ap (λ x. n.handed ++ x)
              (sym (map-append sent_as (sends_in xs) (sends_in q.done)) ∙ ap (map sent_as) (sym handed));
          met = t.some.met ∙ ap (λ x. x ++ []) (takes_some (sends_in xs) f n n' s).some.met ∙ append-nil (n.met ++ []);
        };
      });
    }

-- Acts that were broken off, with more after.
pub breaks_longer : (a b : Around) (part more whole : List Bool → List Act) (e : SinkError) →
    ((g : List Bool) → whole g ≡ part g ++ more g) →
    Breaks part e a b → Breaks whole e a b
breaks_longer a b part more whole e is q = breaks_then a a b [] part whole [] e (passes_none a) q record
    { more = more; are = λ g few. is g }

-- Acts that begin with at most one line, which was cut short.
pub lines_break : (a b : Around) (lines : List (List ℕ)) (more : List Act) (acts : List Bool → List Act)
    (e : SinkError) → length lines ≤ 1 →
    acts [] ≡ map puts lines ++ more → Wrote lines a.output b.output (Err e) → b.faults ≡ a.faults → b.sends ≡ a.sends →
    b.told ≡ a.told →
    Breaks acts e a b
lines_break a b lines more acts e few is wrote faults sendings told = breaks_first a b acts e
    (subst (λ acts. Stops e [] acts a.output b.output) (sym is) (lines_stop a.output b.output lines more e few wrote))
    faults sendings told

-- At most one line, and whatever came of it.
pub lines_handled : (a b : Around) (lines : List (List ℕ)) (r : Result (Unit {0}) SinkError) → length lines ≤ 1 →
    Wrote lines a.output b.output r → b.faults ≡ a.faults → b.sends ≡ a.sends → b.told ≡ a.told →
    Handles (λ g. map puts lines) a b r
lines_handled a b lines (Ok done) few wrote faults sendings told =
    record { failed = []; passed = passes_lines a b lines wrote faults sendings told }
lines_handled a b lines (Err e) few wrote faults sendings told =
    lines_break a b lines [] (λ g. map puts lines) e few (sym (append-nil (map puts lines))) wrote faults sendings told

-- Acts that were done, and whatever came of those after.
pub handles_then : (a b c : Around) (xs : List Act) (part whole : List Bool → List Act) (f : List Bool)
    (r : Result (Unit {0}) SinkError) →
    Passes xs f a b → Handles part b c r →
    ((g : List Bool) → length g ≤ length (sends_in (part g)) → whole (f ++ g) ≡ xs ++ part g) →
    Handles whole a c r
handles_then a b c xs part whole f (Ok done) p h is = record {
  failed = f ++ h.failed;
  passed = passes_then a b c xs (part h.failed) (whole (f ++ h.failed)) f h.failed p h.passed
      (is h.failed (let each = h.passed.each in omega (arith, each)));
}
handles_then a b c xs part whole f (Err e) p h is = breaks_then a b c xs part whole f e p h record {
  more = λ g. [];
  are = λ g few. is g few ∙ ap (λ acts. xs ++ acts) (sym (append-nil (part g)));
}
