-- What a sink gained in turns.
use Rattle.std.proofs.Common.{◌≡◌, ℕ, ◌+◌, ◌<◌, List, [], ◌∷◌, ◌++◌, length, take, drop, get_or, refl, sym, ap, subst}
use Rattle.std.proofs.Common.{◌∙◌, append_assoc, append-nil, length-append, arith, Option, Some, None, ⊎_elim}
use Rattle.std.proofs.lemmas.List.{take_more, take_all, take-append-le, take-append-drop, drop-drop}
use Rattle.std.proofs.lemmas.List.Folds.{concat-append}
use Rattle.std.proofs.lemmas.Bool.{cases_lt}
use Rattle.std.proofs.Math.Seq.{take-append-add, take-append_seam}
use Rattle.std.specs.List.{concat}
use Rattle.std.specs.Option.{option_map}
use Rattle.std.specs.Io.KnownBytes.{Appends}
use Rattle.outside.proofs.Appended.{appends_none, appends_then}
use Rattle.outside.proofs.Counts.{rose_next}
use Rattle.outside.specs.Count.{Rose, next_count}
use Rattle.outside.specs.Sink.{Meets, AppendsPrefix, Puts, faults_after_put}
use Rattle.std.specs.Prelude.{Result, Ok, Err}
use Rattle.outside.specs.declared.sink.SinkError.{SinkError}
use Rattle.outside.specs.declared.sink.SinkError.TheVariants as sink
use Rattle.outside.specs.Tells.{Tells}
use Rattle.outside.specs.Lines.{Begins, Gains, Fails, Wrote}

pub begins_none : (a : Tells) (bytes : List ℕ) → Begins a a bytes
begins_none a bytes = record { count = 0; gained = appends_none a.contents }

drops_none : {A : Type 0} (o : Option (List A)) → o ≡ option_map (drop 0) o
drops_none None = refl
drops_none (Some xs) = refl

pub gains_none : (a : Tells) → Gains a a []
gains_none a = record { gained = appends_none a.contents; puts = drops_none a.failures; sound = refl }

-- what is left of a list after some, and then after some more
drops_then : {A : Type 0} (m n : ℕ) (o : Option (List A)) → option_map (drop n) (option_map (drop m) o) ≡
    option_map (drop (m + n)) o
drops_then m n None = refl
drops_then m n (Some xs) = ap Some (drop-drop n m xs)

drops_as : {A : Type 0} (m n : ℕ) (o : Option (List A)) → m ≡ n → option_map (drop m) o ≡ option_map (drop n) o
drops_as m n o is = ap (λ k. option_map (drop k) o) is

-- one line that was put whole
pub line_gains : (a b : Tells) (line : List ℕ) → Appends a.contents b.contents line →
    b.failures ≡ option_map (drop 1) a.failures →
    b.faults ≡ a.faults → Gains a b (line ∷ [])
line_gains a b line gained puts sound = record {
  gained = subst (Appends a.contents b.contents) (sym (append-nil line)) gained;
  puts = puts;
  sound = sound;
}

-- one line whose put failed
pub line_fails : (a b : Tells) (line : List ℕ) (part : ℕ) → Appends a.contents b.contents (take part line) →
    Meets a.failures (Some part) →
    b.failures ≡ option_map (drop 1) a.failures → b.faults ≡ next_count a.faults → Fails a b (line ∷ [])
line_fails a b line part gained met puts rose = record {
  front = [];
  line = line;
  following = [];
  are = refl;
  part = part;
  gained = gained;
  met = subst (λ o. Meets o (Some part)) (drops_none a.failures) met;
  puts = puts;
  rose = subst (Rose a.faults) (sym rose) (rose_next a.faults);
}

-- one line in whose put memory ran out
pub line_begins : (a b : Tells) (line : List ℕ) → AppendsPrefix a.contents b.contents line →
    Begins a b (concat (line ∷ []))
line_begins a b line begun = record {
  count = begun.0;
  gained = subst (λ bytes. Appends a.contents b.contents (take begun.0 bytes)) (sym (append-nil line)) begun.1;
}

-- what one put does to a line
pub one_put : (a b : Tells) (line : List ℕ) (r : Result (Unit {0}) SinkError) →
    Puts a.failures a.contents b.contents line r →
    b.failures ≡ option_map (drop 1) a.failures → b.faults ≡ faults_after_put a.faults r → Wrote (line ∷ []) a b r
one_put a b line (Ok done) put kept counted = line_gains a b line put.0 kept counted
one_put a b line (Err sink.Failed) put kept counted = line_fails a b line put.0 put.1 put.2 kept counted
one_put a b line (Err sink.Memory) put kept counted = line_begins a b line (put.0, put.1)

-- what was written where a put failed or memory ran out, and what was left
pub fails_part : (a b : Tells) (lines : List (List ℕ)) → Fails a b lines →
    (part : List ℕ) × (rest : List ℕ) × Appends a.contents b.contents part × (concat lines ≡ part ++ rest)
fails_part a b lines f = (
  concat f.front ++ take f.part f.line,
  drop f.part f.line ++ concat f.following,
  f.gained,
  ap concat f.are ∙ concat-append f.front (f.line ∷ f.following) ∙
      ap (λ l. concat f.front ++ (l ++ concat f.following)) (sym (take-append-drop f.part f.line)) ∙
      ap (λ l. concat f.front ++ l) (append_assoc (take f.part f.line) (drop f.part f.line) (concat f.following)) ∙
      sym (append_assoc (concat f.front) (take f.part f.line) (drop f.part f.line ++ concat f.following)),
)

pub begins_part : (a b : Tells) (bytes : List ℕ) → Begins a b bytes →
    (part : List ℕ) × (rest : List ℕ) × Appends a.contents b.contents part × (bytes ≡ part ++ rest)
begins_part a b bytes k = (take k.count bytes, drop k.count bytes, k.gained, sym (take-append-drop k.count bytes))

pub begins_after : (a b c : Tells) (xs ys zs : List ℕ) → Appends a.contents b.contents xs → Begins b c ys →
    zs ≡ xs ++ ys → Begins a c zs
begins_after a b c xs ys zs h k is = record {
  count = length xs + k.count;
  gained = subst (Appends a.contents c.contents)
      (sym (ap (take (length xs + k.count)) is ∙ take-append-add xs ys k.count))
      (appends_then a.contents b.contents c.contents xs (take k.count ys) h k.gained);
}

-- the first elements of a list are the first elements of a longer one that begins with it
front : (ys more : List ℕ) (n : ℕ) → (m : ℕ) × (take m (ys ++ more) ≡ take n ys)
front ys more n = ⊎_elim
    (λ lt. (n, take-append-le n ys more (omega (arith, lt))))
    (λ le. (length ys, take-append_seam ys more ∙ sym (take_all n ys le)))
    (cases_lt n (length ys))

pub begins_longer : (a c : Tells) (ys zs more : List ℕ) → Begins a c ys → zs ≡ ys ++ more → Begins a c zs
begins_longer a c ys zs more k is =
    let f = front ys more k.count in
    record { count = f.0; gained = subst (Appends a.contents c.contents) (sym (ap (take f.0) is ∙ f.1)) k.gained }

pub gains_then : (a b c : Tells) (xs ys zs : List (List ℕ)) → Gains a b xs → Gains b c ys → zs ≡ xs ++ ys → Gains a c zs
gains_then a b c xs ys zs h k is = record {
  gained = subst (Appends a.contents c.contents) (sym (ap concat is ∙ concat-append xs ys))
      (appends_then a.contents b.contents c.contents (concat xs) (concat ys) h.gained k.gained);
  puts = k.puts ∙ ap (option_map (drop (length ys))) h.puts ∙ drops_then (length xs) (length ys) a.failures ∙
      drops_as _ _ a.failures (sym (ap length is ∙ length-append xs ys));
  sound = k.sound ∙ h.sound;
}

pub fails_after : (a b c : Tells) (xs ys zs more : List (List ℕ)) → Gains a b xs → Fails b c ys →
    zs ≡ xs ++ ys ++ more → Fails a c zs
fails_after a b c xs ys zs more h k is = record {
  front = xs ++ k.front;
  line = k.line;
  following = k.following ++ more;
  are = is ∙ ap (λ l. xs ++ l ++ more) k.are ∙
      ap (λ l. l ++ more) (sym (append_assoc xs k.front (k.line ∷ k.following))) ∙
      append_assoc (xs ++ k.front) (k.line ∷ k.following) more;
  part = k.part;
  gained = subst (Appends a.contents c.contents)
      (sym (ap (λ l. l ++ take k.part k.line) (concat-append xs k.front) ∙
      append_assoc (concat xs) (concat k.front) (take k.part k.line)))
      (appends_then a.contents b.contents c.contents (concat xs) (concat k.front ++ take k.part k.line) h.gained
      k.gained);
  met = subst (λ o. Meets o (Some k.part))
      (ap (option_map (drop (length k.front))) h.puts ∙ drops_then (length xs) (length k.front) a.failures ∙
      drops_as _ _ a.failures (sym (length-append xs k.front)))
      k.met;
  puts = k.puts ∙ ap (option_map (drop (length k.front + 1))) h.puts ∙
      drops_then (length xs) (length k.front + 1) a.failures ∙
      drops_as _ _ a.failures (omega (arith, length-append xs k.front));
  rose = subst (λ n. Rose n c.faults) h.sound k.rose;
}

-- a part that was cut short cuts the whole short
pub cut_short : (a b c : Tells) (xs ys zs more : List (List ℕ)) (e : SinkError) →
    Gains a b xs → Wrote ys b c (Err e) → zs ≡ xs ++ ys ++ more → Wrote zs a c (Err e)
cut_short a b c xs ys zs more sink.Failed h k is = fails_after a b c xs ys zs more h k is
cut_short a b c xs ys zs more sink.Memory h k is =
    begins_longer a c (concat xs ++ concat ys) (concat zs) (concat more)
    (begins_after a b c (concat xs) (concat ys) (concat xs ++ concat ys) h.gained k refl)
    (ap concat is ∙ concat-append (xs ++ ys) more ∙ ap (λ l. l ++ concat more) (concat-append xs ys))

-- the lines up to and with one
pub lines_more : (lines : List (List ℕ)) (i : ℕ) (line : List ℕ) → i < length lines → line ≡ get_or lines i line →
    take (i + 1) lines ≡ take i lines ++ line ∷ []
lines_more lines i line lt is = take_more lines i line lt ∙ ap (λ l. take i lines ++ l ∷ []) (sym is)

-- the lines up to and with one, and those after
pub lines_whole : (lines : List (List ℕ)) (i : ℕ) (line : List ℕ) → i < length lines → line ≡ get_or lines i line →
    lines ≡ take i lines ++ (line ∷ []) ++ drop (i + 1) lines
lines_whole lines i line lt is =
    sym (take-append-drop (i + 1) lines) ∙ ap (λ l. l ++ drop (i + 1) lines) (lines_more lines i line lt is)
