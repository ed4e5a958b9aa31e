-- What a run of the machine over the tokens of a text says of the text.
use Rattle.std.proofs.Common.{◌≡◌, ℕ, zero, suc, ◌+◌, ◌<◌, List, [], ◌∷◌, ◌++◌, length, take, drop, slice_get, Option}
use Rattle.std.proofs.Common.{Some, None, true, refl, sym, ap, subst, ◌∙◌, arith, append_assoc, append-nil}
use Rattle.std.proofs.lemmas.List.{take-append-drop, take-take}
use Rattle.layer_words.specs.declared.places.At.{At}
use Rattle.layer_ast.specs.declared.tokens.Lexed.{Lexed}
use Rattle.layer_ast.specs.declared.tokens.Token.{Token}
use Rattle.layer_ast.specs.Cut.{text_tokens}
use Rattle.layer_ast.specs.Depth.{room_after, WithRoom, IsWithin}
use Rattle.layer_ast.specs.Print as print
use Rattle.layer_ast.specs.Printed.{Printed}
use Rattle.layer_ast.specs.Spells.{Fits, HasPlace, Spells}
use Rattle.layer_ast.specs.Stops.{MayGoOn, tokens_of, end_of, StopsBad, StopsInside, StopsAtEnd}
use Rattle.layer_ast.specs.Tree.{FileTree}
use Rattle.grammar_laws.specs.Machine.{start, Outcome, accepted, refused, run}
use Rattle.grammar_laws.specs.Verdict.{Verdict, a_file, bad, inside, at_end, Holds, SpellsSome, EachDecided}
use Rattle.grammar_laws.proofs.Complete.{toks, accepts, file_drives}
use Rattle.grammar_laws.proofs.Phrases.{Phrases}
use Rattle.grammar_laws.proofs.Runs.{Goes, tokens_fit, accepted_takes, goes_within, goes_if, whole_of, begun_by}
use Rattle.grammar_laws.proofs.Runs.{stops_with}

-- the printed tokens of the stack at the start of a file are those of a file with a place
pub record PrintsFile (printed : List Printed) : Type 0 where
  pub file : FileTree
  pub placed : HasPlace file
  pub is : printed ≡ print.file file

file_phrases : (p : List Printed) → Phrases start p → PrintsFile p
file_phrases p (k1, (ls, e1), (k2, e2, (k3, e3, (k4, (first, e4), (k5, (rest, e5), (k6, e6, e7)))))) = record {
  file = record { layers = ls; places = first ∷ rest; library = [] };
  placed = λ none. cc;
  is = rw (e1, e2, e3, e4, e5, e6, e7);
}

-- tokens after which the machine goes on may go on to a file
goes_on : (tokens : List Token) → Goes 100 start tokens → MayGoOn tokens
goes_on tokens goes =
    let (p, phrases, rest, same) = begun_by tokens 100 start goes in
    let prints = file_phrases p phrases in
    record {
      begins = record {
        whole = prints.file;
        placed = prints.placed;
        rest = rest;
        begins = ap toks (sym prints.is) ∙ same;
      };
      within = goes_within tokens 100 start goes;
    }

-- and the other way round
goes_where : (tokens : List Token) → MayGoOn tokens → Goes 100 start tokens
goes_where tokens may =
    goes_if tokens may.begins.rest 100 start
    (ap (accepts start) (sym may.begins.begins) ∙ file_drives may.begins.whole may.begins.placed) may.within

module _ (text : List ℕ) where
  -- a text that the machine takes to the end, without a bad token, spells a file
  accepted_spells : (text_tokens text).bad_at ≡ None → run 100 start (text_tokens text).tokens ≡ accepted →
      SpellsSome text
  accepted_spells good is =
      let takes = accepted_takes (text_tokens text).tokens 100 start is in
      let (p, phrases, fits) = whole_of (text_tokens text).tokens start takes.0 in
      let prints = file_phrases p phrases in
      record {
        file = prints.file;
        spelled = record {
          good = good;
          fits = subst (λ printed. Fits printed (text_tokens text).tokens) prints.is fits;
          within = goes_within (tokens_of text) 100 start takes.1;
          placed = prints.placed;
        };
      }

  -- a bad token after tokens that the machine takes, or after which it goes on
  pub accepted_bad : (at : At) → (text_tokens text).bad_at ≡ Some at → run 100 start (text_tokens text).tokens ≡
      accepted →
      StopsBad text at
  accepted_bad at is takes = record {
    bad = is;
    before = goes_on (tokens_of text) (accepted_takes (text_tokens text).tokens 100 start takes).1;
  }

  pub refused_bad : (at : At) → (text_tokens text).bad_at ≡ Some at → run 100 start (text_tokens text).tokens ≡
      refused 0 →
      StopsBad text at
  refused_bad at is stops = record {
    bad = is;
    before = goes_on (tokens_of text) (stops_with (text_tokens text).tokens 100 start 0 stops).goes;
  }

  -- a text that a file spells is accepted
  spells_accepted : (f : FileTree) → Spells text f → accepts start (tokens_of text) ≡ true
  spells_accepted f spells =
      ap (accepts start) (tokens_fit (print.file f) (text_tokens text).tokens spells.fits) ∙ file_drives f spells.placed

  -- the text ends too early
  pub refused_end : (text_tokens text).bad_at ≡ None → run 100 start (text_tokens text).tokens ≡ refused 0 →
      StopsAtEnd text (end_of text)
  refused_end good stops =
      let h = stops_with (text_tokens text).tokens 100 start 0 stops in
      record {
        good = good;
        before = goes_on (tokens_of text) h.goes;
        none = λ f spells. let takes = spells_accepted f spells in let short = h.short in cc;
        place = refl;
      }

  -- a token is refused
  pub refused_inside : (left : ℕ) (number : ℕ) (token : Lexed) → run 100 start (text_tokens text).tokens ≡
      refused (suc left) →
      number + suc left ≡ length (text_tokens text).tokens → slice_get (text_tokens text).tokens number ≡ Some token →
      StopsInside text token.at
  refused_inside left number token stops count is =
      let h = stops_with (text_tokens text).tokens 100 start (suc left) stops in
      let same : h.number ≡ number = omega (arith, h.count, count) in
      let one_more : number + 1 ≡ suc h.number = omega (arith, same) in
      record {
        number = number;
        token = token;
        is = is;
        place = refl;
        before = goes_on (take number (tokens_of text))
            (subst (λ n. Goes 100 start (take n (tokens_of text))) same h.goes);
        following = λ may. h.stuck (subst (λ n. Goes 100 start (take n (tokens_of text))) one_more (goes_where _ may));
      }

  -- what the machine makes of the tokens, and whether there is a bad one, decide
  decide : (b : Option At) → (text_tokens text).bad_at ≡ b → (o : Outcome) → run 100 start (text_tokens text).tokens ≡
      o →
      (v : Verdict) × Holds text v
  decide None good accepted is = (a_file, accepted_spells good is)
  decide (Some at) good accepted is = (bad at, accepted_bad at good is)
  decide None good (refused zero) is = (at_end (end_of text), refused_end good is)
  decide (Some at) good (refused zero) is = (bad at, refused_bad at good is)
  decide b good (refused (suc left)) is =
      let h = stops_with (text_tokens text).tokens 100 start (suc left) is in
      (inside h.token.at, refused_inside left h.number h.token is h.count h.is)

-- the front of tokens is nowhere deeper than they are
less_after : (following : Option ℕ) (front whole : List Token) →
    ((room : ℕ) → IsWithin room whole → IsWithin room front) → WithRoom following (λ left. IsWithin left whole) →
    WithRoom following (λ left. IsWithin left front)
less_after None front whole less h = h
less_after (Some left) front whole less h = less left h

within_less : (front rest : List Token) (room : ℕ) → IsWithin room (front ++ rest) → IsWithin room front
within_less [] rest room h = tt
within_less (t ∷ front) rest room h =
    less_after (room_after t room) front (front ++ rest) (λ left. within_less front rest left) h

-- the front of tokens that may go on to a file may
front_may : (tokens : List Token) (n : ℕ) → MayGoOn tokens → MayGoOn (take n tokens)
front_may tokens n may =
    let parts = take-append-drop n tokens in
    record {
      begins = record {
        whole = may.begins.whole;
        placed = may.begins.placed;
        rest = drop n tokens ++ may.begins.rest;
        begins = may.begins.begins
            ∙ (ap (λ front. front ++ may.begins.rest) (sym parts)
            ∙ append_assoc (take n tokens) (drop n tokens) may.begins.rest);
      };
      within = within_less (take n tokens) (drop n tokens) 100 (subst (IsWithin 100) (sym parts) may.within);
    }

-- two numbers of which neither is below the other are equal
antisym : (a b : ℕ) → (a < b → ⊥) → (b < a → ⊥) → a ≡ b
antisym a b f g = omega (arith, f, g)

module _ (text : List ℕ) where
  -- a text whose tokens may all go on to a file doesn't stop inside
  not_inside : (at : At) → MayGoOn (tokens_of text) → StopsInside text at → ⊥
  not_inside at may stops = stops.following (front_may (tokens_of text) (stops.number + 1) may)

  spelled_may : SpellsSome text → MayGoOn (tokens_of text)
  spelled_may is = record {
    begins = record {
      whole = is.file;
      placed = is.spelled.placed;
      rest = [];
      begins = sym (tokens_fit (print.file is.file) (text_tokens text).tokens is.spelled.fits) ∙
          sym (append-nil (tokens_of text));
    };
    within = is.spelled.within;
  }

  -- of two tokens that are each the first with which the tokens no longer go on, neither is before the other
  not_before : (a b : At) (h : StopsInside text a) (i : StopsInside text b) → h.number < i.number → ⊥
  not_before a b h i before =
      h.following (subst MayGoOn (take-take (h.number + 1) i.number (tokens_of text) (omega (arith, before)))
      (front_may (take i.number (tokens_of text)) (h.number + 1) i.before))

  inside_once : (a b : At) → StopsInside text a → StopsInside text b → a ≡ b
  inside_once a b h i =
      let same : h.number ≡ i.number =
      antisym h.number i.number (λ before. not_before a b h i before) (λ before. not_before b a i h before) in
      let found : Some h.token ≡ Some i.token = sym h.is ∙ (ap (slice_get (text_tokens text).tokens) same ∙ i.is) in
      let token : h.token ≡ i.token = cc in
      sym h.place ∙ (ap (λ l. l.at) token ∙ i.place)

  -- two verdicts that hold are one
  once : (v w : Verdict) → Holds text v → Holds text w → w ≡ v
  once a_file a_file h i = refl
  once a_file (bad at) h i = let good = h.spelled.good in let wrong = i.bad in absurd cc
  once a_file (inside at) h i = absurd (not_inside at (spelled_may h) i)
  once a_file (at_end at) h i = absurd (i.none h.file h.spelled)
  once (bad at) a_file h i = let good = i.spelled.good in let wrong = h.bad in absurd cc
  once (bad at) (bad other) h i = let one = h.bad in let two = i.bad in cc
  once (bad at) (inside other) h i = absurd (not_inside other h.before i)
  once (bad at) (at_end other) h i = let good = i.good in let wrong = h.bad in absurd cc
  once (inside at) a_file h i = absurd (not_inside at (spelled_may i) h)
  once (inside at) (bad other) h i = absurd (not_inside at i.before h)
  once (inside at) (inside other) h i = ap inside (inside_once other at i h)
  once (inside at) (at_end other) h i = absurd (not_inside at i.before h)
  once (at_end at) a_file h i = absurd (h.none i.file i.spelled)
  once (at_end at) (bad other) h i = let good = h.good in let wrong = i.bad in absurd cc
  once (at_end at) (inside other) h i = absurd (not_inside other h.before i)
  once (at_end at) (at_end other) h i = ap at_end (sym i.place ∙ h.place)

-- each text is decided
pub each_decided : EachDecided
each_decided text =
    let (v, holds) = decide text (text_tokens text).bad_at refl (run 100 start (text_tokens text).tokens) refl in
    record { verdict = v; holds = holds; only = λ other is. once text v other holds is }
