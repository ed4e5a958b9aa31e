-- What the reading of a whole text says of it.
use Rattle.std.proofs.Common.{◌≡◌, ℕ, zero, suc, ◌+◌, ◌-◌, ◌<◌, ◌≤◌, List, [], ◌∷◌, length, slice_get, get_or, Option}
use Rattle.std.proofs.Common.{Some, None, refl, sym, ap, subst, ◌∙◌, arith}
use Rattle.std.proofs.lemmas.Option.{slice_get_read}
use Rattle.file_mean.specs.Library.{SpellsLayer}
use Rattle.layer_words.specs.declared.places.At.{At}
use Rattle.layer_ast.specs.declared.tokens.Lexed.{Lexed}
use Rattle.layer_ast.specs.Cut.{text_tokens, Tokens}
use Rattle.layer_ast.specs.Depth.{room_after}
use Rattle.layer_ast.specs.Print as print
use Rattle.layer_ast.specs.Spells.{Fits, Spells}
use Rattle.layer_ast.specs.Stops.{end_of, StopsBad, StopsInside, StopsAtEnd}
use Rattle.layer_ast.specs.Tree.{LayerTree, FileTree}
use Rattle.grammar_laws.specs.Machine.{Symbol, a_layer, start, Outcome, accepted, refused, step, run}
use Rattle.grammar_laws.proofs.Runs.{tokens_in, accepted_takes, goes_within, stops_with}
use Rattle.grammar_laws.proofs.Texts.{accepted_bad, refused_bad, refused_end, refused_inside}
use Rattle.file_parse.specs.Library.{IsLayerText}
use Rattle.file_parse.specs.Reading.{Reads, ReadsFile}

no_stack : (room : Option ℕ) (n : ℕ) (go : ℕ → List Symbol → Outcome) → step room None n go ≡ refused n
no_stack None n go = refl
no_stack (Some room) n go = refl

-- where nothing more is expected and the machine accepts, nothing is left
nothing_left : (rest : List Lexed) (room : ℕ) → run room [] rest ≡ accepted → Fits [] rest
unfolding Fits
nothing_left [] room is = tt
nothing_left (t ∷ rest) room is =
    let stuck : refused (suc (length rest)) ≡ accepted = sym (no_stack (room_after t.token room) _ _) ∙ is in
    absurd (cc stuck)

-- what the lexer cut of a text
module _ (text : List ℕ) (tokens : List Lexed) (bad_at : Option At)
    (cuts : record { tokens = tokens; bad_at = bad_at } ≡ text_tokens text)
  where
    same_tokens : tokens ≡ (text_tokens text).tokens
    same_tokens = ap (λ (t : Tokens). t.tokens) cuts

    same_bad : bad_at ≡ (text_tokens text).bad_at
    same_bad = ap (λ (t : Tokens). t.bad_at) cuts

    -- a text that is one layer spells the layer that is read of it
    pub layer_spelled : (l : LayerTree) (rest : List Lexed) → IsLayerText text →
        Reads print.layer (a_layer ∷ []) 100 tokens l rest → SpellsLayer text l
    layer_spelled l rest is read =
        let ends : run 100 [] rest ≡ accepted =
        sym (read.goes_on []) ∙ (ap (run 100 (a_layer ∷ [])) same_tokens ∙ is.taken) in
        record {
          good = is.good;
          fits = subst (Fits (print.layer l [])) same_tokens (read.spelled [] (nothing_left rest 100 ends));
        }

    -- a text without a bad token spells the file that was read from it
    pub file_spelled : (f : FileTree) → bad_at ≡ None → ReadsFile tokens f → Spells text f
    file_spelled f good read = record {
      good = sym same_bad ∙ good;
      fits = subst (Fits (print.file f)) same_tokens read.fits;
      within = goes_within (tokens_in (text_tokens text).tokens) 100 start
          (accepted_takes (text_tokens text).tokens 100 start taken).1;
      placed = read.placed;
    }
      where
        taken : run 100 start (text_tokens text).tokens ≡ accepted
        taken = ap (run 100 start) (sym same_tokens) ∙ read.accepts

    -- after a whole file there is a bad token
    pub read_bad : (at : At) (f : FileTree) → bad_at ≡ Some at → ReadsFile tokens f → StopsBad text at
    read_bad at f bad read =
        accepted_bad text at (sym same_bad ∙ bad) (ap (run 100 start) (sym same_tokens) ∙ read.accepts)

    -- a file that is refused at its end stops at a bad token or there
    pub end_bad : (at : At) → bad_at ≡ Some at → run 100 start tokens ≡ refused 0 → StopsBad text at
    end_bad at bad stops = refused_bad text at (sym same_bad ∙ bad) (ap (run 100 start) (sym same_tokens) ∙ stops)

    pub end_early : bad_at ≡ None → run 100 start tokens ≡ refused 0 → StopsAtEnd text (end_of text)
    end_early good stops = refused_end text (sym same_bad ∙ good) (ap (run 100 start) (sym same_tokens) ∙ stops)

    -- one that is refused earlier stops at the token with which n are left
    pub inside_at : (left number : ℕ) (token : Lexed) → 0 < left → run 100 start tokens ≡ refused left →
        number + left ≡ length tokens → slice_get tokens number ≡ Some token → StopsInside text token.at
    inside_at zero number token some stops count is = absurd (omega (arith, some))
    inside_at (suc left) number token some stops count is =
        refused_inside text left number token (ap (run 100 start) (sym same_tokens) ∙ stops)
        (count ∙ ap length same_tokens) (ap (λ ts. slice_get ts number) (sym same_tokens) ∙ is)

-- no more tokens are left than there are
pub left_within : (tokens : List Lexed) (left : ℕ) → run 100 start tokens ≡ refused left → left ≤ length tokens
left_within tokens zero stops = omega arith
left_within tokens (suc left) stops =
    let h = stops_with tokens 100 start (suc left) stops in omega (arith, h.count)

-- where no more than no tokens are left, none are
pub nothing_more : (tokens : List Lexed) (left : ℕ) → left ≤ 0 → run 100 start tokens ≡ refused left →
    run 100 start tokens ≡ refused 0
nothing_more tokens left none is = let zero_left : left ≡ 0 = omega (arith, none) in is ∙ ap refused zero_left

-- the token with which n are left
module _ (text : List ℕ) (tokens : List Lexed) (bad_at : Option At)
    (cuts : record { tokens = tokens; bad_at = bad_at } ≡ text_tokens text)
  where
    pub inside_here : (left n : ℕ) (token : Lexed) → 0 < left → run 100 start tokens ≡ refused left →
        n ≡ length tokens →
        token ≡ get_or tokens (n - left) token → StopsInside text token.at
    inside_here left n token some stops count is =
        let within = left_within tokens left stops in
        inside_at text tokens bad_at cuts left (n - left) token some stops (omega (arith, within, count))
        (slice_get_read tokens n (n - left) token count (omega (arith, within, count, some)) is)
