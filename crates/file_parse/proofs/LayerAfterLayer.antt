-- Layer after layer, a file is read.
use Rattle.std.proofs.Common.{◌≡◌, ◌<◌, ℕ, nat_eq, true, length, arith, List, [], ◌∷◌, ◌++◌, map, Some, None, sym, ap}
use Rattle.std.proofs.Common.{subst, ◌∙◌, append_assoc, append-nil}
use Rattle.layer_ast.specs.declared.syntax.Layer.{Layer}
use Rattle.layer_ast.specs.declared.tokens.Lexed.{Lexed}
use Rattle.layer_ast.specs.Cut.{Tokens, text_tokens}
use Rattle.layer_ast.specs.Print as print
use Rattle.layer_ast.specs.Spells.{Fits, Spells}
use Rattle.layer_ast.specs.Tree.{LayerTree, PlaceTree}
use Rattle.layer_ast.specs.View.{layer_tree}
use Rattle.file_lex.specs.declared.Left.{Left}
use Rattle.file_lex.specs.Parts.{CutsPart}
use Rattle.file_lex.specs.Pieces.{with_front, left_of, HasRoom, IsAfter}
use Rattle.file_lex.proofs.Parting.{made_up}
use Rattle.grammar_laws.specs.Machine.{a_layer}
use Rattle.grammar_laws.proofs.Runs.{accepted_takes, goes_within}
use Rattle.grammar_laws.specs.After.{tokens_in, Stands}
use Rattle.grammar_laws.proofs.After.{layers_then}
use Rattle.file_parse.specs.Reading.{print_stack, last_part as stack_symbols, Reads, ReadsStack, IsLayer, IsStack}
use Rattle.file_parse.proofs.Ending.{nothing_fits, ends_here}
use Rattle.file_parse.proofs.Gathered.{layers-append}

-- these layers were read, and these tokens and what is left stand after theirs
pub record Apart (text : List ℕ) (all : List LayerTree) (tokens : List Lexed) (left : Left) : Type 0 where
  pub done : List Lexed
  pub stands : Stands 100 (print.layers all []) done
  pub same : with_front (done ++ tokens) (left_of left) ≡ text_tokens text
  pub room : HasRoom left

-- before the first
pub first_part : (text : List ℕ) (all : List LayerTree) (old tokens : List Lexed) (whole left : Left) → all ≡ [] →
    old ≡ [] →
    left_of whole ≡ text_tokens text → CutsPart old tokens (left_of whole) (Some (left_of left)) →
    IsAfter old tokens whole left →
    Apart text all tokens left
unfolding Fits
first_part text all old tokens whole left no_layers no_tokens is part following = record {
  done = [];
  stands = rw no_layers (record { fits = tt; within = tt });
  same = made_up old tokens (left_of whole) (left_of left) part ∙
      (ap (λ ts. with_front ts (left_of whole)) no_tokens ∙ is);
  room = following.room;
}

more_tokens : (a b : List Lexed) (t : Tokens) → with_front (a ++ b) t ≡ with_front a (with_front b t)
more_tokens a b t = ap (λ ts. record { tokens = ts; bad_at = t.bad_at }) (append_assoc a b t.tokens)

-- one more layer
pub next_part : (text : List ℕ) (all : List Layer) (l : Layer) (tokens old more : List Lexed) (left next : Left) →
    Apart text (map layer_tree all) tokens left → IsLayer tokens (layer_tree l) → old ≡ [] →
    CutsPart old more (left_of left) (Some (left_of next)) → IsAfter old more left next →
    Apart text (map layer_tree (all ++ l ∷ [])) more next
next_part text all l tokens old more left next so_far is none part following = record {
  done = so_far.done ++ tokens;
  stands =
      subst (λ printed. Stands 100 printed (so_far.done ++ tokens)) (sym (layers-append all l []))
      (layers_then tokens (map layer_tree all) 100 (print.layer (layer_tree l) []) so_far.done so_far.stands is.stands);
  same =
      more_tokens (so_far.done ++ tokens) more (left_of next)
      ∙ (ap (with_front (so_far.done ++ tokens))
      (made_up old more (left_of left) (left_of next) part ∙ ap (λ ts. with_front ts (left_of left)) none)
      ∙ so_far.same);
  room = following.room;
}

-- the stack at the end
pub last_part : (text : List ℕ) (all library : List LayerTree) (ps : List PlaceTree) (tokens : List Lexed)
    (left : Left) →
    Apart text all tokens left → IsStack tokens ps → left_of left ≡ record { tokens = []; bad_at = None } →
    Spells text record { layers = all; places = ps; library = library }
last_part text all library ps tokens left so_far is none =
    let whole : with_front (so_far.done ++ tokens) record { tokens = []; bad_at = None } ≡ text_tokens text =
    ap (with_front (so_far.done ++ tokens)) (sym none) ∙ so_far.same in
    let same : so_far.done ++ tokens ≡ (text_tokens text).tokens =
    sym (append-nil (so_far.done ++ tokens)) ∙ ap (λ (t : Tokens). t.tokens) whole in
    let stands =
    subst (Stands 100 (print.layers all (print_stack ps))) same
    (layers_then tokens all 100 (print_stack ps) so_far.done so_far.stands is.stands) in
    record {
      good = sym (ap (λ (t : Tokens). t.bad_at) whole);
      fits = stands.fits;
      within = stands.within;
      placed = is.some;
    }

-- what was read as a layer, with nothing after it, is one
pub layer_stands : (tokens rest : List Lexed) (l : LayerTree) → Reads print.layer (a_layer ∷ []) 100 tokens l rest →
    length rest < length tokens → nat_eq (length rest) 0 ≡ true → IsLayer tokens l
layer_stands tokens rest l read shorter is =
    let taken = accepted_takes tokens 100 (a_layer ∷ []) (read.goes_on [] ∙ ends_here rest 100 is) in
    record {
      stands = record {
        fits = read.spelled [] (nothing_fits rest is);
        within = goes_within (tokens_in tokens) 100 (a_layer ∷ []) taken.1;
      };
      some = omega (arith, shorter);
    }

-- what was read as the stack at the end of a file is that
pub stack_stands : (tokens : List Lexed) (ps : List PlaceTree) → ReadsStack tokens ps → IsStack tokens ps
stack_stands tokens ps read = record {
  stands = record {
    fits = read.fits;
    within = goes_within (tokens_in tokens) 100 stack_symbols (accepted_takes tokens 100 stack_symbols read.accepts).1;
  };
  some = read.some;
}
