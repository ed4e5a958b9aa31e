-- The layers of a file and of its library, by their texts.
use Rattle.std.proofs.Common.{◌≡◌, ℕ, Bool, true, false, List, [], ◌∷◌, map, Option, Some, None, bytes_eq, refl, arith}
use Rattle.std.specs.Prelude.{if◌then◌else◌, filter_map}
use Rattle.std.specs.List.{AllByRecursion, AllZip, cons_option, list_all}
use Rattle.std.specs.Map.{lookup}
use Rattle.std.proofs.lemmas.Bool.{and_parts}
use Rattle.std.specs.Option.{option_map_or}
use Rattle.layer_ast.specs.declared.tokens.Token.{Token}
use Rattle.layer_ast.specs.Cut.{text_tokens, piece}
use Rattle.layer_ast.specs.Depth.{room_after, IsWithin, WithRoom}
use Rattle.layer_ast.specs.Print as print
use Rattle.layer_words.specs.Spelling.{reserved, kinds, symbols}
use Rattle.layer_ast.specs.Cut.{word_token, symbol_at}
use Rattle.layer_ast.specs.Tree.{LayerTree, FileTree}
use Rattle.file_library.specs.Reliable.{bottom, mnak, pt2pt}
use Rattle.file_library.specs.Flow.{pt2ptw, mflow, frag}
use Rattle.file_library.specs.Order.{collect, stable, local, total}
use Rattle.file_library.specs.Membership.{suspect, elect, sync, intra, top}
use Rattle.file_library.specs.Library.{library, library_text}
use Rattle.pack_laws.proofs.Readers.{some_same}
use Rattle.file_mean.specs.Library.{SpellsLayer, called_for, IsFile}
use Rattle.pack_round_laws.proofs.Walked.{WalkedLayer, text_walked, layer_walk, layers_walk}

-- whether there is room for the brackets of these tokens
abbrev is_shallow : ℕ → List Token → Bool
is_shallow room [] = true
is_shallow room (t ∷ tokens) = option_map_or (λ left. is_shallow left tokens) (room_after t room) false

shallow_within : (tokens : List Token) (room : ℕ) → is_shallow room tokens ≡ true → IsWithin room tokens
shallow_within [] room h = tt
shallow_within (t ∷ tokens) room h = go (room_after t room) (λ left k. shallow_within tokens left k) h where
  go : (o : Option ℕ) → ((left : ℕ) → is_shallow left tokens ≡ true → IsWithin left tokens) →
      option_map_or (λ left. is_shallow left tokens) o false ≡ true →
      WithRoom o (λ left. IsWithin left tokens)
  go None so k = absurd (cc k)
  go (Some left) so k = so left k

abbrev text_shallow : List ℕ → Bool
text_shallow text = is_shallow 100 (map (λ l. l.token) (text_tokens text).tokens)

bottom_shallow : text_shallow bottom ≡ true
unfolding bottom piece reserved kinds symbols word_token symbol_at
bottom_shallow = refl

mnak_shallow : text_shallow mnak ≡ true
unfolding mnak piece reserved kinds symbols word_token symbol_at
mnak_shallow = refl

pt2pt_shallow : text_shallow pt2pt ≡ true
unfolding pt2pt piece reserved kinds symbols word_token symbol_at
pt2pt_shallow = refl

pt2ptw_shallow : text_shallow pt2ptw ≡ true
unfolding pt2ptw piece reserved kinds symbols word_token symbol_at
pt2ptw_shallow = refl

mflow_shallow : text_shallow mflow ≡ true
unfolding mflow piece reserved kinds symbols word_token symbol_at
mflow_shallow = refl

frag_shallow : text_shallow frag ≡ true
unfolding frag piece reserved kinds symbols word_token symbol_at
frag_shallow = refl

collect_shallow : text_shallow collect ≡ true
unfolding collect piece reserved kinds symbols word_token symbol_at
collect_shallow = refl

stable_shallow : text_shallow stable ≡ true
unfolding stable piece reserved kinds symbols word_token symbol_at
stable_shallow = refl

local_shallow : text_shallow local ≡ true
unfolding local piece reserved kinds symbols word_token symbol_at
local_shallow = refl

total_shallow : text_shallow total ≡ true
unfolding total piece reserved kinds symbols word_token symbol_at
total_shallow = refl

suspect_shallow : text_shallow suspect ≡ true
unfolding suspect piece reserved kinds symbols word_token symbol_at
suspect_shallow = refl

elect_shallow : text_shallow elect ≡ true
unfolding elect piece reserved kinds symbols word_token symbol_at
elect_shallow = refl

sync_shallow : text_shallow sync ≡ true
unfolding sync piece reserved kinds symbols word_token symbol_at
sync_shallow = refl

intra_shallow : text_shallow intra ≡ true
unfolding intra piece reserved kinds symbols word_token symbol_at
intra_shallow = refl

top_shallow : text_shallow top ≡ true
unfolding top piece reserved kinds symbols word_token symbol_at
top_shallow = refl

library_shallow : list_all (λ (entry : List ℕ × List ℕ). text_shallow entry.1) library ≡ true
unfolding library
library_shallow = rw (
  bottom_shallow,
  mnak_shallow,
  pt2pt_shallow,
  pt2ptw_shallow,
  mflow_shallow,
  frag_shallow,
  collect_shallow,
  stable_shallow,
  local_shallow,
  total_shallow,
  suspect_shallow,
  elect_shallow,
  sync_shallow,
  intra_shallow,
  top_shallow,
) refl

looked_up : (table : List (List ℕ × List ℕ)) (word text : List ℕ) →
    list_all (λ (entry : List ℕ × List ℕ). text_shallow entry.1) table ≡ true →
    lookup (bytes_eq word) table ≡ Some text → text_shallow text ≡ true
looked_up [] word text all is = absurd (cc is)
looked_up (entry ∷ table) word text all is =
    let parts = and_parts (text_shallow entry.1) (list_all (λ (entry : List ℕ × List ℕ). text_shallow entry.1) table)
    all in
    go (bytes_eq word entry.0) parts.0 (looked_up table word text parts.1) is where
      go : (b : Bool) → text_shallow entry.1 ≡ true →
          (lookup (bytes_eq word) table ≡ Some text → text_shallow text ≡ true) →
          (if b then Some entry.1 else lookup (bytes_eq word) table) ≡ Some text → text_shallow text ≡ true
      go true here later k = some_same (λ t. text_shallow t ≡ true) k here
      go false here later k = later k

called_shallow : (words : List (List ℕ)) →
    AllByRecursion (λ text. text_shallow text ≡ true) (filter_map library_text words)
called_shallow [] = tt
called_shallow (word ∷ words) = go (library_text word) (λ text is. looked_up library word text library_shallow is)
    (called_shallow words) where
      go : (o : Option (List ℕ)) → ((text : List ℕ) → o ≡ Some text → text_shallow text ≡ true) →
          AllByRecursion (λ text. text_shallow text ≡ true) (filter_map library_text words) →
          AllByRecursion (λ text. text_shallow text ≡ true) (cons_option o (filter_map library_text words))
      go None so rest = rest
      go (Some text) so rest = (so text refl, rest)

library_walked : (texts : List (List ℕ)) (ls : List LayerTree) →
    AllByRecursion (λ text. text_shallow text ≡ true) texts → AllZip SpellsLayer texts ls →
    AllByRecursion WalkedLayer ls
library_walked [] [] shallow h = tt
library_walked [] (l ∷ ls) shallow h = absurd h
library_walked (text ∷ texts) [] shallow h = absurd h
library_walked (text ∷ texts) (l ∷ ls) shallow h = (
  (layer_walk l 98 (omega arith) [] (text_walked 100 (print.layer l []) text h.0.fits
      (shallow_within (map (λ l. l.token) (text_tokens text).tokens) 100 shallow.0))).0,
  library_walked texts ls shallow.1 h.1,
)

pub record WalkedFile (file : FileTree) : Type 0 where
  pub layers_are : AllByRecursion WalkedLayer file.layers
  pub library_is : AllByRecursion WalkedLayer file.library

pub file_walked : (text : List ℕ) (file : FileTree) → IsFile text file → WalkedFile file
file_walked text file is = record {
  layers_are = layers_walk file.layers 98 (omega arith) _
      (text_walked 100 (print.file file) text is.spelled.fits is.spelled.within);
  library_is = library_walked (called_for file) file.library (called_shallow _) is.library;
}
