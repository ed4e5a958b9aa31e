-- The words that begin a part are `layer` and `stack`, and no others.
use Rattle.std.proofs.Common.{◌≡◌, ℕ, Bool, true, false, cond, not, ◌&&◌, ◌||◌, List, [], ◌∷◌, drop, find, Option, Some}
use Rattle.std.proofs.Common.{None, refl, sym, ap, ◌∙◌, codes}
use Rattle.std.proofs.lemmas.Bool.Decides.{same_from_decides}
use Rattle.std.proofs.lemmas.Slice.Eq.{bytes_eq-Decides}
use Rattle.std.specs.List.{list_all}
use Rattle.std.specs.Option.{option_map, option_map_or}
use Rattle.std.specs.Str.{bytes_eq}
use Rattle.layer_words.specs.declared.events.Kind.{Kind}
use Rattle.layer_words.specs.declared.signs.Sign.{Sign}
use Rattle.layer_words.specs.declared.signs.Sign.TheVariants as sign
use Rattle.layer_ast.specs.declared.tokens.Token.{Token}
use Rattle.layer_ast.specs.declared.tokens.Token.TheVariants as token
use Rattle.layer_ast.specs.Cut.{word_token}
use Rattle.layer_words.specs.Spelling.{beside, reserved, kinds}
use Rattle.file_lex.specs.Parts.{begins_part}

-- what a word's token is, of what stands beside it in the two tables
abbrev token_of : List ℕ → Option Sign → Option Kind → Token
token_of word sign kind = option_map_or token.Sign sign (option_map_or token.Kind kind (token.Name word))

-- no entry of a table begins a part
abbrev begin_none : List (List ℕ × Sign) → Bool
begin_none table = list_all (λ entry. not (begins_part (token.Sign entry.1))) table

-- so what is found there begins none
found_none : (word : List ℕ) (table : List (List ℕ × Sign)) (kind : Option Kind) → begin_none table ≡ true →
    begins_part (token_of word (beside table word) kind) ≡ false
found_none word [] None none = refl
found_none word [] (Some kind) none = refl
found_none word (entry ∷ table) kind none =
    first_or_later (bytes_eq entry.0 word) (begins_part (token.Sign entry.1)) refl none (found_none word table kind)
  where
    first_or_later : (is_first begins : Bool) → begins_part (token.Sign entry.1) ≡ begins →
        (not begins && begin_none table) ≡ true →
        (begin_none table ≡ true → begins_part (token_of word (beside table word) kind) ≡ false) →
        begins_part (token_of word
        (option_map (λ entry. entry.1) (cond is_first (Some entry) (find (λ entry. bytes_eq entry.0 word) table))) kind)
        ≡ false
    first_or_later true false is all later = is
    first_or_later false false is all later = later all
    first_or_later is_first true is all later = cc

same_bytes : (a b : List ℕ) → bytes_eq a b ≡ bytes_eq b a
same_bytes a b =
    let there = bytes_eq-Decides a b in
    let back = bytes_eq-Decides b a in
    same_from_decides (bytes_eq a b) (bytes_eq b a) there (λ is. sym (back.0 is), λ same. back.1 (sym same))

-- a word that is compared to the two
pub part_word : (word : List ℕ) (is_layer is_stack : Bool) → is_layer ≡ bytes_eq word (codes "layer") →
    is_stack ≡ bytes_eq word (codes "stack") → (is_layer || is_stack) ≡ begins_part (word_token word)
unfolding word_token reserved
part_word word is_layer is_stack layer stack =
    ap (λ t. t || is_stack) (layer ∙ same_bytes word (codes "layer"))
    ∙ (ap (λ t. bytes_eq (codes "layer") word || t) (stack ∙ same_bytes word (codes "stack"))
    ∙ by_cases (bytes_eq (codes "layer") word) (bytes_eq (codes "stack") word) (beside kinds word))
  where
    by_cases : (l s : Bool) (kind : Option Kind) →
        (l || s)
        ≡ begins_part (token_of word
        (option_map (λ entry. entry.1)
        (cond l (Some (codes "layer", sign.Layer))
        (cond s (Some (codes "stack", sign.Stack)) (find (λ entry. bytes_eq entry.0 word) (drop 2 reserved)))))
        kind)
    by_cases true s kind = refl
    by_cases false true kind = refl
    by_cases false false kind = sym (found_none word (drop 2 reserved) kind refl)

-- and to the first alone, where it is that
pub layer_word : (word : List ℕ) (is_layer : Bool) → is_layer ≡ bytes_eq word (codes "layer") → is_layer ≡ true →
    is_layer ≡ begins_part (word_token word)
layer_word word is_layer layer true_is =
    true_is ∙ (ap (λ t. t || bytes_eq word (codes "stack")) (sym true_is) ∙
    part_word word is_layer (bytes_eq word (codes "stack")) layer refl)

pub stack_word : (word : List ℕ) (is_layer is_stack : Bool) → is_layer ≡ bytes_eq word (codes "layer") →
    is_layer ≡ false →
    is_stack ≡ bytes_eq word (codes "stack") → is_stack ≡ begins_part (word_token word)
stack_word word is_layer is_stack layer false_is stack =
    ap (λ t. t || is_stack) (sym false_is) ∙ part_word word is_layer is_stack layer stack
