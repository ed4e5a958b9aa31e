-- The tables of the lexer are those of the definitions.
use Rattle.std.proofs.Common.{◌≡◌, ℕ, true, false, cond, List, [], ◌∷◌, find, Some, Bor, refl}
use Rattle.std.specs.Option.{option_map}
use Rattle.std.specs.Str.{bytes_eq}
use Rattle.layer_words.specs.Spelling.{beside}
use Rattle.file_lex.specs.Tables.{shown_table}

-- what a search in a table finds is what stands beside the word in the shown table
pub find_shown : {X : Type 0} (table : List (Bor (List ℕ) × X)) (word : List ℕ) →
    option_map (λ (entry : Bor (List ℕ) × X). entry.1) (find (λ entry. bytes_eq entry.0.now word) table)
    ≡ beside (shown_table table) word
find_shown [] word = refl
find_shown (entry ∷ table) word =
    elim (bytes_eq entry.0.now word) as (λ b.
    option_map (λ e. e.1) (cond b (Some entry) (find (λ e. bytes_eq e.0.now word) table))
    ≡ option_map (λ e. e.1) (cond b (Some (entry.0.now, entry.1)) (find (λ e. bytes_eq e.0 word) (shown_table table)))
    ) [ true ↦ refl | false ↦ find_shown table word ]
