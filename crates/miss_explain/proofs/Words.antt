-- The parts of a line are the line.
use Rattle.std.proofs.Common.{◌≡◌, ℕ, List, [], ◌∷◌, ◌++◌, Option, Some, None, ap, sym, ◌∙◌, append_assoc, append-nil}
use Rattle.std.specs.Fmt.{decimal}
use Rattle.std.specs.Prelude.{codes}
use Rattle.layer_ast.specs.Tree.{FileTree}
use Rattle.layer_mean.specs.Tree.{LayerTree}
use Rattle.layer_mean.specs.declared.run.Case.TheVariants.{First, Second}
use Rattle.lack_mean.specs.Lacks.{Lack, Miss}
use Rattle.miss_mean.specs.Spots.{Spot}
use Rattle.miss_mean.specs.Text.{entry_spots, entry_text, known_at, lack_text, miss_line, second_text}
use Rattle.run_mean.specs.Lines.{line}
use Rattle.stack_mean.specs.Plan.{Plan}
use Rattle.miss_explain.specs.Words.{front_text, second_part}

parts : (before miss space end event id entry first last : List ℕ) →
    before ++ (miss ++ space ++ event ++ space ++ id ++ space ++ entry ++ space) ++ first ++ last ++ end
    ≡ before ++ (miss ++ ((space ++ event) ++ ((space ++ id) ++ ((space ++ entry) ++ ((space ++ first) ++ last)))) ++
    end)
parts before miss space end event id entry first last = simp append_assoc

words : (stack : List LayerTree) (spots : List Spot) (second : Option Lack) (before event id entry first : List ℕ) →
    before ++ (codes "miss " ++ event ++ codes " " ++ id ++ codes " " ++ entry ++ codes " ") ++ first ++
    second_part stack spots second ++ codes "\n"
    ≡ before ++ line (codes "miss" ∷ event ∷ id ∷ entry ∷ first ∷ second_text stack spots second)
words stack spots None before event id entry first = parts before (codes "miss") (codes " ") (codes "\n") event id entry
    first []
words stack spots (Some lack) before event id entry first =
    parts before (codes "miss") (codes " ") (codes "\n") event id entry first
    (codes " or " ++ lack_text stack spots lack)
    ∙ ap (λ last. before ++
    (codes "miss" ++ ((codes " " ++ event) ++
    ((codes " " ++ id) ++ ((codes " " ++ entry) ++ ((codes " " ++ first) ++ last)))) ++ codes "\n"))
    (tail (lack_text stack spots lack)) where
      tail : (text : List ℕ) → codes " or " ++ text ≡ (codes " " ++ codes "or") ++ ((codes " " ++ text) ++ [])
      tail text = ap (λ x. codes " or " ++ x) (sym (append-nil text))

pub line_is : (file : FileTree) (stack : List LayerTree) (plans : List Plan) (event id : ℕ) (m : Miss)
    (before front first second : List ℕ) →
    front ≡ before ++ front_text event id m.entry →
    first ≡ front ++ lack_text stack (entry_spots First file stack (known_at plans m.entry)) m.first →
    second ≡ first ++ second_part stack (entry_spots Second file stack (known_at plans m.entry)) m.second →
    second ++ codes "\n" ≡ before ++ miss_line file stack plans event id m
unfolding miss_line
line_is file stack plans event id m before front first second is_front is_first is_second =
    let lack = lack_text stack (entry_spots First file stack (known_at plans m.entry)) m.first in
    let spots = entry_spots Second file stack (known_at plans m.entry) in
    ap (λ x. x ++ codes "\n")
    (is_second ∙ ap (λ x. x ++ second_part stack spots m.second) (is_first ∙ ap (λ x. x ++ lack) is_front))
    ∙ words stack spots m.second before (decimal event) (decimal id) (entry_text m.entry) lack
