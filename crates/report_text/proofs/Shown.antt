-- The lines of cells and of members.
use Rattle.std.proofs.Common.{◌≡◌, ℕ, ◌+◌, ◌<◌, Bool, true, false, List, [], ◌∷◌, ◌++◌, map, length, get_or, refl, sym}
use Rattle.std.proofs.Common.{ap, ◌∙◌, append_assoc, append-nil, codes, Some, None}
use Rattle.std.proofs.lemmas.List.{get_or-map}
use Rattle.std.specs.List.{enumerate_from, flat_map}
use Rattle.layer_mean.specs.State.{State, cell_at, queues_in}
use Rattle.layer_mean.specs.Tree.{LayerTree, ItemsTree, queue, queues}
use Rattle.layer_mean.specs.declared.run.Row.{Row}
use Rattle.group_feed.specs.Showing.{view_shown}
use Rattle.msg_core.specs.declared.packet.View.{View}
use Rattle.report_lines.specs.Cells.{cell_front}
use Rattle.std.specs.Fmt.{decimal}
use Rattle.run_mean.specs.Lines.{cell_line, line, queue_name, view_line, state_out_line}
use Rattle.run_mean.specs.Member.{Member, inside, out}
use Rattle.run_mean.specs.Report.{cell_lines, member_lines}
use Rattle.run_mean.specs.Text.{rows_text}
use Rattle.report_text.specs.Cells.{index_if, layers_shown, one_queue, queue_lines, queue_named}

-- the words of a cell's line, joined part by part
parts_joined : (id place layer name more text : List ℕ) →
    codes "cell " ++ id ++ codes " " ++ place ++ codes " " ++ layer ++ codes "." ++ name ++ more ++ codes " " ++ text ++
    codes "\n"
    ≡ line (codes "cell" ∷ id ∷ place ∷ (layer ++ codes "." ++ (name ++ more)) ∷ text ∷ [])
parts_joined id place layer name more text =
    ap (λ text. 99 ∷ 101 ∷ 108 ∷ 108 ∷ 32 ∷ text) (joined id place layer name more text)
  where
    joined : (id place layer name more text : List ℕ) →
        id ++ 32 ∷ [] ++ place ++ 32 ∷ [] ++ layer ++ 46 ∷ [] ++ name ++ more ++ 32 ∷ [] ++ text ++ 10 ∷ []
        ≡ id ++ 32 ∷ (place ++ 32 ∷ (layer ++ 46 ∷ [] ++ (name ++ more) ++ 32 ∷ (text ++ []))) ++ 10 ∷ []
    joined id place layer name more text = simp (append_assoc, append-nil)

named_by_parts : (is_array : Bool) (name : List ℕ) (i : ℕ) → name ++ index_if is_array i ≡ queue_named is_array name i
named_by_parts false name i = append-nil name
named_by_parts true name i =
    sym (append_assoc name (codes "[" ++ decimal i) (codes "]"))
    ∙ ap (λ text. text ++ codes "]") (sym (append_assoc name (codes "[") (decimal i)))

-- the line of a queue by its parts
pub queue_parts : (is_array : Bool) (id place : ℕ) (layer : LayerTree) (name text : List ℕ) (i : ℕ) →
    cell_front id place layer.name name ++ index_if is_array i ++ codes " " ++ text ++ codes "\n"
    ≡ cell_line id place layer (queue_named is_array name i) text
queue_parts is_array id place layer name text i =
    parts_joined (decimal id) (decimal place) layer.name name (index_if is_array i) text
    ∙ ap (λ shown. cell_line id place layer shown text) (named_by_parts is_array name i)

-- the line of a cell of numbers by its parts
pub numbers_parts : (id place : ℕ) (layer : LayerTree) (name text : List ℕ) →
    cell_front id place layer.name name ++ codes " " ++ text ++ codes "\n" ≡ cell_line id place layer name text
numbers_parts id place layer name text =
    ap (λ front. front ++ codes " " ++ text ++ codes "\n") (sym (append-nil (cell_front id place layer.name name)))
    ∙ queue_parts false id place layer name text 0

-- the rows of a queue that is alone are the first of a list of one
alone : (stack : List LayerTree) (id place : ℕ) (layer : LayerTree) (name : List ℕ) (n : ℕ) (qs : List (List Row)) →
    flat_map (one_queue stack id place layer false name) (enumerate_from n qs)
    ≡ map (λ (x : List ℕ × List ℕ). cell_line id place layer x.0 x.1) (map (λ rows. (name, rows_text stack rows)) qs)
alone stack id place layer name n [] = refl
alone stack id place layer name n (rows ∷ qs) =
    ap (λ lines. cell_line id place layer name (rows_text stack rows) ∷ lines)
    (alone stack id place layer name (n + 1) qs)

in_array : (stack : List LayerTree) (id place : ℕ) (layer : LayerTree) (name : List ℕ) (qs : List (ℕ × List Row)) →
    flat_map (one_queue stack id place layer true name) qs
    ≡ map (λ (x : List ℕ × List ℕ). cell_line id place layer x.0 x.1)
    (map (λ (q : ℕ × List Row). (queue_name name q.0, rows_text stack q.1)) qs)
in_array stack id place layer name [] = refl
in_array stack id place layer name (q ∷ qs) =
    ap (λ lines. cell_line id place layer (queue_name name q.0) (rows_text stack q.1) ∷ lines)
    (in_array stack id place layer name qs)

pub queue_cell : (stack : List LayerTree) (id place : ℕ) (layer : LayerTree) (s : State) (c : ℕ) (name : List ℕ)
    (capacity : ℕ) (items : ItemsTree) →
    queue_lines stack id place layer false name (cell_at s c)
    ≡ cell_lines stack id place layer s (c, record { name = name; form = queue capacity items })
queue_cell stack id place layer s c name capacity items = alone stack id place layer name 0 (queues_in (cell_at s c))

pub queues_cell : (stack : List LayerTree) (id place : ℕ) (layer : LayerTree) (s : State) (c : ℕ) (name : List ℕ)
    (capacity : ℕ) (items : ItemsTree) →
    queue_lines stack id place layer true name (cell_at s c)
    ≡ cell_lines stack id place layer s (c, record { name = name; form = queues capacity items })
queues_cell stack id place layer s c name capacity items =
    in_array stack id place layer name (enumerate_from 0 (queues_in (cell_at s c)))

-- a member that is in a view, and one that is out
pub member_inside : (stack : List LayerTree) (id : ℕ) (m : Member) (view : View) → Some view ≡ view_shown m →
    view_line (codes "state") id view ∷ [] ++ layers_shown stack id m ≡ member_lines stack id m
member_inside stack id (inside at states) view is =
    let same : view ≡ at = cc in ap (λ v. view_line (codes "state") id v ∷ layers_shown stack id (inside at states))
    same
member_inside stack id out view is = absurd (cc is)

pub member_out : (stack : List LayerTree) (id : ℕ) (m : Member) → None ≡ view_shown m →
    state_out_line id ∷ [] ≡ member_lines stack id m
member_out stack id (inside at states) is = absurd (cc is)
member_out stack id out is = refl

-- the items of a mapped list
pub mapped_at : {X Y : Type 0} (f : X → Y) (xs : List X) (k : ℕ) (x : X) → k < length xs → x ≡ get_or xs k x →
    f x ≡ get_or (map f xs) k (f x)
mapped_at f xs k x lt is = sym (get_or-map f xs k x (f x) lt ∙ ap f (sym is))
