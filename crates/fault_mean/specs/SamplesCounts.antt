-- As many things as a limit allows, and one more, worked out.
use Rattle.std.specs.Prelude.{◌≡◌, ℕ, ◌+◌, List, [], ◌∷◌, map, flat_map, take, Some, None}
use Rattle.std.specs.List.{enumerate_from, range_with_len}
use Rattle.layer_ast.specs.declared.names.Name.{Name}
use Rattle.layer_ast.specs.declared.syntax.Ending.TheVariants.{Passes}
use Rattle.layer_words.specs.declared.sorts.Shape.TheVariants.{One}
use Rattle.layer_words.specs.declared.events.Dir.TheVariants.{Up}
use Rattle.layer_ast.specs.Samples.{at, name_at}
use Rattle.layer_words.specs.Spelling.{kinds}
use Rattle.layer_ast.specs.Tree.{DeclarationTree, HandlerTree, FileTree, StatementTrees, bind, header, int, more, none}
use Rattle.layer_ast.specs.Tree.{number, param}
use Rattle.fault_mean.specs.Faults.{too_many}
use Rattle.fault_mean.specs.NameFaults.{name_fault}
use Rattle.fault_mean.specs.Samples.{handler, small_file, timer_down}

-- `count` different names; the first stands at column 1, the second at column 2, and so on.
abbrev pub numbered_names : ℕ → List Name
numbered_names count = map (λ k. name_at (k ∷ []) 2 k) (range_with_len 1 count)

-- `most` things are no fault, and one more is a fault at its place.
abbrev pub HasLimit : (ℕ → FileTree) → ℕ → Type 0
HasLimit file most = (name_fault (file most) ≡ None) ×
    (name_fault (file (most + 1)) ≡ Some (too_many (at 2 (most + 1))))

-- A layer with these declarations alone.
abbrev pub declaring : List DeclarationTree → FileTree
declaring declarations = small_file 3 declarations []

-- 16 params are no fault, and the 17th is one.
abbrev pub Params : Type 0
Params = HasLimit (λ count. declaring (map (λ n. param n.at n 0) (numbered_names count))) 16

-- 16 cells are no fault, and the 17th is one.
abbrev pub Cells : Type 0
Cells = HasLimit (λ count. declaring (map (λ n. int n.at n One None) (numbered_names count))) 16

-- 7 headers are no fault, and the 8th is one.
abbrev pub Headers : Type 0
Headers = HasLimit (λ count. declaring (map (λ n. header n.at n None Passes) (numbered_names count))) 7

-- Handlers of every kind for each of 7 headers.
abbrev pub many_handlers : List HandlerTree
many_handlers = flat_map
    (λ n. map
    (λ k. record (handler n.at Up k.1 record { first = name_at (99 ∷ []) 2 1; rest = [] } none) {
      popped = Some (record { name = n; fields = None });
    })
    kinds)
    (numbered_names 7)

-- 64 handlers.
abbrev pub Handlers : Type 0
Handlers = HasLimit
    (λ count. small_file 3
    (map (λ n. header n.at n None Passes) (numbered_names 7))
    (map (λ x. record x.1 { at = at 2 x.0 }) (enumerate_from 1 (take count many_handlers))))
    64

-- A `let` for each name.
abbrev pub lets : List Name → StatementTrees
lets [] = none
lets (n ∷ rest) = more (bind n.at n (number n.at 0)) (lets rest)

-- 64 locals: a handler's argument and 63 names of its block.
abbrev pub Locals : Type 0
Locals =
    (name_fault (small_file 3 [] (timer_down 1 (lets (numbered_names 63)) ∷ [])) ≡ None)
    × (name_fault (small_file 3 [] (timer_down 1 (lets (numbered_names 64)) ∷ [])) ≡ Some (too_many (at 2 64)))

-- 64 layers.
abbrev pub Layers : Type 0
Layers = HasLimit
    (λ count. record {
      layers = map (λ n. record { at = n.at; name = n; declarations = []; handlers = [] }) (numbered_names count);
      places = record { name = name_at (1 ∷ []) 3 9; given = [] } ∷ [];
      library = [];
    })
    64
