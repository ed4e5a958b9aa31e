-- A layer's own names: each stands for what it is declared as.
use Rattle.std.proofs.Common.{◌≡◌, ℕ, suc, ◌+◌, Bool, true, false, length, Option, Some, None, refl, arith}
use Rattle.std.specs.Prelude.{is_some, slice_get}
use Rattle.std.specs.List.{filter_map, position_or_len}
use Rattle.std.specs.Option.{option_map_or}
use Rattle.layer_ast.specs.declared.names.Name.{Name}
use Rattle.layer_words.specs.declared.words.Word.{Word}
use Rattle.layer_ast.specs.Tree as ast
use Rattle.layer_mean.specs.Headers.{header_of_tag}
use Rattle.layer_mean.specs.Tree.{CellTree, HeaderTree}
use Rattle.fault_mean.specs.Declared.{declares, declaration_of, is_cell, is_header, cells_of, headers_of}
use Rattle.fault_mean.specs.Forms.{declared_as, is_queue, is_queue_array, is_end, items_of, fields_of}
use Rattle.file_mean.specs.Names.{Placed, cell_of, tag_of, capacity_declared}
use Rattle.file_mean.specs.Layers.{row_items, cell_in, header_in, layer_of}
use Rattle.chain_laws.specs.Typed.{queue_at}
use Rattle.file_laws.proofs.Lists.{stood, stood_at}

-- what a word is declared as
pub record Declares (test : ast.DeclarationTree → Bool) (layer : ast.LayerTree) (word : Word) : Type 0 where
  pub declaration : ast.DeclarationTree
  pub found : declaration_of layer word ≡ Some declaration
  pub passes : test declaration ≡ true

pub declares_it : (test : ast.DeclarationTree → Bool) (layer : ast.LayerTree) (word : Word) →
    declared_as test layer word ≡ true →
    Declares test layer word
declares_it test layer word is = go (declaration_of layer word) refl is where
  go : (o : Option ast.DeclarationTree) → declaration_of layer word ≡ o → option_map_or test o false ≡ true →
      Declares test layer word
  go None found is = absurd (cc is)
  go (Some d) found is = record { declaration = d; found = found; passes = is }

-- queues and arrays of queues
abbrev pub is_rows : ast.DeclarationTree → Bool
is_rows (ast.rows_cell at name capacity items) = true
is_rows (ast.rows_array at name capacity items) = true
is_rows _ = false

pub rows_of_queue : (layer : ast.LayerTree) (word : Word) → Declares is_queue layer word → Declares is_rows layer word
rows_of_queue layer word h = record { declaration = h.declaration; found = h.found; passes = go h.declaration h.passes }
  where
    go : (d : ast.DeclarationTree) → is_queue d ≡ true → is_rows d ≡ true
    go (ast.rows_cell at name capacity items) is = refl
    go (ast.param at name value) is = absurd (cc is)
    go (ast.int at name shape initial) is = absurd (cc is)
    go (ast.rows_array at name capacity items) is = refl
    go (ast.header at name fields end) is = absurd (cc is)

pub rows_of_array : (layer : ast.LayerTree) (word : Word) → Declares is_queue_array layer word →
    Declares is_rows layer word
rows_of_array layer word h = record { declaration = h.declaration; found = h.found; passes = go h.declaration h.passes }
  where
    go : (d : ast.DeclarationTree) → is_queue_array d ≡ true → is_rows d ≡ true
    go (ast.rows_cell at name capacity items) is = refl
    go (ast.param at name value) is = absurd (cc is)
    go (ast.int at name shape initial) is = absurd (cc is)
    go (ast.rows_array at name capacity items) is = refl
    go (ast.header at name fields end) is = absurd (cc is)

cell_made : (p : Placed) (d : ast.DeclarationTree) → is_some (cell_in p d) ≡ is_cell d
cell_made p (ast.param at name value) = refl
cell_made p (ast.int at name shape initial) = refl
cell_made p (ast.rows_cell at name capacity items) = refl
cell_made p (ast.rows_array at name capacity items) = refl
cell_made p (ast.header at name fields end) = refl

header_made : (d : ast.DeclarationTree) → is_some (header_in d) ≡ is_header d
header_made (ast.param at name value) = refl
header_made (ast.int at name shape initial) = refl
header_made (ast.rows_cell at name capacity items) = refl
header_made (ast.rows_array at name capacity items) = refl
header_made (ast.header at name fields end) = refl

pub cell_listed : (p : Placed) (name : Name) (d : ast.DeclarationTree) (cell : CellTree) →
    declaration_of p.layer name.word ≡ Some d →
    is_cell d ≡ true → cell_in p d ≡ Some cell → slice_get (layer_of p).cells (cell_of p name) ≡ Some cell
unfolding layer_of
cell_listed p name d cell found kind made =
    let at = stood_at (declares name.word) (cells_of p.layer) (filter_map (cell_in p) p.layer.declarations) cell
    (stood (declares name.word) is_cell (cell_in p) (cell_made p) p.layer.declarations d cell found kind made) in
    rw at.0 at.1

pub queue_listed : (p : Placed) (name : Name) (d : ast.DeclarationTree) → declaration_of p.layer name.word ≡ Some d →
    is_rows d ≡ true →
    queue_at (layer_of p) (cell_of p name) ≡
    Some (record { capacity = capacity_declared p d; items = row_items p (items_of d) })
queue_listed p name (ast.param at name_is value) found is = absurd (cc is)
queue_listed p name (ast.int at name_is shape initial) found is = absurd (cc is)
queue_listed p name (ast.rows_cell at name_is capacity items) found is =
    rw (cell_listed p name (ast.rows_cell at name_is capacity items) _ found refl refl) refl
queue_listed p name (ast.rows_array at name_is capacity items) found is =
    rw (cell_listed p name (ast.rows_array at name_is capacity items) _ found refl refl) refl
queue_listed p name (ast.header at name_is fields end) found is = absurd (cc is)

-- a header that a name stands for
pub record Headed (p : Placed) (name : Name) : Type 0 where
  pub declaration : HeaderTree
  pub listed : header_of_tag (layer_of p) (tag_of p name) ≡ Some declaration
  pub fields : declaration.fields ≡ length (fields_of p.layer name.word)
  pub ends : declaration.ends ≡ declared_as is_end p.layer name.word

tag_listed : (p : Placed) (name : Name) (d : ast.DeclarationTree) (h : HeaderTree) → declaration_of p.layer name.word ≡
    Some d →
    is_header d ≡ true → header_in d ≡ Some h → header_of_tag (layer_of p) (tag_of p name) ≡ Some h
unfolding layer_of
tag_listed p name d h found kind made =
    let at = stood_at (declares name.word) (headers_of p.layer) (filter_map header_in p.layer.declarations) h
    (stood (declares name.word) is_header header_in header_made p.layer.declarations d h found kind made) in
    let n : ℕ = position_or_len (declares name.word) (headers_of p.layer) in
    let e : n + 1 ≡ suc n = omega arith in
    rw (at.0, e) at.1

pub headed : (p : Placed) (name : Name) → Declares is_header p.layer name.word → Headed p name
headed p name h = go h.declaration h.found h.passes where
  go : (d : ast.DeclarationTree) → declaration_of p.layer name.word ≡ Some d → is_header d ≡ true → Headed p name
  go (ast.param at name_is value) found is = absurd (cc is)
  go (ast.int at name_is shape initial) found is = absurd (cc is)
  go (ast.rows_cell at name_is capacity items) found is = absurd (cc is)
  go (ast.rows_array at name_is capacity items) found is = absurd (cc is)
  go (ast.header at name_is fields end) found is = record {
    declaration = _;
    listed = tag_listed p name (ast.header at name_is fields end) _ found refl refl;
    fields = rw found refl;
    ends = rw found refl;
  }
