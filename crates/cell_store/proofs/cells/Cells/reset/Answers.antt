use Rattle.std.proofs.Common.{◌∙◌, List, map, sym, ap, arith}
use Rattle.typed_layer.specs.declared.tree.Cell.{Cell}
use Rattle.typed_layer.specs.View.{cell_tree}
use Rattle.cell_store.specs.Kept.{Kept}
use Rattle.cell_store.specs.Fresh.{kept_form, tree_form}
use Rattle.cell_store.proofs.Rows.{rows_kept}
use Rattle.cell_store.proofs.Begun.{forms_kept, again_slots}
use Rattle.cell_store.proofs.cells.Cells.reset.Goals as goal

pub restart_all-requires-clause-forms : goal.restart_all-requires-clause-forms
restart_all-requires-clause-forms g c =
    forms_kept c.self.inside.block.items _ ∙ ap (λ (k : Kept g.row.R.Denot). map kept_form k.cells) c.self.view_is ∙
    c.requires.layer
    ∙ ap (λ (cells : List Cell). map (λ c. tree_form c.form) (map cell_tree cells)) (sym c.deref.ensures.value)

pub restart_all-requires-clause-empty : goal.restart_all-requires-clause-empty
restart_all-requires-clause-empty g c =
    sym (rows_kept _ _ _ _ _ _ _ _ _ c.self.view_is c.self.invariant.laid) ∙ c.requires.empty

pub invariant_of-self : goal.invariant_of-self
invariant_of-self g c =
    let forms = forms_kept c.self.inside.block.items _ ∙ ap (λ (k : Kept g.row.R.Denot). map kept_form k.cells)
    c.self.view_is
    ∙ c.requires.layer ∙ ap (λ (cells : List Cell). map (λ c. tree_form c.form) (map cell_tree cells))
    (sym c.deref.ensures.value) in
    let most = ap (λ (k : Kept g.row.R.Denot). k.most) c.self.view_is in
    again_slots _ _ _ _ _ _ _ c.self.inside.block.items _ _ _ (omega (arith, c.requires.few, most))
    c.self.invariant.most_few
    c.restart_all.ensures.first forms c.self.invariant.room c.restart_all.ensures.capacity
