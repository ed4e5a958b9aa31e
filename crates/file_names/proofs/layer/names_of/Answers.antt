use Rattle.std.proofs.Common.{[], ◌∷◌, ◌++◌, sym, ap, ◌∙◌}
use Rattle.layer_ast.specs.View.{declaration_tree}
use Rattle.fault_mean.specs.Declared.{declared_name}
use Rattle.file_names.specs.Layers.{test_of}
use Rattle.file_names.proofs.Rows.{kept_more, passed_over}
use Rattle.file_names.proofs.layer.names_of.Goals as goal
use Rattle.file_names.proofs.layer.names_of.Goals.{then-is_of+in_ok-push, else-is_of}

pub loop-declaration-preserved : goal.loop-declaration-preserved
loop-declaration-preserved c = elim c.if-is_of.branch [
  | then-is_of+in_ok-push w ↦
      rw w.all-is (w.in_ok-push.ensures.items
      ∙ (ap (λ n. c.loop-declaration.all.items ++ n ∷ []) w.declared_name.ensures
      ∙ kept_more declaration_tree (test_of c.args.form) declared_name c.args.declarations.now
      c.loop-declaration.declaration-index c.declaration-item.result c.loop-declaration.all.items
      c.loop-declaration-test.true
      c.declaration-item.is (sym c.is_of.ensures ∙ w.if-is_of.true) c.loop-declaration.invariant))
  | else-is_of w ↦
      rw w.all-is (passed_over declaration_tree (test_of c.args.form) declared_name c.args.declarations.now
      c.loop-declaration.declaration-index c.declaration-item.result c.loop-declaration.all.items
      c.loop-declaration-test.true
      c.declaration-item.is (sym c.is_of.ensures ∙ w.if-is_of.false) c.loop-declaration.invariant)
]
