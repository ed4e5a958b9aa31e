use Rattle.std.proofs.Common.{List, map, take, sym, ap, ◌∙◌}
use Rattle.fault_mean.specs.Scope as names
use Rattle.layer_ast.specs.View.{layer_tree}
use Rattle.layer_words.specs.declared.words.Word.{Word}
use Rattle.file_scope.specs.declared.scope.Local.{Local}
use Rattle.file_scope.specs.Scope.{local_of, locals_of}
use Rattle.file_scope.proofs.Lists.{map_take}
use Rattle.file_scope.proofs.scope.Scope.leave.Goals as goal

pub returns : goal.returns
returns c =
    let scope : List names.Local →
    names.Scope = λ ls. record { layer = layer_tree c.args.self.now.layer.now; locals = ls } in
    ap scope (ap locals_of c.truncate.ensures.items ∙ map_take local_of c.args.outer c.args.self.now.locals.items)

pub invariant_of-self : goal.invariant_of-self
invariant_of-self c =
    let word : Local → Word = λ l. l.name.word in
    let scope = c.args.self.now in
    record {
      own_is = scope.own_is;
      words_are = c.truncate-2.ensures
          ∙ (ap (take c.args.outer) scope.words_are
          ∙ (sym (map_take word c.args.outer scope.locals.items) ∙ ap (map word) (sym c.truncate.ensures.items)));
    }
