use Rattle.std.proofs.Common.{ap, ◌∙◌, List, bytes_eq, find, Option}
use Rattle.layer_ast.specs.declared.syntax.Layer.{Layer}
use Rattle.file_lower.proofs.Stacks.{layer_called, layer_found}
use Rattle.file_lower.proofs.stack.layer_at.Goals as goal

pub returns-in-Some : goal.returns-in-Some
returns-in-Some c =
    let search_in : List Layer →
    Option Layer = λ l. find (λ (x : Layer). bytes_eq x.name.word c.args.place.now.name.word) l in
    layer_found c.args.file.now c.args.place.now c.named.result c.in-Some.layer c.in-Some.is
    (c.named.ensures ∙ ap search_in c.deref.ensures.value)

pub returns-in-None : goal.returns-in-None
returns-in-None c =
    let search_in : List Layer →
    Option Layer = λ l. find (λ (x : Layer). bytes_eq x.name.word c.args.place.now.name.word) l in
    layer_called c.args.file.now c.args.place.now c.named.result c.named-in-None.result c.in-None.is
    (c.named.ensures ∙ ap search_in c.deref.ensures.value)
    (c.named-in-None.ensures ∙ ap search_in c.deref-in-None.ensures.value)
