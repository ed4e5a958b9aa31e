-- A case that is read, operation by operation.
use Rattle.std.proofs.Common.{◌≡◌, ℕ, List, [], ◌∷◌, ◌++◌, Some, Result, Ok}
use Rattle.std.proofs.Common.{sym, ap, subst, ◌∙◌}
use Rattle.std.specs.List.{AllByRecursion}
use Rattle.std.proofs.lemmas.List.{map-append}
use Rattle.layer_mean.specs.Tree.{LayerTree}
use Rattle.trace_mean.specs.Trace as trace
use Rattle.pack_mean.specs.Named.{naming}
use Rattle.pack_mean.specs.Operation.{operation_said}
use Rattle.trace_core.specs.declared.operation.Operation.{Operation}
use Rattle.trace_core.specs.View.{terms}
use Rattle.trace_core.specs.Links.{chains}
use Rattle.trace_core.specs.Operations.{IsPart}
use Rattle.trace_core.specs.Operations.{operation_in, operations_of}
use Rattle.pack_read.specs.Operations.{OperationSaid, Says}
use Rattle.trace_core.proofs.Growing.{one_after, parts_stay}
use Rattle.pack_words.specs.declared.error.LineError.{LineError}
use Rattle.pack_read.specs.declared.open.Open.{Open}
use Rattle.pack_read.specs.Open.{AreParts, IsAdded, IsPut, LeavesAfter, SaysIn, left_after, named_of}

-- One more operation, that a line says.
pub added : (stack : List LayerTree) (line : List ℕ) (old middle now new : Open) (r : Result Operation LineError)
    (o : Operation) (n : ℕ) →
    AreParts old →
    SaysIn stack line old middle r → r ≡ Ok o → LeavesAfter middle.left o (Ok n) → now ≡ record middle { left = n } →
    IsPut now new o →
    IsAdded stack line old new
added stack line old middle now new r o n there says told leaves now_is put =
    let said : OperationSaid (operation_said stack (named_of stack old) line) old.store middle.store o =
    subst (Says (operation_said stack (named_of stack old) line) old.store middle.store) told says.said in
    let rest : middle ≡ record old { store = middle.store } = says.rest in
    let kept = parts_stay old.operations.items there said.nodes said.links in
    let x : trace.Operation = operation_in (terms middle.store.nodes) (chains middle.store.links) o in
    let store : new.store ≡ middle.store = put.store ∙ ap (λ z. z.store) now_is in
    let operations : new.operations.items ≡ old.operations.items ++ o ∷ [] =
    put.operations ∙ ap (λ z. z.operations.items ++ o ∷ []) now_is ∙ ap (λ z. z.operations.items ++ o ∷ []) rest in
    record {
      operation = x;
      said = said.is;
      left = sym (ap (λ z. left_after z.left x) rest) ∙ leaves (terms middle.store.nodes) (chains middle.store.links)
          ∙ ap Some (sym (put.left ∙ ap (λ z. z.left) now_is));
      named = put.named stack (terms middle.store.nodes) (chains middle.store.links)
          ∙ ap (λ z. naming stack (named_of stack z) x) now_is ∙ ap (λ z. naming stack (named_of stack z) x) rest;
      held = ap (λ z. operations_of z.nodes z.links new.operations.items) store
          ∙ ap (operations_of middle.store.nodes middle.store.links) operations
          ∙ map-append (operation_in (terms middle.store.nodes) (chains middle.store.links)) old.operations.items
          (o ∷ [])
          ∙ ap (λ l. l ++ x ∷ []) kept.0;
      parts = subst (λ z. AllByRecursion (IsPart (terms z.nodes) (chains z.links)) new.operations.items) (sym store)
          (subst (AllByRecursion (IsPart (terms middle.store.nodes) (chains middle.store.links))) (sym operations)
          (one_after (IsPart (terms middle.store.nodes) (chains middle.store.links)) old.operations.items o kept.1
          said.part));
    }
