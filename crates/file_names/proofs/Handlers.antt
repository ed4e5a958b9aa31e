-- A handler, with the names that it declares.
use Rattle.std.proofs.Common.{◌≡◌, ℕ, List, ◌++◌, fold, ap, ◌∙◌, subst}
use Rattle.layer_ast.specs.Tree.{HandlerTree, LayerTree}
use Rattle.layer_ast.specs.declared.names.Name.{Name}
use Rattle.fault_mean.specs.NameFaults.{expected_uses, handler_name_faults, too_many_of, uses_faults}
use Rattle.fault_mean.specs.Scope.{Scope, declared_names, handler_names, head_names, head_scope, layer_scope}
use Rattle.file_names.specs.Blocks.{block_faults}
use Rattle.file_names.specs.Found.{Finds, name_shown}
use Rattle.file_names.specs.Gathered.{Gathers, maxima_of, noted_words, statements_in}
use Rattle.file_names.specs.Handlers.{block_part, head_part}
use Rattle.file_scope.specs.declared.found.Found.{Found}
use Rattle.file_scope.proofs.Finds.{finds_both}
use Rattle.file_names.proofs.Gathered.{said_in}

pub gathered : (layer : LayerTree) (handler : HandlerTree) (names : List Name) (old new : List (List ℕ))
    (a b c : Found) →
    Finds a (block_part layer handler) b → Gathers (head_names handler) old (statements_in handler.block) names new →
    Finds b (too_many_of 64 names) c →
    Finds a (handler_name_faults layer handler) c × (new ≡ fold noted_words old (maxima_of handler))
unfolding Gathers
gathered layer handler names old new a b c inside gathers many = (
  finds_both name_shown a b c (block_part layer handler) (too_many_of 64 (handler_names layer handler)) inside
      (subst (λ l. Finds b (too_many_of 64 l) c)
      (gathers.0 ∙ ap (λ l. head_names handler ++ l) (said_in declared_names (head_scope layer handler) handler.block))
      many),
  gathers.1,
)

-- the head of a handler, then its condition and its block in the scope that the head makes
pub inside_is : (layer : LayerTree) (outer inner : Scope) (handler : HandlerTree) (a b c d : Found) →
    outer ≡ layer_scope layer → Finds a (head_part outer.layer handler) b → inner ≡ head_scope outer.layer handler →
    Finds b (uses_faults inner (expected_uses handler.expected)) c → Finds c (block_faults inner handler.block) d →
    Finds a (block_part layer handler) d
inside_is layer outer inner handler a b c d is head scope condition block =
    let scope' : inner ≡ head_scope layer handler = scope ∙ ap (λ s. head_scope s.layer handler) is in
    finds_both name_shown a c d _ _
    (finds_both name_shown a b c _ _ (subst (λ s. Finds a (head_part s.layer handler) b) is head)
    (subst (λ s. Finds b (uses_faults s (expected_uses handler.expected)) c) scope' condition))
    (subst (λ s. Finds c (block_faults s handler.block) d) scope' block)
