-- The first of some items.
use Rattle.std.proofs.Common.{◌≡◌, ℕ, Bool, true, false, cond, find, List, [], ◌∷◌, map, bytes_eq, Option, Some}
use Rattle.std.proofs.Common.{option_map, refl, sym, ap, ◌∙◌}
use Rattle.layer_ast.specs.Tree.{ItemTree}
use Rattle.layer_ast.specs.View.{item_tree}
use Rattle.layer_ast.specs.declared.syntax.Item.{Item}
use Rattle.layer_words.specs.declared.sorts.Sort.{Sort}
use Rattle.fault_mean.specs.Kinds.{a_message, allows}

first_tree : (test : ItemTree → Bool) (items : List Item) →
    option_map (λ (i : ItemTree). i.sort) (find test (map item_tree items))
    ≡ option_map (λ (i : Item). i.sort) (find (λ (i : Item). test (item_tree i)) items)
first_tree test [] = refl
first_tree test (x ∷ xs) = go (test (item_tree x)) (first_tree test xs) where
  go : (b : Bool) →
      option_map (λ (i : ItemTree). i.sort) (find test (map item_tree xs))
      ≡ option_map (λ (i : Item). i.sort) (find (λ (i : Item). test (item_tree i)) xs) →
      option_map (λ (i : ItemTree). i.sort) (cond b (Some (item_tree x)) (find test (map item_tree xs)))
      ≡ option_map (λ (i : Item). i.sort) (cond b (Some x) (find (λ (i : Item). test (item_tree i)) xs))
  go true e = refl
  go false e = e

pub message_tree : (items : List Item) →
    option_map (λ (i : ItemTree). i.sort) (find (λ (i : ItemTree). allows a_message i.sort) (map item_tree items))
    ≡ option_map (λ (i : Item). i.sort) (find (λ (i : Item). allows a_message i.sort) items)
message_tree = first_tree (λ (i : ItemTree). allows a_message i.sort)

-- the first that has a name, where another doesn't have it
pub label_after : (word : List ℕ) (first : Item) (rest : List Item) (got : Option Sort) →
    bytes_eq first.name.word word ≡ false →
    got ≡ option_map (λ (i : Item). i.sort) (find (λ (i : Item). bytes_eq i.name.word word) rest) →
    got ≡ option_map (λ (i : ItemTree). i.sort)
    (find (λ (i : ItemTree). bytes_eq i.name.word word) (item_tree first ∷ map item_tree rest))
label_after word first rest got other is =
    is ∙ (sym (first_tree (λ (i : ItemTree). bytes_eq i.name.word word) rest)
    ∙ ap (λ b. option_map (λ (i : ItemTree). i.sort) (cond b (Some (item_tree first))
    (find (λ (i : ItemTree). bytes_eq i.name.word word) (map item_tree rest)))) (sym other))
