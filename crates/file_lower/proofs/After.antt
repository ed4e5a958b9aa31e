-- The names after statements: those before them stay visible, and new ones stand before them.
use Rattle.std.proofs.Common.{◌≡◌, ℕ, ◌-◌, List, [], ◌∷◌, ◌++◌, drop, length, refl, sym, ap, ◌∙◌, arith, append_assoc}
use Rattle.std.proofs.Common.{length-append}
use Rattle.std.proofs.Math.Seq.{drop-append_seam}
use Rattle.layer_ast.specs.Tree as ast
use Rattle.layer_ast.specs.declared.names.Name.{Name}
use Rattle.layer_words.specs.declared.words.Word.{Word}
use Rattle.file_mean.specs.Names.{Names, Slots, in_slots, with_messages, with_numbers}
use Rattle.file_mean.specs.Statements.{after_block, following, after_all, with_taken}

pub record Extends (names inner : Names) : Type 0 where
  pub place : inner.place ≡ names.place
  pub numbers : (front : List (Word × ℕ)) × (inner.numbers ≡ front ++ names.numbers)
  pub messages : (front : List (Word × ℕ)) × (inner.messages ≡ front ++ names.messages)

same : (names : Names) (taken : Slots) → Extends names (record names { taken = taken })
same names taken = record { place = refl; numbers = ([], refl); messages = ([], refl) }

pub extends_numbers : (new : List Name) (names : Names) → Extends names (with_numbers new names)
extends_numbers new names =
    record { place = refl; numbers = (in_slots names.taken.numbers new, refl); messages = ([], refl) }

extends_messages : (new : List Name) (names : Names) → Extends names (with_messages new names)
extends_messages new names =
    record { place = refl; numbers = ([], refl); messages = (in_slots names.taken.messages new, refl) }

further : (a b c : List (Word × ℕ)) → (f : List (Word × ℕ)) × (b ≡ f ++ a) → (g : List (Word × ℕ)) × (c ≡ g ++ b) →
    (h : List (Word × ℕ)) × (c ≡ h ++ a)
further a b c (f, p) (g, q) = (g ++ f, q ∙ (ap (λ l. g ++ l) p ∙ sym (append_assoc g f a)))

extends_further : (a b c : Names) → Extends a b → Extends b c → Extends a c
extends_further a b c p q = record {
  place = q.place ∙ p.place;
  numbers = further a.numbers b.numbers c.numbers p.numbers q.numbers;
  messages = further a.messages b.messages c.messages p.messages q.messages;
}

pub extends_taken : (q : ast.QueueTree) (new : List Name) (names : Names) → Extends names (with_taken q new names)
extends_taken q new names =
    extends_further names _ (with_taken q new names) (extends_numbers _ names) (extends_messages _ _)

after_one : (s : ast.StatementTree) (names : Names) → Extends names (following s names)
after_one (ast.bind at name value) names = extends_numbers (name ∷ []) names
after_one (ast.set at name index value) names = same names names.taken
after_one (ast.set_square at name row column value) names = same names names.taken
after_one (ast.push at q items otherwise) names = same names _
after_one (ast.take at q new block otherwise) names = same names _
after_one (ast.when at likely condition block) names = same names _
after_one (ast.choose at likely condition block otherwise) names = same names _
after_one (ast.each at name below most block) names = same names _
after_one (ast.emit at direction kind arguments pushed) names = same names names.taken

pub extends_all : (all : ast.StatementTrees) (names : Names) → Extends names (after_all all names)
extends_all ast.none names = same names names.taken
extends_all (ast.more s rest) names =
    extends_further names (following s names) (after_all rest (following s names)) (after_one s names)
    (extends_all rest (following s names))

back_to : (all front back : List (Word × ℕ)) (n : ℕ) → all ≡ front ++ back → n ≡ length back →
    drop (length all - n) all ≡ back
back_to all front back n is count =
    let left : length (front ++ back) - length back ≡ length front = omega (arith, length-append front back) in
    ap (λ l. drop (length l - n) l) is
    ∙ (ap (λ k. drop (length (front ++ back) - k) (front ++ back)) count
    ∙ (ap (λ k. drop k (front ++ back)) left ∙ drop-append_seam front back))

-- a block that is left
pub left : (names inner after : Names) (n m : ℕ) → Extends names inner → n ≡ length names.numbers →
    m ≡ length names.messages →
    after ≡ record inner {
      numbers = drop (length inner.numbers - n) inner.numbers;
      messages = drop (length inner.messages - m) inner.messages;
    } → after ≡ after_block names inner
left names inner after n m extends many few is =
    let ns = back_to inner.numbers extends.numbers.0 names.numbers n extends.numbers.1 many in
    let ms = back_to inner.messages extends.messages.0 names.messages m extends.messages.1 few in
    is ∙ (λ i. record { place = extends.place i; numbers = ns i; messages = ms i; taken = inner.taken })
