-- The names and slots of a taken row.
use Rattle.std.proofs.Common.{◌≡◌, ℕ, zero, suc, ◌+◌, ◌-◌, ◌≤◌, Bool, true, false, List, [], ◌∷◌, ◌++◌, map, take, drop}
use Rattle.std.proofs.Common.{length, is_some, Option, Some, None, option_map, option_to_list, if◌then◌else◌, refl, sym}
use Rattle.std.proofs.Common.{ap, ◌∙◌, arith, subst, length-take-le}
use Rattle.std.specs.List.{AllByRecursion, last_or, range_with_len}
use Rattle.std.proofs.lemmas.List.{length-map}
use Rattle.layer_ast.specs.Tree.{ItemTree}
use Rattle.layer_ast.specs.View.{item_tree}
use Rattle.layer_ast.specs.declared.syntax.Item.{Item}
use Rattle.layer_mean.specs.Tree.{Carried}
use Rattle.file_mean.specs.Names.{message_among, numbers_among}
use Rattle.file_laws.specs.Bounds.{HoldsSlot, IsByte}
use Rattle.file_slots.proofs.Lists.{map_take}

range_more : (a k : ℕ) → range_with_len a (suc k) ≡ range_with_len a k ++ (a + k) ∷ []
range_more a zero = let e : a ≡ a + 0 = omega arith in ap (λ n. n ∷ []) e
range_more a (suc k) =
    let e : (a + 1) + k ≡ a + suc k = omega arith in
    ap (λ l. a ∷ l) (range_more (a + 1) k ∙ ap (λ n. range_with_len (a + 1) k ++ n ∷ []) e)

-- one more slot
pub slots_more : (all pushed : List ℕ) (a k n : ℕ) → all ≡ range_with_len a k → n ≡ a + k → pushed ≡ all ++ n ∷ [] →
    pushed ≡ range_with_len a (k + 1)
slots_more all pushed a k n so_far is push =
    let one : suc k ≡ k + 1 = omega arith in
    push ∙ (ap (λ l. l ++ n ∷ []) so_far ∙ (ap (λ m. range_with_len a k ++ m ∷ []) is
    ∙ (sym (range_more a k) ∙ ap (range_with_len a) one)))

take_all : {A : Type 0} (xs : List A) → take (length xs) xs ≡ xs
take_all [] = refl
take_all (x ∷ xs) = ap (λ l. x ∷ l) (take_all xs)

drop_all : {A : Type 0} (xs : List A) → drop (length xs) xs ≡ []
drop_all [] = refl
drop_all (x ∷ xs) = drop_all xs

last_is : {A : Type 0} (o : Option A) (x : A) (xs : List A) → option_to_list (last_or o (x ∷ xs)) ≡
    drop (length xs) (x ∷ xs)
last_is o x [] = refl
last_is o x (y ∷ xs) = last_is (Some x) y xs

-- the things that stand for numbers come first, and the one for a message after them
pub numbers_are : {A : Type 0} (has : Bool) (xs : List A) (n : ℕ) → n ≡ (if has then length xs - 1 else length xs) →
    take n xs ≡ numbers_among has xs
numbers_are true xs n is = ap (λ k. take k xs) is
numbers_are false xs n is = ap (λ k. take k xs) is ∙ take_all xs

pub message_is : {A : Type 0} (has : Bool) (xs : List A) (n : ℕ) → n ≡ (if has then length xs - 1 else length xs) →
    drop n xs ≡ option_to_list (message_among has xs)
message_is true [] n is = ap (λ k. drop k []) is
message_is true (x ∷ xs) n is =
    let one : suc (length xs) - 1 ≡ length xs = omega arith in
    ap (λ k. drop k (x ∷ xs)) (is ∙ one) ∙ sym (last_is None x xs)
message_is false xs n is = ap (λ k. drop k xs) is ∙ drop_all xs

-- slots that are bytes are below 256
pub slots_fit : (t n : ℕ) → AllByRecursion IsByte (range_with_len t n) → t ≤ 256 → t + n ≤ 256
slots_fit t zero all within = omega (arith, within)
slots_fit t (suc n) all within =
    let rest = slots_fit (t + 1) n all.1 (omega (arith, all.0)) in omega (arith, rest)

pub slot_fits : {A : Type 0} (t : ℕ) (carried : Option Carried) (xs : List A) →
    HoldsSlot (option_map (λ c. (t, c)) carried) →
    t ≤ 256 → t + length (option_to_list (message_among (is_some carried) xs)) ≤ 256
slot_fits {A = A} t None xs holds within = omega (arith, within)
slot_fits {A = A} t (Some c) xs holds within = few (last_or None xs) where
  few : (o : Option A) → t + length (option_to_list o) ≤ 256
  few None = omega (arith, within)
  few (Some x) = omega (arith, holds)

count_is : {A : Type 0} (has : Bool) (xs : List A) → length (numbers_among has xs) ≡
    (if has then length xs - 1 else length xs)
count_is true xs = length-take-le (length xs - 1) xs (omega arith)
count_is false xs = refl

-- the slots of a row's numbers, by how many these are
pub numbers_fit : {A : Type 0} (t n : ℕ) (has : Bool) (xs : List A) →
    AllByRecursion IsByte (range_with_len t (length (numbers_among has xs))) → t ≤ 256 →
    n ≡ (if has then length xs - 1 else length xs) → t + n ≤ 256
numbers_fit t n has xs all within is =
    let fits = slots_fit t (length (numbers_among has xs)) all within in
    let same : n ≡ length (numbers_among has xs) = is ∙ sym (count_is has xs) in
    omega (arith, fits, same)

pub some_map : {A B : Type 0} (f : A → B) (o : Option A) → is_some o ≡ is_some (option_map f o)
some_map f None = refl
some_map f (Some x) = refl

-- the words of a row's numbers
pub words_are : (all front : List Item) (items : List ItemTree) (words : List (List ℕ)) (n count : ℕ) (b has : Bool) →
    map item_tree all ≡ items → count ≡ length all → n ≡ (if b then count - 1 else count) → b ≡ has →
    front ≡ take n all →
    words ≡ map (λ i. i.name.word) (map item_tree front) → words ≡ numbers_among has (map (λ i. i.name.word) items)
words_are all front items words n count b has shown counts number same is made =
    let word : ItemTree → List ℕ = λ i. i.name.word in
    let many : length all ≡ length (map word items) =
    sym (length-map all item_tree) ∙ (ap length shown ∙ sym (length-map items word)) in
    made
    ∙ (ap (λ l. map word (map item_tree l)) is
    ∙ (ap (map word) (map_take item_tree n all)
    ∙ (map_take word n (map item_tree all)
    ∙ (ap (λ l. take n (map word l)) shown
    ∙ numbers_are has (map word items) n
    (number ∙ (ap (λ k. if b then k - 1 else k) (counts ∙ many) ∙
    ap (λ x. if x then length (map word items) - 1 else length (map word items)) same))))))

-- the slots that a taken row needs, as they are counted
pub row_fits : {A : Type 0} (t first n count : ℕ) (b has : Bool) (items xs : List A) →
    AllByRecursion IsByte (range_with_len t (length (numbers_among has xs))) → first ≡ t → first ≤ 256 → b ≡ has →
    items ≡ xs →
    count ≡ length items → n ≡ (if b then count - 1 else count) → first + n ≤ 256
row_fits t first n count b has items xs all is within same are counts number =
    let moved = subst (λ k. AllByRecursion IsByte (range_with_len k (length (numbers_among has xs)))) (sym is) all in
    numbers_fit first n has xs moved within
    (number ∙ (ap (λ k. if b then k - 1 else k) (counts ∙ ap length are) ∙
    ap (λ x. if x then length xs - 1 else length xs) same))

pub numbers_row_fits : {A : Type 0} (t first : ℕ) (b has : Bool) (items xs : List A) →
    AllByRecursion IsByte (range_with_len t (length (numbers_among has xs))) → first ≡ t → first ≤ 256 → b ≡ has →
    items ≡ xs →
    t + length (numbers_among b items) ≤ 256
numbers_row_fits t first b has items xs all is within same are =
    let fits = slots_fit t (length (numbers_among has xs)) all (omega (arith, is, within)) in
    subst (λ k. t + k ≤ 256)
    (sym (ap (λ x. length (numbers_among x items)) same ∙ ap (λ l. length (numbers_among has l)) are)) fits

pub message_row_fits : {A : Type 0} (t first : ℕ) (carried : Option Carried) (b : Bool) (items : List A) →
    HoldsSlot (option_map (λ c. (t, c)) carried) → first ≡ t → first ≤ 256 → b ≡ is_some carried →
    t + length (option_to_list (message_among b items)) ≤ 256
message_row_fits t first carried b items holds is within same =
    let fits = slot_fits t carried items holds (omega (arith, is, within)) in
    subst (λ k. t + k ≤ 256) (sym (ap (λ x. length (option_to_list (message_among x items))) same)) fits
