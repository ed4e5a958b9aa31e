-- What stays as a table grows.
use Rattle.std.proofs.Common.{◌≡◌, ℕ, List, [], ◌∷◌, ◌++◌, Option, sym, ap, subst, ◌∙◌}
use Rattle.std.proofs.lemmas.List.{append_assoc, append-nil}
use Rattle.std.specs.List.{AllZip, slice_get}
use Rattle.symbol_mean.specs.Value.{NumberValue, MessageValue, Act}
use Rattle.symbol_mean.specs.Symbolic.{Values}
use Rattle.symbol_compare.specs.declared.form.ValueForm.{ValueForm}
use Rattle.symbol_compare.specs.declared.form.ActForm.{ActForm}
use Rattle.symbol_compare.specs.declared.walk.Walk.{Walk}
use Rattle.symbol_compare.specs.Meant.{Meant, a_number, a_message, number_of, message_of, number_in, message_in}
use Rattle.symbol_compare.specs.Meant.{meanings}
use Rattle.symbol_compare.specs.Table.{Stands, IsNumber, IsMessage, Grown, Made}
use Rattle.symbol_compare.specs.Walk.{known_to, AreNumbers, AreMessages, KnowsAs, NumbersMade, ActMade}
use Rattle.symbol_compare.proofs.Earlier.{meanings_keep}

pub not_grown : (a : List ValueForm) → Grown a a
not_grown a = record { more = []; grown = sym (append-nil a) }

pub grown_on : {a b c : List ValueForm} → Grown a b → Grown b c → Grown a c
grown_on {a} {b} {c} g h = record {
  more = g.more ++ h.more;
  grown = h.grown ∙ ap (λ l. l ++ h.more) g.grown ∙ append_assoc a g.more h.more;
}

pub grown_far : {a b c d : List ValueForm} → Grown a b → Grown b c → Grown c d → Grown a d
grown_far g h i = grown_on (grown_on g h) i

pub stands_grown : {a b : List ValueForm} {k : ℕ} {x : Meant} → Grown a b → Stands (meanings a) k x →
    Stands (meanings b) k x
stands_grown {a} {b} {k} {x} g s = record {
  stands = ap (λ l. slice_get (meanings l) k) g.grown ∙ meanings_keep a g.more k x s.stands;
}

-- Made earlier, and still there.
pub made_then : {a b c : List ValueForm} {k : ℕ} {x : Meant} → Made a b k x → Grown b c → Made a c k x
made_then m g = record { grows = grown_on m.grows g; stands = stands_grown g m.stands }

pub made_after : {a b c : List ValueForm} {k : ℕ} {x : Meant} → Grown a b → Made b c k x → Made a c k x
made_after g m = record { grows = grown_on g m.grows; stands = m.stands }

pub made_as : {a b : List ValueForm} {k : ℕ} {x y : Meant} → Made a b k x → x ≡ y → Made a b k y
made_as {a} {b} {k} m e = subst (λ t. Made a b k t) e m

-- What is known of one that stands for a value of a kind.
pub number_is : {ms : List Meant} {k : ℕ} {x : NumberValue} → Stands ms k (a_number x) → number_in ms k ≡ x
number_is s = ap number_of s.stands

pub number_there : {ms : List Meant} {k : ℕ} {x : NumberValue} → Stands ms k (a_number x) → IsNumber ms k
number_there {ms} {k} {x} s = subst (λ v. Stands ms k (a_number v)) (sym (number_is s)) s

pub message_is : {ms : List Meant} {k : ℕ} {x : MessageValue} → Stands ms k (a_message x) → message_in ms k ≡ x
message_is s = ap message_of s.stands

pub message_there : {ms : List Meant} {k : ℕ} {x : MessageValue} → Stands ms k (a_message x) → IsMessage ms k
message_there {ms} {k} {x} s = subst (λ v. Stands ms k (a_message v)) (sym (message_is s)) s

pub zip_map : {A B : Type 0} (R Q : A → B → Type 0) (xs : List A) (ys : List B) → ((x : A) (y : B) → R x y → Q x y) →
    AllZip R xs ys → AllZip Q xs ys
zip_map R Q [] [] f h = h
zip_map R Q [] (y ∷ ys) f h = h
zip_map R Q (x ∷ xs) [] f h = h
zip_map R Q (x ∷ xs) (y ∷ ys) f h = (f x y h.0, zip_map R Q xs ys f h.1)

pub zip_last : {A B : Type 0} (R : A → B → Type 0) (xs : List A) (ys : List B) (x : A) (y : B) → AllZip R xs ys →
    R x y → AllZip R (xs ++ x ∷ []) (ys ++ y ∷ [])
zip_last R [] [] x y h r = (r, h)
zip_last R [] (z ∷ ys) x y h r = absurd h
zip_last R (z ∷ xs) [] x y h r = absurd h
zip_last R (z ∷ xs) (w ∷ ys) x y h r = (h.0, zip_last R xs ys x y h.1 r)

pub numbers_grown : {a b : List ValueForm} → Grown a b → (ks : List ℕ) (xs : List NumberValue) →
    AreNumbers (meanings a) ks xs → AreNumbers (meanings b) ks xs
numbers_grown {a} {b} g ks xs h = zip_map (λ k x. Stands (meanings a) k (a_number x))
    (λ k x. Stands (meanings b) k (a_number x)) ks xs (λ k x s. stands_grown g s) h

pub messages_grown : {a b : List ValueForm} → Grown a b → (ks : List ℕ) (xs : List MessageValue) →
    AreMessages (meanings a) ks xs → AreMessages (meanings b) ks xs
messages_grown {a} {b} g ks xs h = zip_map (λ k x. Stands (meanings a) k (a_message x))
    (λ k x. Stands (meanings b) k (a_message x)) ks xs (λ k x s. stands_grown g s) h

pub all_grown : {a b : List ValueForm} → Grown a b → (ks : List ℕ) (xs : List Meant) →
    AllZip (Stands (meanings a)) ks xs → AllZip (Stands (meanings b)) ks xs
all_grown {a} {b} g ks xs h = zip_map (Stands (meanings a)) (Stands (meanings b)) ks xs (λ k x s. stands_grown g s) h

pub knows_grown : {a b : List ValueForm} {w : Walk} {v : Values} → Grown a b → KnowsAs a w v → KnowsAs b w v
knows_grown {a} {b} {w} {v} g k = record {
  numbers = numbers_grown g w.numbers.items v.numbers k.numbers;
  messages = messages_grown g w.messages.items v.messages k.messages;
  takes = k.takes;
  counts = k.counts;
}

-- What is known to a walk stays known after one value more was made.
pub knows_made : {a b : List ValueForm} {w : Walk} {k : ℕ} {x : Meant} → Made a b k x → KnowsAs a w (known_to w) →
    KnowsAs b w (known_to w)
knows_made m h = knows_grown m.grows h

pub knows_two : {a b c : List ValueForm} {w : Walk} {k j : ℕ} {x y : Meant} → Made a b k x → Made b c j y →
    KnowsAs a w (known_to w) → KnowsAs c w (known_to w)
knows_two m n h = knows_grown (grown_on m.grows n.grows) h

pub message_later : {a b : List ValueForm} {k : ℕ} {x : MessageValue} → Made a b k (a_message x) →
    IsMessage (meanings b) k
message_later m = message_there m.stands

pub knows_three : {a b c d : List ValueForm} {w : Walk} {k r : ℕ} {x y : Meant} {xs : List NumberValue} {ks : List ℕ} →
    Made a b k x → NumbersMade b c xs ks → Made c d r y →
    KnowsAs a w (known_to w) → KnowsAs d w (known_to w)
knows_three m n o h = knows_grown (grown_far m.grows n.grows o.grows) h

pub knows_numbers : {a b c : List ValueForm} {w : Walk} {k : ℕ} {x : Meant} {xs : List NumberValue} {ks : List ℕ} →
    Made a b k x → NumbersMade b c xs ks →
    KnowsAs a w (known_to w) → KnowsAs c w (known_to w)
knows_numbers m n h = knows_grown (grown_on m.grows n.grows) h

pub knows_act : {a b : List ValueForm} {w : Walk} {does : List Act} {x : Option ActForm} → ActMade a b does x →
    KnowsAs a w (known_to w) → KnowsAs b w (known_to w)
knows_act m h = knows_grown m.grows h
