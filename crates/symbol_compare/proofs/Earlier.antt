-- What a form of a list stands for, once others are after it.
use Rattle.std.proofs.Common.{◌≡◌, ℕ, zero, suc, ◌+◌, ◌<◌, List, [], ◌∷◌, ◌++◌, length, Option, Some, refl, sym, ap}
use Rattle.std.proofs.Common.{subst, ◌∙◌, arith}
use Rattle.std.specs.List.{fold, slice_get}
use Rattle.std.proofs.lemmas.List.Sums.{fold-append}
use Rattle.std.proofs.lemmas.Option.{slice_get_within}
use Rattle.std.specs.Option.{unwrap_or}
use Rattle.symbol_mean.specs.Value as value
use Rattle.trace_core.specs.View.{load_tree}
use Rattle.trace_core.proofs.Terms.{length_one, last_get, get_more}
use Rattle.trace_core.proofs.Earlier.{some_of}
use Rattle.symbol_compare.specs.declared.form.NumberForm as number_form
use Rattle.symbol_compare.specs.declared.form.NumberForm.TheVariants as numbers
use Rattle.symbol_compare.specs.declared.form.MessageForm as message_form
use Rattle.symbol_compare.specs.declared.form.MessageForm.TheVariants as messages
use Rattle.symbol_compare.specs.declared.form.SentForm as sent_form
use Rattle.symbol_compare.specs.declared.form.SentForm.TheVariants as sent
use Rattle.symbol_compare.specs.declared.form.ValueForm.{ValueForm}
use Rattle.symbol_compare.specs.declared.form.ValueForm.TheVariants as forms
use Rattle.symbol_compare.specs.Meant.{Meant, a_number, a_message, a_row, a_chain, a_sending, number_of, message_of}
use Rattle.symbol_compare.specs.Meant.{row_of, chain_of, seen_tree, number_meant, message_meant, sent_meant, meant_of}
use Rattle.symbol_compare.specs.Meant.{with_next, meanings}
use Rattle.symbol_compare.specs.Table.{Stands, IsWellNumber, IsWellMessage, IsWellSent, IsWell, AreWell}

pub meanings_more : (old : List ValueForm) (x : ValueForm) → meanings (old ++ x ∷ []) ≡ meanings old ++
    meant_of (meanings old) x ∷ []
unfolding meanings
meanings_more old x = fold-append with_next [] old (x ∷ [])

fold_long : (ms : List Meant) (fs : List ValueForm) → length (fold with_next ms fs) ≡ length ms + length fs
fold_long ms [] = omega arith
fold_long ms (x ∷ fs) = omega (arith, fold_long (with_next ms x) fs, length_one ms (meant_of ms x))

pub meanings_long : (fs : List ValueForm) → length (meanings fs) ≡ length fs
unfolding meanings
meanings_long fs = let none : 0 + length fs ≡ length fs = omega arith in fold_long [] fs ∙ none

fold_keeps : (ms : List Meant) (fs : List ValueForm) (k : ℕ) (x : Meant) → slice_get ms k ≡ Some x →
    slice_get (fold with_next ms fs) k ≡ Some x
fold_keeps ms [] k x e = e
fold_keeps ms (f ∷ fs) k x e = fold_keeps (with_next ms f) fs k x (get_more ms (meant_of ms f) k x e)

pub meanings_keep : (fs more : List ValueForm) (k : ℕ) (x : Meant) → slice_get (meanings fs) k ≡ Some x →
    slice_get (meanings (fs ++ more)) k ≡ Some x
unfolding meanings
meanings_keep fs more k x e = ap (λ ms. slice_get ms k) (fold-append with_next [] fs more) ∙
    fold_keeps (meanings fs) more k x e

-- Lists that agree below a number.
abbrev pub Agree : List Meant → List Meant → Type 0
Agree ms us = (k : ℕ) → k < length ms → slice_get us k ≡ slice_get ms k

pub long : {k : ℕ} {x : Meant} (ms : List Meant) → Stands ms k x → k < length ms
long {k} {x} ms n = slice_get_within ms k x n.stands

-- What is read at a number that is there.
module _ (ms us : List Meant) (h : Agree ms us) where
  at : {k : ℕ} {x : Meant} → Stands ms k x → slice_get us k ≡ slice_get ms k
  at {k} b = h k (long ms b)

  number_stays : (x : number_form.NumberForm) → IsWellNumber ms x → number_meant us x ≡ number_meant ms x
  number_stays (numbers.Number n) b = refl
  number_stays numbers.Peer b = refl
  number_stays (numbers.Field n) b = refl
  number_stays numbers.Me b = refl
  number_stays numbers.Count b = refl
  number_stays numbers.Ltime b = refl
  number_stays (numbers.Taken row k) b = refl
  number_stays (numbers.Untaken k) b = refl
  number_stays (numbers.Element s i) b = λ t. value.element (seen_tree s) (number_of (at b t))
  number_stays (numbers.Square s i j) b = λ t. value.square (seen_tree s) (number_of (at b.0 t)) (number_of (at b.1 t))
  number_stays (numbers.Rows s i) b = λ t. value.rows (seen_tree s) (number_of (at b t))
  number_stays (numbers.Item s i j k) b = λ t. value.item (seen_tree s) (number_of (at b.0 t)) (number_of (at b.1 t)) k
  number_stays (numbers.Size m) b = λ t. value.size (message_of (at b t))
  number_stays (numbers.Binary o i j) b = λ t. value.binary o (number_of (at b.0 t)) (number_of (at b.1 t))
  number_stays (numbers.Apply f i) b = λ t. value.apply f (number_of (at b t))
  number_stays (numbers.Pick i j k) b = λ t. value.pick (number_of (at b.0 t)) (number_of (at b.1 t))
      (number_of (at b.2 t))

  message_stays : (x : message_form.MessageForm) → IsWellMessage ms x → message_meant us x ≡ message_meant ms x
  message_stays messages.Body b = refl
  message_stays messages.Nothing b = refl
  message_stays (messages.Taken row r) b = refl
  message_stays (messages.Untaken r) b = refl
  message_stays (messages.Held s i j r) b = λ t. value.held (seen_tree s) (number_of (at b.0 t)) (number_of (at b.1 t))
      (load_tree r)
  message_stays (messages.Cut m i j) b = λ t. value.cut (message_of (at b.0 t)) (number_of (at b.1 t))
      (number_of (at b.2 t))
  message_stays (messages.Tail m i) b = λ t. value.tail (message_of (at b.0 t)) (number_of (at b.1 t))
  message_stays (messages.Join m w) b = λ t. value.join (message_of (at b.0 t)) (message_of (at b.1 t))

  sent_stays : (x : sent_form.SentForm) → IsWellSent ms x → sent_meant us x ≡ sent_meant ms x
  sent_stays sent.NoNumbers b = refl
  sent_stays (sent.Numbers i j) b = λ t. a_row (number_of (at b.0 t) ∷ row_of (at b.1 t))
  sent_stays sent.NoLinks b = refl
  sent_stays (sent.Link p q i j) b = λ t. a_chain
      (record { place = p; tag = q; fields = row_of (at b.0 t) } ∷ chain_of (at b.1 t))
  sent_stays sent.Nothing b = refl
  sent_stays (sent.Message i j) b = λ t.
      a_sending (Some (record { chain = chain_of (at b.0 t); message = message_of (at b.1 t) }))

  pub meant_stays : (x : ValueForm) → IsWell ms x → meant_of us x ≡ meant_of ms x
  meant_stays (forms.Number x) b = λ t. a_number (number_stays x b t)
  meant_stays (forms.Message x) b = λ t. a_message (message_stays x b t)
  meant_stays (forms.Sent x) b = sent_stays x b

  -- A number of a kind is one of that kind still.
  kind_stays : {X : Type 0} (make : X → Meant) (read : Option Meant → X) (k : ℕ) →
      Stands ms k (make (read (slice_get ms k))) →
      Stands us k (make (read (slice_get us k)))
  kind_stays make read k b = record { stands = at b ∙ b.stands ∙ ap (λ o. Some (make (read o))) (sym (at b)) }

  number_kind : (k : ℕ) → Stands ms k (a_number (number_of (slice_get ms k))) →
      Stands us k (a_number (number_of (slice_get us k)))
  number_kind k = kind_stays a_number number_of k

  message_kind : (k : ℕ) → Stands ms k (a_message (message_of (slice_get ms k))) →
      Stands us k (a_message (message_of (slice_get us k)))
  message_kind k = kind_stays a_message message_of k

  row_kind : (k : ℕ) → Stands ms k (a_row (row_of (slice_get ms k))) → Stands us k (a_row (row_of (slice_get us k)))
  row_kind k = kind_stays a_row row_of k

  chain_kind : (k : ℕ) → Stands ms k (a_chain (chain_of (slice_get ms k))) →
      Stands us k (a_chain (chain_of (slice_get us k)))
  chain_kind k = kind_stays a_chain chain_of k

  number_well : (x : number_form.NumberForm) → IsWellNumber ms x → IsWellNumber us x
  number_well (numbers.Number n) b = tt
  number_well numbers.Peer b = tt
  number_well (numbers.Field n) b = tt
  number_well numbers.Me b = tt
  number_well numbers.Count b = tt
  number_well numbers.Ltime b = tt
  number_well (numbers.Taken row k) b = tt
  number_well (numbers.Untaken k) b = tt
  number_well (numbers.Element s i) b = number_kind i b
  number_well (numbers.Square s i j) b = (number_kind i b.0, number_kind j b.1)
  number_well (numbers.Rows s i) b = number_kind i b
  number_well (numbers.Item s i j k) b = (number_kind i b.0, number_kind j b.1)
  number_well (numbers.Size m) b = message_kind m b
  number_well (numbers.Binary o i j) b = (number_kind i b.0, number_kind j b.1)
  number_well (numbers.Apply f i) b = number_kind i b
  number_well (numbers.Pick i j k) b = (number_kind i b.0, number_kind j b.1, number_kind k b.2)

  message_well : (x : message_form.MessageForm) → IsWellMessage ms x → IsWellMessage us x
  message_well messages.Body b = tt
  message_well messages.Nothing b = tt
  message_well (messages.Taken row r) b = tt
  message_well (messages.Untaken r) b = tt
  message_well (messages.Held s i j r) b = (number_kind i b.0, number_kind j b.1)
  message_well (messages.Cut m i j) b = (message_kind m b.0, number_kind i b.1, number_kind j b.2)
  message_well (messages.Tail m i) b = (message_kind m b.0, number_kind i b.1)
  message_well (messages.Join m w) b = (message_kind m b.0, message_kind w b.1)

  sent_well : (x : sent_form.SentForm) → IsWellSent ms x → IsWellSent us x
  sent_well sent.NoNumbers b = tt
  sent_well (sent.Numbers i j) b = (number_kind i b.0, row_kind j b.1)
  sent_well sent.NoLinks b = tt
  sent_well (sent.Link p q i j) b = (row_kind i b.0, chain_kind j b.1)
  sent_well sent.Nothing b = tt
  sent_well (sent.Message i j) b = (chain_kind i b.0, message_kind j b.1)

  pub well_stays : (x : ValueForm) → IsWell ms x → IsWell us x
  well_stays (forms.Number x) b = number_well x b
  well_stays (forms.Message x) b = message_well x b
  well_stays (forms.Sent x) b = sent_well x b

fold_agrees : (ms : List Meant) (fs : List ValueForm) → Agree ms (fold with_next ms fs)
fold_agrees ms fs k lt = let x = some_of ms k lt in fold_keeps ms fs k x.0 x.1 ∙ sym x.1

pub meanings_agree : (fs more : List ValueForm) → Agree (meanings fs) (meanings (fs ++ more))
meanings_agree fs more k lt = let x = some_of (meanings fs) k lt in meanings_keep fs more k x.0 x.1 ∙ sym x.1

some_is : {A : Type 0} (y x : A) → Some y ≡ Some x → y ≡ x
some_is y x e = ap (λ o. unwrap_or o y) e

-- A form, its parts and what it stands for.
pub record FormIn (us : List Meant) (n : ℕ) (x : ValueForm) : Type 0 where
  pub stands : slice_get us n ≡ Some (meant_of us x)
  pub well : IsWell us x

form_in : (ms : List Meant) (fs : List ValueForm) (j n : ℕ) (x : ValueForm) → n ≡ length ms + j → AreWell ms fs →
    slice_get fs j ≡ Some x →
    FormIn (fold with_next ms fs) n x
form_in ms [] j n x e h is = absurd (omega (arith, slice_get_within [] j x is))
form_in ms (y ∷ fs) zero n x e h is =
    let here : n ≡ length ms = omega (arith, e) in
    let us = fold with_next (with_next ms y) fs in
    let agree : Agree ms us = λ k lt. fold_agrees ms (y ∷ fs) k lt in
    subst (λ z. FormIn us n z) (some_is y x is) (record {
      stands = ap (λ k. slice_get us k) here
          ∙ fold_keeps (with_next ms y) fs (length ms) (meant_of ms y) (last_get ms (meant_of ms y))
          ∙ ap Some (sym (meant_stays ms us agree y h.0));
      well = well_stays ms us agree y h.0;
    })
form_in ms (y ∷ fs) (suc j) n x e h is =
    let longer : length (with_next ms y) ≡ suc (length ms) = length_one ms (meant_of ms y) in
    form_in (with_next ms y) fs j n x (omega (arith, e, longer)) h.1 is

pub form_found : (fs : List ValueForm) (k : ℕ) (x : ValueForm) → AreWell [] fs → slice_get fs k ≡ Some x →
    FormIn (meanings fs) k x
unfolding meanings
form_found fs k x h e = let same : k ≡ 0 + k = omega arith in form_in [] fs k k x same h e

-- what a form stands for stays where it is put after its parts
pub last_stays : (old : List ValueForm) (x : ValueForm) → IsWell (meanings old) x →
    meant_of (meanings (old ++ x ∷ [])) x ≡ meant_of (meanings old) x
last_stays old x b = meant_stays (meanings old) (meanings (old ++ x ∷ [])) (meanings_agree old (x ∷ [])) x b

well_one : (ms : List Meant) (old : List ValueForm) (x : ValueForm) → AreWell ms old →
    IsWell (fold with_next ms old) x → AreWell ms (old ++ x ∷ [])
well_one ms [] x h b = (b, tt)
well_one ms (y ∷ old) x h b = (h.0, well_one (with_next ms y) old x h.1 b)

pub one_after : (old new : List ValueForm) (x : ValueForm) → new ≡ old ++ x ∷ [] → AreWell [] old →
    IsWell (meanings old) x → AreWell [] new
unfolding meanings
one_after old new x e h b = subst (λ l. AreWell [] l) (sym e) (well_one [] old x h b)
