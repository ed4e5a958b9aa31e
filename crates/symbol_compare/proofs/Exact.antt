-- Forms that compare equal are one.
use Rattle.std.proofs.Common.{◌≡◌, ◌==◌, true, refl, ap, ap₂}
use Rattle.std.proofs.lemmas.Bool.{eqb-true, and_parts, false≢true}
use denote.Enum.Bare.{sameb, same_true}
use Rattle.layer_words.specs.contracts.operators.Operator as operator_row
use Rattle.layer_words.specs.contracts.operators.Function as function_row
use Rattle.layer_words.specs.contracts.events.Dir as dir_row
use Rattle.layer_words.specs.contracts.events.Kind as kind_row
use Rattle.trace_core.proofs.Exact.{load_exact}
use Rattle.symbol_compare.specs.declared.form.Seen.{Seen}
use Rattle.symbol_compare.specs.declared.form.NumberForm as number_form
use Rattle.symbol_compare.specs.declared.form.NumberForm.TheVariants as numbers
use Rattle.symbol_compare.specs.declared.form.MessageForm as message_form
use Rattle.symbol_compare.specs.declared.form.MessageForm.TheVariants as messages
use Rattle.symbol_compare.specs.declared.form.SentForm as sent_form
use Rattle.symbol_compare.specs.declared.form.SentForm.TheVariants as sent
use Rattle.symbol_compare.specs.declared.form.ValueForm.{ValueForm}
use Rattle.symbol_compare.specs.declared.form.ValueForm.TheVariants as forms
use Rattle.symbol_compare.specs.declared.form.ActForm.{ActForm}
use Rattle.symbol_compare.specs.declared.form.ActForm.TheVariants as acts
use Rattle.symbol_compare.specs.contracts.form.SeenPartialEq.TheImpl as seen_eq
use Rattle.symbol_compare.specs.contracts.form.NumberFormPartialEq.TheImpl as number_eq
use Rattle.symbol_compare.specs.contracts.form.MessageFormPartialEq.TheImpl as message_eq
use Rattle.symbol_compare.specs.contracts.form.SentFormPartialEq.TheImpl as sent_eq
use Rattle.symbol_compare.specs.contracts.form.ValueFormPartialEq.TheImpl as form_eq
use Rattle.symbol_compare.specs.contracts.form.ActFormPartialEq.TheImpl as act_eq

seen_exact : (a b : Seen) → seen_eq.eq-value.it a b ≡ true → a ≡ b
seen_exact a b is =
    let x = and_parts (a.place == b.place) _ is in let y = and_parts (a.cell == b.cell) _ x.1 in
    λ t. record {
      place = eqb-true a.place b.place x.0 t;
      cell = eqb-true a.cell b.cell y.0 t;
      writes =
          eqb-true a.writes b.writes y.1 t;
    }

number_exact : (a b : number_form.NumberForm) → number_eq.eq-value.it a b ≡ true → a ≡ b
number_exact (numbers.Number n) (numbers.Number m) is = ap numbers.Number (eqb-true n m is)
number_exact numbers.Peer numbers.Peer is = refl
number_exact (numbers.Field n) (numbers.Field m) is = ap numbers.Field (eqb-true n m is)
number_exact numbers.Me numbers.Me is = refl
number_exact numbers.Count numbers.Count is = refl
number_exact numbers.Ltime numbers.Ltime is = refl
number_exact (numbers.Taken r k) (numbers.Taken q j) is = let x = and_parts (r == q) _ is in
    ap₂ numbers.Taken (eqb-true r q x.0) (eqb-true k j x.1)
number_exact (numbers.Untaken n) (numbers.Untaken m) is = ap numbers.Untaken (eqb-true n m is)
number_exact (numbers.Element s i) (numbers.Element r j) is = let x = and_parts (seen_eq.eq-value.it s r) _ is in
    ap₂ numbers.Element (seen_exact s r x.0) (eqb-true i j x.1)
number_exact (numbers.Square s a b) (numbers.Square r c d) is =
    let x = and_parts (seen_eq.eq-value.it s r) _ is in let y = and_parts (a == c) _ x.1 in
    λ t. numbers.Square (seen_exact s r x.0 t) (eqb-true a c y.0 t) (eqb-true b d y.1 t)
number_exact (numbers.Rows s i) (numbers.Rows r j) is = let x = and_parts (seen_eq.eq-value.it s r) _ is in
    ap₂ numbers.Rows (seen_exact s r x.0) (eqb-true i j x.1)
number_exact (numbers.Item s a b m) (numbers.Item r c d n) is =
    let x = and_parts (seen_eq.eq-value.it s r) _ is in let y = and_parts (a == c) _ x.1 in let z =
    and_parts (b == d) _ y.1 in
    λ t. numbers.Item (seen_exact s r x.0 t) (eqb-true a c y.0 t) (eqb-true b d z.0 t) (eqb-true m n z.1 t)
number_exact (numbers.Size n) (numbers.Size m) is = ap numbers.Size (eqb-true n m is)
number_exact (numbers.Binary o a b) (numbers.Binary r c d) is =
    let x = and_parts (sameb operator_row.the_type o r) _ is in let y = and_parts (a == c) _ x.1 in
    λ t. numbers.Binary (same_true operator_row.the_type tt o r x.0 t) (eqb-true a c y.0 t) (eqb-true b d y.1 t)
number_exact (numbers.Apply o a) (numbers.Apply r c) is =
    let x = and_parts (sameb function_row.the_type o r) _ is in
    λ t. numbers.Apply (same_true function_row.the_type tt o r x.0 t) (eqb-true a c x.1 t)
number_exact (numbers.Pick a b c) (numbers.Pick d e f) is =
    let x = and_parts (a == d) _ is in let y = and_parts (b == e) _ x.1 in
    λ t. numbers.Pick (eqb-true a d x.0 t) (eqb-true b e y.0 t) (eqb-true c f y.1 t)
number_exact _ _ is = absurd (false≢true is)

message_exact : (a b : message_form.MessageForm) → message_eq.eq-value.it a b ≡ true → a ≡ b
message_exact messages.Body messages.Body is = refl
message_exact messages.Nothing messages.Nothing is = refl
message_exact (messages.Taken n x) (messages.Taken m y) is = let p = and_parts (n == m) _ is in
    ap₂ messages.Taken (eqb-true n m p.0) (load_exact x y p.1)
message_exact (messages.Untaken x) (messages.Untaken y) is = ap messages.Untaken (load_exact x y is)
message_exact (messages.Held s a b m) (messages.Held r c d n) is =
    let x = and_parts (seen_eq.eq-value.it s r) _ is in let y = and_parts (a == c) _ x.1 in let z =
    and_parts (b == d) _ y.1 in
    λ t. messages.Held (seen_exact s r x.0 t) (eqb-true a c y.0 t) (eqb-true b d z.0 t) (load_exact m n z.1 t)
message_exact (messages.Cut a b c) (messages.Cut d e f) is =
    let x = and_parts (a == d) _ is in let y = and_parts (b == e) _ x.1 in
    λ t. messages.Cut (eqb-true a d x.0 t) (eqb-true b e y.0 t) (eqb-true c f y.1 t)
message_exact (messages.Tail a b) (messages.Tail d e) is = let x = and_parts (a == d) _ is in
    ap₂ messages.Tail (eqb-true a d x.0) (eqb-true b e x.1)
message_exact (messages.Join a b) (messages.Join d e) is = let x = and_parts (a == d) _ is in
    ap₂ messages.Join (eqb-true a d x.0) (eqb-true b e x.1)
message_exact _ _ is = absurd (false≢true is)

sent_exact : (a b : sent_form.SentForm) → sent_eq.eq-value.it a b ≡ true → a ≡ b
sent_exact sent.NoNumbers sent.NoNumbers is = refl
sent_exact (sent.Numbers a b) (sent.Numbers d e) is = let x = and_parts (a == d) _ is in
    ap₂ sent.Numbers (eqb-true a d x.0) (eqb-true b e x.1)
sent_exact sent.NoLinks sent.NoLinks is = refl
sent_exact (sent.Link p q a b) (sent.Link r s d e) is =
    let x = and_parts (p == r) _ is in let y = and_parts (q == s) _ x.1 in let z = and_parts (a == d) _ y.1 in
    λ t. sent.Link (eqb-true p r x.0 t) (eqb-true q s y.0 t) (eqb-true a d z.0 t) (eqb-true b e z.1 t)
sent_exact sent.Nothing sent.Nothing is = refl
sent_exact (sent.Message a b) (sent.Message d e) is = let x = and_parts (a == d) _ is in
    ap₂ sent.Message (eqb-true a d x.0) (eqb-true b e x.1)
sent_exact _ _ is = absurd (false≢true is)

pub form_exact : (a b : ValueForm) → form_eq.eq-value.it a b ≡ true → a ≡ b
form_exact (forms.Number a) (forms.Number b) is = ap forms.Number (number_exact a b is)
form_exact (forms.Message a) (forms.Message b) is = ap forms.Message (message_exact a b is)
form_exact (forms.Sent a) (forms.Sent b) is = ap forms.Sent (sent_exact a b is)
form_exact _ _ is = absurd (false≢true is)

pub act_exact : (a b : ActForm) → act_eq.eq-value.it a b ≡ true → a ≡ b
act_exact (acts.Check n) (acts.Check m) is = ap acts.Check (eqb-true n m is)
act_exact (acts.Set p q a b) (acts.Set r s d e) is =
    let x = and_parts (p == r) _ is in let y = and_parts (q == s) _ x.1 in let z = and_parts (a == d) _ y.1 in
    λ t. acts.Set (eqb-true p r x.0 t) (eqb-true q s y.0 t) (eqb-true a d z.0 t) (eqb-true b e z.1 t)
act_exact (acts.SetSquare p q a b c) (acts.SetSquare r s d e f) is =
    let x = and_parts (p == r) _ is in let y = and_parts (q == s) _ x.1 in let z = and_parts (a == d) _ y.1 in let w =
    and_parts (b == e) _ z.1 in
    λ t. acts.SetSquare (eqb-true p r x.0 t) (eqb-true q s y.0 t) (eqb-true a d z.0 t) (eqb-true b e w.0 t)
    (eqb-true c f w.1 t)
act_exact (acts.Push p q a b c) (acts.Push r s d e f) is =
    let x = and_parts (p == r) _ is in let y = and_parts (q == s) _ x.1 in let z = and_parts (a == d) _ y.1 in let w =
    and_parts (b == e) _ z.1 in
    λ t. acts.Push (eqb-true p r x.0 t) (eqb-true q s y.0 t) (eqb-true a d z.0 t) (eqb-true b e w.0 t)
    (eqb-true c f w.1 t)
act_exact (acts.Take p q a) (acts.Take r s d) is =
    let x = and_parts (p == r) _ is in let y = and_parts (q == s) _ x.1 in
    λ t. acts.Take (eqb-true p r x.0 t) (eqb-true q s y.0 t) (eqb-true a d y.1 t)
act_exact (acts.Output p q a b) (acts.Output r s d e) is =
    let x = and_parts (sameb dir_row.the_type p r) _ is in let y = and_parts (sameb kind_row.the_type q s) _ x.1 in
    let z = and_parts (a == d) _ y.1 in
    λ t. acts.Output (same_true dir_row.the_type tt p r x.0 t) (same_true kind_row.the_type tt q s y.0 t)
    (eqb-true a d z.0 t) (eqb-true b e z.1 t)
act_exact _ _ is = absurd (false≢true is)
