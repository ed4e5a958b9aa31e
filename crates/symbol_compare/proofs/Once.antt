-- Numbers of a table that stand for one value are equal. A form is read off the value for which it stands, but for the
-- numbers of its parts; these are equal by induction on the value.
use Rattle.std.proofs.Common.{◌≡◌, ℕ, suc, ◌+◌, List, [], ◌∷◌, length, map, Option, Some, None, refl, sym, ap, subst}
use Rattle.std.proofs.Common.{◌∙◌, arith}
use Rattle.std.specs.List.{slice_get, range_with_len}
use Rattle.std.specs.Option.{unwrap_or}
use Rattle.std.proofs.lemmas.Option.{slice_get_within}
use Rattle.std.proofs.lemmas.List.{length-map}
use Rattle.std.proofs.lemmas.List.FromFn.{length-range_with_len}
use Rattle.layer_mean.specs.Tree.{Carried, part, whole}
use Rattle.layer_mean.specs.Visit.{none_header}
use Rattle.symbol_mean.specs.Value as value
use Rattle.symbol_mean.specs.Value.{NumberValue, MessageValue, LinkValue, ChainedValue, Act}
use Rattle.trace_core.specs.declared.load.Load.{Load}
use Rattle.trace_core.specs.declared.load.Load.TheVariants as loads
use Rattle.trace_core.specs.View.{load_tree}
use Rattle.trace_core.proofs.Earlier.{some_of}
use Rattle.symbol_compare.specs.declared.form.Seen.{Seen}
use Rattle.symbol_compare.specs.declared.form.NumberForm as number_form
use Rattle.symbol_compare.specs.declared.form.NumberForm.TheVariants as numbers
use Rattle.symbol_compare.specs.declared.form.MessageForm as message_form
use Rattle.symbol_compare.specs.declared.form.MessageForm.TheVariants as messages
use Rattle.symbol_compare.specs.declared.form.SentForm.TheVariants as sent
use Rattle.symbol_compare.specs.declared.form.ValueForm.{ValueForm}
use Rattle.symbol_compare.specs.declared.form.ValueForm.TheVariants as forms
use Rattle.symbol_compare.specs.declared.form.ActForm.{ActForm}
use Rattle.symbol_compare.specs.declared.form.ActForm.TheVariants as acts
use Rattle.symbol_compare.specs.Meant.{Meant, a_number, a_message, a_row, a_chain, a_sending, meant_of, meanings}
use Rattle.symbol_compare.specs.Meant.{act_in}
use Rattle.symbol_compare.specs.Table.{Stands, IsWellNumber, IsWellMessage, IsWell, AreWell, IsWellAct}
use Rattle.symbol_compare.specs.Set.{AreOne}
use Rattle.symbol_compare.proofs.Earlier.{meanings_long, form_found}

-- What rows carry is held in one way.
abbrev load_back : Carried → Load
load_back part = loads.Part
load_back (whole []) = loads.Bare
load_back (whole (h ∷ hs)) = loads.Above h.layer (length hs)

above_back : (first more : ℕ) → load_back (whole (map none_header (range_with_len first (more + 1)))) ≡
    loads.Above first more
above_back first more =
    let e : more + 1 ≡ suc more = omega arith in
    ap (λ n. load_back (whole (map none_header (range_with_len first n)))) e
    ∙ ap (loads.Above first)
    (length-map (range_with_len (first + 1) more) none_header ∙ length-range_with_len (first + 1) more)

load_again : (l : Load) → load_back (load_tree l) ≡ l
load_again loads.Part = refl
load_again loads.Bare = refl
load_again (loads.Above first more) = above_back first more

abbrev seen_back : value.Seen → Seen
seen_back s = record { place = s.place; cell = s.cell; writes = s.writes }

-- A form, but for the numbers of its parts, of which it is known what they stand for.
record Reads1 {X : Type 0} (ms : List Meant) (make : ℕ → X) (a : Meant) (x : X) : Type 0 where
  pub one : ℕ
  pub is : x ≡ make one
  pub first : Stands ms one a

record Reads2 {X : Type 0} (ms : List Meant) (make : ℕ → ℕ → X) (a b : Meant) (x : X) : Type 0 where
  pub one : ℕ
  pub two : ℕ
  pub is : x ≡ make one two
  pub first : Stands ms one a
  pub second : Stands ms two b

record Reads3 {X : Type 0} (ms : List Meant) (make : ℕ → ℕ → ℕ → X) (a b c : Meant) (x : X) : Type 0 where
  pub one : ℕ
  pub two : ℕ
  pub three : ℕ
  pub is : x ≡ make one two three
  pub first : Stands ms one a
  pub second : Stands ms two b
  pub third : Stands ms three c

abbrev Once : List Meant → Meant → Type 0
Once ms a = (i j : ℕ) → Stands ms i a → Stands ms j a → i ≡ j

same1 : {X : Type 0} (ms : List Meant) (make : ℕ → X) (a : Meant) (x y : X) → Reads1 ms make a x → Reads1 ms make a y →
    Once ms a → x ≡ y
same1 ms make a x y r q ea = r.is ∙ ap make (ea r.one q.one r.first q.first) ∙ sym q.is

same2 : {X : Type 0} (ms : List Meant) (make : ℕ → ℕ → X) (a b : Meant) (x y : X) → Reads2 ms make a b x →
    Reads2 ms make a b y →
    Once ms a → Once ms b → x ≡ y
same2 ms make a b x y r q ea eb =
    r.is ∙ (λ t. make (ea r.one q.one r.first q.first t) (eb r.two q.two r.second q.second t)) ∙ sym q.is

same3 : {X : Type 0} (ms : List Meant) (make : ℕ → ℕ → ℕ → X) (a b c : Meant) (x y : X) → Reads3 ms make a b c x →
    Reads3 ms make a b c y →
    Once ms a → Once ms b → Once ms c → x ≡ y
same3 ms make a b c x y r q ea eb ec =
    r.is ∙ (λ t. make (ea r.one q.one r.first q.first t) (eb r.two q.two r.second q.second t)
    (ec r.three q.three r.third q.third t)) ∙ sym q.is

-- The forms that stand for a value.
abbrev ReadsNumber : List Meant → NumberValue → ValueForm → Type 0
ReadsNumber ms (value.number n) x = x ≡ forms.Number (numbers.Number n)
ReadsNumber ms value.peer x = x ≡ forms.Number numbers.Peer
ReadsNumber ms (value.field n) x = x ≡ forms.Number (numbers.Field n)
ReadsNumber ms value.me x = x ≡ forms.Number numbers.Me
ReadsNumber ms value.count x = x ≡ forms.Number numbers.Count
ReadsNumber ms value.ltime x = x ≡ forms.Number numbers.Ltime
ReadsNumber ms (value.taken_number (Some row) k) x = x ≡ forms.Number (numbers.Taken row k)
ReadsNumber ms (value.taken_number None k) x = x ≡ forms.Number (numbers.Untaken k)
ReadsNumber ms (value.element s a) x = Reads1 ms (λ i. forms.Number (numbers.Element (seen_back s) i)) (a_number a) x
ReadsNumber ms (value.square s a b) x = Reads2 ms (λ i j. forms.Number (numbers.Square (seen_back s) i j)) (a_number a)
    (a_number b) x
ReadsNumber ms (value.rows s a) x = Reads1 ms (λ i. forms.Number (numbers.Rows (seen_back s) i)) (a_number a) x
ReadsNumber ms (value.item s a b k) x = Reads2 ms (λ i j. forms.Number (numbers.Item (seen_back s) i j k)) (a_number a)
    (a_number b) x
ReadsNumber ms (value.size m) x = Reads1 ms (λ i. forms.Number (numbers.Size i)) (a_message m) x
ReadsNumber ms (value.binary o a b) x = Reads2 ms (λ i j. forms.Number (numbers.Binary o i j)) (a_number a) (a_number b)
    x
ReadsNumber ms (value.apply f a) x = Reads1 ms (λ i. forms.Number (numbers.Apply f i)) (a_number a) x
ReadsNumber ms (value.pick a b c) x = Reads3 ms (λ i j k. forms.Number (numbers.Pick i j k)) (a_number a) (a_number b)
    (a_number c) x

abbrev ReadsMessage : List Meant → MessageValue → ValueForm → Type 0
ReadsMessage ms value.body x = x ≡ forms.Message messages.Body
ReadsMessage ms value.nothing x = x ≡ forms.Message messages.Nothing
ReadsMessage ms (value.taken_message (Some row) r) x = x ≡ forms.Message (messages.Taken row (load_back r))
ReadsMessage ms (value.taken_message None r) x = x ≡ forms.Message (messages.Untaken (load_back r))
ReadsMessage ms (value.held s a b r) x =
    Reads2 ms (λ i j. forms.Message (messages.Held (seen_back s) i j (load_back r))) (a_number a) (a_number b) x
ReadsMessage ms (value.cut m a b) x = Reads3 ms (λ i j k. forms.Message (messages.Cut i j k)) (a_message m) (a_number a)
    (a_number b) x
ReadsMessage ms (value.tail m a) x = Reads2 ms (λ i j. forms.Message (messages.Tail i j)) (a_message m) (a_number a) x
ReadsMessage ms (value.join m n) x = Reads2 ms (λ i j. forms.Message (messages.Join i j)) (a_message m) (a_message n) x

abbrev Reads : List Meant → Meant → ValueForm → Type 0
Reads ms (a_number v) x = ReadsNumber ms v x
Reads ms (a_message v) x = ReadsMessage ms v x
Reads ms (a_row []) x = x ≡ forms.Sent sent.NoNumbers
Reads ms (a_row (v ∷ vs)) x = Reads2 ms (λ i j. forms.Sent (sent.Numbers i j)) (a_number v) (a_row vs) x
Reads ms (a_chain []) x = x ≡ forms.Sent sent.NoLinks
Reads ms (a_chain (l ∷ ls)) x = Reads2 ms (λ i j. forms.Sent (sent.Link l.place l.tag i j)) (a_row l.fields)
    (a_chain ls) x
Reads ms (a_sending None) x = x ≡ forms.Sent sent.Nothing
Reads ms (a_sending (Some m)) x = Reads2 ms (λ i j. forms.Sent (sent.Message i j)) (a_chain m.chain)
    (a_message m.message) x

-- A form is one of those that stand for what it stands for.
number_reads : (ms : List Meant) (x : number_form.NumberForm) → IsWellNumber ms x →
    Reads ms (meant_of ms (forms.Number x)) (forms.Number x)
number_reads ms (numbers.Number n) b = refl
number_reads ms numbers.Peer b = refl
number_reads ms (numbers.Field n) b = refl
number_reads ms numbers.Me b = refl
number_reads ms numbers.Count b = refl
number_reads ms numbers.Ltime b = refl
number_reads ms (numbers.Taken row k) b = refl
number_reads ms (numbers.Untaken k) b = refl
number_reads ms (numbers.Element s i) b = record { one = i; is = refl; first = b }
number_reads ms (numbers.Square s i j) b = record { one = i; two = j; is = refl; first = b.0; second = b.1 }
number_reads ms (numbers.Rows s i) b = record { one = i; is = refl; first = b }
number_reads ms (numbers.Item s i j k) b = record { one = i; two = j; is = refl; first = b.0; second = b.1 }
number_reads ms (numbers.Size i) b = record { one = i; is = refl; first = b }
number_reads ms (numbers.Binary o i j) b = record { one = i; two = j; is = refl; first = b.0; second = b.1 }
number_reads ms (numbers.Apply f i) b = record { one = i; is = refl; first = b }
number_reads ms (numbers.Pick i j k) b =
    record { one = i; two = j; three = k; is = refl; first = b.0; second = b.1; third = b.2 }

message_reads : (ms : List Meant) (x : message_form.MessageForm) → IsWellMessage ms x →
    Reads ms (meant_of ms (forms.Message x)) (forms.Message x)
message_reads ms messages.Body b = refl
message_reads ms messages.Nothing b = refl
message_reads ms (messages.Taken row r) b = λ t. forms.Message (messages.Taken row (sym (load_again r) t))
message_reads ms (messages.Untaken r) b = λ t. forms.Message (messages.Untaken (sym (load_again r) t))
message_reads ms (messages.Held s i j r) b =
    record {
      one = i;
      two = j;
      is = λ t. forms.Message (messages.Held s i j (sym (load_again r) t));
      first =
          b.0;
      second = b.1;
    }
message_reads ms (messages.Cut i j k) b =
    record { one = i; two = j; three = k; is = refl; first = b.0; second = b.1; third = b.2 }
message_reads ms (messages.Tail i j) b = record { one = i; two = j; is = refl; first = b.0; second = b.1 }
message_reads ms (messages.Join i j) b = record { one = i; two = j; is = refl; first = b.0; second = b.1 }

form_reads : (ms : List Meant) (x : ValueForm) → IsWell ms x → Reads ms (meant_of ms x) x
form_reads ms (forms.Number x) b = number_reads ms x b
form_reads ms (forms.Message x) b = message_reads ms x b
form_reads ms (forms.Sent sent.NoNumbers) b = refl
form_reads ms (forms.Sent (sent.Numbers i j)) b = record { one = i; two = j; is = refl; first = b.0; second = b.1 }
form_reads ms (forms.Sent sent.NoLinks) b = refl
form_reads ms (forms.Sent (sent.Link p q i j)) b = record { one = i; two = j; is = refl; first = b.0; second = b.1 }
form_reads ms (forms.Sent sent.Nothing) b = refl
form_reads ms (forms.Sent (sent.Message i j)) b = record { one = i; two = j; is = refl; first = b.0; second = b.1 }

some_is : {A : Type 0} (y x : A) → Some y ≡ Some x → y ≡ x
some_is y x e = ap (λ o. unwrap_or o y) e

-- In a table of which no form comes twice.
module _ (fs : List ValueForm) (w : AreWell [] fs) (u : AreOne fs) where
  abbrev ms : List Meant
  ms = meanings fs

  abbrev Same : Meant → Type 0
  Same v = (x y : ValueForm) → Reads ms v x → Reads ms v y → x ≡ y

  record Found (k : ℕ) (v : Meant) : Type 0 where
    pub form : ValueForm
    pub there : slice_get fs k ≡ Some form
    pub reads : Reads ms v form

  found : (k : ℕ) (v : Meant) → Stands ms k v → Found k v
  found k v s =
      let x = some_of fs k (omega (arith, slice_get_within ms k v s.stands, meanings_long fs)) in
      let i = form_found fs k x.0 w x.1 in
      record {
        form = x.0;
        there = x.1;
        reads = subst (λ z. Reads ms z x.0) (some_is (meant_of ms x.0) v (sym i.stands ∙ s.stands))
            (form_reads ms x.0 i.well);
      }

  once : (v : Meant) → Same v → Once ms v
  once v same i j si sj =
      let x = found i v si in
      let y = found j v sj in
      u.one i j x.form y.form x.there y.there (same x.form y.form x.reads y.reads)

  mutual
    number_same : (v : NumberValue) → Same (a_number v)
    number_same (value.number n) x y r q = r ∙ sym q
    number_same value.peer x y r q = r ∙ sym q
    number_same (value.field n) x y r q = r ∙ sym q
    number_same value.me x y r q = r ∙ sym q
    number_same value.count x y r q = r ∙ sym q
    number_same value.ltime x y r q = r ∙ sym q
    number_same (value.taken_number (Some row) k) x y r q = r ∙ sym q
    number_same (value.taken_number None k) x y r q = r ∙ sym q
    number_same (value.element s a) x y r q = same1 ms _ (a_number a) x y r q (once (a_number a) (number_same a))
    number_same (value.square s a b) x y r q =
        same2 ms _ (a_number a) (a_number b) x y r q (once (a_number a) (number_same a))
        (once (a_number b) (number_same b))
    number_same (value.rows s a) x y r q = same1 ms _ (a_number a) x y r q (once (a_number a) (number_same a))
    number_same (value.item s a b k) x y r q =
        same2 ms _ (a_number a) (a_number b) x y r q (once (a_number a) (number_same a))
        (once (a_number b) (number_same b))
    number_same (value.size m) x y r q = same1 ms _ (a_message m) x y r q (once (a_message m) (message_same m))
    number_same (value.binary o a b) x y r q =
        same2 ms _ (a_number a) (a_number b) x y r q (once (a_number a) (number_same a))
        (once (a_number b) (number_same b))
    number_same (value.apply f a) x y r q = same1 ms _ (a_number a) x y r q (once (a_number a) (number_same a))
    number_same (value.pick a b c) x y r q =
        same3 ms _ (a_number a) (a_number b) (a_number c) x y r q (once (a_number a) (number_same a))
        (once (a_number b) (number_same b)) (once (a_number c) (number_same c))

    message_same : (v : MessageValue) → Same (a_message v)
    message_same value.body x y r q = r ∙ sym q
    message_same value.nothing x y r q = r ∙ sym q
    message_same (value.taken_message (Some row) l) x y r q = r ∙ sym q
    message_same (value.taken_message None l) x y r q = r ∙ sym q
    message_same (value.held s a b l) x y r q =
        same2 ms _ (a_number a) (a_number b) x y r q (once (a_number a) (number_same a))
        (once (a_number b) (number_same b))
    message_same (value.cut m a b) x y r q =
        same3 ms _ (a_message m) (a_number a) (a_number b) x y r q (once (a_message m) (message_same m))
        (once (a_number a) (number_same a)) (once (a_number b) (number_same b))
    message_same (value.tail m a) x y r q =
        same2 ms _ (a_message m) (a_number a) x y r q (once (a_message m) (message_same m))
        (once (a_number a) (number_same a))
    message_same (value.join m n) x y r q =
        same2 ms _ (a_message m) (a_message n) x y r q (once (a_message m) (message_same m))
        (once (a_message n) (message_same n))

  row_same : (vs : List NumberValue) → Same (a_row vs)
  row_same [] x y r q = r ∙ sym q
  row_same (v ∷ vs) x y r q = same2 ms _ (a_number v) (a_row vs) x y r q (once (a_number v) (number_same v))
      (once (a_row vs) (row_same vs))

  chain_same : (ls : List LinkValue) → Same (a_chain ls)
  chain_same [] x y r q = r ∙ sym q
  chain_same (l ∷ ls) x y r q =
      same2 ms _ (a_row l.fields) (a_chain ls) x y r q (once (a_row l.fields) (row_same l.fields))
      (once (a_chain ls) (chain_same ls))

  sending_same : (m : Option ChainedValue) → Same (a_sending m)
  sending_same None x y r q = r ∙ sym q
  sending_same (Some m) x y r q =
      same2 ms _ (a_chain m.chain) (a_message m.message) x y r q (once (a_chain m.chain) (chain_same m.chain))
      (once (a_message m.message) (message_same m.message))

  number_once : (v : NumberValue) → Once ms (a_number v)
  number_once v = once (a_number v) (number_same v)

  row_once : (vs : List NumberValue) → Once ms (a_row vs)
  row_once vs = once (a_row vs) (row_same vs)

  sending_once : (m : Option ChainedValue) → Once ms (a_sending m)
  sending_once m = once (a_sending m) (sending_same m)

  -- Acts, too.
  abbrev ReadsAct : Act → ActForm → Type 0
  ReadsAct (value.check a) x = Reads1 ms acts.Check (a_number a) x
  ReadsAct (value.set p c a b) x = Reads2 ms (acts.Set p c) (a_number a) (a_number b) x
  ReadsAct (value.set_square p c a b d) x = Reads3 ms (acts.SetSquare p c) (a_number a) (a_number b) (a_number d) x
  ReadsAct (value.push p c a vs m) x = Reads3 ms (acts.Push p c) (a_number a) (a_row vs) (a_sending m) x
  ReadsAct (value.take p c a) x = Reads1 ms (acts.Take p c) (a_number a) x
  ReadsAct (value.output d k vs m) x = Reads2 ms (acts.Output d k) (a_row vs) (a_sending m) x

  act_reads : (x : ActForm) → IsWellAct ms x → ReadsAct (act_in ms x) x
  act_reads (acts.Check i) b = record { one = i; is = refl; first = b }
  act_reads (acts.Set p c i j) b = record { one = i; two = j; is = refl; first = b.0; second = b.1 }
  act_reads (acts.SetSquare p c i j k) b =
      record { one = i; two = j; three = k; is = refl; first = b.0; second = b.1; third = b.2 }
  act_reads (acts.Push p c i j k) b =
      record { one = i; two = j; three = k; is = refl; first = b.0; second = b.1; third = b.2 }
  act_reads (acts.Take p c i) b = record { one = i; is = refl; first = b }
  act_reads (acts.Output d k i j) b = record { one = i; two = j; is = refl; first = b.0; second = b.1 }

  act_same : (v : Act) (x y : ActForm) → ReadsAct v x → ReadsAct v y → x ≡ y
  act_same (value.check a) x y r q = same1 ms _ (a_number a) x y r q (number_once a)
  act_same (value.set p c a b) x y r q = same2 ms _ (a_number a) (a_number b) x y r q (number_once a) (number_once b)
  act_same (value.set_square p c a b d) x y r q =
      same3 ms _ (a_number a) (a_number b) (a_number d) x y r q (number_once a) (number_once b) (number_once d)
  act_same (value.push p c a vs m) x y r q = same3 ms _ (a_number a) (a_row vs) (a_sending m) x y r q (number_once a)
      (row_once vs) (sending_once m)
  act_same (value.take p c a) x y r q = same1 ms _ (a_number a) x y r q (number_once a)
  act_same (value.output d k vs m) x y r q = same2 ms _ (a_row vs) (a_sending m) x y r q (row_once vs) (sending_once m)

  -- Acts that are equal have equal numbers.
  pub act_once : (x y : ActForm) → IsWellAct ms x → IsWellAct ms y → act_in ms x ≡ act_in ms y → x ≡ y
  act_once x y b d e = act_same (act_in ms x) x y (act_reads x b) (subst (λ v. ReadsAct v y) (sym e) (act_reads y d))
