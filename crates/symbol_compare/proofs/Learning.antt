-- What is known after one more operation, and its act.
use Rattle.std.proofs.Common.{◌≡◌, ℕ, suc, ◌+◌, ◌<◌, List, [], ◌∷◌, ◌++◌, length, take, Option, Some, refl, sym, ap}
use Rattle.std.proofs.Common.{subst, ◌∙◌, arith}
use Rattle.std.specs.Prelude.{option_to_list, option_map, if◌then◌else◌}
use Rattle.std.specs.List.{AllZip, fold, slice_get}
use Rattle.std.proofs.lemmas.List.{append_assoc, append-nil, length-map, take_all, take_more}
use Rattle.std.proofs.lemmas.List.Sums.{fold-append}
use Rattle.std.proofs.lemmas.Option.{slice_get_within, slice_get-map, get_or_from_slice_get}
use Rattle.guard_mean.specs.Hoist.{is_here}
use Rattle.trace_mean.specs.Trace as trace
use Rattle.trace_core.specs.View.{terms}
use Rattle.trace_core.specs.Links.{chains}
use Rattle.trace_core.specs.Operations.{operation_in}
use Rattle.trace_core.specs.Trees.{trace_tree}
use Rattle.trace_core.specs.declared.operation.Operation.{Operation}
use Rattle.symbol_mean.specs.Symbolic.{Values, no_values, known_after, number_value, message_value, writes_to, act_of}
use Rattle.symbol_mean.specs.Symbolic.{acts_of, symbolic}
use Rattle.symbol_compare.specs.declared.form.ValueForm.{ValueForm}
use Rattle.symbol_compare.specs.declared.form.ActForm.{ActForm}
use Rattle.symbol_compare.specs.declared.walk.Walk.{Walk}
use Rattle.symbol_compare.specs.Counts.{count_in}
use Rattle.symbol_compare.specs.Meant.{a_number, a_message, meanings}
use Rattle.symbol_compare.specs.Table.{Stands, Grown, Made}
use Rattle.symbol_compare.specs.Walk.{values_after, known_to, AreNumbers, AreMessages, KnowsAs, Knows, ActStands}
use Rattle.symbol_compare.specs.Walk.{ActMade}
use Rattle.symbol_compare.specs.Walk.{Learns}
use Rattle.symbol_compare.specs.Steps.{Wrote, Walked, Steps, ActsMade}
use Rattle.symbol_compare.proofs.Growing.{not_grown, grown_on, numbers_grown, messages_grown, zip_last}
use Rattle.symbol_compare.proofs.Acting.{acts_grown}

-- One more of a list.
more_of : {A : Type 0} (xs : List A) (n : ℕ) (x : A) → slice_get xs n ≡ Some x → take (n + 1) xs ≡ take n xs ++ x ∷ []
more_of xs n x e = take_more xs n x (slice_get_within xs n x e) ∙
    ap (λ y. take n xs ++ y ∷ []) (get_or_from_slice_get xs n x x e)

pub values_next : (os : List trace.Operation) (n : ℕ) (o : trace.Operation) → slice_get os n ≡ Some o →
    values_after os (n + 1) ≡ known_after (values_after os n) o
unfolding values_after
values_next os n o e = ap (fold known_after no_values) (more_of os n o e) ∙
    fold-append known_after no_values (take n os) (o ∷ [])

acts_last : (os : List trace.Operation) (o : trace.Operation) (v : Values) → acts_of (os ++ o ∷ []) v ≡ acts_of os v ++
    act_of (fold known_after v os) o
acts_last [] o v = append-nil (act_of v o)
acts_last (x ∷ os) o v = ap (λ does. act_of v x ++ does) (acts_last os o (known_after v x))
    ∙ sym (append_assoc (act_of v x) (acts_of os (known_after v x)) (act_of (fold known_after (known_after v x) os) o))

pub acts_next : (os : List trace.Operation) (n : ℕ) (o : trace.Operation) → slice_get os n ≡ Some o →
    symbolic (take (n + 1) os) ≡ symbolic (take n os) ++ act_of (values_after os n) o
unfolding values_after
acts_next os n o e = ap symbolic (more_of os n o e) ∙ acts_last (take n os) o no_values

zip_append : {A B : Type 0} (R : A → B → Type 0) (xs us : List A) (ys vs : List B) → AllZip R xs ys → AllZip R us vs →
    AllZip R (xs ++ us) (ys ++ vs)
zip_append R [] us [] vs h g = g
zip_append R [] us (y ∷ ys) vs h g = absurd h
zip_append R (x ∷ xs) us [] vs h g = absurd h
zip_append R (x ∷ xs) us (y ∷ ys) vs h g = (h.0, zip_append R xs us ys vs h.1 g)

module _ {a b : List ValueForm} (w u : Walk) (h : Knows a w) (same : u.trace ≡ w.trace) (done : u.done ≡ w.done + 1)
    (takes : u.takes ≡ w.takes) (counts : u.counts ≡ w.counts) where
  pub bind_learns : (k : ℕ) (e : trace.TraceNumber) → u.numbers.items ≡ w.numbers.items ++ k ∷ [] →
      u.messages ≡ w.messages →
      Made a b k (a_number (number_value (known_to w) e)) → Learns a b w u (trace.bind e)
  bind_learns k e numbers messages m = record {
    grows = m.grows;
    same_trace = same;
    done = done;
    knows = record {
      numbers = subst (λ l. AreNumbers (meanings b) l ((known_to w).numbers ++ number_value (known_to w) e ∷ []))
          (sym numbers)
          (zip_last (λ i x. Stands (meanings b) i (a_number x)) w.numbers.items (known_to w).numbers k
          (number_value (known_to w) e) (numbers_grown m.grows w.numbers.items (known_to w).numbers h.numbers)
          m.stands);
      messages = subst (λ l. AreMessages (meanings b) l.items (known_to w).messages) (sym messages)
          (messages_grown m.grows w.messages.items (known_to w).messages h.messages);
      takes = takes ∙ h.takes;
      counts = λ p c. ap (λ l. count_in l p c) counts ∙ h.counts p c;
    };
  }

  pub note_learns : (k : ℕ) (e : trace.TraceMessage) → u.messages.items ≡ w.messages.items ++ k ∷ [] →
      u.numbers ≡ w.numbers →
      Made a b k (a_message (message_value (known_to w) e)) → Learns a b w u (trace.note e)
  note_learns k e messages numbers m = record {
    grows = m.grows;
    same_trace = same;
    done = done;
    knows = record {
      messages = subst (λ l. AreMessages (meanings b) l ((known_to w).messages ++ message_value (known_to w) e ∷ []))
          (sym messages)
          (zip_last (λ i x. Stands (meanings b) i (a_message x)) w.messages.items (known_to w).messages k
          (message_value (known_to w) e) (messages_grown m.grows w.messages.items (known_to w).messages h.messages)
          m.stands);
      numbers = subst (λ l. AreNumbers (meanings b) l.items (known_to w).numbers) (sym numbers)
          (numbers_grown m.grows w.numbers.items (known_to w).numbers h.numbers);
      takes = takes ∙ h.takes;
      counts = λ p c. ap (λ l. count_in l p c) counts ∙ h.counts p c;
    };
  }

-- A write, which may take.
module _ (fs : List ValueForm) (w u : Walk) (p c many : ℕ) (h : Knows fs w) (x : Wrote w u p c many) where
  counts_now : (q d : ℕ) → count_in u.counts q d ≡ writes_to ((p, c) ∷ (known_to w).written) q d
  counts_now q d = x.counts.counts q d ∙ ap (λ n. if is_here q d p c then suc n else n) (h.counts q d)

  write_learns : (o : trace.Operation) → known_after (known_to w) o ≡
      record (known_to w) { takes = many; written = (p, c) ∷ (known_to w).written } →
      Learns fs fs w u o
  write_learns o e = record {
    grows = not_grown fs;
    same_trace = x.same_trace;
    done = x.done;
    knows = subst (λ v. KnowsAs fs u v) (sym e) (record {
      numbers = subst (λ l. AreNumbers (meanings fs) l.items (known_to w).numbers) (sym x.numbers) h.numbers;
      messages = subst (λ l. AreMessages (meanings fs) l.items (known_to w).messages) (sym x.messages) h.messages;
      takes = x.takes;
      counts = counts_now;
    });
  }

  -- The operations that write without taking.
  pub set_learns : many ≡ w.takes → (o : trace.Operation) → known_after (known_to w) o ≡
      record (known_to w) { written = (p, c) ∷ (known_to w).written } →
      Learns fs fs w u o
  set_learns e o is = write_learns o
      (is ∙ (λ t. record (known_to w) { takes = sym (e ∙ h.takes) t; written = (p, c) ∷ (known_to w).written }))

  pub take_learns : many ≡ w.takes + 1 → (i : trace.TraceNumber) → Learns fs fs w u (trace.take p c i)
  take_learns e i = write_learns (trace.take p c i)
      (λ t. record (known_to w) {
        takes = sym (e ∙ ap (λ n. n + 1) h.takes) t;
        written = (p, c) ∷
            (known_to w).written;
      })

pub pass_learns : (fs : List ValueForm) (w u : Walk) (o : trace.Operation) → Knows fs w →
    u ≡ record w { done = w.done + 1 } → known_after (known_to w) o ≡ known_to w →
    Learns fs fs w u o
pass_learns fs w u o h e same = subst (λ z. Learns fs fs w z o) (sym e) (record {
  grows = not_grown fs;
  same_trace = refl;
  done = refl;
  knows = subst (λ v. KnowsAs fs (record w { done = w.done + 1 }) v) (sym same)
      (record { numbers = h.numbers; messages = h.messages; takes = h.takes; counts = h.counts });
})

-- The operation of a number, as its tree.
pub operation_there : (w : Walk) (n : ℕ) (op : Operation) → slice_get w.trace.now.operations.items n ≡ Some op →
    slice_get (trace_tree w.trace.now) n ≡ Some (operation_in (terms w.trace.now.nodes) (chains w.trace.now.links) op)
operation_there w n op is = slice_get-map (operation_in (terms w.trace.now.nodes) (chains w.trace.now.links))
    w.trace.now.operations.items n
    ∙ ap (option_map (operation_in (terms w.trace.now.nodes) (chains w.trace.now.links))) is

known_then : (w u : Walk) (o : trace.Operation) → slice_get (trace_tree w.trace.now) w.done ≡ Some o →
    u.trace ≡ w.trace → u.done ≡ w.done + 1 →
    known_after (known_to w) o ≡ known_to u
known_then w u o there same more = sym (values_next (trace_tree w.trace.now) w.done o there)
    ∙ (λ t. values_after (trace_tree (sym same t).now) (sym more t))

acts_then : (w u : Walk) (o : trace.Operation) → slice_get (trace_tree w.trace.now) w.done ≡ Some o →
    u.trace ≡ w.trace → u.done ≡ w.done + 1 →
    symbolic (take w.done (trace_tree w.trace.now)) ++ act_of (known_to w) o ≡
    symbolic (take u.done (trace_tree u.trace.now))
acts_then w u o there same more = sym (acts_next (trace_tree w.trace.now) w.done o there)
    ∙ (λ t. symbolic (take (sym more t) (trace_tree (sym same t).now)))

-- One more operation is done, and its act put down.
pub stepped : (a b c : List ValueForm) (w u : Walk) (acts new : List ActForm) (made : Option ActForm)
    (o : trace.Operation) →
    slice_get (trace_tree w.trace.now) w.done ≡ Some o → Walked a w acts → ActMade a b (act_of (known_to w) o) made →
    Learns b c w u o →
    new ≡ acts ++ option_to_list made → Steps a c w u new
stepped a b c w u acts new made o there h m l e = record {
  grows = grown_on m.grows l.grows;
  same_trace = l.same_trace;
  done = l.done;
  walked = record {
    knows = subst (λ v. KnowsAs c u v) (known_then w u o there l.same_trace l.done) l.knows;
    stand = subst (λ xs. AllZip (ActStands (meanings c)) xs (symbolic (take u.done (trace_tree u.trace.now)))) (sym e)
        (subst (λ does. AllZip (ActStands (meanings c)) (acts ++ option_to_list made) does)
        (acts_then w u o there l.same_trace l.done)
        (acts_grown l.grows (acts ++ option_to_list made)
        (symbolic (take w.done (trace_tree w.trace.now)) ++ act_of (known_to w) o)
        (zip_append (ActStands (meanings b)) acts (option_to_list made)
        (symbolic (take w.done (trace_tree w.trace.now))) (act_of (known_to w) o)
        (acts_grown m.grows acts (symbolic (take w.done (trace_tree w.trace.now))) h.stand) m.stand)));
  };
}

-- Before all operations nothing is known.
none_known : (os : List trace.Operation) (n : ℕ) → n ≡ 0 → values_after os n ≡ no_values
unfolding values_after
none_known os n e = ap (λ k. fold known_after no_values (take k os)) e

none_done : (os : List trace.Operation) (n : ℕ) → n ≡ 0 → [] ≡ symbolic (take n os)
none_done os n e = ap (λ k. symbolic (take k os)) (sym e)

pub begun : (fs : List ValueForm) (w : Walk) → w.done ≡ 0 → w.numbers.items ≡ [] → w.messages.items ≡ [] → w.takes ≡ 0 →
    ((p c : ℕ) → count_in w.counts p c ≡ 0) →
    Walked fs w []
begun fs w done numbers messages takes counts = record {
  knows = subst (λ v. KnowsAs fs w v) (sym (none_known (trace_tree w.trace.now) w.done done)) (record {
    numbers = subst (λ l. AreNumbers (meanings fs) l []) (sym numbers) tt;
    messages = subst (λ l. AreMessages (meanings fs) l []) (sym messages) tt;
    takes = takes;
    counts = counts;
  });
  stand = subst (λ does. AllZip (ActStands (meanings fs)) [] does) (none_done (trace_tree w.trace.now) w.done done) tt;
}

-- Along all operations.
pub more_left : (w u : Walk) (n many : ℕ) → u.trace ≡ w.trace → u.done ≡ n → n < many →
    many ≡ length w.trace.now.operations.items →
    u.done < length u.trace.now.operations.items
more_left w u n many same done lt long =
    let there = ap (λ r. length r.now.operations.items) same in omega (arith, done, lt, long, there)

pub went : (a b : List ValueForm) (w u : Walk) (acts : List ActForm) (n : ℕ) → Grown a b → u.trace ≡ w.trace →
    u.done ≡ n → Walked b u acts →
    n ≡ length w.trace.now.operations.items → ActsMade a b (symbolic (trace_tree w.trace.now)) acts
went a b w u acts n g same done h long = record {
  grows = g;
  stand = subst (λ does. AllZip (ActStands (meanings b)) acts does)
      ((λ t. symbolic (take ((done ∙ long) t) (trace_tree (same t).now)))
      ∙ ap symbolic (take_all (length w.trace.now.operations.items) (trace_tree w.trace.now)
      (omega (arith, trace_long w)))) h.stand;
}
  where
    trace_long : (w : Walk) → length (trace_tree w.trace.now) ≡ length w.trace.now.operations.items
    trace_long w = length-map w.trace.now.operations.items
        (operation_in (terms w.trace.now.nodes) (chains w.trace.now.links))

pub stepped_at : (a b c : List ValueForm) (w u : Walk) (acts new : List ActForm) (made : Option ActForm)
    (op : Operation) (turn : ℕ) → w.done ≡ turn →
    slice_get w.trace.now.operations.items turn ≡ Some op → Walked a w acts →
    ActMade a b (act_of (known_to w) (operation_in (terms w.trace.now.nodes) (chains w.trace.now.links) op)) made →
    Learns b c w u (operation_in (terms w.trace.now.nodes) (chains w.trace.now.links) op) →
    new ≡ acts ++ option_to_list made → Steps a c w u new
stepped_at a b c w u acts new made op turn done is h m l e =
    stepped a b c w u acts new made (operation_in (terms w.trace.now.nodes) (chains w.trace.now.links) op)
    (operation_there w w.done op (ap (slice_get w.trace.now.operations.items) done ∙ is)) h m l e
