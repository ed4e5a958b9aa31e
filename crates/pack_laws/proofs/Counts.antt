-- How many writes and outputs a trace has is told by its symbolic list.
use Rattle.std.proofs.Common.{◌≡◌, ℕ, ◌+◌, List, [], ◌∷◌, refl, sym, ap, ◌∙◌}
use Rattle.std.specs.List.{sum_by}
use Rattle.std.proofs.lemmas.List.Sums.{sum_by-cons, sum_by-append}
use Rattle.trace_mean.specs.Trace.{Operation, bind, note, check, set, set_square, push, take, output}
use Rattle.trace_mean.specs.Counts.{an_output, trace_outputs}
use Rattle.bypass_laws.specs.Stack.{a_write, trace_writes}
use Rattle.symbol_mean.specs.Value as value
use Rattle.symbol_mean.specs.Value.{Act}
use Rattle.symbol_mean.specs.Symbolic.{Values, no_values, known_after, act_of, acts_of, symbolic}

abbrev act_writes : Act → ℕ
act_writes (value.check e) = 0
act_writes (value.output dir kind numbers message) = 0
act_writes _ = 1

abbrev act_outputs : Act → ℕ
act_outputs (value.output dir kind numbers message) = 1
act_outputs _ = 0

-- what is so of each operation is so of all
told_by : (f : Operation → ℕ) (g : Act → ℕ) → ((v : Values) (o : Operation) → f o ≡ sum_by g (act_of v o)) →
    (os : List Operation) (v : Values) →
    sum_by f os ≡ sum_by g (acts_of os v)
told_by f g one [] v = refl
told_by f g one (o ∷ os) v = sum_by-cons f o os ∙ (λ z. one v o z + told_by f g one os (known_after v o) z)
    ∙ sym (sum_by-append g (act_of v o) (acts_of os (known_after v o)))

one_write : (v : Values) (o : Operation) → a_write o ≡ sum_by act_writes (act_of v o)
one_write v (bind e) = refl
one_write v (note m) = refl
one_write v (check e) = refl
one_write v (set p c e x) = refl
one_write v (set_square p c r k x) = refl
one_write v (push p c e numbers message) = refl
one_write v (take p c e) = refl
one_write v (output dir kind numbers message) = refl

one_output : (v : Values) (o : Operation) → an_output o ≡ sum_by act_outputs (act_of v o)
one_output v (bind e) = refl
one_output v (note m) = refl
one_output v (check e) = refl
one_output v (set p c e x) = refl
one_output v (set_square p c r k x) = refl
one_output v (push p c e numbers message) = refl
one_output v (take p c e) = refl
one_output v (output dir kind numbers message) = refl

pub same_writes : (a b : List Operation) → symbolic a ≡ symbolic b → trace_writes a ≡ trace_writes b
same_writes a b same = told_by a_write act_writes one_write a no_values ∙ ap (sum_by act_writes) same ∙
    sym (told_by a_write act_writes one_write b no_values)

pub same_outputs : (a b : List Operation) → symbolic a ≡ symbolic b → trace_outputs a ≡ trace_outputs b
same_outputs a b same = told_by an_output act_outputs one_output a no_values ∙ ap (sum_by act_outputs) same ∙
    sym (told_by an_output act_outputs one_output b no_values)
