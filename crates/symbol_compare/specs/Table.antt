-- Tables of values that grow.
use Rattle.std.specs.Prelude.{ℕ, ◌≡◌, List, [], ◌∷◌, ◌++◌, Some, Result, Ok, Err}
use Rattle.std.specs.List.{slice_get}
use Rattle.symbol_compare.specs.declared.form.NumberForm as number_form
use Rattle.symbol_compare.specs.declared.form.NumberForm.TheVariants as numbers
use Rattle.symbol_compare.specs.declared.form.MessageForm as message_form
use Rattle.symbol_compare.specs.declared.form.MessageForm.TheVariants as messages
use Rattle.symbol_compare.specs.declared.form.SentForm as sent_form
use Rattle.symbol_compare.specs.declared.form.SentForm.TheVariants as sent
use Rattle.symbol_compare.specs.declared.form.ValueForm.{ValueForm}
use Rattle.symbol_compare.specs.declared.form.ValueForm.TheVariants as forms
use Rattle.symbol_compare.specs.declared.form.ActForm.{ActForm}
use Rattle.symbol_compare.specs.declared.form.ActForm.TheVariants as acts
use Rattle.symbol_compare.specs.Meant.{Meant, a_number, a_message, a_row, a_chain, a_sending, number_in, message_in}
use Rattle.symbol_compare.specs.Meant.{row_in, chain_in, sending_in, with_next, meanings}

-- This is what a number stands for.
pub record Stands (ms : List Meant) (k : ℕ) (x : Meant) : Type 0 where
  pub stands : slice_get ms k ≡ Some x

-- A number stands for a value of its kind.
abbrev pub IsNumber : List Meant → ℕ → Type 0
IsNumber ms k = Stands ms k (a_number (number_in ms k))

abbrev pub IsMessage : List Meant → ℕ → Type 0
IsMessage ms k = Stands ms k (a_message (message_in ms k))

abbrev pub IsRow : List Meant → ℕ → Type 0
IsRow ms k = Stands ms k (a_row (row_in ms k))

abbrev pub IsChain : List Meant → ℕ → Type 0
IsChain ms k = Stands ms k (a_chain (chain_in ms k))

abbrev pub IsSending : List Meant → ℕ → Type 0
IsSending ms k = Stands ms k (a_sending (sending_in ms k))

-- A form's parts are there, and are what they must be.
abbrev pub IsWellNumber : List Meant → number_form.NumberForm → Type 0
IsWellNumber ms (numbers.Element s index) = IsNumber ms index
IsWellNumber ms (numbers.Square s row column) = IsNumber ms row × IsNumber ms column
IsWellNumber ms (numbers.Rows s index) = IsNumber ms index
IsWellNumber ms (numbers.Item s index row k) = IsNumber ms index × IsNumber ms row
IsWellNumber ms (numbers.Size m) = IsMessage ms m
IsWellNumber ms (numbers.Binary operator left right) = IsNumber ms left × IsNumber ms right
IsWellNumber ms (numbers.Apply function operand) = IsNumber ms operand
IsWellNumber ms (numbers.Pick condition first second) = IsNumber ms condition × IsNumber ms first × IsNumber ms second
IsWellNumber ms _ = Unit {0}

abbrev pub IsWellMessage : List Meant → message_form.MessageForm → Type 0
IsWellMessage ms (messages.Held s index row load) = IsNumber ms index × IsNumber ms row
IsWellMessage ms (messages.Cut m from n) = IsMessage ms m × IsNumber ms from × IsNumber ms n
IsWellMessage ms (messages.Tail m from) = IsMessage ms m × IsNumber ms from
IsWellMessage ms (messages.Join first second) = IsMessage ms first × IsMessage ms second
IsWellMessage ms _ = Unit {0}

abbrev pub IsWellSent : List Meant → sent_form.SentForm → Type 0
IsWellSent ms (sent.Numbers first rest) = IsNumber ms first × IsRow ms rest
IsWellSent ms (sent.Link place tag fields rest) = IsRow ms fields × IsChain ms rest
IsWellSent ms (sent.Message chain message) = IsChain ms chain × IsMessage ms message
IsWellSent ms _ = Unit {0}

abbrev pub IsWell : List Meant → ValueForm → Type 0
IsWell ms (forms.Number x) = IsWellNumber ms x
IsWell ms (forms.Message x) = IsWellMessage ms x
IsWell ms (forms.Sent x) = IsWellSent ms x

-- Each form's parts are before it.
abbrev pub AreWell : List Meant → List ValueForm → Type 0
AreWell ms [] = Unit {0}
AreWell ms (x ∷ xs) = IsWell ms x × AreWell (with_next ms x) xs

-- The values of an act are there.
abbrev pub IsWellAct : List Meant → ActForm → Type 0
IsWellAct ms (acts.Check n) = IsNumber ms n
IsWellAct ms (acts.Set place cell index n) = IsNumber ms index × IsNumber ms n
IsWellAct ms (acts.SetSquare place cell row column n) = IsNumber ms row × IsNumber ms column × IsNumber ms n
IsWellAct ms (acts.Push place cell index row message) = IsNumber ms index × IsRow ms row × IsSending ms message
IsWellAct ms (acts.Take place cell index) = IsNumber ms index
IsWellAct ms (acts.Output dir kind row message) = IsRow ms row × IsSending ms message

-- Forms were added.
pub record Grown (old new : List ValueForm) : Type 0 where
  pub more : List ValueForm
  pub grown : new ≡ old ++ more

-- Forms were added, and the one of this number stands for this.
pub record Made (old new : List ValueForm) (k : ℕ) (x : Meant) : Type 0 where
  pub grows : Grown old new
  pub stands : Stands (meanings new) k x

abbrev pub Makes : List ValueForm → List ValueForm → Meant → {E : Type 0} → Result ℕ E → Type 0
Makes old new x (Ok k) = Made old new k x
Makes old new x (Err e) = Unit {0}
