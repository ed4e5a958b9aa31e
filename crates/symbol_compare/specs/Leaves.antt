-- Forms of what is read of taken rows.
use Rattle.std.specs.Prelude.{ℕ, nat_lt, if◌then◌else◌}
use Rattle.trace_core.specs.declared.load.Load.{Load}
use Rattle.symbol_compare.specs.declared.form.NumberForm.{NumberForm}
use Rattle.symbol_compare.specs.declared.form.NumberForm.TheVariants as numbers
use Rattle.symbol_compare.specs.declared.form.MessageForm.{MessageForm}
use Rattle.symbol_compare.specs.declared.form.MessageForm.TheVariants as messages

-- A row that wasn't taken yet has no number.
abbrev pub taken_number_form : ℕ → ℕ → ℕ → NumberForm
taken_number_form takes row k = if nat_lt row takes then numbers.Taken row k else numbers.Untaken k

abbrev pub taken_message_form : ℕ → ℕ → Load → MessageForm
taken_message_form takes row load = if nat_lt row takes then messages.Taken row load else messages.Untaken load
