-- The refusals of each stage, as refusals of a file.
use Rattle.stack_judge.specs.declared.error.StackError.{StackError}
use Rattle.stack_judge.specs.declared.error.StackError.TheVariants as stack
use Rattle.file_names.specs.declared.error.NameError.{NameError}
use Rattle.file_names.specs.declared.error.NameError.TheVariants as names
use Rattle.file_parse.specs.declared.error.ParseError.{ParseError}
use Rattle.file_parse.specs.declared.error.ParseError.TheVariants as text
use Rattle.file_types.specs.declared.error.TypeError.{TypeError}
use Rattle.file_types.specs.declared.error.TypeError.TheVariants as types
use Rattle.file_judge.specs.declared.error.FileError.{FileError}
use Rattle.file_judge.specs.declared.error.FileError.TheVariants as file

-- Why a text is no file.
abbrev pub text_refused : ParseError → FileError
text_refused text.TooLarge = file.TooLarge
text_refused (text.BadToken at) = file.BadToken at
text_refused (text.Unexpected at) = file.Unexpected at
text_refused text.Memory = file.Memory

-- Why the names of a file are refused.
abbrev pub names_refused : NameError → FileError
names_refused (names.Unknown at) = file.Unknown at
names_refused (names.Twice at) = file.Twice at
names_refused (names.TooMany at) = file.OverLimit at
names_refused names.Memory = file.Memory

-- Why the types of a file are refused.
abbrev pub types_refused : TypeError → FileError
types_refused (types.Kind at) = file.Kind at
types_refused (types.Arity at) = file.Arity at
types_refused (types.Direction at) = file.Direction at
types_refused (types.Header at) = file.Header at
types_refused (types.Initial at) = file.Initial at
types_refused types.Memory = file.Memory

-- Why the stack of a file is refused.
abbrev pub stack_refused : StackError → FileError
stack_refused (stack.Cycle place kind) = file.Cycle place kind
stack_refused (stack.TooMany weight) = file.TooMany weight
stack_refused stack.TooManyJoins = file.TooManyJoins
stack_refused stack.Memory = file.Memory
