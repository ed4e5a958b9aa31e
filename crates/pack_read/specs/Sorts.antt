-- What cells are, by their forms.
use Rattle.std.specs.Prelude.{ℕ, Option, Some}
use Rattle.layer_words.specs.declared.sorts.Shape.TheVariants as shapes
use Rattle.layer_mean.specs.Tree.{Form, numbers, queue, queues}
use Rattle.trace_mean.specs.Trace.{TraceNumber, atom, element, number, square}
use Rattle.pack_mean.specs.Reader.{Reader, ◌>>=◌, yields, nowhere}
use Rattle.pack_mean.specs.Expression.{Inner, QueueNamed, an_index}
use Rattle.pack_read.specs.declared.sort.Sort.{Sort}
use Rattle.pack_read.specs.declared.sort.Sort.TheVariants as sorts

abbrev pub sort_of : Form → Sort
sort_of (numbers shapes.One initial) = sorts.Number
sort_of (numbers shapes.Array initial) = sorts.Array
sort_of (numbers shapes.Square initial) = sorts.Square
sort_of (queue capacity items) = sorts.Queue
sort_of (queues capacity items) = sorts.Queues

-- A number of a cell, and a queue, after its name.
abbrev pub number_by_sort : Inner → ℕ → ℕ → Option Sort → Reader TraceNumber
number_by_sort inner p c (Some sorts.Number) = yields (element p c (atom (number 0)))
number_by_sort inner p c (Some sorts.Array) = do
  index ← an_index inner
  yields (element p c index)
number_by_sort inner p c (Some sorts.Square) = do
  row ← an_index inner
  column ← an_index inner
  yields (square p c row column)
number_by_sort inner p c _ = nowhere

abbrev pub queue_by_sort : Inner → ℕ → ℕ → Option Sort → Reader QueueNamed
queue_by_sort inner p c (Some sorts.Queue) = yields (record { place = p; cell = c; index = atom (number 0) })
queue_by_sort inner p c (Some sorts.Queues) = do
  index ← an_index inner
  yields (record { place = p; cell = c; index = index })
queue_by_sort inner p c _ = nowhere
