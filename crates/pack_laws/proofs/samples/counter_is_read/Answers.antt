-- By computation.
use Rattle.std.proofs.Common.{refl}
use Rattle.std.specs.Fmt.{digits}
use Rattle.layer_words.specs.Spelling.{kinds, reserved, symbols}
use Rattle.stack_mean.specs.Shape.{drawn_shape, has_second_case}
use Rattle.trace_mean.specs.Fuse.{made_trace}
use Rattle.pack_laws.proofs.samples.counter_is_read.Goals as goal

pub returns : goal.returns
unfolding digits kinds reserved symbols drawn_shape has_second_case made_trace
returns c = refl
