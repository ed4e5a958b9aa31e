-- The trace is made by computation; what it names is there.
use Rattle.std.proofs.Common.{refl, inl, arith}
use Rattle.stack_mean.specs.Shape.{drawn_shape, has_second_case}
use Rattle.trace_mean.specs.Fuse.{made_trace}
use Rattle.pack_laws.proofs.samples.written_out_replaces.Goals as goal

pub returns : goal.returns
unfolding drawn_shape has_second_case made_trace
returns c = (
  refl,
  record {
    acts = refl;
    closed = (
      (omega arith, tt),
      (
        (omega arith, tt, (omega arith, tt)),
        (((tt, tt), record { chain_is = ((omega arith, tt), tt); core_is = tt }), tt),
      ),
    );
    there = (
      (inl (refl, refl), tt),
      ((inl (refl, refl), tt, (tt, tt)), (((tt, tt), record { chain_is = ((tt, tt), tt); core_is = tt }), tt)),
    );
    joins = omega arith;
  },
)
