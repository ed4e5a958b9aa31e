-- The small files, rule by rule.
use Rattle.std.proofs.Common.{◌≡◌, ℕ, zero, suc, ◌<◌, [], ◌∷◌, map, Some, refl, subst, arith}
use Rattle.std.specs.Prelude.{codes, slice_index_or}
use Rattle.msg_core.specs.Chain.{plain}
use Rattle.layer_words.specs.declared.events.Kind.TheVariants.{Cast}
use Rattle.layer_ast.specs.Reader.{file_of}
use Rattle.layer_mean.specs.Visit.{fresh, no_state}
use Rattle.file_mean.specs.CounterFile as counter
use Rattle.file_mean.specs.QueuesFile as queues
use Rattle.file_mean.specs.Layers.{handler_of, layer_of}
use Rattle.file_mean.specs.Stack.{stack_of}
use Rattle.packet_mean.specs.ChainedState.{IsFrom, IsChainedState}
use Rattle.chain_laws.specs.Runs.{TypedStack, AreChainedStates, IsChainedTask}
use Rattle.chain_laws.proofs.Runs.{run_from_a_task, stands_typed}
use Rattle.chain_laws.proofs.Statements.{event_is}
use Rattle.chain_laws.proofs.Visits.{fresh_is_chained}
use Rattle.file_laws.specs.Literals.{LiteralFile}
use Rattle.chain_laws.specs.Named.{NamedStack}
use Rattle.file_laws.specs.Samples.{CounterIsTyped, QueuesAreTyped, SmallFilesAreNamed, first_cast, CounterRuns}
use Rattle.file_laws.proofs.Files.{files_are_named, files_are_typed}

counter_literal : LiteralFile counter.file
unfolding file_of
counter_literal = record {
  layers_are = (
    record {
      declarations_are = (tt, (tt, (tt, tt)));
      handlers_are = (
        (tt, (((tt, (tt, tt)), (tt, tt)), ((tt, (tt, omega arith)), tt))),
        (((tt, tt), ((tt, (tt, omega arith)), (((tt, (tt, tt)), tt), tt))), tt),
      );
    },
    tt,
  );
  library_is = tt;
  places_are = (tt, tt);
}

counter_means : stack_of counter.file ≡ counter.stack
unfolding file_of stack_of layer_of handler_of
counter_means = refl

pub counter_is_typed : CounterIsTyped
unfolding file_of
counter_is_typed = (
  counter_literal,
  refl,
  subst TypedStack counter_means (files_are_typed counter.file counter_literal refl),
)

queues_literal : LiteralFile queues.file
unfolding file_of
queues_literal = record {
  layers_are = (
    record {
      declarations_are = (omega arith, (omega arith, (tt, (tt, tt))));
      handlers_are = (
        (
          tt,
          (
            (tt, (tt, (tt, tt))),
            (
              (tt, ((tt, omega arith, omega arith), tt)),
              (
                tt,
                (
                  ((tt, (tt, tt)), tt),
                  (
                    tt,
                    (
                      (tt, omega arith),
                      ((((tt, omega arith), ((tt, omega arith), tt)), tt), (((tt, ((tt, omega arith), tt)), tt), tt)),
                    ),
                  ),
                ),
              ),
            ),
          ),
        ),
        tt,
      );
    },
    tt,
  );
  library_is = tt;
  places_are = (tt, (tt, tt));
}

queues_mean : stack_of queues.file ≡ queues.stack
unfolding file_of stack_of layer_of handler_of
queues_mean = refl

pub queues_are_typed : QueuesAreTyped
unfolding file_of
queues_are_typed = (
  queues_literal,
  refl,
  subst TypedStack queues_mean (files_are_typed queues.file queues_literal refl),
)

pub small_files_are_named : SmallFilesAreNamed
unfolding file_of
small_files_are_named = (
  subst NamedStack counter_means (files_are_named counter.file refl),
  subst NamedStack queues_mean (files_are_named queues.file refl),
)

counter_at : (place : ℕ) → place < 1 →
    IsChainedState counter.stack place (slice_index_or (map (λ layer. fresh layer 0 3 0) counter.stack) place no_state)
counter_at zero below =
    fresh_is_chained counter.stack 0 _ _ 0 3 0 (stands_typed counter.stack 0 _ counter_is_typed.2 refl) (omega arith)
    (omega arith) (omega arith)
counter_at (suc place) below = absurd (omega arith)

counter_states : AreChainedStates counter.stack (map (λ layer. fresh layer 0 3 0) counter.stack)
counter_states = record { count = refl; states_are = counter_at }

first_is : IsChainedTask counter.stack first_cast
first_is = record {
  way = omega arith;
  event = event_is (IsFrom counter.stack 1) Cast (0 ∷ []) (Some (plain (codes "hi"))) (omega arith, tt) (record {
    headers = record { chain = refl; fields = tt };
    body = record { within = omega arith; bytes = (omega arith, (omega arith, tt)) };
  });
}

pub counter_runs : CounterRuns
counter_runs = (
  first_is,
  run_from_a_task counter.stack 4 (map (λ layer. fresh layer 0 3 0) counter.stack) first_cast counter_is_typed.2
      counter_states first_is,
)
