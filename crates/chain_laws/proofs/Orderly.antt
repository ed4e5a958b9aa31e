-- Each emission and each take of a typed block is orderly.
use Rattle.std.proofs.Common.{◌≡◌, ℕ, zero, suc, ◌+◌, ◌≤◌, Bool, true, false, List, [], ◌∷◌, ◌++◌, length, Option, Some}
use Rattle.std.proofs.Common.{None, refl, subst, arith}
use Rattle.std.specs.Prelude.{slice_get, slice_set}
use Rattle.msg_core.specs.Chain.{Content}
use Rattle.msg_core.specs.declared.message.Header.{Header}
use Rattle.layer_words.specs.declared.sorts.Sort.{Sort}
use Rattle.layer_words.specs.declared.sorts.Sort.TheVariants.{Int, Msg}
use Rattle.layer_words.specs.declared.events.Dir.{Dir}
use Rattle.layer_words.specs.declared.events.Dir.TheVariants.{Up, Down}
use Rattle.layer_words.specs.declared.events.Kind.{Kind}
use Rattle.layer_mean.specs.Event.{carries}
use Rattle.layer_mean.specs.Headers.{header_of_tag}
use Rattle.layer_mean.specs.Tree.{Carried, ContentTree, StatementTree, bind, assign, assign_square, push, take, branch}
use Rattle.layer_mean.specs.Tree.{each, emit, StatementTrees, none, more, LayerTree}
use Rattle.layer_mean.specs.Visit.{with_room}
use Rattle.packet_mean.specs.ChainedState.{IsFrom, Brings}
use Rattle.stack_mean.specs.Graph.{goes_down}
use Rattle.chain_laws.specs.Typed.{Sends, Takes, with_taken_sort, Typed, TypedAll, met_sorts, sorts_of, TypedHandler}
use Rattle.chain_laws.specs.Typed.{TypedLayer}
use Rattle.chain_laws.specs.Runs.{TypedLayers, IsOnItsWay, task_place}
use Rattle.chain_laws.proofs.Lists.{there, each_so}
use Rattle.weight_laws.specs.Chains.{first_place, HasChain}
use Rattle.weight_laws.specs.Orderly.{IsOrderlyContent, KeepsMessage, IsOrderlyStatement, IsOrderlyBlock}
use Rattle.weight_laws.specs.Orderly.{IsOrderlyHandler, IsOrderlyLayer, IsOrderly}
use Rattle.weight_laws.proofs.Chains.{chained_tasks_are_known}
use Rattle.chain_laws.specs.Orderly.{TypedIsOrderly, ChainedIsKnown}

sent_is : (layer : LayerTree) (blank : List Header) (sorts : List Sort) (dir : Dir) (kind : Kind)
    (c : Option ContentTree) (b : Bool) →
    carries kind ≡ b → Sends layer blank sorts b dir c → IsOrderlyContent layer dir kind c
sent_is layer blank sorts dir kind None b is h = tt
sent_is layer blank sorts dir kind (Some c) false is h = absurd h
sent_is layer blank sorts Up kind (Some c) true is h = is
sent_is layer blank sorts Down kind (Some c) true is h =
    (is, there (header_of_tag layer c.tag) _ h.declares (λ d listed rest. rw listed refl))

-- a handler of a message from above has it in its first slot
abbrev Above : Bool → List Sort → Type 0
Above true sorts = slice_get sorts 0 ≡ Some Msg
Above false sorts = Unit {0}

later : (sorts : List Sort) (k : ℕ) → slice_get sorts 0 ≡ Some Msg → slice_get sorts k ≡ Some Int → 1 ≤ k
later sorts zero first free = absurd (cc (first, free))
later sorts (suc k) first free = omega arith

keeps_message : (layer : LayerTree) (blank : List Header) (sorts : List Sort) (above : Bool) (c : ℕ)
    (m : Option (ℕ × Carried)) →
    Above above sorts → Takes layer blank sorts c m → KeepsMessage above m
keeps_message layer blank sorts true c None first h = tt
keeps_message layer blank sorts true c (Some slot) first h = later sorts slot.0 first h.1
keeps_message layer blank sorts false c m first h = tt

still_set : (sorts : List Sort) (k : ℕ) (s : Sort) → slice_get sorts 0 ≡ Some Msg → slice_get sorts k ≡ Some Int →
    slice_get (slice_set sorts k s) 0 ≡ Some Msg
still_set [] k s first free = first
still_set (x ∷ sorts) zero s first free = absurd (cc (first, free))
still_set (x ∷ sorts) (suc k) s first free = first

still_above : (layer : LayerTree) (blank : List Header) (sorts : List Sort) (above : Bool) (c : ℕ)
    (m : Option (ℕ × Carried)) →
    Above above sorts → Takes layer blank sorts c m → Above above (with_taken_sort sorts m)
still_above layer blank sorts true c None first h = first
still_above layer blank sorts true c (Some slot) first h = still_set sorts slot.0 _ first h.1
still_above layer blank sorts false c m first h = tt

module _ (layer : LayerTree) (blank : List Header) (above : Bool) where
  mutual
    statement_is : (x : StatementTree) (sorts : List Sort) → Above above sorts → Typed layer blank sorts x →
        IsOrderlyStatement layer above x
    statement_is (bind k e) sorts first h = tt
    statement_is (assign c i e) sorts first h = tt
    statement_is (assign_square c row column e) sorts first h = tt
    statement_is (push c i capacity row otherwise) sorts first h = block_is otherwise sorts first h.1
    statement_is (take c i taken block otherwise) sorts first h = (
      keeps_message layer blank sorts above c taken.message first h.0,
      block_is block (with_taken_sort sorts taken.message)
          (still_above layer blank sorts above c taken.message first h.0) h.1,
      block_is otherwise sorts first h.2,
    )
    statement_is (branch likely e block otherwise) sorts first h =
        (block_is block sorts first h.0, block_is otherwise sorts first h.1)
    statement_is (each k below most block) sorts first h = block_is block sorts first h.1
    statement_is (emit e) sorts first h = sent_is layer blank sorts e.direction e.kind e.content (carries e.kind) refl
        h.1

    block_is : (xs : StatementTrees) (sorts : List Sort) → Above above sorts → TypedAll layer blank sorts xs →
        IsOrderlyBlock layer above xs
    block_is none sorts first h = tt
    block_is (more x rest) sorts first h = (statement_is x sorts first h.0, block_is rest sorts first h.1)

front : (sorts : List Sort) (x : Sort) → slice_get sorts 0 ≡ Some Msg → slice_get (sorts ++ x ∷ []) 0 ≡ Some Msg
front [] x is = absurd (cc is)
front (y ∷ sorts) x is = is

room_front : (n : ℕ) (sorts : List Sort) → slice_get sorts 0 ≡ Some Msg → slice_get (with_room n Int sorts) 0 ≡ Some Msg
room_front zero sorts is = is
room_front (suc n) sorts is = room_front n (sorts ++ Int ∷ []) (front sorts Int is)

entered_above : (layer : LayerTree) (n : ℕ) (dir : Dir) (kind : Kind) (tag : ℕ) →
    Above (goes_down dir kind) (with_room n Int (met_sorts layer dir (carries kind) tag))
entered_above layer n Up kind tag = tt
entered_above layer n Down kind tag = go (carries kind) where
  go : (b : Bool) → Above b (with_room n Int (met_sorts layer Down b tag))
  go true = room_front n (Msg ∷ []) refl
  go false = tt

layer_is : (layer : LayerTree) (blank : List Header) → TypedLayer blank layer → IsOrderlyLayer layer
layer_is layer blank typed = each_so (TypedHandler layer blank) (IsOrderlyHandler layer)
    (λ h is. block_is layer blank (goes_down h.direction h.kind) h.block (sorts_of layer h)
    (entered_above layer h.messages h.direction h.kind h.tag) is)
    layer.handlers typed.handlers

layers_are : (place : ℕ) (layers : List LayerTree) → TypedLayers place layers → IsOrderly layers
layers_are place [] h = tt
layers_are place (layer ∷ above) h = (layer_is layer _ h.0, layers_are (suc place) above h.1)

pub typed_is_orderly : TypedIsOrderly
typed_is_orderly stack h = layers_are 0 stack h

-- chained tasks

has_chain : (stack : List LayerTree) (place : ℕ) (b : Bool) (m : Option Content) → Brings (IsFrom stack place) b m →
    HasChain stack place b m
has_chain stack place true None h = absurd h
has_chain stack place true (Some m) h = h.headers.chain
has_chain stack place false None h = tt
has_chain stack place false (Some m) h = absurd h

within : (stack : List LayerTree) (dir : Dir) (at : ℕ) → IsOnItsWay stack dir at → at ≤ length stack + 1
within stack Up at way = way.1
within stack Down at way = omega (arith, way)

same_place : (dir : Dir) (at : ℕ) → task_place dir at ≡ first_place dir at
same_place Up at = refl
same_place Down at = refl

pub chained_is_known : ChainedIsKnown
chained_is_known stack t h = chained_tasks_are_known stack t (within stack t.dir t.at h.way)
    (subst (λ place. HasChain stack place (carries t.event.kind) t.event.message) (same_place t.dir t.at)
    (has_chain stack (task_place t.dir t.at) (carries t.event.kind) t.event.message h.event.message))
