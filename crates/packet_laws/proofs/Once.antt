-- Bytes spell one packet at most; a packet has one full spelling, and one short one under each plan that it fits.
use Rattle.std.proofs.Common.{◌≡◌, ℕ, ◌⊎◌, inl, inr, List, Option, Some, refl, sym, ap, ◌∙◌, subst, arith}
use Rattle.std.specs.Prelude.{slice_get, option_and_then}
use Rattle.msg_core.specs.declared.packet.Packet.{Packet}
use Rattle.layer_mean.specs.Tree.{LayerTree}
use Rattle.stack_mean.specs.Plan.{Plan}
use Rattle.packet_mean.specs.Reading.{preamble, named_plan, headers}
use Rattle.packet_mean.specs.Received.{packet_of}
use Rattle.packet_mean.specs.Spelling.{full_form, short_form, full_bytes, short_bytes, SpellsShort}
use Rattle.packet_laws.specs.Once.{SpelledOnce, OneFullSpelling, OneShortSpelling}
use Rattle.packet_laws.proofs.Numbers.{same_read}
use Rattle.packet_laws.proofs.Whole.{IsRead, spelled_read}

-- the packet that bytes are read as, whoever reads them
unspelled : List LayerTree → List Plan → List ℕ → Option Packet
unspelled stack plans bytes =
    option_and_then (λ a. option_and_then (λ b. option_and_then (λ c. Some (packet_of a.0 c.0 c.1))
    (headers stack b.0 b.1)) (named_plan plans a.0 a.1)) (preamble bytes)

unspelled_is : (stack : List LayerTree) (plans : List Plan) (bytes : List ℕ) (p : Packet) → IsRead stack plans bytes p →
    unspelled stack plans bytes ≡ Some p
unfolding unspelled
unspelled_is stack plans bytes p read = rw (read.front, read.named, read.contents) refl

pub spelled_once : SpelledOnce
spelled_once stack plans bytes p q a b =
    same_read (sym (unspelled_is stack plans bytes p (spelled_read stack plans bytes p a))
    ∙ unspelled_is stack plans bytes q (spelled_read stack plans bytes q b))

one_full : (plans : List Plan) (bytes : List ℕ) (p : Packet) → (bytes ≡ full_bytes p) ⊎ SpellsShort plans bytes p →
    slice_get bytes 0 ≡ Some full_form → bytes ≡ full_bytes p
one_full plans bytes p (inl full) first = full
one_full plans bytes p (inr short) first =
    let other : Some short_form ≡ Some full_form = subst (λ bs. slice_get bs 0 ≡ Some full_form) short.spelled first in
    let same : short_form ≡ full_form = same_read other in
    absurd (omega arith)

pub one_full_spelling : OneFullSpelling
one_full_spelling stack plans p is =
    (record { spellable = is; spelled = inl refl }, λ bytes spells first. one_full plans bytes p spells.spelled first)

one_short : (plans : List Plan) (bytes : List ℕ) (p : Packet) (k : ℕ) (plan : Plan) → slice_get plans k ≡ Some plan →
    (bytes ≡ full_bytes p) ⊎ SpellsShort plans bytes p → slice_get bytes 0 ≡ Some short_form →
    slice_get bytes 19 ≡ Some k →
    bytes ≡ short_bytes k plan p
one_short plans bytes p k plan listed (inl full) first at =
    let other : Some full_form ≡ Some short_form = subst (λ bs. slice_get bs 0 ≡ Some short_form) full first in
    let same : full_form ≡ short_form = same_read other in
    absurd (omega arith)
one_short plans bytes p k plan listed (inr short) first at =
    let number : short.number ≡ k = same_read (subst (λ bs. slice_get bs 19 ≡ Some k) short.spelled at) in
    let same : short.plan ≡ plan = same_read (sym short.listed ∙ ap (slice_get plans) number ∙ listed) in
    short.spelled ∙ (λ x. short_bytes (number x) (same x) p)

pub one_short_spelling : OneShortSpelling
one_short_spelling stack plans p k plan is small listed fitting = (
  record {
    spellable = is;
    spelled = inr record {
      number = k;
      plan = plan;
      is_byte = small;
      listed = listed;
      fitting = fitting;
      spelled = refl;
    };
  },
  λ bytes spells first at. one_short plans bytes p k plan listed spells.spelled first at,
)
