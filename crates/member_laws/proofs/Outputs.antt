-- The outputs of a run and the packet outputs of a shape.
use Rattle.std.proofs.Common.{◌≡◌, refl, sym, ◌∙◌, ap, subst, ℕ, ◌==◌, Bool, true, false, not, ◌&&◌, List, [], ◌∷◌}
use Rattle.std.proofs.Common.{◌++◌, map, Option, Some, None}
use Rattle.std.specs.Prelude.{nat_lt, if◌then◌else◌}
use Rattle.std.specs.List.{flat_map}
use Rattle.std.specs.Option.{option_map_or}
use Rattle.std.proofs.lemmas.Bool.{eq-eqb}
use Rattle.std.proofs.lemmas.Slice.Eq.{bytes_eq-Decides}
use denote.Enum.Bare.{true_same}
use Rattle.msg_core.specs.Chain.{Content, plain}
use Rattle.msg_core.specs.View.{member_count}
use Rattle.msg_core.specs.declared.message.Header.{Header}
use Rattle.msg_core.specs.declared.packet.Dest.{Dest}
use Rattle.msg_core.specs.declared.packet.Dest.TheVariants.{All, Rank}
use Rattle.layer_words.specs.contracts.events.Kind as kind_row
use Rattle.layer_words.specs.declared.events.Dir.{Dir}
use Rattle.layer_words.specs.declared.events.Dir.TheVariants.{Up, Down}
use Rattle.layer_words.specs.declared.events.Kind.{Kind}
use Rattle.layer_words.specs.declared.events.Kind.TheVariants as kind
use Rattle.layer_mean.specs.Event.{carries}
use Rattle.layer_mean.specs.declared.run.Event.{Event}
use Rattle.packet_mean.specs.Plan.{agree, kind_of, fits}
use Rattle.packet_mean.specs.declared.here.Here.{Here}
use Rattle.stack_mean.specs.Drawn.{DrawnHeader}
use Rattle.stack_mean.specs.Plan.{Plan}
use Rattle.stack_mean.specs.Plans.{is_packet, plan_of}
use Rattle.stack_mean.specs.Shape.{ShapeOut}
use Rattle.run_mean.specs.Common.{is_planned}
use Rattle.run_mean.specs.Member.{Output, packet, nowhere, content, packet_to, above, below, output_of}
use Rattle.shape_laws.specs.Known.{Pairwise, IsKnownAs, HeadersAre}
use Rattle.shape_laws.specs.Law.{headers_in}

-- A plan's packets, among outputs.
abbrev pub FitsPlan : Plan → Output → Type 0
FitsPlan plan (packet p) = fits plan p ≡ true
FitsPlan plan _ = Unit {0}

-- At the upper edge nothing is planned, and at the lower one what carries a message.
above_unplanned : (k : Kind) (e : Event) → is_planned (above k e) ≡ false
above_unplanned kind.Cast e = refl
above_unplanned kind.Send e = refl
above_unplanned kind.Block e = refl
above_unplanned kind.View e = refl
above_unplanned kind.Timer e = refl
above_unplanned kind.Suspect e = refl
above_unplanned kind.Stable e = refl
above_unplanned kind.Ack e = refl
above_unplanned kind.Elect e = refl
above_unplanned kind.BlockOk e = refl
above_unplanned kind.Flushed e = refl
above_unplanned kind.Leave e = refl

below_planned : (here : Here) (k : Kind) (e : Event) → is_planned (below here k e) ≡ carries k
below_planned here kind.Cast e = refl
below_planned here kind.Send e = go (nat_lt e.peer (member_count here.view) && not (e.peer == here.rank)) where
  go : (b : Bool) → is_planned (if b then packet (packet_to here (Rank e.peer) e) else nowhere) ≡ true
  go true = refl
  go false = refl
below_planned here kind.Block e = refl
below_planned here kind.View e = refl
below_planned here kind.Timer e = refl
below_planned here kind.Suspect e = refl
below_planned here kind.Stable e = refl
below_planned here kind.Ack e = refl
below_planned here kind.Elect e = refl
below_planned here kind.BlockOk e = refl
below_planned here kind.Flushed e = refl
below_planned here kind.Leave e = refl

pub planned_same : (here : Here) (o : ShapeOut) (x : Dir × Event) → o.dir ≡ x.0 → o.kind ≡ x.1.kind →
    is_planned (output_of here x) ≡ is_packet o o.dir
planned_same here o x dir same = go x.0 o.dir dir where
  go : (d e : Dir) → e ≡ d → is_planned (output_of here (d, x.1)) ≡ is_packet o e
  go Up Up is = above_unplanned x.1.kind x.1
  go Down Down is = below_planned here x.1.kind x.1 ∙ ap carries (sym same)
  go Up Down is = absurd (cc is)
  go Down Up is = absurd (cc is)

-- Tags and fields of headers that are as drawn.
tags_are : (ds : List DrawnHeader) (hs : List Header) → HeadersAre ds hs → map (λ d. d.tag) ds ≡ map (λ h. h.tag) hs
tags_are [] [] is = refl
tags_are (d ∷ ds) (h ∷ hs) is = λ i. is.0.tag i ∷ tags_are ds hs is.1 i
tags_are [] (h ∷ hs) is = absurd is
tags_are (d ∷ ds) [] is = absurd is

agree_known : (planned : List (Option ℕ)) (numbers : List ℕ) (more : List (Option ℕ)) (rest : List ℕ) →
    Pairwise IsKnownAs planned numbers →
    agree more rest ≡ true → agree (planned ++ more) (numbers ++ rest) ≡ true
agree_known [] [] more rest known following = following
agree_known (Some n ∷ planned) (v ∷ numbers) more rest known following =
    rw (eq-eqb v n known.0) (agree_known planned numbers more rest known.1 following)
agree_known (None ∷ planned) (v ∷ numbers) more rest known following =
    agree_known planned numbers more rest known.1 following
agree_known [] (v ∷ numbers) more rest known following = absurd known
agree_known (x ∷ planned) [] more rest known following = absurd known

fields_agree : (ds : List DrawnHeader) (hs : List Header) → HeadersAre ds hs →
    agree (flat_map (λ d. d.fields) ds) (flat_map (λ h. h.fields) hs) ≡ true
fields_agree [] [] is = refl
fields_agree (d ∷ ds) (h ∷ hs) is = agree_known d.fields h.fields _ _ is.0.fields (fields_agree ds hs is.1)
fields_agree [] (h ∷ hs) is = absurd is
fields_agree (d ∷ ds) [] is = absurd is

own_headers : (m : Option Content) → option_map_or (λ c. c.headers) m [] ≡ (option_map_or (λ c. c) m (plain [])).headers
own_headers None = refl
own_headers (Some m) = refl

-- A packet of an output fits the output's plan.
packet_fits : (here : Here) (o : ShapeOut) (dest : Dest) (e : Event) → o.kind ≡ kind_of dest →
    HeadersAre o.headers (headers_in e) →
    fits (plan_of o) (packet_to here dest e) ≡ true
packet_fits here o dest e same headers =
    let is : HeadersAre o.headers (content e).headers = subst (HeadersAre o.headers) (own_headers e.message) headers in
    all_three _ _ _ (true_same kind_row.the_type o.kind (kind_of dest) same)
    ((bytes_eq-Decides (plan_of o).tags (map (λ h. h.tag) (content e).headers)).1
    (tags_are o.headers (content e).headers is))
    (fields_agree o.headers (content e).headers is)
  where
    all_three : (x y z : Bool) → x ≡ true → y ≡ true → z ≡ true → (x && y && z) ≡ true
    all_three true true true p q r = refl
    all_three false y z p q r = absurd (cc p)
    all_three true false z p q r = absurd (cc q)
    all_three true true false p q r = absurd (cc r)

above_fits : (plan : Plan) (k : Kind) (e : Event) → FitsPlan plan (above k e)
above_fits plan kind.Cast e = tt
above_fits plan kind.Send e = tt
above_fits plan kind.Block e = tt
above_fits plan kind.View e = tt
above_fits plan kind.Timer e = tt
above_fits plan kind.Suspect e = tt
above_fits plan kind.Stable e = tt
above_fits plan kind.Ack e = tt
above_fits plan kind.Elect e = tt
above_fits plan kind.BlockOk e = tt
above_fits plan kind.Flushed e = tt
above_fits plan kind.Leave e = tt

below_fits : (here : Here) (o : ShapeOut) (k : Kind) (e : Event) → o.kind ≡ k → HeadersAre o.headers (headers_in e) →
    FitsPlan (plan_of o) (below here k e)
below_fits here o kind.Cast e same headers = packet_fits here o All e same headers
below_fits here o kind.Send e same headers = go (nat_lt e.peer (member_count here.view) && not (e.peer == here.rank))
  where
    go : (b : Bool) → FitsPlan (plan_of o) (if b then packet (packet_to here (Rank e.peer) e) else nowhere)
    go true = packet_fits here o (Rank e.peer) e same headers
    go false = tt
below_fits here o kind.Block e same headers = tt
below_fits here o kind.View e same headers = tt
below_fits here o kind.Timer e same headers = tt
below_fits here o kind.Suspect e same headers = tt
below_fits here o kind.Stable e same headers = tt
below_fits here o kind.Ack e same headers = tt
below_fits here o kind.Elect e same headers = tt
below_fits here o kind.BlockOk e same headers = tt
below_fits here o kind.Flushed e same headers = tt
below_fits here o kind.Leave e same headers = tt

pub output_fits : (here : Here) (o : ShapeOut) (x : Dir × Event) → o.kind ≡ x.1.kind →
    HeadersAre o.headers (headers_in x.1) →
    FitsPlan (plan_of o) (output_of here x)
output_fits here o (Up, e) same headers = above_fits (plan_of o) e.kind e
output_fits here o (Down, e) same headers = below_fits here o e.kind e same headers
