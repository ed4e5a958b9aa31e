-- The entries of a stack fit, where its layers do and their headers have few fields.
use Rattle.std.proofs.Common.{◌≡◌, ℕ, zero, suc, ◌+◌, ◌*◌, ◌^◌, ◌<◌, ◌≤◌, true, List, [], ◌∷◌, map, length, drop}
use Rattle.std.proofs.Common.{slice_get, slice_index_or, is_some, Option, Some, None, refl, sym, ap, ◌∙◌, subst, arith}
use Rattle.std.specs.Prelude.{IfSome}
use Rattle.std.specs.List.{All, AllByRecursion}
use Rattle.std.specs.Option.{option_map_or}
use Rattle.std.proofs.lemmas.List.{length-take-le, length-drop}
use Rattle.std.proofs.lemmas.List.Elements.{All-head, All-tail}
use Rattle.layer_mean.specs.Headers.{header_of_tag, header_none}
use Rattle.layer_mean.specs.Tree.{HeaderTree, LayerTree, no_layer}
use Rattle.msg_core.specs.Headers.{most_fields}
use Rattle.stack_mean.specs.Plan.{Plan}
use Rattle.stack_mean.specs.Plans.{plans_of}
use Rattle.chain_laws.specs.Runs.{TypedStack}
use Rattle.chain_laws.proofs.Lists.{each_take, each_drop}
use Rattle.chain_laws.proofs.Orderly.{typed_is_orderly}
use Rattle.trace_mean.specs.Trace.{Atom}
use Rattle.trace_mean.specs.Fuse.{fields_of, field_atoms, entry_chain}
use Rattle.trace_form_laws.specs.Closed.{varying}
use Rattle.trace_form_laws.specs.Entries.{AreDeclared}
use Rattle.trace_form_laws.specs.Plans.{PlanIsEntry}
use Rattle.trace_form_laws.proofs.Plans.{plans_are_entries}
use Rattle.bypass_mean.specs.Bypasses.{plan_entry, entries_of}
use Rattle.bypass_mean.specs.Text.{layer_of}
use Rattle.packet_laws.specs.Strays.{AreNumbered}
use Rattle.member_laws.proofs.Numbered.{plans_are_numbered}
use Rattle.pack_round_laws.proofs.Fits.{AtomFits, ChainFits}
use Rattle.pack_round_laws.proofs.Layers.{LayersFit}
use Rattle.pack_round_laws.proofs.Packable.{EntryFits}
use Rattle.pack_round_laws.proofs.Drawn.{total, PlanCounts, plans_counted}

-- each header of a layer has few fields
abbrev pub HasFewFields : LayerTree → Type 0
HasFewFields layer = AllByRecursion (λ (h : HeaderTree). h.fields ≤ most_fields) layer.headers

-- a layer at the front of those from a place on
record AtFront (stack : List LayerTree) (p : ℕ) (layer : LayerTree) (above : List LayerTree) : Type 0 where
  is : layer_of stack p ≡ layer
  inside : p < length stack
  rest : drop (suc p) stack ≡ above

front_at : (stack : List LayerTree) (p : ℕ) (layer : LayerTree) (above : List LayerTree) →
    drop p stack ≡ layer ∷ above → AtFront stack p layer above
front_at [] zero layer above h = absurd (cc h)
front_at [] (suc p) layer above h = absurd (cc h)
front_at (own ∷ stack) zero layer above h = record {
  is = ap (λ (ls : List LayerTree). slice_index_or ls 0 no_layer) h;
  inside = omega arith;
  rest = ap (λ (ls : List LayerTree). drop 1 ls) h;
}
front_at (own ∷ stack) (suc p) layer above h =
    let more = front_at stack p layer above h in
    let inside = more.inside in
    record { is = more.is; inside = omega (arith, inside); rest = more.rest }

-- the fields of a plan, as they are named in traces
atoms_count : (next : ℕ) (fields : List (Option ℕ)) → length (field_atoms next fields) ≡ length fields
atoms_count next [] = refl
atoms_count next (Some n ∷ fields) = ap suc (atoms_count next fields)
atoms_count next (None ∷ fields) = ap suc (atoms_count (suc next) fields)

atoms_fit : (next : ℕ) (fields : List (Option ℕ)) → All (λ field. IfSome field (λ constant. constant < 2 ^ 32)) fields →
    AllByRecursion AtomFits (field_atoms next fields)
atoms_fit next [] h = tt
atoms_fit next (Some n ∷ fields) h =
    let small = All-head (λ field. IfSome field (λ constant. constant < 2 ^ 32)) (Some n) fields h in (
      omega (arith, small),
      atoms_fit next fields (All-tail (λ field. IfSome field (λ constant. constant < 2 ^ 32)) (Some n) fields h),
    )
atoms_fit next (None ∷ fields) h =
    (tt, atoms_fit (suc next) fields (All-tail (λ field. IfSome field (λ constant. constant < 2 ^ 32)) None fields h))

vary_less : (fields : List (Option ℕ)) → varying fields ≤ length fields
vary_less [] = omega arith
vary_less (Some n ∷ fields) = let more = vary_less fields in omega (arith, more)
vary_less (None ∷ fields) = let more = vary_less fields in omega (arith, more)

module _ (stack : List LayerTree) where
  chain_fits : (p : ℕ) (layers : List LayerTree) (tags : List ℕ) (atoms : List Atom) → drop p stack ≡ layers →
      AreDeclared layers tags →
      total stack p tags ≤ length atoms → AllByRecursion AtomFits atoms →
      ChainFits stack p (entry_chain p layers tags atoms)
  chain_fits p layers [] atoms at declares most fit = tt
  chain_fits p [] (tag ∷ tags) atoms at declares most fit = absurd declares
  chain_fits p (layer ∷ above) (tag ∷ tags) atoms at declares most fit =
      let front = front_at stack p layer above at in
      let n = fields_of layer tag in
      let same : fields_of (layer_of stack p) tag ≡ n = ap (λ l. fields_of l tag) front.is in
      let next : suc p ≡ p + 1 = omega arith in
      let left = length-drop n atoms in
      let further = ap (λ place. total stack place tags) next in
      let more = chain_fits (suc p) above tags (drop n atoms) front.rest declares.1
      (omega (arith, most, same, left, further))
      (each_drop AtomFits n atoms fit) in (
        record {
          at = refl;
          inside = front.inside;
          declares = subst (λ l. is_some (header_of_tag l tag) ≡ true) (sym front.is) declares.0;
          count = length-take-le n atoms (omega (arith, most, same)) ∙ sym same;
          fields_fit = each_take AtomFits n atoms fit;
        },
        subst (λ place. ChainFits stack place (entry_chain (suc p) above tags (drop n atoms))) next more,
      )

  few_of : (headers : List HeaderTree) (tag : ℕ) → AllByRecursion (λ (h : HeaderTree). h.fields ≤ most_fields) headers →
      option_map_or (λ (h : HeaderTree). h.fields) (slice_get headers tag) 0 ≤ most_fields
  few_of [] tag h = omega arith
  few_of (x ∷ headers) zero h = h.0
  few_of (x ∷ headers) (suc tag) h = few_of headers tag h.1

  total_few : (p : ℕ) (layers : List LayerTree) (tags : List ℕ) → drop p stack ≡ layers → AreDeclared layers tags →
      AllByRecursion HasFewFields layers →
      total stack p tags ≤ 4 * length layers
  total_few p layers [] at declares few = omega arith
  total_few p [] (tag ∷ tags) at declares few = absurd declares
  total_few p (layer ∷ above) (tag ∷ tags) at declares few =
      let front = front_at stack p layer above at in
      let own : fields_of layer tag ≤ 4 = few_of (header_none ∷ layer.headers) tag (omega arith, few.0) in
      let same : fields_of (layer_of stack p) tag ≡ fields_of layer tag = ap (λ l. fields_of l tag) front.is in
      let next : suc p ≡ p + 1 = omega arith in
      let further = ap (λ place. total stack place tags) next in
      let more = total_few (suc p) above tags front.rest declares.1 few.1 in
      omega (arith, own, same, further, more)

  plan_fits : (plan : Plan) → length stack ≤ 24 → AllByRecursion HasFewFields stack → PlanIsEntry stack plan →
      PlanCounts stack plan →
      All (λ field. IfSome field (λ constant. constant < 2 ^ 32)) plan.fields → EntryFits stack (plan_entry plan)
  plan_fits plan high few entry counts numbered =
      let size = atoms_count 0 plan.fields in
      let most = total_few 0 stack plan.tags refl entry.tags few in
      let vary = vary_less plan.fields in
      record {
        chain = chain_fits 0 stack plan.tags (field_atoms 0 plan.fields) refl entry.tags (omega (arith, size, counts))
            (atoms_fit 0 plan.fields numbered);
        fields = omega (arith, vary, counts, most, high);
      }

  abbrev IsNumbered : Plan → Type 0
  IsNumbered plan = All (λ field. IfSome field (λ constant. constant < 2 ^ 32)) plan.fields

  plans_fit : (plans : List Plan) → length stack ≤ 24 → AllByRecursion HasFewFields stack →
      AllByRecursion (PlanIsEntry stack) plans →
      AllByRecursion (PlanCounts stack) plans → AreNumbered plans →
      AllByRecursion (EntryFits stack) (map plan_entry plans)
  plans_fit [] high few entries counts numbered = tt
  plans_fit (plan ∷ plans) high few entries counts numbered = (
    plan_fits plan high few entries.0 counts.0 (All-head IsNumbered plan plans numbered),
    plans_fit plans high few entries.1 counts.1 (All-tail IsNumbered plan plans numbered),
  )

  pub entries_fit : TypedStack stack → length stack ≤ 24 → AllByRecursion HasFewFields stack → LayersFit stack →
      AllByRecursion (EntryFits stack) (entries_of stack)
  entries_fit typed high few fit = (
    record { chain = tt; fields = omega arith },
    (
      record { chain = tt; fields = omega arith },
      plans_fit (plans_of stack) high few (plans_are_entries stack (typed_is_orderly stack typed))
          (plans_counted stack fit) (plans_are_numbered stack typed),
    ),
  )
