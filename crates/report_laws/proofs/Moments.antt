-- What the lines of outputs, steps and moments say.
use Rattle.std.proofs.Common.{ℕ, ◌+◌, ◌≤◌, List, [], ◌∷◌, ◌++◌, map, refl, arith}
use Rattle.std.proofs.Common.{Option, Some, None}
use Rattle.std.specs.Prelude.{codes, option_to_list, slice_index_or}
use Rattle.std.specs.Fmt.{decimal}
use Rattle.std.specs.List.{AllByRecursion, AllZip, flat_map, enumerate_from}
use Rattle.msg_core.specs.declared.packet.Dest.{Dest}
use Rattle.msg_core.specs.declared.packet.Dest.TheVariants.{All, Rank}
use Rattle.msg_core.specs.declared.packet.Packet.{Packet}
use Rattle.msg_core.specs.declared.packet.Stray.{Stray}
use Rattle.msg_core.specs.declared.packet.Stray.TheVariants as stray
use Rattle.msg_core.specs.declared.packet.View.{View}
use Rattle.script_mean.specs.EventText.{hex_text}
use Rattle.script_mean.specs.Event.{member_of}
use Rattle.audit_mean.specs.Line.{silent}
use Rattle.layer_mean.specs.Tree.{LayerTree, CellTree}
use Rattle.layer_mean.specs.State.{State, cell_at}
use Rattle.layer_mean.specs.Visit.{no_state}
use Rattle.stack_mean.specs.Plan.{Plan}
use Rattle.chain_laws.proofs.Lists.{Where}
use Rattle.run_mean.specs.Common.{with_plans, plan_after}
use Rattle.run_mean.specs.Lines.{number_line, packet_line, view_line, state_out_line, refused_line, absent_line}
use Rattle.run_mean.specs.Lines.{cell_line}
use Rattle.run_mean.specs.Lines.{dest_text, cause_text, stray_text, cell_values}
use Rattle.run_mean.specs.Member.{Member, inside, out, Refusal, is_out, too_big, is_stray, Output, deliver_cast}
use Rattle.run_mean.specs.Member.{deliver_send}
use Rattle.run_mean.specs.Member.{block, announce, packet, nowhere, timer, quiet}
use Rattle.run_mean.specs.Report.{output_lines, number_following, lines_of_outputs, no_annex, step_lines}
use Rattle.run_mean.specs.Report.{installed_line}
use Rattle.run_mean.specs.Report.{cell_lines, layer_lines, member_lines, packet_given, Moment, lines_of, moment_lines}
use Rattle.run_mean.specs.Report.{first_number}
use Rattle.run_mean.specs.Text.{chain_text}
use Rattle.run_mean.specs.World.{Did, taken, refused, absent, shown, member_at}
use Rattle.order_laws.specs.Said.{output_said, installed_said, did_said, moment_said}
use Rattle.report_laws.proofs.Clear.{Clear, clear_text, clear_both, decimal_clear, body_clear}
use Rattle.report_laws.proofs.Lines.{SaysOn, skipped, cast_says, send_says, view_says, out_says}
use Rattle.report_laws.proofs.Sayable.{Sayable, SayableMember, SayableDid}
use Rattle.report_laws.proofs.Texts.{Whole, chain_clear, BothClear, values_clear}
use Rattle.report_laws.proofs.Words.{verb}

pub zip_both : {A B : Type 0} (R : A → B → Type 0) (xs us : List A) (ys vs : List B) → AllZip R xs ys → AllZip R us vs →
    AllZip R (xs ++ us) (ys ++ vs)
zip_both R [] us [] vs h more = more
zip_both R [] us (y ∷ ys) vs h more = absurd h
zip_both R (x ∷ xs) us [] vs h more = absurd h
zip_both R (x ∷ xs) us (y ∷ ys) vs h more = (h.0, zip_both R xs us ys vs h.1 more)

number_clear : (n : ℕ) → Clear 10 (decimal n)
number_clear n = decimal_clear 10 n (omega arith)

-- lines that no law looks at, by their first words

block_skips : (id a : ℕ) → SaysOn (number_line (codes "block") id a) silent
block_skips id a = skipped (codes "block") (decimal id) (decimal a ∷ []) (verb (codes "block") refl)
    (clear_text 10 (codes "block") refl) (λ ws. refl) (number_clear id) (number_clear a, tt)

announce_skips : (id a : ℕ) → SaysOn (number_line (codes "announce") id a) silent
announce_skips id a = skipped (codes "announce") (decimal id) (decimal a ∷ []) (verb (codes "announce") refl)
    (clear_text 10 (codes "announce") refl) (λ ws. refl) (number_clear id) (number_clear a, tt)

timer_skips : (id a : ℕ) → SaysOn (number_line (codes "timer") id a) silent
timer_skips id a = skipped (codes "timer") (decimal id) (decimal a ∷ []) (verb (codes "timer") refl)
    (clear_text 10 (codes "timer") refl) (λ ws. refl) (number_clear id) (number_clear a, tt)

dest_clear : (d : Dest) → Clear 10 (dest_text d)
dest_clear All = clear_text 10 (codes "all") refl
dest_clear (Rank r) = number_clear r

stray_clear : (c : Stray) → Clear 10 (stray_text c)
stray_clear stray.Short = clear_text 10 (codes "short") refl
stray_clear stray.Form = clear_text 10 (codes "form") refl
stray_clear stray.Group = clear_text 10 (codes "group") refl
stray_clear stray.Stamp = clear_text 10 (codes "stamp") refl
stray_clear stray.View = clear_text 10 (codes "view") refl
stray_clear stray.Sender = clear_text 10 (codes "sender") refl
stray_clear stray.Dest = clear_text 10 (codes "dest") refl
stray_clear stray.Plan = clear_text 10 (codes "plan") refl
stray_clear stray.Chain = clear_text 10 (codes "chain") refl
stray_clear stray.Body = clear_text 10 (codes "body") refl

cause_clear : (r : Refusal) → Clear 10 (cause_text r)
cause_clear is_out = clear_text 10 (codes "out") refl
cause_clear too_big = clear_text 10 (codes "big") refl
cause_clear (is_stray c) = stray_clear c

refused_skips : (id : ℕ) (r : Refusal) → SaysOn (refused_line id r) silent
refused_skips id r = skipped (codes "refused") (decimal id) (cause_text r ∷ []) (verb (codes "refused") refl)
    (clear_text 10 (codes "refused") refl) (λ ws. refl) (number_clear id) (cause_clear r, tt)

absent_skips : (id k : ℕ) → SaysOn (absent_line id k) silent
absent_skips id k = skipped (codes "absent") (decimal id) (decimal k ∷ []) (verb (codes "absent") refl)
    (clear_text 10 (codes "absent") refl) (λ ws. refl) (number_clear id) (number_clear k, tt)

state_skips : (id : ℕ) (view : View) → SaysOn (view_line (codes "state") id view) silent
state_skips id view =
    skipped (codes "state") (decimal id) (decimal view.ltime ∷ decimal view.mask ∷ []) (verb (codes "state") refl)
    (clear_text 10 (codes "state") refl) (λ ws. refl) (number_clear id)
    (number_clear view.ltime, (number_clear view.mask, tt))

state_out_skips : (id : ℕ) → SaysOn (state_out_line id) silent
state_out_skips id = skipped (codes "state") (decimal id) (codes "out" ∷ []) (verb (codes "state") refl)
    (clear_text 10 (codes "state") refl) (λ ws. refl) (number_clear id) (clear_text 10 (codes "out") refl, tt)

-- each of these lines is silent
abbrev Silent : List ℕ → Type 0
Silent l = SaysOn l silent

silent_zip : (lines : List (List ℕ)) → AllByRecursion Silent lines →
    AllZip SaysOn lines (map (λ shown_line. silent) lines)
silent_zip [] all = tt
silent_zip (l ∷ lines) all = (all.0, silent_zip lines all.1)

each_both : {A : Type 0} (P : A → Type 0) (xs ys : List A) → AllByRecursion P xs → AllByRecursion P ys →
    AllByRecursion P (xs ++ ys)
each_both P [] ys h more = more
each_both P (x ∷ xs) ys h more = (h.0, each_both P xs ys h.1 more)

module _ (stack : List LayerTree) (whole : AllByRecursion Whole stack) where
  packet_skips : (k id : ℕ) (p : Packet) → SaysOn (packet_line stack k id p) silent
  packet_skips k id p =
      skipped (codes "packet") (decimal k)
      (decimal id ∷ dest_text p.dest ∷ chain_text stack p.message.headers ∷ hex_text p.message.body ∷ [])
      (verb (codes "packet") refl) (clear_text 10 (codes "packet") refl) (λ ws. refl) (number_clear k) (
        number_clear id,
        (dest_clear p.dest, (chain_clear stack whole p.message.headers, (body_clear p.message.body, tt))),
      )

  cell_skips : (id place : ℕ) (layer : LayerTree) (name values : List ℕ) → Whole layer → Clear 10 name →
      Clear 10 values → SaysOn (cell_line id place layer name values) silent
  cell_skips id place layer name values is named clear =
      skipped (codes "cell") (decimal id) (decimal place ∷ (layer.name ++ codes "." ++ name) ∷ values ∷ [])
      (verb (codes "cell") refl) (clear_text 10 (codes "cell") refl) (λ ws. refl) (number_clear id) (
        number_clear place,
        (
          clear_both 10 (layer.name ++ codes ".") name
              (clear_both 10 layer.name (codes ".") is.name (clear_text 10 (codes ".") refl)) named,
          (clear, tt),
        ),
      )

  values_skip : (id place : ℕ) (layer : LayerTree) → Whole layer → (xs : List (List ℕ × List ℕ)) →
      AllByRecursion (BothClear stack whole) xs → AllByRecursion Silent (map (λ x. cell_line id place layer x.0 x.1) xs)
  values_skip id place layer is [] all = tt
  values_skip id place layer is (x ∷ xs) all =
      (cell_skips id place layer x.0 x.1 is all.0.0 all.0.1, values_skip id place layer is xs all.1)

  cells_skip : (id place : ℕ) (layer : LayerTree) (s : State) → Whole layer → (cells : List CellTree) (n : ℕ) →
      AllByRecursion (λ c. Clear 10 c.name) cells →
      AllByRecursion Silent (flat_map (cell_lines stack id place layer s) (enumerate_from n cells))
  cells_skip id place layer s is [] n all = tt
  cells_skip id place layer s is (c ∷ cells) n all =
      each_both Silent (cell_lines stack id place layer s (n, c)) _
      (values_skip id place layer is (cell_values stack c.name c.form (cell_at s n))
      (values_clear stack whole c.name c.form (cell_at s n) all.0))
      (cells_skip id place layer s is cells (n + 1) all.1)

  layers_skip : (id : ℕ) (states : List State) (layers : List LayerTree) (n : ℕ) → AllByRecursion Whole layers →
      AllByRecursion Silent (flat_map (layer_lines stack id states) (enumerate_from n layers))
  layers_skip id states [] n all = tt
  layers_skip id states (layer ∷ layers) n all =
      each_both Silent (layer_lines stack id states (n, layer)) _
      (cells_skip id n layer (slice_index_or states n no_state) all.0 layer.cells 0 all.0.cells)
      (layers_skip id states layers (n + 1) all.1)

  member_skips : (id : ℕ) (m : Member) → AllByRecursion Silent (member_lines stack id m)
  member_skips id (inside view states) = (state_skips id view, layers_skip id states stack 0 whole)
  member_skips id out = (state_out_skips id, tt)

  -- outputs, in order

  output_says : (id k : ℕ) → id ≤ 31 → (o : Output) → Sayable o →
      AllZip SaysOn (output_lines stack id k o ++ []) (output_said id o)
  output_says id k most (deliver_cast peer body) h = (cast_says id most peer body h.0 h.1, tt)
  output_says id k most (deliver_send peer body) h = (send_says id most peer body h.0 h.1, tt)
  output_says id k most (block a) h = (block_skips id a, tt)
  output_says id k most (announce a) h = (announce_skips id a, tt)
  output_says id k most (packet p) h = (packet_skips k id p, tt)
  output_says id k most nowhere h = tt
  output_says id k most (timer a) h = (timer_skips id a, tt)
  output_says id k most (quiet dir event) h = tt

  outputs_say : (plans : List Plan) (id : ℕ) → id ≤ 31 → (outputs : List Output) (k : ℕ) (next : Option ℕ) →
      AllByRecursion Sayable outputs →
      AllZip SaysOn (lines_of_outputs stack no_annex id k (with_plans plans next outputs))
      (flat_map (output_said id) outputs)
  outputs_say plans id most [] k next all = tt
  outputs_say plans id most (o ∷ outputs) k next all =
      zip_both SaysOn (output_lines stack id k o ++ [])
      (lines_of_outputs stack no_annex id (number_following k o) (with_plans plans (plan_after next o) outputs))
      (output_said id o) (flat_map (output_said id) outputs) (output_says id k most o all.0)
      (outputs_say plans id most outputs (number_following k o) (plan_after next o) all.1)

  installed_says : (id : ℕ) → id ≤ 31 → (o : Option Member) → Where SayableMember o →
      AllZip SaysOn (map (installed_line id) (option_to_list o)) (map (installed_said id) (option_to_list o))
  installed_says id most None h = tt
  installed_says id most (Some (inside view states)) h = (view_says id most view h, tt)
  installed_says id most (Some out) h = (out_says id most, tt)

  did_says : (plans : List Plan) (m : Moment) → member_of m.event ≤ 31 → (did : Did) → SayableDid did →
      AllZip SaysOn (lines_of stack (step_lines stack plans None (member_of m.event) (first_number m)) m did)
      (did_said stack m did)
  did_says plans m most (taken s) h =
      zip_both SaysOn (step_lines stack plans None (member_of m.event) (first_number m) s)
      (map (installed_line (member_of m.event)) (option_to_list s.installs))
      (flat_map (output_said (member_of m.event)) s.outputs)
      (map (installed_said (member_of m.event)) (option_to_list s.installs))
      (outputs_say plans (member_of m.event) most s.outputs (first_number m) None h.0)
      (installed_says (member_of m.event) most s.installs h.1)
  did_says plans m most (refused r) h = (refused_skips (member_of m.event) r, tt)
  did_says plans m most absent h = (absent_skips (member_of m.event) (packet_given m.event), tt)
  did_says plans m most shown h =
      silent_zip (member_lines stack (member_of m.event) (member_at m.before (member_of m.event)))
      (member_skips (member_of m.event) (member_at m.before (member_of m.event)))

  pub moment_says : (plans : List Plan) (m : Moment) → member_of m.event ≤ 31 → SayableDid m.happening.did →
      AllZip SaysOn (moment_lines stack plans None m) (moment_said stack m)
  moment_says plans m most h = did_says plans m most m.happening.did h
