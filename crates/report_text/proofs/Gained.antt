-- The lines of each kind that lists of lines have.
use Rattle.std.proofs.Common.{◌≡◌, ℕ, suc, ◌+◌, false, List, ◌∷◌, [], ◌++◌, map, length, refl, sym, ap, ◌∙◌, add_assoc}
use Rattle.std.proofs.Common.{add-zero, zero-add, append-nil, length-append, codes, Option, None, Some}
use Rattle.std.proofs.lemmas.Grind.{flat_map-append}
use Rattle.std.proofs.lemmas.List.Sums.{sum_by-append, sum_by-cons}
use Rattle.std.specs.List.{enumerate_from, flat_map, fold, sum_by}
use Rattle.std.specs.Prelude.{cond, count_by, is_some, slice_index_or}
use Rattle.run_mean.specs.Mode.{Mode}
use Rattle.msg_core.specs.declared.packet.Packet.{Packet}
use Rattle.msg_core.specs.declared.packet.View.{View}
use Rattle.layer_mean.specs.State.{cell_at}
use Rattle.layer_mean.specs.Tree.{LayerTree}
use Rattle.layer_mean.specs.Visit.{no_state}
use Rattle.run_mean.specs.Lines.{absent_line, cell_line, cell_values, deliver_line, number_line, out_line, packet_line}
use Rattle.run_mean.specs.Lines.{refused_line, state_out_line, view_line}
use Rattle.run_mean.specs.Member.{Member, Output, Refusal, inside, out, deliver_cast, deliver_send, block, announce}
use Rattle.run_mean.specs.Member.{packet, nowhere, timer, quiet}
use Rattle.run_mean.specs.Report.{packet_given, Moment, cell_lines, layer_lines, lines_of_outputs, member_lines}
use Rattle.run_mean.specs.Report.{moment_lines, moments, no_annex, number_following, output_lines, run_of, first_number}
use Rattle.run_mean.specs.Tally.{count_of, is_short_packet, short_in, tally}
use Rattle.run_mean.specs.World as world
use Rattle.run_mean.specs.World.{World, first_world, happens, member_at}
use Rattle.script_mean.specs.Event.{member_of}
use Rattle.script_mean.specs.declared.event.ScriptEvent.{ScriptEvent}
use Rattle.script_mean.specs.declared.script.Script.{Script}
use Rattle.stack_mean.specs.Plan.{Plan}
use Rattle.view_core.specs.Happenings.{DidIs}
use Rattle.view_core.specs.Refusals.{refusal_meant}
use Rattle.view_core.specs.declared.step.Change.{Change}
use Rattle.view_core.specs.declared.step.Change.TheVariants as change
use Rattle.view_core.specs.declared.step.Did as code
use Rattle.view_core.specs.declared.step.Did.TheVariants as did
use Rattle.view_core.specs.declared.step.Stepped.TheVariants.{Taken, Refused}
use Rattle.report_text.specs.Counts.{change_counted, with_event_counted, counts_of, lines_counted, output_counted}
use Rattle.report_text.specs.Counts.{tally_lines}
use Rattle.report_text.specs.Told.{change_lines, told_lines}
use Rattle.report_text.specs.declared.counts.Counts.{Counts}
use Rattle.report_text.proofs.Moments.{told_is_moment}

-- counts with the kinds of more lines, more short packets and more events
gained : Counts → List (List ℕ) → (short events : ℕ) → Counts
gained c lines short events = record {
  deliver = c.deliver + count_of lines (codes "deliver");
  packet = c.packet + count_of lines (codes "packet");
  timer = c.timer + count_of lines (codes "timer");
  block = c.block + count_of lines (codes "block");
  announce = c.announce + count_of lines (codes "announce");
  view = c.view + count_of lines (codes "view");
  out = c.out + count_of lines (codes "out");
  refused = c.refused + count_of lines (codes "refused");
  absent = c.absent + count_of lines (codes "absent");
  short = c.short + short;
  events = c.events + events;
}

-- nothing is added
z : {n : ℕ} → n + 0 ≡ n
z {n} = add-zero n

same_counts : (a b : Counts) → a.deliver ≡ b.deliver → a.packet ≡ b.packet → a.timer ≡ b.timer → a.block ≡ b.block →
    a.announce ≡ b.announce →
    a.view ≡ b.view → a.out ≡ b.out → a.refused ≡ b.refused → a.absent ≡ b.absent → a.short ≡ b.short →
    a.events ≡ b.events → a ≡ b
same_counts a b d p t bl an v o r ab s e = λ x. record {
  deliver = d x;
  packet = p x;
  timer = t x;
  block = bl x;
  announce = an x;
  view = v x;
  out = o x;
  refused = r x;
  absent = ab x;
  short = s x;
  events = e x;
}

count_append : (xs ys : List (List ℕ)) (word : List ℕ) → count_of (xs ++ ys) word ≡ count_of xs word + count_of ys word
count_append xs ys word = sum_by-append _ xs ys

more : (n : ℕ) (xs ys : List (List ℕ)) (word : List ℕ) → n + count_of xs word + count_of ys word ≡
    n + count_of (xs ++ ys) word
more n xs ys word = add_assoc n (count_of xs word) (count_of ys word) ∙ ap (λ k. n + k) (sym (count_append xs ys word))

gained_both : (c : Counts) (xs ys : List (List ℕ)) (s t e f : ℕ) → gained (gained c xs s e) ys t f ≡
    gained c (xs ++ ys) (s + t) (e + f)
unfolding gained
gained_both c xs ys s t e f =
    same_counts _ _ (more c.deliver xs ys (codes "deliver")) (more c.packet xs ys (codes "packet"))
    (more c.timer xs ys (codes "timer"))
    (more c.block xs ys (codes "block")) (more c.announce xs ys (codes "announce"))
    (more c.view xs ys (codes "view")) (more c.out xs ys (codes "out"))
    (more c.refused xs ys (codes "refused")) (more c.absent xs ys (codes "absent")) (add_assoc c.short s t)
    (add_assoc c.events e f)

gained_none : (c : Counts) → gained c [] 0 0 ≡ c
unfolding gained
gained_none c =
    same_counts _ _ z z z z z z z z z z z

-- one line of each kind
delivered : (c : Counts) (id : ℕ) (what : List ℕ) (peer : ℕ) (body : List ℕ) →
    record c { deliver = c.deliver + 1 } ≡ gained c (deliver_line id what peer body ∷ []) 0 0
unfolding gained
delivered c id what peer body = sym (same_counts _ _ refl z z z z z z z z z z)

sent : (c : Counts) (stack : List LayerTree) (k id : ℕ) (p : Packet) (short : ℕ) →
    record c { packet = c.packet + 1; short = c.short + short } ≡ gained c (packet_line stack k id p ∷ []) short 0
unfolding gained
sent c stack k id p short = sym (same_counts _ _ z refl z z z z z z z refl z)

timed : (c : Counts) (id a : ℕ) → record c { timer = c.timer + 1 } ≡
    gained c (number_line (codes "timer") id a ∷ []) 0 0
unfolding gained
timed c id a = sym (same_counts _ _ z z refl z z z z z z z z)

blocked : (c : Counts) (id a : ℕ) → record c { block = c.block + 1 } ≡
    gained c (number_line (codes "block") id a ∷ []) 0 0
unfolding gained
blocked c id a = sym (same_counts _ _ z z z refl z z z z z z z)

announced : (c : Counts) (id a : ℕ) → record c { announce = c.announce + 1 } ≡
    gained c (number_line (codes "announce") id a ∷ []) 0 0
unfolding gained
announced c id a = sym (same_counts _ _ z z z z refl z z z z z z)

viewed : (c : Counts) (id : ℕ) (view : View) → record c { view = c.view + 1 } ≡
    gained c (view_line (codes "view") id view ∷ []) 0 0
unfolding gained
viewed c id view = sym (same_counts _ _ z z z z z refl z z z z z)

went_out : (c : Counts) (id : ℕ) → record c { out = c.out + 1 } ≡ gained c (out_line id ∷ []) 0 0
unfolding gained
went_out c id = sym (same_counts _ _ z z z z z z refl z z z z)

was_refused : (c : Counts) (id : ℕ) (cause : Refusal) → record c { refused = c.refused + 1 } ≡
    gained c (refused_line id cause ∷ []) 0 0
unfolding gained
was_refused c id cause = sym (same_counts _ _ z z z z z z z refl z z z)

was_absent : (c : Counts) (id k : ℕ) → record c { absent = c.absent + 1 } ≡ gained c (absent_line id k ∷ []) 0 0
unfolding gained
was_absent c id k = sym (same_counts _ _ z z z z z z z z refl z z)

-- the lines of a member that is shown are of no kind that is counted
Uncounted : List (List ℕ) → Type 0
Uncounted lines = (c : Counts) → gained c lines 0 0 ≡ c

uncounted_is : (lines : List (List ℕ)) → Uncounted lines → (c : Counts) → gained c lines 0 0 ≡ c
unfolding Uncounted
uncounted_is lines h c = h c

uncounted_none : Uncounted []
unfolding Uncounted
uncounted_none c = gained_none c

uncounted_both : (xs ys : List (List ℕ)) → Uncounted xs → Uncounted ys → Uncounted (xs ++ ys)
unfolding Uncounted
uncounted_both xs ys h k c = sym (gained_both c xs ys 0 0 0 0) ∙ ap (λ d. gained d ys 0 0) (h c) ∙ k c

uncounted_cell : (id place : ℕ) (layer : LayerTree) (name values : List ℕ) →
    Uncounted (cell_line id place layer name values ∷ [])
unfolding Uncounted gained
uncounted_cell id place layer name values c = same_counts _ _ z z z z z z z z z z z

uncounted_state : (id : ℕ) (view : View) → Uncounted (view_line (codes "state") id view ∷ [])
unfolding Uncounted gained
uncounted_state id view c = same_counts _ _ z z z z z z z z z z z

uncounted_out : (id : ℕ) → Uncounted (state_out_line id ∷ [])
unfolding Uncounted gained
uncounted_out id c = same_counts _ _ z z z z z z z z z z z

uncounted_all : {X : Type 0} (f : X → List (List ℕ)) (xs : List X) → ((x : X) → Uncounted (f x)) →
    Uncounted (flat_map f xs)
uncounted_all f [] each = uncounted_none
uncounted_all f (x ∷ xs) each = uncounted_both (f x) (flat_map f xs) (each x) (uncounted_all f xs each)

uncounted_values : (id place : ℕ) (layer : LayerTree) (values : List (List ℕ × List ℕ)) →
    Uncounted (map (λ (x : List ℕ × List ℕ). cell_line id place layer x.0 x.1) values)
uncounted_values id place layer [] = uncounted_none
uncounted_values id place layer (x ∷ values) =
    uncounted_both (cell_line id place layer x.0 x.1 ∷ []) _ (uncounted_cell id place layer x.0 x.1)
    (uncounted_values id place layer values)

uncounted_member : (stack : List LayerTree) (id : ℕ) (m : Member) → Uncounted (member_lines stack id m)
uncounted_member stack id (inside view states) =
    uncounted_both (view_line (codes "state") id view ∷ []) _ (uncounted_state id view)
    (uncounted_all (layer_lines stack id states) (enumerate_from 0 stack) (λ l. uncounted_all
    (cell_lines stack id l.0 l.1 (slice_index_or states l.0 no_state)) (enumerate_from 0 l.1.cells)
    (λ c. uncounted_values id l.0 l.1
    (cell_values stack c.1.name c.1.form (cell_at (slice_index_or states l.0 no_state) c.0)))))
uncounted_member stack id out = uncounted_out id

-- an output, and outputs in turn
gained_nothing : (c : Counts) → c ≡ gained c [] 0 0
gained_nothing c = sym (gained_none c)

output_gained : (c : Counts) (stack : List LayerTree) (id k : ℕ) (o : Output) (plan : Option ℕ) →
    output_counted c (o, plan) ≡ gained c (output_lines stack id k o) (cond (is_short_packet (o, plan)) 1 0) 0
output_gained c stack id k (deliver_cast peer body) plan = delivered c id (codes "cast") peer body
output_gained c stack id k (deliver_send peer body) plan = delivered c id (codes "send") peer body
output_gained c stack id k (block a) plan = blocked c id a
output_gained c stack id k (announce a) plan = announced c id a
output_gained c stack id k (packet p) plan = sent c stack k id p (cond (is_some plan) 1 0)
output_gained c stack id k nowhere plan = gained_nothing c
output_gained c stack id k (timer a) plan = timed c id a
output_gained c stack id k (quiet dir event) plan = gained_nothing c

outputs_gained : (c : Counts) (stack : List LayerTree) (id k : ℕ) (outs : List (Output × Option ℕ)) →
    fold output_counted c outs ≡ gained c (lines_of_outputs stack no_annex id k outs) (count_by is_short_packet outs) 0
outputs_gained c stack id k [] = gained_nothing c
outputs_gained c stack id k (o ∷ outs) =
    let own = output_lines stack id k o.0 in
    let rest = lines_of_outputs stack no_annex id (number_following k o.0) outs in
    let one = cond (is_short_packet o) 1 0 in
    let others = count_by is_short_packet outs in
    outputs_gained (output_counted c o) stack id (number_following k o.0) outs
    ∙ ap (λ d. gained d rest others 0) (output_gained c stack id k o.0 o.1)
    ∙ gained_both c own rest one others 0 0
    ∙ ap (λ lines. gained c (lines ++ rest) (one + others) 0) (sym (append-nil own))
    ∙ ap (λ short. gained c (own ++ [] ++ rest) short 0) (sym (sum_by-cons (λ x. cond (is_short_packet x) 1 0) o outs))

change_gained : (c : Counts) (id : ℕ) (change : Option Change) →
    change_counted c change ≡ gained c (change_lines id change) 0 0
change_gained c id None = gained_nothing c
change_gained c id (Some (change.Into view)) = viewed c id view
change_gained c id (Some change.Out) = went_out c id

-- how many packets an event sends short
short_told : code.Did → List (Output × Option ℕ) → ℕ
short_told (did.Stepped (Taken common change)) outs = count_by is_short_packet outs
short_told (did.Stepped (Refused refusal)) outs = 0
short_told did.Absent outs = 0
short_told did.Shown outs = 0

lines_gained : (c : Counts) (stack : List LayerTree) (plans : List Plan) (event : ScriptEvent) (d : code.Did)
    (outs : List (Output × Option ℕ))
    (shown : Member) (first : ℕ) →
    lines_counted c d outs ≡ gained c (told_lines stack plans false event d outs shown first) (short_told d outs) 0
unfolding short_told
lines_gained c stack plans event (did.Stepped (Taken common change)) outs shown first =
    let lines = lines_of_outputs stack no_annex (member_of event) first outs in
    change_gained (fold output_counted c outs) (member_of event) change
    ∙ ap (λ d. gained d (change_lines (member_of event) change) 0 0)
    (outputs_gained c stack (member_of event) first outs)
    ∙ gained_both c lines (change_lines (member_of event) change) (count_by is_short_packet outs) 0 0 0
    ∙ ap (λ short. gained c (lines ++ change_lines (member_of event) change) short 0)
    (add-zero (count_by is_short_packet outs))
lines_gained c stack plans event (did.Stepped (Refused refusal)) outs shown first =
    was_refused c (member_of event) (refusal_meant refusal)
lines_gained c stack plans event did.Absent outs shown first = was_absent c (member_of event) (packet_given event)
lines_gained c stack plans event did.Shown outs shown first =
    sym (uncounted_is (member_lines stack (member_of event) shown) (uncounted_member stack (member_of event) shown) c)

event_gained : (c : Counts) (lines : List (List ℕ)) (short : ℕ) →
    gained (record c { events = c.events + 1 }) lines short 0 ≡ gained c lines short 1
unfolding gained
event_gained c lines short = same_counts _ _ refl refl refl refl refl refl refl refl refl refl z

told_gained : (c : Counts) (stack : List LayerTree) (plans : List Plan) (event : ScriptEvent) (d : code.Did)
    (outs : List (Output × Option ℕ))
    (shown : Member) (first : ℕ) → with_event_counted c d outs ≡
    gained c (told_lines stack plans false event d outs shown first)
    (short_told d outs) 1
told_gained c stack plans event d outs shown first =
    lines_gained (record c { events = c.events + 1 }) stack plans event d outs shown first
    ∙ event_gained c (told_lines stack plans false event d outs shown first) (short_told d outs)

-- the packets that an event sends short, as they are told
short_is : (mode : Mode) (stack : List LayerTree) (plans : List Plan) (h : world.Did) (outs : List (Output × Option ℕ))
    (before after : ℕ) (d : code.Did) →
    DidIs mode stack plans h outs before after d → short_told d outs ≡ short_in mode stack plans h
unfolding short_told
short_is mode stack plans (world.taken s) outs before after (did.Stepped (Taken common change)) is =
    ap (count_by is_short_packet) is.outs_are
short_is mode stack plans (world.refused r) outs before after (did.Stepped (Refused told)) is = refl
short_is mode stack plans world.absent outs before after did.Absent is = refl
short_is mode stack plans world.shown outs before after did.Shown is = refl
short_is mode stack plans (world.taken s) outs before after (did.Stepped (Refused told)) is = absurd is
short_is mode stack plans (world.taken s) outs before after did.Absent is = absurd is
short_is mode stack plans (world.taken s) outs before after did.Shown is = absurd is
short_is mode stack plans (world.refused r) outs before after (did.Stepped (Taken common change)) is = absurd is
short_is mode stack plans (world.refused r) outs before after did.Absent is = absurd is
short_is mode stack plans (world.refused r) outs before after did.Shown is = absurd is
short_is mode stack plans world.absent outs before after (did.Stepped (Taken common change)) is = absurd is
short_is mode stack plans world.absent outs before after (did.Stepped (Refused told)) is = absurd is
short_is mode stack plans world.absent outs before after did.Shown is = absurd is
short_is mode stack plans world.shown outs before after (did.Stepped (Taken common change)) is = absurd is
short_is mode stack plans world.shown outs before after (did.Stepped (Refused told)) is = absurd is
short_is mode stack plans world.shown outs before after did.Absent is = absurd is

-- one more moment
counts_gained : (mode : Mode) (stack : List LayerTree) (plans : List Plan) (run : List Moment) (m : Moment) →
    counts_of mode stack plans (run ++ m ∷ [])
    ≡ gained (counts_of mode stack plans run) (moment_lines stack plans None m)
    (short_in mode stack plans m.happening.did) 1
unfolding gained
counts_gained mode stack plans run m =
    let lines = moment_lines stack plans None m in
    let here = flat_map-append (moment_lines stack plans None) run (m ∷ [])
    ∙ ap (λ last. flat_map (moment_lines stack plans None) run ++ last) (append-nil lines) in
    let kind = λ (word : List ℕ). ap (λ all. count_of all word) here ∙
    count_append (flat_map (moment_lines stack plans None) run) lines word in
    same_counts _ _ (kind (codes "deliver")) (kind (codes "packet")) (kind (codes "timer")) (kind (codes "block"))
    (kind (codes "announce"))
    (kind (codes "view")) (kind (codes "out")) (kind (codes "refused")) (kind (codes "absent"))
    (sum_by-append (λ m. short_in mode stack plans m.happening.did) run (m ∷ [])
    ∙ ap (λ short. sum_by (λ m. short_in mode stack plans m.happening.did) run + short)
    (zero-add (short_in mode stack plans m.happening.did)))
    (length-append run (m ∷ []))

pub counted_moment : (mode : Mode) (stack : List LayerTree) (plans : List Plan) (run : List Moment) (m : Moment)
    (outs : List (Output × Option ℕ))
    (before after : ℕ) (d : code.Did) → DidIs mode stack plans m.happening.did outs before after d →
    with_event_counted (counts_of mode stack plans run) d outs ≡ counts_of mode stack plans (run ++ m ∷ [])
counted_moment mode stack plans run m outs before after d is =
    let shown = member_at m.before (member_of m.event) in
    told_gained (counts_of mode stack plans run) stack plans m.event d outs shown (first_number m)
    ∙ ap (λ lines. gained (counts_of mode stack plans run) lines (short_told d outs) 1)
    (told_is_moment mode stack plans false m outs before after d shown (first_number m) is (λ seen. refl) refl)
    ∙ ap (λ short. gained (counts_of mode stack plans run) (moment_lines stack plans None m) short 1)
    (short_is mode stack plans m.happening.did outs before after d is)
    ∙ sym (counts_gained mode stack plans run m)

-- the two lines of a whole run
run_length : (stack : List LayerTree) (plans : List Plan) (w : World) (events : List ScriptEvent) →
    length (moments stack plans w events) ≡ length events
run_length stack plans w [] = refl
run_length stack plans w (e ∷ events) = ap suc (run_length stack plans (happens stack plans w e).world events)

pub counted_tally : (mode : Mode) (stack : List LayerTree) (plans : List Plan) (s : Script) →
    tally_lines (counts_of mode stack plans (run_of stack plans s)) ≡ tally stack plans mode s
counted_tally mode stack plans s =
    ap (λ n. tally_lines (record (counts_of mode stack plans (run_of stack plans s)) { events = n }))
    (run_length stack plans (first_world stack s.group s.stamp s.members) s.events)
