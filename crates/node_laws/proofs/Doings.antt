-- The notes of what a node does are its notes.
use Rattle.std.proofs.Common.{◌≡◌, ◌∙◌, ℕ, zero, suc, ◌+◌, List, [], ◌∷◌, ◌++◌, length, take, drop, map, Option, Some}
use Rattle.std.proofs.Common.{None, refl, ap}
use Rattle.std.specs.Prelude.{zip}
use Rattle.std.specs.List.{filter_map}
use Rattle.std.proofs.lemmas.List.Elements.{filter_map-append}
use Rattle.script_mean.specs.declared.event.ScriptEvent.{ScriptEvent}
use Rattle.script_mean.specs.declared.event.ScriptEvent.TheVariants.{Tick, Raw}
use Rattle.run_mean.specs.Journal.{Heard, datagram, silence, failure, Note, fed, deaf, hearing, planned_events}
use Rattle.run_mean.specs.Journal.{while_patient}
use Rattle.group_mean.specs.Node.{notes_from, receiving}
use Rattle.node_laws.specs.Doings.{Doing, does, note_in, asking, doings_from, NotesAreOfDoings}
use Rattle.node_laws.specs.Doings.{while_patient as going_on}

-- members that ask note what those that hear note, and are left with as much patience
notes_asked : (patience : ℕ) (heard : List (ℕ × Heard)) → filter_map note_in (asking patience heard).doings ≡
    (hearing patience heard).notes
notes_asked patience [] = refl
notes_asked patience ((id, datagram bytes) ∷ rest) =
    ap (λ notes. fed (Raw id bytes) ∷ notes) (notes_asked patience rest)
notes_asked patience ((id, silence) ∷ rest) = notes_asked patience rest
notes_asked zero ((id, failure) ∷ rest) = refl
notes_asked (suc patience) ((id, failure) ∷ rest) = ap (λ notes. deaf id ∷ notes) (notes_asked patience rest)

patience_asked : (patience : ℕ) (heard : List (ℕ × Heard)) → (asking patience heard).patience ≡
    (hearing patience heard).patience
patience_asked patience [] = refl
patience_asked patience ((id, datagram bytes) ∷ rest) = patience_asked patience rest
patience_asked patience ((id, silence) ∷ rest) = patience_asked patience rest
patience_asked zero ((id, failure) ∷ rest) = refl
patience_asked (suc patience) ((id, failure) ∷ rest) = patience_asked patience rest

-- events that are done are noted
notes_done : {A : Type 0} (event : A → ScriptEvent) (xs : List A) → filter_map note_in (map (λ x. does (event x)) xs) ≡
    map (λ x. fed (event x)) xs
notes_done event [] = refl
notes_done event (x ∷ xs) = ap (λ notes. fed (event x) ∷ notes) (notes_done event xs)

both_noted : (xs ys : List Doing) (ms ns : List Note) → filter_map note_in xs ≡ ms → filter_map note_in ys ≡ ns →
    filter_map note_in (xs ++ ys) ≡ ms ++ ns
both_noted xs ys ms ns first second = filter_map-append note_in xs ys ∙ (λ i. first i ++ second i)

noted_on : (o : Option ℕ) (next : ℕ → List Doing) (next' : ℕ → List Note) →
    ((left : ℕ) → filter_map note_in (next left) ≡ next' left) →
    filter_map note_in (going_on o next) ≡ while_patient o next'
noted_on None next next' so = refl
noted_on (Some left) next next' so = so left

pub notes_are_of_doings : NotesAreOfDoings
notes_are_of_doings plan me t zero patience clock heard = refl
notes_are_of_doings plan me t (suc turns) patience [] heard = refl
notes_are_of_doings plan me t (suc turns) patience (moment ∷ clock) heard =
    let asked = zip (receiving me) (take (length (receiving me)) heard) in
    let ticks = map (λ id. does (Tick id moment)) me in
    let a = asking patience asked in
    let planned = planned_events plan me t in
    let following = drop (length (receiving me)) heard in
    let next : ℕ → List Doing = λ left. map does planned ++ doings_from plan me (t + 1) turns left clock following in
    let next' : ℕ → List Note = λ left. map fed planned ++ notes_from plan me (t + 1) turns left clock following in
    both_noted (ticks ++ a.doings) (going_on a.patience next) _ _
    (both_noted ticks a.doings _ _ (notes_done (λ id. Tick id moment) me) (notes_asked patience asked))
    (noted_on a.patience next next' (λ left.
    both_noted (map does planned) (doings_from plan me (t + 1) turns left clock following) _ _
    (notes_done (λ event. event) planned)
    (notes_are_of_doings plan me (t + 1) turns left clock following))
    ∙ ap (λ o. while_patient o next') (patience_asked patience asked))
