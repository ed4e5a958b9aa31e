-- A text is one file at most, and is good or refused.
use Rattle.std.proofs.Common.{arith, ◌≡◌, refl, sym, ◌∙◌, ap, subst, ℕ, ◌<◌, ◌≤◌, List, [], ◌∷◌, length, inl, inr}
use Rattle.std.specs.Prelude.{◌⊎◌, Result, Ok, Err}
use Rattle.std.specs.List.{AllZip}
use Rattle.layer_words.specs.declared.places.At.{At}
use Rattle.layer_ast.specs.Print as print
use Rattle.layer_ast.specs.Stops.{StopsInside, StopsAtEnd}
use Rattle.layer_ast.specs.Tree.{LayerTree, FileTree}
use Rattle.layer_mean.specs.Tree as run
use Rattle.grammar_laws.proofs.Files.{layer_once}
use Rattle.grammar_laws.proofs.Once.{spelled_once}
use Rattle.grammar_laws.proofs.Together.{fits_together}
use Rattle.grammar_laws.specs.Verdict.{Verdict, a_file, bad, inside, at_end, Holds}
use Rattle.grammar_laws.proofs.Texts.{each_decided}
use Rattle.file_mean.specs.Library.{SpellsLayer, called_for, IsFile}
use Rattle.end_mean.specs.Status.{FileFault, too_large, bad_token, unexpected, unknown, twice, over_limit, wrong_kind}
use Rattle.end_mean.specs.Status.{arity, direction, header, initial, cycle, too_many, too_many_joins}
use Rattle.layer_ast.specs.Spells.{longest_file}
use Rattle.output_mean.specs.Judged.{judged_stack, Means, Condemns, Refuses}
use Rattle.program_laws.specs.OneEnd.{OneFile, OneMeaning, OneRefusal, GoodOrRefused}

layers_are_one : (text : List ℕ) (a b : LayerTree) → SpellsLayer text a → SpellsLayer text b → a ≡ b
layers_are_one text a b x y =
    (layer_once a b [] [] (fits_together (print.layer a []) (print.layer b []) _ x.fits y.fits)).0

libraries_are_one : (texts : List (List ℕ)) (a b : List LayerTree) → AllZip SpellsLayer texts a →
    AllZip SpellsLayer texts b → a ≡ b
libraries_are_one [] [] [] x y = refl
libraries_are_one (t ∷ texts) (l ∷ a) (m ∷ b) x y =
    λ i. layers_are_one t l m x.0 y.0 i ∷ libraries_are_one texts a b x.1 y.1 i
libraries_are_one [] (l ∷ a) b x y = absurd x
libraries_are_one [] [] (m ∷ b) x y = absurd y
libraries_are_one (t ∷ texts) [] b x y = absurd x
libraries_are_one (t ∷ texts) (l ∷ a) [] x y = absurd y

-- a file without what the library brings
abbrev bare : FileTree → FileTree
bare f = record { layers = f.layers; places = f.places; library = [] }

pub one_file : OneFile
one_file text f g a b =
    let same : bare f ≡ bare g = spelled_once text (bare f) (bare g) refl
    (record { good = a.spelled.good; fits = a.spelled.fits; within = a.spelled.within; placed = a.spelled.placed })
    (record { good = b.spelled.good; fits = b.spelled.fits; within = b.spelled.within; placed = b.spelled.placed }) in
    let called : called_for f ≡ called_for g = ap called_for same in
    let library : f.library ≡ g.library =
    libraries_are_one (called_for g) f.library g.library
    (subst (λ texts. AllZip SpellsLayer texts f.library) called a.library) b.library in
    λ i. record { layers = (same i).layers; places = (same i).places; library = library i }

pub one_meaning : OneMeaning
one_meaning text s t a b =
    let file = one_file text a.file b.file a.is_file b.is_file in
    let both : Ok s ≡ Ok t = sym a.accepted ∙ ap judged_stack file ∙ b.accepted in cc

-- What a judged file gives, and that it isn't refused for what lies outside a file.
said_once : (f g : FileTree) (s : List run.LayerTree) (fault : FileFault) → f ≡ g → judged_stack f ≡ Ok s →
    judged_stack g ≡ Err fault → ⊥
said_once f g s fault same a b = let both : Ok s ≡ Err fault = sym a ∙ ap judged_stack same ∙ b in cc

-- A text that is a file is no text that stops.
spells : (text : List ℕ) (f : FileTree) → IsFile text f → Holds text a_file
spells text f is = record { file = f; spelled = is.spelled }

one_verdict : (text : List ℕ) (a b : Verdict) → Holds text a → Holds text b → a ≡ b
one_verdict text a b x y = let d = each_decided text in d.only a x ∙ sym (d.only b y)

no_stop : (text : List ℕ) (f : FileTree) (v : Verdict) → IsFile text f → Holds text v → a_file ≡ v
no_stop text f v is holds = one_verdict text a_file v (spells text f is) holds

-- The causes for which a file that a text spells is refused.
condemns_not_means : (text : List ℕ) (s : List run.LayerTree) (fault : FileFault) → Means text s → Condemns text fault →
    ⊥
condemns_not_means text s fault m c =
    said_once m.file c.file s fault (one_file text m.file c.file m.is_file c.is_file) m.accepted c.refused

stops_not_means : (text : List ℕ) (s : List run.LayerTree) (v : Verdict) → Means text s → Holds text v →
    (a_file ≡ v → ⊥) → ⊥
stops_not_means text s v m holds other = other (no_stop text m.file v m.is_file holds)

either_stops : (text : List ℕ) (s : List run.LayerTree) (at : At) → Means text s →
    StopsInside text at ⊎ StopsAtEnd text at → ⊥
either_stops text s at m (inl h) = stops_not_means text s (inside at) m h (λ e. cc e)
either_stops text s at m (inr h) = stops_not_means text s (at_end at) m h (λ e. cc e)

pub good_or_refused : GoodOrRefused
good_or_refused text s too_large m h = let small = m.small in absurd (omega (arith, small, h))
good_or_refused text s (bad_token at) m h = stops_not_means text s (bad at) m h.1 (λ e. cc e)
good_or_refused text s (unexpected at) m h = either_stops text s at m h.1
good_or_refused text s (unknown at) m h = condemns_not_means text s (unknown at) m h
good_or_refused text s (twice at) m h = condemns_not_means text s (twice at) m h
good_or_refused text s (over_limit at) m h = condemns_not_means text s (over_limit at) m h
good_or_refused text s (wrong_kind at) m h = condemns_not_means text s (wrong_kind at) m h
good_or_refused text s (arity at) m h = condemns_not_means text s (arity at) m h
good_or_refused text s (direction at) m h = condemns_not_means text s (direction at) m h
good_or_refused text s (header at) m h = condemns_not_means text s (header at) m h
good_or_refused text s (initial at) m h = condemns_not_means text s (initial at) m h
good_or_refused text s (cycle place kind) m h = condemns_not_means text s (cycle place kind) m h
good_or_refused text s (too_many weight) m h = condemns_not_means text s (too_many weight) m h
good_or_refused text s too_many_joins m h = condemns_not_means text s too_many_joins m h

-- what a verdict refuses a text for
abbrev refused_as : Verdict → FileFault
refused_as a_file = too_large
refused_as (bad at) = bad_token at
refused_as (inside at) = unexpected at
refused_as (at_end at) = unexpected at

-- A cause of refusal in one of three forms: by size, at the place where the text stops, or of the file that it spells.
data Cause (text : List ℕ) (fault : FileFault) : Type 0 where
  by_size : fault ≡ too_large → longest_file < length text → Cause text fault
  by_stop : (v : Verdict) → fault ≡ refused_as v → length text ≤ longest_file → Holds text v → (a_file ≡ v → ⊥) →
      Cause text fault
  by_file : Condemns text fault → Cause text fault

either_way : (text : List ℕ) (at : At) → length text ≤ longest_file → StopsInside text at ⊎ StopsAtEnd text at →
    Cause text (unexpected at)
either_way text at small (inl h) = by_stop (inside at) refl small h (λ e. cc e)
either_way text at small (inr h) = by_stop (at_end at) refl small h (λ e. cc e)

cause_of : (text : List ℕ) (fault : FileFault) → Refuses text fault → Cause text fault
cause_of text too_large h = by_size refl h
cause_of text (bad_token at) h = by_stop (bad at) refl h.0 h.1 (λ e. cc e)
cause_of text (unexpected at) h = either_way text at h.0 h.1
cause_of text (unknown at) h = by_file h
cause_of text (twice at) h = by_file h
cause_of text (over_limit at) h = by_file h
cause_of text (wrong_kind at) h = by_file h
cause_of text (arity at) h = by_file h
cause_of text (direction at) h = by_file h
cause_of text (header at) h = by_file h
cause_of text (initial at) h = by_file h
cause_of text (cycle place kind) h = by_file h
cause_of text (too_many weight) h = by_file h
cause_of text too_many_joins h = by_file h

err_once : (a b : FileFault) → ◌≡◌ {A = Result (List run.LayerTree) FileFault} (Err a) (Err b) → a ≡ b
err_once a b e = cc

causes_are_one : (text : List ℕ) (a b : FileFault) → Cause text a → Cause text b → a ≡ b
causes_are_one text a b (by_size e h) (by_size f i) = e ∙ sym f
causes_are_one text a b (by_size e h) (by_stop v f small i other) = absurd (omega (arith, h, small))
causes_are_one text a b (by_size e h) (by_file c) = let small = c.small in absurd (omega (arith, h, small))
causes_are_one text a b (by_stop v e small h other) (by_size f i) = absurd (omega (arith, i, small))
causes_are_one text a b (by_stop v e small h other) (by_stop w f small_too i more) = e ∙
    ap refused_as (one_verdict text v w h i) ∙ sym f
causes_are_one text a b (by_stop v e small h other) (by_file c) = absurd (other (no_stop text c.file v c.is_file h))
causes_are_one text a b (by_file c) (by_size f i) = let small = c.small in absurd (omega (arith, i, small))
causes_are_one text a b (by_file c) (by_stop v f small i other) = absurd (other (no_stop text c.file v c.is_file i))
causes_are_one text a b (by_file c) (by_file d) =
    err_once a b (sym c.refused ∙ ap judged_stack (one_file text c.file d.file c.is_file d.is_file) ∙ d.refused)

pub one_refusal : OneRefusal
one_refusal text a b h i = causes_are_one text a b (cause_of text a h) (cause_of text b i)
