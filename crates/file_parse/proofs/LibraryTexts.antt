-- Each text of the library is one layer.
use Rattle.std.proofs.Common.{◌≡◌, ℕ, leb, List, [], ◌∷◌, length, cond, Bool, true, false, Option, Some, bytes_eq, refl}
use Rattle.std.proofs.Common.{sym, ap, subst, ◌∙◌}
use Rattle.std.proofs.lemmas.Bool.{leb-true}
use Rattle.std.specs.Map.{lookup}
use Rattle.file_mean.specs.Library.{SpellsLayer}
use Rattle.layer_ast.specs.Cut.{text_tokens}
use Rattle.layer_ast.specs.Depth.{IsWithin}
use Rattle.layer_ast.specs.Print as print
use Rattle.layer_ast.specs.Reader.{file_of}
use Rattle.layer_ast.specs.Spells.{longest_file}
use Rattle.layer_ast.specs.Tree.{LayerTree}
use Rattle.file_library.specs.Library.{library, library_text}
use Rattle.file_library.specs.Reliable.{bottom, mnak, pt2pt}
use Rattle.file_library.specs.Flow.{pt2ptw, mflow, frag}
use Rattle.file_library.specs.Order.{collect, stable, local, total}
use Rattle.file_library.specs.Membership.{suspect, elect, sync, intra, top}
use Rattle.grammar_laws.specs.Machine.{a_layer}
use Rattle.grammar_laws.proofs.Complete.{toks, accepts, layer_drives}
use Rattle.grammar_laws.proofs.Runs.{tokens_fit, run_accepts}
use Rattle.file_parse.specs.Library.{IsLayerText}
use Rattle.library_rows.proofs.Texts.Bottom as bottom_text
use Rattle.library_rows.proofs.Texts.Mnak as mnak_text
use Rattle.library_rows.proofs.Texts.Pt2pt as pt2pt_text
use Rattle.library_rows.proofs.Texts.Pt2ptw as pt2ptw_text
use Rattle.library_rows.proofs.Texts.Mflow as mflow_text
use Rattle.library_rows.proofs.Texts.Frag as frag_text
use Rattle.library_rows.proofs.Texts.Collect as collect_text
use Rattle.library_rows.proofs.Texts.Stable as stable_text
use Rattle.library_rows.proofs.Texts.Local as local_text
use Rattle.library_rows.proofs.Texts.Total as total_text
use Rattle.library_rows.proofs.Texts.Suspect as suspect_text
use Rattle.library_rows.proofs.Texts.Elect as elect_text
use Rattle.library_rows.proofs.Texts.Sync as sync_text
use Rattle.library_rows.proofs.Texts.Intra as intra_text
use Rattle.library_rows.proofs.Texts.Top as top_text

-- a text that spells a layer whose brackets are nowhere too deep
is_layer : (text : List ℕ) (l : LayerTree) → SpellsLayer text l → leb (length text) longest_file ≡ true →
    IsWithin 100 (toks (print.layer l [])) → IsLayerText text
is_layer text l spells small within =
    let same = tokens_fit (print.layer l []) (text_tokens text).tokens spells.fits in
    record {
      small = leb-true (length text) longest_file small;
      good = spells.good;
      taken = run_accepts (text_tokens text).tokens 100 (a_layer ∷ [])
          (ap (accepts (a_layer ∷ [])) same ∙ layer_drives l [] []) (subst (IsWithin 100) (sym same) within);
    }

is_bottom : IsLayerText bottom
unfolding file_of bottom
is_bottom = is_layer bottom _ bottom_text.spelled refl tt

is_mnak : IsLayerText mnak
unfolding file_of mnak
is_mnak = is_layer mnak _ mnak_text.spelled refl tt

is_pt2pt : IsLayerText pt2pt
unfolding file_of pt2pt
is_pt2pt = is_layer pt2pt _ pt2pt_text.spelled refl tt

is_pt2ptw : IsLayerText pt2ptw
unfolding file_of pt2ptw
is_pt2ptw = is_layer pt2ptw _ pt2ptw_text.spelled refl tt

is_mflow : IsLayerText mflow
unfolding file_of mflow
is_mflow = is_layer mflow _ mflow_text.spelled refl tt

is_frag : IsLayerText frag
unfolding file_of frag
is_frag = is_layer frag _ frag_text.spelled refl tt

is_collect : IsLayerText collect
unfolding file_of collect
is_collect = is_layer collect _ collect_text.spelled refl tt

is_stable : IsLayerText stable
unfolding file_of stable
is_stable = is_layer stable _ stable_text.spelled refl tt

is_local : IsLayerText local
unfolding file_of local
is_local = is_layer local _ local_text.spelled refl tt

is_total : IsLayerText total
unfolding file_of total
is_total = is_layer total _ total_text.spelled refl tt

is_suspect : IsLayerText suspect
unfolding file_of suspect
is_suspect = is_layer suspect _ suspect_text.spelled refl tt

is_elect : IsLayerText elect
unfolding file_of elect
is_elect = is_layer elect _ elect_text.spelled refl tt

is_sync : IsLayerText sync
unfolding file_of sync
is_sync = is_layer sync _ sync_text.spelled refl tt

is_intra : IsLayerText intra
unfolding file_of intra
is_intra = is_layer intra _ intra_text.spelled refl tt

is_top : IsLayerText top
unfolding file_of top
is_top = is_layer top _ top_text.spelled refl tt

-- each text of a table is one layer
abbrev AllTexts : List (List ℕ × List ℕ) → Type 0
AllTexts [] = Unit {0}
AllTexts (entry ∷ table) = IsLayerText entry.1 × AllTexts table

-- what a look-up finds in a table of such texts is one
found_here : (text here : List ℕ) (b : Bool) (later : Option (List ℕ)) → IsLayerText here →
    (Some text ≡ later → IsLayerText text) → Some text ≡ cond b (Some here) later → IsLayerText text
found_here text here true later is rest found = let same : here ≡ text = cc in subst IsLayerText same is
found_here text here false later is rest found = rest found

found_text : (name text : List ℕ) (table : List (List ℕ × List ℕ)) → AllTexts table →
    Some text ≡ lookup (bytes_eq name) table → IsLayerText text
found_text name text [] all is = absurd (cc is)
found_text name text (entry ∷ table) all is =
    found_here text entry.1 (bytes_eq name entry.0) (lookup (bytes_eq name) table) all.0
    (found_text name text table all.1) is

pub is_library_text : (name text : List ℕ) → Some text ≡ library_text name → IsLayerText text
unfolding library
is_library_text name text is =
    found_text name text library (
      is_bottom,
      (
        is_mnak,
        (
          is_pt2pt,
          (
            is_pt2ptw,
            (
              is_mflow,
              (
                is_frag,
                (
                  is_collect,
                  (is_stable, (is_local, (is_total, (is_suspect, (is_elect, (is_sync, (is_intra, (is_top, tt)))))))),
                ),
              ),
            ),
          ),
        ),
      ),
    ) is
