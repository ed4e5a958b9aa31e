use Rattle.std.proofs.Common.{refl}
use Rattle.layer_ast.specs.Reader.{file_of}
use Rattle.layer_ast.proofs.Laid.{fits_laid}
use Rattle.file_library.specs.Library.{library}
use Rattle.library_rows.proofs.Texts.Bottom as bottom
use Rattle.library_rows.proofs.Texts.Mnak as mnak
use Rattle.library_rows.proofs.Texts.Pt2pt as pt2pt
use Rattle.library_rows.proofs.Texts.Pt2ptw as pt2ptw
use Rattle.library_rows.proofs.Texts.Mflow as mflow
use Rattle.library_rows.proofs.Texts.Frag as frag
use Rattle.library_rows.proofs.Texts.Collect as collect
use Rattle.library_rows.proofs.Texts.Stable as stable
use Rattle.library_rows.proofs.Texts.Local as local
use Rattle.library_rows.proofs.Texts.Total as total
use Rattle.library_rows.proofs.Texts.Suspect as suspect
use Rattle.library_rows.proofs.Texts.Elect as elect
use Rattle.library_rows.proofs.Texts.Sync as sync
use Rattle.library_rows.proofs.Texts.Intra as intra
use Rattle.library_rows.proofs.Texts.Top as top
use Rattle.library_rows.proofs.stacks.whole_stack.Goals as goal

pub returns : goal.returns
unfolding file_of library
returns c = record {
  spelled = record { good = refl; fits = fits_laid _ _ refl; within = tt; placed = λ none. cc };
  library = (
    bottom.spelled,
    (
      mnak.spelled,
      (
        pt2pt.spelled,
        (
          pt2ptw.spelled,
          (
            mflow.spelled,
            (
              frag.spelled,
              (
                collect.spelled,
                (
                  stable.spelled,
                  (
                    local.spelled,
                    (
                      total.spelled,
                      (
                        suspect.spelled,
                        (elect.spelled, (sync.spelled, (intra.spelled, (top.spelled, tt)))),
                      ),
                    ),
                  ),
                ),
              ),
            ),
          ),
        ),
      ),
    ),
  );
}
