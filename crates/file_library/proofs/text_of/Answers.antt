-- What `find` finds is what a look-up finds in the table of what the references refer to.
use Rattle.std.proofs.Common.{bytes_eq, ◌∙◌}
use Rattle.std.specs.Map.{lookup}
use Rattle.file_library.proofs.Table.{lookup_found}
use Rattle.file_library.proofs.text_of.Goals as goal

pub returns : goal.returns
returns c =
    let name = c.args.name.now in
    c.named.ensures ∙ lookup_found name c.library.result.now ∙ (λ i. lookup (bytes_eq name) (c.library.ensures i))
