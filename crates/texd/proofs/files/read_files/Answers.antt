use Rattle.std.proofs.Common.{arith, subst, sym, ◌∙◌}
use Rattle.texd.specs.Files.{AreHanded}
use Rattle.texd.proofs.FileLemmas.{handed-total}
use Rattle.texd.proofs.files.read_files.Goals as goal

pub total-requires : goal.total-requires
total-requires g c =
    let same = c.as_slice.ensures.value ∙ c.files.view_is in
    let handed = subst (AreHanded (g.S.Shelf.tells c.args.shelf.now).files c.args.names.now) (sym same) c.in_ok-files.ensures.files in
    let bound = handed-total (g.S.Shelf.tells c.args.shelf.now).files c.args.names.now c.as_slice.result.now handed in
    omega (arith, bound, c.requires)
