use Rattle.std.proofs.Common.{◌∙◌, arith, rules, subst, Bool, false, ap}
use Rattle.texd.specs.Files.{IsHanded}
use Rattle.texd.proofs.EarlyLemmas.{name-at}
use Rattle.texd.proofs.FileLemmas.{handed-more, handed-as}
use Rattle.texd.proofs.files.read_all.Goals as goal

pub loop-k-preserved : goal.loop-k-preserved
loop-k-preserved g c = (
  handed-more (g.S.Shelf.tells c.args.shelf.now).files c.args.names.now c.loop-k.k c.loop-k.entries.items c.push.new.self.items c.in-File.file (omega (arith, c.loop-k-test.true)) (search rules) c.loop-k.invariant.0
      (handed-as (g.S.Shelf.tells c.loop-k.shelf).files (g.S.Shelf.tells c.args.shelf.now).files c.args.names.now c.loop-k.k c.index-names-k.result c.in-File.file (omega (arith, c.loop-k-test.true)) c.index-names-k.is c.loop-k.invariant.1 c.in-File.ensures.file),
  c.in-File.ensures.stays ∙ c.loop-k.invariant.1,
  omega (arith, c.in-File.ensures.grows, c.loop-k.invariant.2),
)
