-- the bytes of the files so far, and of those to come
use Rattle.std.proofs.Common.{◌≡◌, ◌+◌, drop}
use Rattle.texd.specs.Files.{total}
use Rattle.texd.proofs.files.total.Given as goal

abbrev pub invariant-loop-file : goal.invariant-loop-file
invariant-loop-file l = l.sum + total (drop l.file-index l.files) ≡ total l.files
