use Rattle.std.proofs.Common.{◌≡◌, drop}
use Rattle.tx_bytes.specs.Shelves.{content_of}
use Rattle.tx_bytes.proofs.memory.shelf.find.Given as goal

-- none of the files passed has the name
abbrev pub invariant-loop-file : goal.invariant-loop-file
invariant-loop-file l = content_of l.name l.files ≡ content_of l.name (drop l.file-index l.files)
