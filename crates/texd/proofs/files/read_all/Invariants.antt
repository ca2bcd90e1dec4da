-- the files of the names so far
use Rattle.std.proofs.Common.{◌≡◌, ◌≤◌, take, length}
use Rattle.texd.specs.Files.{AreHanded}
use Rattle.texd.proofs.files.read_all.Given as goal

abbrev pub invariant-loop-k : goal.invariant-loop-k
invariant-loop-k g l =
    let tells = g.S.Shelf.tells in
    AreHanded (tells l.initial.shelf).files (take l.k l.names) l.entries.items
    × ((tells l.shelf).files ≡ (tells l.initial.shelf).files)
    × ((tells l.initial.shelf).faults ≤ (tells l.shelf).faults)
