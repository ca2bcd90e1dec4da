use Rattle.std.proofs.Common.{◌≡◌, ◌∙◌, ◌<◌, length, take, drop, arith, length-drop}
use Rattle.tx_macro.specs.Settling.{Settles}
use Rattle.tx_macro.proofs.SettlingLemmas.{delimited-within, delimited-stands}
use Rattle.tx_macro.proofs.argument.Argument.settle.Goals as goal

pub returns-then-len-place : goal.returns-then-len-place
returns-then-len-place c =
    let d = c.args.delimiter.now in
    let taken = c.args.self.now.taken.items in
    let s : Settles c.args.rule d taken c.args.self.now.place c.in-Ok.place = rw (← c.as_slice.ensures.value) c.in-Ok.ensures in
    let rest = length-drop c.in-Ok.place.known taken in
    (s.says, delimited-within c.args.rule d c.in-Ok.place.depth (take c.in-Ok.place.known taken) (drop c.in-Ok.place.known taken) (λ (inside : 0 < length (drop c.in-Ok.place.known taken)). s.outside (omega arith)) (omega arith) s.stands, omega arith)

pub returns : goal.returns
returns c =
    let d = c.args.delimiter.now in
    let taken = c.args.self.now.taken.items in
    let s : Settles c.args.rule d taken c.args.self.now.place c.in-Ok.place = rw (← c.as_slice.ensures.value) c.in-Ok.ensures in
    let rest = length-drop c.in-Ok.place.known taken in
    let short = s.short in
    let some = c.requires.some in
    let outside : c.in-Ok.place.depth ≡ 0 = s.outside (omega arith) in
    λ later. s.says later ∙ (rw (c.strip.ensures, c.truncate.ensures.items) (delimited-stands c.args.rule d c.in-Ok.place.depth (take c.in-Ok.place.known taken) (drop c.in-Ok.place.known taken) later some outside (omega arith) s.stands))
