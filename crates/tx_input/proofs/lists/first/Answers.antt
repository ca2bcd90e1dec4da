use Rattle.std.proofs.Common.{◌≡◌, ◌+◌, ◌-◌, length, arith}
use Rattle.tx_input.proofs.UnreadLemmas.{list-used, list-left}
use Rattle.tx_input.proofs.lists.first.Goals as goal

pub returns-then-list-len-clause-some : goal.returns-then-list-len-clause-some
returns-then-list-len-clause-some c =
    let vec = c.args.lists.now in
    let list = c.index_mut-list.result.now in
    let i = c.len-len.result - 1 in
    let len : length vec.items ≡ i + 1 = omega (arith, vec.ok.0) in
    list-used vec.items c.pop.new.self.items i (vec.len - 1) list (record { tokens = list.tokens; read = list.read + 1 }) c.as_slice.result.now _ len c.index_mut-list.ensures.value c.requires (omega arith) c.as_slice.ensures (omega (arith, vec.ok.0)) c.pop.ensures.rest

pub returns-else-list-len-clause-some : goal.returns-else-list-len-clause-some
returns-else-list-len-clause-some c =
    let vec = c.args.lists.now in
    let i = c.len-len.result - 1 in
    let len : length vec.items ≡ i + 1 = omega (arith, vec.ok.0) in
    list-left vec.items i c.index_mut-list.result.now c.as_slice.result.now _ len c.index_mut-list.ensures.value c.requires c.as_slice.ensures
