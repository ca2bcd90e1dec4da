-- A map into which what a state says is put, kind by kind.
use Rattle.std.specs.Prelude.{ℕ, ◌&&◌, nat_lt, Option, if◌then◌else◌}
use Rattle.std.specs.Option.{option_or}
use Rattle.tx_eqtb.specs.declared.addr.Addr.{Addr}
use Rattle.tx_eqtb.specs.declared.addr.AddrKind.{AddrKind}
use Rattle.tx_eqtb.specs.contracts.addr.AddrKindPartialEq.TheImpl as kinds
use Rattle.tx_eqtb.specs.declared.meaning.Meaning.{Meaning}
use Rattle.tx_node.specs.declared.BoxNode.{BoxNode}
use Rattle.tx_format.specs.declared.preset.Preset.{Preset}
use Rattle.tx_format.specs.States.{told}

-- what stands at an address once all is put in that is said of the first addresses of a kind
abbrev pub filled : Preset → AddrKind → ℕ → Addr → Option (Meaning BoxNode) → Option (Meaning BoxNode)
filled preset kind count q old = if kinds.ghosts.eq kind q.kind && nat_lt q.no count then option_or (told preset q.kind q.no) old else old
