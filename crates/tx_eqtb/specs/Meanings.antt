-- What every address means. The TeXbook, chapter 24.
use Rattle.std.specs.Prelude.{List, [], pos, None, unwrap_or}
use Rattle.tx_num.specs.declared.glue.GlueSpec.{GlueSpec}
use Rattle.tx_num.specs.declared.glue.Order.TheVariants as order
use Rattle.tx_tok.specs.declared.tok.ListRef.TheVariants as list
use Rattle.tx_eqtb.specs.declared.addr.Addr.{Addr}
use Rattle.tx_eqtb.specs.declared.addr.AddrKind.{AddrKind}
use Rattle.tx_eqtb.specs.declared.addr.AddrKind.TheVariants as kind
use Rattle.tx_eqtb.specs.declared.meaning.Meaning.{Meaning}
use Rattle.tx_eqtb.specs.declared.meaning.Meaning.TheVariants as meaning
use Rattle.tx_eqtb.specs.declared.starts.Starts.{Starts}
use Rattle.tx_eqtb.specs.Addresses.{entry_at}

-- glue of no size
abbrev pub no_glue : GlueSpec
no_glue = record { width = pos 0; stretch = pos 0; stretch_order = order.Finite; shrink = pos 0; shrink_order = order.Finite }

module _ {B : Type 0} where
  -- what an address of a kind means before anything is said of it
  abbrev pub start : AddrKind → Meaning B
  start kind.Name = meaning.Undefined
  start kind.Active = meaning.Undefined
  start kind.Count = meaning.Int (pos 0)
  start kind.Dimen = meaning.Dim (pos 0)
  start kind.Skip = meaning.Glue no_glue
  start kind.Muskip = meaning.Glue no_glue
  start kind.Toks = meaning.List list.Empty
  start kind.Box = meaning.Held None
  start kind.CatCode = meaning.Int (pos 0)
  start kind.LcCode = meaning.Int (pos 0)
  start kind.UcCode = meaning.Int (pos 0)
  start kind.SfCode = meaning.Int (pos 0)
  start kind.MathCode = meaning.Int (pos 0)
  start kind.DelCode = meaning.Int (pos 0)
  start kind.IntParam = meaning.Int (pos 0)
  start kind.DimenParam = meaning.Dim (pos 0)
  start kind.GlueParam = meaning.Glue no_glue
  start kind.ToksParam = meaning.List list.Empty
  start kind.CurrentFont = meaning.Font 0
  start kind.Family = meaning.Font 0
  start kind.ParShape = meaning.Shape []

-- the table of these meanings
abbrev pub start_meanings : {B : Type 0} → Starts B
start_meanings = record {
  undefined = meaning.Undefined;
  empty = meaning.Held None;
  integer = meaning.Int (pos 0);
  dimension = meaning.Dim (pos 0);
  glue = meaning.Glue no_glue;
  list = meaning.List list.Empty;
  font = meaning.Font 0;
  shape = meaning.Shape [];
}

-- a meaning for every address
abbrev pub Map : Type 0 → Type 0
Map B = Addr → Meaning B

-- the map that these entries give: an address without an entry means what it does at the start
abbrev pub meanings : {B : Type 0} → List (Addr × Meaning B) → Map B
meanings entries at = unwrap_or (entry_at entries at) (start at.kind)
