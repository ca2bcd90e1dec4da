-- Addresses.
use Rattle.std.specs.Prelude.{ℕ, Bool, true, List}
use Rattle.std.specs.Str.{bytes_eq}
use Rattle.tx_eqtb.specs.declared.addr.Addr.{Addr}
use Rattle.tx_eqtb.specs.declared.addr.AddrKind.{AddrKind}
use Rattle.tx_eqtb.specs.declared.addr.AddrKind.TheVariants as kind
use Rattle.tx_eqtb.specs.declared.meaning.RegKind.{RegKind}
use Rattle.tx_eqtb.specs.declared.meaning.RegKind.TheVariants as reg
use denote.Enum.Declared.{tag_of}
use Rattle.tx_prims.specs.declared.primitives.IntegerParameter.{IntegerParameter}
use Rattle.tx_prims.specs.declared.primitives.DimensionParameter.{DimensionParameter}
use Rattle.tx_prims.specs.declared.primitives.GlueParameter.{GlueParameter}
use Rattle.tx_prims.specs.declared.primitives.ListParameter.{ListParameter}
use Rattle.tx_prims.specs.contracts.primitives.IntegerParameter as integers
use Rattle.tx_prims.specs.contracts.primitives.DimensionParameter as dimensions
use Rattle.tx_prims.specs.contracts.primitives.GlueParameter as glues
use Rattle.tx_prims.specs.contracts.primitives.ListParameter as lists
use Rattle.tx_private.specs.Meanings as private
use Rattle.tx_views.specs.declared.place.CodeTable.{CodeTable}
use Rattle.tx_views.specs.declared.place.CodeTable.TheVariants as table
use Rattle.tx_views.specs.declared.place.Place.{Place}
use Rattle.tx_views.specs.declared.place.Place.TheVariants as place
use Rattle.tx_views.specs.Views.{View}

abbrev pub register_in : RegKind → private.Register
register_in reg.Count = private.Count
register_in reg.Dimen = private.Dimen
register_in reg.Skip = private.Skip
register_in reg.Muskip = private.MuSkip
register_in reg.Toks = private.Toks

abbrev pub table_in : CodeTable → private.CodeTable
table_in table.Categories = private.CatCodes
table_in table.LowerCases = private.LowerCases
table_in table.UpperCases = private.UpperCases
table_in table.SpaceFactors = private.SpaceFactors
table_in table.MathCodes = private.MathCodes
table_in table.DelimiterCodes = private.DelimiterCodes

-- the address that a command names, as the definitions have it
abbrev pub address_in : View → Place → private.Address
address_in view (place.Name n) = private.OfName (view.naming n)
address_in view (place.Active b) = private.OfActive b
address_in view (place.Register r n) = private.OfRegister (register_in r) n
address_in view (place.Code t b) = private.OfCode (table_in t) b
address_in view (place.Integer p) = private.OfInteger p
address_in view (place.Dimension p) = private.OfDimension p
address_in view (place.Glue p) = private.OfGlue p
address_in view (place.List p) = private.OfList p

-- the kind of addresses of registers of a kind, and of codes of a table
abbrev pub register_kind : RegKind → AddrKind
register_kind reg.Count = kind.Count
register_kind reg.Dimen = kind.Dimen
register_kind reg.Skip = kind.Skip
register_kind reg.Muskip = kind.Muskip
register_kind reg.Toks = kind.Toks

abbrev pub code_kind : CodeTable → AddrKind
code_kind table.Categories = kind.CatCode
code_kind table.LowerCases = kind.LcCode
code_kind table.UpperCases = kind.UcCode
code_kind table.SpaceFactors = kind.SfCode
code_kind table.MathCodes = kind.MathCode
code_kind table.DelimiterCodes = kind.DelCode

-- the number of a parameter among those of its kind, which is its place in their order
abbrev pub integer_place : IntegerParameter → ℕ
integer_place p = tag_of integers.the_type p

abbrev pub dimension_place : DimensionParameter → ℕ
dimension_place p = tag_of dimensions.the_type p

abbrev pub glue_place : GlueParameter → ℕ
glue_place p = tag_of glues.the_type p

abbrev pub list_place : ListParameter → ℕ
list_place p = tag_of lists.the_type p

-- the address of the kind and with the number
abbrev pub numbered : AddrKind → ℕ → Addr
numbered k n = record { kind = k; no = n }

abbrev pub addr_of : Place → Addr
addr_of (place.Name n) = numbered kind.Name n
addr_of (place.Active b) = numbered kind.Active b
addr_of (place.Register r n) = numbered (register_kind r) n
addr_of (place.Code t b) = numbered (code_kind t) b
addr_of (place.Integer p) = numbered kind.IntParam (integer_place p)
addr_of (place.Dimension p) = numbered kind.DimenParam (dimension_place p)
addr_of (place.Glue p) = numbered kind.GlueParam (glue_place p)
addr_of (place.List p) = numbered kind.ToksParam (list_place p)

-- where the meaning of an address of the definitions stands; of a name that has no number nothing is said
abbrev pub addr_at : View → private.Address → Addr
addr_at view (private.OfName text) = numbered kind.Name (view.number text)
addr_at view (private.OfActive b) = numbered kind.Active b
addr_at view (private.OfRegister private.Count n) = numbered kind.Count n
addr_at view (private.OfRegister private.Dimen n) = numbered kind.Dimen n
addr_at view (private.OfRegister private.Skip n) = numbered kind.Skip n
addr_at view (private.OfRegister private.MuSkip n) = numbered kind.Muskip n
addr_at view (private.OfRegister private.Toks n) = numbered kind.Toks n
addr_at view (private.OfCode private.CatCodes b) = numbered kind.CatCode b
addr_at view (private.OfCode private.LowerCases b) = numbered kind.LcCode b
addr_at view (private.OfCode private.UpperCases b) = numbered kind.UcCode b
addr_at view (private.OfCode private.SpaceFactors b) = numbered kind.SfCode b
addr_at view (private.OfCode private.MathCodes b) = numbered kind.MathCode b
addr_at view (private.OfCode private.DelimiterCodes b) = numbered kind.DelCode b
addr_at view (private.OfInteger p) = numbered kind.IntParam (integer_place p)
addr_at view (private.OfDimension p) = numbered kind.DimenParam (dimension_place p)
addr_at view (private.OfGlue p) = numbered kind.GlueParam (glue_place p)
addr_at view (private.OfList p) = numbered kind.ToksParam (list_place p)

-- a name's text is that of its number, where it has one
abbrev pub is_numbered : View → private.Address → Bool
is_numbered view (private.OfName text) = bytes_eq (view.naming (view.number text)) text
is_numbered view _ = true
