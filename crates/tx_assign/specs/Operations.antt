-- Arithmetic.
use Rattle.std.specs.Prelude.{◌≡◌, ℕ, List}
use Rattle.tx_eqtb.specs.declared.meaning.RegKind.{RegKind}
use Rattle.tx_eqtb.specs.declared.meaning.RegKind.TheVariants as register
use Rattle.tx_prims.specs.declared.primitives.Assignment.{Assignment}
use Rattle.tx_prims.specs.declared.primitives.Assignment.TheVariants as assignment
use Rattle.tx_prims.specs.declared.primitives.Primitive.{Primitive}
use Rattle.tx_prims.specs.declared.primitives.Primitive.TheVariants as primitive
use Rattle.tx_private.specs.Meanings.{Meaning}
use Rattle.tx_private.specs.World.{World}
use Rattle.tx_private.specs.Readings.{Item, Move}
use Rattle.tx_private.specs.Assignments.{Prefixes}
use Rattle.tx_private.specs.Arithmetic as private
use Rattle.tx_private.specs.Arithmetic.{computes, register_numbered, no_target}
use Rattle.tx_views.specs.Views.{View}
use Rattle.tx_views.specs.declared.place.Place.TheVariants as place
use Rattle.tx_views.specs.Places.{register_in, address_in}
use Rattle.tx_views.specs.declared.sense.Sense.{Sense}
use Rattle.tx_views.specs.declared.sense.Sense.TheVariants as sense
use Rattle.tx_views.specs.Meanings.{sense_in}
use Rattle.tx_assign.specs.declared.operation.Operation.{Operation}
use Rattle.tx_assign.specs.declared.operation.Operation.TheVariants as operation
use Rattle.tx_assign.specs.declared.targets.Target.{Target}
use Rattle.tx_assign.specs.declared.targets.Target.TheVariants as target

-- the operation as the definitions have it
abbrev pub operation_in : Operation → private.Operation
operation_in operation.Advance = private.Plus
operation_in operation.Multiply = private.Times
operation_in operation.Divide = private.Over

-- arithmetic in a target, behind a command of this meaning
abbrev pub computes_in : View → Prefixes → private.Operation → Target → Meaning → List Item → World → Move
computes_in view p o (target.Place place) m items w = computes p o (address_in view place) items w
computes_in view p o (target.Numbered kind) m items w = register_numbered p o (register_in kind) items w
computes_in view p o target.None m items w = no_target m w

-- arithmetic behind a token of this meaning is arithmetic in the target, for every operation
abbrev pub IsTargetOf : Sense → Target → Type 0
IsTargetOf sense t =
    (view : View) (p : Prefixes) (o : private.Operation) (items : List Item) (w : World) →
    private.target p o (sense_in view sense) items w ≡ computes_in view p o t (sense_in view sense) items w

-- the target of a register, of what stands before a register's number, and of what any token means
abbrev pub register_target : RegKind → ℕ → Target
register_target register.Toks n = target.None
register_target kind n = target.Place (place.Register kind n)

abbrev pub numbered_target : Assignment → Target
numbered_target assignment.Count = target.Numbered register.Count
numbered_target assignment.Dimen = target.Numbered register.Dimen
numbered_target assignment.Skip = target.Numbered register.Skip
numbered_target assignment.MuSkip = target.Numbered register.Muskip
numbered_target _ = target.None

abbrev pub primitive_target : Primitive → Target
primitive_target (primitive.Assignment a) = numbered_target a
primitive_target (primitive.IntegerParameter p) = target.Place (place.Integer p)
primitive_target (primitive.DimensionParameter p) = target.Place (place.Dimension p)
primitive_target (primitive.GlueParameter p) = target.Place (place.Glue p)
primitive_target _ = target.None

abbrev pub target_of : Sense → Target
target_of (sense.Register kind n) = register_target kind n
target_of (sense.Primitive p) = primitive_target p
target_of _ = target.None

-- no code of a byte is a target
abbrev pub IsNoCode : Target → Type 0
IsNoCode (target.Place (place.Code t b)) = ⊥
IsNoCode _ = Unit {0}
