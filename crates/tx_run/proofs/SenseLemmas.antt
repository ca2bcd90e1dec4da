-- Primitives that are the same are equal.
use Rattle.std.proofs.Common.{◌≡◌, true, sym, ap, true≢false}
use denote.Enum.Bare.{same_true}
use Rattle.tx_prims.specs.declared.primitives.Primitive.{Primitive}
use Rattle.tx_prims.specs.declared.primitives.Primitive.TheVariants as primitive
use Rattle.tx_prims.specs.contracts.primitives.PrimitivePartialEq.TheImpl as primitives
use Rattle.tx_prims.specs.contracts.primitives.Expandable as expandable
use Rattle.tx_prims.specs.contracts.primitives.Assignment as assignment
use Rattle.tx_prims.specs.contracts.primitives.Command as command
use Rattle.tx_prims.specs.contracts.primitives.Math as math
use Rattle.tx_prims.specs.contracts.primitives.IntegerParameter as integer
use Rattle.tx_prims.specs.contracts.primitives.DimensionParameter as dimension
use Rattle.tx_prims.specs.contracts.primitives.GlueParameter as glue
use Rattle.tx_prims.specs.contracts.primitives.ListParameter as list

pub same-primitive : (a b : Primitive) → primitives.ghosts.eq a b ≡ true → a ≡ b
same-primitive (primitive.Expandable x) (primitive.Expandable y) e = ap primitive.Expandable (same_true expandable.the_type tt x y e)
same-primitive (primitive.Assignment x) (primitive.Assignment y) e = ap primitive.Assignment (same_true assignment.the_type tt x y e)
same-primitive (primitive.Command x) (primitive.Command y) e = ap primitive.Command (same_true command.the_type tt x y e)
same-primitive (primitive.Math x) (primitive.Math y) e = ap primitive.Math (same_true math.the_type tt x y e)
same-primitive (primitive.IntegerParameter x) (primitive.IntegerParameter y) e = ap primitive.IntegerParameter (same_true integer.the_type tt x y e)
same-primitive (primitive.DimensionParameter x) (primitive.DimensionParameter y) e = ap primitive.DimensionParameter (same_true dimension.the_type tt x y e)
same-primitive (primitive.GlueParameter x) (primitive.GlueParameter y) e = ap primitive.GlueParameter (same_true glue.the_type tt x y e)
same-primitive (primitive.ListParameter x) (primitive.ListParameter y) e = ap primitive.ListParameter (same_true list.the_type tt x y e)
same-primitive a b e = absurd (true≢false (sym e))
