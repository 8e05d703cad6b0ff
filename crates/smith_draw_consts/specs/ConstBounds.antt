-- The length of drawn constant expressions, and the cases without an expression. Rules of this
-- project.
use Rattle.std.specs.Prelude.{◌≡◌, ◌⊎◌, ℕ, ◌+◌, ◌*◌, max, List, [], ◌∷◌, length}
use Rattle.std.specs.List.{Any}
use Rattle.smith_draw_consts.specs.Common.{CompositeInnerType, Config, Context, Error, field_values, SubType, ValType}
use Rattle.smith_types.specs.Syntax.composite_type.CompositeInnerType.TheVariants.{Struct}
use Rattle.smith_bytes.specs.declared.error.Error.TheVariants.{Memory, EmptyChoose}
use Rattle.smith_config.specs.Granted.{IsNonNullable, IsUngrounded}
use Rattle.smith_draw_types.specs.HeldFields.{HoldsUngroundedField}

-- the number of fields of a struct
abbrev pub field_count : CompositeInnerType → ℕ
field_count (Struct structure) = length structure.fields
field_count _ = 0

-- the maximum number of operands of an instruction: the greater of 3 and the greatest number of
-- fields of a struct
unfoldable pub widest : List SubType → ℕ
widest [] = 3
widest (t ∷ types) = max (field_count t.composite_type.inner) (widest types)

-- the maximum number of instructions of an expression over these types
abbrev pub most_instructions : Config → List SubType → ℕ
most_instructions config types = 23 * (1 + config.const_expr_fuel * widest types)

-- there may be no candidate for an instruction of the expression
abbrev pub MayLack : Config → Context → ValType → Type 0
MayLack config context wanted = IsUngrounded config context wanted ⊎ HoldsUngroundedField config context

-- the errors of drawing a constant expression
abbrev pub MayRefuseConstExpr : Config → Context → ValType → Error → Type 0
MayRefuseConstExpr config context wanted e = (e ≡ Memory) ⊎ ((e ≡ EmptyChoose) × MayLack config context wanted)
