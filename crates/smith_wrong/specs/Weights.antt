-- How often each family is drawn: own rules.
use Rattle.std.specs.Prelude.{ℕ, ◌+◌, ◌-◌, ◌^◌, ◌==◌, min, nat_lt, if◌then◌else◌, List, [], ◌∷◌, Option, Some, None}
use Rattle.smith_bytes.specs.Draws.{range_at}
use Rattle.smith_wrong_bytes.specs.declared.family.BytesFamily.{BytesFamily}
use Rattle.smith_wrong_bytes.specs.declared.family.BytesFamily.TheVariants as bytes
use Rattle.smith_wrong_module.specs.declared.family.ModuleFamily.{ModuleFamily}
use Rattle.smith_wrong_module.specs.declared.family.ModuleFamily.TheVariants as item
use Rattle.smith_wrong.specs.declared.families.Family.{Family}
use Rattle.smith_wrong.specs.declared.families.Family.TheVariants as family

-- the weight of a family: the fewer modules have a place for it, the greater
abbrev pub module_weight_of : ModuleFamily → ℕ
module_weight_of item.UndeclaredFunction = 44
module_weight_of item.ImmutableGlobal = 32
module_weight_of item.Offset = 24
module_weight_of item.DeadCode = 24
module_weight_of item.TailCall = 20
module_weight_of item.UnsetLocal = 16
module_weight_of item.ElementSegment = 12
module_weight_of item.ImmutableField = 12
module_weight_of item.Alignment = 12
module_weight_of item.CastHierarchy = 12
module_weight_of item.ReferenceType = 12
module_weight_of item.Label = 10
module_weight_of item.PackedField = 8
module_weight_of item.TagType = 8
module_weight_of item.DataSegment = 8
module_weight_of item.OtherEntity = 8
module_weight_of item.Lane = 8
module_weight_of item.MissingOperand = 8
module_weight_of item.OperandType = 6
module_weight_of item.ExtraOperand = 6
module_weight_of item.BlockType = 6
module_weight_of item.FunctionResult = 6
module_weight_of item.IndexPastEnd = 6
module_weight_of item.FunctionType = 6
module_weight_of item.ImportType = 6
module_weight_of item.Limits = 3
module_weight_of item.ConstantType = 3
module_weight_of item.NonConstant = 3
module_weight_of item.StartFunction = 2
module_weight_of _ = 4

abbrev pub bytes_weight_of : BytesFamily → ℕ
bytes_weight_of bytes.DataCountMissing = 24
bytes_weight_of bytes.BodySize = 6
bytes_weight_of bytes.FunctionCount = 6
bytes_weight_of bytes.DataCount = 4
bytes_weight_of bytes.NotUtf8 = 3
bytes_weight_of _ = 2

abbrev pub weight_of : Family → ℕ
weight_of (family.Module one) = module_weight_of one
weight_of (family.Bytes one) = bytes_weight_of one

-- the sum of the weights of families
abbrev pub total_of : List Family → ℕ
total_of [] = 0
total_of (one ∷ rest) = weight_of one + total_of rest

-- the family at a place in a row of families in which each occurs as often as its weight
abbrev pub family_in : List Family → ℕ → Option Family
family_in [] place = None
family_in (one ∷ rest) place = if nat_lt place (weight_of one) then Some one else family_in rest (place - weight_of one)

-- the drawn family, at a place that is drawn below the sum of the weights, or below 2^32 - 1 if that is
-- less; none if the sum is 0
abbrev pub drawn_family : List Family → List ℕ → Option Family
drawn_family families input =
    let sum = min (total_of families) (2 ^ 32 - 1) in
    if sum == 0 then None else family_in families (range_at 0 (sum - 1) input).0
