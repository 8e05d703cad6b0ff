-- Types whose functions have a size of 32 bits: small ones, and those of shapes.
use Rattle.smith_draw_contents.proofs.Common.{All, All-weaker, arith, List, SubType, ◌+◌, ◌<◌, ◌^◌}
use Rattle.smith_types.specs.Sizes.{value_count}
use Rattle.smith_types.specs.Syntax.composite_type.CompositeInnerType.{CompositeInnerType}
use Rattle.smith_types.specs.Syntax.composite_type.CompositeInnerType.TheVariants as inners
use Rattle.smith_config.specs.Shapes.{most_listed}
use Rattle.smith_draw_types.specs.FuncSizes.{HasFewValues, IsInnerWithin, IsSmall, IsSmallInner}
use Rattle.smith_draw_contents.specs.Exported.{HasSizeIn32Bits}

small_inner : (inner : CompositeInnerType) → IsSmallInner inner → value_count inner + 2 < 2 ^ 32
small_inner (inners.Func function) small = omega (arith, small.params, small.results)
small_inner (inners.Array array) small = omega arith
small_inner (inners.Struct structure) small = omega arith

few_inner : (inner : CompositeInnerType) → IsInnerWithin most_listed inner → value_count inner + 2 < 2 ^ 32
few_inner (inners.Func function) few = omega (arith, few.params, few.results)
few_inner (inners.Array array) few = omega arith
few_inner (inners.Struct structure) few = omega arith

-- small types are such types
pub small_sized : (types : List SubType) → All IsSmall types → All HasSizeIn32Bits types
small_sized types small = All-weaker IsSmall HasSizeIn32Bits (λ t h. small_inner t.composite_type.inner h) types small

-- types with no more parameters and results than a shape may list are such types
pub few_sized : (types : List SubType) → All (HasFewValues most_listed) types → All HasSizeIn32Bits types
few_sized types few = All-weaker (HasFewValues most_listed) HasSizeIn32Bits (λ t h. few_inner t.composite_type.inner h) types few
