-- The sizes of the imported and exported entities of a module.
use Rattle.std.specs.Prelude.{ℕ, ◌+◌, ◌<◌, List, length, slice_get}
use Rattle.std.specs.Option.{option_map, unwrap_or}
use Rattle.smith_types.specs.Common.{CompositeInnerType, EntityType, SubType}
use Rattle.smith_syntax.specs.declared.composite_type.CompositeInnerType.TheVariants as inner
use Rattle.smith_syntax.specs.declared.entity_type.EntityType.TheVariants.{Func}

-- the number of parameters and results of a function type, and 0 for other types (own rule)
abbrev pub value_count : CompositeInnerType → ℕ
value_count (inner.Func f) = length f.params + length f.results
value_count _ = 0

-- what an entity adds to the type size: 1, and for a function also the number of its parameters and
-- results (own rule)
abbrev pub size_in : List SubType → EntityType → ℕ
size_in types (Func i) = 1 + unwrap_or (option_map (λ t. value_count t.composite_type.inner) (slice_get types i)) 0
size_in types _ = 1

-- the type of a function exists (own rule)
abbrev pub IsTyped : List SubType → EntityType → Type 0
IsTyped types (Func i) = i < length types
IsTyped types _ = Unit {0}
