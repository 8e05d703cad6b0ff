-- Entities by their positions.
use Rattle.std.proofs.Common.{zero, suc, ◌≡◌, ℕ, ◌<◌, List, [], ◌∷◌, Some, length, refl, arith}
use Rattle.std.specs.Prelude.{slice_get}
use Rattle.std.proofs.lemmas.Option.{slice_get_within}
use Rattle.smith_types.specs.Syntax.entity_type.EntityType.{EntityType}
use Rattle.smith_validity.specs.Decided.{count_at}
use Rattle.smith_types.specs.Exports.{IsEntityAt}
use Rattle.smith_types.specs.Syntax.entity_type.EntityType.TheVariants as entity
use Rattle.smith_types.specs.Syntax.entity_type.ExportKind.{ExportKind}
use Rattle.smith_types.specs.Syntax.entity_type.ExportKind.TheVariants as kind
use Rattle.smith_types.specs.Imports.{EntitySpaces}

item_at : {A : Type 0} (items : List A) (index : ℕ) → index < length items → (item : A) × (slice_get items index ≡ Some item)
item_at [] index inside = absurd (omega arith)
item_at (item ∷ items) zero inside = (item, refl)
item_at (item ∷ items) (suc index) inside = item_at items index (omega arith)

-- each position of an index space below its length has an entity, and no other does
pub entity_there : (spaces : EntitySpaces) (kind : ExportKind) (index : ℕ) → index < count_at spaces kind → (ty : EntityType)
    × IsEntityAt spaces kind index ty
entity_there spaces kind.Func index inside = let (item, at) = item_at spaces.funcs index inside in (entity.Func item, (item, at, refl))
entity_there spaces kind.Table index inside = let (item, at) = item_at spaces.tables index inside in (entity.Table item, (item, at, refl))
entity_there spaces kind.Memory index inside = let (item, at) = item_at spaces.memories index inside in
    (entity.Memory item, (item, at, refl))
entity_there spaces kind.Global index inside = let (item, at) = item_at spaces.globals index inside in
    (entity.Global item, (item, at, refl))
entity_there spaces kind.Tag index inside = let (item, at) = item_at spaces.tags index inside in (entity.Tag item, (item, at, refl))

pub entity_within : (spaces : EntitySpaces) (kind : ExportKind) (index : ℕ) (ty : EntityType) → IsEntityAt spaces kind index ty
    → index < count_at spaces kind
entity_within spaces kind.Func index ty (item, at, is) = slice_get_within spaces.funcs index item at
entity_within spaces kind.Table index ty (item, at, is) = slice_get_within spaces.tables index item at
entity_within spaces kind.Memory index ty (item, at, is) = slice_get_within spaces.memories index item at
entity_within spaces kind.Global index ty (item, at, is) = slice_get_within spaces.globals index item at
entity_within spaces kind.Tag index ty (item, at, is) = slice_get_within spaces.tags index item at
