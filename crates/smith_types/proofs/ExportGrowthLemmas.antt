-- Exported entities and start functions exist in grown index spaces.
use Rattle.smith_types.proofs.Common.{[], All-weaker, List, None, Option, slice_get, Some, subst, SubType, sym, ℕ, ◌++◌, ◌≡◌}
use Rattle.smith_syntax.specs.declared.entity_type.EntityType.{EntityType}
use Rattle.smith_syntax.specs.declared.entity_type.ExportKind.{ExportKind}
use Rattle.smith_syntax.specs.declared.entity_type.ExportKind.TheVariants as kind
use Rattle.smith_types.specs.Imports.{EntitySpaces}
use Rattle.smith_types.specs.Exports.{IsEntityAt, AreExportsValid, IsStartValid}
use Rattle.smith_types.specs.Grown.{Extends, AreSpacesGrown}
use Rattle.smith_types.proofs.ListLemmas.{slice_get-grown}
use Rattle.smith_types.proofs.EntityGrowthLemmas.{IsFuncAt-grown}

-- an item of a list is at the same position of a longer one
slice_get-extended : {A : Type 0} (old new : List A) (i : ℕ) (x : A) → Extends old new → slice_get old i ≡ Some x → slice_get new i ≡ Some x
slice_get-extended old new i x longer at = subst (λ xs. slice_get xs i ≡ Some x) (sym longer.parts) (slice_get-grown old longer.more i x at)

pub IsEntityAt-grown : (old new : EntitySpaces) → AreSpacesGrown old new → (of_kind : ExportKind) (index : ℕ) (ty : EntityType)
    → IsEntityAt old of_kind index ty → IsEntityAt new of_kind index ty
IsEntityAt-grown old new growth kind.Func index ty (func, at, is) =
    (func, slice_get-extended old.funcs new.funcs index func growth.funcs at, is)
IsEntityAt-grown old new growth kind.Table index ty (table, at, is) =
    (table, slice_get-extended old.tables new.tables index table growth.tables at, is)
IsEntityAt-grown old new growth kind.Memory index ty (memory, at, is) =
    (memory, slice_get-extended old.memories new.memories index memory growth.memories at, is)
IsEntityAt-grown old new growth kind.Global index ty (global, at, is) =
    (global, slice_get-extended old.globals new.globals index global growth.globals at, is)
IsEntityAt-grown old new growth kind.Tag index ty (tag, at, is) = (tag, slice_get-extended old.tags new.tags index tag growth.tags at, is)

pub AreExportsValid-grown : (old new : EntitySpaces) → AreSpacesGrown old new → (exports : List (List ℕ × ExportKind × ℕ))
    → AreExportsValid old exports → AreExportsValid new exports
AreExportsValid-grown old new growth exports h = record {
  stand = All-weaker (λ (one : List ℕ × ExportKind × ℕ). (ty : EntityType) × IsEntityAt old one.1 one.2 ty)
      (λ (one : List ℕ × ExportKind × ℕ). (ty : EntityType) × IsEntityAt new one.1 one.2 ty)
      (λ one (ty, stands). (ty, IsEntityAt-grown old new growth one.1 one.2 ty stands)) exports h.stand;
  distinct = h.distinct;
}

pub IsStartValid-grown : (types more_types : List SubType) (funcs more_funcs : List ℕ) (function : Option ℕ)
    → IsStartValid types funcs function → IsStartValid (types ++ more_types) (funcs ++ more_funcs) function
IsStartValid-grown types more_types funcs more_funcs None h = h
IsStartValid-grown types more_types funcs more_funcs (Some function) (index, at, plain) = (
  index,
  slice_get-grown funcs more_funcs function index at,
  IsFuncAt-grown types more_types index (record { params = []; results = [] })
      plain,
)
