-- Valid segments stay valid when types, functions, globals, tables and memories are added.
use Rattle.smith_types.proofs.Common.{All-weaker, Bool, GlobalType, length, List, None, Ref, RefType, Some, subst, SubType, ℕ, ◌++◌, ◌≤◌}
use Rattle.smith_syntax.specs.declared.entity_type.MemoryType.{MemoryType}
use Rattle.smith_syntax.specs.declared.entity_type.TableType.{TableType}
use Rattle.smith_syntax.specs.declared.segments.Elements.{Elements}
use Rattle.smith_syntax.specs.declared.segments.Elements.TheVariants.{Functions, Expressions}
use Rattle.smith_syntax.specs.declared.segments.ElementKind.{ElementKind}
use Rattle.smith_syntax.specs.declared.segments.ElementKind.TheVariants as element_kind
use Rattle.smith_syntax.specs.declared.segments.ElementSegment.{ElementSegment}
use Rattle.smith_syntax.specs.declared.segments.DataSegmentKind.{DataSegmentKind}
use Rattle.smith_syntax.specs.declared.segments.DataSegmentKind.TheVariants as data_kind
use Rattle.smith_syntax.specs.declared.segments.DataSegment.{DataSegment}
use Rattle.smith_syntax.specs.declared.segments.Offset.{Offset}
use Rattle.smith_syntax.specs.declared.segments.Offset.TheVariants.{Const32, Const64, Global}
use Rattle.smith_types.specs.Expressions.{Context, IsConstExpr, function_reference}
use Rattle.smith_types.specs.Segments.{address_type, IsOffsetValid, IsItem, AreItemsValid, IsActiveElementSegment, IsElementKindValid}
use Rattle.smith_types.specs.Segments.{IsElementSegmentValid, IsDataKindValid, IsDataValid}
use Rattle.smith_types.specs.Grown.{IsContextGrown}
use Rattle.smith_types.proofs.ListLemmas.{slice_get-grown}
use Rattle.smith_types.proofs.GrowthLemmas.{IsRefBelow-grown, IsValBelow-grown}
use Rattle.smith_types.proofs.EntityGrowthLemmas.{IsRefTypeValid-later, no_fewer}
use Rattle.smith_types.proofs.ExpressionGrowthLemmas.{grown, grown_is, IsVisible-grown, IsConstExpr-more}

module _ (context : Context) (types : List SubType) (funcs : List ℕ) (globals : List GlobalType) (visible : ℕ)
    (wider : context.visible ≤ visible) where
  IsOffsetValid-more : (wide : Bool) (offset : Offset) → IsOffsetValid context wide offset
      → IsOffsetValid (grown context types funcs globals visible) wide offset
  IsOffsetValid-more wide (Const32 value) h = h
  IsOffsetValid-more wide (Const64 value) h = h
  IsOffsetValid-more wide (Global index) h = IsVisible-grown context types funcs globals visible wider index (address_type wide) h

  IsItem-more : (ty : RefType) (function : ℕ) → IsItem context ty function → IsItem (grown context types funcs globals visible) ty function
  IsItem-more ty function (index, at, below) = (
    index,
    slice_get-grown context.funcs funcs function index at,
    IsValBelow-grown context.types types (function_reference context function index) (Ref ty) below,
  )

  AreItemsValid-more : (ty : RefType) (items : Elements) → AreItemsValid context ty items
      → AreItemsValid (grown context types funcs globals visible) ty items
  AreItemsValid-more ty (Functions functions) h = All-weaker (IsItem context ty) (IsItem (grown context types funcs globals visible) ty)
      (IsItem-more ty) functions h
  AreItemsValid-more ty (Expressions expressions) (on, h) = (
    on,
    All-weaker (IsConstExpr context (Ref ty)) (IsConstExpr (grown context types funcs globals visible) (Ref ty))
        (IsConstExpr-more context types funcs globals visible wider (Ref ty)) expressions h,
  )

  IsActiveElementSegment-more : (tables more : List TableType) (ty : RefType) (index : ℕ) (offset : Offset)
      → IsActiveElementSegment context tables ty index offset → IsActiveElementSegment (grown context types funcs globals visible)
      (tables ++ more) ty index offset
  IsActiveElementSegment-more tables more ty index offset h = record {
    table = h.table;
    stands = slice_get-grown tables more index h.table h.stands;
    below = IsRefBelow-grown context.types types h.below;
    offset_valid = IsOffsetValid-more h.table.table64 offset h.offset_valid;
  }

  IsElementKindValid-more : (tables more : List TableType) (ty : RefType) (kind : ElementKind) → IsElementKindValid context tables ty kind
      → IsElementKindValid (grown context types funcs globals visible) (tables ++ more) ty kind
  IsElementKindValid-more tables more ty element_kind.Passive h = h
  IsElementKindValid-more tables more ty element_kind.Declared h = h
  IsElementKindValid-more tables more ty (element_kind.Active None offset) h = IsActiveElementSegment-more tables more ty 0 offset h
  IsElementKindValid-more tables more ty (element_kind.Active (Some table) offset) (on, h) =
      (on, IsActiveElementSegment-more tables more ty table offset h)

  IsElementSegmentValid-more : (tables more : List TableType) (segment : ElementSegment) → IsElementSegmentValid context tables segment
      → IsElementSegmentValid (grown context types funcs globals visible) (tables ++ more) segment
  IsElementSegmentValid-more tables more segment h = record {
    ty = IsRefTypeValid-later context.features (length context.types) (length (context.types ++ types)) (no_fewer context.types types)
        segment.ty h.ty;
    ty_enabled = h.ty_enabled;
    items = AreItemsValid-more segment.ty segment.items h.items;
    kind = IsElementKindValid-more tables more segment.ty segment.kind h.kind;
  }

  IsDataKindValid-more : (memories more : List MemoryType) (kind : DataSegmentKind) → IsDataKindValid context memories kind
      → IsDataKindValid (grown context types funcs globals visible) (memories ++ more) kind
  IsDataKindValid-more memories more data_kind.Passive h = h
  IsDataKindValid-more memories more (data_kind.Active index offset) (memory, at, h) =
      (memory, slice_get-grown memories more index memory at, IsOffsetValid-more memory.memory64 offset h)

module _ (old new : Context) (growth : IsContextGrown old new) where
  pub IsElementSegmentValid-grown : (tables more : List TableType) (segment : ElementSegment) → IsElementSegmentValid old tables segment
      → IsElementSegmentValid new (tables ++ more) segment
  IsElementSegmentValid-grown tables more segment h =
      subst (λ c. IsElementSegmentValid c (tables ++ more) segment) (grown_is old new growth)
      (IsElementSegmentValid-more old growth.types.more growth.funcs.more growth.globals.more new.visible growth.visible tables more segment
      h)

  pub IsDataValid-grown : (memories more : List MemoryType) (segment : DataSegment) → IsDataValid old memories segment
      → IsDataValid new (memories ++ more) segment
  IsDataValid-grown memories more segment h =
      subst (λ c. IsDataValid c (memories ++ more) segment) (grown_is old new growth)
      (IsDataKindValid-more old growth.types.more growth.funcs.more growth.globals.more new.visible growth.visible memories more
      segment.kind h)
