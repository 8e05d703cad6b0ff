-- Laws of subtyping, of matching, and of validity under growth.
use Rattle.std.specs.Prelude.{ℕ, List, ◌++◌, Option}
use Rattle.smith_types.specs.Common.{Concrete, ConstInstr, EntityType, Exact, Features, GlobalType, HeapType, MemoryType, Range, RefType}
use Rattle.smith_types.specs.Common.{SubType, TableType, ValType}
use Rattle.smith_syntax.specs.declared.composite_type.CompositeType.{CompositeType}
use Rattle.smith_types.specs.Subtyping.{IsBelow, IsRefBelow, IsValBelow}
use Rattle.smith_types.specs.Matching.{IsCompositeMatch}
use Rattle.smith_types.specs.ValidTypes.{AreTypesValid}
use Rattle.smith_types.specs.Imports.{EntitySpaces}
use Rattle.smith_types.specs.Entities.{IsTableValid, IsGlobalValid, IsTagValid, IsFuncTypeIndex, AreEntitiesValid}
use Rattle.smith_types.specs.Expressions.{Context, HasType, IsStackStep, AreStackSteps, IsConstExpr}
use Rattle.smith_types.specs.Segments.{IsElementSegmentValid, IsDataValid}
use Rattle.smith_types.specs.Exports.{IsEntityAt, AreExportsValid, IsStartValid}
use Rattle.smith_types.specs.Grounded.{IsGrounded}
use Rattle.smith_types.specs.Grown.{IsContextGrown, AreImportsGrown, AreSpacesGrown, AreGroupsAdded}
use Rattle.smith_syntax.specs.declared.entity_type.ExportKind.{ExportKind}
use Rattle.smith_syntax.specs.declared.segments.DataSegment.{DataSegment}
use Rattle.smith_syntax.specs.declared.segments.ElementSegment.{ElementSegment}

-- subtyping is reflexive
pub record SubtypingIsReflexive : Type 0 where
  pub heap : (types : List SubType) (a : HeapType) → IsBelow types a a
  pub reference : (types : List SubType) (a : RefType) → IsRefBelow types a a
  pub value : (types : List SubType) (a : ValType) → IsValBelow types a a

-- subtyping is transitive
pub record SubtypingIsTransitive : Type 0 where
  pub heap : (types : List SubType) (a b c : HeapType) → IsBelow types a b → IsBelow types b c → IsBelow types a c
  pub reference : (types : List SubType) (a b c : RefType) → IsRefBelow types a b → IsRefBelow types b c → IsRefBelow types a c
  pub value : (types : List SubType) (a b c : ValType) → IsValBelow types a b → IsValBelow types b c → IsValBelow types a c

-- no concrete type is a subtype of an exact type, not even of the exact type with its index
abbrev pub ConcreteIsNeverBelowExact : Type 0
ConcreteIsNeverBelowExact = (types : List SubType) (i j : ℕ) → ¬ IsBelow types (Concrete i) (Exact j)

-- subtyping is preserved when types are appended
pub record SubtypingSurvivesGrowth : Type 0 where
  pub heap : (types more : List SubType) (a b : HeapType) → IsBelow types a b → IsBelow (types ++ more) a b
  pub reference : (types more : List SubType) (a b : RefType) → IsRefBelow types a b → IsRefBelow (types ++ more) a b
  pub value : (types more : List SubType) (a b : ValType) → IsValBelow types a b → IsValBelow (types ++ more) a b

-- each composite type matches itself
abbrev pub MatchingIsReflexive : Type 0
MatchingIsReflexive = (types : List SubType) (a : CompositeType) → IsCompositeMatch types a a

-- matching is preserved when types are appended
abbrev pub MatchingSurvivesGrowth : Type 0
MatchingSurvivesGrowth = (types more : List SubType) (a b : CompositeType) → IsCompositeMatch types a b
    → IsCompositeMatch (types ++ more) a b

-- valid types stay valid when valid groups are appended
abbrev pub ValidTypesSurviveGrowth : Type 0
ValidTypesSurviveGrowth = (features : Features) (types more : List SubType) (groups further : List (Range ℕ))
    → AreTypesValid features (record { types = types; groups = groups })
    → AreGroupsAdded features types more further → AreTypesValid features (record { types = types ++ more; groups = groups ++ further })

-- valid entities stay valid when types are appended
pub record ValidEntitiesSurviveGrowth : Type 0 where
  pub table : (features : Features) (types more : List SubType) (ty : TableType) → IsTableValid features types ty
      → IsTableValid features (types ++ more) ty
  pub global : (features : Features) (types more : List SubType) (ty : GlobalType) → IsGlobalValid features types ty
      → IsGlobalValid features (types ++ more) ty
  pub tag : (types more : List SubType) (index : ℕ) → IsTagValid types index → IsTagValid (types ++ more) index
  pub func : (types more : List SubType) (index : ℕ) → IsFuncTypeIndex types index → IsFuncTypeIndex (types ++ more) index
  pub all : (features : Features) (types more : List SubType) (spaces : EntitySpaces) → AreEntitiesValid features types spaces
      → AreEntitiesValid features (types ++ more) spaces

-- typing and validity of constant expressions are preserved in a grown context
pub record ValidExpressionsSurviveGrowth : Type 0 where
  pub typed : (old new : Context) (instruction : ConstInstr) (operands : List ValType) (result : ValType) → IsContextGrown old new
      → HasType old instruction operands result → HasType new instruction operands result
  pub step : (old new : Context) (instruction : ConstInstr) (before after : List ValType) → IsContextGrown old new
      → IsStackStep old instruction before after → IsStackStep new instruction before after
  pub steps : (old new : Context) (instructions : List ConstInstr) (before after : List ValType) → IsContextGrown old new
      → AreStackSteps old instructions before after → AreStackSteps new instructions before after
  pub expression : (old new : Context) (wanted : ValType) (instructions : List ConstInstr) → IsContextGrown old new
      → IsConstExpr old wanted instructions → IsConstExpr new wanted instructions

-- a grounded heap type stays grounded in a grown context, and when more functions are imported
pub record GroundedSurvivesGrowth : Type 0 where
  pub context : (old new : Context) (heap_type : HeapType) → IsContextGrown old new → IsGrounded old heap_type → IsGrounded new heap_type
  pub imports : (old new : Context) (heap_type : HeapType) → AreImportsGrown old new → IsGrounded old heap_type → IsGrounded new heap_type

-- a valid segment stays valid in a grown context with more tables or memories
pub record ValidSegmentsSurviveGrowth : Type 0 where
  pub elem : (old new : Context) (tables more : List TableType) (segment : ElementSegment) → IsContextGrown old new
      → IsElementSegmentValid old tables segment → IsElementSegmentValid new (tables ++ more) segment
  pub bytes : (old new : Context) (memories more : List MemoryType) (segment : DataSegment) → IsContextGrown old new
      → IsDataValid old memories segment → IsDataValid new (memories ++ more) segment

-- exported entities and start functions stay valid in grown index spaces
pub record ValidExportsSurviveGrowth : Type 0 where
  pub entity : (old new : EntitySpaces) (kind : ExportKind) (index : ℕ) (ty : EntityType) → AreSpacesGrown old new
      → IsEntityAt old kind index ty → IsEntityAt new kind index ty
  pub exports : (old new : EntitySpaces) (exports : List (List ℕ × ExportKind × ℕ)) → AreSpacesGrown old new → AreExportsValid old exports
      → AreExportsValid new exports
  pub start : (types more_types : List SubType) (funcs more_funcs : List ℕ) (function : Option ℕ) → IsStartValid types funcs function
      → IsStartValid (types ++ more_types) (funcs ++ more_funcs) function
