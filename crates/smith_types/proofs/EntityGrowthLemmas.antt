-- Valid value types and entities stay valid when types are added.
use Rattle.smith_types.proofs.Common.{Abstract, All-weaker, arith, Concrete, Exact, F32, F64, Features, GlobalType, HeapType, I32, I64}
use Rattle.smith_types.proofs.Common.{length, List, Ref, RefType, SubType, V128, ValType, ℕ, ◌++◌, ◌≤◌}
use Rattle.std.proofs.Common.{length-append}
use Rattle.smith_syntax.specs.declared.composite_type.FuncType.{FuncType}
use Rattle.smith_syntax.specs.declared.entity_type.TableType.{TableType}
use Rattle.smith_types.specs.ValidTypes.{IsHeapTypeValid, IsRefTypeValid, IsValTypeValid}
use Rattle.smith_types.specs.Imports.{EntitySpaces}
use Rattle.smith_types.specs.Entities.{IsFuncAt, IsFuncTypeIndex, IsTagValid, IsTableValid, IsGlobalValid, AreEntitiesValid}
use Rattle.smith_types.proofs.ListLemmas.{slice_get-grown}
use Rattle.smith_types.proofs.ValidityLemmas.{IsShareable-grown}

-- a reference to types below one end is valid for any later end
module _ (features : Features) (end later : ℕ) (within : end ≤ later) where
  pub IsHeapTypeValid-later : (heap : HeapType) → IsHeapTypeValid features end heap → IsHeapTypeValid features later heap
  IsHeapTypeValid-later (Abstract shared ty) h = h
  IsHeapTypeValid-later (Concrete index) (enabled, inside) = (enabled, omega (arith, within, inside))
  IsHeapTypeValid-later (Exact index) (enabled, inside) = (enabled, omega (arith, within, inside))

  pub IsRefTypeValid-later : (reference : RefType) → IsRefTypeValid features end reference → IsRefTypeValid features later reference
  IsRefTypeValid-later reference h = record { heap_type = IsHeapTypeValid-later reference.heap_type h.heap_type; nullable = h.nullable }

  pub IsValTypeValid-later : (value : ValType) → IsValTypeValid features end value → IsValTypeValid features later value
  IsValTypeValid-later I32 h = h
  IsValTypeValid-later I64 h = h
  IsValTypeValid-later F32 h = h
  IsValTypeValid-later F64 h = h
  IsValTypeValid-later V128 h = h
  IsValTypeValid-later (Ref reference) (on, h) = (on, IsRefTypeValid-later reference h)

-- at least as many types as before
pub no_fewer : {A : Type 0} (xs more : List A) → length xs ≤ length (xs ++ more)
no_fewer xs more = simp length-append (omega arith)

module _ (types more : List SubType) where
  pub IsFuncAt-grown : (index : ℕ) (function : FuncType) → IsFuncAt types index function → IsFuncAt (types ++ more) index function
  IsFuncAt-grown index function (t, at, is) = (t, slice_get-grown types more index t at, is)

  pub IsFuncTypeIndex-grown : (index : ℕ) → IsFuncTypeIndex types index → IsFuncTypeIndex (types ++ more) index
  IsFuncTypeIndex-grown index (function, at) = (function, IsFuncAt-grown index function at)

  pub IsTagValid-grown : (index : ℕ) → IsTagValid types index → IsTagValid (types ++ more) index
  IsTagValid-grown index (function, at, none) = (function, IsFuncAt-grown index function at, none)

module _ (features : Features) (types more : List SubType) where
  pub IsTableValid-grown : (ty : TableType) → IsTableValid features types ty → IsTableValid features (types ++ more) ty
  IsTableValid-grown ty h = record {
    limits = h.limits;
    element = IsRefTypeValid-later features (length types) (length (types ++ more)) (no_fewer types more) ty.element_type h.element;
    element_enabled = h.element_enabled;
    table64 = h.table64;
    shared = λ shared. let (on, held) = h.shared shared in (on, IsShareable-grown features types more (Ref ty.element_type) held);
  }

  pub IsGlobalValid-grown : (ty : GlobalType) → IsGlobalValid features types ty → IsGlobalValid features (types ++ more) ty
  IsGlobalValid-grown ty h = record {
    value = IsValTypeValid-later features (length types) (length (types ++ more)) (no_fewer types more) ty.val_type h.value;
    shared = λ shared. let (on, held) = h.shared shared in (on, IsShareable-grown features types more ty.val_type held);
  }

  pub AreEntitiesValid-grown : (spaces : EntitySpaces) → AreEntitiesValid features types spaces
      → AreEntitiesValid features (types ++ more) spaces
  AreEntitiesValid-grown spaces h = record {
    tags = All-weaker (IsTagValid types) (IsTagValid (types ++ more)) (IsTagValid-grown types more) spaces.tags h.tags;
    funcs = All-weaker (IsFuncTypeIndex types) (IsFuncTypeIndex (types ++ more)) (IsFuncTypeIndex-grown types more) spaces.funcs h.funcs;
    tables = All-weaker (IsTableValid features types) (IsTableValid features (types ++ more)) IsTableValid-grown spaces.tables h.tables;
    memories = h.memories;
    globals = All-weaker (IsGlobalValid features types) (IsGlobalValid features (types ++ more)) IsGlobalValid-grown spaces.globals
        h.globals;
  }
