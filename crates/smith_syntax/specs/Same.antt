-- The `==` of plain data decides equality. These proofs are here because the laws of the trait
-- `Exact` cite them.
use Rattle.std.proofs.Common.{rules, ◌≡◌, ℕ, Bool, List, Some, ap, refl}
use Rattle.std.specs.Bool.{Decides}
use Rattle.std.specs.Option.{option_eq}
use Rattle.std.specs.Prelude.{Option, nat_eq, bytes_eq, ◌&&◌}
use Rattle.std.specs.Cmp.{unsigned_Decides, signed_Decides, booleans_Decides}
use Rattle.std.specs.Cmp.Lexicographic.{pointwise}
use Rattle.std.proofs.lemmas.Bool.Decides.{Decides-like, Decides-and}
use Rattle.std.proofs.lemmas.Slice.Eq.{slice_eq-Decides, bytes_eq-Decides}
use Rattle.smith_syntax.specs.declared.value_type.AbstractHeapType.{AbstractHeapType}
use Rattle.smith_syntax.specs.declared.value_type.HeapType.{HeapType}
use Rattle.smith_syntax.specs.declared.value_type.HeapType.TheVariants.{Abstract, Concrete, Exact}
use Rattle.smith_syntax.specs.declared.value_type.RefType.{RefType}
use Rattle.smith_syntax.specs.declared.value_type.ValType.{ValType}
use Rattle.smith_syntax.specs.declared.value_type.ValType.TheVariants.{Ref}
use Rattle.smith_syntax.specs.declared.composite_type.StorageType.{StorageType}
use Rattle.smith_syntax.specs.declared.composite_type.StorageType.TheVariants.{Val}
use Rattle.smith_syntax.specs.declared.composite_type.FieldType.{FieldType}
use Rattle.smith_syntax.specs.declared.composite_type.ArrayType.{ArrayType}
use Rattle.smith_syntax.specs.declared.composite_type.StructType.{StructType}
use Rattle.smith_syntax.specs.declared.composite_type.FuncType.{FuncType}
use Rattle.smith_syntax.specs.declared.composite_type.CompositeInnerType.{CompositeInnerType}
use Rattle.smith_syntax.specs.declared.composite_type.CompositeInnerType.TheVariants.{Array, Func, Struct}
use Rattle.smith_syntax.specs.declared.composite_type.CompositeType.{CompositeType}
use Rattle.smith_syntax.specs.declared.composite_type.SubType.{SubType}
use Rattle.smith_syntax.specs.declared.entity_type.TableType.{TableType}
use Rattle.smith_syntax.specs.declared.entity_type.MemoryType.{MemoryType}
use Rattle.smith_syntax.specs.declared.entity_type.GlobalType.{GlobalType}
use Rattle.smith_syntax.specs.declared.entity_type.EntityType.{EntityType}
use Rattle.smith_syntax.specs.declared.entity_type.EntityType.TheVariants as entity
use Rattle.smith_syntax.specs.declared.entity_type.ExportKind.{ExportKind}
use Rattle.smith_syntax.specs.declared.imports.Import.{Import}
use Rattle.smith_syntax.specs.declared.imports.ImportItem.{ImportItem}
use Rattle.smith_syntax.specs.declared.imports.Imports.{Imports}
use Rattle.smith_syntax.specs.declared.imports.Imports.TheVariants.{Single, Compact1, Compact2}
use Rattle.smith_syntax.specs.declared.const_instr.ConstInstr.{ConstInstr}
use Rattle.smith_syntax.specs.declared.const_instr.ConstInstr.TheVariants as instr
use Rattle.smith_syntax.specs.contracts.entity_type.TableTypePartialEq.TheImpl.{ghosts as table_same}
use Rattle.smith_syntax.specs.contracts.entity_type.MemoryTypePartialEq.TheImpl.{ghosts as memory_same}
use Rattle.smith_syntax.specs.contracts.entity_type.GlobalTypePartialEq.TheImpl.{ghosts as global_same}
use Rattle.smith_syntax.specs.contracts.entity_type.EntityTypePartialEq.TheImpl.{ghosts as entity_same}
use Rattle.smith_syntax.specs.contracts.entity_type.ExportKindPartialEq.TheImpl.{ghosts as kind_same}
use Rattle.smith_syntax.specs.contracts.imports.ImportPartialEq.TheImpl.{ghosts as import_same}
use Rattle.smith_syntax.specs.contracts.imports.ImportItemPartialEq.TheImpl.{ghosts as item_same}
use Rattle.smith_syntax.specs.contracts.imports.ImportsPartialEq.TheImpl.{ghosts as imports_same}
use Rattle.smith_syntax.specs.contracts.const_instr.ConstInstrPartialEq.TheImpl.{ghosts as instr_same}
use Rattle.smith_syntax.specs.contracts.value_type.AbstractHeapTypePartialEq.TheImpl.{ghosts as abstract_same}
use Rattle.smith_syntax.specs.contracts.value_type.HeapTypePartialEq.TheImpl.{ghosts as heap_same}
use Rattle.smith_syntax.specs.contracts.value_type.RefTypePartialEq.TheImpl.{ghosts as ref_same}
use Rattle.smith_syntax.specs.contracts.value_type.ValTypePartialEq.TheImpl.{ghosts as val_same}
use Rattle.smith_syntax.specs.contracts.composite_type.StorageTypePartialEq.TheImpl.{ghosts as storage_same}
use Rattle.smith_syntax.specs.contracts.composite_type.FieldTypePartialEq.TheImpl.{ghosts as field_same}
use Rattle.smith_syntax.specs.contracts.composite_type.ArrayTypePartialEq.TheImpl.{ghosts as array_same}
use Rattle.smith_syntax.specs.contracts.composite_type.StructTypePartialEq.TheImpl.{ghosts as struct_same}
use Rattle.smith_syntax.specs.contracts.composite_type.FuncTypePartialEq.TheImpl.{ghosts as func_same}
use Rattle.smith_syntax.specs.contracts.composite_type.CompositeInnerTypePartialEq.TheImpl.{ghosts as inner_same}
use Rattle.smith_syntax.specs.contracts.composite_type.CompositeTypePartialEq.TheImpl.{ghosts as composite_same}
use Rattle.smith_syntax.specs.contracts.composite_type.SubTypePartialEq.TheImpl.{ghosts as sub_same}

-- element-by-element equality of lists is exact if the `==` of the elements is exact
pub exact_items : {A : Type 0} {E : A → A → Bool} → ((a b : A) → Decides (E a b) (a ≡ b)) → (xs ys : List A)
    → Decides (pointwise E xs ys) (xs ≡ ys)
exact_items exact xs ys = slice_eq-Decides exact xs ys _ refl

pub exact_abstract : (a b : AbstractHeapType) → Decides (abstract_same.eq a b) (a ≡ b)
exact_abstract a b = search rules

pub exact_heap : (a b : HeapType) → Decides (heap_same.eq a b) (a ≡ b)
exact_heap (Concrete i) (Concrete j) = Decides-like _ (ap Concrete) (λ e. cc) (unsigned_Decides i j)
exact_heap (Exact i) (Exact j) = Decides-like _ (ap Exact) (λ e. cc) (unsigned_Decides i j)
exact_heap (Abstract s x) (Abstract r y) = Decides-like _ (λ (p, q). λ i. Abstract (p i) (q i)) (λ e. (cc, cc))
    (Decides-and _ _ (booleans_Decides s r) (exact_abstract x y))
exact_heap a b = search rules

pub exact_ref : (a b : RefType) → Decides (ref_same.eq a b) (a ≡ b)
exact_ref a b = Decides-like _ (λ (p, q). λ i. record { nullable = p i; heap_type = q i })
    (λ e. (ap (λ x. x.nullable) e, ap (λ x. x.heap_type) e))
    (Decides-and _ _ (booleans_Decides a.nullable b.nullable) (exact_heap a.heap_type b.heap_type))

pub exact_val : (a b : ValType) → Decides (val_same.eq a b) (a ≡ b)
exact_val (Ref a) (Ref b) = Decides-like _ (ap Ref) (λ e. cc) (exact_ref a b)
exact_val a b = search rules

pub exact_storage : (a b : StorageType) → Decides (storage_same.eq a b) (a ≡ b)
exact_storage (Val a) (Val b) = Decides-like _ (ap Val) (λ e. cc) (exact_val a b)
exact_storage a b = search rules

pub exact_field : (a b : FieldType) → Decides (field_same.eq a b) (a ≡ b)
exact_field a b = Decides-like _ (λ (p, q). λ i. record { element_type = p i; mutable = q i })
    (λ e. (ap (λ x. x.element_type) e, ap (λ x. x.mutable) e))
    (Decides-and _ _ (exact_storage a.element_type b.element_type) (booleans_Decides a.mutable b.mutable))

pub exact_array : (a b : ArrayType) → Decides (array_same.eq a b) (a ≡ b)
exact_array a b = Decides-like _ (λ p. λ i. record { 0 = p i }) (λ e. ap (λ x. x.0) e) (exact_field a.0 b.0)

pub exact_struct : (a b : StructType) → Decides (struct_same.eq a b) (a ≡ b)
exact_struct a b = Decides-like _ (λ p. λ i. record { fields = p i }) (λ e. ap (λ x. x.fields) e)
    (exact_items exact_field a.fields b.fields)

pub exact_func : (a b : FuncType) → Decides (func_same.eq a b) (a ≡ b)
exact_func a b = Decides-like _ (λ (p, q). λ i. record { params = p i; results = q i }) (λ e. (ap (λ x. x.params) e, ap (λ x. x.results) e))
    (Decides-and _ _ (exact_items exact_val a.params b.params) (exact_items exact_val a.results b.results))

pub exact_inner : (a b : CompositeInnerType) → Decides (inner_same.eq a b) (a ≡ b)
exact_inner (Array a) (Array b) = Decides-like _ (ap Array) (λ e. cc) (exact_array a b)
exact_inner (Func a) (Func b) = Decides-like _ (ap Func) (λ e. cc) (exact_func a b)
exact_inner (Struct a) (Struct b) = Decides-like _ (ap Struct) (λ e. cc) (exact_struct a b)
exact_inner a b = search rules

pub exact_composite : (a b : CompositeType) → Decides (composite_same.eq a b) (a ≡ b)
exact_composite a b = Decides-like _ (λ (p, q). λ i. record { inner = p i; shared = q i })
    (λ e. (ap (λ x. x.inner) e, ap (λ x. x.shared) e))
    (Decides-and _ _ (exact_inner a.inner b.inner) (booleans_Decides a.shared b.shared))

pub exact_option : (a b : Option ℕ) → Decides (option_eq nat_eq a b) (a ≡ b)
exact_option (Some a) (Some b) = Decides-like _ (ap Some) (λ e. cc) (unsigned_Decides a b)
exact_option a b = search rules

pub exact_sub : (a b : SubType) → Decides (sub_same.eq a b) (a ≡ b)
exact_sub a b = Decides-like _ (λ (p, (q, r)). λ i. record { is_final = p i; supertype = q i; composite_type = r i })
    (λ e. (ap (λ x. x.is_final) e, (ap (λ x. x.supertype) e, ap (λ x. x.composite_type) e)))
    (Decides-and _ _ (booleans_Decides a.is_final b.is_final) (Decides-and _ _ (exact_option a.supertype b.supertype)
    (exact_composite a.composite_type b.composite_type)))

pub exact_table : (a b : TableType) → Decides (table_same.eq a b) (a ≡ b)
exact_table a b = Decides-like _ (λ (p, (q, (r, (t, u)))). λ i. record {
  element_type = p i;
  minimum = q i;
  maximum = r i;
  table64 = t i;
  shared = u i;
}) (λ e. (
  ap (λ x. x.element_type) e,
  (ap (λ x. x.minimum) e, (ap (λ x. x.maximum) e, (ap (λ x. x.table64) e, ap (λ x. x.shared) e))),
))
    (Decides-and _ _ (exact_ref a.element_type b.element_type) (Decides-and _ _ (unsigned_Decides a.minimum b.minimum)
    (Decides-and _ _ (exact_option a.maximum b.maximum) (Decides-and _ _ (booleans_Decides a.table64 b.table64)
    (booleans_Decides a.shared b.shared)))))

pub exact_memory : (a b : MemoryType) → Decides (memory_same.eq a b) (a ≡ b)
exact_memory a b = Decides-like _ (λ (p, (q, (r, (t, u)))). λ i. record {
  minimum = p i;
  maximum = q i;
  memory64 = r i;
  shared = t i;
  page_size_log2 = u i;
})
    (λ e. (ap (λ x. x.minimum) e, (ap (λ x. x.maximum) e, (ap (λ x. x.memory64) e, (ap (λ x. x.shared) e, ap (λ x. x.page_size_log2) e)))))
    (Decides-and _ _ (unsigned_Decides a.minimum b.minimum) (Decides-and _ _ (exact_option a.maximum b.maximum)
    (Decides-and _ _ (booleans_Decides a.memory64 b.memory64) (Decides-and _ _ (booleans_Decides a.shared b.shared)
    (exact_option a.page_size_log2 b.page_size_log2)))))

pub exact_global : (a b : GlobalType) → Decides (global_same.eq a b) (a ≡ b)
exact_global a b = Decides-like _ (λ (p, (q, r)). λ i. record { val_type = p i; mutable = q i; shared = r i })
    (λ e. (ap (λ x. x.val_type) e, (ap (λ x. x.mutable) e, ap (λ x. x.shared) e)))
    (Decides-and _ _ (exact_val a.val_type b.val_type) (Decides-and _ _ (booleans_Decides a.mutable b.mutable)
    (booleans_Decides a.shared b.shared)))

pub exact_entity : (a b : EntityType) → Decides (entity_same.eq a b) (a ≡ b)
exact_entity (entity.Global a) (entity.Global b) = Decides-like _ (ap entity.Global) (λ e. cc) (exact_global a b)
exact_entity (entity.Table a) (entity.Table b) = Decides-like _ (ap entity.Table) (λ e. cc) (exact_table a b)
exact_entity (entity.Memory a) (entity.Memory b) = Decides-like _ (ap entity.Memory) (λ e. cc) (exact_memory a b)
exact_entity (entity.Tag a) (entity.Tag b) = Decides-like _ (ap entity.Tag) (λ e. cc) (unsigned_Decides a b)
exact_entity (entity.Func a) (entity.Func b) = Decides-like _ (ap entity.Func) (λ e. cc) (unsigned_Decides a b)
exact_entity a b = search rules

pub exact_kind : (a b : ExportKind) → Decides (kind_same.eq a b) (a ≡ b)
exact_kind a b = search rules

pub exact_export : (a b : List ℕ × ExportKind × ℕ) → Decides ((bytes_eq a.0 b.0 && kind_same.eq a.1 b.1) && nat_eq a.2 b.2) (a ≡ b)
exact_export a b = Decides-like _ (λ ((p, q), r). λ i. (p i, q i, r i)) (λ e. ((ap (λ x. x.0) e, ap (λ x. x.1) e), ap (λ x. x.2) e))
    (Decides-and _ _ (Decides-and _ _ (bytes_eq-Decides a.0 b.0) (exact_kind a.1 b.1)) (unsigned_Decides a.2 b.2))

pub exact_import : (a b : Import) → Decides (import_same.eq a b) (a ≡ b)
exact_import a b = Decides-like _ (λ (p, (q, r)). λ i. record { «module» = p i; name = q i; entity_type = r i })
    (λ e. (ap (λ x. x.«module») e, (ap (λ x. x.name) e, ap (λ x. x.entity_type) e)))
    (Decides-and _ _ (bytes_eq-Decides a.«module» b.«module») (Decides-and _ _ (bytes_eq-Decides a.name b.name)
    (exact_entity a.entity_type b.entity_type)))

pub exact_item : (a b : ImportItem) → Decides (item_same.eq a b) (a ≡ b)
exact_item a b = Decides-like _ (λ (p, q). λ i. record { name = p i; entity_type = q i })
    (λ e. (ap (λ x. x.name) e, ap (λ x. x.entity_type) e))
    (Decides-and _ _ (bytes_eq-Decides a.name b.name) (exact_entity a.entity_type b.entity_type))

pub exact_imports : (a b : Imports) → Decides (imports_same.eq a b) (a ≡ b)
exact_imports (Single a) (Single b) = Decides-like _ (ap Single) (λ e. cc) (exact_import a b)
exact_imports (Compact1 m xs) (Compact1 n ys) = Decides-like _ (λ (p, q). λ i. Compact1 (p i) (q i)) (λ e. (cc, cc))
    (Decides-and _ _ (bytes_eq-Decides m n) (exact_items exact_item xs ys))
exact_imports (Compact2 m t xs) (Compact2 n u ys) = Decides-like _ (λ (p, (q, r)). λ i. Compact2 (p i) (q i) (r i)) (λ e. (cc, (cc, cc)))
    (Decides-and _ _ (bytes_eq-Decides m n) (Decides-and _ _ (exact_entity t u) (exact_items bytes_eq-Decides xs ys)))
exact_imports a b = search rules

pub exact_instr : (a b : ConstInstr) → Decides (instr_same.eq a b) (a ≡ b)
exact_instr (instr.I32Const a) (instr.I32Const b) = Decides-like _ (ap instr.I32Const) (λ e. cc) (signed_Decides a b)
exact_instr (instr.I64Const a) (instr.I64Const b) = Decides-like _ (ap instr.I64Const) (λ e. cc) (signed_Decides a b)
exact_instr (instr.F32Const a) (instr.F32Const b) = Decides-like _ (ap instr.F32Const) (λ e. cc) (unsigned_Decides a b)
exact_instr (instr.F64Const a) (instr.F64Const b) = Decides-like _ (ap instr.F64Const) (λ e. cc) (unsigned_Decides a b)
exact_instr (instr.V128Const a) (instr.V128Const b) = Decides-like _ (ap instr.V128Const) (λ e. cc) (signed_Decides a b)
exact_instr (instr.GlobalGet a) (instr.GlobalGet b) = Decides-like _ (ap instr.GlobalGet) (λ e. cc) (unsigned_Decides a b)
exact_instr (instr.RefFunc a) (instr.RefFunc b) = Decides-like _ (ap instr.RefFunc) (λ e. cc) (unsigned_Decides a b)
exact_instr (instr.StructNew a) (instr.StructNew b) = Decides-like _ (ap instr.StructNew) (λ e. cc) (unsigned_Decides a b)
exact_instr (instr.StructNewDefault a) (instr.StructNewDefault b) = Decides-like _ (ap instr.StructNewDefault) (λ e. cc)
    (unsigned_Decides a b)
exact_instr (instr.ArrayNew a) (instr.ArrayNew b) = Decides-like _ (ap instr.ArrayNew) (λ e. cc) (unsigned_Decides a b)
exact_instr (instr.ArrayNewDefault a) (instr.ArrayNewDefault b) = Decides-like _ (ap instr.ArrayNewDefault) (λ e. cc) (unsigned_Decides a b)
exact_instr (instr.RefNull a) (instr.RefNull b) = Decides-like _ (ap instr.RefNull) (λ e. cc) (exact_heap a b)
exact_instr (instr.ArrayNewFixed a m) (instr.ArrayNewFixed b n) = Decides-like _ (λ (p, q). λ i. instr.ArrayNewFixed (p i) (q i))
    (λ e. (cc, cc)) (Decides-and _ _ (unsigned_Decides a b) (unsigned_Decides m n))
exact_instr a b = search rules
