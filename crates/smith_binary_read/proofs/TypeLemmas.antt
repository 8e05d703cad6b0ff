-- Types that are read: the readings are sound and complete for the grammar.
use Rattle.std.proofs.Common.{◌≡◌, ℕ, suc, ◌<◌, ◌≤◌, ◌-◌, Bool, true, false, List, [], ◌∷◌, ◌++◌, map, Option}
use Rattle.std.proofs.Common.{Some, None, Ok, Err, refl, sym, ap, subst, ◌∙◌, append-nil, arith}
use Rattle.std.specs.Prelude.{pos, option_to_list}
use Rattle.std.proofs.lemmas.Bool.{lt-ltb, le-ltb, lt-leb, ne_eqb}
use Rattle.smith_binary.specs.Numbers.{IsUnsigned, IsSigned}
use Rattle.smith_binary.specs.Pieces.{IsByte, Joined, IsList}
use Rattle.smith_types.specs.Syntax.value_type.AbstractHeapType.{AbstractHeapType}
use Rattle.smith_types.specs.Syntax.value_type.AbstractHeapType.TheVariants as abstract
use Rattle.smith_types.specs.Syntax.value_type.HeapType.{HeapType}
use Rattle.smith_types.specs.Syntax.value_type.HeapType.TheVariants.{Abstract, Concrete, Exact}
use Rattle.smith_types.specs.Syntax.value_type.RefType.{RefType}
use Rattle.smith_types.specs.Syntax.value_type.ValType.{ValType}
use Rattle.smith_types.specs.Syntax.value_type.ValType.TheVariants.{I32, I64, F32, F64, V128, Ref}
use Rattle.smith_types.specs.Syntax.composite_type.StorageType.{StorageType}
use Rattle.smith_types.specs.Syntax.composite_type.StorageType.TheVariants as storage
use Rattle.smith_types.specs.Syntax.composite_type.CompositeInnerType.{CompositeInnerType}
use Rattle.smith_types.specs.Syntax.composite_type.CompositeInnerType.TheVariants as inner
use Rattle.smith_types.specs.Syntax.composite_type.CompositeType.{CompositeType}
use Rattle.smith_types.specs.Syntax.composite_type.SubType.{SubType}
use Rattle.smith_binary_sections.specs.Types.{abstract_byte, null_byte, IsAbstractAlone, IsHeapType, IsRefType, IsValType, IsStorageType}
use Rattle.smith_binary_sections.specs.Types.{mutability_byte, IsFieldType, IsFuncType, IsInnerType, IsCompositeType}
use Rattle.smith_binary_sections.specs.Types.{final_byte, IsSubType, IsRecGroup}
use Rattle.smith_binary_read.specs.declared.error.ReadError.{ReadError}
use Rattle.smith_binary_read.specs.declared.error.ReadError.TheVariants as error
use Rattle.smith_binary_read.specs.Readings.{Reading, ◌>>=◌, Fails, byte_at, each_at}
use Rattle.smith_binary_read.specs.Numbers.{unsigned_at}
use Rattle.smith_binary_read.specs.Contents.{list_at}
use Rattle.smith_binary_read.specs.declared.types.DeclaredType.{DeclaredType}
use Rattle.smith_binary_read.specs.DeclaredTypes.{AreSupertypes, IsDeclaredType, IsDeclaredGroup, with_further}
use Rattle.smith_binary_read.specs.Decodes.{Front, Decodes}
use Rattle.smith_binary_read.proofs.ReadLemmas.{step, branch, test_passed, front_as, front_joined}
use Rattle.smith_binary_read.proofs.ReadLemmas.{joined_decodes, byte_sound}
use Rattle.smith_binary_read.proofs.IntegerLemmas.{unsigned_decodes}
use Rattle.smith_binary_read.proofs.ContentLemmas.{list_decodes}
use Rattle.smith_binary_read.specs.Choices.{item_of, coded_at}
use Rattle.smith_binary_read.specs.TypeReadings.{abstract_rows, abstract_at, heap_type_at, ref_type_at, number_rows, val_type_at}
use Rattle.smith_binary_read.specs.TypeReadings.{packed_rows, storage_type_at, flag_rows, mutability_at, field_type, field_type_at}
use Rattle.smith_binary_read.specs.TypeReadings.{func_type, func_type_at, inner_type_at, composite_type, composite_type_at, split_first}
use Rattle.smith_binary_read.specs.TypeReadings.{supertypes_at, declared_type, declared_at, declared_type_at, declared_group_at}
use Rattle.smith_binary_read.proofs.ChoiceLemmas.{Begins, byte_begins, tag_begins, begins_as, tagged_read, mapped_sound}
use Rattle.smith_binary_read.proofs.ChoiceLemmas.{tag_front, tagged_sound, or_branch, item_holds, item_none, coded_decodes}
use Rattle.smith_binary_read.proofs.ChoiceLemmas.{type_index_decodes, positive_begins}
use Rattle.smith_binary_read.proofs.ViewLemmas.{list_forth}

-- abstract heap types
abstract_again : (ty : AbstractHeapType) (rest : List ℕ) → coded_at abstract_rows (abstract_byte ty ∷ rest) ≡ Ok (ty, rest)
abstract_again abstract.Exn rest = refl
abstract_again abstract.Array rest = refl
abstract_again abstract.Struct rest = refl
abstract_again abstract.I31 rest = refl
abstract_again abstract.Eq rest = refl
abstract_again abstract.Any rest = refl
abstract_again abstract.Extern rest = refl
abstract_again abstract.Func rest = refl
abstract_again abstract.None rest = refl
abstract_again abstract.NoExtern rest = refl
abstract_again abstract.NoFunc rest = refl
abstract_again abstract.NoExn rest = refl

pub abstract_decodes : Decodes (λ (ty : AbstractHeapType). IsByte (abstract_byte ty)) abstract_at
unfolding abstract_at
abstract_decodes = coded_decodes abstract_byte abstract_rows
    (refl, (refl, (refl, (refl, (refl, (refl, (refl, (refl, (refl, (refl, (refl, (refl, tt)))))))))))) abstract_again

abstract_within : (ty : AbstractHeapType) → (0x69 ≤ abstract_byte ty) × (abstract_byte ty ≤ 0x74)
abstract_within abstract.Exn = (omega arith, omega arith)
abstract_within abstract.Array = (omega arith, omega arith)
abstract_within abstract.Struct = (omega arith, omega arith)
abstract_within abstract.I31 = (omega arith, omega arith)
abstract_within abstract.Eq = (omega arith, omega arith)
abstract_within abstract.Any = (omega arith, omega arith)
abstract_within abstract.Extern = (omega arith, omega arith)
abstract_within abstract.Func = (omega arith, omega arith)
abstract_within abstract.None = (omega arith, omega arith)
abstract_within abstract.NoExtern = (omega arith, omega arith)
abstract_within abstract.NoFunc = (omega arith, omega arith)
abstract_within abstract.NoExn = (omega arith, omega arith)

-- heap types
heap_sound : (bytes : List ℕ) (x : HeapType) (rest : List ℕ) → heap_type_at bytes ≡ Ok (x, rest) → Front (IsHeapType x) bytes rest
unfolding heap_type_at
heap_sound bytes x rest e = step _ _ _ e (λ byte first e.
    branch _ _ _ _ e (λ is e. mapped_sound IsHeapType Concrete type_index_decodes (λ y piece h. h) bytes x rest e) (λ is_not e.
    branch _ _ _ _ e (λ is e. tagged_sound IsHeapType (λ ty. Abstract true ty) 0x65 abstract_decodes
    (λ y piece h. h) bytes byte x rest first is e) (λ is_not e.
    branch _ _ _ _ e (λ is e. tagged_sound IsHeapType Exact 0x62 (unsigned_decodes 32) (λ y piece h. h) bytes byte x rest first is e)
    (λ is_not e.
    mapped_sound IsHeapType (λ ty. Abstract false ty) abstract_decodes (λ y piece h. h) bytes x rest e))))

heap_alone : (ty : AbstractHeapType) (rest : List ℕ) → heap_type_at (abstract_byte ty ∷ rest) ≡ Ok (Abstract false ty, rest)
unfolding heap_type_at
heap_alone ty rest =
    let within = abstract_within ty in
    let low : 0x69 ≤ abstract_byte ty = within.0 in
    let high : abstract_byte ty ≤ 0x74 = within.1 in
    let read : abstract_at (abstract_byte ty ∷ rest) ≡ Ok (ty, rest) = abstract_decodes.complete ty (abstract_byte ty ∷ []) rest refl in
    rw (
      lt-ltb (abstract_byte ty) 256 (omega arith),
      le-ltb (abstract_byte ty) 64 (omega arith),
      lt-leb 128 (abstract_byte ty)
          (omega arith),
      ne_eqb (abstract_byte ty) 0x65 (λ e. omega arith),
      ne_eqb (abstract_byte ty) 0x62 (λ e. omega arith),
      read,
    ) refl

heap_concrete : (index : ℕ) (piece rest : List ℕ) → IsSigned 33 (pos index) piece → heap_type_at (piece ++ rest) ≡ Ok (Concrete index, rest)
unfolding heap_type_at
heap_concrete index piece rest h =
    let begins = positive_begins 33 index piece h in
    let front : byte_at (piece ++ rest) ≡ Ok (begins.head, begins.tail ++ rest) = ap
    (λ (bytes : List ℕ). byte_at (bytes ++ rest)) begins.whole ∙ rw (lt-ltb begins.head 256 begins.test.0) refl in
    rw (front, begins.test.1, type_index_decodes.complete index piece rest h) refl

heap_complete : (x : HeapType) (piece rest : List ℕ) → IsHeapType x piece → heap_type_at (piece ++ rest) ≡ Ok (x, rest)
unfolding heap_type_at
heap_complete (Abstract false ty) piece rest h = ap (λ (bytes : List ℕ). heap_type_at (bytes ++ rest)) h ∙ heap_alone ty rest
heap_complete (Abstract true ty) piece rest h =
    ap heap_type_at (tagged_read 0x65 rest h) ∙ rw (abstract_decodes.complete ty h.second rest h.is_second) refl
heap_complete (Concrete index) piece rest h = heap_concrete index piece rest h
heap_complete (Exact index) piece rest h =
    ap heap_type_at (tagged_read 0x62 rest h) ∙ rw ((unsigned_decodes 32).complete index h.second rest h.is_second) refl

pub heap_decodes : Decodes IsHeapType heap_type_at
heap_decodes = record { sound = heap_sound; complete = heap_complete }

-- reference types
ref_sound : (bytes : List ℕ) (x : RefType) (rest : List ℕ) → ref_type_at bytes ≡ Ok (x, rest) → Front (IsRefType x) bytes rest
unfolding ref_type_at
ref_sound bytes x rest e = step _ _ _ e (λ byte first e.
    branch _ _ _ _ e (λ is e. tagged_sound IsRefType (λ heap. record { nullable = true; heap_type = heap }) 0x63 heap_decodes
    (λ y piece h. IsRefType.full h) bytes byte x rest first is e) (λ is_not e.
    branch _ _ _ _ e (λ is e. tagged_sound IsRefType (λ heap. record { nullable = false; heap_type = heap }) 0x64 heap_decodes
    (λ y piece h. IsRefType.full h) bytes byte x rest first is e) (λ is_not e.
    mapped_sound IsRefType (λ ty. record { nullable = true; heap_type = Abstract false ty }) abstract_decodes
    (λ y piece h. IsRefType.short refl h) bytes x rest e)))

ref_alone : (ty : AbstractHeapType) (rest : List ℕ)
    → ref_type_at (abstract_byte ty ∷ rest) ≡ Ok (record { nullable = true; heap_type = Abstract false ty }, rest)
unfolding ref_type_at
ref_alone ty rest =
    let within = abstract_within ty in
    let low : 0x69 ≤ abstract_byte ty = within.0 in
    let high : abstract_byte ty ≤ 0x74 = within.1 in
    let read : abstract_at (abstract_byte ty ∷ rest) ≡ Ok (ty, rest) = abstract_decodes.complete ty (abstract_byte ty ∷ []) rest refl in
    rw (
      lt-ltb (abstract_byte ty) 256 (omega arith),
      ne_eqb (abstract_byte ty) 0x63 (λ e. omega arith),
      ne_eqb (abstract_byte ty) 0x64
          (λ e. omega arith),
      read,
    ) refl

ref_full : (nullable : Bool) (heap : HeapType) (piece rest : List ℕ) → Joined (IsByte (null_byte nullable)) (IsHeapType heap) piece
    → ref_type_at (piece ++ rest) ≡ Ok (record { nullable = nullable; heap_type = heap }, rest)
unfolding ref_type_at
ref_full true heap piece rest h = ap ref_type_at (tagged_read 0x63 rest h) ∙ rw (heap_decodes.complete heap h.second rest h.is_second) refl
ref_full false heap piece rest h = ap ref_type_at (tagged_read 0x64 rest h) ∙ rw (heap_decodes.complete heap h.second rest h.is_second) refl

ref_short : (nullable : Bool) (heap : HeapType) (piece rest : List ℕ) → nullable ≡ true → IsAbstractAlone heap piece
    → ref_type_at (piece ++ rest) ≡ Ok (record { nullable = nullable; heap_type = heap }, rest)
ref_short true (Abstract false ty) piece rest e h = ap (λ (bytes : List ℕ). ref_type_at (bytes ++ rest)) h ∙ ref_alone ty rest
ref_short true (Abstract true ty) piece rest e h = absurd h
ref_short true (Concrete index) piece rest e h = absurd h
ref_short true (Exact index) piece rest e h = absurd h
ref_short false heap piece rest e h = absurd cc

ref_complete : (x : RefType) (piece rest : List ℕ) → IsRefType x piece → ref_type_at (piece ++ rest) ≡ Ok (x, rest)
ref_complete x piece rest (IsRefType.full h) = ref_full x.nullable x.heap_type piece rest h
ref_complete x piece rest (IsRefType.short e h) = ref_short x.nullable x.heap_type piece rest e h

pub ref_decodes : Decodes IsRefType ref_type_at
ref_decodes = record { sound = ref_sound; complete = ref_complete }

null_within : (b : Bool) → (0x63 ≤ null_byte b) × (null_byte b ≤ 0x64)
null_within true = (omega arith, omega arith)
null_within false = (omega arith, omega arith)

alone_begins : (heap : HeapType) (piece : List ℕ) → IsAbstractAlone heap piece → Begins (λ (b : ℕ). (0x63 ≤ b) × (b ≤ 0x74)) piece
alone_begins (Abstract false ty) piece h =
    let within = abstract_within ty in byte_begins _ (abstract_byte ty) piece (omega (arith, within.0), within.1) h
alone_begins (Abstract true ty) piece h = absurd h
alone_begins (Concrete index) piece h = absurd h
alone_begins (Exact index) piece h = absurd h

pub ref_begins : (x : RefType) (piece : List ℕ) → IsRefType x piece → Begins (λ (b : ℕ). (0x63 ≤ b) × (b ≤ 0x74)) piece
ref_begins x piece (IsRefType.full h) =
    let within = null_within x.nullable in tag_begins _ (null_byte x.nullable) _ piece (within.0, omega (arith, within.1)) h
ref_begins x piece (IsRefType.short e h) = alone_begins x.heap_type piece h

-- the bytes at the front of what begins with a byte
pub head_is : (Test : ℕ → Type 0) (piece rest : List ℕ) → (h : Begins Test piece) → h.head < 256
    → byte_at (piece ++ rest) ≡ Ok (h.head, h.tail ++ rest)
head_is Test piece rest h low = ap (λ (bytes : List ℕ). byte_at (bytes ++ rest)) h.whole ∙ rw (lt-ltb h.head 256 low) refl

-- value types
val_sound : (bytes : List ℕ) (x : ValType) (rest : List ℕ) → val_type_at bytes ≡ Ok (x, rest) → Front (IsValType x) bytes rest
unfolding val_type_at
val_sound bytes x rest e = step _ _ _ e (λ byte first e. or_branch _ _ _ _ _ e
    (λ is after.
    let form : IsValType x (byte.0 ∷ []) = item_holds (λ b x. IsValType x (b ∷ [])) number_rows
    (refl, (refl, (refl, (refl, (refl, tt))))) byte.0 x is in
    subst (Front (IsValType x) bytes) after
    (front_as (λ piece h. subst (IsValType x) (sym h) form) (byte_sound bytes byte.0 byte.1 first).0))
    (λ is_not e. mapped_sound IsValType Ref ref_decodes (λ y piece h. h) bytes x rest e))

val_ref : (reference : RefType) (piece rest : List ℕ) → IsRefType reference piece → val_type_at (piece ++ rest) ≡ Ok (Ref reference, rest)
unfolding val_type_at
val_ref reference piece rest h =
    let begins = ref_begins reference piece h in
    let low : begins.head ≤ 0x74 = begins.test.1 in
    let none : item_of number_rows begins.head ≡ None = item_none number_rows begins.head
    ((λ e. omega arith), ((λ e. omega arith), ((λ e. omega arith), ((λ e. omega arith), ((λ e. omega arith), tt))))) in
    rw (head_is _ piece rest begins (omega arith), none, ref_decodes.complete reference piece rest h) refl

val_complete : (x : ValType) (piece rest : List ℕ) → IsValType x piece → val_type_at (piece ++ rest) ≡ Ok (x, rest)
unfolding val_type_at
val_complete I32 piece rest h = ap (λ (bytes : List ℕ). val_type_at (bytes ++ rest)) h
val_complete I64 piece rest h = ap (λ (bytes : List ℕ). val_type_at (bytes ++ rest)) h
val_complete F32 piece rest h = ap (λ (bytes : List ℕ). val_type_at (bytes ++ rest)) h
val_complete F64 piece rest h = ap (λ (bytes : List ℕ). val_type_at (bytes ++ rest)) h
val_complete V128 piece rest h = ap (λ (bytes : List ℕ). val_type_at (bytes ++ rest)) h
val_complete (Ref reference) piece rest h = val_ref reference piece rest h

pub val_decodes : Decodes IsValType val_type_at
val_decodes = record { sound = val_sound; complete = val_complete }

abbrev val_head : ℕ → Type 0
val_head b = (b ≤ 0x7F) × ((b ≡ 0x77 → ⊥) × (b ≡ 0x78 → ⊥))

val_begins : (x : ValType) (piece : List ℕ) → IsValType x piece → Begins val_head piece
val_begins I32 piece h = byte_begins _ 0x7F piece (omega arith, ((λ e. omega arith), (λ e. omega arith))) h
val_begins I64 piece h = byte_begins _ 0x7E piece (omega arith, ((λ e. omega arith), (λ e. omega arith))) h
val_begins F32 piece h = byte_begins _ 0x7D piece (omega arith, ((λ e. omega arith), (λ e. omega arith))) h
val_begins F64 piece h = byte_begins _ 0x7C piece (omega arith, ((λ e. omega arith), (λ e. omega arith))) h
val_begins V128 piece h = byte_begins _ 0x7B piece (omega arith, ((λ e. omega arith), (λ e. omega arith))) h
val_begins (Ref reference) piece h = begins_as _ _ piece
    (λ b t. (omega (arith, t.1), ((λ e. omega (arith, t.1, e)), (λ e. omega (arith, t.1, e))))) (ref_begins reference piece h)

-- storage types
storage_sound : (bytes : List ℕ) (x : StorageType) (rest : List ℕ) → storage_type_at bytes ≡ Ok (x, rest)
    → Front (IsStorageType x) bytes rest
unfolding storage_type_at
storage_sound bytes x rest e = step _ _ _ e (λ byte first e. or_branch _ _ _ _ _ e
    (λ is after.
    let form : IsStorageType x (byte.0 ∷ []) = item_holds (λ b x. IsStorageType x (b ∷ [])) packed_rows (refl, (refl, tt)) byte.0 x is in
    subst (Front (IsStorageType x) bytes) after
    (front_as (λ piece h. subst (IsStorageType x) (sym h) form) (byte_sound bytes byte.0 byte.1 first).0))
    (λ is_not e. mapped_sound IsStorageType storage.Val val_decodes (λ y piece h. h) bytes x rest e))

storage_complete : (x : StorageType) (piece rest : List ℕ) → IsStorageType x piece → storage_type_at (piece ++ rest) ≡ Ok (x, rest)
unfolding storage_type_at
storage_complete storage.I8 piece rest h = ap (λ (bytes : List ℕ). storage_type_at (bytes ++ rest)) h
storage_complete storage.I16 piece rest h = ap (λ (bytes : List ℕ). storage_type_at (bytes ++ rest)) h
storage_complete (storage.Val value) piece rest h =
    let begins = val_begins value piece h in
    let low : begins.head ≤ 0x7F = begins.test.0 in
    let none : item_of packed_rows begins.head ≡ None = item_none packed_rows begins.head (begins.test.1.1, (begins.test.1.0, tt)) in
    rw (head_is _ piece rest begins (omega arith), none, val_decodes.complete value piece rest h) refl

pub storage_decodes : Decodes IsStorageType storage_type_at
storage_decodes = record { sound = storage_sound; complete = storage_complete }

-- fields and functions
flag_again : (b : Bool) (rest : List ℕ) → coded_at flag_rows (mutability_byte b ∷ rest) ≡ Ok (b, rest)
flag_again false rest = refl
flag_again true rest = refl

pub mutability_decodes : Decodes (λ (b : Bool). IsByte (mutability_byte b)) mutability_at
unfolding mutability_at
mutability_decodes = coded_decodes mutability_byte flag_rows (refl, (refl, tt)) flag_again

pub field_decodes : Decodes IsFieldType field_type_at
unfolding field_type_at
field_decodes = joined_decodes field_type (λ field. field.element_type) (λ field. field.mutable) (λ x y. refl) (λ x y. refl)
    (λ z. refl) storage_decodes mutability_decodes

pub func_decodes : Decodes IsFuncType func_type_at
unfolding func_type_at
func_decodes = joined_decodes func_type (λ function. function.params) (λ function. function.results) (λ x y. refl) (λ x y. refl)
    (λ z. refl) (list_decodes val_decodes) (list_decodes val_decodes)

-- array, struct and function types
inner_sound : (bytes : List ℕ) (x : CompositeInnerType) (rest : List ℕ) → inner_type_at bytes ≡ Ok (x, rest)
    → Front (IsInnerType x) bytes rest
unfolding inner_type_at
inner_sound bytes x rest e = step _ _ _ e (λ byte first e.
    branch _ _ _ _ e (λ is e. tagged_sound IsInnerType (λ field. inner.Array (record { 0 = field })) 0x5E field_decodes
    (λ y piece h. h) bytes byte x rest first is e) (λ is_not e.
    branch _ _ _ _ e (λ is e. tagged_sound IsInnerType (λ fields. inner.Struct (record { fields = fields })) 0x5F
    (list_decodes field_decodes) (λ y piece h. h) bytes byte x rest first is e) (λ is_not e.
    test_passed _ _ _ _ e (λ is e. tagged_sound IsInnerType inner.Func 0x60 func_decodes (λ y piece h. h) bytes byte x rest first is e))))

inner_complete : (x : CompositeInnerType) (piece rest : List ℕ) → IsInnerType x piece → inner_type_at (piece ++ rest) ≡ Ok (x, rest)
unfolding inner_type_at
inner_complete (inner.Array array) piece rest h =
    ap inner_type_at (tagged_read 0x5E rest h) ∙ rw (field_decodes.complete array.0 h.second rest h.is_second) refl
inner_complete (inner.Struct structure) piece rest h =
    ap inner_type_at (tagged_read 0x5F rest h) ∙ rw ((list_decodes field_decodes).complete structure.fields h.second rest h.is_second) refl
inner_complete (inner.Func function) piece rest h =
    ap inner_type_at (tagged_read 0x60 rest h) ∙ rw (func_decodes.complete function h.second rest h.is_second) refl

pub inner_decodes : Decodes IsInnerType inner_type_at
inner_decodes = record { sound = inner_sound; complete = inner_complete }

inner_begins : (x : CompositeInnerType) (piece : List ℕ) → IsInnerType x piece → Begins (λ (b : ℕ). (0x5E ≤ b) × (b ≤ 0x60)) piece
inner_begins (inner.Array array) piece h = tag_begins _ 0x5E _ piece (omega arith, omega arith) h
inner_begins (inner.Struct structure) piece h = tag_begins _ 0x5F _ piece (omega arith, omega arith) h
inner_begins (inner.Func function) piece h = tag_begins _ 0x60 _ piece (omega arith, omega arith) h

-- composite types
unshared_form : (x : CompositeInnerType) (piece : List ℕ) → IsInnerType x piece → IsCompositeType (composite_type false x) piece
unshared_form x piece h = record { first = []; second = piece; is_first = refl; is_second = h; whole = refl }

unshared_whole : (x : CompositeInnerType) (piece : List ℕ) → IsCompositeType (composite_type false x) piece → IsInnerType x piece
unshared_whole x piece h = subst (IsInnerType x) (sym (h.whole ∙ ap (λ (first : List ℕ). first ++ h.second) h.is_first)) h.is_second

composite_sound : (bytes : List ℕ) (x : CompositeType) (rest : List ℕ) → composite_type_at bytes ≡ Ok (x, rest)
    → Front (IsCompositeType x) bytes rest
unfolding composite_type_at
composite_sound bytes x rest e = step _ _ _ e (λ byte first e.
    branch _ _ _ _ e (λ is e. tagged_sound IsCompositeType (composite_type true) 0x65 inner_decodes
    (λ y piece h. h) bytes byte x rest first is e) (λ is_not e.
    mapped_sound IsCompositeType (composite_type false) inner_decodes unshared_form bytes x rest e))

composite_again : (shared : Bool) (x : CompositeInnerType) (piece rest : List ℕ) → IsCompositeType (composite_type shared x) piece
    → composite_type_at (piece ++ rest) ≡ Ok (composite_type shared x, rest)
unfolding composite_type_at
composite_again true x piece rest h =
    ap composite_type_at (tagged_read 0x65 rest h) ∙ rw (inner_decodes.complete x h.second rest h.is_second) refl
composite_again false x piece rest h =
    let alone = unshared_whole x piece h in
    let begins = inner_begins x piece alone in
    let high : begins.head ≤ 0x60 = begins.test.1 in
    rw (
      head_is _ piece rest begins (omega arith),
      ne_eqb begins.head 0x65
          (λ e. omega arith),
      inner_decodes.complete x piece rest alone,
    ) refl

pub composite_decodes : Decodes IsCompositeType composite_type_at
composite_decodes = record { sound = composite_sound; complete = λ x piece rest h. composite_again x.shared x.inner piece rest h }

composite_begins : (shared : Bool) (x : CompositeInnerType) (piece : List ℕ) → IsCompositeType (composite_type shared x) piece
    → Begins (λ (b : ℕ). (0x5E ≤ b) × (b ≤ 0x65)) piece
composite_begins true x piece h = tag_begins _ 0x65 _ piece (omega arith, omega arith) h
composite_begins false x piece h = begins_as _ _ piece (λ b t. (t.0, omega (arith, t.1))) (inner_begins x piece (unshared_whole x piece h))

-- supertypes
abbrev pub IsSplit : Option ℕ × List ℕ → List ℕ → Type 0
IsSplit supertypes = AreSupertypes supertypes.0 supertypes.1

split_form : (supertypes piece : List ℕ) → IsList (IsUnsigned 32) supertypes piece → IsSplit (split_first supertypes) piece
split_form [] piece h = record { none = λ e. refl; form = h }
split_form (first ∷ further) piece h = record { none = λ e. absurd cc; form = h }

split_again : (first : Option ℕ) (further : List ℕ) → (first ≡ None → further ≡ [])
    → split_first (option_to_list first ++ further) ≡ (first, further)
split_again None further none = rw (none refl) refl
split_again (Some first) further none = refl

pub supertypes_decode : Decodes IsSplit supertypes_at
unfolding supertypes_at
supertypes_decode = record {
  sound = λ bytes x rest e. mapped_sound IsSplit split_first (list_decodes (unsigned_decodes 32)) split_form bytes x rest e;
  complete = λ x piece rest h.
      rw ((list_decodes (unsigned_decodes 32)).complete (option_to_list x.0 ++ x.1) piece rest h.form)
      (ap (λ (parts : Option ℕ × List ℕ). Ok (parts, rest)) (split_again x.0 x.1 h.none));
}

-- the first supertype is read, then the further ones
abbrev mapped : Reading (List ℕ) → Reading (Option ℕ × List ℕ)
mapped read = read >>= (λ supertypes. Ok (split_first supertypes.0, supertypes.1))

split_after : (first : ℕ) (read : Reading (List ℕ)) → mapped (read >>= (λ further. Ok (first ∷ further.0, further.1)))
    ≡ (read >>= (λ further. Ok ((Some first, further.0), further.1)))
split_after first (Ok further) = refl
split_after first (Err fault) = refl

regrouped : (read : Reading ℕ) (count : ℕ) → mapped (read >>= (λ first. each_at (unsigned_at 32) count first.1
    >>= (λ further. Ok (first.0 ∷ further.0, further.1))))
    ≡ (read >>= (λ first. each_at (unsigned_at 32) count first.1 >>= (λ further. Ok ((Some first.0, further.0), further.1))))
regrouped (Ok first) count = split_after first.0 (each_at (unsigned_at 32) count first.1)
regrouped (Err fault) count = refl

pub none_split : (bytes rest : List ℕ) → unsigned_at 32 bytes ≡ Ok (0, rest) → supertypes_at bytes ≡ Ok ((None, []), rest)
unfolding supertypes_at list_at each_at
none_split bytes rest count = rw count refl

pub first_split : (bytes : List ℕ) (count : ℕ) (rest : List ℕ) → unsigned_at 32 bytes ≡ Ok (count, rest) → (count ≡ 0 → ⊥)
    → supertypes_at bytes ≡ (unsigned_at 32 rest >>= (λ first. each_at (unsigned_at 32) (count - 1) first.1
    >>= (λ further. Ok ((Some first.0, further.0), further.1))))
unfolding supertypes_at list_at each_at
first_split bytes count rest read some =
    let k : count ≡ suc (count - 1) = omega (arith, some) in
    rw (read ∙ ap (λ (n : ℕ). Ok (n, rest)) k) (regrouped (unsigned_at 32 rest) (count - 1))

pub count_fails : (e : ReadError) (bytes : List ℕ) → Fails e (unsigned_at 32 bytes) → Fails e (supertypes_at bytes)
unfolding supertypes_at list_at
count_fails error.Memory bytes h = tt
count_fails (error.Malformed fault) bytes h = rw h refl

pub first_fails : (e : ReadError) (bytes : List ℕ) (count : ℕ) (rest : List ℕ) → unsigned_at 32 bytes ≡ Ok (count, rest)
    → (count ≡ 0 → ⊥) → Fails e (unsigned_at 32 rest) → Fails e (supertypes_at bytes)
first_fails error.Memory bytes count rest read some h = tt
first_fails (error.Malformed fault) bytes count rest read some h = first_split bytes count rest read some ∙ rw h refl

pub further_fails : (e : ReadError) (bytes : List ℕ) (count : ℕ) (rest : List ℕ) (first : ℕ) (more : List ℕ)
    → unsigned_at 32 bytes ≡ Ok (count, rest) → (count ≡ 0 → ⊥) → unsigned_at 32 rest ≡ Ok (first, more)
    → Fails e (each_at (unsigned_at 32) (count - 1) more) → Fails e (supertypes_at bytes)
further_fails error.Memory bytes count rest first more read some next h = tt
further_fails (error.Malformed fault) bytes count rest first more read some next h =
    first_split bytes count rest read some ∙ rw (next, h) refl

-- declared types
abbrev IsParts : (Option ℕ × List ℕ) × CompositeType → List ℕ → Type 0
IsParts parts = Joined (IsSplit parts.0) (IsCompositeType parts.1)

declared_decodes : Decodes IsParts declared_at
declared_decodes = joined_decodes (λ supertypes composite. (supertypes, composite)) (λ parts. parts.0) (λ parts. parts.1) (λ x y. refl)
    (λ x y. refl) (λ z. refl) supertypes_decode composite_decodes

declared_sound : (bytes : List ℕ) (x : DeclaredType) (rest : List ℕ) → declared_type_at bytes ≡ Ok (x, rest)
    → Front (IsDeclaredType x) bytes rest
unfolding declared_type_at
declared_sound bytes x rest e = step _ _ _ e (λ byte first e.
    branch _ _ _ _ e (λ is e. tagged_sound IsDeclaredType (declared_type true) 0x4F declared_decodes
    (λ y piece h. IsDeclaredType.full h) bytes byte x rest first is e) (λ is_not e.
    branch _ _ _ _ e (λ is e. tagged_sound IsDeclaredType (declared_type false) 0x50 declared_decodes
    (λ y piece h. IsDeclaredType.full h) bytes byte x rest first is e) (λ is_not e.
    mapped_sound IsDeclaredType (λ composite. declared_type true ((None, []), composite)) composite_decodes
    (λ y piece h. IsDeclaredType.short refl refl refl h) bytes x rest e)))

declared_full : (is_final : Bool) (parts : (Option ℕ × List ℕ) × CompositeType) (piece rest : List ℕ)
    → Joined (IsByte (final_byte is_final)) (IsParts parts) piece
    → declared_type_at (piece ++ rest) ≡ Ok (declared_type is_final parts, rest)
unfolding declared_type_at
declared_full true parts piece rest h =
    ap declared_type_at (tagged_read 0x4F rest h) ∙ rw (declared_decodes.complete parts h.second rest h.is_second) refl
declared_full false parts piece rest h =
    ap declared_type_at (tagged_read 0x50 rest h) ∙ rw (declared_decodes.complete parts h.second rest h.is_second) refl

declared_short : (is_final : Bool) (supertype : Option ℕ) (further : List ℕ) (composite : CompositeType) (piece rest : List ℕ)
    → is_final ≡ true → supertype ≡ None → further ≡ [] → IsCompositeType composite piece
    → declared_type_at (piece ++ rest) ≡ Ok (declared_type is_final ((supertype, further), composite), rest)
unfolding declared_type_at
declared_short true None [] composite piece rest m n o h =
    let begins = composite_begins composite.shared composite.inner piece h in
    let low : 0x5E ≤ begins.head = begins.test.0 in
    let high : begins.head ≤ 0x65 = begins.test.1 in
    rw (
      head_is _ piece rest begins (omega arith),
      ne_eqb begins.head 0x4F (λ e. omega arith),
      ne_eqb begins.head 0x50
          (λ e. omega arith),
      composite_decodes.complete composite piece rest h,
    ) refl
declared_short true None (next ∷ further) composite piece rest m n o h = absurd cc
declared_short true (Some index) further composite piece rest m n o h = absurd cc
declared_short false supertype further composite piece rest m n o h = absurd cc

declared_complete : (x : DeclaredType) (piece rest : List ℕ) → IsDeclaredType x piece → declared_type_at (piece ++ rest) ≡ Ok (x, rest)
declared_complete x piece rest (IsDeclaredType.full h) =
    declared_full x.sub_type.is_final ((x.sub_type.supertype, x.further_supertypes), x.sub_type.composite_type) piece rest h
declared_complete x piece rest (IsDeclaredType.short m n o h) =
    declared_short x.sub_type.is_final x.sub_type.supertype x.further_supertypes x.sub_type.composite_type piece rest m n o h

pub declared_type_decodes : Decodes IsDeclaredType declared_type_at
declared_type_decodes = record { sound = declared_sound; complete = declared_complete }

final_within : (b : Bool) → (0x4F ≤ final_byte b) × (final_byte b ≤ 0x50)
final_within true = (omega arith, omega arith)
final_within false = (omega arith, omega arith)

declared_begins : (x : DeclaredType) (piece : List ℕ) → IsDeclaredType x piece → Begins (λ (b : ℕ). (0x4F ≤ b) × (b ≤ 0x65)) piece
declared_begins x piece (IsDeclaredType.full h) =
    let t = x.sub_type in
    let within = final_within t.is_final in tag_begins _ (final_byte t.is_final) _ piece (within.0, omega (arith, within.1)) h
declared_begins x piece (IsDeclaredType.short m n o h) =
    let composite = x.sub_type.composite_type in
    begins_as _ _ piece (λ b t. (omega (arith, t.0), t.1)) (composite_begins composite.shared composite.inner piece h)

-- recursive groups
group_sound : (bytes : List ℕ) (x : List DeclaredType) (rest : List ℕ) → declared_group_at bytes ≡ Ok (x, rest)
    → Front (IsDeclaredGroup x) bytes rest
unfolding declared_group_at
group_sound bytes x rest e = step _ _ _ e (λ byte first e.
    branch _ _ _ _ e (λ is e. front_as (λ piece h. IsDeclaredGroup.full h)
    (front_joined (tag_front 0x4E bytes byte first is) ((list_decodes declared_type_decodes).sound byte.1 x rest e))) (λ is_not e.
    mapped_sound IsDeclaredGroup (λ t. t ∷ []) declared_type_decodes (λ y piece h. IsDeclaredGroup.short y refl h) bytes x rest e))

group_complete : (x : List DeclaredType) (piece rest : List ℕ) → IsDeclaredGroup x piece
    → declared_group_at (piece ++ rest) ≡ Ok (x, rest)
unfolding declared_group_at
group_complete x piece rest (IsDeclaredGroup.full h) =
    ap declared_group_at (tagged_read 0x4E rest h) ∙ rw ((list_decodes declared_type_decodes).complete x h.second rest h.is_second) refl
group_complete x piece rest (IsDeclaredGroup.short t e h) =
    let begins = declared_begins t piece h in
    let low : 0x4F ≤ begins.head = begins.test.0 in
    let high : begins.head ≤ 0x65 = begins.test.1 in
    rw (
      head_is _ piece rest begins (omega arith),
      ne_eqb begins.head 0x4E (λ e. omega arith),
      declared_type_decodes.complete t piece rest h,
    )
    (ap (λ (group : List DeclaredType). Ok (group, rest)) (sym e))

pub group_decodes : Decodes IsDeclaredGroup declared_group_at
group_decodes = record { sound = group_sound; complete = group_complete }

-- a type with at most one supertype, and a group of such types
abbrev pub without_further : SubType → DeclaredType
without_further t = with_further t []

pub plain_declared : (t : SubType) (piece : List ℕ) → IsSubType t piece → IsDeclaredType (without_further t) piece
plain_declared t piece (IsSubType.full h) = IsDeclaredType.full (record {
  first = h.first;
  second = h.second;
  is_first = h.is_first;
  is_second = record {
    first = h.is_second.first;
    second = h.is_second.second;
    is_first = record {
      none = λ e. refl;
      form = subst (λ (supertypes : List ℕ). IsList (IsUnsigned 32) supertypes h.is_second.first)
          (sym (append-nil (option_to_list t.supertype))) h.is_second.is_first;
    };
    is_second = h.is_second.is_second;
    whole = h.is_second.whole;
  };
  whole = h.whole;
})
plain_declared t piece (IsSubType.short m n h) = IsDeclaredType.short m n refl h

pub plain_group : (group : List SubType) (piece : List ℕ) → IsRecGroup group piece → IsDeclaredGroup (map without_further group) piece
plain_group group piece (IsRecGroup.full h) = IsDeclaredGroup.full (record {
  first = h.first;
  second = h.second;
  is_first = h.is_first;
  is_second = list_forth without_further IsDeclaredType IsSubType plain_declared group h.second h.is_second;
  whole = h.whole;
})
plain_group group piece (IsRecGroup.short t alone h) =
    IsDeclaredGroup.short (without_further t) (ap (map without_further) alone) (plain_declared t piece h)

-- further supertypes without a first are never spelled
pub never_further : (t : SubType) (further piece : List ℕ) → t.supertype ≡ None → (further ≡ [] → ⊥)
    → IsDeclaredType (with_further t further) piece → ⊥
never_further t further piece none some (IsDeclaredType.full h) = some (h.is_second.is_first.none none)
never_further t further piece none some (IsDeclaredType.short m n o h) = some o
