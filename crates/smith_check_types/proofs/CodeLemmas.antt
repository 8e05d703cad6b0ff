-- A rolled group can be read again from its numbers.
use Rattle.std.proofs.Common.{◌≡◌, ℕ, zero, suc, ◌+◌, Bool, true, false, List, [], ◌∷◌, ◌++◌, Option, Some, None, length, map, refl, sym}
use Rattle.std.proofs.Common.{ap, ◌∙◌, cond, append_assoc}
use Rattle.std.specs.Prelude.{◌==◌}
use Rattle.std.specs.List.{flat_map}
use Rattle.smith_types.specs.Syntax.value_type.AbstractHeapType.{AbstractHeapType}
use Rattle.smith_types.specs.Syntax.value_type.AbstractHeapType.TheVariants as heap
use Rattle.smith_types.specs.Syntax.value_type.HeapType.{HeapType}
use Rattle.smith_types.specs.Syntax.value_type.HeapType.TheVariants.{Abstract, Concrete, Exact}
use Rattle.smith_types.specs.Syntax.value_type.RefType.{RefType}
use Rattle.smith_types.specs.Syntax.value_type.ValType.{ValType}
use Rattle.smith_types.specs.Syntax.value_type.ValType.TheVariants.{I32, I64, F32, F64, V128, Ref}
use Rattle.smith_types.specs.Syntax.composite_type.StorageType.{StorageType}
use Rattle.smith_types.specs.Syntax.composite_type.StorageType.TheVariants.{I8, I16, Val}
use Rattle.smith_types.specs.Syntax.composite_type.FieldType.{FieldType}
use Rattle.smith_types.specs.Syntax.composite_type.CompositeInnerType.{CompositeInnerType}
use Rattle.smith_types.specs.Syntax.composite_type.CompositeInnerType.TheVariants.{Array, Func, Struct}
use Rattle.smith_types.specs.Syntax.composite_type.SubType.{SubType}
use Rattle.smith_check_types.specs.Codes.{flag_code, abstract_code, heap_codes, val_codes, storage_codes, field_codes, vals_codes}
use Rattle.smith_check_types.specs.Codes.{fields_codes, inner_codes, supertype_codes, type_codes, group_codes}

-- a value read from numbers, and the numbers after it
pub record Read (A : Type 0) : Type 0 where
  pub value : A
  pub rest : List ℕ

abbrev pub reading : {A : Type 0} → A → List ℕ → Read A
reading value rest = record { value = value; rest = rest }

-- what is read of the numbers of a value, and more, is the value
abbrev pub IsReader : {A : Type 0} → (A → List ℕ) → (List ℕ → Read A) → Type 0
IsReader {A} codes read = (x : A) (rest : List ℕ) → read (codes x ++ rest) ≡ reading x rest

-- two values whose numbers begin one list are equal, and so is what follows
pub read_apart : {A : Type 0} (codes : A → List ℕ) (read : List ℕ → Read A) → IsReader codes read
    → (x y : A) (r s : List ℕ) → codes x ++ r ≡ codes y ++ s → reading x r ≡ reading y s
read_apart codes read reads x y r s same = sym (reads x r) ∙ ap read same ∙ reads y s

-- the value that a number stands for, one of a list
abbrev pub chosen : {A : Type 0} → A → List A → ℕ → A
chosen other [] n = other
chosen other (x ∷ xs) zero = x
chosen other (x ∷ xs) (suc n) = chosen other xs n

abbrev pub flag_of : ℕ → Bool
flag_of = chosen false (false ∷ true ∷ [])

abbrev pub abstract_of : ℕ → AbstractHeapType
abstract_of = chosen heap.Func (heap.Func ∷ heap.Extern ∷ heap.Any ∷ heap.None ∷ heap.NoExtern ∷ heap.NoFunc ∷ heap.Eq ∷ heap.Struct
    ∷ heap.Array ∷ heap.I31 ∷ heap.Exn ∷ heap.NoExn ∷ [])

pub flag_again : (b : Bool) → flag_of (flag_code b) ≡ b
flag_again true = refl
flag_again false = refl

pub abstract_again : (ty : AbstractHeapType) → abstract_of (abstract_code ty) ≡ ty
abstract_again heap.Func = refl
abstract_again heap.Extern = refl
abstract_again heap.Any = refl
abstract_again heap.None = refl
abstract_again heap.NoExtern = refl
abstract_again heap.NoFunc = refl
abstract_again heap.Eq = refl
abstract_again heap.Struct = refl
abstract_again heap.Array = refl
abstract_again heap.I31 = refl
abstract_again heap.Exn = refl
abstract_again heap.NoExn = refl

abbrev pub empty_heap : Read HeapType
empty_heap = reading (Concrete 0) []

abbrev pub read_heap_after : ℕ → List ℕ → Read HeapType
read_heap_after zero (shared ∷ ty ∷ rest) = reading (Abstract (flag_of shared) (abstract_of ty)) rest
read_heap_after (suc zero) (index ∷ rest) = reading (Concrete index) rest
read_heap_after (suc (suc n)) (index ∷ rest) = reading (Exact index) rest
read_heap_after _ _ = empty_heap

abbrev pub read_heap : List ℕ → Read HeapType
read_heap (n ∷ rest) = read_heap_after n rest
read_heap [] = empty_heap

pub heap_again : IsReader heap_codes read_heap
heap_again (Abstract shared ty) rest = ap (λ s. reading (Abstract s (abstract_of (abstract_code ty))) rest) (flag_again shared)
    ∙ ap (λ a. reading (Abstract shared a) rest) (abstract_again ty)
heap_again (Concrete index) rest = refl
heap_again (Exact index) rest = refl

-- a storage type, of which value types are some
abbrev pub read_ref : List ℕ → Read StorageType
read_ref (nullable ∷ rest) =
    let found = read_heap rest in reading (Val (Ref (record { nullable = flag_of nullable; heap_type = found.value }))) found.rest
read_ref [] = reading I8 []

abbrev pub numbered : List StorageType
numbered = Val I32 ∷ Val I64 ∷ Val F32 ∷ Val F64 ∷ Val V128 ∷ I8 ∷ I8 ∷ I16 ∷ []

abbrev pub read_storage : List ℕ → Read StorageType
read_storage (n ∷ rest) = cond (n == 5) (read_ref rest) (reading (chosen I8 numbered n) rest)
read_storage [] = reading I8 []

pub ref_again : (reference : RefType) (rest : List ℕ) → read_storage (val_codes (Ref reference) ++ rest) ≡ reading (Val (Ref reference))
    rest
ref_again reference rest =
    ap (λ (found : Read HeapType). reading
    (Val (Ref (record { nullable = flag_of (flag_code reference.nullable); heap_type = found.value }))) found.rest)
    (heap_again reference.heap_type rest)
    ∙ ap (λ n. reading (Val (Ref (record reference { nullable = n }))) rest) (flag_again reference.nullable)

pub storage_again : IsReader storage_codes read_storage
storage_again I8 rest = refl
storage_again I16 rest = refl
storage_again (Val I32) rest = refl
storage_again (Val I64) rest = refl
storage_again (Val F32) rest = refl
storage_again (Val F64) rest = refl
storage_again (Val V128) rest = refl
storage_again (Val (Ref reference)) rest = ref_again reference rest

abbrev pub value_in : StorageType → ValType
value_in (Val value) = value
value_in I8 = I32
value_in I16 = I32

abbrev pub read_value : List ℕ → Read ValType
read_value numbers = let found = read_storage numbers in reading (value_in found.value) found.rest

pub value_again : IsReader val_codes read_value
value_again value rest = ap (λ (found : Read StorageType). reading (value_in found.value) found.rest) (storage_again (Val value) rest)

abbrev pub read_field : List ℕ → Read FieldType
read_field (mutable ∷ rest) =
    let found = read_storage rest in reading (record { element_type = found.value; mutable = flag_of mutable }) found.rest
read_field [] = reading (record { element_type = I8; mutable = false }) []

pub field_again : IsReader field_codes read_field
field_again field rest =
    ap (λ (found : Read StorageType). reading (record { element_type = found.value; mutable = flag_of (flag_code field.mutable) })
    found.rest) (storage_again field.element_type rest)
    ∙ ap (λ m. reading (record field { mutable = m }) rest) (flag_again field.mutable)

-- a list of a known length
abbrev pub read_many : {A : Type 0} → (List ℕ → Read A) → ℕ → List ℕ → Read (List A)
read_many read zero numbers = reading [] numbers
read_many read (suc n) numbers =
    let first = read numbers in let others = read_many read n first.rest in reading (first.value ∷ others.value) others.rest

pub many_again : {A : Type 0} (codes : A → List ℕ) (read : List ℕ → Read A) → IsReader codes read
    → (xs : List A) (rest : List ℕ) → read_many read (length xs) (flat_map codes xs ++ rest) ≡ reading xs rest
many_again codes read reads [] rest = refl
many_again {A = A} codes read reads (x ∷ xs) rest =
    ap (λ numbers. read_many read (suc (length xs)) numbers) (append_assoc (codes x) (flat_map codes xs) rest)
    ∙ ap (λ (first : Read A). let others = read_many read (length xs) first.rest in reading (first.value ∷ others.value) others.rest)
    (reads x (flat_map codes xs ++ rest))
    ∙ ap (λ (others : Read (List A)). reading (x ∷ others.value) others.rest) (many_again codes read reads xs rest)

abbrev pub read_list : {A : Type 0} → (List ℕ → Read A) → List ℕ → Read (List A)
read_list read (n ∷ rest) = read_many read n rest
read_list read [] = reading [] []

pub values_again : IsReader vals_codes (read_list read_value)
values_again = many_again val_codes read_value value_again

pub fields_again : IsReader fields_codes (read_list read_field)
fields_again = many_again field_codes read_field field_again

abbrev pub read_func : List ℕ → Read CompositeInnerType
read_func numbers =
    let params = read_list read_value numbers in let results = read_list read_value params.rest in
    reading (Func (record { params = params.value; results = results.value })) results.rest

abbrev pub read_inner_after : ℕ → List ℕ → Read CompositeInnerType
read_inner_after zero rest = let found = read_field rest in reading (Array (record { 0 = found.value })) found.rest
read_inner_after (suc zero) rest = read_func rest
read_inner_after (suc (suc n)) rest = let found = read_list read_field rest in reading (Struct (record { fields = found.value })) found.rest

abbrev pub read_inner : List ℕ → Read CompositeInnerType
read_inner (n ∷ rest) = read_inner_after n rest
read_inner [] = read_func []

pub inner_again : IsReader inner_codes read_inner
inner_again (Array array) rest = ap (λ (found : Read FieldType). reading (Array (record { 0 = found.value })) found.rest)
    (field_again array.0 rest)
inner_again (Func function) rest =
    ap read_func (append_assoc (vals_codes function.params) (vals_codes function.results) rest)
    ∙ ap (λ (params : Read (List ValType)). let results = read_list read_value params.rest in
    reading (Func (record { params = params.value; results = results.value })) results.rest)
    (values_again function.params (vals_codes function.results ++ rest))
    ∙ ap (λ (results : Read (List ValType)). reading (Func (record { params = function.params; results = results.value })) results.rest)
    (values_again function.results rest)
inner_again (Struct structure) rest = ap (λ (found : Read (List FieldType)). reading (Struct (record { fields = found.value })) found.rest)
    (fields_again structure.fields rest)

abbrev pub read_supertype_after : ℕ → List ℕ → Read (Option ℕ)
read_supertype_after zero rest = reading None rest
read_supertype_after (suc n) (index ∷ rest) = reading (Some index) rest
read_supertype_after (suc n) [] = reading None []

abbrev pub read_supertype : List ℕ → Read (Option ℕ)
read_supertype (n ∷ rest) = read_supertype_after n rest
read_supertype [] = reading None []

pub supertype_again : IsReader supertype_codes read_supertype
supertype_again None rest = refl
supertype_again (Some index) rest = refl

abbrev pub with_inner : Bool → Option ℕ → Bool → Read CompositeInnerType → Read SubType
with_inner is_final supertype shared found =
    reading (record { is_final = is_final; supertype = supertype; composite_type = record { inner = found.value; shared = shared } })
    found.rest

abbrev pub read_composite : Bool → Option ℕ → List ℕ → Read SubType
read_composite is_final supertype (shared ∷ rest) = with_inner is_final supertype (flag_of shared) (read_inner rest)
read_composite is_final supertype [] = with_inner is_final supertype false (read_inner [])

abbrev pub read_type : List ℕ → Read SubType
read_type (is_final ∷ rest) = let found = read_supertype rest in read_composite (flag_of is_final) found.value found.rest
read_type [] = read_composite false None []

pub type_again : IsReader type_codes read_type
type_again t rest =
    let shared = flag_code t.composite_type.shared in
    let inner = inner_codes t.composite_type.inner in
    ap (λ numbers. read_type (flag_code t.is_final ∷ numbers)) (append_assoc (supertype_codes t.supertype) (shared ∷ inner) rest)
    ∙ ap (λ (found : Read (Option ℕ)). read_composite (flag_of (flag_code t.is_final)) found.value found.rest)
    (supertype_again t.supertype (shared ∷ inner ++ rest))
    ∙ ap (with_inner (flag_of (flag_code t.is_final)) t.supertype (flag_of shared)) (inner_again t.composite_type.inner rest)
    ∙ ap (λ f. with_inner f t.supertype (flag_of shared) (reading t.composite_type.inner rest)) (flag_again t.is_final)
    ∙ ap (λ s. with_inner t.is_final t.supertype s (reading t.composite_type.inner rest)) (flag_again t.composite_type.shared)

-- groups of the same numbers are the same
pub group_codes_apart : (a b : List SubType) → group_codes a ≡ group_codes b → a ≡ b
group_codes_apart [] [] same = refl
group_codes_apart [] (t ∷ b) same = cc
group_codes_apart (t ∷ a) [] same = cc
group_codes_apart (t ∷ a) (u ∷ b) same =
    let both = read_apart type_codes read_type type_again t u (group_codes a) (group_codes b) same in
    let first : t ≡ u = ap (λ (found : Read SubType). found.value) both in
    let others : group_codes a ≡ group_codes b = ap (λ (found : Read SubType). found.rest) both in
    let rest = group_codes_apart a b others in cc
