-- The groups that are drawn from bytes that spell types and functions, and the bytes left.
use Rattle.smith_spell_examples.proofs.Common.{[], ap, Bool, Concrete, false, GroupedTypes, GroupsFit, I32, Joined, List, Ref, refl}
use Rattle.smith_spell_examples.proofs.Common.{space_of, SpellsAnyByte, SpellsMember, subst, SubType, sym, true, Val, ℕ, ◌+◌, ◌∙◌, ◌≡◌}
use Rattle.std.proofs.Common.{length, ◌*◌, ◌^◌}
use Rattle.std.specs.Prelude.{fold, if◌then◌else◌}
use Rattle.std.proofs.Math.Dec.{T, eqb, eqb_refl}
use Rattle.smith_bytes.specs.Spelling.{SpellsNone}
use Rattle.smith_types.specs.Expressions.{Context}
use Rattle.smith_types.specs.Syntax.value_type.HeapType.{HeapType}
use Rattle.smith_types.specs.Syntax.value_type.HeapType.TheVariants.{Abstract, Exact}
use Rattle.smith_types.specs.Syntax.value_type.ValType.{ValType}
use Rattle.smith_types.specs.Syntax.value_type.ValType.TheVariants.{F32, F64, I64, V128}
use Rattle.smith_types.specs.Syntax.composite_type.StorageType.{StorageType}
use Rattle.smith_types.specs.Syntax.composite_type.StorageType.TheVariants.{I16, I8}
use Rattle.smith_types.specs.Syntax.composite_type.FieldType.{FieldType}
use Rattle.smith_types.specs.Syntax.composite_type.CompositeInnerType.{CompositeInnerType}
use Rattle.smith_types.specs.Syntax.composite_type.CompositeInnerType.TheVariants.{Array, Func, Struct}
use Rattle.smith_config.specs.declared.config.Config.{Config}
use Rattle.smith_config.specs.Features.{features_of}
use Rattle.smith_config.specs.Sanitized.{IsSanitized}
use Rattle.smith_draw_types.specs.RecGroups.{types_at}
use Rattle.smith_draw_types.proofs.SpelledGroupLemmas.{types_read}
use Rattle.smith_draw_types.specs.SpelledParts.{SpellsNoTag, SpellsFuncs}

-- the bytes after the groups
abbrev pub SpellsAfterGroups : Config → List SubType → List ℕ → List ℕ → Type 0
SpellsAfterGroups config types funcs = Joined (SpellsNone config.max_imports)
    (Joined SpellsAnyByte (Joined (SpellsNoTag config types) (SpellsFuncs config types funcs)))

-- no functions exist
abbrev pub no_functions : Config → Context
no_functions config = record {
  features = features_of config;
  types = [];
  funcs = [];
  globals = [];
  imported_funcs = 0;
  imported_globals = 0;
  visible = 0;
}

pub member_read : (config : Config) (groups : List (List SubType)) (funcs bytes left : List ℕ) (space : GroupedTypes) → IsSanitized config
    → config.min_types ≡ 0 → GroupsFit config [] groups
    → types_at config (no_functions config) (space_of []) bytes ≡ (space, left) → SpellsMember config groups funcs bytes
    → (space ≡ space_of groups) × SpellsAfterGroups config (space_of groups).types funcs left
unfolding SpellsMember
member_read config groups funcs bytes left space sanitized least fit drawn h =
    let read = types_read config (no_functions config) refl groups h.first h.second sanitized least fit h.is_first in
    let same : (space, left) ≡ (space_of groups, h.second) =
    sym drawn ∙ (ap (λ piece. types_at config (no_functions config) (space_of []) piece) h.whole ∙ read) in
    let following : left ≡ h.second = ap (λ pair. pair.1) same in
    (ap (λ pair. pair.0) same, subst (SpellsAfterGroups config (space_of groups).types funcs) (sym following) h.is_second)

-- a number that distinguishes the heap types of the examples
abbrev heap_number : HeapType → ℕ
heap_number (Abstract shared ty) = 0
heap_number (Exact index) = 1
heap_number (Concrete index) = 2 + index

abbrev value_number : ValType → ℕ
value_number I32 = 0
value_number I64 = 1
value_number F32 = 2
value_number F64 = 3
value_number V128 = 4
value_number (Ref reference) = 5 + 2 * heap_number reference.heap_type + (if reference.nullable then 1 else 0)

abbrev storage_number : StorageType → ℕ
storage_number I8 = 0
storage_number I16 = 1
storage_number (Val value) = 2 + value_number value

abbrev field_number : FieldType → ℕ
field_number field = 2 * storage_number field.element_type + (if field.mutable then 1 else 0)

abbrev inner_number : CompositeInnerType → ℕ
inner_number (Array array) = 3 * field_number array.0
inner_number (Func function) = 3 * fold (λ n value. 64 * n + (1 + value_number value))
    (fold (λ n value. 64 * n + (1 + value_number value)) 1 function.params) function.results + 1
inner_number (Struct structure) = 3 * fold (λ n field. 64 * n + (1 + field_number field)) 0 structure.fields + 2

abbrev type_number : SubType → ℕ
type_number t = 2 * inner_number t.composite_type.inner + (if t.is_final then 1 else 0)

abbrev pub number_of : GroupedTypes → ℕ
number_of space = fold (λ n t. 2 ^ 64 * n + (1 + type_number t)) (length space.groups) space.types

not_both : (answer : Bool) → T answer → answer ≡ false → ⊥
not_both true holds fails = cc fails
not_both false holds fails = holds

pub other_number : (space other : GroupedTypes) → eqb (number_of space) (number_of other) ≡ false → space ≡ other → ⊥
other_number space other apart same =
    let never : eqb (number_of other) (number_of other) ≡ false = subst (λ (s : GroupedTypes). eqb (number_of s) (number_of other) ≡ false)
    same apart in
    not_both (eqb (number_of other) (number_of other)) (eqb_refl (number_of other)) never
