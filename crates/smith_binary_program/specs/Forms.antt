-- The written forms that require a feature: the chapter Binary Format of the WebAssembly Core
-- Specification 3.0. The requirements are rules of this project.
use Rattle.std.specs.Prelude.{◌≡◌, ℕ, ◌⊎◌, false, IsTrue, None, List, [], ◌∷◌, All}
use Rattle.std.specs.declared.ops.Range.{Range}
use Rattle.smith_types.specs.Syntax.Features.{Features}
use Rattle.smith_binary_program.specs.Common.{Body, Code, Instr, ModuleParts, ValType}
use Rattle.smith_types.specs.Syntax.composite_type.SubType.{SubType}
use Rattle.smith_types.specs.Syntax.entity_type.GlobalType.{GlobalType}
use Rattle.smith_types.specs.Syntax.entity_type.TableType.{TableType}
use Rattle.smith_types.specs.Syntax.segments.DataSegment.{DataSegment}
use Rattle.smith_types.specs.Syntax.segments.ElementSegment.{ElementSegment}
use Rattle.smith_types.specs.Syntax.value_type.RefType.{RefType}
use Rattle.smith_types.specs.Syntax.value_type.ValType.TheVariants.{Ref}
use Rattle.smith_types.specs.ValidTypes.{values_of}
use Rattle.smith_instr.specs.declared.control.BlockType.{BlockType}
use Rattle.smith_instr.specs.declared.control.BlockType.TheVariants as block
use Rattle.smith_instr.specs.declared.instr.Instr.TheVariants as instr
use Rattle.smith_module_rules.specs.Module.{module_features}
use Rattle.smith_binary_sections.specs.Types.{group_at, is_alone, short_ref}
use Rattle.smith_binary_sections.specs.Elements.{Form, elem_form}
use Rattle.smith_binary_sections.specs.Elements.Form.{first_funcs, passive_funcs, table_funcs, declared_funcs}
use Rattle.smith_binary_sections.specs.Elements.Form.{first_items, passive_items, table_items, declared_items}
use Rattle.smith_binary_sections.specs.Data.{DataForm, data_form}
use Rattle.smith_binary_sections.specs.Data.DataForm.{first_memory, no_memory, named_memory}
use Rattle.smith_program.specs.Bodies.{AreBodiesBy}

-- the form of a subtype, and of a group of types, is enabled: finality, supertypes and groups of
-- several types require garbage collection (Recursive Types)
abbrev pub IsTypeFormEnabled : Features → SubType → Type 0
IsTypeFormEnabled features t = is_alone t.supertype t.is_final ≡ false → IsTrue features.gc

abbrev pub IsGroupFormEnabled : Features → List SubType → Type 0
IsGroupFormEnabled features (t ∷ []) = IsTypeFormEnabled features t
IsGroupFormEnabled features group = IsTrue features.gc

-- a form of an element segment is enabled: forms with an odd number require bulk memory, and all
-- but 0, 1 and 3 require reference types (Element Section)
abbrev pub IsElemFormEnabled : Features → Form → Type 0
IsElemFormEnabled features first_funcs = Unit {0}
IsElemFormEnabled features passive_funcs = IsTrue features.bulk_memory
IsElemFormEnabled features table_funcs = IsTrue features.reference_types
IsElemFormEnabled features declared_funcs = IsTrue features.bulk_memory
IsElemFormEnabled features first_items = IsTrue features.reference_types
IsElemFormEnabled features passive_items = IsTrue features.reference_types × IsTrue features.bulk_memory
IsElemFormEnabled features table_items = IsTrue features.reference_types
IsElemFormEnabled features declared_items = IsTrue features.reference_types × IsTrue features.bulk_memory

-- a form of a data segment is enabled: a passive segment requires bulk memory, and a named memory
-- requires multi-memory (Data Section)
abbrev pub IsDataFormEnabled : Features → DataForm → Type 0
IsDataFormEnabled features first_memory = Unit {0}
IsDataFormEnabled features no_memory = IsTrue features.bulk_memory
IsDataFormEnabled features named_memory = IsTrue features.multi_memory

-- the memory of an access, whose memory argument names it if it is not 0; or 0 for other
-- instructions (Memory Instructions)
abbrev pub accessed : Instr → ℕ
accessed (instr.Load op at) = at.memory
accessed (instr.Store op at) = at.memory
accessed (instr.VectorLoad op at) = at.memory
accessed (instr.VectorStore at) = at.memory
accessed (instr.VectorLoadLane log2_bytes at lane) = at.memory
accessed (instr.VectorStoreLane log2_bytes at lane) = at.memory
accessed (instr.Atomic access at) = at.memory
accessed _ = 0

-- an access is enabled: a named memory requires multi-memory (Memory Instructions)
abbrev pub IsAccessEnabled : Features → Instr → Type 0
IsAccessEnabled features instruction = (accessed instruction ≡ 0 → ⊥) → IsTrue features.multi_memory

-- reference types with the byte 0x63 or 0x64 are enabled: by garbage collection, or by a feature
-- that requires it
abbrev pub HasLongReferences : Features → Type 0
HasLongReferences features =
    IsTrue features.gc ⊎ (IsTrue features.function_references
    ⊎ (IsTrue features.custom_descriptors ⊎ IsTrue features.shared_everything_threads))

-- the form of a reference type is enabled: it is an abstract heap type alone, or one with such a
-- byte is enabled (Reference Types)
abbrev pub IsRefFormEnabled : Features → RefType → Type 0
IsRefFormEnabled features reference = short_ref reference.nullable reference.heap_type ≡ None → HasLongReferences features

-- the form of a value type, and of each of several value types, is enabled (Value Types)
abbrev pub IsValFormEnabled : Features → ValType → Type 0
IsValFormEnabled features (Ref reference) = IsRefFormEnabled features reference
IsValFormEnabled features _ = Unit {0}

abbrev pub AreValFormsEnabled : Features → List ValType → Type 0
AreValFormsEnabled features values = All (IsValFormEnabled features) values

-- the value types in a block type and in an instruction, which is a block or a select (Control
-- Instructions; Parametric Instructions)
abbrev pub values_of_block : BlockType → List ValType
values_of_block (block.Value value) = value ∷ []
values_of_block _ = []

abbrev pub values_in : Instr → List ValType
values_in (instr.Block ty) = values_of_block ty
values_in (instr.Loop ty) = values_of_block ty
values_in (instr.If ty) = values_of_block ty
values_in (instr.TryTable ty clauses) = values_of_block ty
values_in (instr.SelectTyped values) = values
values_in _ = []

abbrev pub IsStatedEnabled : Features → Instr → Type 0
IsStatedEnabled features instruction = AreValFormsEnabled features (values_in instruction)

-- the form of each reference type in a module is enabled: in types, tables, globals, element
-- segments, locals and instructions
pub record AreReferencesEnabled (m : ModuleParts) (bodies : List Body) : Type 0 where
  pub types : All (λ (t : SubType). AreValFormsEnabled (module_features m) (values_of t.composite_type.inner)) m.types
  pub tables : All (λ (table : TableType). IsRefFormEnabled (module_features m) table.element_type) m.tables
  pub globals : All (λ (global : GlobalType). IsValFormEnabled (module_features m) global.val_type) m.globals
  pub elems : All (λ (e : ElementSegment). IsRefFormEnabled (module_features m) e.ty) m.elems
  pub locals : All (λ (code : Code). AreValFormsEnabled (module_features m) code.locals) m.code
  pub instructions : AreBodiesBy (λ (place : ℕ) (code : Code). All (IsStatedEnabled (module_features m))) m bodies

-- the written form of each group of types, reference type, segment and access is enabled
pub record AreFormsEnabled (m : ModuleParts) (bodies : List Body) : Type 0 where
  pub groups : All (λ (group : Range ℕ). IsGroupFormEnabled (module_features m) (group_at m.types group)) m.groups
  pub references : AreReferencesEnabled m bodies
  pub elems : All (λ (e : ElementSegment). IsElemFormEnabled (module_features m) (elem_form e.items e.ty e.kind)) m.elems
  pub datas : All (λ (d : DataSegment). IsDataFormEnabled (module_features m) (data_form d.kind)) m.datas
  pub accesses : AreBodiesBy (λ (place : ℕ) (code : Code). All (IsAccessEnabled (module_features m))) m bodies
