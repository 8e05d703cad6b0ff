-- The names of other crates that three files or more of these cite.
pub use Rattle.smith_syntax.specs.Features.{Features}
pub use Rattle.smith_syntax.specs.Kinds.{shared}
pub use Rattle.smith_syntax.specs.declared.composite_type.CompositeInnerType.{CompositeInnerType}
pub use Rattle.smith_syntax.specs.declared.composite_type.CompositeInnerType.TheVariants.{Array, Func, Struct}
pub use Rattle.smith_syntax.specs.declared.composite_type.FieldType.{FieldType}
pub use Rattle.smith_syntax.specs.declared.composite_type.FuncType.{FuncType}
pub use Rattle.smith_syntax.specs.declared.composite_type.StorageType.{StorageType}
pub use Rattle.smith_syntax.specs.declared.composite_type.StorageType.TheVariants.{I16, I8, Val}
pub use Rattle.smith_syntax.specs.declared.composite_type.SubType.{SubType}
pub use Rattle.smith_syntax.specs.declared.const_instr.ConstInstr.{ConstInstr}
pub use Rattle.smith_syntax.specs.declared.entity_type.EntityType.{EntityType}
pub use Rattle.smith_syntax.specs.declared.entity_type.GlobalType.{GlobalType}
pub use Rattle.smith_syntax.specs.declared.entity_type.MemoryType.{MemoryType}
pub use Rattle.smith_syntax.specs.declared.entity_type.TableType.{TableType}
pub use Rattle.smith_syntax.specs.declared.imports.ImportItem.{ImportItem}
pub use Rattle.smith_syntax.specs.declared.imports.Imports.{Imports}
pub use Rattle.smith_syntax.specs.declared.imports.Imports.TheVariants.{Compact1, Compact2, Single}
pub use Rattle.smith_syntax.specs.declared.value_type.AbstractHeapType.{AbstractHeapType}
pub use Rattle.smith_syntax.specs.declared.value_type.HeapType.{HeapType}
pub use Rattle.smith_syntax.specs.declared.value_type.HeapType.TheVariants.{Abstract, Concrete, Exact}
pub use Rattle.smith_syntax.specs.declared.value_type.RefType.{RefType}
pub use Rattle.smith_syntax.specs.declared.value_type.ValType.{ValType}
pub use Rattle.smith_syntax.specs.declared.value_type.ValType.TheVariants.{F32, F64, I32, I64, Ref, V128}
pub use Rattle.std.specs.List.{flat_map}
pub use Rattle.std.specs.declared.ops.Range.{Range}
