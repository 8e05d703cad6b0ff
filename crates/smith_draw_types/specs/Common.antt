-- The names of other crates that three files or more of these cite.
pub use Rattle.smith_bytes.specs.Draws.{bool_at, range_at, ratio_at}
pub use Rattle.smith_bytes.specs.Growth.{grow_at}
pub use Rattle.smith_bytes.specs.Spelling.{Joined, SpellsBool, SpellsNumber, Where}
pub use Rattle.smith_config.specs.declared.config.Config.{Config}
pub use Rattle.smith_types.specs.Syntax.Kinds.{shared}
pub use Rattle.smith_types.specs.Syntax.composite_type.CompositeInnerType.{CompositeInnerType}
pub use Rattle.smith_types.specs.Syntax.composite_type.CompositeInnerType.TheVariants.{Array, Func, Struct}
pub use Rattle.smith_types.specs.Syntax.composite_type.CompositeType.{CompositeType}
pub use Rattle.smith_types.specs.Syntax.composite_type.FieldType.{FieldType}
pub use Rattle.smith_types.specs.Syntax.composite_type.FuncType.{FuncType}
pub use Rattle.smith_types.specs.Syntax.composite_type.StorageType.{StorageType}
pub use Rattle.smith_types.specs.Syntax.composite_type.StorageType.TheVariants.{I16, I8, Val}
pub use Rattle.smith_types.specs.Syntax.composite_type.StructType.{StructType}
pub use Rattle.smith_types.specs.Syntax.composite_type.SubType.{SubType}
pub use Rattle.smith_types.specs.Syntax.value_type.AbstractHeapType.{AbstractHeapType}
pub use Rattle.smith_types.specs.Syntax.value_type.HeapType.{HeapType}
pub use Rattle.smith_types.specs.Syntax.value_type.HeapType.TheVariants.{Abstract, Concrete, Exact}
pub use Rattle.smith_types.specs.Syntax.value_type.RefType.{RefType}
pub use Rattle.smith_types.specs.Syntax.value_type.ValType.{ValType}
pub use Rattle.smith_types.specs.Expressions.{Context}
pub use Rattle.std.specs.List.{list_any}
