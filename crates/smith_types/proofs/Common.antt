-- The names of other crates that three files or more of these cite.
pub use Rattle.smith_syntax.specs.Features.{Features}
pub use Rattle.smith_syntax.specs.Kinds.{kind, kind_of, shared}
pub use Rattle.smith_syntax.specs.declared.composite_type.CompositeInnerType.{CompositeInnerType}
pub use Rattle.smith_syntax.specs.declared.composite_type.CompositeInnerType.TheVariants.{Array, Func, Struct}
pub use Rattle.smith_syntax.specs.declared.composite_type.FieldType.{FieldType}
pub use Rattle.smith_syntax.specs.declared.composite_type.SubType.{SubType}
pub use Rattle.smith_syntax.specs.declared.entity_type.GlobalType.{GlobalType}
pub use Rattle.smith_syntax.specs.declared.value_type.AbstractHeapType.{AbstractHeapType}
pub use Rattle.smith_syntax.specs.declared.value_type.HeapType.{HeapType}
pub use Rattle.smith_syntax.specs.declared.value_type.HeapType.TheVariants.{Abstract, Concrete, Exact}
pub use Rattle.smith_syntax.specs.declared.value_type.RefType.{RefType}
pub use Rattle.smith_syntax.specs.declared.value_type.ValType.{ValType}
pub use Rattle.smith_syntax.specs.declared.value_type.ValType.TheVariants.{F32, F64, I32, I64, Ref, V128}
pub use Rattle.std.proofs.Common.{[], add-one, ap, arith, Bool, drop, false, get_or, inl, inr, IsTrue, length, List, None, Option, refl}
pub use Rattle.std.proofs.Common.{rules, set, Some, subst, suc, sym, take, true, zero, ℕ, ◌++◌, ◌+◌, ◌-◌, ◌<◌, ◌^◌, ◌↔◌, ◌∙◌, ◌∷◌, ◌≡◌, ◌≤◌}
pub use Rattle.std.proofs.Common.{◌⊎◌}
pub use Rattle.std.proofs.lemmas.Bool.{cases_eq}
pub use Rattle.std.proofs.lemmas.List.{append-nil, length-append, length-set, take_all}
pub use Rattle.std.proofs.lemmas.List.Elements.{All-from_recursion, All-weaker, recursion_from_All}
pub use Rattle.std.proofs.lemmas.Option.{none-some, same_Some, slice_get-get_or, slice_get_within}
pub use Rattle.std.specs.List.{flat_map}
pub use Rattle.std.specs.Prelude.{All, if◌then◌else◌, not, slice_get, slice_index_or, vec_capacity, ◌&&◌}
pub use Rattle.std.specs.declared.ops.Range.{Range}
