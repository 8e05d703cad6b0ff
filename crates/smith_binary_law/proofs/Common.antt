-- The names of other crates that three files or more of these cite.
pub use Rattle.smith_binary.proofs.NumberLemmas.{unsigned_last}
unfoldable pub use Rattle.smith_binary.specs.Numbers.{IsUnsigned}
pub use Rattle.smith_binary.specs.Pieces.{IsList, Joined}
unfoldable pub use Rattle.smith_binary.specs.Pieces.{Each}
pub use Rattle.smith_binary_instr.specs.Instructions.{IsInstr}
pub use Rattle.smith_binary_instr.specs.Nesting.{AreNested}
pub use Rattle.smith_binary_sections.specs.Codes.{IsRun}
pub use Rattle.smith_binary_sections.specs.Elements.{func_ref}
pub use Rattle.smith_binary_sections.specs.Instructions.{offset_of}
pub use Rattle.smith_instr.specs.declared.instr.Instr.{Instr}
pub use Rattle.smith_types.specs.ExampleContexts.{context_with}
pub use Rattle.smith_types.specs.ExampleEntities.{table}
pub use Rattle.smith_types.specs.ExampleFeatures.{usual_features}
pub use Rattle.smith_types.specs.ExampleTypes.{plain}
pub use Rattle.smith_types.specs.Flags.{funcref}
pub use Rattle.smith_types.specs.Subtyping.{IsRefBelow, itself}
pub use Rattle.smith_types.specs.Syntax.const_instr.ConstInstr.TheVariants.{I32Const}
pub use Rattle.smith_types.specs.Syntax.entity_type.TableType.{TableType}
pub use Rattle.smith_types.specs.Syntax.value_type.HeapType.TheVariants.{Concrete}
pub use Rattle.smith_types.specs.Syntax.value_type.ValType.{ValType}
pub use Rattle.smith_types.specs.Syntax.value_type.ValType.TheVariants.{I32}
pub use Rattle.std.proofs.Common.{[], ap, arith, Bool, false, inl, inr, length, length-append, List, map, None, pos, refl, Some, subst, sym}
pub use Rattle.std.proofs.Common.{true, ℕ, ◌++◌, ◌<◌, ◌^◌, ◌∙◌, ◌∷◌, ◌≡◌}
pub use Rattle.std.proofs.lemmas.List.Elements.{All-from_recursion}
