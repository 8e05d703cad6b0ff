-- The names of other crates that three files or more of these cite.
unfoldable pub use Rattle.smith_bytes.specs.Draws.{digit_count}
pub use Rattle.smith_bytes.specs.Spelling.{Joined, SpellsAnyByte, SpellsBool, SpellsNothing, SpellsNumber}
unfoldable pub use Rattle.smith_bytes.specs.Spelling.{Listed}
pub use Rattle.smith_config.specs.Config.{default_config}
pub use Rattle.smith_config.specs.ExampleMembers.{alone, final, one_function_type, struct_of_bytes, struct_with, with_non_nullable}
pub use Rattle.smith_config.specs.Shapes.{space_of}
pub use Rattle.smith_draw_types.specs.Choices.{enabled}
unfoldable pub use Rattle.smith_draw_types.specs.SpelledParts.{SpellsBytes, SpellsGlobal}
pub use Rattle.smith_draw_types.specs.Spelling.{GroupsFit, SpellsPlace}
unfoldable pub use Rattle.smith_draw_types.specs.Spelling.{SpellsField, SpellsFuncType, SpellsGroup, SpellsGroups, SpellsSubTypes}
unfoldable pub use Rattle.smith_draw_types.specs.Spelling.{SpellsValType}
unfoldable pub use Rattle.smith_draw_types.specs.TypeUses.{is_tag_type, is_unshared_function}
unfoldable pub use Rattle.smith_spell.specs.Spelling.{SpellsMember}
pub use Rattle.smith_types.specs.ExampleTypes.{not_null, plain}
pub use Rattle.smith_types.specs.GroupedTypes.{GroupedTypes}
pub use Rattle.smith_types.specs.Syntax.composite_type.StorageType.TheVariants.{Val}
pub use Rattle.smith_types.specs.Syntax.composite_type.SubType.{SubType}
pub use Rattle.smith_types.specs.Syntax.value_type.HeapType.TheVariants.{Concrete}
pub use Rattle.smith_types.specs.Syntax.value_type.ValType.TheVariants.{I32, Ref}
pub use Rattle.std.proofs.Common.{[], ap, arith, Bool, false, inl, inr, List, refl, rules, subst, sym, true, ℕ, ◌%◌, ◌+◌, ◌<◌, ◌∙◌, ◌∷◌}
pub use Rattle.std.proofs.Common.{◌≡◌}
pub use Rattle.std.proofs.lemmas.List.Elements.{All-from_recursion}
