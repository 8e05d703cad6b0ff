-- The names of other crates that three files or more of these cite.
pub use Rattle.smith_binary.specs.Numbers.{IsUnsigned}
pub use Rattle.smith_binary.specs.Pieces.{IsByte, Joined}
pub use Rattle.smith_binary_instr.specs.Instructions.{IsInstr}
pub use Rattle.smith_binary_instr.specs.Memory.{IsMemArg}
pub use Rattle.smith_binary_read.proofs.ChoiceLemmas.{item_holds, tag_front, tagged_read, tagged_sound}
pub use Rattle.smith_binary_read.proofs.IntegerLemmas.{unsigned_decodes}
pub use Rattle.smith_binary_read.proofs.LoopLemmas.{with_front}
pub use Rattle.smith_binary_read.proofs.PrefixLemmas.{prefix_alone, prefix_apart}
pub use Rattle.smith_binary_read.proofs.ReadLemmas.{branch, first_read, front_as, front_joined, front_same, item_is, step, test_passed}
pub use Rattle.smith_binary_read.proofs.TypeLemmas.{heap_decodes, val_decodes}
pub use Rattle.smith_binary_read.specs.Decodes.{Decodes, Front}
unfoldable pub use Rattle.smith_binary_read.specs.Numbers.{unsigned_at}
pub use Rattle.smith_binary_read.specs.Readings.{mapped_at, Reading}
unfoldable pub use Rattle.smith_binary_read.specs.Readings.{each_at}
pub use Rattle.smith_binary_sections.specs.Instructions.{IsPrefixed}
pub use Rattle.smith_instr.specs.declared.instr.Instr.{Instr}
pub use Rattle.smith_instr.specs.declared.memory.MemArg.{MemArg}
pub use Rattle.std.proofs.Common.{[], ap, arith, Bool, eqb, false, List, None, Ok, Option, refl, Some, subst, suc, sym, true, zero, ℕ, ◌++◌}
pub use Rattle.std.proofs.Common.{◌+◌, ◌-◌, ◌<◌, ◌∙◌, ◌∷◌, ◌≡◌, ◌≤◌}
pub use Rattle.std.proofs.lemmas.Bool.{eqb-true, false≢true, le-ltb, ltb-false, ltb-true, ne_eqb}
pub use Rattle.std.specs.Prelude.{reverse}
