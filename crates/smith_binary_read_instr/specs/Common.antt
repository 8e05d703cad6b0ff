-- The names of other crates that three files or more of these cite.
pub use Rattle.smith_binary_read.specs.Choices.{item_of, or_at}
pub use Rattle.smith_binary_read.specs.Numbers.{two_at, unsigned_at}
pub use Rattle.smith_binary_read.specs.Readings.{byte_at, fault_at, joined_at, mapped_at, Reading, ◌>>=◌}
pub use Rattle.smith_binary_read.specs.TypeReadings.{heap_type_at}
pub use Rattle.smith_binary_read.specs.declared.error.Reason.TheVariants.{UnknownByte}
pub use Rattle.smith_instr.specs.declared.instr.Instr.{Instr}
