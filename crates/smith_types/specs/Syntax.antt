-- The data of `smith_syntax` and its definitions, for the crates above.
pub use Rattle.smith_syntax.specs.FeatureBits
pub use Rattle.smith_syntax.specs.Features
pub use Rattle.smith_syntax.specs.Instructions
pub use Rattle.smith_syntax.specs.Kinds
pub use Rattle.smith_syntax.specs.SplitTexts
pub use Rattle.smith_syntax.specs.declared.code
pub use Rattle.smith_syntax.specs.declared.composite_type
pub use Rattle.smith_syntax.specs.declared.const_instr
pub use Rattle.smith_syntax.specs.declared.entity_type
pub use Rattle.smith_syntax.specs.declared.features
pub use Rattle.smith_syntax.specs.declared.imports
pub use Rattle.smith_syntax.specs.declared.instruction_kind
pub use Rattle.smith_syntax.specs.declared.segments
pub use Rattle.smith_syntax.specs.declared.value_type
