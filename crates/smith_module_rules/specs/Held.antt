-- Contents of element segments and bodies. Rules of this project.
use Rattle.std.specs.Prelude.{◌≡◌, ℕ, ◌≤◌, ◌⊎◌, IsTrue, List, [], Some, slice_get, All}
use Rattle.smith_types.specs.Syntax.Kinds.{shared}
use Rattle.smith_types.specs.Segments.{item_count}
use Rattle.smith_types.specs.Syntax.code.Instructions.{Instructions}
use Rattle.smith_types.specs.Syntax.code.Instructions.TheVariants.{Unreachable, Arbitrary}
use Rattle.smith_module_rules.specs.Common.{Config, ConstInstr, SubType}
use Rattle.smith_types.specs.Syntax.segments.Elements.{Elements}
use Rattle.smith_types.specs.Syntax.segments.Elements.TheVariants.{Functions, Expressions}

-- the expressions of an element segment
abbrev pub expressions_of : Elements → List (List ConstInstr)
expressions_of (Functions functions) = []
expressions_of (Expressions expressions) = expressions

-- no function can be an item of a segment that lists functions, because each has a shared type
abbrev pub HasNoCandidates : List SubType → List ℕ → Type 0
HasNoCandidates types funcs = All (λ index. (t : SubType) × (slice_get types index ≡ Some t) × IsTrue (shared t)) funcs

-- a segment has at least the minimum number of items, or lists no function because there is no
-- candidate
abbrev pub HasItems : Config → List SubType → List ℕ → Elements → Type 0
HasItems config types funcs items = (config.min_elements ≤ item_count items) ⊎ ((items ≡ Functions []) × HasNoCandidates types funcs)

-- the instructions of a body are raw bytes, so that no fuel check can be inserted (own rule)
abbrev pub IsRaw : Instructions → Type 0
IsRaw Unreachable = ⊥
IsRaw (Arbitrary bytes) = Unit {0}
