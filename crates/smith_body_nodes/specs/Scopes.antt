-- The context in which a body is drawn.
use Rattle.std.specs.Prelude.{◌≡◌, ℕ, ◌+◌, ◌*◌, ◌≤◌, ◌-◌, ◌^◌, ◌&&◌, ◌||◌, not, Bool, IsTrue, min, max, List, [], ◌∷◌, length, slice_get}
use Rattle.std.specs.Prelude.{Some, All, bit_and, if◌then◌else◌}
use Rattle.smith_types.specs.Syntax.FeatureBits.{features_in}
use Rattle.smith_body_nodes.specs.Common.{AreValid, BodyContext, CompositeInnerType, Config, Features, Instr, SubType, ValType}
use Rattle.smith_types.specs.Syntax.Instructions.{float_bits, kinds_bits}
use Rattle.smith_types.specs.Types.{IsOrderly}
use Rattle.smith_types.specs.Entities.{IsFuncAt, IsFuncTypeIndex, IsMemoryValid, IsTagValid}
use Rattle.smith_types.specs.Expressions.{field_values}
use Rattle.smith_types.specs.ValidTypes.{IsValTypeValid}
use Rattle.smith_types.specs.Syntax.composite_type.CompositeInnerType.TheVariants as inner
use Rattle.smith_types.specs.Syntax.composite_type.FuncType.{FuncType}
use Rattle.smith_types.specs.Syntax.entity_type.GlobalType.{GlobalType}
use Rattle.smith_types.specs.Syntax.entity_type.TableType.{TableType}
use Rattle.smith_types.specs.Syntax.instruction_kind.InstructionKinds.{InstructionKinds}
use Rattle.smith_draw_types.specs.HeldFields.{fields_of}
use Rattle.smith_instr.specs.Contexts.{IsRefValid}
use Rattle.smith_instr.specs.Enabled.{is_enabled, IsEnabled}
use Rattle.smith_body_nodes.specs.Traps.{may_trap, IsTrapless}
use Rattle.smith_body_nodes.specs.declared.scope.Scope.{Scope}
use Rattle.smith_body_nodes.specs.declared.scope.Draft.{Draft}

-- the context of a body with these labels (Validation, Conventions, Contexts)
abbrev pub context_of : Scope → List (List ValType) → BodyContext
context_of scope labels = record {
  features = features_in scope.features;
  types = scope.types.now.types;
  funcs = scope.funcs.now;
  imported_funcs = scope.imported_funcs;
  tables = scope.tables.now;
  memories = scope.memories.now;
  globals = scope.globals.now;
  tags = scope.tags.now;
  elems = scope.elems.now;
  datas = scope.datas;
  references = scope.references.now;
  locals = scope.locals.now;
  params = scope.params;
  labels = labels;
  results = scope.results.now;
}

-- the context of a scope without labels
abbrev pub bare : Scope → BodyContext
bare scope = context_of scope []

-- the context that a draft has reached
abbrev pub where_stands : Scope → Draft → BodyContext
where_stands scope draft = context_of scope draft.labels.items

-- the kinds of instructions that bodies may have: the allowed kinds, without floats unless
-- `allow_floats` is set (own rule)
abbrev pub kinds_of_bodies : Config → InstructionKinds
kinds_of_bodies config =
    if config.allow_floats then config.allowed_instructions
    else record { 0 = bit_and (kinds_bits config.allowed_instructions) (2 ^ 16 - 1 - float_bits) }

-- whether an instruction is permitted as a choice: it is enabled, by the kinds that bodies may
-- have, and with `disallow_traps` it does not trap
unfoldable pub is_permitted : Features → Config → Instr → Bool
is_permitted features config instruction =
    is_enabled features (kinds_of_bodies config) instruction && (not config.disallow_traps || not (may_trap instruction))

-- an instruction is permitted in a scope: it is enabled, by the kinds that bodies may have, and
-- with `disallow_traps` it does not trap, or is `unreachable`
pub record IsAllowedIn (scope : Scope) (instruction : Instr) : Type 0 where
  pub enabled : IsEnabled (features_in scope.features) (kinds_of_bodies scope.config.now) instruction
  pub trapless : IsTrue scope.config.now.disallow_traps → IsTrapless instruction

-- the number of items that have an index (Structure, Indices)
abbrev pub indexed : ℕ → ℕ
indexed count = min count (2 ^ 32 - 1)

-- the number of parameters and results of a function
abbrev pub func_size : CompositeInnerType → ℕ
func_size (inner.Func function) = length function.params + length function.results
func_size _ = 0

-- the greater of 3 and the greatest number of parameters and results of a function
unfoldable pub widest : List SubType → ℕ
widest [] = 3
widest (t ∷ types) = max (func_size t.composite_type.inner) (widest types)

-- the greatest number of instructions for one unit of the budget
abbrev pub most : List SubType → ℕ
most types = 4 * widest types + 4

-- the parts of a context are valid (Validation, Types)
pub record IsScope (context : BodyContext) : Type 0 where
  pub orderly : IsOrderly context.types
  pub funcs : All (IsFuncTypeIndex context.types) context.funcs
  pub globals : All (λ (global : GlobalType). IsValTypeValid context.features (length context.types) global.val_type) context.globals
  pub tables : All (λ (table : TableType). IsRefValid context table.element_type) context.tables
  pub tags : All (IsTagValid context.types) context.tags
  pub memories : All (IsMemoryValid context.features) context.memories
  pub elems : All (IsRefValid context) context.elems
  pub locals : AreValid context context.locals
  pub results : AreValid context context.results
  pub results_few : length context.results ≤ widest context.types
  pub params_valid : (index : ℕ) (function : FuncType) → IsFuncAt context.types index function → AreValid context function.params
  pub results_valid : (index : ℕ) (function : FuncType) → IsFuncAt context.types index function → AreValid context function.results
  pub fields_valid : (index : ℕ) (t : SubType) → slice_get context.types index ≡ Some t
      → AreValid context (field_values (fields_of t.composite_type.inner))

-- the operands of a branch to each label are valid, and no more than a function has
pub record AreLabels (scope : Scope) (labels : List (List ValType)) : Type 0 where
  pub valid : All (AreValid (bare scope)) labels
  pub few : All (λ (label : List ValType). length label ≤ widest scope.types.now.types) labels
