-- The context in which a body is checked.
use Rattle.std.specs.Prelude.{[], ℕ, All}
use Rattle.smith_types.specs.Syntax.FeatureBits.{features_in}
use Rattle.smith_types.specs.Syntax.composite_type.FuncType.{FuncType}
use Rattle.smith_types.specs.Syntax.entity_type.GlobalType.{GlobalType}
use Rattle.smith_types.specs.Syntax.composite_type.SubType.{SubType}
use Rattle.smith_types.specs.Syntax.entity_type.TableType.{TableType}
use Rattle.smith_types.specs.Syntax.value_type.RefType.{RefType}
use Rattle.smith_types.specs.Entities.{IsFuncAt, IsFuncTypeIndex}
use Rattle.smith_types.specs.Flags.{IsSubTypeEnabled}
use Rattle.smith_types.specs.Subtyping.{IsInRange}
use Rattle.smith_types.specs.ValidTypes.{values_of}
use Rattle.smith_instr.specs.Contexts.{BodyContext, IsValid, AreValid, IsRefValid}
use Rattle.smith_check_operands.specs.declared.scope.Scope.{Scope}

-- the context of a scope without labels (Validation, Contexts)
abbrev pub bare : Scope → BodyContext
bare scope = record {
  features = features_in scope.features;
  types = scope.types.now.types;
  funcs = scope.funcs.now;
  imported_funcs = scope.imported_funcs;
  tables = scope.tables.now;
  memories = scope.memories.now;
  globals = scope.globals.now;
  tags = scope.tags.now;
  elems = scope.elems.now;
  datas = scope.datas;
  references = scope.references.now;
  locals = scope.locals.now;
  params = scope.params;
  labels = [];
  results = scope.results.now;
}

-- The parts of a context are valid (Validation, Types), and its types are enabled (own rule). A
-- segment of function indices has the type `(ref func)`, even if non-nullable references are not
-- enabled; only its heap type matters.
pub record IsScope (context : BodyContext) : Type 0 where
  pub enabled : All (IsSubTypeEnabled context.features) context.types
  pub types : All (λ (ty : SubType). AreValid context (values_of ty.composite_type.inner)) context.types
  pub funcs : All (IsFuncTypeIndex context.types) context.funcs
  pub tables : All (λ (table : TableType). IsRefValid context table.element_type) context.tables
  pub elems : All (λ (elem : RefType). IsInRange context.types elem.heap_type) context.elems
  pub globals : All (λ (global : GlobalType). IsValid context global.val_type) context.globals
  pub locals : AreValid context context.locals
  pub results : AreValid context context.results
  pub params_valid : (index : ℕ) (function : FuncType) → IsFuncAt context.types index function → AreValid context function.params
  pub results_valid : (index : ℕ) (function : FuncType) → IsFuncAt context.types index function → AreValid context function.results
