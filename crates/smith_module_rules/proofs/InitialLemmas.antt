-- An initialiser of a table stays valid as its context grows.
use Rattle.std.proofs.Common.{List, None, Some}
use Rattle.std.specs.Prelude.{Option}
use Rattle.smith_types.specs.Expressions.{Context}
use Rattle.smith_types.specs.Grown.{IsContextGrown}
use Rattle.smith_types.specs.Syntax.value_type.ValType.TheVariants.{Ref}
use Rattle.smith_types.specs.Syntax.entity_type.TableType.{TableType}
use Rattle.smith_types.specs.Syntax.const_instr.ConstInstr.{ConstInstr}
use Rattle.smith_types.proofs.ExpressionGrowthLemmas.{IsConstExpr-grown}
use Rattle.smith_module_rules.specs.Module.{IsTableInitialised}

pub IsTableInitialised-grown : (old new : Context) → IsContextGrown old new → (table : TableType) (initial : Option (List ConstInstr))
    → IsTableInitialised old table initial → IsTableInitialised new table initial
IsTableInitialised-grown old new grown table None h = h
IsTableInitialised-grown old new grown table (Some expression) (gc, h) =
    (rw grown.features gc, IsConstExpr-grown old new grown (Ref table.element_type) expression h)
