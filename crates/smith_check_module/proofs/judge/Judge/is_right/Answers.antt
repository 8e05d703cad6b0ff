use Rattle.smith_check_module.proofs.Common.{features_in, IsFuncTypeIndex, IsGlobalValid, IsMemoryValid, IsTableValid, IsTrue, subst}
use Rattle.smith_check_module.proofs.Common.{TableType, ℕ, ◌<◌}
use Rattle.std.proofs.Common.{Ok}
use Rattle.smith_types.specs.Syntax.entity_type.MemoryType.{MemoryType}
use Rattle.smith_check_module.specs.Judges.{IsRight, count_in}
use Rattle.smith_check_module.specs.declared.faults.Part.{Part}
use Rattle.smith_check_module.specs.declared.faults.Part.TheVariants as part
use Rattle.smith_check_module.proofs.JudgeLemmas.{entity_decided, of_part}
use Rattle.smith_check_module.proofs.judge.Judge.is_right.Goals as goal

pub is_export_right-requires-clause-before : goal.is_export_right-requires-clause-before
is_export_right-requires-clause-before c =
    subst (λ (p : Part). (other : ℕ) → other < c.args.index → IsRight c.args.self.now p other) c.in-Exports.is c.requires.before

pub returns-in-Tags-clause-decided : goal.returns-in-Tags-clause-decided
returns-in-Tags-clause-decided c =
    of_part c.args.self.now c.args.part part.Tags c.args.index c.in-Tags.is (Ok c.is_tag.result)
    (entity_decided (λ (tag : ℕ). IsFuncTypeIndex c.args.self.now.scope.types.now.types tag
    × IsTrue (features_in c.args.self.now.scope.features).exceptions)
    c.args.self.now.spaces.now.tags c.as_slice.result.now c.args.index _ c.as_slice.ensures
    (subst (λ (p : Part). c.args.index < count_in c.args.self.now p) c.in-Tags.is c.requires.inside) c.is_tag.result
    (rw c.types-types.ensures.value at c.is_tag.ensures))

pub returns-in-Functions-clause-decided : goal.returns-in-Functions-clause-decided
returns-in-Functions-clause-decided c =
    of_part c.args.self.now c.args.part part.Functions c.args.index c.in-Functions.is (Ok c.is_func.result)
    (entity_decided (IsFuncTypeIndex c.args.self.now.scope.types.now.types)
    c.args.self.now.spaces.now.funcs c.as_slice-in-Functions.result.now c.args.index _ c.as_slice-in-Functions.ensures
    (subst (λ (p : Part). c.args.index < count_in c.args.self.now p) c.in-Functions.is c.requires.inside) c.is_func.result
    (rw c.types-types.ensures.value at c.is_func.ensures))

pub returns-in-Tables-clause-decided : goal.returns-in-Tables-clause-decided
returns-in-Tables-clause-decided c =
    of_part c.args.self.now c.args.part part.Tables c.args.index c.in-Tables.is (Ok c.is_table.result)
    (entity_decided (λ (table : TableType). IsTableValid (features_in c.args.self.now.scope.features)
    c.args.self.now.scope.types.now.types table
    × (0 < c.args.index → IsTrue (features_in c.args.self.now.scope.features).reference_types))
    c.args.self.now.spaces.now.tables c.as_slice-in-Tables.result.now c.args.index _ c.as_slice-in-Tables.ensures
    (subst (λ (p : Part). c.args.index < count_in c.args.self.now p) c.in-Tables.is c.requires.inside) c.is_table.result
    (rw c.types-types.ensures.value at c.is_table.ensures))

pub returns-in-Memories-clause-decided : goal.returns-in-Memories-clause-decided
returns-in-Memories-clause-decided c =
    of_part c.args.self.now c.args.part part.Memories c.args.index c.in-Memories.is (Ok c.is_memory.result)
    (entity_decided (λ (memory : MemoryType). IsMemoryValid (features_in c.args.self.now.scope.features) memory
    × (0 < c.args.index → IsTrue (features_in c.args.self.now.scope.features).multi_memory))
    c.args.self.now.spaces.now.memories c.as_slice-in-Memories.result.now c.args.index _ c.as_slice-in-Memories.ensures
    (subst (λ (p : Part). c.args.index < count_in c.args.self.now p) c.in-Memories.is c.requires.inside) c.is_memory.result
    c.is_memory.ensures)

pub returns-in-Globals-clause-decided : goal.returns-in-Globals-clause-decided
returns-in-Globals-clause-decided c =
    of_part c.args.self.now c.args.part part.Globals c.args.index c.in-Globals.is (Ok c.is_global.result)
    (entity_decided (IsGlobalValid (features_in c.args.self.now.scope.features) c.args.self.now.scope.types.now.types)
    c.args.self.now.spaces.now.globals c.as_slice-in-Globals.result.now c.args.index _ c.as_slice-in-Globals.ensures
    (subst (λ (p : Part). c.args.index < count_in c.args.self.now p) c.in-Globals.is c.requires.inside) c.is_global.result
    (rw c.types-types.ensures.value at c.is_global.ensures))

pub returns-in-TableInitials-clause-decided : goal.returns-in-TableInitials-clause-decided
returns-in-TableInitials-clause-decided c =
    of_part c.args.self.now c.args.part part.TableInitials c.args.index c.in-TableInitials.is c.is_table_initial_right.result
    c.is_table_initial_right.ensures.decided

pub returns-in-GlobalInitials-clause-decided : goal.returns-in-GlobalInitials-clause-decided
returns-in-GlobalInitials-clause-decided c =
    of_part c.args.self.now c.args.part part.GlobalInitials c.args.index c.in-GlobalInitials.is c.is_global_initial_right.result
    c.is_global_initial_right.ensures.decided

pub returns-in-Elements-clause-decided : goal.returns-in-Elements-clause-decided
returns-in-Elements-clause-decided c =
    of_part c.args.self.now c.args.part part.Elements c.args.index c.in-Elements.is c.is_element_right.result
    c.is_element_right.ensures.decided

pub returns-in-Datas-clause-decided : goal.returns-in-Datas-clause-decided
returns-in-Datas-clause-decided c =
    of_part c.args.self.now c.args.part part.Datas c.args.index c.in-Datas.is c.is_data_right.result c.is_data_right.ensures.decided
