use Rattle.smith_config_examples.proofs.Common.{◌≡◌, true, false, Some, None, arith, open_type, final_type, empty_struct, plain_func}
use Rattle.smith_types.specs.Syntax.value_type.AbstractHeapType.TheVariants as heap
use Rattle.smith_config_examples.proofs.shapes.plain.Goals as goal

pub returns-clause-not_final : goal.returns-clause-not_final
returns-clause-not_final c = λ plain. let never : false ≡ true = (plain.types 0 (open_type None plain_func) (omega arith)).final in cc never

pub returns-clause-struct_type : goal.returns-clause-struct_type
returns-clause-struct_type c = λ plain. let never : heap.Struct ≡ heap.Func =
    (plain.types 0 (final_type empty_struct) (omega arith)).function in cc never

pub returns-clause-with_a_supertype : goal.returns-clause-with_a_supertype
returns-clause-with_a_supertype c = λ plain. cc ((plain.types 0 (record (final_type plain_func) { supertype = Some 0 }) (omega arith)).root)
