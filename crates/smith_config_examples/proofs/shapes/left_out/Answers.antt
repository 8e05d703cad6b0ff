use Rattle.smith_config_examples.proofs.Common.{◌≡◌, true, false, None, arith, I32, constant_global, table, shared_type, plain_func}
use Rattle.smith_config_examples.proofs.Common.{funcref}
use Rattle.smith_config_examples.proofs.shapes.left_out.Goals as goal

pub returns-clause-shared_global : goal.returns-clause-shared_global
returns-clause-shared_global c = λ nothing. let never : true ≡ false = nothing.globals 0 (constant_global I32) (omega arith) in cc never

pub returns-clause-shared_type : goal.returns-clause-shared_type
returns-clause-shared_type c = λ nothing. let never : true ≡ false = nothing.types 0 (shared_type plain_func) (omega arith) in cc never

pub returns-clause-shared_table : goal.returns-clause-shared_table
returns-clause-shared_table c = λ nothing. let never : true ≡ false = nothing.tables 0 (record (table funcref 1 None) { shared = true })
    (omega arith) in cc never
