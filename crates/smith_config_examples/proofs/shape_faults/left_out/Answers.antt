use Rattle.smith_config_examples.proofs.Common.{◌≡◌, true, false, None, arith, shared_type, plain_func, table, funcref}
use Rattle.smith_config_examples.proofs.shape_faults.left_out.Goals as goal

pub returns-clause-shared_type : goal.returns-clause-shared_type
returns-clause-shared_type c = λ nothing. let never : true ≡ false = nothing.types 0 (shared_type plain_func) (omega arith) in cc never

pub returns-clause-shared_table : goal.returns-clause-shared_table
returns-clause-shared_table c = λ nothing. let never : true ≡ false = nothing.tables 0 (record (table funcref 1 None) { shared = true })
    (omega arith) in cc never
