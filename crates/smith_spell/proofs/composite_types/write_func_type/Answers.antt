use Rattle.smith_spell.proofs.Common.{on_ok_weaker}
use Rattle.smith_spell.proofs.WrittenCompositeLemmas.{function_written}
use Rattle.smith_spell.proofs.composite_types.write_func_type.Goals as goal

pub returns-clause-writes : goal.returns-clause-writes
returns-clause-writes c =
    on_ok_weaker c.write_val_types-2.result (function_written c.args.config.now c.args.limit c.args.function.now
    (rw c.as_slice.ensures at c.in_ok-write_val_types.ensures.writes))
    (rw (c.as_slice-2.ensures, c.most_results-most.ensures) at c.write_val_types-2.ensures.writes)
