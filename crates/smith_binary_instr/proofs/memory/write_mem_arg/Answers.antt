use Rattle.smith_binary_instr.proofs.Common.{arith, on_ok_weaker, ◌<◌}
use Rattle.std.proofs.Common.{◌^◌}
use Rattle.smith_binary_instr.proofs.FormLemmas.{first_arg_written, named_arg_written}
use Rattle.smith_binary_instr.proofs.memory.write_mem_arg.Goals as goal

pub returns-then-at-eq0-clause-writes : goal.returns-then-at-eq0-clause-writes
returns-then-at-eq0-clause-writes c =
    let small : c.args.at.align < 2 ^ 6 = omega arith in
    on_ok_weaker c.write_u64.result (first_arg_written c.args.at c.if-at-eq0.true small c.in_ok-write_u32.ensures.writes)
    c.write_u64.ensures.writes

pub returns-clause-writes : goal.returns-clause-writes
returns-clause-writes c =
    let small : c.args.at.align < 2 ^ 6 = omega arith in
    on_ok_weaker c.write_u64-2.result
    (named_arg_written c.args.at c.if-at-eq0.false small c.in_ok-write_u32-2.ensures.writes c.in_ok-write_u32-3.ensures.writes)
    c.write_u64-2.ensures.writes
