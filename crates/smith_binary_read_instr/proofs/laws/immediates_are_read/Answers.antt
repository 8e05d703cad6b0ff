use Rattle.smith_binary_read_instr.proofs.ImmediateLemmas.{block_type_decodes, branch_cast_decodes, catch_decodes}
use Rattle.smith_binary_read_instr.proofs.MemArgLemmas.{mem_arg_decodes}
use Rattle.smith_binary_read_instr.proofs.laws.immediates_are_read.Goals as goal

pub returns-clause-blocks : goal.returns-clause-blocks
returns-clause-blocks c = block_type_decodes

pub returns-clause-clauses : goal.returns-clause-clauses
returns-clause-clauses c = catch_decodes

pub returns-clause-casts : goal.returns-clause-casts
returns-clause-casts c = branch_cast_decodes

pub returns-clause-places : goal.returns-clause-places
returns-clause-places c = mem_arg_decodes
