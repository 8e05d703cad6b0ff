use Rattle.std.proofs.lemmas.Result.{on_ok_weaker}
use Rattle.smith_binary.proofs.WrittenLemmas.{joined_written}
use Rattle.smith_binary_module.proofs.modules.write_front.Goals as goal

pub returns-clause-writes : goal.returns-clause-writes
returns-clause-writes c = on_ok_weaker c.write_tables.result (λ last. joined_written c.in_ok-write_types.ensures.writes
    (joined_written c.in_ok-write_imports.ensures.writes (joined_written c.in_ok-write_functions.ensures.writes last)))
    c.write_tables.ensures.writes
