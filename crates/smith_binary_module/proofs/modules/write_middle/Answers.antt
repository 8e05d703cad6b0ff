use Rattle.std.proofs.lemmas.Result.{on_ok_weaker}
use Rattle.smith_binary.proofs.WrittenLemmas.{joined_written}
use Rattle.smith_binary_module.proofs.modules.write_middle.Goals as goal

pub returns-clause-writes : goal.returns-clause-writes
returns-clause-writes c = on_ok_weaker c.write_exports.result (λ last. joined_written c.in_ok-write_memories.ensures.writes
    (joined_written c.in_ok-write_tags.ensures.writes (joined_written c.in_ok-write_globals.ensures.writes last)))
    c.write_exports.ensures.writes
