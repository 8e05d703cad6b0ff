use Rattle.std.proofs.Common.{arith}
use Rattle.std.proofs.lemmas.Result.{on_ok_weaker}
use Rattle.smith_text.proofs.module.write_with_bodies.Goals as goal

-- the first text is written, and nothing is lost after it
pub returns-clause-writes : goal.returns-clause-writes
returns-clause-writes g c = on_ok_weaker c.write_end.result
    (λ keeps before after held low high. keeps after (c.in_ok-write_str-2.ensures.writes after after (
    c.in_ok-write_data_segments.ensures.keeps after (
    c.in_ok-write_functions.ensures.keeps after (
    c.in_ok-write_element_segments.ensures.keeps after (
    c.in_ok-write_exports.ensures.keeps after (
    c.in_ok-write_globals.ensures.keeps after (
    c.in_ok-write_tags.ensures.keeps after (
    c.in_ok-write_memories.ensures.keeps after (
    c.in_ok-write_tables.ensures.keeps after (
    c.in_ok-write_imports.ensures.keeps after (
    c.in_ok-write_types.ensures.keeps after (
    c.in_ok-write_str.ensures.writes before after held low (omega arith)))))))))))
    ) (omega arith) (omega arith)))
    c.write_end.ensures.keeps
