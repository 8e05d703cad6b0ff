use Rattle.std.proofs.Common.{arith}
use Rattle.std.proofs.lemmas.Result.{on_ok_weaker}
use Rattle.smith_text_file.proofs.fields.write_file.Goals as goal

-- the first text is written, and nothing is lost after it
pub returns-clause-writes : goal.returns-clause-writes
returns-clause-writes g c = on_ok_weaker c.write_str-2.result
    (λ writes before after held low high. writes after after (
    c.in_ok-write_contents.ensures.keeps after (
    c.in_ok-write_definitions.ensures.keeps after (
    c.in_ok-write_imports.ensures.keeps after (
    c.in_ok-write_types.ensures.keeps after (
    c.in_ok-write_module_name.ensures.keeps after (
    c.in_ok-write_str.ensures.writes before after held low (omega arith)))))))
    (omega arith) (omega arith))
    c.write_str-2.ensures.writes
