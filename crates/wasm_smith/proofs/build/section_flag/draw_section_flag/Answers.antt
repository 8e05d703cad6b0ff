use Rattle.smith_bytes.specs.Draws.{bool_at}
use Rattle.smith_bytes.proofs.SpelledLemmas.{bool_read, takes_by}
use Rattle.wasm_smith.proofs.build.section_flag.draw_section_flag.Goals as goal

pub returns-clause-reach : goal.returns-clause-reach
returns-clause-reach c = λ none. takes_by bool_at bool_read c.arbitrary.ensures.exact
