use Rattle.std.proofs.Common.{refl, [], ◌∷◌}
use Rattle.smith_binary.specs.Pieces.{Each}
use Rattle.smith_custom_sections.specs.ExampleCustoms.{after_preamble}
use Rattle.smith_custom_sections.proofs.FileLemmas.{plain_cut}
use Rattle.smith_custom_sections.proofs.ExampleLemmas.{left_out, plain_head, two_customs}
use Rattle.smith_custom_sections.proofs.examples.files.Goals as goal

pub returns-clause-preamble : goal.returns-clause-preamble
unfolding Each
returns-clause-preamble c = ([], record { first = after_preamble []; second = []; is_first = refl; is_second = refl; whole = refl })

pub returns-clause-custom_section : goal.returns-clause-custom_section
returns-clause-custom_section c = λ h. plain_head h.0 (0x01 ∷ 0x00 ∷ []) (plain_cut h.0 (after_preamble (0x00 ∷ 0x01 ∷ 0x00 ∷ [])) h.1).back

pub returns-clause-left_out : goal.returns-clause-left_out
returns-clause-left_out c = left_out

pub returns-clause-two_customs : goal.returns-clause-two_customs
returns-clause-two_customs c = two_customs
