use Rattle.smith_custom_sections.proofs.ExampleLemmas.{custom_is_gone, custom_left, section_left_out}
use Rattle.smith_custom_sections.proofs.examples.files_without_customs.Goals as goal

pub returns-clause-custom_section_that_stays : goal.returns-clause-custom_section_that_stays
returns-clause-custom_section_that_stays c = custom_left

pub returns-clause-section_that_goes : goal.returns-clause-section_that_goes
returns-clause-section_that_goes c = section_left_out

pub returns-clause-custom_section : goal.returns-clause-custom_section
returns-clause-custom_section c = custom_is_gone
