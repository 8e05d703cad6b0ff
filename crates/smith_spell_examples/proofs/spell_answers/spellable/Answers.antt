use Rattle.smith_spell_examples.proofs.SpellExamples.{function_spellable}
use Rattle.smith_spell_examples.proofs.spell_answers.spellable.Goals as goal

pub returns-clause-a_function : goal.returns-clause-a_function
returns-clause-a_function c = function_spellable
