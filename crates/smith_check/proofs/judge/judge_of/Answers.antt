use Rattle.smith_check.proofs.Common.{◌∙◌}
use Rattle.smith_check.proofs.judge.judge_of.Goals as goal

pub returns-clause-judge : goal.returns-clause-judge
returns-clause-judge c = record {
  supertypes = c.requires.supertypes;
  types = c.requires.checked;
  sections = c.requires.sections;
  spaces = c.requires.parts.spaces;
  imported = c.requires.parts.imported;
  elems = c.as_slice.ensures ∙ c.requires.parts.elems;
  references = c.as_slice-2.ensures ∙ c.requires.parts.references;
}
