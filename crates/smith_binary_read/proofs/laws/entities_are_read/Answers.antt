use Rattle.smith_binary_read.proofs.ContentLemmas.{name_decodes}
use Rattle.smith_binary_read.proofs.TypeLemmas.{ref_decodes, val_decodes, group_decodes}
use Rattle.smith_binary_read.proofs.EntityLemmas.{memory_decodes, extern_decodes, export_decodes}
use Rattle.smith_binary_read.proofs.ImportLemmas.{import_group_decodes}
use Rattle.smith_binary_read.proofs.TagLemmas.{tag_def_decodes}
use Rattle.smith_binary_read.proofs.laws.entities_are_read.Goals as goal

pub returns-clause-names : goal.returns-clause-names
returns-clause-names c = name_decodes

pub returns-clause-references : goal.returns-clause-references
returns-clause-references c = ref_decodes

pub returns-clause-values : goal.returns-clause-values
returns-clause-values c = val_decodes

pub returns-clause-groups : goal.returns-clause-groups
returns-clause-groups c = group_decodes

pub returns-clause-memories : goal.returns-clause-memories
returns-clause-memories c = memory_decodes

pub returns-clause-entities : goal.returns-clause-entities
returns-clause-entities c = extern_decodes

pub returns-clause-imports : goal.returns-clause-imports
returns-clause-imports c = import_group_decodes

pub returns-clause-exports : goal.returns-clause-exports
returns-clause-exports c = export_decodes

pub returns-clause-tags : goal.returns-clause-tags
returns-clause-tags c = tag_def_decodes
