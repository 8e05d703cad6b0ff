use Rattle.smith_decode.proofs.DefinitionLemmas.{table_def_decodes, global_def_decodes}
use Rattle.smith_decode.proofs.laws.definitions_are_read.Goals as goal

pub returns-clause-tables : goal.returns-clause-tables
returns-clause-tables c = table_def_decodes

pub returns-clause-globals : goal.returns-clause-globals
returns-clause-globals c = global_def_decodes
