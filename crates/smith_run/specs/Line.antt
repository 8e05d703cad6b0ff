-- The lines that the program writes to standard output.
use Rattle.std.specs.Prelude.{ℕ, List, ◌++◌, length, Option, Some, None, Result, Ok, Err, codes, decimal}
use Rattle.smith_bytes.specs.declared.error.Error.{Error}
use Rattle.smith_bytes.specs.ErrorNames.{refusal_name}
use Rattle.smith_module_rules.specs.Module.{ModuleParts}

-- an index in decimal digits, or the word for none
abbrev pub index_or_none : Option ℕ → List ℕ
index_or_none (Some index) = decimal index
index_or_none None = codes "none"

-- the number of items of each kind of a module, and its start function
unfoldable pub counts_line : ModuleParts → List ℕ
counts_line parts =
    codes "types " ++ decimal (length parts.types)
    ++ codes " groups " ++ decimal (length parts.groups)
    ++ codes " imports " ++ decimal parts.num_imports
    ++ codes " tags " ++ decimal (length parts.tags)
    ++ codes " funcs " ++ decimal (length parts.funcs)
    ++ codes " tables " ++ decimal (length parts.tables)
    ++ codes " memories " ++ decimal (length parts.memories)
    ++ codes " globals " ++ decimal (length parts.globals)
    ++ codes " exports " ++ decimal (length parts.exports)
    ++ codes " start " ++ index_or_none parts.start
    ++ codes " elems " ++ decimal (length parts.elems)
    ++ codes " data " ++ decimal (length parts.datas)
    ++ codes "\n"

-- the line that reports a module or an error
abbrev pub line_of : Result ModuleParts Error → List ℕ
line_of (Ok parts) = counts_line parts
line_of (Err refusal) = codes "refused: " ++ refusal_name refusal ++ codes "\n"
