-- The sections that are written for a module. Rules of this project.
use Rattle.std.specs.Prelude.{ℕ, Bool, true, false, ◌&&◌, ◌||◌, nat_lt, is_some, List, [], ◌∷◌, ◌++◌, length}
use Rattle.smith_binary.specs.Pieces.{Joined, Each, IsSection}
use Rattle.smith_module_rules.specs.Module.{ModuleParts}
use Rattle.smith_binary_sections.specs.Modules.{IsPreamble}
use Rattle.smith_binary_module.specs.Contents.{defined}

-- whether a list is not empty
abbrev pub is_filled : {A : Type 0} → List A → Bool
is_filled xs = nat_lt 0 (length xs)

-- a section's identifier, if the section is written
abbrev pub id_if : Bool → ℕ → List ℕ
id_if true id = id ∷ []
id_if false id = []

-- whether the type section is written: if the module requests it, or the section is not empty
abbrev pub writes_types : ModuleParts → Bool
writes_types m = m.encodes_types || is_filled m.groups

-- whether the import section is written: if the module requests it, or the section is not empty
abbrev pub writes_imports : ModuleParts → Bool
writes_imports m = m.encodes_imports || is_filled m.imports

-- whether the data count section is written: if bulk memory is enabled, and there is a data segment
abbrev pub writes_data_count : ModuleParts → Bool
writes_data_count m = m.config.bulk_memory_enabled && is_filled m.datas

-- the identifiers of the sections that are written; an empty section is not, except for the type
-- and import sections
abbrev pub section_ids : ModuleParts → List ℕ
section_ids m =
    id_if (writes_types m) 1 ++ (id_if (writes_imports m) 2 ++ (id_if (is_filled (defined m.num_defined_funcs m.funcs)) 3
    ++ (id_if (is_filled m.defined_tables) 4 ++ (id_if (is_filled (defined m.num_defined_memories m.memories)) 5
    ++ (id_if (is_filled (defined m.num_defined_tags m.tags)) 13 ++ (id_if (is_filled m.defined_globals) 6
    ++ (id_if (is_filled m.exports) 7 ++ (id_if (is_some m.start) 8 ++ (id_if (is_filled m.elems) 9
    ++ (id_if (writes_data_count m) 12 ++ (id_if (is_filled m.code) 10 ++ id_if (is_filled m.datas) 11)))))))))))

-- a section with any content
abbrev pub IsAnySection : ℕ → List ℕ → Type 0
IsAnySection id = IsSection id (λ content. Unit {0})

-- the preamble, then sections with these identifiers
abbrev pub HasSections : List ℕ → List ℕ → Type 0
HasSections ids = Joined IsPreamble (Each IsAnySection ids)
