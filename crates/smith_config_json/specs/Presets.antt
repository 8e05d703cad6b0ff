-- The presets, by name: each changes a configuration to suit a version of the standard, a tool, or
-- modules that are run. Rules of this project.
use Rattle.std.specs.Prelude.{ℕ, List, [], ◌∷◌, ◌^◌, true, false, Option, Some, None, codes, map}
use Rattle.std.specs.Borrow.{Bor}
use Rattle.smith_config.specs.declared.config.Config.{Config}
use Rattle.smith_config_json.specs.declared.preset.Preset.{Preset}
use Rattle.smith_config_json.specs.declared.preset.Preset.TheVariants.{Run, Version1, Version2, Version3, Proposals, Wabt, Binaryen, V8}
use Rattle.smith_config_json.specs.declared.preset.Preset.TheVariants.{SpiderMonkey, JavaScriptCore}
use Rattle.smith_config_json.specs.Fields.{Table, named}

-- version 3.0 of the standard: all its features, and no proposal beyond it
abbrev pub third_version : Config → Config
third_version config = record config {
  max_memories = 4;
  max_tables = 4;
  reference_types_enabled = true;
  gc_enabled = true;
  custom_descriptors_enabled = false;
  multi_value_enabled = true;
  bulk_memory_enabled = true;
  simd_enabled = true;
  exceptions_enabled = true;
  threads_enabled = false;
  shared_everything_threads_enabled = false;
  memory64_enabled = true;
  custom_page_sizes_enabled = false;
  extended_const_enabled = true;
  compact_imports_enabled = false;
  relaxed_simd_enabled = true;
  saturating_float_to_int_enabled = true;
  sign_extension_ops_enabled = true;
  tail_call_enabled = true;
  wide_arithmetic_enabled = false;
  non_nullable_enabled = true;
}

-- version 2.0
abbrev pub second_version : Config → Config
second_version config = let c = third_version config in record c {
  max_memories = 1;
  gc_enabled = false;
  exceptions_enabled = false;
  memory64_enabled = false;
  extended_const_enabled = false;
  relaxed_simd_enabled = false;
  tail_call_enabled = false;
  non_nullable_enabled = false;
}

-- version 1.0
abbrev pub first_version : Config → Config
first_version config = let c = second_version config in record c {
  max_tables = 1;
  reference_types_enabled = false;
  multi_value_enabled = false;
  bulk_memory_enabled = false;
  simd_enabled = false;
  saturating_float_to_int_enabled = false;
  sign_extension_ops_enabled = false;
}

-- version 3.0 with every proposal
abbrev pub with_proposals : Config → Config
with_proposals config = let c = third_version config in record c {
  custom_descriptors_enabled = true;
  threads_enabled = true;
  shared_everything_threads_enabled = true;
  custom_page_sizes_enabled = true;
  compact_imports_enabled = true;
  wide_arithmetic_enabled = true;
}

-- proposals that no engine enables by default are off; a 64-bit memory has at most 262,144 pages
abbrev pub within_engines : Config → Config
within_engines config = record config {
  max_memory64_bytes = 2 ^ 34;
  custom_descriptors_enabled = false;
  shared_everything_threads_enabled = false;
  custom_page_sizes_enabled = false;
  compact_imports_enabled = false;
  wide_arithmetic_enabled = false;
}

-- as for engines, with at most one memory, and without garbage collection, and so without branches
-- on references, 64-bit memories and relaxed vector instructions: what JavaScriptCore accepts
abbrev pub within_javascriptcore : Config → Config
within_javascriptcore config = let c = within_engines config in record c {
  max_memories = 1;
  gc_enabled = false;
  memory64_enabled = false;
  relaxed_simd_enabled = false;
}

-- as for engines, and without reference types, garbage collection, exceptions and 64-bit memories:
-- what wabt accepts
abbrev pub within_wabt : Config → Config
within_wabt config = let c = within_engines config in record c {
  reference_types_enabled = false;
  gc_enabled = false;
  exceptions_enabled = false;
  memory64_enabled = false;
}

-- as for wabt, with no imports, at most one export and exactly one memory, and without traps,
-- multi-value, bulk memory and relaxed vector instructions. Binaryen accepts only few names, no
-- passive segments, no segments beyond the end of their memory or table, and no `atomic.fence`
-- without a memory.
abbrev pub within_binaryen : Config → Config
within_binaryen config = let c = within_wabt config in record c {
  max_imports = 0;
  max_exports = 1;
  min_memories = 1;
  max_memories = 1;
  disallow_traps = true;
  multi_value_enabled = false;
  bulk_memory_enabled = false;
  relaxed_simd_enabled = false;
}

-- modules without imports that have a function and export all functions; memories, tables and
-- segments are small and few, so that engines instantiate most modules
abbrev pub to_run : Config → Config
to_run config = let c = within_engines config in record c {
  min_types = 12;
  max_types = 100;
  max_imports = 0;
  min_funcs = 1;
  max_funcs = 100;
  max_element_segments = 4;
  max_data_segments = 1;
  max_memory32_bytes = 2 ^ 24;
  max_memory64_bytes = 2 ^ 24;
  max_table_elements = 10000;
  limit_arrays_in_const_exprs = true;
  allow_start_export = false;
  export_everything = true;
}

-- the change of a configuration by a preset
unfoldable pub with_preset : Preset → Config → Config
with_preset Run = to_run
with_preset Version1 = first_version
with_preset Version2 = second_version
with_preset Version3 = third_version
with_preset Proposals = with_proposals
with_preset Wabt = within_wabt
with_preset Binaryen = within_binaryen
with_preset V8 = within_engines
with_preset SpiderMonkey = within_engines
with_preset JavaScriptCore = within_javascriptcore

-- every preset, by its name
abbrev pub presets : Table Preset
presets =
    (codes "run", Run)
    ∷ (codes "mvp", Version1)
    ∷ (codes "2.0", Version2)
    ∷ (codes "3.0", Version3)
    ∷ (codes "proposals", Proposals)
    ∷ (codes "wabt", Wabt)
    ∷ (codes "binaryen", Binaryen)
    ∷ (codes "v8", V8)
    ∷ (codes "spidermonkey", SpiderMonkey)
    ∷ (codes "jsc", JavaScriptCore)
    ∷ []

-- the preset with a name
unfoldable pub preset_named : List ℕ → Option Preset
preset_named name = named name presets

-- a configuration with a preset, if there is one
abbrev pub changed_by : Option Preset → Config → Config
changed_by None config = config
changed_by (Some preset) config = with_preset preset config

-- the presets of a table in the code
abbrev pub presets_in : List (Bor (List ℕ) × Preset) → Table Preset
presets_in table = map (λ entry. (entry.0.now, entry.1)) table
