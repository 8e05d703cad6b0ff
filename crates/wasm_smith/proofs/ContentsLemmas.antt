-- The requirements of exports, segments, a start function and interesting values on types, imports
-- and definitions.
use Rattle.wasm_smith.proofs.Common.{All, All-weaker, arith, Config, defined_end, EntitySpaces, false, Features, features_of, FixesExports}
use Rattle.wasm_smith.proofs.Common.{GroupedTypes, IfSome, inl, inr, IsTrue, length, MemoryType, spaces_in, ℕ, ◌<◌, ◌^◌, ◌≡◌, ◌≤◌}
use Rattle.std.proofs.Common.{None, Option, Some}
use Rattle.std.specs.Prelude.{◌⊎◌}
use Rattle.smith_bytes.specs.declared.error.Count.TheVariants as counts
use Rattle.smith_types.specs.Entities.{IsMemoryValid, page_log2}
use Rattle.smith_draw_consts.specs.ConstScopes.{AreSpacesValid}
use Rattle.smith_draw_types.specs.declared.spaces.Spaces.{Spaces}
use Rattle.wasm_smith.specs.Contents.{MayHoldContents, AreSpacesOver}
use Rattle.wasm_smith.specs.DrawnContents.{TellsImported, imported_in}
use Rattle.wasm_smith.specs.DrawnSteps.{AreExportsDrawn}
use Rattle.wasm_smith.specs.declared.build.parts_so_far.PartsSoFar.{PartsSoFar}
use Rattle.smith_draw_contents.specs.DrawnElements.{MayDrawElements}
use Rattle.smith_draw_contents.specs.Exported.{MayExport, MayExportFreely, MayDrawExports}

-- definitions determine the imports
pub imports_told : {config : Config} {drawn : PartsSoFar} → AreExportsDrawn config drawn → TellsImported (imported_in drawn.imported)
    (spaces_in drawn.imported.spaces) drawn.definitions
imports_told h = record { funcs = omega (arith, defined_end h.whole.stands.funcs); globals = defined_end h.whole.stands.globals }

-- a page has at most 64 KiB
page_small : (features : Features) (stated : Option ℕ)
    → IfSome stated (λ log2. ((log2 ≡ 0) ⊎ (log2 ≡ 16)) × IsTrue features.custom_page_sizes) → page_log2 stated ≤ 16
page_small features None h = omega arith
page_small features (Some log2) (inl byte, on) = omega (arith, byte)
page_small features (Some log2) (inr whole, on) = omega (arith, whole)

module _ {config : Config} {space : GroupedTypes} {spaces : EntitySpaces} {imports_size : ℕ}
    (may : MayHoldContents config space spaces imports_size) where
  -- the pages of memories are small, as interesting values require
  pub pages_small : All (λ (memory : MemoryType). page_log2 memory.page_size_log2 ≤ 16) spaces.memories
  pages_small = All-weaker (IsMemoryValid (features_of config)) (λ (memory : MemoryType). page_log2 memory.page_size_log2 ≤ 16)
      (λ memory valid. page_small (features_of config) memory.page_size_log2 valid.page_size) spaces.memories may.entities.memories

  pub may_export : MayExport space.types spaces
  may_export = record { sized = may.sized; funcs = may.entities.funcs; few = may.few }

  pub may_export_freely : (FixesExports config → ⊥) → config.export_everything ≡ false
      → MayExportFreely config space.types spaces imports_size
  may_export_freely free some = record {
    items = may_export;
    ordered = may.passes.ordered counts.Exports (free, some);
    within = may.within;
    small = may.small;
    small_imports = may.small_imports;
    tables = may.tables;
    memories = may.memories;
    globals = may.globals;
  }

  pub may_draw_exports : (FixesExports config → ⊥) → MayDrawExports config space.types spaces imports_size
  may_draw_exports free = record { not_fixed = free; items = may_export; within = may.within; freely = may_export_freely free }

  module _ {num_funcs num_globals : ℕ} {over : Spaces} (seen : AreSpacesOver space spaces num_funcs num_globals over) where
    -- everything that a segment may refer to is valid
    pub spaces_valid : num_globals ≤ length spaces.globals → AreSpacesValid config over
    spaces_valid count = record {
      types = rw seen.types may.types;
      funcs = rw (seen.types, seen.funcs) may.entities.funcs;
      globals = rw (seen.types, seen.globals) may.entities.globals;
      imported = rw (seen.imported_globals, seen.globals) count;
      few_funcs = rw seen.funcs may.few.funcs;
      few_globals = rw seen.globals may.few.globals;
    }

    pub may_draw_elements : num_globals ≤ length spaces.globals → MayDrawElements config over
    may_draw_elements count = record {
      passes = may.passes;
      sanitized = may.sanitized;
      standing = spaces_valid count;
      tables = rw (seen.types, seen.tables) may.entities.tables;
      few_tables = rw seen.tables may.few.tables;
    }

    -- memories are valid and few, as data segments require
    pub memories_valid : All (IsMemoryValid (features_of config)) over.entities.memories.now
    memories_valid = rw seen.memories may.entities.memories

    pub memories_few : length over.entities.memories.now < 2 ^ 32
    memories_few = rw seen.memories may.few.memories
