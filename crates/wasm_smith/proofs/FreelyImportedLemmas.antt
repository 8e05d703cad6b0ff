-- The parts after imports are drawn, if no shape fixes them, are valid and no more than the
-- configuration allows.
use Rattle.wasm_smith.proofs.Common.{All, All-weaker, AreNumbersWithin, arith, Bool, Config, EntitySpaces, flattened, Imported}
use Rattle.wasm_smith.proofs.Common.{imported_spaces, inr, IsSanitized, None, nothing_defined, subst, sym, ◌≡◌}
use Rattle.smith_config.specs.EntityBounds.{IsTableWithin, IsMemoryWithin}
use Rattle.smith_draw_imports.specs.Imported.{AreSpacesWithin, IsImported, spaces_of}
use Rattle.wasm_smith.specs.FirstParts.{IsMemoryKept, IsTableKept, StandsSoFar}
use Rattle.wasm_smith.specs.declared.build.parts_so_far.PartsSoFar.{PartsSoFar}
use Rattle.wasm_smith.proofs.FirstPartsLemmas.{stands_alone, taken_enabled}
use Rattle.wasm_smith.proofs.FirstPartsStandLemmas.{taken_most}

numbers_of : {config : Config} {spaces : EntitySpaces} → AreSpacesWithin config spaces → AreNumbersWithin config spaces
numbers_of within = record {
  tags = within.tags;
  funcs = within.funcs;
  tables = within.tables;
  memories = within.memories;
  globals = within.globals;
}

-- drawn imports replace none, if nothing is defined yet
pub freely_stands : (config : Config) (distinct : Bool) (drawn : PartsSoFar) (made : Imported) → config.module_shape ≡ None
    → config.available_imports ≡ None → IsSanitized config → StandsSoFar config drawn → drawn.definitions ≡ nothing_defined
    → IsImported config drawn.types.types distinct made → StandsSoFar config (record drawn { imported = made })
freely_stands config distinct drawn made none free sanitized now nothing so_far =
    let all = imported_spaces (flattened made.groups) in
    let fit = so_far.fit in
    let spaces = so_far.counts.spaces in
    let numbers = numbers_of fit.within in
    record {
      groups = so_far.groups;
      count = so_far.counts.count;
      stands = rw (spaces, nothing) (stands_alone config drawn.types all now.stands.types fit.entities
          (taken_enabled config all sanitized numbers fit.tags));
      most = λ count is. let here = taken_most config (flattened made.groups) (spaces_of made) numbers spaces count is in
          omega (arith, here);
      most_types = now.most_types;
      most_imports = let here = fit.most in omega (arith, here);
      tables = All-weaker (IsTableWithin config) (IsTableKept config) (λ table h. inr h) made.spaces.tables
          (subst (λ (each : EntitySpaces). All (IsTableWithin config) each.tables) (sym spaces) fit.within.each_table);
      memories = All-weaker (IsMemoryWithin config) (IsMemoryKept config) (λ memory h. inr h) made.spaces.memories
          (subst (λ (each : EntitySpaces). All (IsMemoryWithin config) each.memories) (sym spaces) fit.within.each_memory);
      type_size = rw (none, free) so_far.counts.type_size;
      within = omega (arith, so_far.counts.type_size, fit.type_size);
    }
