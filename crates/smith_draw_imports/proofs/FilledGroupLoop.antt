-- The iterations of the loop that fills a compact group.
use Rattle.smith_draw_imports.proofs.Common.{arith, Bool, Config, EntitySpaces, EntityType, false, Import, Imports, imports_of, List, refl}
use Rattle.smith_draw_imports.proofs.Common.{SubType, suc, sym, true, ℕ, ◌++◌, ◌+◌, ◌-◌, ◌<◌, ◌∙◌, ◌≡◌, ◌≤◌}
use Rattle.std.specs.Prelude.{Option, Some, None}
use Rattle.smith_bytes.specs.Draws.{bool_at}
use Rattle.smith_types.specs.Imports.{imported_spaces}
use Rattle.smith_draw_imports.specs.ImportNames.{import_name_at}
use Rattle.smith_draw_imports.specs.ImportedEntities.{sizes}
use Rattle.smith_draw_imports.specs.Importing.{fill_at, next_entity_at, module_name, with_import}

-- filling the group from here on completes the whole
pub record IsFilling (config : Config) (types : List SubType) (distinct : Bool) (before : List Import) (count : ℕ) (group : Imports)
    (bytes : List ℕ) (total : Bool × (Imports × List ℕ)) : Type 0 where
  pub so_far : fill_at config types distinct before (config.max_imports - count) group bytes ≡ total

module _ {config : Config} {types : List SubType} {distinct : Bool} {before : List Import} {count : ℕ} {group : Imports} {bytes : List ℕ}
    {total : Bool × (Imports × List ℕ)} where
  pub fill_stop : {mid : List ℕ} {b : Bool} → IsFilling config types distinct before count group bytes total → count < config.max_imports
      → bool_at bytes ≡ (b, mid) → b ≡ false → total ≡ (true, (group, mid))
  unfolding fill_at
  fill_stop {mid = mid} now room drawn off =
      let k : config.max_imports - count ≡ suc (config.max_imports - (count + 1)) = omega arith in
      let one : fill_at config types distinct before (config.max_imports - count) group bytes ≡ (true, (group, mid)) =
      rw (k, drawn, off) refl in
      sym now.so_far ∙ one

  pub fill_full : IsFilling config types distinct before count group bytes total → config.max_imports ≤ count
      → total ≡ (true, (group, bytes))
  unfolding fill_at
  fill_full now full =
      let k : config.max_imports - count ≡ 0 = omega arith in
      let one : fill_at config types distinct before (config.max_imports - count) group bytes ≡ (true, (group, bytes)) = rw k refl in
      sym now.so_far ∙ one

  pub fill_end : {mid after : List ℕ} {b : Bool} {spaces : EntitySpaces} {size : ℕ} {next : Option EntityType}
      → IsFilling config types distinct before count group bytes total → count < config.max_imports → bool_at bytes ≡ (b, mid) → b ≡ true
      → spaces ≡ imported_spaces (before ++ imports_of group) → size ≡ sizes types (before ++ imports_of group)
      → next_entity_at config types spaces size group mid ≡ (next, after) → next ≡ None → total ≡ (false, (group, after))
  unfolding fill_at
  fill_end {mid = mid} {after = after} {next = next} now room drawn on spaces_are size_is chosen none =
      let k : config.max_imports - count ≡ suc (config.max_imports - (count + 1)) = omega arith in
      let chosen_so : next_entity_at config types (imported_spaces (before ++ imports_of group)) (sizes types (before ++ imports_of group))
      group mid ≡ (next, after) = rw (spaces_are, size_is) at chosen in
      let one : fill_at config types distinct before (config.max_imports - count) group bytes ≡ (false, (group, after)) =
      rw (k, drawn, on, chosen_so, none) refl in
      sym now.so_far ∙ one

  pub fill_more : {mid after name rest : List ℕ} {b : Bool} {spaces : EntitySpaces} {size : ℕ} {next : Option EntityType} {one : EntityType}
      → IsFilling config types distinct before count group bytes total → count < config.max_imports → bool_at bytes ≡ (b, mid) → b ≡ true
      → spaces ≡ imported_spaces (before ++ imports_of group) → size ≡ sizes types (before ++ imports_of group)
      → next_entity_at config types spaces size group mid ≡ (next, after) → next ≡ Some one
      → import_name_at distinct (before ++ imports_of group) (module_name group) after ≡ (name, rest)
      → IsFilling config types distinct before (count + 1) (with_import group name one) rest total
  unfolding fill_at
  fill_more {mid = mid} {after = after} {name = name} {rest = rest} {next = next} {one = one} now room drawn on spaces_are size_is chosen
      some named =
      let k : config.max_imports - count ≡ suc (config.max_imports - (count + 1)) = omega arith in
      let chosen_so : next_entity_at config types (imported_spaces (before ++ imports_of group)) (sizes types (before ++ imports_of group))
      group mid ≡ (next, after) = rw (spaces_are, size_is) at chosen in
      let turn : fill_at config types distinct before (config.max_imports - count) group bytes ≡ fill_at config types distinct before
      (config.max_imports - (count + 1)) (with_import group name one) rest = rw (k, drawn, on, chosen_so, some, named) refl in
      record { so_far = sym turn ∙ now.so_far }
