-- The bytes left of a source if nothing is imported, and the kind of a group.
use Rattle.smith_draw_imports.proofs.Common.{[], ap, arith, Bool, Config, false, Imports, length, List, refl, SubType, suc, ℕ, ◌++◌, ◌+◌}
use Rattle.smith_draw_imports.proofs.Common.{◌<◌, ◌∷◌, ◌≡◌}
use Rattle.std.proofs.Common.{drop, lt-ltb, zero}
use Rattle.std.proofs.Common.{length-drop}
use Rattle.std.specs.Prelude.{Result, Ok, OnOk}
use Rattle.smith_bytes.specs.Draws.{whole_at}
use Rattle.smith_bytes.specs.Spelling.{SpellsBool, SpellsNone}
use Rattle.smith_bytes.specs.Takes.{Takes}
use Rattle.smith_bytes.specs.declared.error.Error.{Error}
use Rattle.smith_bytes.proofs.SpelledLemmas.{bool_read}
use Rattle.smith_bytes.specs.Steps.{ReturnsWhy}
use Rattle.smith_draw_imports.specs.Importing.{groups_at, imports_at}
use Rattle.smith_draw_imports.specs.Imported.{SpellsNoImport}
use Rattle.smith_bytes.proofs.StepLemmas.{given_takes}

-- a drawn number above 0 takes a byte
pub whole_takes : (bytes after : List ℕ) (x : ℕ) → whole_at 4 bytes ≡ (x, after) → 0 < x → length after < length bytes
unfolding whole_at
whole_takes [] after x read some = let none : 0 ≡ x = ap (λ (r : ℕ × List ℕ). r.0) read in absurd (omega arith)
whole_takes (b ∷ bytes) after x read some = let rest : drop 4 (b ∷ bytes) ≡ after = ap (λ (r : ℕ × List ℕ). r.1) read in
    let len = ap (λ (xs : List ℕ). length xs) rest in omega (arith, len, length-drop 4 (b ∷ bytes))

-- a piece that spells no import is read
no_groups_by : (config : Config) (types : List SubType) (distinct : Bool) (most turns : ℕ) (piece after : List ℕ) → config.min_imports ≡ 0
    → config.max_imports ≡ most → SpellsNone most piece → groups_at config types distinct (suc turns) [] (piece ++ after) ≡ ([], after)
unfolding groups_at
no_groups_by config types distinct zero turns piece after none most spelled = rw (most, spelled) refl
no_groups_by config types distinct (suc m) turns piece after none most spelled =
    let stop : SpellsBool false piece = rw (lt-ltb 0 (suc m) (omega arith)) at spelled in
    rw (most, none, lt-ltb 0 (suc m) (omega arith), bool_read false piece after stop) refl

pub no_import_read : (config : Config) (types : List SubType) (distinct : Bool) (piece after : List ℕ) → config.min_imports ≡ 0
    → SpellsNone config.max_imports piece → imports_at config types distinct (piece ++ after) ≡ Ok ([], after)
unfolding imports_at
no_import_read config types distinct piece after none spelled =
    let k : config.max_imports + length (piece ++ after) + 1 ≡ suc (config.max_imports + length (piece ++ after)) = omega arith in
    rw (
      k,
      no_groups_by config types distinct config.max_imports (config.max_imports + length (piece ++ after)) piece after none refl
          spelled,
      none,
    ) refl

pub no_import_taken : {X : Type 0} (config : Config) (types : List SubType) (distinct : Bool) (groups : List Imports) (old new : List ℕ)
    (r : Result X Error) → config.min_imports ≡ 0 → ReturnsWhy (λ _. (groups, new)) r (imports_at config types distinct old)
    → OnOk r (Takes (SpellsNoImport config) old groups new)
unfolding SpellsNoImport
no_import_taken config types distinct groups old new r none given =
    given_takes (SpellsNoImport config) (λ _. groups) (imports_at config types distinct) old new r
    (λ made piece after h. rw h.0 (no_import_read config types distinct piece after none h.1)) given
