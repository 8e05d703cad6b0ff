-- The results of `spell`: bytes from which a module with these types and functions is drawn,
-- whatever bytes follow. Rules of this project.
use Rattle.std.specs.Prelude.{◌≡◌, ℕ, ◌≤◌, false, List, [], length, Option, Some, None, Result, Ok, Err}
use Rattle.smith_bytes.specs.declared.error.Error.{Error}
use Rattle.smith_bytes.specs.declared.error.Error.TheVariants.{Memory}
use Rattle.smith_types.specs.Syntax.composite_type.SubType.{SubType}
use Rattle.smith_config.specs.declared.config.Config.{Config}
use Rattle.smith_config.specs.Faults.{Passes}
use Rattle.smith_config.specs.InUse.{HasNoShapes}
use Rattle.smith_config.specs.Sanitized.{sanitized}
use Rattle.smith_config.specs.Minimums.{HasNoMinimums}
use Rattle.smith_spell.specs.Family.{IsInFamily}
use Rattle.smith_spell.specs.Spelling.{SpellsMember}

-- lists can be spelled for a sanitised configuration: they are in the family, and the configuration
-- passes its check, has no minimums and no shapes, and does not export everything
pub record IsSpellable (config : Config) (groups : List (List SubType)) (funcs : List ℕ) : Type 0 where
  pub passes : Passes config
  pub no_minimums : HasNoMinimums config
  pub no_shapes : HasNoShapes config
  pub not_everything : config.export_everything ≡ false
  pub member : IsInFamily config groups funcs

-- the error is lack of memory, which is reported only if the groups can be spelled without
-- functions, and the configuration allows this number of functions
pub record IsSpellingRefused (config : Config) (groups : List (List SubType)) (funcs : List ℕ) (error : Error) : Type 0 where
  pub memory : error ≡ Memory
  pub groups_alone : IsSpellable config groups []
  pub few_funcs : length funcs ≤ config.max_funcs

-- the result: bytes that spell the lists; none exactly if the lists cannot be spelled; or lack of
-- memory
abbrev pub AnswersSpelling : Config → List (List SubType) → List ℕ → Result (Option (List ℕ)) Error → Type 0
AnswersSpelling config groups funcs (Ok (Some bytes)) = IsSpellable (sanitized config) groups funcs × SpellsMember (sanitized config) groups
    funcs bytes
AnswersSpelling config groups funcs (Ok None) = IsSpellable (sanitized config) groups funcs → ⊥
AnswersSpelling config groups funcs (Err error) = IsSpellingRefused (sanitized config) groups funcs error
