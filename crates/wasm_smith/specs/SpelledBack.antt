-- Lists that are drawn again from their spelling. A rule of this project.
use Rattle.std.specs.Prelude.{◌≡◌, ℕ, Bool, List, ◌++◌, Some, Result, Ok, MatchResult}
use Rattle.wasm_smith.specs.Common.{Config, Error, Memory, ModuleParts, SubType}
use Rattle.smith_spell.specs.SpellAnswers.{AnswersSpelling}
use Rattle.wasm_smith.specs.Generated.{IsGenerated}
use Rattle.wasm_smith.specs.Members.{HasMember}

-- a module drawn from the bytes that `spell` returns for types and functions, and any bytes after
-- them, has these types and functions, unless memory runs out
abbrev pub SpelledComesBack : Type 0
SpelledComesBack =
    (distinct : Bool) (given : Config) (groups : List (List SubType)) (funcs piece remaining left : List ℕ)
    (answer : Result ModuleParts Error)
    → AnswersSpelling given groups funcs (Ok (Some piece)) → IsGenerated distinct given (piece ++ remaining) answer left
    → MatchResult answer (HasMember groups funcs) (λ e. e ≡ Memory)
