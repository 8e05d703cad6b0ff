-- The lists that cannot be spelled, and the result for other lists.
use Rattle.smith_spell.proofs.Common.{[], Config, length, List, sanitized, SubType, ℕ, ◌≡◌}
use Rattle.std.specs.Prelude.{◌≤◌, Option, Some, None, Result, Ok, Err, IfOk, IfErr, OnErr, MatchOption}
use Rattle.smith_bytes.specs.declared.error.Error.{Error}
use Rattle.smith_bytes.specs.declared.error.Error.TheVariants.{Memory}
use Rattle.smith_config.specs.Faults.{Passes}
use Rattle.smith_spell.specs.Family.{IsInFamily}
use Rattle.smith_spell.specs.Spelling.{SpellsMember}
use Rattle.smith_spell.specs.SpellAnswers.{IsSpellable, AnswersSpelling}
use Rattle.smith_spell.specs.Decided.{AsksForNothing}

-- a list cannot be spelled if the configuration imposes a minimum, a shape or export-everything
pub asked_in_vain : (config : Config) (groups : List (List SubType)) (funcs : List ℕ) → (AsksForNothing config → ⊥)
    → IsSpellable config groups funcs → ⊥
asked_in_vain config groups funcs more h =
    more (record { no_minimums = h.no_minimums; no_shapes = h.no_shapes; not_everything = h.not_everything })

-- a fact about every result is a fact about a refusal
pub on_refusal : {A E : Type 0} (Fact : Type 0) (answer : Result A E) → Fact → OnErr answer Fact
on_refusal Fact (Ok _) h = tt
on_refusal Fact (Err _) h = h

-- the result if the configuration passes and imposes none of these
pub answered : (config : Config) (groups : List (List SubType)) (funcs : List ℕ) → AsksForNothing (sanitized config)
    → Passes (sanitized config) → (answer : Result (Option (List ℕ)) Error)
    → IfOk answer (λ found. MatchOption found (¬ IsInFamily (sanitized config) groups funcs)
    (λ bytes. IsInFamily (sanitized config) groups funcs × SpellsMember (sanitized config) groups funcs bytes))
    → IfErr answer (λ e. e ≡ Memory)
    → OnErr answer (IsInFamily (sanitized config) groups [] × (length funcs ≤ (sanitized config).max_funcs))
    → AnswersSpelling config groups funcs answer
answered config groups funcs asks passes (Ok (Some bytes)) found memory allowed = (
  record {
    passes = passes;
    no_minimums = asks.no_minimums;
    no_shapes = asks.no_shapes;
    not_everything = asks.not_everything;
    member = found.0;
  },
  found.1,
)
answered config groups funcs asks passes (Ok None) found memory allowed = λ h. found h.member
answered config groups funcs asks passes (Err error) found memory allowed = record {
  memory = memory;
  groups_alone = record {
    passes = passes;
    no_minimums = asks.no_minimums;
    no_shapes = asks.no_shapes;
    not_everything = asks.not_everything;
    member = allowed.0;
  };
  few_funcs = allowed.1;
}
