-- A drawn configuration requires nothing impossible of a module.
use Rattle.std.proofs.Common.{◌≡◌, ℕ, List, false, refl, subst}
use Rattle.std.specs.Prelude.{⊤, Option, Some, None, IsSome, IsSomeAnd}
use Rattle.smith_bytes.specs.declared.error.Count.TheVariants.{Types}
use Rattle.smith_config.specs.Arbitrary.{config_at, maximums_at, sizes_at, proposals_at, instruction_kinds_at, rules_at}
use Rattle.smith_config.specs.InUse.{HasNoShapes}
use Rattle.smith_config.specs.Minimums.{HasNoMinimums}
use Rattle.smith_config.specs.declared.config.Config.{Config}
use Rattle.smith_config.proofs.DrawnConfigLemmas.{config_at-passes}
use Rattle.smith_module_rules.specs.Refusals.{AsksNothingImpossible}
use Rattle.wasm_smith.proofs.NoShapeLemmas.{no_shapes_valid, none_used}

no_minimums : (bytes : List ℕ) → HasNoMinimums (config_at bytes).0
unfolding config_at maximums_at sizes_at proposals_at instruction_kinds_at rules_at
no_minimums bytes Types = refl
no_minimums bytes count = refl

no_shapes : (bytes : List ℕ) → HasNoShapes (config_at bytes).0
unfolding config_at maximums_at sizes_at proposals_at instruction_kinds_at rules_at
no_shapes bytes = record { available_imports = refl; exports = refl; module_shape = refl }

not_everything : (bytes : List ℕ) → (config_at bytes).0.export_everything ≡ false
unfolding config_at maximums_at sizes_at proposals_at instruction_kinds_at rules_at
not_everything bytes = refl

some_at_all : {A : Type 0} (given : Option A) → IsSome given → IsSomeAnd given (λ _. ⊤)
some_at_all (Some x) h = tt
some_at_all None h = cc

asks_nothing_impossible : (bytes : List ℕ) → AsksNothingImpossible (config_at bytes).0
asks_nothing_impossible bytes =
    let none = no_shapes bytes in
    record {
      may_give = record { passes = config_at-passes bytes; shapes_valid = no_shapes_valid _ none };
      no_minimums = no_minimums bytes;
      not_everything = not_everything bytes;
      nullable = λ h. none_used _ _ h.0 none h.1;
      several = λ h. absurd (none_used (λ _. ⊤) _ h.0 none (some_at_all _ h.1));
    }

-- a drawn configuration requires nothing impossible
pub drawn_asks : (bytes : List ℕ) (config : Config) (rest : List ℕ) → config_at bytes ≡ (config, rest) → AsksNothingImpossible config
drawn_asks bytes config rest exact = subst (λ (drawn : Config × List ℕ). AsksNothingImpossible drawn.0) exact
    (asks_nothing_impossible bytes)
