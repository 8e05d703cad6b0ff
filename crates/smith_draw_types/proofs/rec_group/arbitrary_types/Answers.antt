use Rattle.smith_draw_types.proofs.Common.{All, AreTypesGranted, AreTypesValid, features_of, GroupedTypes, length, on_ok_weaker, refl}
use Rattle.smith_draw_types.proofs.Common.{Types, ◌≤◌}
use Rattle.smith_types.specs.Floats.{HasNoFloat}
use Rattle.smith_draw_types.proofs.DrawingLemmas.{of_state}
use Rattle.smith_draw_types.proofs.RecGroupLemmas.{types_valid, types_most, types_least}
use Rattle.smith_draw_types.specs.HeldFields.{HoldsNonNullableField, HoldsUngroundedField}
use Rattle.smith_draw_types.specs.Grounding.{functions_in, over}
use Rattle.smith_draw_types.proofs.FilledLemmas.{types_grounded}
use Rattle.smith_draw_types.proofs.GrantedLemmas.{types_granted}
use Rattle.smith_draw_types.specs.FuncSizes.{HasFewValues}
use Rattle.smith_draw_types.proofs.FloatLemmas.{types_no_float}
use Rattle.smith_draw_types.proofs.FuncSizeLemmas.{types_within}
use Rattle.smith_draw_types.proofs.NullableLemmas.{types_nullable}
use Rattle.smith_draw_types.proofs.TakenLemmas.{types_taken}
use Rattle.smith_draw_types.proofs.rec_group.arbitrary_types.Goals as goal

pub add_all_types-requires-clause-ordered : goal.add_all_types-requires-clause-ordered
add_all_types-requires-clause-ordered c = c.requires.passes.1.ordered Types tt

pub add_all_types-requires-clause-few : goal.add_all_types-requires-clause-few
add_all_types-requires-clause-few c = c.requires.passes.1.few Types

pub returns-clause-valid : goal.returns-clause-valid
returns-clause-valid c = λ valid. of_state (AreTypesValid (features_of c.args.config.now)) c.add_all_types.ensures
    (types_valid _ _ _ _ c.requires.sanitized valid)

pub returns-clause-most : goal.returns-clause-most
returns-clause-most c = λ valid few.
    of_state (λ (space : GroupedTypes). length space.types ≤ c.args.config.now.max_types) c.add_all_types.ensures
    (types_most _ _ _ _ c.requires.sanitized (c.requires.passes.1.ordered Types tt) valid few)

pub returns-clause-least : goal.returns-clause-least
returns-clause-least c = λ valid.
    of_state (λ (space : GroupedTypes). c.args.config.now.min_types ≤ length space.types) c.add_all_types.ensures
    (types_least _ _ _ _ c.requires.sanitized (c.requires.passes.1.ordered Types tt) valid)

pub returns-clause-reach : goal.returns-clause-reach
returns-clause-reach c = λ least empty. on_ok_weaker c.add_all_types.result
    (types_taken c.args.config.now (functions_in c.args.config.now c.args.entities.now) refl _ _ _ _ c.requires.sanitized least empty)
    c.add_all_types.ensures.exact

pub returns-clause-floats : goal.returns-clause-floats
returns-clause-floats c = λ off all. of_state (λ (space : GroupedTypes). All HasNoFloat space.types) c.add_all_types.ensures
    (types_no_float _ off _ _ _ all)

pub returns-clause-few_values : goal.returns-clause-few_values
returns-clause-few_values c = λ most enough all. of_state (λ (space : GroupedTypes). All (HasFewValues most) space.types)
    c.add_all_types.ensures (types_within most enough _ _ _ _ all)

pub returns-clause-nullable : goal.returns-clause-nullable
returns-clause-nullable c = λ off none. of_state (λ (space : GroupedTypes). ¬ HoldsNonNullableField space.types) c.add_all_types.ensures
    (types_nullable _ off _ _ _ c.types-types.ensures.sound.orderly none)

pub returns-clause-grounded : goal.returns-clause-grounded
returns-clause-grounded c = λ none.
    let context = functions_in c.args.config.now c.args.entities.now in
    of_state (λ (space : GroupedTypes). ¬ HoldsUngroundedField c.args.config.now (over context space.types)) c.add_all_types.ensures
    (types_grounded c.args.config.now context c.args.types.now c.args.u.now c.types-types.ensures.sound.orderly none)

pub returns-clause-granted : goal.returns-clause-granted
returns-clause-granted c = λ all.
    let context = functions_in c.args.config.now c.args.entities.now in
    of_state (λ (space : GroupedTypes). AreTypesGranted c.args.config.now (over context space.types)) c.add_all_types.ensures
    (types_granted c.args.config.now context c.args.types.now c.args.u.now c.types-types.ensures.sound.orderly all)
