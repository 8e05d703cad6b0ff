use Rattle.smith_draw_types.proofs.Common.{AreTypesGranted, AreTypesValid, Bool, features_of, GroupedTypes, length, List, OnOk, subst}
use Rattle.smith_draw_types.proofs.Common.{Types, ℕ, ◌≡◌, ◌≤◌}
use Rattle.std.proofs.Common.{Err, Ok, Result}
use Rattle.std.specs.Prelude.{IfOk}
use Rattle.smith_bytes.specs.declared.error.Error.{Error}
use Rattle.smith_draw_types.specs.Grounding.{over}
use Rattle.smith_draw_types.proofs.GrantedLemmas.{clone_granted}
use Rattle.smith_draw_types.proofs.GroupSizeLemmas.{clone_rec_group_most}
use Rattle.smith_draw_types.proofs.RecGroupLemmas.{sound_within, clone_rec_group_valid}
use Rattle.smith_draw_types.proofs.rec_group.clone_rec_group.Goals as goal

-- a property of the drawn space holds for the space left by a successful call
drawn_space : (P : GroupedTypes → Type 0) (result : Result Bool Error) (drawn : Bool × (GroupedTypes × List ℕ)) (new : GroupedTypes)
    (left : List ℕ) → P drawn.1.0 → IfOk result (λ added. drawn ≡ (added, (new, left))) → OnOk result (P new)
drawn_space P (Ok added) drawn new left h exact = subst (λ (r : Bool × (GroupedTypes × List ℕ)). P r.1.0) exact h
drawn_space P (Err e) drawn new left h exact = tt

pub clone_group-requires-clause-few : goal.clone_group-requires-clause-few
clone_group-requires-clause-few c = c.requires.passes.1.few Types

pub returns-clause-valid : goal.returns-clause-valid
returns-clause-valid c = λ valid. drawn_space (AreTypesValid (features_of c.args.config.now)) c.clone_group.result _ _ _
    (clone_rec_group_valid _ _ _ _ valid c.requires.some) c.clone_group.ensures.exact

pub returns-clause-most : goal.returns-clause-most
returns-clause-most c =
    drawn_space (λ (space : GroupedTypes). length space.types ≤ c.args.config.now.max_types) c.clone_group.result _ _ _
    (clone_rec_group_most _ _ _ _ (sound_within _ c.types-groups.ensures.sound) c.requires.some c.requires.room) c.clone_group.ensures.exact

pub returns-clause-granted : goal.returns-clause-granted
returns-clause-granted c = λ context all.
    drawn_space (λ (space : GroupedTypes). AreTypesGranted c.args.config.now (over context space.types)) c.clone_group.result _ _ _
    (clone_granted c.args.config.now context _ _ _ c.types-groups.ensures.sound.orderly all) c.clone_group.ensures.exact
