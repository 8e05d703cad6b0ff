use Rattle.smith_draw_types.proofs.Common.{AreTypesGranted, AreTypesValid, false, features_of, GroupedTypes, length, on_ok_weaker, refl}
use Rattle.smith_draw_types.proofs.Common.{Types, ◌<◌, ◌≡◌, ◌≤◌}
use Rattle.smith_draw_types.specs.Grounding.{functions_in, over}
use Rattle.smith_draw_types.proofs.GrantedLemmas.{rec_group_granted}
use Rattle.smith_draw_types.proofs.DrawingLemmas.{of_state}
use Rattle.smith_draw_types.proofs.GroupSizeLemmas.{rec_group_more}
use Rattle.smith_draw_types.proofs.RecGroupLemmas.{sound_within, rec_group_valid}
use Rattle.smith_draw_types.proofs.TakenLemmas.{rec_group_taken}
use Rattle.smith_draw_types.proofs.rec_group.arbitrary_rec_group.Goals as goal

pub add_rec_group-requires-clause-few : goal.add_rec_group-requires-clause-few
add_rec_group-requires-clause-few c = c.requires.passes.1.few Types

pub returns-clause-draws : goal.returns-clause-draws
returns-clause-draws c = rw c.in_ok-grounds.ensures.same at c.add_rec_group.ensures.draws

pub returns-clause-valid : goal.returns-clause-valid
returns-clause-valid c = λ valid. of_state (AreTypesValid (features_of c.args.config.now)) c.add_rec_group.ensures.draws
    (rec_group_valid _ _ _ _ _ c.requires.sanitized valid)

pub returns-clause-most : goal.returns-clause-most
returns-clause-most c =
    of_state (λ (space : GroupedTypes). length space.types ≤ c.args.config.now.max_types) c.add_rec_group.ensures.draws
    (rec_group_more _ _ _ _ _ (sound_within _ c.types-groups.ensures.sound) c.requires.room).most

pub returns-clause-some : goal.returns-clause-some
returns-clause-some c =
    of_state (λ (space : GroupedTypes). c.args.allow_empty ≡ false → length c.args.types.now.types < length space.types)
    c.add_rec_group.ensures.draws (rec_group_more _ _ _ _ _ (sound_within _ c.types-groups.ensures.sound) c.requires.room).some

pub returns-clause-reach : goal.returns-clause-reach
returns-clause-reach c = λ may roots. on_ok_weaker c.add_rec_group.result
    (rec_group_taken c.args.config.now (functions_in c.args.config.now c.args.entities.now) refl _ _ _ _ _ c.requires.sanitized may roots)
    (rw c.in_ok-grounds.ensures.same at c.add_rec_group.ensures.draws).exact

pub returns-clause-granted : goal.returns-clause-granted
returns-clause-granted c = λ all.
    let context = functions_in c.args.config.now c.args.entities.now in
    of_state (λ (space : GroupedTypes). AreTypesGranted c.args.config.now (over context space.types))
    (rw c.in_ok-grounds.ensures.same at c.add_rec_group.ensures.draws) (rec_group_granted c.args.config.now context c.args.allow_empty
    c.args.types.now c.args.u.now c.types-groups.ensures.sound.orderly all)
