use Rattle.smith_draw_types.proofs.Common.{All, IsGranted, refl, StorageType, values_of_storage}
use Rattle.smith_draw_types.specs.Grounding.{standing_in}
use Rattle.smith_draw_types.proofs.GrantedLemmas.{storage_granted}
use Rattle.smith_draw_types.proofs.ValueTypeLemmas.{drawn_is, values_valid, values_shared}
use Rattle.smith_draw_types.proofs.FieldTypeLemmas.{IsStorageDrawn, storage_type_drawn}
use Rattle.smith_draw_types.proofs.TakenLemmas.{storage_type_taken}
use Rattle.smith_draw_types.proofs.field_type.arbitrary_storage_type.Goals as goal

pub returns : goal.returns
returns c =
    let types = c.args.spaces.now.types.now.types in
    let config = c.args.config.now in
    let exact = rw (c.scope-standing.ensures, c.without_record-call.ensures) at c.draw_storage_type-drawn.ensures.exact in
    let drawn = drawn_is (λ (ty : StorageType). IsStorageDrawn config types c.args.must_share c.args.limit ty) _
    (storage_type_drawn _ _ _ _ _ c.requires.sanitized c.requires.may_share) exact in
    let values = values_of_storage c.draw_storage_type-drawn.result in
    record {
      ok = refl;
      draws = record { exact = exact; memory = tt; left = c.draw_storage_type-drawn.ensures.left };
      granted = drawn_is (λ (ty : StorageType). All (IsGranted config (standing_in config c.args.spaces.now)) (values_of_storage ty)) _
          (storage_granted _ _ c.orderly.ensures _ _ _) exact;
      valid = values_valid config types c.args.must_share c.args.limit values drawn.values;
      stands = drawn.stands;
      shared = λ must. values_shared config types c.args.must_share c.args.limit values must drawn.values;
      reach = λ no. storage_type_taken c.args.config.now (standing_in c.args.config.now c.args.spaces.now) refl _ _ _ _ _ c.orderly.ensures
          no exact;
    }
