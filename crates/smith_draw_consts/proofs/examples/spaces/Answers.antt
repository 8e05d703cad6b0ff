use Rattle.smith_draw_consts.proofs.Common.{[], recursion_from_All, true, V128, ◌∷◌, ◌≡◌}
use Rattle.smith_types.specs.Entities.{IsGlobalValid}
use Rattle.smith_types.specs.ExampleEntities.{constant_global}
use Rattle.smith_config.specs.Features.{features_of}
use Rattle.smith_draw_consts.proofs.examples.spaces.Goals as goal

pub returns-clause-a_global_without_its_feature : goal.returns-clause-a_global_without_its_feature
returns-clause-a_global_without_its_feature c = λ config spaces off one h.
    let each = recursion_from_All (IsGlobalValid (features_of config) spaces.types.now.types) (constant_global V128 ∷ [])
    (rw one at h.globals) in
    let enabled : config.simd_enabled ≡ true = each.0.value in
    cc (off, enabled)
