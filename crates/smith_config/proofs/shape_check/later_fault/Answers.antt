use Rattle.std.proofs.Common.{◌≡◌}
use Rattle.smith_bytes.specs.declared.error.Which.TheVariants.{Exports}
use Rattle.smith_types.specs.EntitySpaces.{spaces_in}
use Rattle.smith_config.specs.Features.{features_of}
use Rattle.smith_config.specs.Shapes.{ArePlain, IsNothingLeftOut}
use Rattle.smith_config.specs.ShapeFaults.{AreTypesSound, AreIndicesSound, AreLimitsSound, AreFeaturesEnough}
use Rattle.smith_config.proofs.FirstFaultLemmas.{passed, failed, test_moved, first_bad_type, first_index, first_limit, first_feature}
use Rattle.smith_config.proofs.FirstFaultLemmas.{first_duplicate, first_not_plain, first_left_out, valid_at_last}
use Rattle.smith_config.proofs.shape_check.later_fault.Goals as goal

pub returns-then-not-are_types_sound-clause-found : goal.returns-then-not-are_types_sound-clause-found
returns-then-not-are_types_sound-clause-found c =
    first_bad_type c.args.which c.args.config.now c.args.shape.now c.requires.short
    (failed _ (test_moved AreTypesSound c.args.shape.now c.args.space.now (spaces_in c.args.spaces.now) _ c.requires.made
    c.are_types_sound.ensures) c.if-not-are_types_sound.true)

pub returns-then-not-are_indices_sound-clause-found : goal.returns-then-not-are_indices_sound-clause-found
returns-then-not-are_indices_sound-clause-found c =
    let right = passed _ (test_moved AreTypesSound c.args.shape.now c.args.space.now (spaces_in c.args.spaces.now) _ c.requires.made
    c.are_types_sound.ensures) c.if-not-are_types_sound.false in
    first_index c.args.which c.args.config.now c.args.shape.now c.requires.short right
    (failed _ (test_moved (λ s t. AreIndicesSound s t c.args.shape.now.exports) c.args.shape.now c.args.space.now
    (spaces_in c.args.spaces.now) _ c.requires.made (rw c.as_slice-exports.ensures at c.are_indices_sound.ensures))
    c.if-not-are_indices_sound.true)

pub returns-then-not-are_limits_sound-clause-found : goal.returns-then-not-are_limits_sound-clause-found
returns-then-not-are_limits_sound-clause-found c =
    let right = passed _ (test_moved AreTypesSound c.args.shape.now c.args.space.now (spaces_in c.args.spaces.now) _ c.requires.made
    c.are_types_sound.ensures) c.if-not-are_types_sound.false in
    let indices = passed _ (test_moved (λ s t. AreIndicesSound s t c.args.shape.now.exports) c.args.shape.now c.args.space.now
    (spaces_in c.args.spaces.now) _ c.requires.made (rw c.as_slice-exports.ensures at c.are_indices_sound.ensures))
    c.if-not-are_indices_sound.false in
    first_limit c.args.which c.args.config.now c.args.shape.now c.requires.short right indices
    (failed _ (test_moved AreLimitsSound c.args.shape.now c.args.space.now (spaces_in c.args.spaces.now) _ c.requires.made
    c.are_limits_sound.ensures) c.if-not-are_limits_sound.true)

pub returns-then-not-are_features_enough-clause-found : goal.returns-then-not-are_features_enough-clause-found
returns-then-not-are_features_enough-clause-found c =
    let right = passed _ (test_moved AreTypesSound c.args.shape.now c.args.space.now (spaces_in c.args.spaces.now) _ c.requires.made
    c.are_types_sound.ensures) c.if-not-are_types_sound.false in
    let indices = passed _ (test_moved (λ s t. AreIndicesSound s t c.args.shape.now.exports) c.args.shape.now c.args.space.now
    (spaces_in c.args.spaces.now) _ c.requires.made (rw c.as_slice-exports.ensures at c.are_indices_sound.ensures))
    c.if-not-are_indices_sound.false in
    let limits = passed _ (test_moved AreLimitsSound c.args.shape.now c.args.space.now (spaces_in c.args.spaces.now) _ c.requires.made
    c.are_limits_sound.ensures) c.if-not-are_limits_sound.false in
    first_feature c.args.which c.args.config.now c.args.shape.now c.requires.short right indices limits
    (failed _ (test_moved (λ s t. AreFeaturesEnough c.args.which (features_of c.args.config.now) s t) c.args.shape.now c.args.space.now
    (spaces_in c.args.spaces.now) _ c.requires.made (rw c.features-features.ensures.flags at c.are_features_enough.ensures))
    c.if-not-are_features_enough.true)

pub returns-then-not-distinct-clause-found : goal.returns-then-not-distinct-clause-found
returns-then-not-distinct-clause-found c =
    let right = passed _ (test_moved AreTypesSound c.args.shape.now c.args.space.now (spaces_in c.args.spaces.now) _ c.requires.made
    c.are_types_sound.ensures) c.if-not-are_types_sound.false in
    let indices = passed _ (test_moved (λ s t. AreIndicesSound s t c.args.shape.now.exports) c.args.shape.now c.args.space.now
    (spaces_in c.args.spaces.now) _ c.requires.made (rw c.as_slice-exports.ensures at c.are_indices_sound.ensures))
    c.if-not-are_indices_sound.false in
    let limits = passed _ (test_moved AreLimitsSound c.args.shape.now c.args.space.now (spaces_in c.args.spaces.now) _ c.requires.made
    c.are_limits_sound.ensures) c.if-not-are_limits_sound.false in
    let on = passed _ (test_moved (λ s t. AreFeaturesEnough c.args.which (features_of c.args.config.now) s t) c.args.shape.now
    c.args.space.now (spaces_in c.args.spaces.now) _ c.requires.made
    (rw c.features-features.ensures.flags at c.are_features_enough.ensures)) c.if-not-are_features_enough.false in
    first_duplicate c.args.which c.args.config.now c.args.shape.now c.requires.short right indices limits on
    (failed _ (rw c.as_slice-exports.ensures at c.in_ok-distinct.ensures.decided) c.if-not-distinct.true)

pub returns-then-not-is_plain_enough-clause-found : goal.returns-then-not-is_plain_enough-clause-found
returns-then-not-is_plain_enough-clause-found c =
    let right = passed _ (test_moved AreTypesSound c.args.shape.now c.args.space.now (spaces_in c.args.spaces.now) _ c.requires.made
    c.are_types_sound.ensures) c.if-not-are_types_sound.false in
    let indices = passed _ (test_moved (λ s t. AreIndicesSound s t c.args.shape.now.exports) c.args.shape.now c.args.space.now
    (spaces_in c.args.spaces.now) _ c.requires.made (rw c.as_slice-exports.ensures at c.are_indices_sound.ensures))
    c.if-not-are_indices_sound.false in
    let limits = passed _ (test_moved AreLimitsSound c.args.shape.now c.args.space.now (spaces_in c.args.spaces.now) _ c.requires.made
    c.are_limits_sound.ensures) c.if-not-are_limits_sound.false in
    let on = passed _ (test_moved (λ s t. AreFeaturesEnough c.args.which (features_of c.args.config.now) s t) c.args.shape.now
    c.args.space.now (spaces_in c.args.spaces.now) _ c.requires.made
    (rw c.features-features.ensures.flags at c.are_features_enough.ensures)) c.if-not-are_features_enough.false in
    let distinct = passed _ (rw c.as_slice-exports.ensures at c.in_ok-distinct.ensures.decided) c.if-not-distinct.false in
    first_not_plain c.args.which c.args.config.now c.args.shape.now c.requires.short right indices limits on distinct
    (failed _ (test_moved (λ s t. c.args.which ≡ Exports → ArePlain s.types t) c.args.shape.now c.args.space.now
    (spaces_in c.args.spaces.now) _ c.requires.made c.is_plain_enough.ensures) c.if-not-is_plain_enough.true)

pub returns-then-not-is_nothing_left_out-clause-found : goal.returns-then-not-is_nothing_left_out-clause-found
returns-then-not-is_nothing_left_out-clause-found c =
    let right = passed _ (test_moved AreTypesSound c.args.shape.now c.args.space.now (spaces_in c.args.spaces.now) _ c.requires.made
    c.are_types_sound.ensures) c.if-not-are_types_sound.false in
    let indices = passed _ (test_moved (λ s t. AreIndicesSound s t c.args.shape.now.exports) c.args.shape.now c.args.space.now
    (spaces_in c.args.spaces.now) _ c.requires.made (rw c.as_slice-exports.ensures at c.are_indices_sound.ensures))
    c.if-not-are_indices_sound.false in
    let limits = passed _ (test_moved AreLimitsSound c.args.shape.now c.args.space.now (spaces_in c.args.spaces.now) _ c.requires.made
    c.are_limits_sound.ensures) c.if-not-are_limits_sound.false in
    let on = passed _ (test_moved (λ s t. AreFeaturesEnough c.args.which (features_of c.args.config.now) s t) c.args.shape.now
    c.args.space.now (spaces_in c.args.spaces.now) _ c.requires.made
    (rw c.features-features.ensures.flags at c.are_features_enough.ensures)) c.if-not-are_features_enough.false in
    let distinct = passed _ (rw c.as_slice-exports.ensures at c.in_ok-distinct.ensures.decided) c.if-not-distinct.false in
    let plain = passed _ (test_moved (λ s t. c.args.which ≡ Exports → ArePlain s.types t) c.args.shape.now c.args.space.now
    (spaces_in c.args.spaces.now) _ c.requires.made c.is_plain_enough.ensures) c.if-not-is_plain_enough.false in
    first_left_out c.args.which c.args.config.now c.args.shape.now c.requires.short right indices limits on distinct plain
    (failed _ (test_moved (λ s t. IsNothingLeftOut s.types t) c.args.shape.now c.args.space.now (spaces_in c.args.spaces.now) _
    c.requires.made c.is_nothing_left_out.ensures) c.if-not-is_nothing_left_out.true)

pub returns-clause-found : goal.returns-clause-found
returns-clause-found c =
    let right = passed _ (test_moved AreTypesSound c.args.shape.now c.args.space.now (spaces_in c.args.spaces.now) _ c.requires.made
    c.are_types_sound.ensures) c.if-not-are_types_sound.false in
    let indices = passed _ (test_moved (λ s t. AreIndicesSound s t c.args.shape.now.exports) c.args.shape.now c.args.space.now
    (spaces_in c.args.spaces.now) _ c.requires.made (rw c.as_slice-exports.ensures at c.are_indices_sound.ensures))
    c.if-not-are_indices_sound.false in
    let limits = passed _ (test_moved AreLimitsSound c.args.shape.now c.args.space.now (spaces_in c.args.spaces.now) _ c.requires.made
    c.are_limits_sound.ensures) c.if-not-are_limits_sound.false in
    let on = passed _ (test_moved (λ s t. AreFeaturesEnough c.args.which (features_of c.args.config.now) s t) c.args.shape.now
    c.args.space.now (spaces_in c.args.spaces.now) _ c.requires.made
    (rw c.features-features.ensures.flags at c.are_features_enough.ensures)) c.if-not-are_features_enough.false in
    let distinct = passed _ (rw c.as_slice-exports.ensures at c.in_ok-distinct.ensures.decided) c.if-not-distinct.false in
    let plain = passed _ (test_moved (λ s t. c.args.which ≡ Exports → ArePlain s.types t) c.args.shape.now c.args.space.now
    (spaces_in c.args.spaces.now) _ c.requires.made c.is_plain_enough.ensures) c.if-not-is_plain_enough.false in
    let nothing = passed _ (test_moved (λ s t. IsNothingLeftOut s.types t) c.args.shape.now c.args.space.now (spaces_in c.args.spaces.now) _
    c.requires.made c.is_nothing_left_out.ensures) c.if-not-is_nothing_left_out.false in
    valid_at_last c.args.which c.args.config.now c.args.shape.now c.requires.short right indices limits on distinct plain nothing
