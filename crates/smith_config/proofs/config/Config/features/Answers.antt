use Rattle.std.proofs.Common.{◌≡◌, refl, true, ◌∙◌}
use Rattle.smith_types.specs.Syntax.FeatureBits.{joined, feature_rows}
use Rattle.smith_syntax.proofs.FeatureBitLemmas.{joined_all, features_in-joined}
use Rattle.smith_config.specs.Features.{features_of}
use Rattle.smith_config.proofs.FeatureNumberLemmas.{joined_all-number}
use Rattle.smith_config.proofs.config.Config.features.Goals as goal

first : joined 0 true 1 ≡ 1
unfolding joined
first = refl

-- the results of the calls of `with`, in order
pub returns : goal.returns
returns c =
    let features = features_of c.args.self.now in
    let all : c.with-23.result.0 ≡ joined_all 0 (feature_rows features) =
    rw (
      first,
      c.with-23.ensures,
      c.with-22.ensures,
      c.with-21.ensures,
      c.with-20.ensures,
      c.with-19.ensures,
      c.with-18.ensures,
      c.with-17.ensures,
      c.with-16.ensures,
      c.with-15.ensures,
      c.with-14.ensures,
      c.with-13.ensures,
      c.with-12.ensures,
      c.with-11.ensures,
      c.with-10.ensures,
      c.with-9.ensures,
      c.with-8.ensures,
      c.with-7.ensures,
      c.with-6.ensures,
      c.with-5.ensures,
      c.with-4.ensures,
      c.with-3.ensures,
      c.with-2.ensures,
      c.with.ensures,
    ) refl in
    record { flags = features_in-joined c.with-23.result features all; number = all ∙ joined_all-number features }
