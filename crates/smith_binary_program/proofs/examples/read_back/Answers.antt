use Rattle.smith_binary_program.proofs.Common.{ap, Features, List, module_features, ModuleParts, subst, ℕ, ◌∙◌, ◌≡◌}
use Rattle.smith_types.specs.Syntax.FeatureBits.{features_in}
use Rattle.smith_config.specs.Features.{features_of}
use Rattle.smith_decode.specs.ModuleReadings.{module_at}
use Rattle.smith_decode.specs.Results.{Locates}
use Rattle.smith_binary_program.specs.Programs.{IsEncoded}
use Rattle.smith_binary_program.proofs.ComesBackLemmas.{come_back}
use Rattle.smith_binary_program.proofs.examples.read_back.Goals as goal

pub returns-in-Ok : goal.returns-in-Ok
returns-in-Ok c =
    let m = c.args.program.now.«module» in
    let bytes = c.in-Ok.bytes.items in
    let given = c.in-Ok.ensures in
    let encoded : IsEncoded m c.args.program.now.bodies bytes =
    record { spelled = given.spelled; sections = given.sections; written = given.written; spelling = given.spelling } in
    let flags : features_in c.features-features.result ≡ module_features m =
    c.features-features.ensures.flags ∙ ap features_of (c.config.ensures ∙ ap (λ (x : ModuleParts). x.config) c.module.ensures) in
    let read = subst (λ (b : List ℕ). Locates (features_in c.features-features.result) c.decode.result b (module_at b))
    c.as_slice.ensures.value c.decode.ensures.exact in
    come_back m c.args.program.now.bodies bytes encoded c.requires.valid c.requires.drawn c.decode.result
    (subst (λ (f : Features). Locates f c.decode.result bytes (module_at bytes)) flags read)
