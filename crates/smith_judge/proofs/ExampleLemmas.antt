-- Examples of origins, and of a file that is no module.
use Rattle.std.proofs.Common.{[], arith, refl, zero, suc}
use Rattle.smith_types.specs.Syntax.Features.{every_feature}
use Rattle.smith_types.specs.Syntax.entity_type.ExportKind.TheVariants as kind
use Rattle.smith_judge.specs.ExampleImports.{function_and_globals}
use Rattle.smith_judge.specs.Files.{IsValidFile}
use Rattle.smith_judge.specs.Places.{IsOrigin}
use Rattle.smith_judge.specs.Places.IsOrigin.{imported, defined}
use Rattle.smith_judge.specs.declared.origins.Origin.TheVariants as origin

pub in_a_group : IsOrigin function_and_globals kind.Global 1 (origin.Imported 1)
in_a_group = imported 1 (omega arith) (omega arith) refl

pub not_before : IsOrigin function_and_globals kind.Global 1 (origin.Imported 0) → ⊥
not_before (imported zero below above same) = absurd (omega (arith, above))
not_before (imported (suc at) below above same) = absurd (cc same)
not_before (defined at is same) = absurd (cc same)

pub defined_after : IsOrigin function_and_globals kind.Global 2 (origin.Defined 0)
defined_after = defined 0 refl refl

pub empty : IsValidFile every_feature [] → ⊥
empty file = absurd (cc file.file.read)
