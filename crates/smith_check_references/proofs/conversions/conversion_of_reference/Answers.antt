use Rattle.smith_check_references.proofs.Common.{Abstract, bare, false≢true, subst, sym, ◌∙◌}
use Rattle.std.proofs.Common.{rules}
use Rattle.smith_syntax.specs.contracts.value_type.AbstractHeapType.{the_type}
use Rattle.smith_check_references.specs.Hierarchies.{IsTop}
use Rattle.smith_check_references.proofs.ConversionLemmas.{reference_apart, reference_converted, reference_unconverted}
use denote.Enum.Bare.{same_true, same_false}
use Rattle.smith_check_references.proofs.conversions.conversion_of_reference.Goals as goal

pub returns-then-not-is_ref_valid : goal.returns-then-not-is_ref_valid
returns-then-not-is_ref_valid c =
    reference_unconverted (bare c.args.scope.now) c.in-Abstract.shared c.args.reference c.in-Abstract.ty c.args.outer c.args.inner
    c.is_ref_valid.ensures.orderly c.in-Abstract.ensures c.requires.outer c.requires.inner c.requires.valid
    (λ valid. false≢true (sym c.if-not-is_ref_valid.true ∙ c.is_ref_valid.ensures.valid.1 valid))

pub returns-then-eq : goal.returns-then-eq
returns-then-eq c =
    let types = c.args.scope.now.types.now.types in
    let same = same_true the_type (search rules) c.in-Abstract.ty c.args.outer (sym c.if-eq.ensures) in
    reference_converted (bare c.args.scope.now) c.in-Abstract.shared c.args.reference c.args.outer c.args.inner
    c.is_ref_valid.ensures.orderly
    (subst (λ ty. IsTop types c.args.reference.heap_type (Abstract c.in-Abstract.shared ty)) same c.in-Abstract.ensures)
    c.requires.outer c.requires.inner c.requires.valid (c.is_ref_valid.ensures.valid.0 c.if-not-is_ref_valid.false)

pub returns-else-eq : goal.returns-else-eq
returns-else-eq c =
    reference_apart (bare c.args.scope.now) c.in-Abstract.shared c.args.reference c.in-Abstract.ty c.args.outer c.args.inner
    c.is_ref_valid.ensures.orderly c.in-Abstract.ensures c.requires.outer
    (same_false the_type c.in-Abstract.ty c.args.outer (sym c.if-eq.ensures))
