use Rattle.smith_check_references.proofs.Common.{bare, false≢true, sym, ◌∙◌}
use Rattle.smith_check_references.proofs.ConversionLemmas.{either_converted, none_converted}
use Rattle.smith_check_references.proofs.conversions.conversion_in_dead_code.Goals as goal

pub returns-then-is_ref_valid : goal.returns-then-is_ref_valid
returns-then-is_ref_valid c = λ outer top fits.
    either_converted (bare c.args.scope.now) outer c.args.inner top c.requires
    (c.is_ref_valid.ensures.valid.0 c.if-is_ref_valid.true).heap_type fits

pub returns-else-is_ref_valid : goal.returns-else-is_ref_valid
returns-else-is_ref_valid c = λ outer top fits.
    none_converted (bare c.args.scope.now) outer c.args.inner top c.requires
    (λ valid. false≢true (sym c.if-is_ref_valid.false
    ∙ c.is_ref_valid.ensures.valid.1 (record { heap_type = valid; nullable = λ null. absurd (false≢true (sym null)) })))
