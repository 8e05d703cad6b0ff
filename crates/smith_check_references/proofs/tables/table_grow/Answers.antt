use Rattle.smith_check_references.proofs.Common.{[], address, address_in_range, ap, bare, held, IsValid, IsValInRange, one_valid, Ref, refl}
use Rattle.smith_check_references.proofs.Common.{some_same, subst, sym, TableType, To, tried_values, ValType, ◌∙◌, ◌∷◌}
use Rattle.smith_instr.specs.declared.instr.Instr.TheVariants as instr
use Rattle.smith_instr.specs.declared.table.TableInstr.TheVariants as table
use Rattle.smith_check_operands.proofs.RangeLemmas.{address_valid}
use Rattle.smith_check_references.proofs.TableLemmas.{element_in_range, each_in_range}
use Rattle.smith_check_references.proofs.tables.table_grow.Goals as goal

pub apply-requires-clause-expected : goal.apply-requires-clause-expected
apply-requires-clause-expected c = each_in_range c.args.scope.now.types.now.types
    (Ref c.in-Some.table.element_type ∷ c.address_type-address.result ∷ []) (
      (element_in_range (bare c.args.scope.now) c.args.index c.in-Some.table c.requires.scope.tables (sym c.in-Some.ensures)),
      (
        (subst (λ v. IsValInRange c.args.scope.now.types.now.types v) (sym c.address_type-address.ensures)
            (address_in_range c.args.scope.now.types.now.types c.in-Some.table.table64)),
        tt,
      ),
    )

pub apply-requires-clause-valid : goal.apply-requires-clause-valid
apply-requires-clause-valid c = one_valid (bare c.args.scope.now) c.address_type-address.result
    (subst (λ v. IsValid (bare c.args.scope.now) v) (sym c.address_type-address.ensures)
    (address_valid (bare c.args.scope.now) c.in-Some.table.table64))

pub returns-clause-ok : goal.returns-clause-ok
returns-clause-ok c = λ labels set.
    let found = c.in-Some.table in
    tried_values (bare c.args.scope.now) labels (instr.Table (table.Grow c.args.index)) set
    (Ref found.element_type ∷ address found.table64 ∷ []) (address found.table64 ∷ [])
    (Ref c.in-Some.table.element_type ∷ c.address_type-address.result ∷ []) (c.address_type-address.result ∷ []) (held c.args.operands.now)
    _ c.apply.result (λ os rs t. t) (λ os rs t. t)
    (found, sym c.in-Some.ensures, (refl, refl))
    (λ os rs t. let (other, at, fits) = t in
    subst (λ (m : TableType). To os rs (Ref m.element_type ∷ address m.table64 ∷ []) (address m.table64 ∷ []))
    (some_same other found (sym at ∙ sym c.in-Some.ensures)) fits)
    (ap (λ (v : ValType). Ref c.in-Some.table.element_type ∷ v ∷ []) c.address_type-address.ensures)
    (ap (λ (v : ValType). v ∷ []) c.address_type-address.ensures) c.apply.ensures.ok
