use Rattle.smith_check_references.proofs.Common.{[], address, address_in_range, ap, bare, held, IsValInRange, Ref, refl, some_same, subst}
use Rattle.smith_check_references.proofs.Common.{sym, TableType, To, ValType, ◌∙◌, ◌∷◌}
use Rattle.smith_instr.specs.declared.instr.Instr.TheVariants as instr
use Rattle.smith_instr.specs.declared.table.TableInstr.TheVariants as table
use Rattle.smith_check_references.proofs.RowLemmas.{tried_row}
use Rattle.smith_check_references.proofs.TableLemmas.{element_valid, each_in_range}
use Rattle.smith_check_references.proofs.OfferLemmas.{only_itself}
use Rattle.smith_check_references.proofs.tables.table_get.Goals as goal

pub give-requires-clause-expected : goal.give-requires-clause-expected
give-requires-clause-expected c = each_in_range c.args.scope.now.types.now.types (c.address_type.result ∷ []) (
  (subst (λ v. IsValInRange c.args.scope.now.types.now.types v) (sym c.address_type.ensures)
      (address_in_range c.args.scope.now.types.now.types c.in-Some.table.table64)),
  tt,
)

pub give-requires-clause-itself : goal.give-requires-clause-itself
give-requires-clause-itself c = only_itself (bare c.args.scope.now) c.in-Some.table.element_type
    (element_valid (bare c.args.scope.now) c.args.index c.in-Some.table c.requires.scope.tables (sym c.in-Some.ensures))

pub returns-clause-ok : goal.returns-clause-ok
returns-clause-ok c = λ labels set.
    let found = c.in-Some.table in
    tried_row (bare c.args.scope.now) labels (instr.Table (table.Get c.args.index)) set (address found.table64 ∷ [])
    (Ref found.element_type ∷ [])
    (c.address_type.result ∷ []) (held c.args.operands.now) _ c.give.result (λ os rs t. t) (λ os rs t. t)
    (found, sym c.in-Some.ensures, (refl, refl))
    (λ os rs t. let (other, at, fits) = t in subst (λ (m : TableType). To os rs (address m.table64 ∷ []) (Ref m.element_type ∷ []))
    (some_same other found (sym at ∙ sym c.in-Some.ensures)) fits)
    (ap (λ (v : ValType). v ∷ []) c.address_type.ensures) c.give.ensures.ok
