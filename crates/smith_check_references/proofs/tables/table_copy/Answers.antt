use Rattle.smith_check_references.proofs.Common.{[], address, address_in_range, bare, false≢true, held, IsRefBelow, IsValInRange, refl}
use Rattle.smith_check_references.proofs.Common.{some_same, subst, sym, TableType, To, tried_values, ◌∙◌, ◌∷◌}
use Rattle.smith_instr.specs.declared.instr.Instr.TheVariants as instr
use Rattle.smith_check_references.proofs.TableLemmas.{each_in_range}
use Rattle.smith_instr.specs.ReferenceTypes.{narrower}
use Rattle.smith_instr.specs.declared.table.TableInstr.TheVariants as table
use Rattle.smith_check_references.proofs.TableLemmas.{element_in_range as table_in_range, narrower_in_range}
use Rattle.smith_check_references.proofs.tables.table_copy.Goals as goal

pub ref_type_is_sub_type-requires-clause-lower : goal.ref_type_is_sub_type-requires-clause-lower
ref_type_is_sub_type-requires-clause-lower c =
    table_in_range (bare c.args.scope.now) c.args.from c.in-Some-table_at.out c.requires.scope.tables (sym c.in-Some-table_at.ensures)

pub ref_type_is_sub_type-requires-clause-upper : goal.ref_type_is_sub_type-requires-clause-upper
ref_type_is_sub_type-requires-clause-upper c = table_in_range (bare c.args.scope.now) c.args.to c.in-Some.into c.requires.scope.tables
    (sym c.in-Some.ensures)

pub apply-requires-clause-expected : goal.apply-requires-clause-expected
apply-requires-clause-expected c =
    each_in_range c.args.scope.now.types.now.types (c.address_type-target.result ∷ c.address_type.result ∷ c.narrower_type-count.result
    ∷ []) (
      subst (λ v. IsValInRange c.args.scope.now.types.now.types v) (sym c.address_type-target.ensures)
          (address_in_range c.args.scope.now.types.now.types c.in-Some.into.table64),
      (
        subst (λ v. IsValInRange c.args.scope.now.types.now.types v) (sym c.address_type.ensures)
            (address_in_range c.args.scope.now.types.now.types c.in-Some-table_at.out.table64),
        (
          subst (λ v. IsValInRange c.args.scope.now.types.now.types v) (sym c.narrower_type-count.ensures)
              (narrower_in_range c.args.scope.now.types.now.types c.in-Some.into.table64 c.in-Some-table_at.out.table64),
          tt,
        ),
      ),
    )

pub returns-then-not-ref_type_is_sub_type-clause-ok : goal.returns-then-not-ref_type_is_sub_type-clause-ok
returns-then-not-ref_type_is_sub_type-clause-ok c = λ labels set before after covered s.
    let (these, those, has, is, also) = s.typed in
    let target = some_same has.0 c.in-Some.into (sym has.2 ∙ sym c.in-Some.ensures) in
    let source = some_same has.1 c.in-Some-table_at.out (sym has.3 ∙ sym c.in-Some-table_at.ensures) in
    false≢true (sym c.if-not-ref_type_is_sub_type.true ∙ c.ref_type_is_sub_type.ensures.1
    (subst (λ (t : TableType). IsRefBelow c.args.scope.now.types.now.types c.in-Some-table_at.out.element_type t.element_type) target
    (subst (λ (t : TableType). IsRefBelow c.args.scope.now.types.now.types t.element_type has.0.element_type) source has.4)))

pub returns-clause-ok : goal.returns-clause-ok
returns-clause-ok c = λ labels set.
    let into = c.in-Some.into in
    let out = c.in-Some-table_at.out in
    tried_values (bare c.args.scope.now) labels (instr.Table (table.Copy c.args.to c.args.from)) set
    (address into.table64 ∷ address out.table64 ∷ narrower into.table64 out.table64 ∷ []) []
    (c.address_type-target.result ∷ c.address_type.result ∷ c.narrower_type-count.result ∷ []) [] (held c.args.operands.now) _
    c.apply.result
    (λ os rs t. t) (λ os rs t. t) (
      into,
      out,
      sym c.in-Some.ensures,
      sym c.in-Some-table_at.ensures,
      c.ref_type_is_sub_type.ensures.0 c.if-not-ref_type_is_sub_type.false,
      (refl, refl),
    )
    (λ os rs t. let (target, source, at, there, below, fits) = t in
    subst (λ (m : TableType). To os rs (address into.table64 ∷ address m.table64 ∷ narrower into.table64 m.table64 ∷ []) [])
    (some_same source out (sym there ∙ sym c.in-Some-table_at.ensures))
    (subst (λ (m : TableType). To os rs (address m.table64 ∷ address source.table64 ∷ narrower m.table64 source.table64 ∷ []) [])
    (some_same target into (sym at ∙ sym c.in-Some.ensures)) fits))
    (cc (c.address_type-target.ensures, c.address_type.ensures, c.narrower_type-count.ensures)) refl c.apply.ensures.ok
