use Rattle.smith_check_references.proofs.Common.{[], address, address_in_range, ap, bare, false≢true, held, I32, IsRefBelow, IsValInRange}
use Rattle.smith_check_references.proofs.Common.{refl, RefType, some_same, subst, sym, TableType, To, tried_values, ValType, ◌∙◌, ◌∷◌}
use Rattle.smith_instr.specs.declared.instr.Instr.TheVariants as instr
use Rattle.smith_check_references.proofs.TableLemmas.{each_in_range}
use Rattle.smith_instr.specs.declared.table.TableInstr.TheVariants as table
use Rattle.smith_check_references.proofs.TableLemmas.{element_in_range as table_in_range, held_in_range}
use Rattle.smith_check_references.proofs.tables.table_init.Goals as goal

pub ref_type_is_sub_type-requires-clause-lower : goal.ref_type_is_sub_type-requires-clause-lower
ref_type_is_sub_type-requires-clause-lower c =
    held_in_range (bare c.args.scope.now) c.args.segment c.in-Some-elem_at.held c.requires.scope.elems (sym c.in-Some-elem_at.ensures)

pub ref_type_is_sub_type-requires-clause-upper : goal.ref_type_is_sub_type-requires-clause-upper
ref_type_is_sub_type-requires-clause-upper c = table_in_range (bare c.args.scope.now) c.args.index c.in-Some.table c.requires.scope.tables
    (sym c.in-Some.ensures)

pub apply-requires-clause-expected : goal.apply-requires-clause-expected
apply-requires-clause-expected c =
    each_in_range c.args.scope.now.types.now.types (c.address_type-address.result ∷ I32 ∷ I32 ∷ []) (
      subst (λ v. IsValInRange c.args.scope.now.types.now.types v) (sym c.address_type-address.ensures)
          (address_in_range c.args.scope.now.types.now.types c.in-Some.table.table64),
      (tt, (tt, tt)),
    )

pub returns-then-not-ref_type_is_sub_type-clause-ok : goal.returns-then-not-ref_type_is_sub_type-clause-ok
returns-then-not-ref_type_is_sub_type-clause-ok c = λ labels set before after covered s.
    let (these, those, has, is, also) = s.typed in
    let target = some_same has.0 c.in-Some.table (sym has.2 ∙ sym c.in-Some.ensures) in
    let source = some_same has.1 c.in-Some-elem_at.held (sym has.3 ∙ sym c.in-Some-elem_at.ensures) in
    false≢true (sym c.if-not-ref_type_is_sub_type.true ∙ c.ref_type_is_sub_type.ensures.1
    (subst (λ (t : TableType). IsRefBelow c.args.scope.now.types.now.types c.in-Some-elem_at.held t.element_type) target
    (subst (λ (r : RefType). IsRefBelow c.args.scope.now.types.now.types r has.0.element_type) source has.4)))

pub returns-clause-ok : goal.returns-clause-ok
returns-clause-ok c = λ labels set.
    let found = c.in-Some.table in
    tried_values (bare c.args.scope.now) labels (instr.Table (table.Init c.args.index c.args.segment)) set
    (address found.table64 ∷ I32 ∷ I32 ∷ []) []
    (c.address_type-address.result ∷ I32 ∷ I32 ∷ []) [] (held c.args.operands.now) _ c.apply.result (λ os rs t. t) (λ os rs t. t) (
      found,
      c.in-Some-elem_at.held,
      sym c.in-Some.ensures,
      sym c.in-Some-elem_at.ensures,
      c.ref_type_is_sub_type.ensures.0 c.if-not-ref_type_is_sub_type.false,
      (refl, refl),
    )
    (λ os rs t. let (other, from, at, there, below, fits) = t in
    subst (λ (m : TableType). To os rs (address m.table64 ∷ I32 ∷ I32 ∷ []) [])
    (some_same other found (sym at ∙ sym c.in-Some.ensures)) fits)
    (ap (λ (v : ValType). v ∷ I32 ∷ I32 ∷ []) c.address_type-address.ensures) refl c.apply.ensures.ok
