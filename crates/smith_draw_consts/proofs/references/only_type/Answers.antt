use Rattle.smith_draw_consts.proofs.Common.{ap, arith, HeapType, IsValInRange, length, Ref, subst, sym, ValType, ◌∙◌, ◌≡◌}
use Rattle.smith_types.specs.Families.{direct_subtypes}
use Rattle.smith_types.specs.Syntax.value_type.HeapType.TheVariants.{Concrete, Exact}
use Rattle.smith_draw_consts.specs.ConstScopes.{context_of}
use Rattle.smith_draw_consts.specs.KeptOffers.{IsOnlyType}
use Rattle.smith_draw_consts.proofs.OnlyTypeLemmas.{concrete_alone, exact_alone}
use Rattle.smith_draw_consts.proofs.references.only_type.Goals as goal

pub returns-in-Exact : goal.returns-in-Exact
returns-in-Exact c =
    let context = context_of c.args.scope.now in
    let nullable = c.in-Ref.reference.nullable in
    let is : c.args.wanted ≡ Ref (record { nullable = nullable; heap_type = Exact c.in-Exact.index }) =
    c.in-Ref.is ∙ ap (λ (ty : HeapType). Ref (record { nullable = nullable; heap_type = ty })) c.in-Exact.is in
    subst (λ (wanted : ValType). IsOnlyType context wanted c.in-Exact.index) (sym is)
    (exact_alone context nullable c.in-Exact.index (subst (IsValInRange context.types) is c.requires.upper))

pub returns-else-count_of_direct_subtypes-gt0 : goal.returns-else-count_of_direct_subtypes-gt0
returns-else-count_of_direct_subtypes-gt0 c =
    let context = context_of c.args.scope.now in
    let nullable = c.in-Ref.reference.nullable in
    let index = c.in-Concrete.index in
    let is : c.args.wanted ≡ Ref (record { nullable = nullable; heap_type = Concrete index }) =
    c.in-Ref.is ∙ ap (λ (ty : HeapType). Ref (record { nullable = nullable; heap_type = ty })) c.in-Concrete.is in
    let none : length (direct_subtypes context.types index) ≡ 0 =
    omega (arith, c.count_of_direct_subtypes.ensures, c.if-count_of_direct_subtypes-gt0.false) in
    subst (λ (wanted : ValType). IsOnlyType context wanted index) (sym is)
    (concrete_alone context nullable index (subst (IsValInRange context.types) is c.requires.upper) none)
