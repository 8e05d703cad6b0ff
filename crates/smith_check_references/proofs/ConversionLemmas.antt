-- Conversions between internal and external references.
use Rattle.smith_check_references.proofs.Common.{Abstract, AbstractHeapType, ap, below_trans, BodyContext, Bool, Bottom, EitherRef, false}
use Rattle.smith_check_references.proofs.Common.{false≢true, HeapType, inl, inr, IsBelow, IsConverted, IsHeapValid, IsOrderly, IsRefBelow}
use Rattle.smith_check_references.proofs.Common.{IsRefValid, IsSlotValid, IsValid, itself, List, Ref, refl, RefType, Slot, SomeRef, subst}
use Rattle.smith_check_references.proofs.Common.{sym, ValType, Value, with_labels, ℕ, ◌∙◌, ◌≡◌}
use Rattle.smith_types.specs.Syntax.value_type.AbstractHeapType.TheVariants as abstract
use Rattle.smith_instr.specs.declared.aggregate.AggregateInstr.TheVariants as aggregate
use Rattle.smith_instr.specs.declared.instr.Instr.TheVariants as instr
use Rattle.smith_check_rules.proofs.ConversionLemmas.{only_itself}
use Rattle.smith_check_rules.specs.Slots.{IsConvertible}
use Rattle.smith_check_rules.specs.StackTypes.{referring}
use Rattle.smith_check_references.proofs.HierarchyLemmas.{below_top, top_above}
use Rattle.smith_check_references.proofs.OfferLemmas.{above_ref}
use Rattle.smith_check_references.specs.Hierarchies.{top_kind, IsTop}
use Rattle.smith_check_references.specs.Rows.{HasNoneOf, HasRow, IsLeastOf}

-- a convertible heap type is the top of its hierarchy
own_top : (ty : AbstractHeapType) → IsConvertible ty → top_kind ty ≡ ty
own_top abstract.Any c = refl
own_top abstract.Extern c = refl
own_top ty c = absurd c

-- if a converted reference counts as one of a valid type, its heap type is valid
inner_valid : (context : BodyContext) (inner : AbstractHeapType) (s n : Bool) (other : Slot) → IsConvertible inner
    → IsSlotValid context other → IsBelow context.types (Value (referring s n inner)) other → IsHeapValid context (Abstract s inner)
inner_valid context inner s n other convertible valid below =
    let a = above_ref context (record { nullable = n; heap_type = Abstract s inner }) other valid below in
    subst (λ h. IsHeapValid context h) (only_itself context.types s inner a.below.heap refl convertible) a.valid.heap_type

unshared_valid : (context : BodyContext) (s : Bool) (ty : AbstractHeapType) → IsHeapValid context (Abstract s ty)
    → IsHeapValid context (Abstract false ty)
unshared_valid context s ty valid = (valid.0, λ shared. absurd (false≢true shared))

either_valid : (context : BodyContext) (inner : AbstractHeapType) (other : Slot) → IsConvertible inner → IsSlotValid context other
    → IsBelow context.types (EitherRef inner) other → IsHeapValid context (Abstract false inner)
either_valid context inner Bottom convertible valid below = absurd below
either_valid context inner SomeRef convertible valid below = absurd below
either_valid context inner (EitherRef ty) convertible valid same =
    subst (λ t. IsHeapValid context (Abstract false t)) (sym same) valid.1
either_valid context inner (Value value) convertible valid (s, below) =
    unshared_valid context s inner (inner_valid context inner s false (Value value) convertible valid below)

converted_valid : (context : BodyContext) (outer inner : AbstractHeapType) (from to other : Slot) → IsConverted outer inner from to
    → IsConvertible inner → IsSlotValid context other → IsBelow context.types to other → IsHeapValid context (Abstract false inner)
converted_valid context outer inner from to other (inl (s, n, is, also)) convertible valid above =
    unshared_valid context s inner (inner_valid context inner s n other convertible valid
    (subst (λ x. IsBelow context.types x other) also above))
converted_valid context outer inner from to other (inr (is, also)) convertible valid above =
    either_valid context inner other convertible valid (subst (λ x. IsBelow context.types x other) also above)

-- a reference that is shared or not matches each converted one
either_under : (context : BodyContext) (outer inner : AbstractHeapType) (from to : Slot) → IsConverted outer inner from to
    → IsBelow context.types (EitherRef inner) to
either_under context outer inner from to (inl (s, n, is, also)) =
    subst (λ x. IsBelow context.types (EitherRef inner) x) (sym also)
    (s, record { heap = itself; nullable = λ null. absurd (false≢true null) })
either_under context outer inner from to (inr (is, also)) = subst (λ x. IsBelow context.types (EitherRef inner) x) (sym also) refl

pub either_converted : (context : BodyContext) (outer inner : AbstractHeapType) (top : Slot) → IsConvertible inner
    → IsHeapValid context (Abstract false inner) → IsBelow context.types top (EitherRef outer)
    → IsLeastOf context (IsConverted outer inner) top (EitherRef inner)
either_converted context outer inner top convertible valid fits = record {
  sound = λ other other_valid above. (EitherRef outer, EitherRef inner, inr (refl, refl), fits, above);
  least = λ from to other row below other_valid above.
      below_trans context.types (EitherRef inner) to other (either_under context outer inner from to row) above;
  valid = (convertible, valid);
}

pub none_converted : (context : BodyContext) (outer inner : AbstractHeapType) (top : Slot) → IsConvertible inner
    → (IsHeapValid context (Abstract false inner) → ⊥) → HasNoneOf context (IsConverted outer inner) top
none_converted context outer inner top convertible never from to other row below valid above =
    never (converted_valid context outer inner from to other row convertible valid above)

-- a reference has the top of the hierarchy of what it is converted from
seen_top : (context : BodyContext) (reference : RefType) (top : HeapType) (outer : AbstractHeapType) (s n : Bool)
    → IsOrderly context.types → IsTop context.types reference.heap_type top → IsConvertible outer
    → IsRefBelow context.types reference (record { nullable = n; heap_type = Abstract s outer }) → top ≡ Abstract s outer
seen_top context reference top outer s n orderly is convertible below =
    top_above context.types orderly reference.heap_type (Abstract s outer) top below.heap is
    ∙ ap (λ k. Abstract s k) (own_top outer convertible)

same_shared : (s r : Bool) (a b : AbstractHeapType) → Abstract s a ≡ Abstract r b → s ≡ r
same_shared s r a b same = cc

same_kind : (s r : Bool) (a b : AbstractHeapType) → Abstract s a ≡ Abstract r b → a ≡ b
same_kind s r a b same = cc

-- a reference to another hierarchy
pub reference_apart : (context : BodyContext) (shared : Bool) (reference : RefType) (ty outer inner : AbstractHeapType)
    → IsOrderly context.types → IsTop context.types reference.heap_type (Abstract shared ty) → IsConvertible outer → (ty ≡ outer → ⊥)
    → HasNoneOf context (IsConverted outer inner) (Value (Ref reference))
reference_apart context shared reference ty outer inner orderly is outside never from to other (inl (s, n, same, also)) below valid above =
    never (same_kind shared s ty outer (seen_top context reference (Abstract shared ty) outer s n orderly is outside
    (subst (λ x. IsBelow context.types (Value (Ref reference)) x) same below)))
reference_apart context shared reference ty outer inner orderly is outside never from to other (inr (same, also)) below valid above =
    subst (λ x. IsBelow context.types (Value (Ref reference)) x) same below

-- what is converted from a reference, and counts as one of a valid type
record IsConvertedRef (context : BodyContext) (shared : Bool) (reference : RefType) (inner : AbstractHeapType) (to : Slot) : Type 0 where
  under : IsBelow context.types (Value (referring shared reference.nullable inner)) to
  heap_valid : IsHeapValid context (Abstract shared inner)

converted_ref : (context : BodyContext) (shared : Bool) (reference : RefType) (ty outer inner : AbstractHeapType)
    → IsOrderly context.types → IsTop context.types reference.heap_type (Abstract shared ty) → IsConvertible outer → IsConvertible inner
    → (from to other : Slot) → IsConverted outer inner from to → IsBelow context.types (Value (Ref reference)) from
    → IsSlotValid context other → IsBelow context.types to other → IsConvertedRef context shared reference inner to
converted_ref context shared reference ty outer inner orderly is outside inside from to other (inl (s, n, same, also)) below valid above =
    let upper : IsRefBelow context.types reference (record { nullable = n; heap_type = Abstract s outer }) =
    subst (λ x. IsBelow context.types (Value (Ref reference)) x) same below in
    let shares : s ≡ shared = sym (same_shared shared s ty outer
    (seen_top context reference (Abstract shared ty) outer s n orderly is outside upper)) in
    record {
      under = subst (λ x. IsBelow context.types (Value (referring shared reference.nullable inner)) x) (sym also)
          (subst (λ q. IsBelow context.types (Value (referring q reference.nullable inner)) (Value (referring s n inner))) shares
          (record { heap = itself; nullable = upper.nullable }));
      heap_valid = subst (λ q. IsHeapValid context (Abstract q inner)) shares
          (inner_valid context inner s n other inside valid (subst (λ x. IsBelow context.types x other) also above));
    }
converted_ref context shared reference ty outer inner orderly is outside inside from to other (inr (same, also)) below valid above =
    absurd (subst (λ x. IsBelow context.types (Value (Ref reference)) x) same below)

-- a reference to the hierarchy
pub reference_converted : (context : BodyContext) (shared : Bool) (reference : RefType) (outer inner : AbstractHeapType)
    → IsOrderly context.types → IsTop context.types reference.heap_type (Abstract shared outer) → IsConvertible outer → IsConvertible inner
    → IsValid context (Ref reference) → IsRefValid context (record { nullable = reference.nullable; heap_type = Abstract shared inner })
    → IsLeastOf context (IsConverted outer inner) (Value (Ref reference)) (Value (referring shared reference.nullable inner))
reference_converted context shared reference outer inner orderly is outside inside operand_valid valid = record {
  sound = λ other other_valid above. (
    Value (referring shared reference.nullable outer),
    Value (referring shared reference.nullable inner),
    inl (shared, reference.nullable, refl, refl),
    record { heap = below_top context.types reference.heap_type (Abstract shared outer) is; nullable = λ null. null },
    above,
  );
  least = λ from to other row below other_valid above.
      let c = converted_ref context shared reference outer outer inner orderly is outside inside from to other row below other_valid above
      in
      below_trans context.types (Value (referring shared reference.nullable inner)) to other c.under above;
  valid = (operand_valid.0, valid);
}

-- what a reference becomes is of no valid type
pub reference_unconverted : (context : BodyContext) (shared : Bool) (reference : RefType) (ty outer inner : AbstractHeapType)
    → IsOrderly context.types → IsTop context.types reference.heap_type (Abstract shared ty) → IsConvertible outer → IsConvertible inner
    → IsValid context (Ref reference)
    → (IsRefValid context (record { nullable = reference.nullable; heap_type = Abstract shared inner }) → ⊥)
    → HasNoneOf context (IsConverted outer inner) (Value (Ref reference))
reference_unconverted context shared reference ty outer inner orderly is outside inside valid never from to other row below other_valid
    above =
    let c = converted_ref context shared reference ty outer inner orderly is outside inside from to other row below other_valid above in
    never (record { heap_type = c.heap_valid; nullable = valid.1.nullable })

-- the rows of the two conversions
pub inwards_row : (context : BodyContext) (labels : List (List ValType)) (set : List ℕ)
    → HasRow (with_labels context labels) set (instr.Aggregate aggregate.AnyConvertExtern) (IsConverted abstract.Extern abstract.Any)
inwards_row context labels set = record { typed = λ from to row. (from, to, row, refl, refl); only = λ os rs t. t }

pub outwards_row : (context : BodyContext) (labels : List (List ValType)) (set : List ℕ)
    → HasRow (with_labels context labels) set (instr.Aggregate aggregate.ExternConvertAny) (IsConverted abstract.Any abstract.Extern)
outwards_row context labels set = record { typed = λ from to row. (from, to, row, refl, refl); only = λ os rs t. t }
