-- The types of references that branches pop and push.
use Rattle.std.specs.Prelude.{◌≡◌, ℕ, true, false, List, [], ◌∷◌, ◌++◌, Option, Some, None, slice_get, if◌then◌else◌}
use Rattle.smith_types.specs.Subtyping.{IsRefBelow}
use Rattle.smith_types.specs.Syntax.value_type.RefType.{RefType}
use Rattle.smith_types.specs.Syntax.value_type.ValType.{ValType}
use Rattle.smith_types.specs.Syntax.value_type.ValType.TheVariants.{Ref}
use Rattle.smith_instr.specs.Contexts.{BodyContext, IsRefValid}
use Rattle.smith_instr.specs.declared.control.BranchCast.{BranchCast}
use Rattle.smith_check_rules.specs.declared.slot.Slot.{Slot}
use Rattle.smith_check_rules.specs.declared.slot.Slot.TheVariants as slot

-- the least valid supertype of a reference type with a valid heap type; a non-nullable reference
-- requires its feature (own rule)
abbrev pub least_valid : BodyContext → RefType → RefType
least_valid context reference =
    record reference { nullable = if context.features.function_references then reference.nullable else true }

-- the reference type that a value type is, if any (Structure, Value Types)
abbrev pub reference_of : ValType → Option RefType
reference_of (Ref reference) = Some reference
reference_of _ = None

-- the last of these types is no reference type
abbrev pub EndsInNoReference : List ValType → Type 0
EndsInNoReference types = (others : List ValType) (reference : RefType) → types ≡ others ++ Ref reference ∷ [] → ⊥

-- the least valid type of a non-null reference of this type (Validation, Reference Instructions,
-- ref.as_non_null)
abbrev pub least_non_null : BodyContext → Slot → Option Slot
least_non_null context slot.Bottom = Some slot.SomeRef
least_non_null context slot.SomeRef = Some slot.SomeRef
least_non_null context (slot.EitherRef ty) = Some (slot.EitherRef ty)
least_non_null context (slot.Value (Ref reference)) =
    Some (slot.Value (Ref (least_valid context (record { nullable = false; heap_type = reference.heap_type }))))
least_non_null context (slot.Value _) = None

-- the types of a cast are valid, and its target matches its source (Validation, Control
-- Instructions, br_on_cast and br_on_cast_fail)
pub record IsCastValid (context : BodyContext) (cast : BranchCast) : Type 0 where
  pub from_valid : IsRefValid context cast.from
  pub to_valid : IsRefValid context cast.to
  pub below : IsRefBelow context.types cast.to cast.from

-- a label takes `others`, and then a reference type that `reference` matches (Validation, Control
-- Instructions, br_on_cast and br_on_cast_fail)
pub record TakesReference (context : BodyContext) (labels : List (List ValType)) (index : ℕ) (reference : RefType)
    (others : List ValType) : Type 0 where
  pub wanted : RefType
  pub taken : slice_get labels index ≡ Some (others ++ Ref wanted ∷ [])
  pub arrives : IsRefBelow context.types reference wanted

abbrev pub TakesNoReference : BodyContext → List (List ValType) → ℕ → RefType → Type 0
TakesNoReference context labels index reference =
    (others : List ValType) → TakesReference context labels index reference others → ⊥
