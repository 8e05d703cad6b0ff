-- The types that are added for the exports of a shape are the shape's, and the tables, memories and
-- globals that are defined for them have its types.
use Rattle.smith_draw_definitions.proofs.Common.{[], All, All-append, All-cons, All-nil, All-weaker, Bool, EntitySpaces, EntityType, false}
use Rattle.smith_draw_definitions.proofs.Common.{GlobalType, inl, inr, List, MemoryType, Shape, shape_spaces, shape_types, slice_get, Some}
use Rattle.smith_draw_definitions.proofs.Common.{subst, SubType, sym, TableType, true, with_entity, ℕ, ◌++◌, ◌∷◌, ◌≡◌, ◌⊎◌}
use Rattle.std.specs.List.{Contains}
use Rattle.std.proofs.lemmas.List.Elements.{All-contains, All-contains_itself}
use Rattle.smith_types.specs.Exports.{IsEntityAt, entity_kind}
use Rattle.smith_types.specs.Syntax.entity_type.EntityType.TheVariants as entity
use Rattle.smith_draw_definitions.specs.Required.{AddsLimitsOf, AddsTypesOf, IsKeptType}
use Rattle.smith_draw_definitions.proofs.PlainEntityLemmas.{all_at}

old_ones : {A : Type 0} (xs theirs : List A) → All (λ x. Contains xs x ⊎ Contains theirs x) xs
old_ones xs theirs = All-weaker (Contains xs) (λ x. Contains xs x ⊎ Contains theirs x) (λ x h. inl h) xs (All-contains_itself xs)

one_more : {A : Type 0} (xs theirs : List A) (x : A) → Contains theirs x → All (λ x. Contains xs x ⊎ Contains theirs x) (xs ++ x ∷ [])
one_more {A = A} xs theirs x h =
    let P = λ (y : A). Contains xs y ⊎ Contains theirs y in
    All-append P xs (x ∷ []) (old_ones xs theirs) (All-cons P x [] (inr h) (All-nil P))

standing : {A : Type 0} (xs : List A) (i : ℕ) (x : A) → slice_get xs i ≡ Some x → Contains xs x
standing xs i x at = all_at (Contains xs) xs i x (All-contains_itself xs) at

both : {A : Type 0} (xs ys zs theirs : List A) → All (λ x. Contains xs x ⊎ Contains theirs x) ys
    → All (λ x. Contains ys x ⊎ Contains theirs x) zs → All (λ x. Contains xs x ⊎ Contains theirs x) zs
both {A = A} xs ys zs theirs first second =
    let P = λ (x : A). Contains xs x ⊎ Contains theirs x in
    All-weaker (λ x. Contains ys x ⊎ Contains theirs x) P
    (λ x h. elim h [
      | inl before ↦ All-contains P ys x first before
      | inr given ↦ inr given
    ]) zs second

-- nothing is added
pub no_limits : (shape : Shape) (spaces : EntitySpaces) → AddsLimitsOf shape spaces spaces
no_limits shape spaces = record {
  tables = old_ones spaces.tables (shape_spaces shape).tables;
  memories = old_ones spaces.memories (shape_spaces shape).memories;
  globals = old_ones spaces.globals (shape_spaces shape).globals;
}

pub no_types : (shape : Shape) (types : List SubType) → AddsTypesOf shape types types
no_types shape types = old_ones types (shape_types shape)

-- a type of the shape is added
pub type_more : (shape : Shape) (types : List SubType) (index : ℕ) (t : SubType) → slice_get (shape_types shape) index ≡ Some t
    → AddsTypesOf shape types (types ++ t ∷ [])
type_more shape types index t at = one_more types (shape_types shape) t (standing (shape_types shape) index t at)

-- additions of two steps
pub limits_both : {shape : Shape} {old spaces later : EntitySpaces} → AddsLimitsOf shape old spaces → AddsLimitsOf shape spaces later
    → AddsLimitsOf shape old later
limits_both {shape = shape} {old = old} {spaces = spaces} {later = later} first second = record {
  tables = both old.tables spaces.tables later.tables (shape_spaces shape).tables first.tables second.tables;
  memories = both old.memories spaces.memories later.memories (shape_spaces shape).memories first.memories second.memories;
  globals = both old.globals spaces.globals later.globals (shape_spaces shape).globals first.globals second.globals;
}

pub types_both : (shape : Shape) (old types later : List SubType) → AddsTypesOf shape old types → AddsTypesOf shape types later
    → AddsTypesOf shape old later
types_both shape old types later first second = both old types later (shape_types shape) first second

same_table : (own_types : Bool) (ours theirs : List SubType) (table : TableType) (other : EntityType)
    → IsKeptType own_types ours theirs (entity.Table table) other → entity.Table table ≡ other
same_table true ours theirs table other same = same
same_table false ours theirs table other same = same

same_memory : (own_types : Bool) (ours theirs : List SubType) (memory : MemoryType) (other : EntityType)
    → IsKeptType own_types ours theirs (entity.Memory memory) other → entity.Memory memory ≡ other
same_memory true ours theirs memory other same = same
same_memory false ours theirs memory other same = same

same_global : (own_types : Bool) (ours theirs : List SubType) (global : GlobalType) (other : EntityType)
    → IsKeptType own_types ours theirs (entity.Global global) other → entity.Global global ≡ other
same_global true ours theirs global other same = same
same_global false ours theirs global other same = same

-- an entity of a shape is added
pub limits_more : (own_types : Bool) (ours : List SubType) (shape : Shape) (spaces : EntitySpaces) (index : ℕ) (theirs added : EntityType)
    → IsKeptType own_types ours (shape_types shape) added theirs
    → IsEntityAt (shape_spaces shape) (entity_kind added) index theirs → AddsLimitsOf shape spaces (with_entity spaces added)
limits_more own_types ours shape spaces index theirs (entity.Table table) same (other, at, is) =
    let one : table ≡ other = let whole = same_table own_types ours (shape_types shape) table theirs same in cc in
    record {
      tables = one_more spaces.tables (shape_spaces shape).tables table (subst (Contains (shape_spaces shape).tables) (sym one)
          (standing (shape_spaces shape).tables index other at));
      memories = old_ones spaces.memories (shape_spaces shape).memories;
      globals = old_ones spaces.globals (shape_spaces shape).globals;
    }
limits_more own_types ours shape spaces index theirs (entity.Memory memory) same (other, at, is) =
    let one : memory ≡ other = let whole = same_memory own_types ours (shape_types shape) memory theirs same in cc in
    record {
      tables = old_ones spaces.tables (shape_spaces shape).tables;
      memories = one_more spaces.memories (shape_spaces shape).memories memory (subst (Contains (shape_spaces shape).memories) (sym one)
          (standing (shape_spaces shape).memories index other at));
      globals = old_ones spaces.globals (shape_spaces shape).globals;
    }
limits_more own_types ours shape spaces index theirs (entity.Global global) same (other, at, is) =
    let one : global ≡ other = let whole = same_global own_types ours (shape_types shape) global theirs same in cc in
    record {
      tables = old_ones spaces.tables (shape_spaces shape).tables;
      memories = old_ones spaces.memories (shape_spaces shape).memories;
      globals = one_more spaces.globals (shape_spaces shape).globals global (subst (Contains (shape_spaces shape).globals) (sym one)
          (standing (shape_spaces shape).globals index other at));
    }
limits_more own_types ours shape spaces index theirs (entity.Tag added) same at = record {
  tables = old_ones spaces.tables (shape_spaces shape).tables;
  memories = old_ones spaces.memories (shape_spaces shape).memories;
  globals = old_ones spaces.globals (shape_spaces shape).globals;
}
limits_more own_types ours shape spaces index theirs (entity.Func added) same at = record {
  tables = old_ones spaces.tables (shape_spaces shape).tables;
  memories = old_ones spaces.memories (shape_spaces shape).memories;
  globals = old_ones spaces.globals (shape_spaces shape).globals;
}
