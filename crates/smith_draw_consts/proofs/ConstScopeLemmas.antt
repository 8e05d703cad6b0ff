-- The context of a draw, if the spaces are valid.
use Rattle.smith_draw_consts.proofs.Common.{[], All, All-from_recursion, arith, Bool, CompositeInnerType, Config, ConstInstr, Context}
use Rattle.smith_draw_consts.proofs.Common.{false, field_values, fields_of, FieldType, GlobalType, IsOrderly, IsTrue, IsValTypeValid}
use Rattle.smith_draw_consts.proofs.Common.{length, List, recursion_from_All, slice_get, slice_get_within, subst, SubType, true, unpacked}
use Rattle.smith_draw_consts.proofs.Common.{ValType, ℕ, ◌&&◌, ◌*◌, ◌++◌, ◌+◌, ◌<◌, ◌∷◌, ◌≡◌, ◌≤◌}
use Rattle.std.proofs.Common.{if◌then◌else◌, Some, ◌^◌}
use Rattle.std.specs.List.{AllByRecursion as Each, flat_map}
use Rattle.std.specs.declared.ops.Range.{Range}
use Rattle.std.proofs.lemmas.List.Elements.{All-weaker}
use Rattle.smith_types.specs.Expressions.{IsConstExpr, IsStructAt}
use Rattle.smith_types.specs.Syntax.Features.{Features}
use Rattle.smith_types.specs.Flags.{IsInnerEnabled}
use Rattle.smith_types.specs.GroupedTypes.{GroupedTypes}
use Rattle.smith_types.specs.ValidTypes.{AreTypesValid, IsGroupValid, IsTypeValid, values_of, values_of_storage}
use Rattle.smith_types.specs.Entities.{IsFuncTypeIndex, IsGlobalValid}
use Rattle.smith_types.specs.Syntax.composite_type.StorageType.{StorageType}
use Rattle.smith_types.specs.Syntax.composite_type.StorageType.TheVariants.{I8, I16, Val}
use Rattle.smith_types.specs.Syntax.composite_type.CompositeInnerType.TheVariants.{Array, Func, Struct}
use Rattle.smith_types.proofs.ValidityLemmas.{ends_within, group_at}
use Rattle.smith_types.proofs.EntityGrowthLemmas.{IsValTypeValid-later}
use Rattle.smith_config.specs.Features.{features_of}
use Rattle.smith_draw_types.specs.declared.spaces.Spaces.{Spaces}
use Rattle.smith_draw_consts.specs.ConstScopes.{IsScope, seen_by, AreSpacesValid}
use Rattle.smith_draw_consts.specs.ConstBounds.{widest}
use Rattle.smith_draw_consts.specs.ConstSteps.{IsDrawn}
use Rattle.smith_draw_consts.proofs.PuttingLemmas.{expression_of}

each_pair : {A : Type 0} (P Q : A → Type 0) (xs : List A) → Each P xs → Each Q xs → Each (λ (x : A). P x × Q x) xs
each_pair P Q [] h k = tt
each_pair P Q (x ∷ xs) (p, h) (q, k) = ((p, q), each_pair P Q xs h k)

each_front : {A : Type 0} (P : A → Type 0) (xs ys : List A) → Each P (xs ++ ys) → Each P xs × Each P ys
each_front P [] ys h = (tt, h)
each_front P (x ∷ xs) ys (p, h) = let (front, back) = each_front P xs ys h in ((p, front), back)

-- an existing type is valid in its group, which ends within the types
record IsMember (features : Features) (space : GroupedTypes) (t : SubType) : Type 0 where
  end : ℕ
  within : end ≤ length space.types
  valid : IsTypeValid features space.types end t

module _ (features : Features) (space : GroupedTypes) (valid : AreTypesValid features space) where
  -- the value type to which a stored type unpacks
  stored : (end : ℕ) → end ≤ length space.types → (ty : StorageType) → Each (IsValTypeValid features end) (values_of_storage ty)
      → IsValTypeValid features (length space.types) (unpacked ty)
  stored end within I8 h = tt
  stored end within I16 h = tt
  stored end within (Val value) h = IsValTypeValid-later features end (length space.types) within value h.0

  each_stored : (end : ℕ) → end ≤ length space.types → (fields : List FieldType) → Each (IsValTypeValid features end)
      (flat_map (λ (field : FieldType). values_of_storage field.element_type) fields) → Each (IsValTypeValid features (length space.types))
      (field_values fields)
  each_stored end within [] h = tt
  each_stored end within (field ∷ fields) h =
      let (front, back) = each_front (IsValTypeValid features end) (values_of_storage field.element_type)
      (flat_map (λ (field : FieldType). values_of_storage field.element_type) fields) h in
      (stored end within field.element_type front, each_stored end within fields back)

  held : (end : ℕ) → end ≤ length space.types → (i : CompositeInnerType) → Each (IsValTypeValid features end) (values_of i)
      → Each (IsValTypeValid features (length space.types)) (field_values (fields_of i))
  held end within (Array array) h = (stored end within array.0.element_type h, tt)
  held end within (Func function) h = tt
  held end within (Struct structure) h = each_stored end within structure.fields h

  member_at : (index : ℕ) (t : SubType) → slice_get space.types index ≡ Some t → IsMember features space t
  member_at index t at =
      let inside : index < length space.types = slice_get_within space.types index t at in
      let whole = valid.covered.whole in
      let (low, ends) = ends_within 0 space.groups valid.covered.consecutive in
      let each = each_pair (IsGroupValid features space.types) (λ (g : Range ℕ). g.end ≤ length space.types) space.groups
      (recursion_from_All (IsGroupValid features space.types) space.groups valid.groups) (rw whole at ends) in
      let (group, (h, within), begins, over) = group_at (λ (g : Range ℕ). IsGroupValid features space.types g
      × (g.end ≤ length space.types)) 0 space.groups index valid.covered.consecutive each (omega arith) (omega arith) in
      record { end = group.end; within = within; valid = h.members index t begins over at }

  pub fields_valid : (index : ℕ) (t : SubType) → slice_get space.types index ≡ Some t → All (IsValTypeValid features (length space.types))
      (field_values (fields_of t.composite_type.inner))
  fields_valid index t at =
      let member = member_at index t at in
      All-from_recursion (IsValTypeValid features (length space.types)) (field_values (fields_of t.composite_type.inner))
      (held member.end member.within t.composite_type.inner (recursion_from_All (IsValTypeValid features member.end)
      (values_of t.composite_type.inner) member.valid.values))

  -- a struct type exists only with garbage collection
  pub structs_gc : (index : ℕ) (fields : List FieldType) → IsStructAt space.types index fields → IsTrue features.gc
  structs_gc index fields (t, at, is) = subst (IsInnerEnabled features) is (member_at index t at).valid.enabled.inner

visible_within : (b : Bool) (all imported : ℕ) → imported ≤ all → (if b then all else imported) ≤ all
visible_within true all imported h = omega arith
visible_within false all imported h = h

visible_imported : (gc allow : Bool) (all imported : ℕ) → gc ≡ false → (if gc && allow then all else imported) ≤ imported
visible_imported gc allow all imported off = rw off (omega arith)

pub scope_of : (config : Config) (spaces : Spaces) (allow : Bool) → AreSpacesValid config spaces → IsOrderly spaces.types.now.types
    → length spaces.types.now.types < 2 ^ 32 → IsScope (seen_by config spaces allow)
scope_of config spaces allow valid orderly few = record {
  orderly = orderly;
  few_types = few;
  few_funcs = valid.few_funcs;
  few_globals = valid.few_globals;
  seen = visible_within (config.gc_enabled && allow) (length spaces.entities.globals.now) spaces.entities.imported_globals valid.imported;
  imported_seen = visible_imported config.gc_enabled allow (length spaces.entities.globals.now) spaces.entities.imported_globals;
  funcs = All-weaker (IsFuncTypeIndex spaces.types.now.types) (λ index. index < length spaces.types.now.types)
      (λ index (function, (t, at, is)). slice_get_within spaces.types.now.types index t at) spaces.entities.funcs.now valid.funcs;
  globals = All-weaker (IsGlobalValid (features_of config) spaces.types.now.types)
      (λ (global : GlobalType). IsValTypeValid (features_of config) (length spaces.types.now.types) global.val_type) (λ global h. h.value)
      spaces.entities.globals.now valid.globals;
  structs = structs_gc (features_of config) spaces.types.now valid.types;
  fields = fields_valid (features_of config) spaces.types.now valid.types;
}

-- an expression drawn from an empty start
pub whole_typed : (context : Context) (wanted : ValType) (fuel left : ℕ) (drawn : List ConstInstr)
    → IsDrawn context (wanted ∷ []) [] fuel drawn left → IsConstExpr context wanted drawn
whole_typed context wanted fuel left drawn h = expression_of context wanted drawn h.puts

pub whole_short : (context : Context) (wanted : ValType) (fuel left : ℕ) (drawn : List ConstInstr)
    → IsDrawn context (wanted ∷ []) [] fuel drawn left → length drawn ≤ 23 * (1 + fuel * widest context.types)
whole_short context wanted fuel left drawn h = let short = h.short in omega arith
