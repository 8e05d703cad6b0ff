-- Each choice that is offered makes a node that fits.
use Rattle.smith_draw_consts.proofs.Common.{[], Abstract, All-from_recursion, All-nil, ap, arith, Bool, choose_at, CompositeInnerType, cond}
use Rattle.smith_draw_consts.proofs.Common.{Config, ConstInstr, Context, created, Error, F32, F64, false, field_values, fields_of}
use Rattle.smith_draw_consts.proofs.Common.{FieldType, function_reference, get_or_from_slice_get, GlobalType, HasType, HeapType, I32, I64}
use Rattle.smith_draw_consts.proofs.Common.{inl, inr, is_val_below, IsInstrEnabled, IsTrue, IsValBelow, IsValTypeValid, length}
use Rattle.smith_draw_consts.proofs.Common.{length-append, List, map, nat_lt, not, range_at, recursion_from_All, Ref, refl, same_Some}
use Rattle.smith_draw_consts.proofs.Common.{slice_get, slice_get_within, subst, SubType, suc, sym, take, true, unpacked, V128, val_decides}
use Rattle.smith_draw_consts.proofs.Common.{ValType, zero, ℕ, ◌&&◌, ◌++◌, ◌+◌, ◌-◌, ◌<◌, ◌==◌, ◌||◌, ◌∙◌, ◌∷◌, ◌≡◌, ◌≤◌, ◌⊎◌}
use Rattle.std.proofs.Common.{Option}
use Rattle.std.proofs.Common.{Some}
use Rattle.std.specs.Prelude.{replicate}
use Rattle.std.specs.List.{AllByRecursion as Each}
use Rattle.std.proofs.lemmas.Bool.Decides.{nat_tests}
use Rattle.smith_bytes.specs.declared.error.Error.TheVariants.{EmptyChoose}
use Rattle.smith_bytes.proofs.DrawnLemmas.{range_within}
use Rattle.smith_types.specs.Expressions.{IsDefaultable, reference_to}
use Rattle.smith_types.specs.Syntax.value_type.AbstractHeapType.TheVariants as heap
use Rattle.smith_types.specs.Syntax.value_type.RefType.{RefType}
use Rattle.smith_types.specs.Syntax.composite_type.CompositeInnerType.TheVariants as inner
use Rattle.smith_types.specs.Syntax.const_instr.ConstInstr.TheVariants as instr
use Rattle.smith_draw_consts.specs.Constants.{constant_at}
use Rattle.smith_draw_types.specs.Below.{is_heap_below}
use Rattle.smith_draw_consts.specs.ConstScopes.{IsScope}
use Rattle.smith_draw_consts.specs.ConstOffers.{each_from, offered_if, is_integer, global_offers, function_offers, struct_ways, array_ways}
use Rattle.smith_draw_consts.specs.ConstOffers.{type_offers, types_offers, conversions_to, conversions, other_offers, created_offers}
use Rattle.smith_draw_consts.specs.ConstOffers.{reference_offers, constant_offers, offers}
use Rattle.smith_types.proofs.GroundedLemmas.{default_for, defaults_each}
use Rattle.smith_types.specs.Grounded.{IsGrounded, is_defaultable, are_defaultable}
use Rattle.smith_draw_consts.specs.ConstNodes.{field_operands, repeated, is_shared_heap, node_of, node_at}
use Rattle.smith_draw_consts.specs.ConstBounds.{widest, field_count, MayLack, MayRefuseConstExpr}
use Rattle.smith_config.specs.Granted.{IsUngrounded}
use Rattle.smith_draw_consts.specs.ConstSteps.{operand_type, IsNode, IsFit}
use Rattle.smith_draw_consts.specs.declared.node_choice.Choice.{Choice}
use Rattle.smith_draw_consts.specs.declared.node_choice.Choice.TheVariants as choice
use Rattle.smith_draw_consts.specs.declared.node.Operand.{Operand}
use Rattle.smith_draw_consts.specs.declared.node.Operand.TheVariants.{Value, Length}
use Rattle.smith_draw_consts.proofs.PuttingLemmas.{below_itself}
use Rattle.smith_draw_consts.proofs.ConstStepLemmas.{length_map}
use Rattle.std.specs.List.{Any}

-- an item of a list with a property is among those with it
any_at : {A : Type 0} (P : A → Type 0) (xs : List A) (k : ℕ) (x : A) → slice_get xs k ≡ Some x → P x → Any P xs
any_at P xs k x at p = (k, x, slice_get_within xs k x at, get_or_from_slice_get xs k x x at, p)

both : (a b : Bool) → (a && b) ≡ true → (a ≡ true) × (b ≡ true)
both true b e = (refl, e)
both false b e = cc

off : (a : Bool) → not a ≡ true → a ≡ false
off true e = cc
off false e = refl

-- lists of choices, each of which fits
each_join : {A : Type 0} (P : A → Type 0) (xs ys : List A) → Each P xs → Each P ys → Each P (xs ++ ys)
each_join P [] ys h k = k
each_join P (x ∷ xs) ys (p, h) k = (p, each_join P xs ys h k)

each_if : {A : Type 0} (P : A → Type 0) (b : Bool) (x : A) → (b ≡ true → P x) → Each P (offered_if b x)
each_if P true x h = (h refl, tt)
each_if P false x h = tt

each_cond : {A : Type 0} (P : A → Type 0) (b : Bool) (xs : List A) → (b ≡ true → Each P xs) → Each P (cond b xs [])
each_cond P true xs h = h refl
each_cond P false xs h = tt

each_of : {A B : Type 0} (P : B → Type 0) (offer : ℕ → A → List B) (whole : List A) (start : ℕ) (rest : List A)
    → ((i : ℕ) (x : A) → slice_get whole i ≡ Some x → Each P (offer i x))
    → ((j : ℕ) (x : A) → slice_get rest j ≡ Some x → slice_get whole (start + j) ≡ Some x)
    → Each P (each_from offer start rest)
each_of P offer whole start [] each stands = tt
each_of {A = A} P offer whole start (x ∷ rest) each stands =
    let first : start + 0 ≡ start = omega arith in
    each_join P (offer start x) (each_from offer (start + 1) rest)
    (each start x (subst (λ (n : ℕ). slice_get whole n ≡ Some x) first (stands 0 x refl)))
    (each_of P offer whole (start + 1) rest each (λ j y at.
    let later : start + suc j ≡ start + 1 + j = omega arith in
    subst (λ (n : ℕ). slice_get whole n ≡ Some y) later (stands (suc j) y at)))

each_all : {A B : Type 0} (P : B → Type 0) (offer : ℕ → A → List B) (whole : List A)
    → ((i : ℕ) (x : A) → slice_get whole i ≡ Some x → Each P (offer i x)) → Each P (each_from offer 0 whole)
each_all {A = A} P offer whole each = each_of P offer whole 0 whole each (λ j x at. let same : j ≡ 0 + j = omega arith in
    subst (λ (n : ℕ). slice_get whole n ≡ Some x) same at)

taken : {A : Type 0} (n : ℕ) (xs : List A) (i : ℕ) (x : A) → slice_get (take n xs) i ≡ Some x → (slice_get xs i ≡ Some x) × (i < n)
taken zero xs i x at = cc
taken (suc n) [] i x at = cc
taken (suc n) (y ∷ xs) zero x at = (at, omega arith)
taken (suc n) (y ∷ xs) (suc i) x at = let (there, less) = taken n xs i x at in (there, omega arith)

-- the width of the widest node
pub widest_three : (types : List SubType) → 3 ≤ widest types
unfolding widest
widest_three [] = omega arith
widest_three (t ∷ types) = let more = widest_three types in omega arith

widest_at : (types : List SubType) (i : ℕ) (t : SubType) → slice_get types i ≡ Some t → field_count t.composite_type.inner ≤ widest types
unfolding widest
widest_at [] i t at = cc
widest_at (u ∷ types) zero t at = let same : u ≡ t = same_Some u t at in let e = ap (λ (v : SubType). field_count v.composite_type.inner)
    same in omega arith
widest_at (u ∷ types) (suc i) t at = let more = widest_at types i t at in omega arith

types_of : (values : List ValType) → map operand_type (map Value values) ≡ values
types_of [] = refl
types_of (value ∷ values) = ap (λ (vs : List ValType). value ∷ vs) (types_of values)

module _ (config : Config) (context : Context) (wanted : ValType) (fuel : ℕ) (scope : IsScope context)
    (valid : IsValTypeValid context.features (length context.types) wanted) where
  below : (value : ValType) → is_val_below context.types value wanted ≡ true → IsValBelow context.types value wanted
  below value e = (val_decides context.types scope.orderly value wanted).0 e

  -- a node without operands
  leaf : (instruction : ConstInstr) (result : ValType) → HasType context instruction [] result → IsValBelow context.types result wanted
      → IsInstrEnabled context.features context.imported_globals instruction → IsNode config context wanted fuel (node_of [] instruction)
  leaf instruction result typed lower enabled = record {
    result = result;
    typed = typed;
    below = lower;
    enabled = enabled;
    paid = λ some. absurd (omega arith);
    few = omega arith;
    valid = All-nil (λ (operand : Operand). IsValTypeValid context.features (length context.types) (operand_type operand));
    lacks = λ operand place at lacks. cc;
  }

  -- an operand is valid, and if it may lack choices, so may the node
  Calm : Operand → Type 0
  Calm operand = IsValTypeValid context.features (length context.types) (operand_type operand)
      × (MayLack config context (operand_type operand) → MayLack config context wanted)

  calm_valid : (operands : List Operand) → Each Calm operands
      → Each (λ (operand : Operand). IsValTypeValid context.features (length context.types) (operand_type operand)) operands
  unfolding Calm
  calm_valid [] h = tt
  calm_valid (operand ∷ operands) (p, h) = (p.0, calm_valid operands h)

  calm_lacks : (operands : List Operand) → Each Calm operands → (operand : Operand) (place : ℕ) → slice_get operands place ≡ Some operand
      → MayLack config context (operand_type operand) → MayLack config context wanted
  unfolding Calm
  calm_lacks [] h operand place at lacks = cc
  calm_lacks (first ∷ operands) (p, h) operand zero at lacks =
      p.1 (subst (λ (o : Operand). MayLack config context (operand_type o)) (sym (same_Some first operand at)) lacks)
  calm_lacks (first ∷ operands) (p, h) operand (suc place) at lacks = calm_lacks operands h operand place at lacks

  node_by : (instruction : ConstInstr) (operands : List Operand) (result : ValType)
      → HasType context instruction (map operand_type operands) result → IsValBelow context.types result wanted
      → IsInstrEnabled context.features context.imported_globals instruction
      → (0 < length operands → 0 < fuel) → length operands ≤ widest context.types → Each Calm operands
      → IsNode config context wanted fuel (node_of operands instruction)
  node_by instruction operands result typed lower enabled paid few calm = record {
    result = result;
    typed = typed;
    below = lower;
    enabled = enabled;
    paid = paid;
    few = few;
    valid = All-from_recursion (λ (operand : Operand). IsValTypeValid context.features (length context.types) (operand_type operand))
        operands (calm_valid operands calm);
    lacks = calm_lacks operands calm;
  }

  calm_number : Calm (Value I32)
  unfolding Calm
  calm_number = (tt, λ h. elim h [ inl never ↦ absurd never | inr holds ↦ inr holds ])

  calm_length : Calm Length
  unfolding Calm
  calm_length = (tt, λ h. elim h [ inl never ↦ absurd never | inr holds ↦ inr holds ])

  calm_fields : (index : ℕ) (t : SubType) → slice_get context.types index ≡ Some t → (start : ℕ) (rest : List ValType)
      → ((j : ℕ) (v : ValType) → slice_get rest j ≡ Some v → slice_get (field_values (fields_of t.composite_type.inner)) (start + j)
      ≡ Some v)
      → Each (IsValTypeValid context.features (length context.types)) rest → Each Calm (map Value rest)
  unfolding Calm
  calm_fields index t at start [] stands h = tt
  calm_fields index t at start (v ∷ rest) stands (p, h) =
      let first : start + 0 ≡ start = omega arith in
      let held : slice_get (field_values (fields_of t.composite_type.inner)) start ≡ Some v =
      subst (λ (n : ℕ). slice_get (field_values (fields_of t.composite_type.inner)) n ≡ Some v) first (stands 0 v refl) in (
        (
          p,
          λ lacks. elim lacks [
            | inl lacks ↦ inr (any_at (λ (ty : SubType). Any (IsUngrounded config context)
                (field_values (fields_of ty.composite_type.inner))) context.types index t at
                (any_at (IsUngrounded config context) (field_values (fields_of t.composite_type.inner)) start v held lacks))
            | inr holds ↦ inr holds
          ],
        ),
        calm_fields index t at (start + 1) rest (λ j w there.
            let later : start + suc j ≡ start + 1 + j = omega arith in
            subst (λ (n : ℕ). slice_get (field_values (fields_of t.composite_type.inner)) n ≡ Some w) later (stands (suc j) w there)) h,
      )

  calm_type : (index : ℕ) (t : SubType) → slice_get context.types index ≡ Some t
      → Each Calm (map Value (field_values (fields_of t.composite_type.inner)))
  calm_type index t at =
      calm_fields index t at 0 (field_values (fields_of t.composite_type.inner)) (λ j v there. let same : j ≡ 0 + j = omega arith in
      subst (λ (n : ℕ). slice_get (field_values (fields_of t.composite_type.inner)) n ≡ Some v) same there)
      (recursion_from_All (IsValTypeValid context.features (length context.types)) (field_values (fields_of t.composite_type.inner))
      (scope.fields index t at))

  on_beyond : (b : Bool) → (b ≡ false → context.visible ≤ context.imported_globals) → (i : ℕ) → i < context.visible
      → context.imported_globals ≤ i → b ≡ true
  on_beyond true seen i less over = refl
  on_beyond false seen i less over = let within = seen refl in absurd (omega arith)

  -- a visible global
  global_fits : (i : ℕ) (g : GlobalType) → slice_get context.globals i ≡ Some g → i < context.visible → g.mutable ≡ false
      → IsValBelow context.types g.val_type wanted → IsFit config context wanted fuel (choice.Global i)
  unfolding node_at
  global_fits i g there seen constant lower = record {
    node = λ bytes. leaf (instr.GlobalGet i) g.val_type (refl, (g, there, seen, constant, refl)) lower
        (on_beyond context.features.gc scope.imported_seen i seen);
    extended = λ e. cc;
  }

  globals_fit : Each (IsFit config context wanted fuel) (each_from (global_offers context wanted) 0 (take context.visible context.globals))
  globals_fit = each_all (IsFit config context wanted fuel) (global_offers context wanted) (take context.visible context.globals) (λ i g at.
      let (there, seen) = taken context.visible context.globals i g at in
      each_if (IsFit config context wanted fuel) (not g.mutable && is_val_below context.types g.val_type wanted) (choice.Global i) (λ yes.
      let (constant, lower) = both (not g.mutable) (is_val_below context.types g.val_type wanted) yes in
      global_fits i g there seen (off g.mutable constant) (below g.val_type lower)))

  constant_typed : (value : ValType) → IsValTypeValid context.features (length context.types) value → is_defaultable value ≡ true
      → (bytes : List ℕ) → HasType context (constant_at value bytes).0 [] value × IsInstrEnabled context.features context.imported_globals
      (constant_at value bytes).0
  unfolding constant_at
  constant_typed I32 ok default bytes = ((refl, refl), tt)
  constant_typed I64 ok default bytes = ((refl, refl), tt)
  constant_typed F32 ok default bytes = ((refl, refl), tt)
  constant_typed F64 ok default bytes = ((refl, refl), tt)
  constant_typed V128 ok default bytes = ((refl, refl), ok)
  constant_typed (Ref r) ok default bytes =
      ((ok.1.heap_type, refl, ap (λ (b : Bool). Ref (record { nullable = b; heap_type = r.heap_type })) default), ok.0)

  constant_node : is_defaultable wanted ≡ true → (bytes : List ℕ)
      → IsNode config context wanted fuel (node_of [] (constant_at wanted bytes).0)
  constant_node default bytes = let typed = constant_typed wanted valid default bytes in leaf (constant_at wanted bytes).0 wanted typed.0
      (below_itself context wanted) typed.1

  integer : (value : ValType) → is_integer value ≡ true → ((value ≡ I32) ⊎ (value ≡ I64)) × (is_defaultable value ≡ true)
  integer I32 e = (inl refl, refl)
  integer I64 e = (inr refl, refl)
  integer F32 e = cc
  integer F64 e = cc
  integer V128 e = cc
  integer (Ref r) e = cc

  constants_fit : Each (IsFit config context wanted fuel) (constant_offers context wanted)
  unfolding node_at
  constants_fit = each_join (IsFit config context wanted fuel) (offered_if (is_defaultable wanted) choice.Constant)
      (offered_if (is_integer wanted && context.features.extended_const) choice.Extended)
      (each_if (IsFit config context wanted fuel) (is_defaultable wanted) choice.Constant
      (λ default. record { node = constant_node default; extended = λ e. cc }))
      (each_if (IsFit config context wanted fuel) (is_integer wanted && context.features.extended_const) choice.Extended (λ yes.
      let (number, on) = both (is_integer wanted) context.features.extended_const yes in
      let (kind, default) = integer wanted number in
      record { node = constant_node default; extended = λ e. (kind, on) }))

  -- functions
  functions_fit : IsTrue context.features.reference_types → Each (IsFit config context wanted fuel)
      (each_from (function_offers context wanted) 0 context.funcs)
  unfolding node_at
  functions_fit on = each_all (IsFit config context wanted fuel) (function_offers context wanted) context.funcs (λ i index at.
      each_if (IsFit config context wanted fuel) (is_val_below context.types (function_reference context i index) wanted)
      (choice.Function i) (λ lower. record {
        node = λ bytes. leaf (instr.RefFunc i) (function_reference context i index) (index, at, refl, refl)
            (below (function_reference context i index) lower) on;
        extended = λ e. cc;
      }))

  paid_by : (f n : ℕ) → (nat_lt 0 f || (n == 0)) ≡ true → 0 < n → 0 < f
  paid_by f n e some = grind (arith, nat_tests)

  repeat_types : (n : ℕ) (value : ValType) → map operand_type (repeated n (Value value ∷ [])) ≡ replicate n value
  repeat_types zero value = refl
  repeat_types (suc n) value = ap (λ (vs : List ValType). value ∷ vs) (repeat_types n value)

  repeat_length : (n : ℕ) (operand : Operand) → length (repeated n (operand ∷ [])) ≡ n
  repeat_length zero operand = refl
  repeat_length (suc n) operand = ap suc (repeat_length n operand)

  repeat_calm : (n : ℕ) (operand : Operand) → Calm operand → Each Calm (repeated n (operand ∷ []))
  repeat_calm zero operand h = tt
  repeat_calm (suc n) operand h = (h, repeat_calm n operand h)

  some_fuel : (f : ℕ) → nat_lt 0 f ≡ true → 0 < f
  some_fuel zero e = cc
  some_fuel (suc f) e = omega arith

  -- structs and arrays
  type_fits : IsTrue context.features.gc → (arrays : Bool) (index : ℕ) (t : SubType) → slice_get context.types index ≡ Some t
      → (i : CompositeInnerType) → t.composite_type.inner ≡ i → Each (IsFit config context wanted fuel)
      (type_offers context wanted fuel arrays index i)
  unfolding node_at
  type_fits on false index t at (inner.Struct structure) is =
      let fields = structure.fields in
      let there : field_operands context.types index ≡ map Value (field_values fields) = rw (at, is) refl in
      let calm : Each Calm (map Value (field_values fields)) = rw is at (calm_type index t at) in
      let count : length (map Value (field_values fields)) ≡ length fields = length_map Value (field_values fields) ∙ length_map
      (λ (field : FieldType). unpacked field.element_type) fields in
      let wide : length fields ≤ widest context.types = rw is at (widest_at context.types index t at) in
      each_cond (IsFit config context wanted fuel) (is_val_below context.types (created context index) wanted)
      (struct_ways fuel index fields) (λ lower.
      each_join (IsFit config context wanted fuel) (offered_if (nat_lt 0 fuel || (length fields == 0)) (choice.Struct index))
      (offered_if (are_defaultable fields) (choice.StructDefault index))
      (each_if (IsFit config context wanted fuel) (nat_lt 0 fuel || (length fields == 0)) (choice.Struct index) (λ paid. record {
        node = λ bytes. rw there
            (node_by (instr.StructNew index) (map Value (field_values fields)) (created context index)
            (fields, (t, at, is), types_of (field_values fields), refl) (below (created context index) lower) on
            (λ some. paid_by fuel (length fields) paid (rw count at some)) (rw count wide) calm);
        extended = λ e. cc;
      }))
      (each_if (IsFit config context wanted fuel) (are_defaultable fields) (choice.StructDefault index) (λ defaults. record {
        node = λ bytes. leaf (instr.StructNewDefault index) (created context index) (
          fields,
          (t, at, is),
          All-from_recursion IsDefaultable
              (field_values fields) (defaults_each fields defaults),
          refl,
          refl,
        ) (below (created context index) lower) on;
        extended = λ e. cc;
      })))
  type_fits on true index t at (inner.Array array) is =
      let element = array.0 in
      let value = unpacked element.element_type in
      let there : field_operands context.types index ≡ Value value ∷ [] = rw (at, is) refl in
      let calm : Each Calm (Value value ∷ []) = rw is at (calm_type index t at) in
      let three = widest_three context.types in
      each_cond (IsFit config context wanted fuel) (nat_lt 0 fuel && is_val_below context.types (created context index) wanted)
      (array_ways index element) (λ yes.
      let (enough, lower) = both (nat_lt 0 fuel) (is_val_below context.types (created context index) wanted) yes in
      let paid : 0 < fuel = some_fuel fuel enough in (
        record {
          node = λ bytes. rw there
              (node_by (instr.ArrayNew index) (Value value ∷ Length ∷ []) (created context index) (element, (t, at, is), refl, refl)
              (below (created context index) lower) on
              (λ some. paid) (omega arith) (calm.0, (calm_length, tt)));
          extended = λ e. cc;
        },
        (
          record {
            node = λ bytes.
                let n = (range_at 0 3 bytes).0 in
                let within : n ≤ 3 = range_within 0 3 bytes (omega arith) in
                let count = repeat_length n (Value value) in
                rw there (node_by (instr.ArrayNewFixed index n) (repeated n (Value value ∷ [])) (created context index)
                (element, (t, at, is), repeat_types n value, refl) (below (created context index) lower) on
                (λ some. paid) (omega arith) (repeat_calm n (Value value) calm.0));
            extended = λ e. cc;
          },
          each_if (IsFit config context wanted fuel) (is_defaultable value) (choice.ArrayDefault index) (λ default. record {
            node = λ bytes. node_by (instr.ArrayNewDefault index) (Length ∷ []) (created context index)
                (element, (t, at, is), default_for value default, refl, refl) (below (created context index) lower) on
                (λ some. paid) (omega arith) (calm_length, tt);
            extended = λ e. cc;
          }),
        ),
      ))
  type_fits on arrays index t at i is = tt

  types_fit : IsTrue context.features.gc → (arrays : Bool) → Each (IsFit config context wanted fuel)
      (types_offers context wanted fuel arrays)
  types_fit on arrays = each_all (IsFit config context wanted fuel) (λ index (t : SubType). type_offers context wanted fuel arrays index
      t.composite_type.inner) context.types (λ index t at. type_fits on arrays index t at t.composite_type.inner refl)

  -- i31 references
  i31_fits : IsTrue context.features.gc → 0 < fuel → is_val_below context.types (reference_to (Abstract false heap.I31)) wanted ≡ true
      → IsFit config context wanted fuel choice.I31
  unfolding node_at
  i31_fits on paid lower =
      let three = widest_three context.types in
      record {
        node = λ bytes. node_by instr.RefI31 (Value I32 ∷ []) (reference_to (Abstract false heap.I31)) (refl, refl)
            (below (reference_to (Abstract false heap.I31)) lower) on (λ some. paid) (omega arith) (calm_number, tt);
        extended = λ e. cc;
      }

  shared_i31_fits : IsTrue context.features.gc → IsTrue context.features.shared_everything_threads → 0 < fuel
      → is_val_below context.types (reference_to (Abstract true heap.I31)) wanted ≡ true → IsFit config context wanted fuel choice.SharedI31
  unfolding node_at
  shared_i31_fits on shared paid lower =
      let three = widest_three context.types in
      record {
        node = λ bytes. node_by instr.RefI31Shared (Value I32 ∷ []) (reference_to (Abstract true heap.I31)) (refl, refl)
            (below (reference_to (Abstract true heap.I31)) lower) (on, shared) (λ some. paid) (omega arith) (calm_number, tt);
        extended = λ e. cc;
      }

-- the choices offered for a reference
module _ (config : Config) (context : Context) (r : RefType) (fuel : ℕ) (scope : IsScope context)
    (valid : IsValTypeValid context.features (length context.types) (Ref r)) where
  -- a conversion is offered for a nullable reference or with `non_nullable_enabled` off: if its
  -- operand may lack choices, so may the reference
  lacking_by : (nullable on : Bool) (P Q : Type 0) → (nullable || not on) ≡ true → (nullable ≡ false) × (IsTrue on → P) → (nullable ≡ false)
      × (IsTrue on → Q)
  lacking_by true on P Q may (not_null, h) = cc
  lacking_by false true P Q may (not_null, h) = cc
  lacking_by false false P Q may (not_null, h) = (refl, λ on. cc)

  converted_lacks : (r.nullable || not config.non_nullable_enabled) ≡ true → {h : HeapType}
      → MayLack config context (Ref (record { nullable = r.nullable; heap_type = h })) → MayLack config context (Ref r)
  converted_lacks may {h = h} (inl lacks) =
      inl (lacking_by r.nullable config.non_nullable_enabled (¬ IsGrounded context h) (¬ IsGrounded context r.heap_type) may lacks)
  converted_lacks may (inr holds) = inr holds

  conversions_fit : (r.nullable || not config.non_nullable_enabled) ≡ true → IsTrue context.features.gc → 0 < fuel → (h : HeapType)
      → r.heap_type ≡ h → Each (IsFit config context (Ref r) fuel) (conversions_to h)
  unfolding node_at Calm
  conversions_fit may on paid (Abstract shared heap.Any) is =
      let three = widest_three context.types in
      let same : is_shared_heap r.heap_type ≡ shared = rw is refl in
      let enabled = rw is at valid.1.heap_type in (
        record {
          node = λ bytes. rw same
              (node_by config context (Ref r) fuel scope valid instr.AnyConvertExtern
              (Value (Ref (record { nullable = r.nullable; heap_type = Abstract shared heap.Extern })) ∷ []) (Ref r)
              (record {
                shared = shared;
                nullable = r.nullable;
                taken = refl;
                given = ap (λ (h : HeapType). Ref (record { nullable = r.nullable; heap_type = h })) is;
              }) (below_itself context (Ref r))
              on (λ some. paid) (omega arith)
              (((valid.0, record { heap_type = (tt, enabled.1); nullable = valid.1.nullable }), converted_lacks may), tt));
          extended = λ e. cc;
        },
        tt,
      )
  conversions_fit may on paid (Abstract shared heap.Extern) is =
      let three = widest_three context.types in
      let same : is_shared_heap r.heap_type ≡ shared = rw is refl in
      let enabled = rw is at valid.1.heap_type in (
        record {
          node = λ bytes. rw same
              (node_by config context (Ref r) fuel scope valid instr.ExternConvertAny
              (Value (Ref (record { nullable = r.nullable; heap_type = Abstract shared heap.Any })) ∷ []) (Ref r)
              (record {
                shared = shared;
                nullable = r.nullable;
                taken = refl;
                given = ap (λ (h : HeapType). Ref (record { nullable = r.nullable; heap_type = h })) is;
              }) (below_itself context (Ref r))
              on (λ some. paid) (omega arith)
              (((valid.0, record { heap_type = (on, enabled.1); nullable = valid.1.nullable }), converted_lacks may), tt));
          extended = λ e. cc;
        },
        tt,
      )
  conversions_fit may on paid h is = tt

  others_fit : IsTrue context.features.gc → Each (IsFit config context (Ref r) fuel) (other_offers config context r fuel)
  others_fit on =
      let first = is_val_below context.types (reference_to (Abstract false heap.I31)) (Ref r) in
      let second = is_val_below context.types (reference_to (Abstract true heap.I31)) (Ref r) in
      let shared = context.features.shared_everything_threads in
      each_cond (IsFit config context (Ref r) fuel) (nat_lt 0 fuel)
      (offered_if first choice.I31 ++ (offered_if (shared && second) choice.SharedI31 ++ conversions config r)) (λ enough.
      let paid : 0 < fuel = some_fuel config context (Ref r) fuel scope valid fuel enough in
      each_join (IsFit config context (Ref r) fuel) (offered_if first choice.I31)
      (offered_if (shared && second) choice.SharedI31 ++ conversions config r)
      (each_if (IsFit config context (Ref r) fuel) first choice.I31 (λ lower. i31_fits config context (Ref r) fuel scope valid on paid
      lower))
      (each_join (IsFit config context (Ref r) fuel) (offered_if (shared && second) choice.SharedI31) (conversions config r)
      (each_if (IsFit config context (Ref r) fuel) (shared && second) choice.SharedI31 (λ yes. let (may, lower) = both shared second yes in
      shared_i31_fits config context (Ref r) fuel scope valid on may paid lower))
      (each_cond (IsFit config context (Ref r) fuel) (r.nullable || not config.non_nullable_enabled) (conversions_to r.heap_type)
      (λ may. conversions_fit may on paid r.heap_type refl))))

  created_fit : IsTrue context.features.gc → Each (IsFit config context (Ref r) fuel) (created_offers config context r fuel)
  created_fit on =
      let arrays = types_offers context (Ref r) fuel true in
      each_join (IsFit config context (Ref r) fuel) (types_offers context (Ref r) fuel false) (arrays ++ other_offers config context r fuel)
      (types_fit config context (Ref r) fuel scope valid on false)
      (each_join (IsFit config context (Ref r) fuel) arrays (other_offers config context r fuel)
      (types_fit config context (Ref r) fuel scope valid on true) (others_fit on))

references_fit : (config : Config) (context : Context) (wanted : ValType) (fuel : ℕ) → IsScope context
    → IsValTypeValid context.features (length context.types) wanted → Each (IsFit config context wanted fuel)
    (reference_offers config context wanted fuel)
references_fit config context (Ref r) fuel scope valid =
    each_join (IsFit config context (Ref r) fuel) (each_from (function_offers context (Ref r)) 0 context.funcs)
    (cond context.features.gc (created_offers config context r fuel) [])
    (functions_fit config context (Ref r) fuel scope valid valid.0)
    (each_cond (IsFit config context (Ref r) fuel) context.features.gc (created_offers config context r fuel)
    (λ on. created_fit config context r fuel scope valid on))
references_fit config context I32 fuel scope valid = tt
references_fit config context I64 fuel scope valid = tt
references_fit config context F32 fuel scope valid = tt
references_fit config context F64 fuel scope valid = tt
references_fit config context V128 fuel scope valid = tt

-- each choice that is offered fits
pub offers_fit : (config : Config) (context : Context) (wanted : ValType) (fuel : ℕ) → IsScope context
    → IsValTypeValid context.features (length context.types) wanted → Each (IsFit config context wanted fuel)
    (offers config context wanted fuel)
unfolding offers
offers_fit config context wanted fuel scope valid =
    each_join (IsFit config context wanted fuel) (each_from (global_offers context wanted) 0 (take context.visible context.globals))
    (constant_offers context wanted ++ reference_offers config context wanted fuel)
    (globals_fit config context wanted fuel scope valid)
    (each_join (IsFit config context wanted fuel) (constant_offers context wanted) (reference_offers config context wanted fuel)
    (constants_fit config context wanted fuel scope valid) (references_fit config context wanted fuel scope valid))

-- a chosen item is one of the list
pub chosen_each : {A : Type 0} (P : A → Type 0) (items : List A) (n : ℕ) (x : A) → Each P items → slice_get items n ≡ Some x → P x
chosen_each P [] n x h at = cc
chosen_each P (y ∷ items) zero x (p, h) at = subst P (same_Some y x at) p
chosen_each P (y ∷ items) (suc n) x (p, h) at = chosen_each P items n x h at

-- the choice among those offered fits
pub chosen_fits : (config : Config) (context : Context) (wanted : ValType) (fuel : ℕ) → IsScope context
    → IsValTypeValid context.features (length context.types) wanted → (items : List Choice) → items ≡ offers config context wanted fuel
    → (bytes after : List ℕ) (x : Choice) → choose_at items bytes ≡ (Some x, after) → IsFit config context wanted fuel x
unfolding choose_at
chosen_fits config context wanted fuel scope valid items is bytes after x chosen =
    chosen_each (IsFit config context wanted fuel) items (range_at 0 (length items - 1) bytes).0 x
    (subst (Each (IsFit config context wanted fuel)) (sym is) (offers_fit config context wanted fuel scope valid))
    (ap (λ (d : Option Choice × List ℕ). d.0) chosen)

constants_some : (context : Context) (value : ValType) (before following : List Choice) → is_defaultable value ≡ true
    → 0 < length (before ++ (constant_offers context value ++ following))
constants_some context value [] following default = rw default (omega arith)
constants_some context value (x ∷ before) following default = omega arith

-- a choice offered by one item of a list is offered by the list
some_join : {A : Type 0} (xs ys : List A) → 0 < length ys → 0 < length (xs ++ ys)
some_join xs ys some = simp length-append (omega arith)

some_front : {A : Type 0} (xs ys : List A) → 0 < length xs → 0 < length (xs ++ ys)
some_front xs ys some = simp length-append (omega arith)

some_each : {A B : Type 0} (offer : ℕ → A → List B) (start n place : ℕ) (xs : List A) (x : A) → slice_get xs place ≡ Some x
    → n ≡ start + place → 0 < length (offer n x) → 0 < length (each_from offer start xs)
some_each offer start n place [] x at same some = cc
some_each {A = A} offer start n zero (y ∷ xs) x at same some =
    let one : y ≡ x = same_Some y x at in
    let first : n ≡ start = omega arith in
    some_front (offer start y) (each_from offer (start + 1) xs) (subst (λ (z : A). 0 < length (offer start z)) (sym one)
    (subst (λ (k : ℕ). 0 < length (offer k x)) first some))
some_each offer start n (suc place) (y ∷ xs) x at same some = some_join (offer start y) (each_from offer (start + 1) xs)
    (some_each offer (start + 1) n place xs x at (omega arith) some)

some_cond : {A : Type 0} (b : Bool) (xs : List A) → b ≡ true → 0 < length xs → 0 < length (cond b xs [])
some_cond true xs on some = some
some_cond false xs on some = cc

both_are : (a b : Bool) → a ≡ true → b ≡ true → (a && b) ≡ true
both_are true b on e = e
both_are false b on e = cc

default_is : (value : ValType) → IsDefaultable value → is_defaultable value ≡ true
default_is I32 h = refl
default_is I64 h = refl
default_is F32 h = refl
default_is F64 h = refl
default_is V128 h = refl
default_is (Ref r) h = h

defaults_are : (fields : List FieldType) → Each IsDefaultable (field_values fields) → are_defaultable fields ≡ true
defaults_are [] h = refl
defaults_are (field ∷ fields) h = both_are (is_defaultable (unpacked field.element_type)) (are_defaultable fields)
    (default_is (unpacked field.element_type) h.0) (defaults_are fields h.1)

-- a struct type with defaults and a function that ground a reference are offered for it, with any
-- fuel
struct_offered : (context : Context) (r : RefType) (fuel index : ℕ) (i : CompositeInnerType) (fields : List FieldType)
    → i ≡ inner.Struct (record { fields = fields }) → are_defaultable fields ≡ true → is_val_below context.types (created context index)
    (Ref r) ≡ true
    → 0 < length (type_offers context (Ref r) fuel false index i)
struct_offered context r fuel index i fields is defaults below =
    rw (is, below) (some_join (offered_if (nat_lt 0 fuel || (length fields == 0)) (choice.Struct index))
    (offered_if (are_defaultable fields) (choice.StructDefault index)) (rw defaults (omega arith)))

below_any : (types : List SubType) (value : ValType) (r : RefType) → is_val_below types value (reference_to r.heap_type) ≡ true
    → is_val_below types value (Ref r) ≡ true
below_any types (Ref a) r e = let (first, second) = both (not a.nullable || false) (is_heap_below types a.heap_type r.heap_type) e in
    both_are (not a.nullable || r.nullable) (is_heap_below types a.heap_type r.heap_type) (wider a.nullable r.nullable first) second
  where
    wider : (a b : Bool) → (not a || false) ≡ true → (not a || b) ≡ true
    wider true b e = cc
    wider false b e = refl
below_any types I32 r e = cc
below_any types I64 r e = cc
below_any types F32 r e = cc
below_any types F64 r e = cc
below_any types V128 r e = cc

grounded_offered : (config : Config) (context : Context) (r : RefType) (fuel : ℕ) → IsScope context → IsGrounded context r.heap_type
    → 0 < length (reference_offers config context (Ref r) fuel)
grounded_offered config context r fuel scope (inl (index, by)) =
    let (t, at, is) = by.struct in
    let gc = scope.structs index by.fields by.struct in
    let below = (val_decides context.types scope.orderly (created context index) (reference_to r.heap_type)).1
    (record { heap = by.below; nullable = λ is. is }) in
    let offer = λ (i : ℕ) (ty : SubType). type_offers context (Ref r) fuel false i ty.composite_type.inner in
    let first = struct_offered context r fuel index t.composite_type.inner by.fields is
    (defaults_are by.fields (recursion_from_All IsDefaultable (field_values by.fields) by.defaults))
    (below_any context.types (created context index) r below) in
    let structs : 0 < length (types_offers context (Ref r) fuel false) = some_each offer 0 index index context.types t at (omega arith)
    first in
    some_join (each_from (function_offers context (Ref r)) 0 context.funcs) (cond context.features.gc (created_offers config context r fuel)
    [])
    (some_cond context.features.gc (created_offers config context r fuel) gc (some_front (types_offers context (Ref r) fuel false)
    (types_offers context (Ref r) fuel true ++ other_offers config context r fuel) structs))
grounded_offered config context r fuel scope (inr (function, index, at, lower)) =
    let below = below_any context.types (function_reference context function index) r
    ((val_decides context.types scope.orderly (function_reference context function index) (reference_to r.heap_type)).1 lower) in
    some_front (each_from (function_offers context (Ref r)) 0 context.funcs)
    (cond context.features.gc (created_offers config context r fuel) [])
    (some_each (function_offers context (Ref r)) 0 function function context.funcs index at (omega arith) (rw below (omega arith)))

references_some : (context : Context) (value : ValType) (before following : List Choice) → 0 < length following
    → 0 < length (before ++ (constant_offers context value ++ following))
references_some context value before following some = some_join before (constant_offers context value ++ following)
    (some_join (constant_offers context value) following some)

not_true : (b : Bool) → (b ≡ true → ⊥) → b ≡ false
not_true true h = absurd (h refl)
not_true false h = refl

lacking : (config : Config) (context : Context) (value : ValType) (fuel : ℕ) (before : List Choice) → IsScope context
    → length (before ++ (constant_offers context value ++ reference_offers config context value fuel)) ≡ 0
    → IsUngrounded config context value
lacking config context I32 fuel before scope none = let some = constants_some context I32 before [] refl in absurd (omega arith)
lacking config context I64 fuel before scope none = let some = constants_some context I64 before [] refl in absurd (omega arith)
lacking config context F32 fuel before scope none = let some = constants_some context F32 before [] refl in absurd (omega arith)
lacking config context F64 fuel before scope none = let some = constants_some context F64 before [] refl in absurd (omega arith)
lacking config context V128 fuel before scope none = let some = constants_some context V128 before [] refl in absurd (omega arith)
lacking config context (Ref r) fuel before scope none =
    let references = reference_offers config context (Ref r) fuel in (
      not_true r.nullable (λ default. let some = constants_some context (Ref r) before references default in absurd (omega arith)),
      λ on grounded. let some = references_some context (Ref r) before references (grounded_offered config context r fuel scope grounded) in
          absurd (omega arith),
    )

-- if no choice is offered, the wanted type is a non-nullable reference, which with
-- `non_nullable_enabled` is not grounded either
pub nothing_offered : (config : Config) (context : Context) (wanted : ValType) (fuel : ℕ) (items : List Choice) (e : Error)
    → IsScope context → items ≡ offers config context wanted fuel → length items ≡ 0 → e ≡ EmptyChoose
    → MayRefuseConstExpr config context wanted e
unfolding offers
nothing_offered config context wanted fuel items e scope is none empty =
    inr (
      empty,
      inl (lacking config context wanted fuel (each_from (global_offers context wanted) 0 (take context.visible context.globals))
          scope (rw is at none)),
    )
