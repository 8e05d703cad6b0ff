-- The parts of a valid module that its bodies may refer to.
use Rattle.smith_program.proofs.Common.{[], All, All-append, All-from_recursion, All-weaker, ap, arith, Code, ElementSegment, Features}
use Rattle.smith_program.proofs.Common.{FuncType, get_or, get_or_from_slice_get, GlobalType, Instr, IsBodyTyped, IsTrue, length, List}
use Rattle.smith_program.proofs.Common.{module_features, ModuleParts, recursion_from_All, refl, slice_get, slice_get-get_or}
use Rattle.smith_program.proofs.Common.{slice_get_within, Some, subst, ValType, ℕ, ◌++◌, ◌+◌, ◌<◌, ◌∙◌, ◌∷◌, ◌≡◌, ◌≤◌}
use Rattle.std.proofs.Common.{length-append, ◌*◌}
use Rattle.std.specs.List.{AllByRecursion as Each}
use Rattle.std.specs.declared.ops.Range.{Range}
use Rattle.std.proofs.lemmas.List.Elements.{All-map}
use Rattle.std.proofs.Math.Nat.{mul-le-mul_left}
use Rattle.std.proofs.lemmas.Option.{slice_get_read}
use Rattle.smith_types.specs.GroupedTypes.{GroupedTypes}
use Rattle.smith_types.specs.Entities.{IsFuncAt, IsFuncTypeIndex, IsGlobalValid, IsTableValid}
use Rattle.smith_types.specs.Segments.{IsElementSegmentValid}
use Rattle.smith_types.specs.ValidTypes.{IsRefTypeValid, IsValTypeValid, IsGroupValid, AreTypesValid, values_of}
use Rattle.smith_types.specs.Syntax.code.Instructions.{Instructions}
use Rattle.smith_types.specs.Syntax.code.Instructions.TheVariants.{Arbitrary, Unreachable}
use Rattle.smith_types.specs.Syntax.composite_type.CompositeInnerType.{CompositeInnerType}
use Rattle.smith_types.specs.Syntax.composite_type.CompositeInnerType.TheVariants.{Func}
use Rattle.smith_types.specs.Syntax.composite_type.SubType.{SubType}
use Rattle.smith_types.specs.Syntax.entity_type.TableType.{TableType}
use Rattle.smith_types.proofs.ValidityLemmas.{ends_within, group_at}
use Rattle.smith_types.proofs.EntityGrowthLemmas.{IsValTypeValid-later}
use Rattle.smith_draw_consts.proofs.ConstScopeLemmas.{fields_valid}
use Rattle.smith_module_rules.specs.Held.{IsRaw}
use Rattle.smith_module_rules.specs.Module.{IsValid, module_imports, module_types, segment_context}
use Rattle.smith_instr.specs.Enabled.{IsEnabled}
use Rattle.smith_body_nodes.specs.Scopes.{kinds_of_bodies, most, IsScope}
use Rattle.smith_body_nodes.specs.Traps.{IsTrapless}
use Rattle.smith_body_leaves.specs.Leaves.{longest_leaf}
use Rattle.smith_body.specs.Stops.{HasNeededStops}
use Rattle.smith_program.specs.Bodies.{HasDefinedType, IsDrawnAt, function_context}
use Rattle.smith_body_nodes.proofs.NodeLemmas.{func_wide}

each_front : {A : Type 0} (P : A → Type 0) (xs ys : List A) → Each P (xs ++ ys) → Each P xs × Each P ys
each_front P [] ys h = (tt, h)
each_front P (x ∷ xs) ys (p, h) = let (front, back) = each_front P xs ys h in ((p, front), back)

each_pair : {A : Type 0} (P Q : A → Type 0) (xs : List A) → Each P xs → Each Q xs → Each (λ (x : A). P x × Q x) xs
each_pair P Q [] h k = tt
each_pair P Q (x ∷ xs) (p, h) (q, k) = ((p, q), each_pair P Q xs h k)

-- the values of a type are valid over all types
type_values : (features : Features) (space : GroupedTypes) → AreTypesValid features space → (index : ℕ) (t : SubType)
    → slice_get space.types index ≡ Some t
    → All (IsValTypeValid features (length space.types)) (values_of t.composite_type.inner)
type_values features space valid index t at =
    let inside : index < length space.types = slice_get_within space.types index t at in
    let whole = valid.covered.whole in
    let (low, ends) = ends_within 0 space.groups valid.covered.consecutive in
    let each = each_pair (IsGroupValid features space.types) (λ (g : Range ℕ). g.end ≤ length space.types) space.groups
    (recursion_from_All (IsGroupValid features space.types) space.groups valid.groups) (rw whole at ends) in
    let (group, (h, within), begins, over) = group_at (λ (g : Range ℕ). IsGroupValid features space.types g × (g.end ≤ length space.types))
    0 space.groups index valid.covered.consecutive each (omega arith) (omega arith) in
    let member = h.members index t begins over at in
    All-weaker (IsValTypeValid features group.end) (IsValTypeValid features (length space.types))
    (IsValTypeValid-later features group.end (length space.types) within) (values_of t.composite_type.inner) member.values

-- the parameters and results of a function type are valid over all types
func_values : (features : Features) (space : GroupedTypes) → AreTypesValid features space → (index : ℕ) (function : FuncType)
    → IsFuncAt space.types index function
    → All (IsValTypeValid features (length space.types)) function.params × All (IsValTypeValid features (length space.types))
    function.results
func_values features space valid index function (t, at, is) =
    let P = IsValTypeValid features (length space.types) in
    let all : All P (function.params ++ function.results) = subst (λ (x : CompositeInnerType). All P (values_of x)) is
    (type_values features space valid index t at) in
    let (front, back) = each_front P function.params function.results (recursion_from_All P (function.params ++ function.results) all) in
    (All-from_recursion P function.params front, All-from_recursion P function.results back)

-- the context of the bodies of a valid module is valid
pub module_scope : (m : ModuleParts) → IsValid m → (index : ℕ) (function : FuncType) → IsFuncAt m.types index function
    → (locals : List ValType)
    → All (IsValTypeValid (module_features m) (length m.types)) locals → IsScope (function_context m function locals)
module_scope m valid index function there locals locals_valid =
    let features = module_features m in
    let P = IsValTypeValid features (length m.types) in
    let R = IsRefTypeValid features (length m.types) in
    let (params, results) = func_values features (module_types m) valid.types index function there in
    record {
      orderly = valid.types.orderly;
      funcs = valid.entities.funcs;
      globals = All-weaker (IsGlobalValid features m.types) (λ (global : GlobalType). P global.val_type)
          (λ (global : GlobalType) (h : IsGlobalValid features m.types global). h.value) m.globals valid.entities.globals;
      tables = All-weaker (IsTableValid features m.types) (λ (table : TableType). R table.element_type)
          (λ (table : TableType) (h : IsTableValid features m.types table). h.element) m.tables valid.entities.tables;
      tags = valid.entities.tags;
      memories = valid.entities.memories;
      elems = All-map R (λ (segment : ElementSegment). segment.ty) m.elems
          (All-weaker (IsElementSegmentValid (segment_context m) m.tables) (λ (segment : ElementSegment). R segment.ty)
          (λ (segment : ElementSegment) (h : IsElementSegmentValid (segment_context m) m.tables segment). h.ty) m.elems valid.elems);
      locals = All-append P function.params locals params locals_valid;
      results = results;
      results_few = let wide = func_wide m.types index function there in omega arith;
      params_valid = λ i f at. (func_values features (module_types m) valid.types i f at).0;
      results_valid = λ i f at. (func_values features (module_types m) valid.types i f at).1;
      fields_valid = fields_valid features (module_types m) valid.types;
    }

-- imported functions come before the defined ones
pub imported_before : (m : ModuleParts) → IsValid m → length m.funcs ≡ length (module_imports m).funcs + m.num_defined_funcs
imported_before m valid =
    let made = valid.spaces.funcs in
    let count = made.count_is in
    rw made.parts (simp length-append (omega arith))

-- the index of the type of a defined function
abbrev pub type_index : ModuleParts → ℕ → ℕ
type_index m place = get_or m.funcs (length (module_imports m).funcs + place) 0

-- each defined function has a function type
pub defined_there : (m : ModuleParts) → IsValid m → (place : ℕ) → place < length m.code
    → (slice_get m.funcs (length (module_imports m).funcs + place) ≡ Some (type_index m place)) × IsFuncTypeIndex m.types
    (type_index m place)
defined_there m valid place inside =
    let all = imported_before m valid in
    let each = valid.bodies.each in
    let within : length (module_imports m).funcs + place < length m.funcs = omega arith in (
      slice_get-get_or m.funcs (length (module_imports m).funcs + place) 0 within,
      valid.entities.funcs (length (module_imports m).funcs + place) 0 within,
    )

-- the index of the type of a defined function is in range
pub type_inside : (m : ModuleParts) → IsValid m → (place : ℕ) → place < length m.code → type_index m place < length m.types
type_inside m valid place inside =
    let (there, (function, (t, at, is))) = defined_there m valid place inside in
    slice_get_within m.types (type_index m place) t at

-- the type at this index is a function type, whatever the default of the look-up
pub is_function : (m : ModuleParts) → IsValid m → (place : ℕ) → place < length m.code → (read : SubType)
    → ((function : FuncType) → (get_or m.types (type_index m place) read).composite_type.inner ≡ Func function → ⊥) → ⊥
is_function m valid place inside read none =
    let (there, (function, (t, at, is))) = defined_there m valid place inside in
    none function (ap (λ (t : SubType). t.composite_type.inner) (get_or_from_slice_get m.types (type_index m place) t read at) ∙ is)

pub has_type : (m : ModuleParts) → IsValid m → (place : ℕ) → place < length m.code → (read : SubType) (function : FuncType)
    → read ≡ get_or m.types (type_index m place) read
    → (get_or m.types (type_index m place) read).composite_type.inner ≡ Func function → HasDefinedType m place function
has_type m valid place inside read function is func = (
  type_index m place,
  (defined_there m valid place inside).0,
  (
    read,
    slice_get_read m.types (length m.types) (type_index m place) read refl (type_inside m valid place inside) is,
    ap (λ (t : SubType). t.composite_type.inner) is ∙ func,
  ),
)

-- instructions that aren't raw bytes
pub not_raw : (instructions : Instructions) → ((bytes : List ℕ) → instructions ≡ Arbitrary bytes → ⊥) → ¬ IsRaw instructions
not_raw Unreachable other = λ raw. raw
not_raw (Arbitrary bytes) other = λ raw. other bytes refl

-- the drawn body of a function is that of the function at its place
pub drawn_at : (m : ModuleParts) (place : ℕ) (given : Code) (function : FuncType) (instructions : List Instr)
    → given ≡ get_or m.code place given → ¬ IsRaw given.instructions → HasDefinedType m place function
    → IsBodyTyped (function_context m function given.locals) instructions → All (IsEnabled (module_features m) (kinds_of_bodies m.config))
    instructions → (IsTrue m.config.disallow_traps → All IsTrapless instructions)
    → (0 < m.config.max_instructions → HasNeededStops m.config (function_context m function given.locals) instructions)
    → length instructions ≤ 1 + longest_leaf m.config m.types * (length function.results + most m.types * m.config.max_instructions)
    → (code : Code) → slice_get m.code place ≡ Some code → (¬ IsRaw code.instructions) × IsDrawnAt m place code instructions
drawn_at m place given function instructions read drawn there typed enabled trapless needed short code at =
    let same : given ≡ code = read ∙ get_or_from_slice_get m.code place code given at in
    subst (λ (code : Code). (¬ IsRaw code.instructions) × IsDrawnAt m place code instructions) same (
      drawn,
      record {
        body = record { function = function; there = there; typed = typed };
        enabled = enabled;
        trapless = trapless;
        needed = needed;
        short = short;
      },
    )

-- a lesser budget allows no more instructions
pub allowed_by : (length longest results most budget greatest : ℕ) → budget ≤ greatest → length ≤ 1 + longest * (results + most * budget)
    → length ≤ 1 + longest * (results + most * greatest)
allowed_by length longest results most budget greatest within short =
    let inner : most * budget ≤ most * greatest = mul-le-mul_left most within in
    let outer : longest * (results + most * budget) ≤ longest * (results + most * greatest) = mul-le-mul_left longest (omega arith) in
    omega arith
