-- The context of a function of a module whose types and sections are valid.
use Rattle.smith_check.proofs.Common.{all_right, AreSectionsValid, AreTypesValid, arith, canonical_groups, canonical_index, Features}
use Rattle.smith_check.proofs.Common.{FuncType, get_or, inl, inr, IsFuncAt, length, List, renamed_ref, slice_get, space_of, subst, SubType}
use Rattle.smith_check.proofs.Common.{sym, types_in, ValType, ℕ, ◌++◌, ◌<◌, ◌≡◌}
use Rattle.std.specs.Prelude.{Some}
use Rattle.std.proofs.lemmas.List.Elements.{All-append, All-map, All-weaker}
use Rattle.std.proofs.lemmas.Option.{slice_get-get_or}
use Rattle.smith_types.specs.Syntax.composite_type.CompositeInnerType.{CompositeInnerType}
use Rattle.smith_types.specs.Syntax.entity_type.GlobalType.{GlobalType}
use Rattle.smith_types.specs.Syntax.entity_type.TableType.{TableType}
use Rattle.smith_types.specs.Syntax.value_type.HeapType.{HeapType}
use Rattle.smith_types.specs.Syntax.value_type.HeapType.TheVariants.{Abstract, Concrete, Exact}
use Rattle.smith_types.specs.Syntax.value_type.RefType.{RefType}
use Rattle.smith_types.proofs.GroupGrowthLemmas.{AreTypesOpen-at, AreTypesOpen-start}
use Rattle.smith_types.specs.Entities.{IsGlobalValid, IsTableValid}
use Rattle.smith_types.specs.Expressions.{seeing, seen_by_segments}
use Rattle.smith_types.specs.Subtyping.{IsInRange}
use Rattle.smith_types.specs.ValidTypes.{IsHeapTypeValid, IsRefTypeValid, IsTypeValid, IsValTypeValid, values_of}
use Rattle.smith_decode.specs.Elements.{Elem}
use Rattle.smith_decode.specs.Modules.{Syntax}
use Rattle.smith_check_operands.proofs.ListLemmas.{all_left}
use Rattle.smith_check_operands.specs.Scopes.{IsScope}
use Rattle.smith_check_module.specs.Contexts.{context_in, spaces_in}
use Rattle.smith_check_module.specs.ValidModules.{IsElementTypeValid, IsElementValid}
use Rattle.smith_check.specs.ValidPrograms.{AreValuesValid, context_of_function}

heap_in_range : (features : Features) (types : List SubType) (heap : HeapType) → IsHeapTypeValid features (length types) heap
    → IsInRange types heap
heap_in_range features types (Abstract shared ty) h = tt
heap_in_range features types (Concrete index) h = h.1
heap_in_range features types (Exact index) h = h.1

module _ (features : Features) (indices : List ℕ) (m : Syntax)
    (valid : AreTypesValid features (space_of (canonical_groups indices m.types)))
  where
    type_valid : (i : ℕ) (t : SubType) → slice_get (types_in indices m) i ≡ Some t
        → IsTypeValid features (types_in indices m) (length (types_in indices m)) t
    type_valid i t at =
        let space = space_of (canonical_groups indices m.types) in
        AreTypesOpen-at features (length space.types) space (AreTypesOpen-start features (length space.types) space (omega arith) valid) i t
        at

    type_here : (i : ℕ) (d : SubType) → i < length (types_in indices m)
        → IsTypeValid features (types_in indices m) (length (types_in indices m)) (get_or (types_in indices m) i d)
    type_here i d inside = type_valid i (get_or (types_in indices m) i d) (slice_get-get_or (types_in indices m) i d inside)

    -- the parameters and the results of a function type are valid
    function_values : (index : ℕ) (function : FuncType) → IsFuncAt (types_in indices m) index function
        → AreValuesValid features indices m (function.params ++ function.results)
    function_values index function (t, at, is) =
        subst (λ (inner : CompositeInnerType). AreValuesValid features indices m (values_of inner)) is (type_valid index t at).values

    pub params_valid : (index : ℕ) (function : FuncType) → IsFuncAt (types_in indices m) index function
        → AreValuesValid features indices m function.params
    params_valid index function at =
        all_left (IsValTypeValid features (length (types_in indices m))) function.params function.results
        (function_values index function at)

    results_valid : (index : ℕ) (function : FuncType) → IsFuncAt (types_in indices m) index function
        → AreValuesValid features indices m function.results
    results_valid index function at =
        all_right (IsValTypeValid features (length (types_in indices m))) function.params function.results
        (function_values index function at)

    -- the type of a valid element segment refers to a type that exists
    element_in_range : (ty : RefType) → IsElementTypeValid (seeing (context_in features indices m)
        (seen_by_segments (context_in features indices m))) ty → IsInRange (types_in indices m) ty.heap_type
    element_in_range ty (inl is) = subst (λ (r : RefType). IsInRange (types_in indices m) r.heap_type) (sym is) tt
    element_in_range ty (inr h) = heap_in_range features (types_in indices m) ty.heap_type h.0.heap_type

    pub scope_of_function : AreSectionsValid features indices m → (function : FuncType) (locals : List ValType) (index : ℕ)
        → IsFuncAt (types_in indices m) index function → AreValuesValid features indices m locals
        → IsScope (context_of_function features indices m function locals)
    scope_of_function sections function locals index at locals_valid =
        let types = types_in indices m in
        let spaces = spaces_in indices m in
        let context = seeing (context_in features indices m) (seen_by_segments (context_in features indices m)) in
        record {
          enabled = λ i d inside. (type_here i d inside).enabled;
          types = λ i d inside. (type_here i d inside).values;
          funcs = sections.entities.funcs;
          tables = All-weaker (IsTableValid features types)
              (λ (table : TableType). IsRefTypeValid features (length types) table.element_type)
              (λ table h. h.element) spaces.tables sections.entities.tables;
          elems = All-map (λ (ty : RefType). IsInRange types ty.heap_type)
              (λ (segment : Elem). renamed_ref (canonical_index indices) segment.ty) m.elems
              (All-weaker (IsElementValid context indices spaces)
              (λ (segment : Elem). IsInRange types (renamed_ref (canonical_index indices) segment.ty).heap_type)
              (λ segment h. element_in_range (renamed_ref (canonical_index indices) segment.ty) h.ty) m.elems sections.segments.elements);
          globals = All-weaker (IsGlobalValid features types)
              (λ (global : GlobalType). IsValTypeValid features (length types) global.val_type)
              (λ global h. h.value) spaces.globals sections.entities.globals;
          locals = All-append (IsValTypeValid features (length types)) function.params locals (params_valid index function at) locals_valid;
          results = results_valid index function at;
          params_valid = params_valid;
          results_valid = results_valid;
        }
