-- Definitions with one more entity, and when they are refused.
use Rattle.smith_draw_definitions.proofs.Common.{[], ap, Bool, Config, ConstInstr, Context, EmptyChoose, EntitySpaces, EntityType, Err}
use Rattle.smith_draw_definitions.proofs.Common.{Error, false, GlobalType, IfOk, inl, inr, is_memory, length, List, None, Ok, Option, Ref}
use Rattle.smith_draw_definitions.proofs.Common.{refl, Result, Returns, seen_by, Some, standing_in, subst, SubType, sym, TableType, true}
use Rattle.smith_draw_definitions.proofs.Common.{ValType, without_globals, ℕ, ◌++◌, ◌+◌, ◌∙◌, ◌∷◌, ◌≡◌}
use Rattle.std.specs.Prelude.{IfErr, IsErrAnd}
use Rattle.smith_bytes.specs.declared.error.Error.TheVariants.{Memory}
use Rattle.smith_types.specs.Syntax.entity_type.EntityType.TheVariants as entity
use Rattle.smith_draw_consts.specs.ConstBounds.{MayRefuseConstExpr}
use Rattle.smith_draw_consts.specs.ConstExprs.{const_expr_at, table_init_at}
use Rattle.smith_draw_types.specs.declared.spaces.Spaces.{Spaces}
use Rattle.smith_draw_types.proofs.NullableLemmas.{ungrounded_not_null}
use Rattle.smith_draw_definitions.specs.Defined.{drawn_beside}
use Rattle.smith_draw_definitions.specs.Required.{MayRefuseInitial}
use Rattle.smith_draw_definitions.specs.RequiredExports.{scope_beside, made_of, with_table, with_global, defined_with_at}
use Rattle.smith_draw_definitions.specs.declared.definitions.Definitions.{Definitions}

-- the result of a step is the value that the draw defines, if lack of memory is its only refusal
pub answered : {X Y : Type 0} (view : X → Y) (result : Result X Error) (read : Result Y Error) → IfErr result (λ e. e ≡ Memory)
    → IfOk result (λ x. read ≡ Ok (view x)) → Returns is_memory view result read
answered view (Ok x) read memory exact = exact
answered view (Err e) read memory exact = subst (λ (one : Error). Returns is_memory view (Err one) read) (sym memory) tt

refused_so : {X Y : Type 0} (view : X → Y) (config : Config) (context : Context) (wanted : ValType) (e : Error) (read : Result Y Error)
    → MayRefuseConstExpr config context wanted e → (e ≡ EmptyChoose → read ≡ Err EmptyChoose) → Returns is_memory view (Err e) read
refused_so view config context wanted e read (inl memory) none = subst (λ (one : Error). Returns is_memory view (Err one) read) (sym memory)
    tt
refused_so view config context wanted e read (inr (empty, lacking)) none = subst (λ (one : Error). Returns is_memory view (Err one) read)
    (sym empty) (none empty)

-- an initialiser is refused as the draw defines, if there is nothing to choose from
pub refused_initial : {X Y : Type 0} (view : X → Y) (result : Result X Error) (config : Config) (context : Context) (wanted : ValType)
    (e : Error) (read : Result Y Error) → IsErrAnd result (λ y. y ≡ e) → MayRefuseConstExpr config context wanted e
    → (e ≡ EmptyChoose → read ≡ Err EmptyChoose) → Returns is_memory view result read
refused_initial view (Ok x) config context wanted e read passed refusal none = absurd passed
refused_initial view (Err y) config context wanted e read passed refusal none =
    subst (λ (one : Error). Returns is_memory view (Err one) read) (sym passed) (refused_so view config context wanted e read refusal none)

module _ (config : Config) (types : List SubType) (spaces : EntitySpaces) (defined : Definitions) (context : Context) (bytes : List ℕ) where
  -- a table is defined with the drawn initialiser, unless there is nothing to choose from
  module _ (table : TableType) (same : context ≡ scope_beside config types spaces defined false) where
    pub table_lacking : table_init_at config context table.element_type bytes ≡ None → defined_with_at config types spaces defined
        (entity.Table table) bytes ≡ Err EmptyChoose
    unfolding defined_with_at
    table_lacking none = ap (made_of (with_table defined)) (ap (λ (one : Context). table_init_at config one table.element_type bytes)
        (sym same) ∙ none)

    pub table_made : (initial : Option (List ConstInstr)) (after : List ℕ) (tables : List (Option (List ConstInstr)))
        → tables ≡ defined.tables ++ initial ∷ [] → table_init_at config context table.element_type bytes ≡ Some (initial, after)
        → defined_with_at config types spaces defined (entity.Table table) bytes ≡ Ok (record defined { tables = tables }, after)
    unfolding defined_with_at
    table_made initial after tables longer drawn =
        ap (made_of (with_table defined)) (ap (λ (one : Context). table_init_at config one table.element_type bytes) (sym same) ∙ drawn)
        ∙ ap (λ (l : List (Option (List ConstInstr))). Ok (record defined { tables = l }, after)) (sym longer)

  -- a global is defined with the drawn initialiser and the next index
  module _ (global : GlobalType) (same : context ≡ scope_beside config types spaces defined true) where
    pub global_lacking : const_expr_at config context global.val_type bytes ≡ None → defined_with_at config types spaces defined
        (entity.Global global) bytes ≡ Err EmptyChoose
    unfolding defined_with_at
    global_lacking none = ap (made_of (with_global defined (length spaces.globals)))
        (ap (λ (one : Context). const_expr_at config one global.val_type bytes) (sym same) ∙ none)

    pub global_made : (index : ℕ) (initial : List ConstInstr) (after : List ℕ) (globals : List (ℕ × List ConstInstr))
        → index ≡ length spaces.globals → globals ≡ defined.globals ++ (index, initial) ∷ []
        → const_expr_at config context global.val_type bytes ≡ Some (initial, after) → defined_with_at config types spaces defined
        (entity.Global global) bytes ≡ Ok (record defined { globals = globals }, after)
    unfolding defined_with_at
    global_made index initial after globals last longer drawn =
        ap (made_of (with_global defined (length spaces.globals))) (ap (λ (one : Context). const_expr_at config one global.val_type bytes)
        (sym same) ∙ drawn)
        ∙ (ap (λ (n : ℕ). Ok (with_global defined n initial, after)) (sym last)
        ∙ ap (λ (l : List (ℕ × List ConstInstr)). Ok (record defined { globals = l }, after)) (sym longer))

-- other entities are counted
module _ (config : Config) (types : List SubType) (spaces : EntitySpaces) (defined : Definitions) (added : EntityType) (index : ℕ)
    (bytes : List ℕ) where
  pub tag_counted : added ≡ entity.Tag index → defined_with_at config types spaces defined added bytes
      ≡ Ok (record defined { num_tags = defined.num_tags + 1 }, bytes)
  unfolding defined_with_at
  tag_counted is = rw is refl

  pub func_counted : added ≡ entity.Func index → defined_with_at config types spaces defined added bytes
      ≡ Ok (record defined { num_funcs = defined.num_funcs + 1 }, bytes)
  unfolding defined_with_at
  func_counted is = rw is refl

-- the refusal of an initialiser is that of the table or the global that has it
pub table_refused : (config : Config) (context : Context) (table : TableType) (added : EntityType) (e : Error) → added ≡ entity.Table table
    → MayRefuseConstExpr config context (Ref table.element_type) e → MayRefuseInitial config context added e
table_refused config context table added e is (inl memory) = inl memory
table_refused config context table added e is (inr (empty, inl lacks)) = inr (empty, inl (rw is lacks.0))
table_refused config context table added e is (inr (empty, inr holds)) = inr (empty, inr holds)

pub global_refused : (config : Config) (context : Context) (global : GlobalType) (added : EntityType) (e : Error)
    → added ≡ entity.Global global → MayRefuseConstExpr config context global.val_type e → MayRefuseInitial config context added e
global_refused config context global added e is (inl memory) = inl memory
global_refused config context global added e is (inr (empty, inl lacks)) =
    inr (empty, inl (rw is (ungrounded_not_null config context global.val_type lacks)))
global_refused config context global added e is (inr (empty, inr holds)) = inr (empty, inr holds)

-- the scope of an initialiser determines the context in which it is drawn
pub refused_beside : (config : Config) (types : List SubType) (spaces : EntitySpaces) (defined : Definitions) (within : Spaces)
    (allow_defined : Bool) (wanted : ValType) (e : Error) → seen_by config within allow_defined ≡ scope_beside config types spaces defined
    allow_defined
    → MayRefuseConstExpr config (standing_in config within) wanted e → MayRefuseConstExpr config (drawn_beside config types spaces defined)
    wanted e
refused_beside config types spaces defined within allow_defined wanted e same h =
    subst (λ (context : Context). MayRefuseConstExpr config (without_globals context) wanted e) same h
