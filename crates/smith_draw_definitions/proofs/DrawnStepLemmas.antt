-- Facts that one step of drawing a module provides for the next.
use Rattle.smith_draw_definitions.proofs.Common.{[], All, AreKeptGrounds, arith, Config, Context, EntitySpaces, Error, Extends, features_of}
use Rattle.smith_draw_definitions.proofs.Common.{function_context, GroupedTypes, inl, inr, IsContextGrown, IsFuncTypeIndex, IsGlobalValid}
use Rattle.smith_draw_definitions.proofs.Common.{length, List, refl, SubType, take, ValType, ℕ, ◌-◌, ◌≡◌, ◌≤◌}
use Rattle.std.proofs.Common.{max}
use Rattle.smith_bytes.specs.declared.error.Count.TheVariants as counts
use Rattle.std.proofs.Math.Seq.{take-append_seam}
use Rattle.std.proofs.lemmas.List.{length-take}
use Rattle.std.proofs.lemmas.List.Elements.{All-take}
use Rattle.smith_config.specs.Granted.{IsUngrounded}
use Rattle.smith_draw_consts.specs.ConstBounds.{MayRefuseConstExpr}
use Rattle.smith_draw_types.specs.declared.kept_grounds.KeptGrounds.{KeptGrounds}
use Rattle.smith_draw_types.proofs.FilledLemmas.{fields_before}
use Rattle.smith_draw_definitions.specs.Defined.{MayDefine, MayInitialise, MayRefuseDrawn, MayRefuseDefined, drawn_over, drawn_beside}
use Rattle.smith_draw_definitions.specs.Definitions.{scope_among, scope_over}
use Rattle.smith_draw_definitions.specs.declared.definitions.Definitions.{Definitions}
use Rattle.smith_draw_definitions.proofs.ExtensionLemmas.{all_kept}

-- the types, functions and globals that initialisers refer to are valid after functions are defined
pub may_initialise : (config : Config) (space : GroupedTypes) (before : EntitySpaces) (so_far : Definitions) (funcs : List ℕ)
    → MayDefine config space before so_far → All (IsFuncTypeIndex space.types) funcs → length funcs ≤ max config.max_funcs
    (length before.funcs)
    → MayInitialise config space (scope_among space.types funcs (length before.funcs - so_far.num_funcs)
    (length before.globals - length so_far.globals) before.globals)
may_initialise config space before so_far funcs may valid few =
    let imported = length before.globals - length so_far.globals in
    record {
      passes = may.passes;
      sanitized = may.sanitized;
      valid = may.valid;
      types = refl;
      funcs = valid;
      globals = All-take (IsGlobalValid (features_of config) space.types) imported before.globals may.entities.globals;
      few_funcs = omega (arith, few, may.room.funcs, may.passes.few counts.Funcs);
      few_globals = omega (arith, length-take imported before.globals, may.room.globals);
    }

-- an initialiser whose type is nullable or grounded is refused as any drawn one is
pub drawn_refused : (config : Config) (context : Context) (value : ValType) (e : Error) → ¬ IsUngrounded config context value
    → MayRefuseConstExpr config context value e → MayRefuseDrawn config context e
drawn_refused config context value e grounded (inl memory) = inl memory
drawn_refused config context value e grounded (inr (empty, inl lacks)) = absurd (grounded lacks)
drawn_refused config context value e grounded (inr (empty, inr holds)) = inr (empty, holds)

-- a refusal after functions are defined is one over the entities before
pub refused_before : (config : Config) (types : List SubType) (before : EntitySpaces) (so_far : Definitions) (funcs : List ℕ) (e : Error)
    → Extends before.funcs funcs
    → MayRefuseDrawn config (drawn_over config (scope_over types funcs (length before.funcs - so_far.num_funcs) [])) e
    → MayRefuseDefined config (drawn_beside config types before so_far) e
refused_before config types before so_far funcs e extends (inl memory) = inr (inl memory)
refused_before config types before so_far funcs e extends (inr (empty, holds)) =
    let old = drawn_beside config types before so_far in
    let new = drawn_over config (scope_over types funcs (length before.funcs - so_far.num_funcs) []) in
    let growth : IsContextGrown old new = record {
      features = refl;
      types = all_kept types;
      funcs = extends;
      globals = all_kept [];
      imported_funcs = refl;
      imported_globals = refl;
      visible = omega arith;
    } in
    inr (inr (empty, fields_before config old new growth refl holds))

-- the record after the added functions are noted
pub functions_noted : (config : Config) (types : List SubType) (before : EntitySpaces) (so_far : Definitions) (funcs : List ℕ)
    (old new : KeptGrounds) → Extends before.funcs funcs → so_far.num_funcs ≤ length before.funcs
    → ((imported : ℕ) → imported ≤ length before.funcs
    → AreKeptGrounds (function_context (features_of config) types (take (length before.funcs) funcs) imported) old
    → AreKeptGrounds (function_context (features_of config) types funcs imported) new)
    → AreKeptGrounds (drawn_beside config types before so_far) old
    → AreKeptGrounds (function_context (features_of config) types funcs (length before.funcs - so_far.num_funcs)) new
functions_noted config types before so_far funcs old new extends within noted kept =
    let front : take (length before.funcs) funcs ≡ before.funcs = rw extends.parts (take-append_seam before.funcs extends.more) in
    noted (length before.funcs - so_far.num_funcs) (omega (arith, within)) (rw front kept)
