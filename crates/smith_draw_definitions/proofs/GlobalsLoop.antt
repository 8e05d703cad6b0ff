-- One iteration of the loop over the defined globals.
use Rattle.smith_draw_definitions.proofs.Common.{[], All-nil, All-push, ap, append_assoc, arith, Bool, bool_at, Config, ConstInstr, Context}
use Rattle.smith_draw_definitions.proofs.Common.{EmptyChoose, Err, Error, false, features_of, GlobalType, goes_at, if◌then◌else◌, inl, inr}
use Rattle.smith_draw_definitions.proofs.Common.{IsConstExpr, IsContextGrown, IsGlobalValid, KeepsPieces, length, length-append, length-map}
use Rattle.smith_draw_definitions.proofs.Common.{List, map, map-append, nat_lt, None, Ok, Option, refl, Result, slice_get-grown}
use Rattle.smith_draw_definitions.proofs.Common.{slice_get-last, slice_get-push, Some, subst, sym, true, without_globals, ℕ, ◌&&◌, ◌++◌}
use Rattle.smith_draw_definitions.proofs.Common.{◌+◌, ◌-◌, ◌<◌, ◌>>=◌, ◌∙◌, ◌∷◌, ◌≡◌, ◌≤◌}
use Rattle.std.proofs.Common.{append-nil}
use Rattle.std.specs.Prelude.{ok_or}
use Rattle.smith_draw_consts.specs.ConstExprs.{const_expr_at}
use Rattle.smith_draw_types.specs.GlobalTypes.{global_type_at}
use Rattle.std.specs.List.{All}
use Rattle.std.proofs.lemmas.List.Elements.{All-map}
use Rattle.smith_types.specs.Floats.{HasNoFloat, IsNoFloat, GivesNoFloat}
use Rattle.smith_types.proofs.ExpressionGrowthLemmas.{IsConstExpr-grown}
use Rattle.smith_draw_definitions.specs.Definitions.{InitialiserScope, Global, context_at, global_scope, globals_of, initialised_at}
use Rattle.smith_draw_definitions.specs.Definitions.{global_at, globals_at}
use Rattle.smith_config.specs.Granted.{HasGroundedValue}
use Rattle.smith_draw_definitions.specs.Defined.{AreAdded, IsGlobalInitialised, AreGlobalsDefined, drawn_over}
use Rattle.smith_draw_definitions.proofs.ExtensionLemmas.{all_kept}
use Rattle.smith_draw_definitions.proofs.DefinedLoop.{IsTried, tried_start, tried_go, tried_refused, tried_stop, tried_full}

-- the initialisers
abbrev expressions : List (ℕ × List ConstInstr) → List (List ConstInstr)
expressions initials = map (λ (one : ℕ × List ConstInstr). one.1) initials

-- no global is a float
abbrev AreNoFloats : List GlobalType → Type 0
AreNoFloats globals = All (λ (global : GlobalType). IsNoFloat global.val_type) globals

-- properties of the globals so far, n of them defined
pub record AreDefining (config : Config) (standing : InitialiserScope) (before : List GlobalType) (old : List (ℕ × List ConstInstr)) (n : ℕ)
    (globals : List GlobalType) (initials : List (ℕ × List ConstInstr)) (start bytes : List ℕ) : Type 0 where
  pub made : List Global
  pub globals_are : globals ≡ globals_of before made
  pub initials_are : initials ≡ old ++ map (λ (one : Global). one.1) made
  pub defining : IsTried (global_at config standing before) config.min_globals config.max_globals (length before) n made start bytes
  pub valid : All (IsGlobalValid (features_of config) standing.types) globals
  pub defined : AreGlobalsDefined config standing before old → AreGlobalsDefined config standing globals initials
  pub floats : config.allow_floats ≡ false → AreNoFloats before → AreNoFloats globals
  pub grounded : All (λ (one : Global). HasGroundedValue config (drawn_over config standing) one.0) made
  pub constants : config.allow_floats ≡ false → All HasNoFloat standing.types → All (All GivesNoFloat) (expressions old)
      → All (All GivesNoFloat) (expressions initials)

-- the number of globals
pub count_is : {config : Config} {standing : InitialiserScope} {before : List GlobalType} {old : List (ℕ × List ConstInstr)} {n : ℕ}
    {globals : List GlobalType} {initials : List (ℕ × List ConstInstr)} {start bytes : List ℕ}
    → AreDefining config standing before old n globals initials start bytes → length globals ≡ length before + n
count_is {before = before} now =
    let lens = length-append before (map (λ (one : Global). one.0) now.made) in
    let len = now.defining.trying.len in
    ap length now.globals_are ∙ lens ∙ ap (λ (k : ℕ). length before + k) (length-map now.made (λ (one : Global). one.0) ∙ len)

-- before the first iteration
pub none_made : (config : Config) (standing : InitialiserScope) (before : List GlobalType) (old : List (ℕ × List ConstInstr))
    (start : List ℕ) → All (IsGlobalValid (features_of config) standing.types) before → AreDefining config standing before old 0 before old
    start start
none_made config standing before old start valid = record {
  made = [];
  globals_are = sym (append-nil before);
  initials_are = sym (append-nil old);
  defining = tried_start (global_at config standing before) config.min_globals config.max_globals (length before) start;
  valid = valid;
  defined = λ stood. stood;
  floats = λ off calm. calm;
  grounded = All-nil (λ (one : Global). HasGroundedValue config (drawn_over config standing) one.0);
  constants = λ off calm plain. plain;
}

module _ (config : Config) (standing : InitialiserScope) (globals : List GlobalType) (global : GlobalType) where
  -- a context stays as large when a global is added
  context_grown : (visible : ℕ) → IsContextGrown (context_at config standing globals visible)
      (context_at config standing (globals ++ global ∷ []) visible)
  context_grown visible = record {
    features = refl;
    types = all_kept standing.types;
    funcs = all_kept standing.funcs;
    globals = record { more = global ∷ []; parts = refl };
    imported_funcs = refl;
    imported_globals = refl;
    visible = omega arith;
  }

  -- an initialiser stays valid when a global is added
  kept : (place index : ℕ) (initial : List ConstInstr) → IsGlobalInitialised config standing globals place index initial
      → IsGlobalInitialised config standing (globals ++ global ∷ []) place index initial
  kept place index initial h =
      let visible = if config.gc_enabled then index else length standing.imported_globals in
      record {
        in_order = h.in_order;
        global = h.global;
        stands = slice_get-grown globals (global ∷ []) index h.global h.stands;
        initialised = IsConstExpr-grown (context_at config standing globals visible)
            (context_at config standing (globals ++ global ∷ []) visible) (context_grown visible) h.global.val_type initial h.initialised;
      }

  -- one more is defined
  defined_more : (initials : List (ℕ × List ConstInstr)) (initial : List ConstInstr) → AreGlobalsDefined config standing globals initials
      → IsConstExpr (global_scope config standing globals) global.val_type initial
      → AreGlobalsDefined config standing (globals ++ global ∷ []) (initials ++ (length globals, initial) ∷ [])
  defined_more initials initial now typed =
      let visible = if config.gc_enabled then length globals else length standing.imported_globals in
      let added : IsGlobalInitialised config standing (globals ++ global ∷ []) (length initials) (length globals) initial = record {
        in_order = now.count;
        global = global;
        stands = slice_get-last globals global;
        initialised = IsConstExpr-grown (global_scope config standing globals) (context_at config standing (globals ++ global ∷ []) visible)
            (context_grown visible) global.val_type initial typed;
      } in
      record {
        count = omega (arith, now.count, length-append globals (global ∷ []), length-append initials ((length globals, initial) ∷ []));
        each = λ place index other at. elim (slice_get-push initials (length globals, initial) place (index, other) at) [
          | inl was ↦ kept place index other (now.each place index other was)
          | inr (is, same) ↦ subst (λ (one : ℕ × List ConstInstr). IsGlobalInitialised config standing (globals ++ global ∷ []) place one.0
              one.1) same
              (subst (λ (n : ℕ). IsGlobalInitialised config standing (globals ++ global ∷ []) n (length globals) initial) (sym is) added)
        ];
      }

-- a global is drawn in the context of those so far
drawn_in : (config : Config) (standing : InitialiserScope) (before : List GlobalType) (made : List Global) (globals : List GlobalType)
    (bytes : List ℕ) → globals ≡ globals_of before made
    → global_at config standing before made bytes ≡ initialised_at config (global_scope config standing globals) bytes
unfolding global_at
drawn_in config standing before made globals bytes are =
    ap (λ (standing_globals : List GlobalType). initialised_at config (global_scope config standing standing_globals) bytes) (sym are)

-- its index is the number of globals before it
abbrev with_initial : GlobalType → ℕ → List ConstInstr × List ℕ → Result (Global × List ℕ) Error
with_initial global count initial = Ok ((global, (count, initial.0)), initial.1)

index_of : (global : GlobalType) (count : ℕ) (drawn : Option (List ConstInstr × List ℕ)) (one : Global) (after : List ℕ)
    → (ok_or drawn EmptyChoose >>= with_initial global count) ≡ Ok (one, after) → one.1.0 ≡ count
index_of global count None one after is = cc
index_of global count (Some initial) one after is =
    let pair : ((global, (count, initial.0)), initial.1) ≡ (one, after) = cc in
    sym (ap (λ (r : Global × List ℕ). r.0.1.0) pair)

index_is : (config : Config) (context : Context) (bytes : List ℕ) (one : Global) (after : List ℕ) → initialised_at config context bytes
    ≡ Ok (one, after) → one.1.0 ≡ length context.globals
unfolding initialised_at
index_is config context bytes one after drawn =
    let global = global_type_at config (without_globals context) bytes in
    index_of global.0 (length context.globals) (const_expr_at config context global.0.val_type global.1) one after drawn

-- there is nothing to choose from for the initialiser of a global
pub global_lacks : (config : Config) (context : Context) (bytes mid : List ℕ) (global : GlobalType)
    → global_type_at config (without_globals context) bytes ≡ (global, mid) → const_expr_at config context global.val_type mid ≡ None
    → initialised_at config context bytes ≡ Err EmptyChoose
unfolding initialised_at
global_lacks config context bytes mid global typed none = rw (typed, none) refl

-- one more global was drawn
pub define_more : {config : Config} {standing : InitialiserScope} {before : List GlobalType} {old : List (ℕ × List ConstInstr)} {n : ℕ}
    {globals more : List GlobalType} {initials longer : List (ℕ × List ConstInstr)} {start bytes mid after : List ℕ} {b : Bool}
    {one : Global}
    → AreDefining config standing before old n globals initials start bytes → n < config.max_globals - length before
    → goes_at (nat_lt n (config.min_globals - length before)) bytes ≡ (b, mid) → b ≡ true
    → initialised_at config (global_scope config standing globals) mid ≡ Ok (one, after)
    → IsGlobalValid (features_of config) standing.types one.0 → IsConstExpr (global_scope config standing globals) one.0.val_type one.1.1
    → (config.allow_floats ≡ false → IsNoFloat one.0.val_type) → HasGroundedValue config (drawn_over config standing) one.0
    → (config.allow_floats ≡ false → All HasNoFloat standing.types → All GivesNoFloat one.1.1)
    → more ≡ globals ++ one.0 ∷ [] → longer ≡ initials ++ one.1 ∷ [] → KeepsPieces bytes mid → KeepsPieces mid after
    → AreDefining config standing before old (n + 1) more longer start after
define_more {config = config} {standing = standing} {before = before} {old = old} {globals = globals} {initials = initials} {mid = mid}
    {after = after} {one = one} now fewer go odd drawn valid typed calm grounded plain next last p q =
    let following = drawn_in config standing before now.made globals mid now.globals_are ∙ drawn in
    let place = index_is config (global_scope config standing globals) mid one after drawn in
    rw (next, last) (record {
      made = now.made ++ one ∷ [];
      globals_are = ap (λ (xs : List GlobalType). xs ++ one.0 ∷ []) now.globals_are
          ∙ (append_assoc before (map (λ (g : Global). g.0) now.made) (one.0 ∷ [])
          ∙ ap (λ (xs : List GlobalType). before ++ xs) (sym (map-append (λ (g : Global). g.0) now.made (one ∷ []))));
      initials_are = ap (λ (xs : List (ℕ × List ConstInstr)). xs ++ one.1 ∷ []) now.initials_are
          ∙ (append_assoc old (map (λ (g : Global). g.1) now.made) (one.1 ∷ [])
          ∙ ap (λ (xs : List (ℕ × List ConstInstr)). old ++ xs) (sym (map-append (λ (g : Global). g.1) now.made (one ∷ []))));
      defining = tried_go now.defining fewer go odd following refl p q;
      valid = All-push (IsGlobalValid (features_of config) standing.types) globals one.0 now.valid valid;
      defined = λ stood. subst (λ (k : ℕ). AreGlobalsDefined config standing (globals ++ one.0 ∷ []) (initials ++ (k, one.1.1) ∷ []))
          (sym place) (defined_more config standing globals one.0 initials one.1.1 (now.defined stood) typed);
      floats = λ off imported. All-push (λ (g : GlobalType). IsNoFloat g.val_type) globals one.0 (now.floats off imported) (calm off);
      grounded = All-push (λ (g : Global). HasGroundedValue config (drawn_over config standing) g.0) now.made one now.grounded grounded;
      constants = λ off types stood. rw (map-append (λ (i : ℕ × List ConstInstr). i.1) initials (one.1 ∷ []))
          (All-push (All GivesNoFloat) (expressions initials) one.1.1 (now.constants off types stood) (plain off types));
    })

-- the globals that were drawn are added
pub globals_added : {config : Config} {standing : InitialiserScope} {before : List GlobalType} {old : List (ℕ × List ConstInstr)} {n : ℕ}
    {globals : List GlobalType} {initials : List (ℕ × List ConstInstr)} {start bytes : List ℕ}
    → AreDefining config standing before old n globals initials start bytes
    → AreAdded (HasGroundedValue config (drawn_over config standing)) before globals
globals_added {config = config} {standing = standing} now = record {
  more = map (λ (one : Global). one.0) now.made;
  parts = now.globals_are;
  each = All-map (HasGroundedValue config (drawn_over config standing)) (λ (one : Global). one.0) now.made now.grounded;
}

-- a global was refused
pub define_refused : {config : Config} {standing : InitialiserScope} {before : List GlobalType} {old : List (ℕ × List ConstInstr)} {n : ℕ}
    {globals : List GlobalType} {initials : List (ℕ × List ConstInstr)} {start bytes mid : List ℕ} {b : Bool} {e : Error}
    → AreDefining config standing before old n globals initials start bytes → n < config.max_globals - length before
    → goes_at (nat_lt n (config.min_globals - length before)) bytes ≡ (b, mid) → b ≡ true
    → initialised_at config (global_scope config standing globals) mid ≡ Err e → globals_at config standing before old start ≡ Err e
unfolding globals_at
define_refused {config = config} {standing = standing} {before = before} {globals = globals} {mid = mid} now fewer go odd refused =
    rw (tried_refused now.defining fewer go odd (drawn_in config standing before now.made globals mid now.globals_are ∙ refused)) refl

-- no global was drawn
pub define_stop : {config : Config} {standing : InitialiserScope} {before : List GlobalType} {old : List (ℕ × List ConstInstr)} {n : ℕ}
    {globals : List GlobalType} {initials : List (ℕ × List ConstInstr)} {start bytes after : List ℕ} {b : Bool}
    → AreDefining config standing before old n globals initials start bytes → n < config.max_globals - length before
    → goes_at (nat_lt n (config.min_globals - length before)) bytes ≡ (b, after) → b ≡ false → globals_at config standing before old start
    ≡ Ok ((globals, initials), after)
unfolding globals_at
define_stop now fewer go even = rw (tried_stop now.defining fewer go even, now.globals_are, now.initials_are) refl

-- no more globals may be drawn
pub define_full : {config : Config} {standing : InitialiserScope} {before : List GlobalType} {old : List (ℕ × List ConstInstr)} {n : ℕ}
    {globals : List GlobalType} {initials : List (ℕ × List ConstInstr)} {start bytes after : List ℕ}
    → AreDefining config standing before old n globals initials start bytes → config.max_globals - length before ≤ n
    → after ≡ (if nat_lt 0 (length before) && nat_lt 0 config.max_globals then (bool_at bytes).1 else bytes)
    → globals_at config standing before old start ≡ Ok ((globals, initials), after)
unfolding globals_at
define_full now all asked = rw (tried_full now.defining all asked, now.globals_are, now.initials_are) refl
