-- The context of a drawn reference, and whether a heap type is grounded in it, as a test over
-- orderly types.
use Rattle.std.specs.Prelude.{ℕ, ◌+◌, Bool, false, ◌&&◌, ◌||◌, nat_lt, List, [], ◌∷◌, length}
use Rattle.smith_types.specs.Syntax.Features.{Features}
use Rattle.smith_draw_types.specs.Common.{Config, Context, HeapType, SubType}
use Rattle.smith_types.specs.Expressions.{created, function_reference, reference_to}
use Rattle.smith_types.specs.Grounds.{is_ground}
use Rattle.smith_config.specs.Features.{features_of}
use Rattle.smith_draw_types.specs.Below.{is_val_below}
use Rattle.smith_draw_types.specs.declared.early_grounds.EarlyGrounds.{EarlyGrounds}
use Rattle.smith_draw_types.specs.declared.spaces.Entities.{Entities}
use Rattle.smith_draw_types.specs.declared.spaces.Spaces.{Spaces}

-- a context without its globals, because globals ground nothing
abbrev pub without_globals : Context → Context
without_globals context = record context { globals = []; imported_globals = 0; visible = 0 }

-- the context with these types and functions, without globals
abbrev pub function_context : Features → List SubType → List ℕ → ℕ → Context
function_context features types funcs imported_funcs = record {
  features = features;
  types = types;
  funcs = funcs;
  globals = [];
  imported_funcs = imported_funcs;
  imported_globals = 0;
  visible = 0;
}

-- the context with these functions, without types and globals
abbrev pub functions_in : Config → Entities → Context
functions_in config entities = function_context (features_of config) [] entities.funcs.now entities.imported_funcs

-- the context with the functions over which a call draws types, without types and globals
abbrev pub functions_of : Config → EarlyGrounds → Context
functions_of config grounds = function_context (features_of config) [] grounds.funcs.now grounds.imported_funcs

-- a context with these types in place of its own
abbrev pub over : Context → List SubType → Context
over context types = record context { types = types }

-- a context with these functions in place of its own
abbrev pub with_functions : Context → List ℕ → Context
with_functions context funcs = record context { funcs = funcs }

-- the context of a drawn reference: the types and functions of the spaces
abbrev pub standing_in : Config → Spaces → Context
standing_in config spaces = over (functions_in config spaces.entities) spaces.types.now.types

-- whether some item of a list passes a test together with its index; the first item has the index
-- `start`
abbrev pub any_from : {A : Type 0} → (ℕ → A → Bool) → ℕ → List A → Bool
any_from test start [] = false
any_from test start (x ∷ xs) = test start x || any_from test (start + 1) xs

-- whether the type at this index is a struct type whose fields all have defaults, and a reference
-- to such a struct is below a heap type
abbrev pub type_grounds : Context → HeapType → ℕ → SubType → Bool
type_grounds context ty index t = is_ground t && is_val_below context.types (created context index) (reference_to ty)

-- whether a reference to a function with this type index is below a heap type
abbrev pub function_grounds : Context → HeapType → ℕ → ℕ → Bool
function_grounds context ty function index =
    nat_lt index (length context.types) && is_val_below context.types (function_reference context function index) (reference_to ty)

-- whether a type or a function grounds a heap type (own rule)
unfoldable pub is_grounded : Context → HeapType → Bool
is_grounded context ty = any_from (type_grounds context ty) 0 context.types || any_from (function_grounds context ty) 0 context.funcs
