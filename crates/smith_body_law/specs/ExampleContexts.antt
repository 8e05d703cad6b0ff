-- Contexts of the examples.
use Rattle.std.specs.Prelude.{ℕ, List, [], ◌∷◌}
use Rattle.smith_types.specs.ExampleFeatures.{usual_features}
use Rattle.smith_types.specs.ExampleTypes.{final_type, plain_func}
use Rattle.smith_types.specs.Syntax.composite_type.CompositeInnerType.{CompositeInnerType}
use Rattle.smith_types.specs.Expressions.{Context}
use Rattle.smith_instr.specs.Contexts.{BodyContext}

-- a context with one type, and nothing else
abbrev pub with_type : CompositeInnerType → BodyContext
with_type inner = record {
  features = usual_features;
  types = final_type inner ∷ [];
  funcs = [];
  imported_funcs = 0;
  tables = [];
  memories = [];
  globals = [];
  tags = [];
  elems = [];
  datas = 0;
  references = [];
  locals = [];
  params = 0;
  labels = [];
  results = [];
}

-- a context with a function, and a list of those that may be named
abbrev pub naming : List ℕ → BodyContext
naming references = record (with_type plain_func) { funcs = 0 ∷ []; references = references }

-- the context of constant expressions of the same module
abbrev pub outside : Context
outside = record {
  features = usual_features;
  types = final_type plain_func ∷ [];
  funcs = 0 ∷ [];
  globals = [];
  imported_funcs = 0;
  imported_globals = 0;
  visible = 0;
}
