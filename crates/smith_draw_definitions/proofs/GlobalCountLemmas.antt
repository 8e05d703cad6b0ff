-- The number of globals after the defined ones are drawn.
use Rattle.smith_draw_definitions.proofs.Common.{Config, ConstInstr, Error, following_so, GlobalType, IfOk, List, map, Ok, Result, subst, ℕ}
use Rattle.smith_draw_definitions.proofs.Common.{◌++◌, ◌≡◌, ◌≤◌}
use Rattle.smith_draw_definitions.specs.Definitions.{InitialiserScope, Global, global_at, globals_at}
use Rattle.smith_draw_definitions.specs.Defined.{IsFilled}
use Rattle.smith_draw_definitions.proofs.DefinedLemmas.{parts_filled}

pub globals_fill : (config : Config) (standing : InitialiserScope) (before globals : List GlobalType)
    (old initials : List (ℕ × List ConstInstr)) (start new : List ℕ) → config.min_globals ≤ config.max_globals
    → globals_at config standing before old start ≡ Ok ((globals, initials), new) → IsFilled config.min_globals config.max_globals before
    globals
unfolding globals_at
globals_fill config standing before globals old initials start new ordered exact =
    let of_global = λ (one : Global). one.0 in
    let Filled = λ (all : List GlobalType). IsFilled config.min_globals config.max_globals before all in
    subst (λ (read : Result ((List GlobalType × List (ℕ × List ConstInstr)) × List ℕ) Error). IfOk read (λ drawn. Filled drawn.0.0)) exact
    (following_so (λ (drawn : List Global × List ℕ). Filled (before ++ map of_global drawn.0))
    (λ (drawn : (List GlobalType × List (ℕ × List ConstInstr)) × List ℕ). Filled drawn.0.0) _ _
    (parts_filled of_global (global_at config standing before) config.min_globals config.max_globals before start ordered)
    (λ drawn filled. filled))
