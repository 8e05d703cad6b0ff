-- A drawn start function has no parameters and no results, and there is none if none is allowed, or
-- from a piece that spells none.
use Rattle.smith_draw_contents.proofs.Common.{[], All, All-weaker, ap, Bool, bool_read, chosen_at, chosen_of, cond, cond_both, Config}
use Rattle.smith_draw_contents.proofs.Common.{eqb-true, false, is_start_type, IsPassing, length, List, ltb-true, nat_lt, None, Option}
use Rattle.smith_draw_contents.proofs.Common.{places_pass, refl, slice_get, Some, SpellsBool, SubType, Takes, true, ℕ, ◌&&◌, ◌++◌, ◌==◌}
use Rattle.smith_draw_contents.proofs.Common.{◌∙◌, ◌≡◌}
use Rattle.std.specs.Prelude.{option_to_list}
use Rattle.std.specs.List.{list_any}
use Rattle.std.proofs.lemmas.List.{nil_from_length}
use Rattle.std.proofs.Math.Bool.{or-false}
use Rattle.smith_bytes.specs.Draws.{bool_at}
use Rattle.smith_bytes.specs.Spelling.{Where}
use Rattle.smith_bytes.specs.Takes.{SpellsSuch}
use Rattle.smith_bytes.proofs.SpelledLemmas.{takes_by}
use Rattle.smith_types.specs.Entities.{IsFuncAt}
use Rattle.smith_types.specs.Exports.{IsStartValid}
use Rattle.smith_types.specs.Syntax.composite_type.CompositeInnerType.{CompositeInnerType}
use Rattle.smith_types.specs.Syntax.composite_type.CompositeInnerType.TheVariants.{Array, Func, Struct}
use Rattle.smith_types.specs.Syntax.composite_type.FuncType.{FuncType}
use Rattle.smith_draw_types.proofs.TypeUseLemmas.{places_any}
use Rattle.smith_draw_types.proofs.ValueTypeLemmas.{wanted_by}
use Rattle.smith_draw_types.specs.TypeUses.{takes_and_gives_nothing}
use Rattle.smith_draw_types.specs.SpelledParts.{SpellsNoStart}
use Rattle.smith_draw_contents.specs.Start.{start_funcs, start_wanted_at, start_at}

-- the function type without parameters and results
abbrev plain : FuncType
plain = record { params = []; results = [] }

both_empty : (params results : Bool) → (params && results) ≡ true → (params ≡ true) × (results ≡ true)
both_empty true true on = (refl, refl)
both_empty true false on = cc
both_empty false results on = cc

plain_type : (inner : CompositeInnerType) → takes_and_gives_nothing inner ≡ true → inner ≡ Func plain
plain_type (Func function) on =
    let empty = both_empty (length function.params == 0) (length function.results == 0) on in
    let params = nil_from_length function.params (eqb-true (length function.params) 0 empty.0) in
    let results = nil_from_length function.results (eqb-true (length function.results) 0 empty.1) in
    ap (λ values. Func (record { params = values; results = function.results })) params
    ∙ ap (λ values. Func (record { params = []; results = values })) results
plain_type (Array array) on = cc
plain_type (Struct structure) on = cc

start_type_at : (types : List SubType) (index : ℕ) (at : Option SubType) → slice_get types index ≡ at
    → list_any (λ (t : SubType). takes_and_gives_nothing t.composite_type.inner) (option_to_list at) ≡ true → IsFuncAt types index plain
start_type_at types index None at on = cc
start_type_at types index (Some t) at on =
    (t, at, plain_type t.composite_type.inner (rw (or-false (takes_and_gives_nothing t.composite_type.inner)) at on))

start_funcs_valid : (types : List SubType) (funcs : List ℕ) → All (λ (function : ℕ). IsStartValid types funcs (Some function))
    (start_funcs types funcs)
start_funcs_valid types funcs =
    All-weaker (IsPassing (is_start_type types) funcs) (λ (function : ℕ). IsStartValid types funcs (Some function))
    (λ function h. (h.item, h.stands, start_type_at types h.item (slice_get types h.item) refl h.passes)) (start_funcs types funcs)
    (places_pass (is_start_type types) funcs)

pub start_valid : (config : Config) (types : List SubType) (funcs bytes : List ℕ)
    → IsStartValid types funcs (start_at config types funcs bytes).0
unfolding start_at start_wanted_at
start_valid config types funcs bytes =
    let choices = start_funcs types funcs in
    let wanted = start_wanted_at config (length choices) bytes in
    let chosen = chosen_at 0 choices wanted.1 in
    cond_both wanted.0 (Some chosen.0, chosen.1) (None, wanted.1) (λ (r : Option ℕ × List ℕ). IsStartValid types funcs r.0)
    (λ on. chosen_of (λ (function : ℕ). IsStartValid types funcs (Some function)) 0 choices wanted.1
    (ltb-true 0 (length choices) (wanted_by config.allow_start_export (nat_lt 0 (length choices)) (bool_at bytes) bytes on).1)
    (start_funcs_valid types funcs))
    (λ off. tt)

pub start_off : (config : Config) (types : List SubType) (funcs bytes : List ℕ) → config.allow_start_export ≡ false
    → (start_at config types funcs bytes).0 ≡ None
unfolding start_at start_wanted_at
start_off config types funcs bytes off = rw off refl

wanted_none : (asked : Bool) (piece after : List ℕ) → Where asked (SpellsBool false) piece → cond asked (bool_at (piece ++ after))
    (false, piece ++ after) ≡ (false, after)
wanted_none true piece after h = bool_read false piece after h
wanted_none false piece after h = rw h refl

pub start_none : (config : Config) (types : List SubType) (funcs piece after : List ℕ) → SpellsNoStart config types funcs piece
    → start_at config types funcs (piece ++ after) ≡ (None, after)
unfolding start_at start_wanted_at
start_none config types funcs piece after h =
    rw (places_any (is_start_type types) 0 funcs, wanted_none _ piece after h) refl

pub start_taken : (config : Config) (types : List SubType) (funcs old new : List ℕ) (start : Option ℕ) → start_at config types funcs old
    ≡ (start, new) → Takes (SpellsSuch (λ (value : Option ℕ). value ≡ None) (λ _. SpellsNoStart config types funcs)) old start new
start_taken config types funcs old new start drawn =
    takes_by (start_at config types funcs) (λ value piece after h. rw h.holds (start_none config types funcs piece after h.spelled)) drawn
