-- The number of element segments: at least the minimum, and none from a piece that spells none.
use Rattle.smith_draw_contents.proofs.Common.{[], arith, Bool, bool_read, cond, cond_both, Config, Context, ElementSegment, eqb-true, Err}
use Rattle.smith_draw_contents.proofs.Common.{Error, false, goes_at, IfOk, if◌then◌else◌, length, length-append, List, ltb-false, Ok, refl}
use Rattle.smith_draw_contents.proofs.Common.{Result, returned, SpellsBool, suc, TableType, Takes, true, zero, ℕ, ◌++◌, ◌+◌, ◌==◌, ◌∷◌, ◌≡◌}
use Rattle.smith_draw_contents.proofs.Common.{◌≤◌}
use Rattle.std.proofs.Common.{eqb, ltb}
use Rattle.std.proofs.lemmas.Bool.{lt-ltb}
use Rattle.smith_bytes.specs.declared.error.Count.TheVariants as counts
use Rattle.smith_bytes.specs.declared.error.Why.TheVariants.{Unmet}
use Rattle.smith_bytes.specs.declared.error.Error.TheVariants.{IncorrectFormat}
use Rattle.smith_bytes.specs.Spelling.{SpellsNone}
use Rattle.smith_bytes.specs.Spelling.{SpellsEmpty}
use Rattle.smith_draw_contents.specs.ElementSegments.{KindChoice, table_kinds_at, element_kinds_at, element_segments_at}
use Rattle.smith_draw_contents.specs.ElementSegments.{all_element_segments_at}
use Rattle.smith_bytes.specs.Steps.{Returns, is_memory}
use Rattle.smith_draw_contents.specs.declared.element_kinds.KindChoice.TheVariants.{Passive, Declared}
use Rattle.smith_draw_consts.proofs.TriedStepLemmas.{following, takes_if_read}
use Rattle.smith_draw_consts.proofs.TriedListLemmas.{stops_by}

segments_least : (config : Config) (context : Context) (kinds : List KindChoice) (most : ℕ) (made : List ElementSegment) (bytes : List ℕ)
    → config.min_element_segments ≤ length made + most
    → IfOk (element_segments_at config context kinds most made bytes) (λ drawn. config.min_element_segments ≤ length drawn.0)
unfolding element_segments_at
segments_least config context kinds zero made bytes enough = omega arith
segments_least config context kinds (suc most) made bytes enough =
    let go = goes_at (ltb (length made) config.min_element_segments) bytes in
    let Least = λ (drawn : List ElementSegment × List ℕ). config.min_element_segments ≤ length drawn.0 in
    cond_both go.0 _ _ (λ (r : Result (List ElementSegment × List ℕ) Error). IfOk r Least)
    (λ on. following Least _ _ (λ segment. segments_least config context kinds most (made ++ segment.0 ∷ []) segment.1
    (omega (arith, length-append made (segment.0 ∷ [])))))
    (λ off. ltb-false (length made) config.min_element_segments (stops_by (ltb (length made) config.min_element_segments) bytes off))

-- at least the minimum
pub elements_least : (config : Config) (context : Context) (tables : List TableType) (bytes : List ℕ)
    → config.min_element_segments ≤ config.max_element_segments → IfOk (all_element_segments_at config context tables bytes)
    (λ drawn. config.min_element_segments ≤ length drawn.0)
unfolding all_element_segments_at
elements_least config context tables bytes ordered =
    let kinds = element_kinds_at config tables bytes in
    let Least = λ (drawn : List ElementSegment × List ℕ). config.min_element_segments ≤ length drawn.0 in
    let Given = λ (r : Result (List ElementSegment × List ℕ) Error). IfOk r Least in
    cond_both (eqb (length kinds.0) 0) _ _ Given
    (λ none. cond_both (eqb config.min_element_segments 0) _ _ Given (λ asked. let zero_asked = eqb-true config.min_element_segments 0
    asked in omega arith) (λ some. tt))
    (λ some. segments_least config context kinds.0 config.max_element_segments [] kinds.1 (omega arith))

-- a piece that spells that there is no segment is read
segments_none : (config : Config) (context : Context) (kinds : List KindChoice) (most : ℕ) (piece after : List ℕ)
    → config.min_element_segments ≡ 0 → SpellsNone most piece → element_segments_at config context kinds most [] (piece ++ after)
    ≡ Ok ([], after)
unfolding element_segments_at
segments_none config context kinds zero piece after none spelled = rw spelled refl
segments_none config context kinds (suc most) piece after none spelled =
    let stop : SpellsBool false piece = rw (lt-ltb 0 (suc most) (omega arith)) at spelled in
    rw (none, bool_read false piece after stop) refl

none_by : (config : Config) (context : Context) (bulk : Bool) (piece after : List ℕ) → config.min_element_segments ≡ 0
    → SpellsNone (if bulk then config.max_element_segments else 0) piece
    → cond (length (cond bulk (Passive ∷ Declared ∷ []) []) == 0) (cond (config.min_element_segments == 0) (Ok ([], piece ++ after))
    (Err (IncorrectFormat (Unmet counts.ElementSegments)))) (element_segments_at config context (cond bulk (Passive ∷ Declared ∷ []) [])
    config.max_element_segments [] (piece ++ after))
    ≡ Ok ([], after)
none_by config context true piece after none spelled = segments_none config context (Passive ∷ Declared ∷ []) config.max_element_segments
    piece after none spelled
none_by config context false piece after none spelled = rw (none, spelled) refl

pub elements_none : (config : Config) (context : Context) (tables : List TableType) (segments : List ElementSegment) (piece after : List ℕ)
    → config.min_element_segments ≡ 0 → tables ≡ []
    → SpellsEmpty (SpellsNone (if config.bulk_memory_enabled then config.max_element_segments else 0)) segments piece
    → all_element_segments_at config context tables (piece ++ after) ≡ Ok (segments, after)
unfolding all_element_segments_at element_kinds_at table_kinds_at
elements_none config context tables segments piece after none empty h =
    rw (empty, h.none) (none_by config context config.bulk_memory_enabled piece after none h.spelled)

-- if there is no table, that piece is taken
pub elements_taken : (config : Config) (context : Context) (tables : List TableType) (old new : List ℕ)
    (result : Result (List ElementSegment) Error) → config.min_element_segments ≡ 0 → tables ≡ []
    → Returns is_memory (λ segments. (segments, new)) result (all_element_segments_at config context tables old)
    → IfOk result (λ segments. Takes (SpellsEmpty (SpellsNone (if config.bulk_memory_enabled then config.max_element_segments else 0))) old
    segments new)
elements_taken config context tables old new result none empty given =
    let Spelled = SpellsEmpty (SpellsNone (if config.bulk_memory_enabled then config.max_element_segments else 0)) in
    returned _ (λ (segments : List ElementSegment). Takes Spelled old segments new) result
    (λ segments. takes_if_read {Spelled = Spelled} (all_element_segments_at config context tables)
    (λ value piece after h. elements_none config context tables value piece after none empty h)) given
