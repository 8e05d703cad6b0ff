-- The scope of segments, after all imports and definitions, and the refusals of segments in it.
use Rattle.wasm_smith.proofs.Common.{Bool, Config, Context, ElementSegment, EntitySpaces, Err, Error, false, GroupedTypes, is_memory}
use Rattle.wasm_smith.proofs.Common.{IsErrAnd, length, List, MemoryType, Ok, refl, Result, Returns, ReturnsWhy, subst, SubType, TableType}
use Rattle.wasm_smith.proofs.Common.{true, ℕ, ◌≡◌}
use Rattle.std.proofs.Common.{cond, ◌&&◌}
use Rattle.smith_types.specs.Syntax.segments.DataSegment.{DataSegment}
use Rattle.smith_draw_consts.specs.ConstScopes.{seen_by}
use Rattle.smith_draw_consts.proofs.TriedStepLemmas.{refused_with}
use Rattle.smith_draw_types.specs.declared.spaces.Spaces.{Spaces}
use Rattle.smith_draw_contents.specs.DataSegments.{data_at}
use Rattle.smith_draw_contents.specs.DataTargets.{MayRefuseData}
use Rattle.smith_draw_contents.specs.ElementSegments.{all_element_segments_at}
use Rattle.wasm_smith.specs.Contents.{AreSpacesOver}
use Rattle.wasm_smith.specs.DrawnContents.{all_segments_at, segment_scope}
use Rattle.wasm_smith.specs.declared.build.segments.Segments.{Segments}
use Rattle.wasm_smith.proofs.ReasonLemmas.{data_choose, refused_in_full}

-- if defined globals may be visible, garbage collection decides whether they are
seen_end : (on : Bool) (all imported : ℕ) → cond (on && true) all imported ≡ cond on all imported
seen_end true all imported = refl
seen_end false all imported = refl

pub seen_over : {space : GroupedTypes} {spaces : EntitySpaces} {imported_funcs imported_globals : ℕ} {over : Spaces}
    (imported : EntitySpaces) (config : Config) → AreSpacesOver space spaces imported_funcs imported_globals over
    → imported_funcs ≡ length imported.funcs → imported_globals ≡ length imported.globals → seen_by config over true
    ≡ segment_scope config space.types imported spaces
seen_over {over = over} imported config seen funcs globals =
    rw (
      seen_end config.gc_enabled (length over.entities.globals.now) over.entities.imported_globals,
      seen.types,
      seen.funcs,
      seen.globals,
      seen.imported_funcs,
      seen.imported_globals,
      funcs,
      globals,
    ) refl

-- the refusal of element segments is that of all segments
pub elements_refused : {Y : Type 0} (view : Y → Segments × List ℕ) (config : Config) (types : List SubType) (imported spaces : EntitySpaces)
    (context : Context) (tables : List TableType) (bytes left : List ℕ) (result : Result Y Error) (e : Error)
    → context ≡ segment_scope config types imported spaces → tables ≡ spaces.tables
    → Returns is_memory (λ (segments : List ElementSegment). (segments, left)) (Err e)
    (all_element_segments_at config context tables bytes) → IsErrAnd result (λ y. y ≡ e)
    → Returns is_memory view result (all_segments_at config types imported spaces bytes)
unfolding all_segments_at
elements_refused view config types imported spaces context tables bytes left result e scope same_tables given =
    let scoped = segment_scope config types imported spaces in
    let with_left : List ElementSegment → List ElementSegment × List ℕ = λ segments. (segments, left) in
    let elems_given : Returns is_memory with_left (Err e) (all_element_segments_at config scoped spaces.tables bytes) =
    subst (λ (own : Context). Returns is_memory with_left (Err e) (all_element_segments_at config own spaces.tables bytes)) scope
    (subst (λ (own : List TableType). Returns is_memory with_left (Err e) (all_element_segments_at config context own bytes)) same_tables
    given) in
    refused_with with_left view e (all_element_segments_at config scoped spaces.tables bytes)
    (all_segments_at config types imported spaces bytes) result elems_given (λ fails. rw fails refl)

-- the refusal of data segments is that of all segments
pub data_refused : {Y : Type 0} (view : Y → Segments × List ℕ) (config : Config) (types : List SubType) (imported spaces : EntitySpaces)
    (context : Context) (tables : List TableType) (memories : List MemoryType) (bytes after left : List ℕ) (elems : List ElementSegment)
    (result : Result Y Error) (e : Error) → context ≡ segment_scope config types imported spaces → tables ≡ spaces.tables
    → memories ≡ spaces.memories → all_element_segments_at config context tables bytes ≡ Ok (elems, after)
    → ReturnsWhy (λ (segments : List DataSegment). (segments, left)) (Err e) (data_at config context memories after)
    → MayRefuseData config e → IsErrAnd result (λ y. y ≡ e)
    → Returns is_memory view result (all_segments_at config types imported spaces bytes)
unfolding all_segments_at
data_refused view config types imported spaces context tables memories bytes after left elems result e scope same_tables same_memories drawn
    given may =
    let scoped = segment_scope config types imported spaces in
    let elems_at : all_element_segments_at config scoped spaces.tables bytes ≡ Ok (elems, after) =
    subst (λ (own : Context). all_element_segments_at config own spaces.tables bytes ≡ Ok (elems, after)) scope
    (subst (λ (own : List TableType). all_element_segments_at config context own bytes ≡ Ok (elems, after)) same_tables drawn) in
    let with_left : List DataSegment → List DataSegment × List ℕ = λ segments. (segments, left) in
    let data_given : ReturnsWhy with_left (Err e) (data_at config scoped spaces.memories after) =
    subst (λ (own : Context). ReturnsWhy with_left (Err e) (data_at config own spaces.memories after)) scope
    (subst (λ (own : List MemoryType). ReturnsWhy with_left (Err e) (data_at config context own after)) same_memories given) in
    refused_in_full with_left view e (data_at config scoped spaces.memories after) (all_segments_at config types imported spaces bytes)
    result data_given (data_choose config e may) (λ fails. rw (elems_at, fails) refl)
