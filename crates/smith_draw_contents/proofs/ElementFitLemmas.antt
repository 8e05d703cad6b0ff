-- Drawn element segments fit into a module: they are valid, and with `disallow_traps` the items
-- that they copy fit.
use Rattle.smith_draw_contents.proofs.Common.{[], All, All-weaker, arith, Config, ConstInstr, Context, Elements, ElementSegment, Err, Error}
use Rattle.smith_draw_contents.proofs.Common.{GivesNoFloat, IfOk, inl, IsConstExpr, IsOffsetInside, IsTrue, IsUngrounded, length, List}
use Rattle.smith_draw_contents.proofs.Common.{None, Offset, Ok, Option, recursion_from_All, Ref, refl, RefType, Result, seen_by, Some}
use Rattle.smith_draw_contents.proofs.Common.{standing_in, subst, TableType, true, ℕ, ◌≤◌}
use Rattle.std.specs.Prelude.{IsSomeAnd}
use Rattle.std.specs.List.{flat_map}
use Rattle.smith_bytes.specs.Steps.{Returns, is_memory}
use Rattle.smith_draw_consts.proofs.TriedListLemmas.{try_grow_least}
use Rattle.smith_types.specs.Floats.{HasNoFloat}
use Rattle.smith_types.specs.Segments.{AreElementsInside, IsElementKindValid, item_count}
use Rattle.smith_types.specs.Subtyping.{IsRefBelow}
use Rattle.smith_types.specs.Syntax.segments.ElementKind.{ElementKind}
use Rattle.smith_types.specs.Syntax.segments.ElementKind.TheVariants as element_kind
use Rattle.smith_types.specs.Syntax.segments.Elements.TheVariants.{Expressions}
use Rattle.smith_types.specs.Syntax.segments.Offset.TheVariants.{Const32, Const64, Global}
use Rattle.smith_validity.proofs.HeldValueLemmas.{all_of_parts}
use Rattle.smith_draw_types.specs.declared.spaces.Spaces.{Spaces}
use Rattle.smith_draw_contents.specs.DrawnElements.{HasUngroundedElements, IsTarget, IsKindOffered, IsPlaced, IsKindDrawn, FitsTable}
use Rattle.smith_draw_contents.specs.DrawnElements.{MayHoldItems, AreItemsFit, IsElementFit}
use Rattle.smith_draw_contents.specs.ElementSegments.{KindChoice, most_items, expression_item_at, drawn_expressions_at}
use Rattle.smith_module_rules.specs.Held.{expressions_of}
use Rattle.smith_draw_contents.specs.declared.element_kinds.KindChoice.TheVariants as choice

-- drawn expressions fit
pub expressions_fit : (config : Config) (context : Context) (ty : RefType) (most : ℕ) (bytes after : List ℕ)
    (result : Result (List (List ConstInstr)) Error) → IsTrue context.features.reference_types → config.min_elements ≤ most
    → Returns is_memory (λ items. (items, after)) result (drawn_expressions_at config context ty most bytes)
    → IfOk result (All (IsConstExpr context (Ref ty))) → (All HasNoFloat context.types → IfOk result (All (All GivesNoFloat)))
    → IfOk result (λ items. AreItemsFit config context ty (Expressions items))
unfolding drawn_expressions_at
expressions_fit config context ty most bytes after (Ok items) references within drawn typed floats =
    let enough = try_grow_least (λ _. expression_item_at config context ty) config.min_elements most [] bytes (omega arith) in
    record {
      valid = (references, typed);
      enough = inl (subst (λ (read : Result (List (List ConstInstr) × List ℕ) Error). IfOk read
          (λ made. config.min_elements ≤ length made.0)) drawn enough);
      floats = floats;
    }
expressions_fit config context ty most bytes after (Err e) references within drawn typed floats = tt

-- fewer items end within a limit if more items do
fewer_inside : (offset : Offset) (count most least : ℕ) → count ≤ most → IsOffsetInside offset most least
    → IsOffsetInside offset count least
fewer_inside (Const32 value) count most least few inside = omega (arith, few, inside)
fewer_inside (Const64 value) count most least few inside = omega (arith, few, inside)
fewer_inside (Global index) count most least few inside = inside

hinted_inside : (config : Config) (offset : Offset) (hint : Option ℕ) (total count least : ℕ) → count ≤ most_items config hint total
    → IsSomeAnd hint (λ most. IsOffsetInside offset most least) → IsOffsetInside offset count least
hinted_inside config offset (Some most) total count least few inside = fewer_inside offset count most least (omega (arith, few)) inside
hinted_inside config offset None total count least few inside = absurd inside

module _ (config : Config) (spaces : Spaces) where
  -- the context of items, and the tables
  abbrev context : Context
  context = seen_by config spaces true

  abbrev tables : List TableType
  tables = spaces.entities.tables.now

  active_valid : (index : Option ℕ) (table : TableType) (offset : Offset) (hint : Option ℕ) (ty : RefType)
      → IsTarget config spaces.types.now.types tables index table → IsPlaced config context table offset hint
      → IsRefBelow spaces.types.now.types ty table.element_type
      → IsElementKindValid context tables ty (element_kind.Active index offset)
  active_valid None table offset hint ty target placed below = record {
    table = table;
    stands = target.stands;
    below = below;
    offset_valid = placed.valid;
  }
  active_valid (Some index) table offset hint ty target placed below =
      (target.named refl, record { table = table; stands = target.stands; below = below; offset_valid = placed.valid })

  kind_valid : (one : KindChoice) (kind : ElementKind) (hint : Option ℕ) (ty : RefType) → IsKindOffered config spaces.types.now.types tables
      one → IsKindDrawn config context one (kind, hint) → FitsTable spaces.types.now.types one ty
      → IsElementKindValid context tables ty kind
  kind_valid choice.Passive kind hint ty offered is fits = rw is offered
  kind_valid choice.Declared kind hint ty offered is fits = rw is offered
  kind_valid (choice.Active index table) kind hint ty offered (offset, is, placed) fits =
      rw is (active_valid index table offset hint ty offered placed fits)

  kind_inside : (one : KindChoice) (kind : ElementKind) (hint : Option ℕ) (total count : ℕ)
      → IsKindOffered config spaces.types.now.types tables one → IsKindDrawn config context one (kind, hint)
      → count ≤ most_items config hint total → IsTrue config.disallow_traps
      → AreElementsInside tables kind count
  kind_inside choice.Passive kind hint total count offered is few on = rw is tt
  kind_inside choice.Declared kind hint total count offered is few on = rw is tt
  kind_inside (choice.Active index table) kind hint total count offered (offset, is, placed) few on =
      rw is (table, offered.stands, hinted_inside config offset hint total count table.minimum few (placed.inside on))

  -- a segment of an offered kind fits
  pub element_fit : (one : KindChoice) (kind : ElementKind) (hint : Option ℕ) (ty : RefType) (items : Elements) (total : ℕ)
      → IsKindOffered config spaces.types.now.types tables one → IsKindDrawn config context one (kind, hint) → MayHoldItems config spaces ty
      → FitsTable spaces.types.now.types one ty → AreItemsFit config context ty items → item_count items ≤ most_items config hint total
      → (IsUngrounded config (standing_in config spaces) (Ref ty) → HasUngroundedElements config (standing_in config spaces) tables)
      → IsElementFit config context tables (record { kind = kind; ty = ty; items = items })
  element_fit one kind hint ty items total offered drawn may fits fit few needed = record {
    valid = record { ty = may.valid; ty_enabled = may.enabled; items = fit.valid; kind = kind_valid one kind hint ty offered drawn fits };
    inside = λ on. kind_inside one kind hint total (item_count items) offered drawn few on;
    enough = fit.enough;
    floats = fit.floats;
    grounded = λ none lacks. none (needed lacks);
  }

-- if no type has a float, no constant of an item is a float
pub elements_no_float : {config : Config} {context : Context} {tables : List TableType} → All HasNoFloat context.types
    → (segments : List ElementSegment) → All (IsElementFit config context tables) segments
    → All (All GivesNoFloat) (flat_map (λ (segment : ElementSegment). expressions_of segment.items) segments)
elements_no_float {config = config} {context = context} {tables = tables} calm segments fit =
    let Calm = λ (segment : ElementSegment). All (All GivesNoFloat) (expressions_of segment.items) in
    all_of_parts (All GivesNoFloat) (λ (segment : ElementSegment). expressions_of segment.items) segments
    (recursion_from_All Calm segments (All-weaker (IsElementFit config context tables) Calm (λ segment one. one.floats calm) segments fit))
