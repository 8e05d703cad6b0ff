-- The items of index spaces, all of which may be exported.
use Rattle.smith_draw_contents.proofs.Common.{[], All, All-cons, All-nil, arith, EntitySpaces, every_item, ExportKind, get_or, IsStanding}
use Rattle.smith_draw_contents.proofs.Common.{length, length-append, List, refl, slice_get, slice_get-get_or, suc, zero, ℕ, ◌++◌, ◌+◌, ◌<◌}
use Rattle.smith_draw_contents.proofs.Common.{◌∙◌, ◌∷◌, ◌≡◌}
use Rattle.std.specs.Prelude.{Some}
use Rattle.std.proofs.lemmas.List.Elements.{All-append}
use Rattle.smith_types.proofs.ListLemmas.{slice_get-grown, slice_get-after}
use Rattle.smith_types.specs.Syntax.entity_type.EntityType.TheVariants as entity
use Rattle.smith_types.specs.Syntax.entity_type.ExportKind.TheVariants as kind
use Rattle.smith_module_rules.specs.ExportedItems.{Item, numbered_from}

length-numbered : (of_kind : ExportKind) (start count : ℕ) → length (numbered_from of_kind start count) ≡ count
length-numbered of_kind start zero = refl
length-numbered of_kind start (suc count) = let rest = length-numbered of_kind (suc start) count in omega arith

-- the number of items
pub length-every_item : (spaces : EntitySpaces) → length (every_item spaces) ≡ length spaces.funcs + length spaces.tables + length
    spaces.memories + length spaces.globals + length spaces.tags
length-every_item spaces = simp (length-append, length-numbered) (omega arith)

numbered_at : (of_kind : ExportKind) (start count index : ℕ) → index < count → slice_get (numbered_from of_kind start count) index
    ≡ Some (of_kind, start + index)
numbered_at of_kind start zero index below = absurd (omega arith)
numbered_at of_kind start (suc count) zero below = let same : start + zero ≡ start = omega arith in rw same refl
numbered_at of_kind start (suc count) (suc index) below =
    let next : start + suc index ≡ suc start + index = omega arith in
    rw next (numbered_at of_kind (suc start) count index (omega arith))

alone : (of_kind : ExportKind) (count index : ℕ) → index < count → slice_get (numbered_from of_kind 0 count) index ≡ Some (of_kind, index)
alone of_kind count index below = let from_zero : 0 + index ≡ index = omega arith in
    rw from_zero at (numbered_at of_kind 0 count index below)

first : (of_kind : ExportKind) (count index : ℕ) (more : List Item) → index < count → slice_get (numbered_from of_kind 0 count ++ more)
    index ≡ Some (of_kind, index)
first of_kind count index more below = slice_get-grown (numbered_from of_kind 0 count) more index (of_kind, index)
    (alone of_kind count index below)

past : (of_kind : ExportKind) (count index : ℕ) (more : List Item) → slice_get (numbered_from of_kind 0 count ++ more) (count + index)
    ≡ slice_get more index
past of_kind count index more = rw (length-numbered of_kind 0 count) at (slice_get-after (numbered_from of_kind 0 count) more index)

-- the item at each place: functions come first, then tables, memories, globals and tags
module _ (spaces : EntitySpaces) where
  pub func_at : (place : ℕ) → place < length spaces.funcs → slice_get (every_item spaces) place ≡ Some (kind.Func, place)
  func_at place below = first kind.Func (length spaces.funcs) place _ below

  pub table_at : (place index : ℕ) → place ≡ length spaces.funcs + index → index < length spaces.tables
      → slice_get (every_item spaces) place ≡ Some (kind.Table, index)
  table_at place index is below = rw is (past kind.Func (length spaces.funcs) index _ ∙ first kind.Table (length spaces.tables) index _
      below)

  pub memory_at : (place index : ℕ) → place ≡ length spaces.funcs + length spaces.tables + index → index < length spaces.memories
      → slice_get (every_item spaces) place ≡ Some (kind.Memory, index)
  memory_at place index is below =
      let parts : place ≡ length spaces.funcs + (length spaces.tables + index) = omega arith in
      rw parts (past kind.Func (length spaces.funcs) _ _ ∙ (past kind.Table (length spaces.tables) index _ ∙ first kind.Memory
      (length spaces.memories) index _ below))

  pub global_at : (place index : ℕ) → place ≡ length spaces.funcs + length spaces.tables + length spaces.memories + index
      → index < length spaces.globals → slice_get (every_item spaces) place ≡ Some (kind.Global, index)
  global_at place index is below =
      let parts : place ≡ length spaces.funcs + (length spaces.tables + (length spaces.memories + index)) = omega arith in
      let following = past kind.Memory (length spaces.memories) index _ ∙ first kind.Global (length spaces.globals) index _ below in
      rw parts (past kind.Func (length spaces.funcs) _ _ ∙ (past kind.Table (length spaces.tables) _ _ ∙ following))

  pub tag_at : (place index : ℕ) → place ≡ length spaces.funcs + length spaces.tables + length spaces.memories + length spaces.globals +
      index → index < length spaces.tags → slice_get (every_item spaces) place ≡ Some (kind.Tag, index)
  tag_at place index is below =
      let parts : place ≡ length spaces.funcs + (length spaces.tables + (length spaces.memories + (length spaces.globals + index))) =
      omega arith in
      let following = past kind.Memory (length spaces.memories) _ _ ∙ (past kind.Global (length spaces.globals) index _ ∙ alone kind.Tag
      (length spaces.tags) index below) in
      rw parts (past kind.Func (length spaces.funcs) _ _ ∙ (past kind.Table (length spaces.tables) _ _ ∙ following))

numbered_all : (P : Item → Type 0) (of_kind : ExportKind) (start count : ℕ) → ((index : ℕ) → index < start + count → P (of_kind, index))
    → All P (numbered_from of_kind start count)
numbered_all P of_kind start zero each = All-nil P
numbered_all P of_kind start (suc count) each =
    All-cons P (of_kind, start) (numbered_from of_kind (suc start) count) (each start (omega arith))
    (numbered_all P of_kind (suc start) count (λ index below. each index (omega arith)))

there : {A : Type 0} (xs : List A) (index : ℕ) → index < 0 + length xs → (x : A) × (slice_get xs index ≡ Some x)
there [] index below = absurd (omega arith)
there (x ∷ xs) index below = (get_or (x ∷ xs) index x, slice_get-get_or (x ∷ xs) index x (omega arith))

-- every item exists
pub every_item_stands : (spaces : EntitySpaces) → All (λ (item : Item). IsStanding spaces item.0 item.1) (every_item spaces)
every_item_stands spaces =
    let P = λ (item : Item). IsStanding spaces item.0 item.1 in
    let funcs = numbered_all P kind.Func 0 (length spaces.funcs) (λ index below. let (func, at) = there spaces.funcs index below in
    (entity.Func func, (func, at, refl))) in
    let tables = numbered_all P kind.Table 0 (length spaces.tables) (λ index below. let (table, at) = there spaces.tables index below in
    (entity.Table table, (table, at, refl))) in
    let memories = numbered_all P kind.Memory 0 (length spaces.memories) (λ index below. let (memory, at) = there spaces.memories index
    below in (entity.Memory memory, (memory, at, refl))) in
    let globals = numbered_all P kind.Global 0 (length spaces.globals) (λ index below. let (global, at) = there spaces.globals index
    below in (entity.Global global, (global, at, refl))) in
    let tags = numbered_all P kind.Tag 0 (length spaces.tags) (λ index below. let (tag, at) = there spaces.tags index below in
    (entity.Tag tag, (tag, at, refl))) in
    All-append P _ _ funcs (All-append P _ _ tables (All-append P _ _ memories (All-append P _ _ globals tags)))
