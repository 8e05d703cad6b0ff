-- The record of the globals and functions that are offered, which is reused in many draws.
use Rattle.std.specs.Prelude.{◌≡◌, ℕ, ◌+◌, ◌*◌, ◌/◌, ◌<◌, ◌≤◌, ◌≢◌, ◌⊎◌, min, Bool, true, false, IsTrue, Option, None, Some, IfSome, List}
use Rattle.std.specs.Prelude.{[], ◌∷◌, ◌++◌, map, take, length, slice_get, slice_index, All, if◌then◌else◌}
use Rattle.std.specs.Borrow.{Bor}
use Rattle.std.specs.List.{range_with_len}
use Rattle.smith_types.specs.Subtyping.{IsValInRange}
use Rattle.smith_draw_consts.specs.Common.{Context, GlobalType, SubType, ValType}
use Rattle.smith_types.specs.Expressions.{created, function_reference}
use Rattle.smith_draw_types.specs.Below.{is_val_below}
use Rattle.smith_draw_consts.specs.ConstOffers.{each_from, global_offers, function_offers, ways_by}
use Rattle.smith_draw_consts.specs.declared.block_counts.BlockCounts.{BlockCounts}
use Rattle.smith_draw_consts.specs.declared.classes.Classes.{Classes}
use Rattle.smith_draw_consts.specs.declared.node_choice.Choice.{Choice}
use Rattle.smith_draw_consts.specs.declared.kept_offers.KeptOffer.{KeptOffer}
use Rattle.smith_draw_consts.specs.declared.few_items.FewItems.{FewItems}
use Rattle.smith_draw_consts.specs.declared.kept_offers.KeptOffers.{KeptOffers}
use Rattle.smith_draw_consts.specs.declared.kept_offers.ManyItems.{ManyItems}
use Rattle.smith_draw_consts.specs.declared.kept_ways.KeptTypes.{KeptTypes}
use Rattle.smith_draw_consts.specs.declared.kept_ways.KeptWays.{KeptWays}
use Rattle.smith_draw_consts.specs.declared.knowledge.Known.{Known}
use Rattle.smith_draw_consts.specs.declared.knowledge.Known.TheVariants.{Few, Many}
use Rattle.smith_draw_consts.specs.declared.read_items.ReadItems.{ReadItems}

-- the number of offered items among the first `n` items of a list
abbrev pub offered_before : {A : Type 0} → (ℕ → A → List Choice) → List A → ℕ → ℕ
offered_before offer xs n = length (each_from offer 0 (take n xs))

-- the counts are correct, where `before n` is the number of offered items among the first `n`: the
-- total over all items read, and the number before each block of eight items
pub record IsCounted (before : ℕ → ℕ) (counts : BlockCounts) : Type 0 where
  pub total : counts.total ≡ before counts.seen
  pub starts : counts.starts ≡ map (λ block. before (8 * block)) (range_with_len 0 ((counts.seen + 7) / 8))

-- by the counts, the block of `first` may have an offered item before `end`: some items before
-- `end` are unread, or a read item of the block is offered
abbrev pub MayOffer : (ℕ → ℕ) → BlockCounts → ℕ → ℕ → Type 0
MayOffer before counts first end = (counts.seen < end) ⊎ (before (8 * (first / 8)) ≢ before (min (8 * (first / 8 + 1)) counts.seen))

-- the entry for a type counts the read globals and functions that are offered for a value of that
-- type
pub record IsKeptOffer (context : Context) (offer : KeptOffer) : Type 0 where
  pub wanted : IsValInRange context.types offer.wanted
  pub globals_seen : offer.globals.seen ≤ length context.globals
  pub globals : IsCounted (offered_before (global_offers context offer.wanted) context.globals) offer.globals
  pub funcs_seen : offer.funcs.seen ≤ length context.funcs
  pub funcs : IsCounted (offered_before (function_offers context offer.wanted) context.funcs) offer.funcs

-- the type of the value that a constant expression reads from a global, if the global is immutable
abbrev pub readable : GlobalType → Option ValType
readable global = if global.mutable then None else Some global.val_type

-- whether an item with a value of this type, if any, is offered for a value of the wanted type
abbrev pub is_offered : List SubType → ValType → Option ValType → Bool
is_offered types wanted None = false
is_offered types wanted (Some value) = is_val_below types value wanted

-- each of the first items of a list has its class, and the types of the classes exist
pub record AreClasses {A : Type 0} (types : List SubType) (type_of : ℕ → A → Option ValType) (xs : List A) (classes : Classes)
    : Type 0 where
  pub seen : length classes.of ≤ length xs
  pub few : length classes.kinds ≤ length classes.of
  pub in_range : All (λ kind. IfSome kind (IsValInRange types)) classes.kinds
  pub same : (i : ℕ) (x : A) → i < length classes.of → slice_get xs i ≡ Some x → slice_get classes.kinds (slice_index classes.of i)
      ≡ Some (type_of i x)

-- the class of one more item is recorded
pub record IsNoted (kind : Option ValType) (old new : Classes) : Type 0 where
  pub kinds : (new.kinds ≡ old.kinds) ⊎ (new.kinds ≡ old.kinds ++ kind ∷ [])
  pub class : (class : ℕ) × (new.of ≡ old.of ++ class ∷ []) × (slice_get new.kinds class ≡ Some kind)

-- for each of the first classes, the flag is whether its items are offered for a value of the
-- wanted type
pub record AreFlags (types : List SubType) (wanted : ValType) (kinds : List (Option ValType)) (flags : List Bool) : Type 0 where
  pub few : length flags ≤ length kinds
  pub right : (k : ℕ) (kind : Option ValType) → k < length flags → slice_get kinds k ≡ Some kind
      → slice_get flags k ≡ Some (is_offered types wanted kind)

-- the number of offered items grows with each item whose class is offered
abbrev pub IsTally : (ℕ → ℕ) → List ℕ → List Bool → Type 0
IsTally before classes flags = (i : ℕ) (flag : Bool) → i < length classes → slice_get flags (slice_index classes i) ≡ Some flag
    → before (i + 1) ≡ before i + (if flag then 1 else 0)

-- the classes of globals and of functions are correct
pub record AreItemsRead (context : Context) (items : ReadItems) : Type 0 where
  pub globals : AreClasses context.types (λ index global. readable global) context.globals items.globals
  pub funcs : AreClasses context.types (λ function index. Some (function_reference context function index)) context.funcs items.funcs

-- the classes of all visible globals and all functions are recorded and correct
pub record AreAllRead (context : Context) (items : ReadItems) : Type 0 where
  pub read : AreItemsRead context items
  pub globals : context.visible ≤ length items.globals.of
  pub funcs : length context.funcs ≤ length items.funcs.of

-- the entry counts correctly, and its flags are correct for the classes of the read items
pub record IsEntry (context : Context) (items : ReadItems) (offer : KeptOffer) : Type 0 where
  pub kept : IsKeptOffer context offer
  pub globals : AreFlags context.types offer.wanted items.globals.kinds offer.global_flags
  pub funcs : AreFlags context.types offer.wanted items.funcs.kinds offer.func_flags

-- the entry has a flag for each class
pub record IsTested (items : ReadItems) (offer : KeptOffer) : Type 0 where
  pub globals : length offer.global_flags ≡ length items.globals.kinds
  pub funcs : length offer.func_flags ≡ length items.funcs.kinds

-- each record is the record of its item, for the first items of a list
pub record AreRecorded {A B : Type 0} (record_of : ℕ → A → B) (xs : List A) (records : List B) : Type 0 where
  pub few : length records ≤ length xs
  pub same : (i : ℕ) (x : A) → i < length records → slice_get xs i ≡ Some x → slice_get records i ≡ Some (record_of i x)

-- the recorded types of globals and type indices of functions are correct
pub record AreFewRead (context : Context) (few : FewItems) : Type 0 where
  pub globals : AreRecorded (λ index global. readable global) context.globals few.globals.items
  pub funcs : AreRecorded (λ function index. index) context.funcs few.funcs.items

-- the recorded types of globals and type indices of functions are correct, and all visible globals
-- and all functions have been read
pub record IsFewWhole (context : Context) (few : FewItems) : Type 0 where
  pub read : AreFewRead context few
  pub globals : context.visible ≤ length few.globals.items
  pub funcs : length context.funcs ≤ length few.funcs.items

-- the classes and all entries are correct
pub record AreManyKept (context : Context) (many : ManyItems) : Type 0 where
  pub items : AreItemsRead context many.items
  pub entries : All (IsEntry context many.items) many.kept.items

-- a reference to a created value is a subtype of the wanted type only if the value has this type
pub record IsOnlyType (context : Context) (wanted : ValType) (index : ℕ) : Type 0 where
  pub there : index < length context.types
  pub only : (other : ℕ) → is_val_below context.types (created context other) wanted ≡ true → other ≡ index

-- the choices that create values of the types read so far are counted, of struct types or of array
-- types
pub record AreWaysCounted (context : Context) (wanted : ValType) (fuel : ℕ) (arrays : Bool) (counts : BlockCounts) : Type 0 where
  pub seen : counts.seen ≤ length context.types
  pub counted : IsCounted (offered_before (ways_by context wanted fuel arrays) context.types) counts

-- the entry for a type counts the choices that create a value of that type, without and with fuel
pub record IsKeptWays (context : Context) (ways : KeptWays) : Type 0 where
  pub wanted : IsValInRange context.types ways.wanted
  pub bare_structs : AreWaysCounted context ways.wanted 0 false ways.bare_structs
  pub structs : AreWaysCounted context ways.wanted 1 false ways.structs
  pub arrays : AreWaysCounted context ways.wanted 1 true ways.arrays

-- the choices of all types are counted
pub record AreAllCounted (context : Context) (wanted : ValType) (fuel : ℕ) (arrays : Bool) (counts : BlockCounts) : Type 0 where
  pub seen : counts.seen ≡ length context.types
  pub counted : IsCounted (offered_before (ways_by context wanted fuel arrays) context.types) counts

-- the entry counts all choices that create a value of this type with this fuel
pub record AreWaysWhole (context : Context) (wanted : ValType) (fuel : ℕ) (ways : KeptWays) : Type 0 where
  pub bare_structs : fuel ≡ 0 → AreAllCounted context wanted fuel false ways.bare_structs
  pub structs : 0 < fuel → AreAllCounted context wanted fuel false ways.structs
  pub arrays : 0 < fuel → AreAllCounted context wanted fuel true ways.arrays

-- the entry at this position is for this type
abbrev pub AreWaysFor : List KeptWays → ℕ → ValType → Type 0
AreWaysFor kept place wanted = (ways : KeptWays) × (slice_get kept place ≡ Some ways) × (ways.wanted ≡ wanted)

-- the entry at this position counts all ways
abbrev pub AreWaysWholeAt : Context → List KeptWays → ℕ → ValType → ℕ → Type 0
AreWaysWholeAt context kept place wanted fuel = (ways : KeptWays) × (slice_get kept place ≡ Some ways)
    × AreWaysWhole context wanted fuel ways

-- the entry at this position, if any, counts all choices
abbrev pub HasCountedWays : Context → ValType → ℕ → Option ℕ → Option KeptTypes → Type 0
HasCountedWays context wanted fuel None kept = Unit {0}
HasCountedWays context wanted fuel (Some place) None = ⊥
HasCountedWays context wanted fuel (Some place) (Some kept) = AreWaysWholeAt context kept.entries.items place wanted fuel

-- everything in the record is correct
pub record AreKeptOffers (context : Context) (kept : KeptOffers) : Type 0 where
  pub few : AreFewRead context kept.few
  pub many : IfSome kept.many (AreManyKept context)
  pub types : IfSome kept.types (λ types. All (IsKeptWays context) types.entries.items)

-- the entry is for this type, and has read no global above the first `visible`
abbrev pub IsFor : ValType → ℕ → KeptOffer → Type 0
IsFor wanted visible offer = (offer.wanted ≡ wanted) × (offer.globals.seen ≤ visible)

-- the entry at this position exists, is for this type, and has read no global above the first
-- `visible`
abbrev pub IsKeptAt : List KeptOffer → ℕ → ValType → ℕ → Type 0
IsKeptAt kept place wanted visible = (offer : KeptOffer) × (slice_get kept place ≡ Some offer) × IsFor wanted visible offer

-- the entry is correct, and is for this type or a supertype
pub record IsWiderOffer (context : Context) (wanted : ValType) (offer : KeptOffer) : Type 0 where
  pub kept : IsKeptOffer context offer
  pub wider : IsTrue (is_val_below context.types wanted offer.wanted)

-- the entry counts all visible globals and all functions that are offered for a value of this type
pub record IsWhole (context : Context) (wanted : ValType) (offer : KeptOffer) : Type 0 where
  pub globals_seen : offer.globals.seen ≡ context.visible
  pub globals : IsCounted (offered_before (global_offers context wanted) context.globals) offer.globals
  pub funcs_seen : offer.funcs.seen ≡ length context.funcs
  pub funcs : IsCounted (offered_before (function_offers context wanted) context.funcs) offer.funcs

-- the entry at this position counts all visible globals and all functions that are offered for a
-- value of this type
abbrev pub IsWholeAt : Context → List KeptOffer → ℕ → ValType → Type 0
IsWholeAt context kept place wanted = (offer : KeptOffer) × (slice_get kept place ≡ Some offer) × IsWhole context wanted offer

-- all visible globals and all functions have been read, as few items, or as many items that the
-- entry at this position counts
pub record HasReadAll (context : Context) (wanted : ValType) (place : ℕ) (kept : KeptOffers) : Type 0 where
  pub few : kept.many ≡ None → IsFewWhole context kept.few
  pub many : IfSome kept.many (λ many. AreAllRead context many.items)
  pub counted : IfSome kept.many (λ many. IsWholeAt context many.kept.items place wanted)

-- all visible globals and all functions have been read, and many items are counted for a value of
-- this type
abbrev pub IsKnown : Context → ValType → Known → Type 0
IsKnown context wanted (Few items) = IsFewWhole context items.now
IsKnown context wanted (Many items counts) = AreAllRead context items.now × IsWhole context wanted counts.now

-- the counts, which exist only for many items
abbrev pub counts_of : Known → Option (Bor KeptOffer)
counts_of (Few items) = None
counts_of (Many items counts) = Some counts
