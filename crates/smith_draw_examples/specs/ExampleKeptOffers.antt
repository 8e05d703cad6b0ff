-- Records of the offered globals and functions, for the examples.
use Rattle.std.specs.Prelude.{◌≡◌, ℕ, ◌+◌, Option, None, List, [], ◌∷◌}
use Rattle.smith_types.specs.Syntax.value_type.ValType.{ValType}
use Rattle.smith_types.specs.Syntax.value_type.ValType.TheVariants.{I32, Ref}
use Rattle.smith_types.specs.Syntax.value_type.AbstractHeapType.TheVariants as heap
use Rattle.smith_types.specs.ExampleContexts.{context_types}
use Rattle.smith_types.specs.ExampleEntities.{constant_global, variable_global}
use Rattle.smith_types.specs.ExampleTypes.{plain, nullable}
use Rattle.smith_draw_consts.specs.KeptOffers.{AreClasses, AreRecorded, readable}
use Rattle.smith_draw_consts.specs.declared.block_counts.BlockCounts.{BlockCounts}
use Rattle.smith_draw_consts.specs.declared.classes.Classes.{Classes}
use Rattle.smith_draw_consts.specs.declared.few_items.FewItems.{FewItems}
use Rattle.smith_draw_consts.specs.declared.kept_offers.KeptOffer.{KeptOffer}
use Rattle.smith_draw_consts.specs.declared.kept_offers.KeptOffers.{KeptOffers}
use Rattle.smith_draw_consts.specs.declared.kept_offers.ManyItems.{ManyItems}
use Rattle.smith_draw_consts.specs.declared.kept_ways.KeptWays.{KeptWays}

-- the counts of items: all read items, the offered items among them, and the offered items before
-- each block
abbrev pub counts : ℕ → ℕ → List ℕ → BlockCounts
counts seen total starts = record { seen = seen; total = total; starts = starts }

abbrev pub unread : BlockCounts
unread = counts 0 0 []

-- the entry for a type: the counts of globals and of functions; no class has a flag
abbrev pub kept_for : ValType → BlockCounts → BlockCounts → KeptOffer
kept_for wanted globals funcs = record { wanted = wanted; globals = globals; funcs = funcs; global_flags = []; func_flags = [] }

-- the type of references to functions
abbrev pub to_functions : ValType
to_functions = Ref (nullable (plain heap.Func))

-- correct entries for two immutable globals with a mutable one between them, and for two functions
abbrev pub numbers : KeptOffer
numbers = kept_for I32 (counts 3 2 (0 ∷ [])) (counts 2 0 (0 ∷ []))

abbrev pub functions : KeptOffer
functions = kept_for to_functions (counts 3 0 (0 ∷ [])) (counts 2 2 (0 ∷ []))

-- an entry without one of the functions
abbrev pub too_few_functions : KeptOffer
too_few_functions = kept_for to_functions (counts 3 0 (0 ∷ [])) (counts 2 1 (0 ∷ []))

-- classes of these types, and the class of each item
abbrev pub HasClasses : Classes → List (Option ValType) → List ℕ → Type 0
HasClasses classes kinds of = (classes.kinds ≡ kinds) × (classes.of ≡ of)

-- the classes are correct for an immutable, a mutable and an immutable global
abbrev pub AreGlobalClasses : Classes → Type 0
AreGlobalClasses classes = AreClasses context_types (λ index global. readable global)
    (constant_global I32 ∷ variable_global I32 ∷ constant_global I32 ∷ []) classes

-- for each number of the list, its sum with its position is recorded
abbrev pub AreSums : List ℕ → List ℕ → Type 0
AreSums = AreRecorded (λ place number. place + number)

-- the recorded types of globals, and indices of the types of functions
abbrev pub HasFew : FewItems → List (Option ValType) → List ℕ → Type 0
HasFew few globals funcs = (few.globals.items ≡ globals) × (few.funcs.items ≡ funcs)

-- only these are recorded, and there are no classes
abbrev pub HasFewAlone : KeptOffers → List (Option ValType) → List ℕ → Type 0
HasFewAlone kept globals funcs = HasFew kept.few globals funcs × (kept.many ≡ None)

-- no global and no function is in a class, and these are the entries
abbrev pub HasEntries : ManyItems → List KeptOffer → Type 0
HasEntries many entries = HasClasses many.items.globals [] [] × HasClasses many.items.funcs [] [] × (many.kept.items ≡ entries)

-- the type of references that may refer to any struct and any array
abbrev pub to_any : ValType
to_any = Ref (nullable (plain heap.Any))

-- the entry for a type: the counts of choices of structs without fuel, of structs and of arrays
abbrev pub ways_for : ValType → BlockCounts → BlockCounts → BlockCounts → KeptWays
ways_for wanted bare_structs structs arrays = record { wanted = wanted; bare_structs = bare_structs; structs = structs; arrays = arrays }
