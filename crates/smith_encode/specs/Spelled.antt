-- Items that have a spelling: a type with further supertypes has a first one, each block has its `end`,
-- and bodies have fewer than 2^32 locals.
use Rattle.std.specs.Prelude.{◌≡◌, ℕ, ◌==◌, ◌&&◌, ◌||◌, ◌^◌, nat_lt, Bool, true, false, List, [], ◌∷◌, length, is_some}
use Rattle.std.specs.List.{list_all}
use Rattle.smith_types.specs.Syntax.composite_type.SubType.{SubType}
use Rattle.smith_binary_read.specs.declared.types.DeclaredType.{DeclaredType}
use Rattle.smith_decode.specs.declared.bodies.Body.{Body}
use Rattle.smith_decode.specs.declared.data.DataMode.{DataMode}
use Rattle.smith_decode.specs.declared.data.DataMode.TheVariants as data_mode
use Rattle.smith_decode.specs.declared.data.DataSegment.{DataSegment}
use Rattle.smith_decode.specs.declared.definitions.GlobalDefinition.{GlobalDefinition}
use Rattle.smith_decode.specs.declared.definitions.TableDefinition.{TableDefinition}
use Rattle.smith_decode.specs.declared.elements.ElementItems.{ElementItems}
use Rattle.smith_decode.specs.declared.elements.ElementItems.TheVariants.{Functions, Expressions}
use Rattle.smith_decode.specs.declared.elements.ElementMode.{ElementMode}
use Rattle.smith_decode.specs.declared.elements.ElementMode.TheVariants as element_mode
use Rattle.smith_decode.specs.declared.elements.ElementSegment.{ElementSegment}
use Rattle.smith_decode.specs.declared.modules.Module.{Module}
use Rattle.smith_decode.specs.BodyReadings.{total}
use Rattle.smith_encode.specs.Nesting.{is_nested}

-- whether a type has a first supertype if it has these further ones
abbrev pub is_type_spelled : SubType → List ℕ → Bool
is_type_spelled t further = is_some t.supertype || (length further == 0)

abbrev pub is_declared_spelled : DeclaredType → Bool
is_declared_spelled declared = is_type_spelled declared.sub_type declared.further_supertypes

abbrev pub is_group_spelled : List DeclaredType → Bool
is_group_spelled group = list_all is_declared_spelled group

-- whether two lists have the same number of items, and each two at one place pass a test
abbrev pub all_paired : {A B : Type 0} → (A → B → Bool) → List A → List B → Bool
all_paired passes [] [] = true
all_paired passes (x ∷ xs) (y ∷ ys) = passes x y && all_paired passes xs ys
all_paired passes [] (y ∷ ys) = false
all_paired passes (x ∷ xs) [] = false

-- whether the types of a group have as many lists of further supertypes, and each has a spelling
abbrev pub are_types_spelled : List SubType → List (List ℕ) → Bool
are_types_spelled types further = all_paired is_type_spelled types further

-- the same for groups
abbrev pub are_groups_spelled : List (List SubType) → List (List (List ℕ)) → Bool
are_groups_spelled types further = all_paired are_types_spelled types further

abbrev pub is_table_nested : TableDefinition → Bool
is_table_nested table = is_nested table.initial

abbrev pub is_global_nested : GlobalDefinition → Bool
is_global_nested global = is_nested global.initial

abbrev pub are_items_nested : ElementItems → Bool
are_items_nested (Functions funcs) = true
are_items_nested (Expressions items) = list_all is_nested items

abbrev pub is_element_mode_nested : ElementMode → Bool
is_element_mode_nested element_mode.Passive = true
is_element_mode_nested element_mode.Declared = true
is_element_mode_nested (element_mode.Active table offset) = is_nested offset

abbrev pub is_element_nested : ElementSegment → Bool
is_element_nested segment = is_element_mode_nested segment.mode && are_items_nested segment.items

abbrev pub is_body_spelled : Body → Bool
is_body_spelled body = nat_lt (total body.locals) (2 ^ 32) && is_nested body.instructions

abbrev pub is_data_mode_nested : DataMode → Bool
is_data_mode_nested data_mode.Passive = true
is_data_mode_nested (data_mode.Active memory offset) = is_nested offset

abbrev pub is_data_nested : DataSegment → Bool
is_data_nested segment = is_data_mode_nested segment.mode

-- whether each item of a module has a spelling, and each function a body
abbrev pub are_parts_spelled : Module → Bool
are_parts_spelled m =
    are_groups_spelled m.types m.further_supertypes && ((length m.functions == length m.bodies)
    && (list_all is_table_nested m.tables && (list_all is_global_nested m.globals
    && (list_all is_element_nested m.elements && (list_all is_body_spelled m.bodies && list_all is_data_nested m.datas)))))

-- if an item passes a test, the piece spells it
abbrev pub IfPasses : {A : Type 0} → (A → Bool) → (A → List ℕ → Type 0) → A → List ℕ → Type 0
IfPasses passes Spells x piece = passes x ≡ true → Spells x piece
