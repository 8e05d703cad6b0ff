-- Forms of features that are on, and the first that is of none.
use Rattle.smith_decode.proofs.Common.{[], Bool, false, Features, Instr, List, refl, subst, true, ℕ, ◌++◌, ◌||◌, ◌∷◌, ◌≡◌}
use Rattle.std.proofs.Common.{◌&&◌}
use Rattle.std.specs.Prelude.{All}
use Rattle.std.proofs.lemmas.List.Elements.{All-get_or}
use Rattle.std.proofs.lemmas.Option.{get_or_from_slice_get, slice_get_within}
use Rattle.smith_decode.specs.declared.locations.Place.{Place}
use Rattle.smith_decode.specs.declared.locations.Place.TheVariants as place
use Rattle.smith_decode.specs.declared.modules.Module.{Module}
use Rattle.smith_decode.specs.Forms.{AreFormsEnabled, Each, IsFirstOff, IsOffAt}
use Rattle.smith_types.specs.Syntax.Instructions.{every_kind}
use Rattle.smith_types.specs.Syntax.instruction_kind.InstructionKind.{InstructionKind}
use Rattle.smith_types.specs.Syntax.instruction_kind.InstructionKind.TheVariants as kind
use Rattle.smith_instr.specs.Enabled.{has_features, instr_kind, is_allowed, is_always_allowed, is_enabled}

-- every kind is among all kinds
kind_allowed : (k : InstructionKind) → is_allowed every_kind k ≡ true
kind_allowed kind.NumericInt = refl
kind_allowed kind.Numeric = refl
kind_allowed kind.VectorInt = refl
kind_allowed kind.Vector = refl
kind_allowed kind.Reference = refl
kind_allowed kind.Parametric = refl
kind_allowed kind.Variable = refl
kind_allowed kind.Table = refl
kind_allowed kind.MemoryInt = refl
kind_allowed kind.Memory = refl
kind_allowed kind.Control = refl
kind_allowed kind.Aggregate = refl

either_true : (a b : Bool) → b ≡ true → (a || b) ≡ true
either_true true b is = refl
either_true false b is = is

both : (a b : Bool) → b ≡ true → (a && b) ≡ a
both true b is = is
both false b is = refl

-- if every kind is allowed, an instruction is enabled exactly if its features are on
pub without_kinds : (features : Features) (instruction : Instr)
    → is_enabled features every_kind instruction ≡ has_features features instruction
unfolding is_enabled
without_kinds features instruction =
    both (has_features features instruction) (is_always_allowed instruction || is_allowed every_kind (instr_kind instruction))
    (either_true (is_always_allowed instruction) (is_allowed every_kind (instr_kind instruction)) (kind_allowed (instr_kind instruction)))

-- the forms of some sections, then that of one more
pub one_more : (properties : List (Type 0)) (P : Type 0) → Each properties → P → Each (properties ++ P ∷ [])
one_more [] P before next = (next, tt)
one_more (Q ∷ properties) P before next = (before.0, one_more properties P before.1 next)

-- if an item lacks a property, not all items have it
not_all : {A : Type 0} (P : A → Type 0) (items : List A) (index : ℕ) → IsFirstOff P items index → All P items → ⊥
not_all P items index h all =
    let one = All-get_or P items index h.item (slice_get_within items index h.item h.stands) all in
    h.off (subst P (get_or_from_slice_get items index h.item h.item h.stands) one)

-- if the form of a place is off, not all forms are on
pub off_disabled : (features : Features) (m : Module) (at : Place) → IsOffAt features m at → AreFormsEnabled features m → ⊥
off_disabled features m (place.Types index) off on = not_all _ m.types index off on.0
off_disabled features m (place.Imports index) off on = not_all _ m.imports index off.1 on.1.0
off_disabled features m (place.Table index) off on = not_all _ m.tables index off.1 on.1.1.0
off_disabled features m (place.Memory index) off on = not_all _ m.memories index off.1 on.1.1.1.0
off_disabled features m (place.Tag index) off on = not_all _ m.tags index off.1 on.1.1.1.1.0
off_disabled features m (place.Global index) off on = not_all _ m.globals index off.1 on.1.1.1.1.1.0
off_disabled features m (place.Export index) off on = not_all _ m.exports index off.1 on.1.1.1.1.1.1.0
off_disabled features m (place.Element index) off on = not_all _ m.elements index off.1 on.1.1.1.1.1.1.1.0
off_disabled features m place.DataCount off on = off.1 on.1.1.1.1.1.1.1.1.0
off_disabled features m (place.Body index) off on = not_all _ m.bodies index off.1 on.1.1.1.1.1.1.1.1.1.0
off_disabled features m (place.Data index) off on = not_all _ m.datas index off.1 on.1.1.1.1.1.1.1.1.1.1.0
off_disabled features m (place.Function index) off on = off
off_disabled features m (place.GlobalInitial index) off on = off
off_disabled features m place.Start off on = off
off_disabled features m (place.Instruction body index) off on = off
