-- From a source that begins with the spelling of mutable globals with numbers, these are drawn.
use Rattle.smith_draw_definitions.proofs.Common.{[], All-nil, All-push, ap, append_assoc, arith, Config, ConstInstr, Context, Error, false}
use Rattle.smith_draw_definitions.proofs.Common.{GlobalType, length, List, Listed, map, map-append, Ok, refl, Result, suc, sym}
use Rattle.smith_draw_definitions.proofs.Common.{takes_if_read, true, try_grow_at, without_globals, zero, ℕ, ◌++◌, ◌>>=◌, ◌∙◌, ◌∷◌, ◌≡◌}
use Rattle.std.proofs.Common.{ℤ}
use Rattle.std.proofs.Common.{append-nil}
use Rattle.std.specs.List.{All}
use Rattle.std.proofs.lemmas.Bool.{le-ltb}
use Rattle.smith_bytes.specs.Takes.{Takes}
use Rattle.smith_bytes.proofs.SpelledLemmas.{joined_parts, bool_read}
use Rattle.smith_types.specs.Syntax.const_instr.ConstInstr.TheVariants.{I32Const}
use Rattle.smith_types.specs.Syntax.value_type.ValType.TheVariants.{I32}
use Rattle.smith_draw_types.specs.GlobalTypes.{global_type_at}
use Rattle.smith_draw_types.specs.SpelledGlobals.{mutable_i32, SpellsMutableI32}
use Rattle.smith_draw_types.specs.SpelledConstants.{SpellsConstExpr}
use Rattle.smith_draw_types.proofs.GlobalTypeLemmas.{global_type_taken}
use Rattle.smith_draw_consts.proofs.SpelledConstExprLemmas.{constant_read, mutable_not_read}
use Rattle.smith_draw_types.specs.SpelledParts.{SpellsGlobal}
use Rattle.smith_draw_definitions.specs.NumberedGlobals.{SpellsGlobals}
use Rattle.smith_draw_definitions.specs.Definitions.{InitialiserScope, Global, globals_of, global_scope, initialised_at, global_at}
use Rattle.smith_draw_definitions.specs.Definitions.{globals_at}
use Rattle.smith_draw_definitions.proofs.DefinedLemmas.{tried_alone}

-- each global is mutable
abbrev AreMutable : List GlobalType → Type 0
AreMutable globals = All (λ (global : GlobalType). global.mutable ≡ true) globals

-- a mutable global with this number, after `index` globals
abbrev numbered : ℕ → ℤ → Global
numbered index number = (mutable_i32, (index, I32Const number ∷ []))

same_pair : {A B : Type 0} (r : A × B) (x : A) (y : B) → r.0 ≡ x → r.1 ≡ y → r ≡ (x, y)
same_pair r x y e f = λ i. (e i, f i)

type_read : (config : Config) (context : Context) (piece after : List ℕ) → SpellsMutableI32 config piece
    → global_type_at config context (piece ++ after) ≡ (mutable_i32, after)
type_read config context piece after h =
    let old = piece ++ after in
    let drawn = global_type_at config context old in
    let takes = global_type_taken config context old drawn.0 drawn.1 refl in
    same_pair drawn mutable_i32 after
    (takes.made mutable_i32 piece after (record { holds = refl; spelled = h }) refl)
    (takes.left mutable_i32 piece after (record { holds = refl; spelled = h }) refl)

-- after mutable globals a spelled one is read
global_read : (config : Config) (standing : InitialiserScope) (before : List GlobalType) (made : List Global) (number : ℤ)
    (piece after : List ℕ) → AreMutable (globals_of before made) → SpellsGlobal config number piece
    → global_at config standing before made (piece ++ after) ≡ Ok (numbered (length (globals_of before made)) number, after)
unfolding global_at initialised_at SpellsGlobal
global_read config standing before made number piece after mutable h =
    let scope = global_scope config standing (globals_of before made) in
    let constant : SpellsConstExpr config (I32Const number ∷ []) h.second =
    record { number = number; alone = refl; spelled = h.is_second } in
    rw (
      joined_parts h after,
      type_read config (without_globals scope) h.first (h.second ++ after) h.is_first,
      constant_read scope config.const_expr_fuel config (I32Const number ∷ []) h.second after (mutable_not_read scope I32 mutable) refl
          constant,
    ) refl

-- globals and constants for these numbers follow those made before
record AreRead (numbers : List ℤ) (made : List Global) (after : List ℕ) (grown : Result (List Global × List ℕ) Error) : Type 0 where
  more : List Global
  all : grown ≡ Ok (made ++ more, after)
  types : map (λ (one : Global). one.0) more ≡ map (λ number. mutable_i32) numbers
  constants : map (λ (one : ℕ × List ConstInstr). one.1) (map (λ (one : Global). one.1) more) ≡ map (λ number. I32Const number ∷ []) numbers

globals_read : (config : Config) (standing : InitialiserScope) (before : List GlobalType) (most : ℕ) (made : List Global) (numbers : List ℤ)
    (piece after : List ℕ) → AreMutable (globals_of before made) → Listed (SpellsGlobal config) most numbers piece
    → AreRead numbers made after (try_grow_at (global_at config standing before) 0 most made (piece ++ after))
unfolding try_grow_at Listed
globals_read config standing before zero made [] piece after mutable h = record {
  more = [];
  all = rw (h, append-nil) refl;
  types = refl;
  constants = refl;
}
globals_read config standing before zero made (number ∷ numbers) piece after mutable h = absurd h
globals_read config standing before (suc most) made [] piece after mutable h =
    record {
      more = [];
      all = rw (le-ltb (length made) 0 (omega arith), bool_read false piece after h, append-nil) refl;
      types = refl;
      constants = refl;
    }
globals_read config standing before (suc most) made (number ∷ numbers) piece after mutable h =
    let item = h.is_second in
    let later = item.second ++ after in
    let globals = globals_of before made in
    let one = numbered (length globals) number in
    let longer : globals_of before (made ++ one ∷ []) ≡ globals ++ mutable_i32 ∷ [] =
    ap (λ (xs : List GlobalType). before ++ xs) (map-append (λ (g : Global). g.0) made (one ∷ []))
    ∙ sym (append_assoc before (map (λ (g : Global). g.0) made) (mutable_i32 ∷ [])) in
    let still : AreMutable (globals_of before (made ++ one ∷ [])) =
    rw longer (All-push (λ (g : GlobalType). g.mutable ≡ true) globals mutable_i32 mutable refl) in
    let rest = globals_read config standing before most (made ++ one ∷ []) numbers item.second after still item.is_second in
    record {
      more = one ∷ rest.more;
      all = rw (
        joined_parts h after,
        joined_parts item after,
        le-ltb (length made) 0 (omega arith),
        bool_read true h.first (item.first ++ later) h.is_first,
        global_read config standing before made number item.first later mutable
            item.is_first,
      )
          (rest.all ∙ ap (λ (l : List Global). Ok (l, after)) (append_assoc made (one ∷ []) rest.more));
      types = ap (λ (l : List GlobalType). mutable_i32 ∷ l) rest.types;
      constants = ap (λ (l : List (List ConstInstr)). (I32Const number ∷ []) ∷ l) rest.constants;
    }

-- the globals and the initialisers, without their indices, if there are none before
abbrev pub listed_of : Result ((List GlobalType × List (ℕ × List ConstInstr)) × List ℕ) Error
    → Result ((List GlobalType × List (List ConstInstr)) × List ℕ) Error
listed_of read = read >>= (λ drawn. Ok ((drawn.0.0, map (λ (one : ℕ × List ConstInstr). one.1) drawn.0.1), drawn.1))

abbrev pub listed_at : Config → InitialiserScope → List ℕ → Result ((List GlobalType × List (List ConstInstr)) × List ℕ) Error
listed_at config standing bytes = listed_of (globals_at config standing [] [] bytes)

pub listed_read : (config : Config) (standing : InitialiserScope) → config.min_globals ≡ 0
    → (globals : List GlobalType × List (List ConstInstr)) (piece after : List ℕ) → SpellsGlobals config globals piece
    → listed_at config standing (piece ++ after) ≡ Ok (globals, after)
unfolding globals_at
listed_read config standing least globals piece after h =
    let read = globals_read config standing [] config.max_globals [] h.numbers piece after (All-nil (λ (g : GlobalType). g.mutable ≡ true))
    h.spelled in
    let drawn = tried_alone (global_at config standing []) config.min_globals config.max_globals 0 (piece ++ after) least refl ∙ read.all in
    let types : globals_of [] read.more ≡ globals.0 = read.types ∙ sym h.types in
    let constants : map (λ (one : ℕ × List ConstInstr). one.1) (map (λ (one : Global). one.1) read.more) ≡ globals.1 =
    read.constants ∙ sym h.initials in
    rw drawn (λ i. Ok ((types i, constants i), after))

pub globals_taken : (config : Config) (standing : InitialiserScope) {before : List GlobalType}
    {before_initials : List (ℕ × List ConstInstr)} {old new : List ℕ} {globals : List GlobalType} {initials : List (ℕ × List ConstInstr)}
    → config.min_globals ≡ 0 → before ≡ [] → before_initials ≡ [] → globals_at config standing before before_initials old
    ≡ Ok ((globals, initials), new)
    → Takes (SpellsGlobals config) old (globals, map (λ (one : ℕ × List ConstInstr). one.1) initials) new
globals_taken config standing {old = old} {new = new} {globals = globals} {initials = initials} least none unmade drawn =
    let alone : globals_at config standing [] [] old ≡ Ok ((globals, initials), new) = rw (none, unmade) at drawn in
    takes_if_read (listed_at config standing) (listed_read config standing least) (rw alone refl)
