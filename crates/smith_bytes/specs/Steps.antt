-- Results of steps that may fail, and other parts that steps share. Rules of this project.
use Rattle.std.specs.Prelude.{◌≡◌, ℕ, Bool, true, false, List, Result, Ok, Err, ◌==◌, if◌then◌else◌}
use Rattle.smith_bytes.specs.Draws.{bool_at}
use Rattle.smith_bytes.specs.declared.error.Error.{Error}
use Rattle.smith_bytes.specs.declared.error.Error.TheVariants as errors
use Rattle.smith_bytes.specs.declared.error.Why.{Why}

-- a property holds, unless the error is left open
abbrev pub Unless : Bool → Type 0 → Type 0
Unless true Holds = Unit {0}
Unless false Holds = Holds

-- whether an error is lack of memory
abbrev pub is_memory : Error → Bool
is_memory errors.Memory = true
is_memory _ = false

-- whether an error is lack of memory, or an empty choice
abbrev pub is_lack : Error → Bool
is_lack errors.Memory = true
is_lack errors.EmptyChoose = true
is_lack _ = false

-- A step returns the result of `read`, except for errors that are left open. Separate clauses state
-- when these may occur.
abbrev pub Returns : {X Y : Type 0} → (Error → Bool) → (X → Y) → Result X Error → Result Y Error → Type 0
Returns is_open view (Ok x) read = read ≡ Ok (view x)
Returns is_open view (Err e) read = Unless (is_open e) (read ≡ Err e)

-- As `Returns`, for a `read` that fails only with a `Why`, which the step returns as an incorrect
-- format. Lack of memory and an empty choice are left open, and there is no other error.
abbrev pub ReturnsWhy : {X Y : Type 0} → (X → Y) → Result X Error → Result Y Why → Type 0
ReturnsWhy view (Ok x) read = read ≡ Ok (view x)
ReturnsWhy view (Err errors.Memory) read = Unit {0}
ReturnsWhy view (Err errors.EmptyChoose) read = Unit {0}
ReturnsWhy view (Err (errors.IncorrectFormat why)) read = read ≡ Err why
ReturnsWhy view (Err _) read = ⊥

-- a step after another
infixl 10 ◌>>=◌
abbrev pub ◌>>=◌ : {A B E : Type 0} → Result A E → (A → Result B E) → Result B E
(Ok x) >>= f = f x
(Err why) >>= f = Err why

-- a type or import section is written if it is not empty, else if a drawn bool is true
unfoldable pub section_flag_at : ℕ → List ℕ → Bool × List ℕ
section_flag_at count bytes = if count == 0 then bool_at bytes else (true, bytes)
