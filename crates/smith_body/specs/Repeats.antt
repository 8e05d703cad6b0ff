-- Loops that go back to their start. Rules of this project.
use Rattle.std.specs.Prelude.{◌≡◌, ◌<◌, ℕ, ◌&&◌, ◌==◌, not, nat_le, nat_lt, Bool}
use Rattle.std.specs.Prelude.{false, Option, Some, None, List, [], length, pos, slice_get, if◌then◌else◌}
use Rattle.smith_body.specs.Common.{BodyContext, Config, I32, is_permitted, IsAllowedIn, range_at, Scope, ValType}
use Rattle.smith_bytes.specs.Draws.{choose_at}
use Rattle.smith_types.specs.Syntax.Features.{Features}
use Rattle.smith_instr.specs.declared.instr.Instr.TheVariants as instr
use Rattle.smith_body.specs.declared.repeats.Repeat.{Repeat}
use Rattle.smith_body.specs.declared.repeats.Repeat.TheVariants as repeats
use Rattle.smith_body_nodes.specs.Offered.{is_local_below, offered}
use Rattle.smith_body_nodes.specs.Scopes.{indexed}
use Rattle.smith_body_nodes.specs.declared.node.Opening.{Opening}
use Rattle.smith_body_nodes.specs.declared.node.Opening.TheVariants as openings

-- whether a block may be repeated: a loop without parameters, with a budget
abbrev pub may_repeat : Opening → List ValType → ℕ → Bool
may_repeat openings.Loop params budget = (length params == 0) && nat_lt 0 budget
may_repeat _ params budget = false

-- the number of iterations of a loop within `labels` labels: in another block at most 4, else
-- mostly at most 16
unfoldable pub times_at : ℕ → List ℕ → ℕ × List ℕ
times_at labels bytes =
    let kind = range_at 0 31 bytes in
    if nat_le 2 labels then range_at 1 4 bytes
    else if nat_le 31 kind.0 then range_at 1000 9191 kind.1
    else if nat_le 28 kind.0 then range_at 64 319 kind.1
    else range_at 1 16 kind.1

-- whether the instructions for counting are permitted
abbrev pub is_counting_permitted : Features → Config → ℕ → Bool
is_counting_permitted features config local = is_permitted features config (instr.I32Const (pos 1)) && is_permitted features config
    (instr.LocalGet local)

-- a loop is counted by an i32 local, or without one, it tests a value
abbrev pub counted_by : Config → BodyContext → Option ℕ → List ℕ → Repeat × List ℕ
counted_by config context None bytes = (repeats.Tested, bytes)
counted_by config context (Some local) bytes =
    let times = times_at (length context.labels) bytes in
    if is_counting_permitted context.features config local then (repeats.Counted local times.0, times.1) else (repeats.Tested, bytes)

unfoldable pub way_at : Config → BodyContext → List ℕ → Repeat × List ℕ
way_at config context bytes =
    let local = choose_at (offered (is_local_below context I32) (indexed (length context.locals))) bytes in
    counted_by config context local.0 local.1

-- whether and how a block is repeated: seven of eight times, if it may be
unfoldable pub repeat_at : Config → BodyContext → Opening → List ValType → ℕ → List ℕ → Option Repeat × List ℕ
repeat_at config context opening params budget bytes =
    let number = range_at 0 7 bytes in
    let way = way_at config context number.1 in
    if not (may_repeat opening params budget) then (None, bytes)
    else if number.0 == 0 then (None, number.1)
    else (Some way.0, way.1)

-- an i32 local that may count
pub record IsCounter (scope : Scope) (local : ℕ) : Type 0 where
  pub typed : slice_get scope.locals.now local ≡ Some I32
  pub constant : IsAllowedIn scope (instr.I32Const (pos 1))
  pub variable : IsAllowedIn scope (instr.LocalGet local)

abbrev pub IsRepeat : Scope → Repeat → Type 0
IsRepeat scope (repeats.Counted local times) = IsCounter scope local
IsRepeat scope repeats.Tested = Unit {0}

-- a block is a loop without parameters, which may be repeated in this way
pub record MayRepeat (scope : Scope) (opening : Opening) (params : List ValType) (budget : ℕ) (repeat : Repeat) : Type 0 where
  pub loop : opening ≡ openings.Loop
  pub none : params ≡ []
  pub paid : 0 < budget
  pub counts : IsRepeat scope repeat
