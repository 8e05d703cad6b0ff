-- Instructions of a body by their index.
use Rattle.std.proofs.Common.{◌≡◌, ℕ, List, Option, Some, None, Bor, length, refl, sym}
use Rattle.std.specs.Prelude.{slice_get}
use Rattle.std.specs.Option.{option_map}
use Rattle.std.proofs.lemmas.Option.{slice_get_past, slice_get_read}
use Rattle.std.specs.Slice.{IsItemAt}
use Rattle.smith_instr.specs.declared.instr.Instr.{Instr}

pub got_item : (body : List Instr) (at : ℕ) (got : Option (Bor Instr)) → IsItemAt body at got
    → option_map (λ (one : Bor Instr). one.now) got ≡ slice_get body at
got_item body at (Some one) lookup = sym (slice_get_read body (length body) at one.now refl lookup.3.0 lookup.1)
got_item body at None lookup = sym (slice_get_past body at lookup.3)
