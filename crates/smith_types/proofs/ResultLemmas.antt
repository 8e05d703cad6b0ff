-- Properties of a result after a test of its variant.
use Rattle.smith_types.proofs.Common.{false, true, ◌≡◌}
use Rattle.std.proofs.Common.{Err, Ok, Result}
use Rattle.std.specs.Prelude.{is_err, OnOk, OnErr}

pub ok_of : {A E P : Type 0} (r : Result A E) → is_err r ≡ false → OnOk r P → P
ok_of (Ok x) none h = h
ok_of (Err e) none h = cc

pub err_of : {A E P : Type 0} (r : Result A E) → is_err r ≡ true → OnErr r P → P
err_of (Ok x) some h = cc
err_of (Err e) some h = h
