-- What holds of a result that is no error.
use Rattle.std.proofs.Common.{Result, Ok, Err, IsOk, OnOk}

pub on_ok : {A E P : Type 0} (r : Result A E) → IsOk r → OnOk r P → P
on_ok (Ok a) i p = p
on_ok (Err e) i p = cc
