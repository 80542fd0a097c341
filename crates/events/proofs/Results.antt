-- A result that is Ok holds what it unwraps to.
use Rattle.std.proofs.Common.{◌≡◌, true, is_ok, Ok, Result, arith}
use Rattle.std.specs.Result.{result_unwrap_or}

pub ok_value : {A B : Type 0} (r : Result A B) (d : A) → is_ok r ≡ true → r ≡ Ok (result_unwrap_or r d)
ok_value r d h = grind arith
