-- Values that are copied as they are.
use Rattle.std.specs.Prelude.{◌≡◌}

-- a clone is the same value, and wants no memory
pub record IsPlain {A : Type 0} (is_clone : A → A → Type 0) (is_infallible : A → Type 0) : Type 0 where
  pub clones : (x y : A) → is_clone x y → y ≡ x
  pub never_fails : (x : A) → is_infallible x
