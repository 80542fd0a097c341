-- How many digits the numbers of events and locations have.
use Rattle.std.proofs.Common.{◌≡◌, ℕ, true, ◌≤◌, List, length, decimal, refl, arith}
use Rattle.std.proofs.lemmas.Fmt.{length-decimal-le}
use Rattle.events.specs.Events.{is_access, is_store}
use Rattle.events.specs.Run.{at, Within, Store, FullRun}
use Rattle.events.specs.declared.event.Event.{Event}
use Rattle.events.specs.declared.event.Kind.{Kind}
use Rattle.events.specs.declared.event.Kind.TheVariants.{Read, Write, Update, Fence}

store_is_access : (k : Kind) → is_store k ≡ true → is_access k ≡ true
store_is_access Read is = refl
store_is_access Write is = refl
store_is_access Update is = refl
store_is_access Fence is = is

module _ (es : List Event) (full : FullRun es) where
  pub event_digits : (i : ℕ) → Within es i → length (decimal i) ≤ 3
  event_digits i within = let few = full.few in length-decimal-le 3 i (omega arith) (omega arith) (omega arith)

  pub location_digits : (a : ℕ) → Store es a → length (decimal (at es a).location) ≤ 2
  location_digits a store =
      let place = (full.legal a (store.0)).location.0 (store_is_access ((at es a).kind) (store.1)) in
      length-decimal-le 2 ((at es a).location) (omega arith) (omega arith) (omega arith)
