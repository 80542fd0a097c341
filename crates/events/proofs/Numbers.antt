-- The event with a number, by its place in the list.
use Rattle.std.proofs.Common.{◌≡◌, ◌≢◌, ℕ, zero, suc, ◌+◌, true, List, get_or, add-one, arith}
use Rattle.std.proofs.lemmas.List.{get_or_past}
use Rattle.events.specs.Events.{is_load, is_store}
use Rattle.events.specs.Run.{at, no_event, Within}
use Rattle.events.specs.declared.event.Event.{Event}

pub at_next : (es : List Event) (k : ℕ) → at es (k + 1) ≡ get_or es k no_event
at_next es k = rw add-one

-- every load, every store and what has a writer is an event of the run
pub load_within : (es : List Event) (i : ℕ) → is_load (at es i).kind ≡ true → Within es i
load_within es zero is = grind arith
load_within es (suc k) is = grind (arith, get_or_past es k no_event)

pub store_within : (es : List Event) (i : ℕ) → is_store (at es i).kind ≡ true → Within es i
store_within es zero is = grind arith
store_within es (suc k) is = grind (arith, get_or_past es k no_event)

pub writer_within : (es : List Event) (i : ℕ) → (at es i).writer ≢ 0 → Within es i
writer_within es zero some = grind arith
writer_within es (suc k) some = grind (arith, get_or_past es k no_event)
