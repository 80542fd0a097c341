-- Program order and reads-from, the two relations that a run comes with.
use Rattle.std.specs.Prelude.{◌≡◌, ℕ, ◌<◌, List, Some, None, Option}
use Rattle.events.specs.Run.{at, Within, Load, Fits}
use Rattle.events.specs.Relations.{Rel, ◌∪◌}
use Rattle.events.specs.declared.event.Event.{Event}

-- program order: both of one thread, a before b
abbrev pub Po : List Event → ℕ → ℕ → Type 0
Po es a b = Within es a × Within es b × ((at es a).thread ≡ (at es b).thread) × (a < b)

-- reads-from: w is the writer of r
abbrev pub Rf : List Event → ℕ → ℕ → Type 0
Rf es w r = Load es r × ((at es r).writer ≡ w)

-- the two together
abbrev pub PoRf : List Event → Rel
PoRf es = Po es ∪ Rf es

-- r joins events of the run only
abbrev pub Inside : List Event → Rel → Type 0
Inside es r = (a b : ℕ) → r a b → Within es a × Within es b

-- what r reads from; no event where r is no load
abbrev pub WriterOf : List Event → ℕ → Option ℕ → Type 0
WriterOf es r (Some w) = Rf es w r
WriterOf es r None = (w : ℕ) → ¬ Rf es w r

-- program order is a strict order on the events of the run
pub record PoOrders (es : List Event) : Type 0 where
  pub within : (a b : ℕ) → Po es a b → Within es a × Within es b
  pub strict : (a : ℕ) → ¬ Po es a a
  pub joins : (a b c : ℕ) → Po es a b → Po es b c → Po es a c

-- every load reads from exactly one event, which fits
pub record RfReads (es : List Event) : Type 0 where
  pub some : (r : ℕ) → Load es r → (w : ℕ) × Rf es w r
  pub one : (v w r : ℕ) → Rf es v r → Rf es w r → v ≡ w
  pub fits : (w r : ℕ) → Rf es w r → Fits es w r
