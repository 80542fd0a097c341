-- Steps between stores, from happens-before between loads and stores.
use Rattle.std.proofs.Common.{◌≤◌, ℕ, List, inl, inr, arith}
use Rattle.events.specs.Limits.{max_events}
use Rattle.events.specs.Run.{FullRun}
use Rattle.events.specs.declared.event.Event.{Event}
use Rattle.models.proofs.Walks.{rf_below}
use Rattle.chains.specs.Ends.{Top}

pub top_below : (es : List Event) → FullRun es → (a x : ℕ) → Top es a x → a ≤ max_events
top_below es full a x (inl (e, s)) = let few = full.few in let high = s.0.1 in omega arith
top_below es full a x (inr (f, n)) = rf_below es a x full f
