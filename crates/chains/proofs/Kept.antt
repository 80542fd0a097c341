-- Numbers that are kept, filled in event by event.
use Rattle.std.proofs.Common.{◌≡◌, ℕ, ◌<◌, List, get_or}
use Rattle.events.specs.Run.{Load, Store}
use Rattle.events.specs.Graph.{Rf}
use Rattle.events.specs.declared.event.Event.{Event}

pub record StoresBelow (es : List Event) (k : ℕ) (stores : List ℕ) : Type 0 where
  pub store : (x : ℕ) → x < k → Store es x → get_or stores x 0 ≡ x
  pub other : (x : ℕ) → (x < k → ¬ Store es x) → get_or stores x 0 ≡ 0

pub record WritersBelow (es : List Event) (k : ℕ) (writers : List ℕ) : Type 0 where
  pub load : (w x : ℕ) → x < k → Rf es w x → get_or writers x 0 ≡ w
  pub other : (x : ℕ) → (x < k → ¬ Load es x) → get_or writers x 0 ≡ 0
