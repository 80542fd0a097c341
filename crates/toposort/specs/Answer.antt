-- What a search answers, and what it leaves in the listing.
use Rattle.std.specs.Prelude.{◌≡◌, ℕ, ◌<◌, ◌≤◌, List, length, take, drop, Ok, Err, Result}
use Rattle.events.specs.Relations.{Rel}
use Rattle.toposort.specs.Listing.{Ordered}
use Rattle.toposort.specs.Cycle.{IsCycle}
use Rattle.toposort.specs.declared.search.Found.{Found}
use Rattle.toposort.specs.declared.search.Found.TheVariants.{Listing, Cycle}
use Rattle.toposort.specs.declared.search.ShortListing.{ShortListing}

-- the first k places now hold what P says of them, and the others what they held
abbrev pub Writes : ℕ → (List ℕ → Type 0) → List ℕ → List ℕ → Type 0
Writes k P old new = P (take k new) × (drop k new ≡ drop k old)

-- The first k places now hold a cycle. Which cycle it is, and where it begins, is the code's choice: any cycle meets this.
abbrev pub WritesAnyCycle : ℕ → ℕ → Rel → List ℕ → List ℕ → Type 0
WritesAnyCycle k n E old new = (k ≤ n) × Writes k (IsCycle n E) old new

-- a listing of all nodes, or a cycle of so many
abbrev pub Shows : ℕ → Rel → List ℕ → List ℕ → Found → Type 0
Shows n E old new Listing = Writes n (Ordered n E) old new
Shows n E old new (Cycle k) = WritesAnyCycle k n E old new

-- refused exactly where there are fewer places than nodes
abbrev pub Answers : ℕ → Rel → List ℕ → List ℕ → Result Found ShortListing → Type 0
Answers n E old new (Ok found) = (n ≤ length old) × Shows n E old new found
Answers n E old new (Err short) = (length old < n) × (new ≡ old)
