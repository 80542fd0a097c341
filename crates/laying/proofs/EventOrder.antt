-- What is laid location by location, along a listing of all events, is read off it.
use Rattle.std.proofs.Common.{ℕ, List, length}
use Rattle.events.specs.declared.event.Event.{Event}
use Rattle.events.specs.Relations.{Rel, ◌∪◌}
use Rattle.toposort.specs.Listing.{Ordered}
use Rattle.verdicts.specs.Steps.{ReadSteps}
use Rattle.verdicts.specs.Layings.{LaysEvents}
use Rattle.verdicts.proofs.Lists.{listing_once}
use Rattle.laying.specs.Stores.{ByLocation}
use Rattle.laying.proofs.StoreLists.{lists_stores}
use Rattle.laying.proofs.ChainBlocks.{node_listed}

pub lays_events : (es : List Event) (hb : Rel) (l : List ℕ) → Ordered (length es) (hb ∪ ReadSteps es hb) l →
    (o : List ℕ) → ByLocation es l o → LaysEvents es hb o
lays_events es hb l listing o by = (
  l,
  listing,
  record {
    lists = lists_stores es l (listing_once (length es) (hb ∪ ReadSteps es hb) l listing)
        (λ w s. node_listed (length es) (hb ∪ ReadSteps es hb) l listing w (s.0)) o by;
    along = by.along;
  },
)
