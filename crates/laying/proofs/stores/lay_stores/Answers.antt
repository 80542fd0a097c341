use Rattle.laying.proofs.StoreLists.{by_location}
use Rattle.laying.proofs.stores.lay_stores.Goals as goal

pub returns-clause-lays : goal.returns-clause-lays
returns-clause-lays g c = (
  by_location _ (g.met.E.Execution.full _) _ c.store_locations.ensures _ c.all_locations.ensures _ _ c.gather-count.ensures.gathers,
  c.gather-count.ensures.rest,
)
