use Rattle.confirm.proofs.Breaks.{mo_inside}
use Rattle.confirm.proofs.Findings.{location_decided}
use Rattle.confirm.proofs.candidate.Candidate.writes_cohere.Goals as goal

pub returns-in-Location : goal.returns-in-Location
returns-in-Location g c =
    location_decided _ _ _ (mo_inside _ _ _ (c.args.self.now.placed)) _ (c.in-Location.is) _ (c.has_breaking_pair.ensures)
