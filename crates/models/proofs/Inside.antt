-- Program order, reads-from and what they join lie within the run.
use Rattle.std.proofs.Common.{List, inl, inr, subst}
use Rattle.events.specs.Relations.{Rel, ◌⁺, one, more}
use Rattle.events.specs.Run.{Within, FullRun}
use Rattle.events.specs.Graph.{PoRf, Inside}
use Rattle.events.specs.declared.event.Event.{Event}
use Rattle.models.specs.Joined.{Joined, SwJoins}

pub step_inside : (es : List Event) → FullRun es → Inside es (PoRf es)
step_inside es full a b (inl p) = (p.0, p.1)
step_inside es full a b (inr f) =
    let fits = (full.linked b (f.0.0)).reads (f.0.1) in (subst (λ w. Within es w) (f.1) (fits.store.0), f.0.0)

pub path_inside : (es : List Event) → FullRun es → Inside es (PoRf es ⁺)
path_inside es full a b (one s) = step_inside es full a b s
path_inside es full a b (more {b = m} s q) = ((step_inside es full a m s).0, (path_inside es full m b q).1)

pub sw_joins : (es : List Event) (sw : Rel) → FullRun es → Joined es sw → SwJoins es sw
sw_joins es sw full joined = record { path = joined; within = λ a b s. path_inside es full a b (joined a b s) }
