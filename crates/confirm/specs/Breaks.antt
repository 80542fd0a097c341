-- Pairs of events that break an axiom.
use Rattle.std.specs.Prelude.{◌≢◌, ℕ, List}
use Rattle.events.specs.Relations.{Rel, ◌⨾◌, ◌？, ◌⁻¹}
use Rattle.events.specs.Run.{Within, Store, Update}
use Rattle.events.specs.Graph.{Rf}
use Rattle.events.specs.declared.event.Event.{Event}
use Rattle.models.specs.Models.{Fr, AtOneLocation}
use Rattle.models.specs.declared.axiom.Axiom.{Axiom}
use Rattle.models.specs.declared.axiom.Axiom.TheVariants.{Causality, WriteCoherence, ReadCoherence, Atomicity}
use Rattle.models.specs.declared.scope.Scope.{Scope}
use Rattle.models.specs.declared.scope.Scope.TheVariants.{Location, Whole, Weak}

-- two updates share a writer
abbrev pub Twins : List Event → Rel
Twins es u v = Update es u × Update es v × (u ≢ v) × (Rf es ⁻¹ ⨾ Rf es) u v

-- the writer of r happens before v, which is at its location
abbrev pub WriterBefore : List Event → Rel → Rel
WriterBefore es hb = Rf es ⁻¹ ⨾ AtOneLocation es hb

-- Causality and write coherence at whole scope are broken by cycles, and not by pairs.
abbrev pub PairBreaks : Axiom → Scope → List Event → Rel → Rel → Rel
PairBreaks Causality scope es hb mo a b = ⊥
PairBreaks WriteCoherence Location es hb mo a b = (mo ⨾ Rf es ？) a b × (hb ？) b a
PairBreaks WriteCoherence Whole es hb mo a b = ⊥
PairBreaks WriteCoherence Weak es hb mo a b = ⊥
PairBreaks ReadCoherence Location es hb mo a b = (Fr es mo ⨾ Rf es ？) a b × hb b a
PairBreaks ReadCoherence Whole es hb mo a b = (Fr es mo ⨾ Rf es ？) a b × hb b a
PairBreaks ReadCoherence Weak es hb mo a b = Store es b × hb b a × WriterBefore es hb a b
PairBreaks Atomicity Location es hb mo a b = Fr es mo a b × mo b a
PairBreaks Atomicity Whole es hb mo a b = Fr es mo a b × mo b a
PairBreaks Atomicity Weak es hb mo a b = Twins es a b

-- a pair of the run breaks the axiom
abbrev pub HasBreakingPair : Axiom → Scope → List Event → Rel → Rel → Type 0
HasBreakingPair x scope es hb mo = (a : ℕ) × Within es a × ((b : ℕ) × Within es b × PairBreaks x scope es hb mo a b)
