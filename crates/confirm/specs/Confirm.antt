-- What confirming an order finds.
use Rattle.std.specs.Prelude.{◌≡◌, ℕ, ◌<◌, List, Some, None, Ok, Err, Option, Result}
use Rattle.events.specs.Relations.{Rel}
use Rattle.events.specs.declared.event.Event.{Event}
use Rattle.executions.specs.declared.fault.CheckerFault.{CheckerFault}
use Rattle.executions.specs.declared.fault.CheckerFault.TheVariants.{NoModel, NotAnOrder}
use Rattle.models.specs.Numbers.{axiom_number}
use Rattle.models.specs.Orders.{IsOrder, Mo}
use Rattle.models.specs.Models.{Hb, Holds, rule_of, scope_of}
use Rattle.models.specs.declared.axiom.Axiom.{Axiom}
use Rattle.models.specs.declared.scope.Scope.{Scope}
use Rattle.models.specs.declared.name.ModelName.{ModelName}
use Rattle.confirm.specs.declared.finding.Finding.{Finding}
use Rattle.confirm.specs.declared.finding.Finding.TheVariants.{Passes, Fails}

abbrev pub finding_number : Finding → ℕ
finding_number Passes = 0
finding_number (Fails x) = axiom_number x

-- every axiom holds, or x is the first by number that does not
abbrev pub Finds : Scope → List Event → Rel → Rel → Finding → Type 0
Finds scope es hb mo Passes = (x : Axiom) → Holds x scope es hb mo
Finds scope es hb mo (Fails x) = ¬ Holds x scope es hb mo × ((y : Axiom) → axiom_number y < axiom_number x → Holds y scope es hb mo)

-- refused exactly where o is not an order
abbrev pub Confirms : Scope → Rel → List Event → List ℕ → Result Finding CheckerFault → Type 0
Confirms scope sw es o (Ok finding) = IsOrder scope es o × Finds scope es (Hb sw es) (Mo es o) finding
Confirms scope sw es o (Err fault) = ¬ IsOrder scope es o × (fault ≡ NotAnOrder)

-- the same under the model that a number names, if it names one
abbrev pub ConfirmsUnder : Option ModelName → List Event → List ℕ → Result Finding CheckerFault → Type 0
ConfirmsUnder (Some m) es o r = Confirms (scope_of m) (rule_of m es) es o r
ConfirmsUnder None es o r = r ≡ Err NoModel
