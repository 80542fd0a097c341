-- How much room the words of a violation take.
use Rattle.std.proofs.Common.{◌≡◌, ℕ, ◌+◌, ◌*◌, ◌≤◌, List, [], ◌∷◌, length, decimal, ap, inr, length-append, arith}
use Rattle.events.specs.Run.{FullRun}
use Rattle.events.specs.Graph.{Inside}
use Rattle.events.specs.declared.event.Event.{Event}
use Rattle.events.specs.Relations.{Rel}
use Rattle.models.specs.declared.scope.Scope.{Scope}
use Rattle.models.proofs.Inside.{step_inside}
use Rattle.verdicts.specs.Chains.{SameChain}
use Rattle.verdicts.specs.Numbers.{step_count}
use Rattle.verdicts.specs.Violations.{Violates, IsPoOrRf, IsBeforeOrRead, IsHbOrRead, SameEvent, StepHolds, StepsBack, AtLocation, Cycle, step_at}
use Rattle.verdicts.specs.declared.step.Step.{Step}
use Rattle.verdicts.specs.declared.violation.Violation.{Violation}
use Rattle.verdicts.specs.declared.violation.Violation.TheVariants as violation
use Rattle.verdicttext.specs.Text.{comma, back_words, round_word, violation_words}
use Rattle.report.proofs.Room.{room}
use Rattle.report.proofs.Digits.{event_digits, location_digits}
use Rattle.report.proofs.Inside.{StepInside, holds_inside, cycle_inside, starts_at_store}
use Rattle.report.proofs.CycleRoom.{starts_room, steps_fit}

module _ (es : List Event) (full : FullRun es) (hb : Rel) (inside : Inside es hb) where
  back_room : (ss : List Step) → length ss ≡ 1 → StepsBack es hb (step_at ss 0) → room (back_words ss) ≤ 8
  back_room [] few h = omega arith
  back_room (s ∷ ss) few (h, back) =
      let within = holds_inside es full hb inside IsBeforeOrRead s h in
      let from = event_digits es full s.from within.0 in
      let to = event_digits es full s.to within.1 in
      omega arith

  at_location_inside : (l : ℕ) (s : Step) → AtLocation es hb l s → StepInside es s
  at_location_inside l s h = holds_inside es full hb inside IsBeforeOrRead s h.0

  round_fits : (l : ℕ) (ss : List Step) → Cycle (SameChain es) (AtLocation es hb l) ss → length (round_word l ss) ≤ 8 * length ss + 3
  round_fits l ss c =
      let two = c.two in
      let first = c.steps 0 (omega arith) in
      let place = location_digits es full (step_at ss 0).from (starts_at_store es full hb inside (step_at ss 0) first.0) in
      let number = ap (λ n. length (decimal n)) first.1 in
      let fits = steps_fit es full comma ss (cycle_inside es full hb inside (SameChain es) (AtLocation es hb l) ss (at_location_inside l) c) in
      simp length-append (omega arith)

  pub violation_room : (scope : Scope) (v : Violation) (ss : List Step) → Violates scope es hb v ss → room (violation_words v ss) ≤ 8 * step_count v + 17
  violation_room scope (violation.Causal k) ss (few, c) =
      let fits = starts_room es full ss (cycle_inside es full hb inside SameEvent (StepHolds IsPoOrRf es hb) ss (holds_inside es full hb inside IsPoOrRf) c) in
      omega arith
  violation_room scope (violation.Twin u v) ss (none, (less, a, b, reads)) =
      let first = event_digits es full u (a.0) in
      let second = event_digits es full v (b.0) in
      omega arith
  violation_room scope (violation.Weak w v r) ss (none, weak, f, o) =
      let ends = step_inside es full w r (inr f) in
      let writer = event_digits es full w (ends.0) in
      let load = event_digits es full r (ends.1) in
      let store = event_digits es full v (o.2.0) in
      omega arith
  violation_room scope violation.Back ss (few, here, b) = let fits = back_room ss few b in omega arith
  violation_room scope (violation.Round l k) ss (few, here, c) = let fits = round_fits l ss c in omega arith
  violation_room scope (violation.Whole k) ss (few, here, c) =
      let fits = starts_room es full ss (cycle_inside es full hb inside SameEvent (StepHolds IsHbOrRead es hb) ss (holds_inside es full hb inside IsHbOrRead) c) in
      omega arith
