-- Violations with the steps that are written for them, each the first of its kinds.
use Rattle.std.proofs.Common.{◌≡◌, ℕ, ◌<◌, ◌≤◌, List, length, take, drop, get_or, set, refl, sym, subst, ◌∙◌, arith}
use Rattle.std.proofs.lemmas.List.{length-take-le, length-set, drop-set-lt, get_or-take, get_or-set_same}
use Rattle.events.specs.Run.{at, FullRun}
use Rattle.events.specs.Graph.{Rf, PoRf}
use Rattle.events.specs.declared.event.Event.{Event}
use Rattle.events.specs.Relations.{Rel, ◌∪◌, Acyclic}
use Rattle.models.specs.Joined.{Joined}
use Rattle.models.specs.declared.scope.Scope.TheVariants.{Location, Whole, Weak}
use Rattle.toposort.specs.Cycle.{IsCycle}
use Rattle.toposort.specs.Listing.{Ordered}
use Rattle.chains.proofs.Orders.{order_causal}
use Rattle.verdicts.specs.Absent.{NoTwins, NoBack}
use Rattle.verdicts.specs.Chains.{SameChain}
use Rattle.verdicts.specs.Steps.{ReadSteps, ChainStep}
use Rattle.verdicts.specs.Violations.{StepsBack, Cycle, AtLocation, step_at, no_step}
use Rattle.verdicts.specs.declared.step.Step.{Step}
use Rattle.verdicts.specs.declared.violation.Violation.TheVariants as violation
use Rattle.verdicts.proofs.First.{first_weak, first_back, first_round, first_whole}
use Rattle.judge.specs.Found.{Violated}
use Rattle.judge.specs.Ring.{ShowsEach, EventStep, ChainToChain}
use Rattle.verdicts.specs.Steps.{Overwrites}
use Rattle.judge.proofs.Rings.{chain_ring, event_ring}

module _ (es : List Event) (full : FullRun es) (order : List ℕ) (ordered : Ordered (length es) (PoRf es) order) (single : NoTwins es) (hb : Rel) where
  causal : Acyclic (PoRf es)
  causal = order_causal es full order ordered

  pub back_shown : (steps : List Step) (s : Step) → 0 < length steps → StepsBack es hb s → Violated Location es hb steps (set steps 0 s) violation.Back
  back_shown steps s some is =
      let long : 1 ≤ length (set steps 0 s) = rw (length-set steps 0 s) (omega arith) in
      let here : step_at (take 1 (set steps 0 s)) 0 ≡ s = get_or-take 1 (set steps 0 s) 0 no_step (omega arith) ∙ get_or-set_same steps 0 s no_step some in (
        omega arith,
        (length-take-le 1 (set steps 0 s) long, refl, subst (λ x. StepsBack es hb x) (sym here) is),
        first_back es hb causal single,
        drop-set-lt 1 steps 0 s (omega arith),
      )

  pub weak_shown : (steps : List Step) (w v r : ℕ) → Rf es w r → Overwrites es hb w v r → Violated Weak es hb steps steps (violation.Weak w v r)
  weak_shown steps w v r f is = (omega arith, (refl, refl, f, is), first_weak es hb causal single Weak w v r, refl)

  module _ (k : ℕ) (cycle : List ℕ) (fits : k ≤ length cycle) (steps steps_now : List Step) (room : k ≤ length steps) (room_now : k ≤ length steps_now) (rest : drop k steps_now ≡ drop k steps) where
    pub round_shown : NoBack es hb → (l : ℕ) → l ≡ (at es (get_or cycle 0 0)).location → IsCycle (length es) (ChainStep es hb) (take k cycle) → ShowsEach (ChainToChain es hb) cycle k steps_now → Violated Location es hb steps steps_now (violation.Round l k)
    round_shown back l e is shown =
        let ring = chain_ring es full k cycle fits steps_now room_now hb is shown in (
          room,
          (length-take-le k steps_now room_now, refl, subst (λ x. Cycle (SameChain es) (AtLocation es hb x) (take k steps_now)) (sym e) ring),
          first_round es hb causal single back l k,
          rest,
        )

    pub whole_shown : Joined es hb → IsCycle (length es) (hb ∪ ReadSteps es hb) (take k cycle) → ShowsEach (EventStep es hb) cycle k steps_now → Violated Whole es hb steps steps_now (violation.Whole k)
    whole_shown path is shown =
        let ring = event_ring es full k cycle fits steps_now room_now hb (λ a h. causal a (path a a h)) is shown in
        (room, (length-take-le k steps_now room_now, refl, ring), first_whole es hb causal single k, rest)
