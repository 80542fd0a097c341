-- What RC20 gave through the views is what RA and Relaxed gave, and the whole promise of what the parts gave.
use Rattle.std.proofs.Common.{◌≡◌, ℕ, List, length, Ok, Err, Result, inl, inr, refl, subst, sym, ◌∙◌, arith}
use Rattle.std.proofs.lemmas.List.{length-replicate}
use Rattle.events.specs.Limits.{max_events}
use Rattle.events.specs.Relations.{Rel}
use Rattle.events.specs.declared.event.Event.{Event}
use Rattle.executions.specs.declared.fault.CheckerFault.{CheckerFault}
use Rattle.models.specs.Models.{rule_of, scope_of}
use Rattle.models.specs.declared.name.ModelName.{ModelName}
use Rattle.models.specs.declared.scope.Scope.TheVariants.{Location}
use Rattle.verdicts.specs.declared.step.Sort.TheVariants.{Po}
use Rattle.verdicts.specs.declared.step.Step.{Step}
use Rattle.verdicts.specs.declared.verdict.Verdict.{Verdict}
use Rattle.judge.specs.Judges.{Judges}
use Rattle.checker.specs.Related.{GivesAs, Judgement}
use Rattle.checker.specs.Promise.{new_order, new_steps, JudgesBy, SameAnswer, SaysAs}
use Rattle.checker.specs.declared.judged.Judged.{Judged}

-- at location scope nothing is refused that has buffers of the full length
not_refused : (sw : Rel) (es : List Event) (now : List ℕ) (steps_now : List Step) (fault : CheckerFault) → ¬ Judges Location sw es new_order now new_steps steps_now (Err fault)
not_refused sw es now steps_now fault (inl (inl short, is), kept, kept_steps) = omega (arith, short, length-replicate {A = ℕ} max_events 0)
not_refused sw es now steps_now fault (inl (inr short, is), kept, kept_steps) = omega (arith, short, length-replicate {A = Step} max_events (record { from = 0; to = 0; sort = Po }))
not_refused sw es now steps_now fault (inr (room, whole, update), kept, kept_steps) = absurd (cc whole)

-- an answer in buffers of its own, as the theorems about answers take it
abbrev judgement : (j : Judged) → length j.order ≡ max_events → Judgement
judgement j long =
    record {
      order = new_order;
      order_now = j.order;
      order_length = long ∙ sym (length-replicate {A = ℕ} max_events 0);
      steps = new_steps;
      steps_now = j.steps;
      answer = j.verdict;
    }

module _ (m n : ModelName) (fs es : List Event) (at_location : scope_of m ≡ Location) (at_location₂ : scope_of n ≡ Location) (gives : GivesAs m n fs es) (j k : Judged) (long : length j.order ≡ max_events) (long₂ : length k.order ≡ max_events) where
  refused : (m : ModelName) (es : List Event) (j : Judged) → scope_of m ≡ Location → (x : CheckerFault) → j.verdict ≡ Err x → ¬ JudgesBy m es j
  refused m es j here x e by =
      not_refused (rule_of m es) es j.order j.steps x
      (subst (λ s. Judges s (rule_of m es) es new_order j.order new_steps j.steps (Err x)) here
      (subst (λ r. Judges (scope_of m) (rule_of m es) es new_order j.order new_steps j.steps r) e by.judges))

  says_as : (r s : Result Verdict CheckerFault) → j.verdict ≡ r → k.verdict ≡ s → JudgesBy m fs j → JudgesBy n es k → SameAnswer r j.order s k.order
  says_as (Ok v) (Ok w) e f by on = gives.verdicts (judgement j long) (judgement k long₂) v w by.judges on.judges e f
  says_as (Err x) s e f by on = absurd (refused m fs j at_location x e by)
  says_as (Ok v) (Err x) e f by on = absurd (refused n es k at_location₂ x f on)

  -- where both give verdicts, and over new buffers both do
  pub same_verdicts : JudgesBy m fs j → JudgesBy n es k → SaysAs j k
  same_verdicts by on = says_as j.verdict k.verdict refl refl by on
