-- The outcomes that the definitions force of a run are the same, and the judge's answer agrees with them.
use Rattle.std.proofs.Common.{◌≡◌, inl, inr, ⊎_elim, ℕ, ◌≤◌, List, length, take, Ok, Err, Result, refl, sym, ap, ◌∙◌, arith}
use Rattle.std.proofs.lemmas.Bool.{cases_order}
use Rattle.std.proofs.lemmas.List.{length-take-le}
use Rattle.events.specs.declared.event.Event.{Event}
use Rattle.executions.specs.declared.fault.CheckerFault.{CheckerFault}
use Rattle.executions.specs.declared.fault.CheckerFault.TheVariants.{HasUpdates}
use Rattle.models.specs.Models.{Hb, rule_of, scope_of}
use Rattle.models.specs.declared.name.ModelName.{ModelName}
use Rattle.verdicts.specs.Numbers.{step_count}
use Rattle.verdicts.specs.Violations.{Violates, IsFirst}
use Rattle.verdicts.specs.declared.step.Step.{Step}
use Rattle.verdicts.specs.declared.violation.Violation.{Violation}
use Rattle.verdicts.specs.declared.verdict.Verdict.{Verdict}
use Rattle.verdicts.specs.declared.verdict.Verdict.TheVariants.{Consistent, Inconsistent}
use Rattle.verdicts.proofs.OneLaid.{one_laid}
use Rattle.judge.specs.Judges.{FitsScope, LowestUpdate, Short, Refuses, Judges}
use Rattle.examples.specs.Forced.{Outcome, Forced, OneOutcome}
use Rattle.examples.specs.Forced.Outcome.{consistent, inconsistent, refused}
use Rattle.examples.specs.Judged.{Answered}

lowest_once : (es : List Event) (u v : ℕ) → LowestUpdate es u → LowestUpdate es v → u ≡ v
lowest_once es u v (a, below) (b, under) =
    ⊎_elim (λ e. e) (⊎_elim (λ less. absurd (under u less a)) (λ less. absurd (below v less b))) (cases_order u v)

pub one : OneOutcome
one m es (consistent o) (consistent p) c d = one_laid (scope_of m) es (Hb (rule_of m es) es) o p c.laid d.laid
one m es (consistent o) (inconsistent v ss) c d = d.fails (o, c.order, c.satisfies)
one m es (consistent o) (refused u) c d = c.fits d.whole u d.lowest.0
one m es (inconsistent v ss) (consistent o) c d = c.fails (o, d.order, d.satisfies)
one m es (inconsistent v ss) (inconsistent w ts) c d =
    (let up = c.first w ts d.holds in let down = d.first v ss c.holds in omega arith, λ only. only w ts d.holds d.first)
one m es (inconsistent v ss) (refused u) c d = c.fits d.whole u d.lowest.0
one m es (refused u) (consistent o) c d = d.fits c.whole u c.lowest.0
one m es (refused u) (inconsistent v ss) c d = d.fits c.whole u c.lowest.0
one m es (refused u) (refused v) c d = lowest_once es u v c.lowest d.lowest

-- What an answer shows: the outcome's order, some violation of the first kind by the steps in the buffer, or the same update.
abbrev pub Shows : ModelName → List Event → List ℕ → List ℕ → List Step → Outcome → Result Verdict CheckerFault → Type 0
Shows m es order order_now steps_now (consistent o) r =
    (k : ℕ) × (r ≡ Ok (Consistent k)) × (k ≤ length order) × (take k order_now ≡ o)
Shows m es order order_now steps_now (inconsistent v ss) r =
    (w : Violation) × (r ≡ Ok (Inconsistent w))
    × Violates (scope_of m) es (Hb (rule_of m es) es) w (take (step_count w) steps_now)
    × IsFirst (scope_of m) es (Hb (rule_of m es) es) w
Shows m es order order_now steps_now (refused u) r = r ≡ Err (HasUpdates u)

module _ (m : ModelName) (es : List Event) (order order_now : List ℕ) (steps steps_now : List Step) (long : ¬ Short order steps) where
  not_refused : FitsScope (scope_of m) es → (fault : CheckerFault) → ¬ Refuses (scope_of m) es order steps fault
  not_refused fits fault (inl (short, e)) = long short
  not_refused fits fault (inr (_, whole, (u, lowest, e))) = fits whole u lowest.0

  pub shows : (t : Outcome) (r : Result Verdict CheckerFault) → Forced m es t →
      Judges (scope_of m) (rule_of m es) es order order_now steps steps_now r → Shows m es order order_now steps_now t r
  shows (consistent o) (Ok (Consistent k)) c (_, (room, laid, _, _, _, _, _)) =
      (k, refl, room, one_laid (scope_of m) es (Hb (rule_of m es) es) (take k order_now) o laid c.laid)
  shows (consistent o) (Ok (Inconsistent v)) c (_, (_, _, _, none, _, _)) = absurd (none (o, c.order, c.satisfies))
  shows (consistent o) (Err fault) c (refuses, _, _) = absurd (not_refused c.fits fault refuses)
  shows (inconsistent v ss) (Ok (Consistent k)) c (_, (_, _, is, all, _, _, _)) = absurd (c.fails (take k order_now, is, all))
  shows (inconsistent v ss) (Ok (Inconsistent w)) c (_, (_, holds, first, _, _, _)) = (w, refl, holds, first)
  shows (inconsistent v ss) (Err fault) c (refuses, _, _) = absurd (not_refused c.fits fault refuses)
  shows (refused u) (Ok verdict) c (admits, _) = absurd (admits.1 c.whole u c.lowest.0)
  shows (refused u) (Err fault) c (inl s, _, _) = absurd (long s.0)
  shows (refused u) (Err fault) c (inr (_, _, (v, lowest, e)), _, _) = ap Err (e ∙ ap HasUpdates (lowest_once es v u lowest c.lowest))

pub answered : Answered
answered m es (consistent o) order order_now steps steps_now r c long kept judges =
    let (k, is, room, here) = shows m es order order_now steps steps_now long (consistent o) r c judges in
    let whole : k ≡ length o = sym (length-take-le k order_now (omega (arith, room, kept))) ∙ ap length here in
    (is ∙ ap (λ n. Ok (Consistent n)) whole, rw (← whole) here)
answered m es (inconsistent v ss) order order_now steps steps_now r c long kept judges =
    let (w, is, holds, first) = shows m es order order_now steps steps_now long (inconsistent v ss) r c judges in
    let up = c.first w _ holds in let down = first v ss c.holds in (w, is, omega arith, λ only. only w _ holds first)
answered m es (refused u) order order_now steps steps_now r c long kept judges =
    shows m es order order_now steps steps_now long (refused u) r c judges
