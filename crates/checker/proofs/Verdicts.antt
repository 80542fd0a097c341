-- What is so of orders is so of the verdicts that a judge gives.
use Rattle.std.proofs.Common.{◌≡◌, ◌↔◌, ℕ, ◌≤◌, List, length, take, Ok, sym, subst, ap, ◌∙◌, arith}
use Rattle.std.proofs.lemmas.List.{length-take-le}
use Rattle.events.specs.Relations.{Rel}
use Rattle.events.specs.Run.{FullRun}
use Rattle.events.specs.declared.event.Event.{Event}
use Rattle.models.specs.Models.{Hb, rc20_rule, reads_from_rule, empty_rule, rule_of, scope_of}
use Rattle.models.specs.Orders.{Mo}
use Rattle.models.specs.declared.name.ModelName.{ModelName}
use Rattle.models.specs.declared.name.ModelName.TheVariants.{Rc20, Ra, Sra, Wra, Relaxed}
use Rattle.models.specs.declared.scope.Scope.TheVariants.{Location}
use Rattle.models.proofs.Less.{holds_less}
use Rattle.verdicts.specs.Numbers.{IsConsistent}
use Rattle.verdicts.specs.Layings.{LaysChains}
use Rattle.verdicts.specs.Violations.{Violates}
use Rattle.verdicts.specs.declared.step.Step.{Step}
use Rattle.verdicts.specs.declared.violation.Violation.{Violation}
use Rattle.verdicts.specs.declared.verdict.Verdict.{Verdict}
use Rattle.verdicts.specs.declared.verdict.Verdict.TheVariants.{Consistent, Inconsistent}
use Rattle.verdicts.proofs.OneLaid.{one_laid}
use Rattle.verdicts.proofs.Same.{laid_same, violates_more}
use Rattle.judge.specs.Judges.{Allowed, Judges}
use Rattle.judge.proofs.Verdicts.{decided}
use Rattle.views.specs.Laws.{SameButModes}
use Rattle.views.specs.Views.{strengthened, relaxed}
use Rattle.checker.specs.Related.{AllowedBy, Judgement, JudgementBy, Implies, SameVerdict, GivesAs, Related}
use Rattle.checker.proofs.Weaker.{sra_ra, ra_wra, ra_rc20, rc20_relaxed}
use Rattle.checker.proofs.Alike.{alike_turned, order_alike, holds_alike, violates_alike, laid_alike}
use Rattle.checker.proofs.HappensBefore.{strengthened_alike, relaxed_alike, strengthened_hb, ra_hb, relaxed_hb, empty_hb}

-- a verdict says consistent exactly where some order satisfies the model
pub says_allowed : (m : ModelName) (es : List Event) (j : Judgement) (v : Verdict) → JudgementBy m es j → j.answer ≡ Ok v → IsConsistent v ↔ AllowedBy m es
says_allowed m es j v by e =
    decided (scope_of m) (rule_of m es) es j.order j.order_now j.steps j.steps_now (Ok v)
    (subst (λ r. Judges (scope_of m) (rule_of m es) es j.order j.order_now j.steps j.steps_now r) e by)

pub implies : (m n : ModelName) (es : List Event) → (AllowedBy m es → AllowedBy n es) → Implies m n es
implies m n es to =
    record {
      allowed = to;
      verdicts = λ j k v w by on e f is. (says_allowed n es k w on f).1 (to ((says_allowed m es j v by e).0 is));
    }

-- at location scope, over runs that differ in modes only, with the same happens-before
module _ (fs es : List Event) (s : SameButModes fs es) (from to : Rel) (there : (a b : ℕ) → Hb from fs a b → Hb to es a b) (back : (a b : ℕ) → Hb to es a b → Hb from fs a b) where
  allowed_there : Allowed Location from fs → Allowed Location to es
  allowed_there (o, is, all) =
      (o, order_alike fs es s o is, λ x. holds_less es (Mo es o) (Hb from fs) (Hb to es) back x Location (holds_alike fs es s (Hb from fs) o x (all x)))

  laid_there : (o : List ℕ) → LaysChains fs (Hb from fs) o → LaysChains es (Hb to es) o
  laid_there o l = laid_same es (Hb from fs) (Hb to es) there back Location o (laid_alike fs es s (Hb from fs) o l)

  violates_there : (v : Violation) (ss : List Step) → Violates Location fs (Hb from fs) v ss → Violates Location es (Hb to es) v ss
  violates_there v ss b = violates_more es (Hb from fs) (Hb to es) there Location v ss (violates_alike fs es s (Hb from fs) Location v ss b)

-- two buffers that begin with the same entries, so many of each
same_heads : (now then : List ℕ) (k l : ℕ) → k ≤ length now → l ≤ length then → take k now ≡ take l then → (k ≡ l) × (take k now ≡ take l then)
same_heads now then k l fits fits_then heads = (sym (length-take-le k now fits) ∙ (ap length heads ∙ length-take-le l then fits_then), heads)

module _ (fs es : List Event) (s : SameButModes fs es) (from to : Rel) (there : (a b : ℕ) → Hb from fs a b → Hb to es a b) (back : (a b : ℕ) → Hb to es a b → Hb from fs a b) where
  abbrev t : SameButModes es fs
  t = alike_turned fs es s

  module _ (order now : List ℕ) (e : length now ≡ length order) (order₂ then : List ℕ) (f : length then ≡ length order₂) (steps steps_now steps₂ steps_then : List Step) where
    same_verdict : (v w : Verdict) → Judges Location from fs order now steps steps_now (Ok v) → Judges Location to es order₂ then steps₂ steps_then (Ok w) → SameVerdict v now w then
    same_verdict (Consistent k) (Consistent l) (admits, (fits, laid, is, all, rest, kept, none)) (admits₂, (fits₂, laid₂, is₂, all₂, rest₂, kept₂, none₂)) =
        same_heads now then k l (omega (arith, fits, e)) (omega (arith, fits₂, f)) (one_laid Location es (Hb to es) (take k now) (take l then) (laid_there fs es s from to there back (take k now) laid) laid₂)
    same_verdict (Consistent k) (Inconsistent w) (admits, (fits, laid, is, all, rest, kept, none)) (admits₂, (fits₂, broken, first, fails, rest₂, kept₂)) =
        absurd (fails (allowed_there fs es s from to there back (take k now, is, all)))
    same_verdict (Inconsistent v) (Consistent l) (admits, (fits, broken, first, fails, rest, kept)) (admits₂, (fits₂, laid₂, is₂, all₂, rest₂, kept₂, none₂)) =
        absurd (fails (allowed_there es fs t to from back there (take l then, is₂, all₂)))
    same_verdict (Inconsistent v) (Inconsistent w) (admits, (fits, broken, first, fails, rest, kept)) (admits₂, (fits₂, broken₂, first₂, fails₂, rest₂, kept₂)) =
        let less = first w _ (violates_there es fs t to from back there w _ broken₂) in
        let more = first₂ v _ (violates_there fs es s from to there back v _ broken) in
        omega (arith, less, more)

  same_verdicts : (j k : Judgement) (v w : Verdict) → Judges Location from fs j.order j.order_now j.steps j.steps_now j.answer → Judges Location to es k.order k.order_now k.steps k.steps_now k.answer →
      j.answer ≡ Ok v → k.answer ≡ Ok w → SameVerdict v j.order_now w k.order_now
  same_verdicts j k v w by on e f =
      same_verdict j.order j.order_now j.order_length k.order k.order_now k.order_length j.steps j.steps_now k.steps k.steps_now v w
      (subst (λ r. Judges Location from fs j.order j.order_now j.steps j.steps_now r) e by) (subst (λ r. Judges Location to es k.order k.order_now k.steps k.steps_now r) f on)

  -- of any two models with these rules at location scope
  pub gives : (Allowed Location from fs ↔ Allowed Location to es) × ((o : List ℕ) → LaysChains fs (Hb from fs) o ↔ LaysChains es (Hb to es) o) ×
      ((j k : Judgement) (v w : Verdict) → Judges Location from fs j.order j.order_now j.steps j.steps_now j.answer → Judges Location to es k.order k.order_now k.steps k.steps_now k.answer →
      j.answer ≡ Ok v → k.answer ≡ Ok w → SameVerdict v j.order_now w k.order_now)
  gives = (
    (allowed_there fs es s from to there back, allowed_there es fs t to from back there),
    λ o. (laid_there fs es s from to there back o, laid_there es fs t to from back there o),
    same_verdicts,
  )

pub related : (es : List Event) → FullRun es → Related es
related es full =
    record {
      sra_ra = implies Sra Ra es (sra_ra es full);
      ra_wra = implies Ra Wra es (ra_wra es full);
      ra_rc20 = implies Ra Rc20 es (ra_rc20 es full);
      rc20_relaxed = implies Rc20 Relaxed es (rc20_relaxed es full);
      through_strengthened = through_strengthened;
      through_relaxed = through_relaxed;
    }
  where
    through_strengthened : GivesAs Rc20 Ra (strengthened es) es
    through_strengthened =
        let g = gives (strengthened es) es (alike_turned es (strengthened es) (strengthened_alike es)) (rc20_rule (strengthened es)) (reads_from_rule es) (strengthened_hb es full) (ra_hb es full) in
        record { allowed = g.0; laid = g.1; verdicts = g.2 }

    through_relaxed : GivesAs Rc20 Relaxed (relaxed es) es
    through_relaxed =
        let g = gives (relaxed es) es (alike_turned es (relaxed es) (relaxed_alike es)) (rc20_rule (relaxed es)) (empty_rule es) (relaxed_hb es full) (empty_hb es full) in
        record { allowed = g.0; laid = g.1; verdicts = g.2 }
