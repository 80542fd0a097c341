-- What is found of a run tells whether some order satisfies the rule.
use Rattle.std.proofs.Common.{◌≡◌, ◌↔◌, inl, inr, ⊎_elim, ℕ, List, length, take, drop, Ok, Err, Some, Option, Result, refl, sym, ap, subst, ◌∙◌, ◌≤◌, arith}
use Rattle.std.proofs.lemmas.Bool.{cases_lt}
use Rattle.std.proofs.lemmas.List.{length-take-le}
use Rattle.events.specs.Limits.{max_events}
use Rattle.events.specs.Run.{FullRun}
use Rattle.events.specs.Graph.{PoRf}
use Rattle.events.specs.declared.event.Event.{Event}
use Rattle.events.specs.Relations.{Rel, ◌⁺, Acyclic}
use Rattle.events.specs.Paths.{path_through}
use Rattle.executions.specs.declared.fault.CheckerFault.{CheckerFault}
use Rattle.models.specs.Joined.{Joined}
use Rattle.models.specs.Models.{Hb, Holds, Satisfies, rule_of, scope_of}
use Rattle.models.specs.Orders.{IsOrder, Mo}
use Rattle.models.specs.declared.axiom.Axiom.{Axiom}
use Rattle.models.specs.declared.axiom.Axiom.TheVariants.{Causality, WriteCoherence, ReadCoherence, Atomicity}
use Rattle.models.specs.declared.name.ModelName.{ModelName}
use Rattle.models.specs.declared.scope.Scope.{Scope}
use Rattle.models.specs.declared.scope.Scope.TheVariants.{Location, Whole, Weak}
use Rattle.causality.proofs.Orders.{path_of_steps, hb_inside}
use Rattle.verdicts.specs.Absent.{NoTwins, NoWeak}
use Rattle.verdicts.specs.Layings.{IsLaid}
use Rattle.verdicts.specs.Violations.{Leads, SameEvent, Cycle, StepHolds, IsPoOrRf, AreTwins, Violates}
use Rattle.verdicts.specs.declared.step.Step.{Step}
use Rattle.verdicts.specs.declared.violation.Violation.TheVariants as violation
use Rattle.verdicts.specs.declared.verdict.Verdict.{Verdict}
use Rattle.verdicts.specs.declared.verdict.Verdict.TheVariants.{Consistent, Inconsistent}
use Rattle.verdicts.proofs.ChainsSatisfy.{chains_satisfy}
use Rattle.verdicts.proofs.EventsSatisfy.{events_satisfy}
use Rattle.verdicts.proofs.Excluded.{violation_excludes}
use Rattle.verdicts.proofs.First.{first_causal, first_twin}
use Rattle.verdicts.proofs.Same.{cycle_same, before_more, reads_more, violates_more, first_same, laid_same}
use Rattle.judge.specs.Found.{NoneLeft, Concludes}
use Rattle.toposort.specs.Listing.{Ordered}
use Rattle.chains.proofs.Orders.{order_causal}
use Rattle.judge.specs.Judges.{Short, NoUpdate, Says, Judges, JudgesUnder, Decides, RulesOut}

-- steps of program order and reads-from are the same under any happens-before
any_causal_step : (es : List Event) (hb other : Rel) (s : Step) → StepHolds IsPoOrRf es hb s → StepHolds IsPoOrRf es other s
any_causal_step es hb other s (inl e, l) = (inl e, subst (λ x. Leads es other x s.from s.to) (sym e) (subst (λ x. Leads es hb x s.from s.to) e l))
any_causal_step es hb other s (inr e, l) = (inr e, subst (λ x. Leads es other x s.from s.to) (sym e) (subst (λ x. Leads es hb x s.from s.to) e l))

module _ (es : List Event) (full : FullRun es) (sw : Rel) (joined : Joined es sw) where
  pub hb_path : (a b : ℕ) → Hb sw es a b → (PoRf es ⁺) a b
  hb_path a b p = path_through (path_of_steps es sw joined) p

  pub rules_out : (scope : Scope) → RulesOut scope sw es
  rules_out scope admits v ss is (o, order, all) = violation_excludes es full sw hb_path scope admits v ss is o order all

  module _ (causal : Acyclic (PoRf es)) (single : NoTwins es) (scope : Scope) (admits : scope ≡ Whole → NoUpdate es) where
    laid_order : (s : Scope) (o : List ℕ) → IsLaid s es (Hb sw es) o → IsOrder s es o
    laid_order Location o l = l.lists
    laid_order Whole o (l, t, off) = off.lists
    laid_order Weak o e = e

    weak_satisfied : NoWeak es (Hb sw es) → (mo : Rel) (x : Axiom) → Holds x Weak es (Hb sw es) mo
    weak_satisfied none mo Causality = causal
    weak_satisfied none mo WriteCoherence = tt
    weak_satisfied none mo ReadCoherence = λ w (v, (h, there), (u, (e, s), (r, k, f))).
        none w v r f (h, subst (λ z. Hb sw es z r) (sym e) k, s, there)
    weak_satisfied none mo Atomicity = λ u v w a b differs f k. differs (single u v w a b f k)

    satisfied : (s : Scope) → (s ≡ Whole → NoUpdate es) → (o : List ℕ) → IsLaid s es (Hb sw es) o → NoneLeft s es (Hb sw es) → Satisfies s sw es (Mo es o)
    satisfied Location none o l back = chains_satisfy es (Hb sw es) hb_path causal o l back
    satisfied Whole none o l left = events_satisfy es (Hb sw es) causal o (none refl) l (hb_inside es full sw joined)
    satisfied Weak none o l left = weak_satisfied left (Mo es o)

    module _ (hb : Rel) (same : (a b : ℕ) → hb a b ↔ Hb sw es a b) where
      none_left : (s : Scope) → NoneLeft s es hb → NoneLeft s es (Hb sw es)
      none_left Location back = λ a b s. back a b (⊎_elim (λ t. inl (before_more es (Hb sw es) hb (λ x y. (same x y).1) a b t)) (λ t. inr (reads_more es (Hb sw es) hb (λ x y. (same x y).1) a b t)) s)
      none_left Whole left = tt
      none_left Weak none = λ w v r f (h, k, s, there). none w v r f ((same w v).1 h, (same v r).1 k, s, there)

      pub says : (order order_now : List ℕ) (steps steps_now : List Step) (verdict : Verdict) → Concludes scope es hb order order_now steps steps_now verdict → Says scope sw es order order_now steps steps_now verdict
      says order order_now steps steps_now (Consistent k) ((fits, laid, rest), left, kept) =
          let l = laid_same es hb (Hb sw es) (λ a b. (same a b).0) (λ a b. (same a b).1) scope (take k order_now) laid in
          let is = laid_order scope (take k order_now) l in
          let all = satisfied scope admits (take k order_now) l (none_left scope left) in
          (fits, l, is, all, rest, kept, λ v ss broken. violation_excludes es full sw hb_path scope admits v ss broken (take k order_now) is all)
      says order order_now steps steps_now (Inconsistent v) ((fits, broken, first, rest), kept) =
          let b = violates_more es hb (Hb sw es) (λ a b. (same a b).0) scope v _ broken in
          (fits, b, first_same es hb (Hb sw es) (λ a b. (same a b).0) (λ a b. (same a b).1) scope v first, rules_out scope admits v _ b, rest, kept)

  -- causality is broken
  module _ (scope : Scope) (admits : scope ≡ Whole → NoUpdate es) (order order_now : List ℕ) (kept : order_now ≡ order) (steps steps_now : List Step) where
    pub says_causal : (k : ℕ) → k ≤ length steps → k ≤ length steps_now → drop k steps_now ≡ drop k steps → Cycle SameEvent (StepHolds IsPoOrRf es (PoRf es)) (take k steps_now) → Says scope sw es order order_now steps steps_now (Inconsistent (violation.Causal k))
    says_causal k fits fits_now rest c =
        let b : Violates scope es (Hb sw es) (violation.Causal k) (take k steps_now) =
        (length-take-le k steps_now fits_now, cycle_same SameEvent _ _ (any_causal_step es (PoRf es) (Hb sw es)) _ c) in
        (fits, b, first_causal es (Hb sw es) scope k, rules_out scope admits (violation.Causal k) _ b, rest, kept)

    pub says_twin : Acyclic (PoRf es) → (u v : ℕ) → AreTwins es u v → steps_now ≡ steps → Says scope sw es order order_now steps steps_now (Inconsistent (violation.Twin u v))
    says_twin causal u v twins same =
        let b : Violates scope es (Hb sw es) (violation.Twin u v) (take 0 steps_now) = (refl, twins) in
        (omega arith, b, first_twin es (Hb sw es) causal scope u v, rules_out scope admits (violation.Twin u v) _ b, same, kept)

pub decided : (scope : Scope) (sw : Rel) (es : List Event) (order order_now : List ℕ) (steps steps_now : List Step) (r : Result Verdict CheckerFault) → Judges scope sw es order order_now steps steps_now r → Decides scope sw es r
decided scope sw es order order_now steps steps_now (Ok (Consistent k)) (admits, (fits, laid, is, all, rest, kept, absent)) = (λ _. (take k order_now, is, all), λ _. tt)
decided scope sw es order order_now steps steps_now (Ok (Inconsistent v)) (admits, (fits, broken, first, none, rest, kept)) = (λ e. absurd e, λ allowed. absurd (none allowed))
decided scope sw es order order_now steps steps_now (Err fault) refused = tt

-- no event is joined to itself by program order or reads-from
pub step_strict : (es : List Event) → FullRun es → (a : ℕ) → ¬ PoRf es a a
step_strict es full a (inl p) = let less = p.3 in omega arith
step_strict es full a (inr f) = let fits = (full.linked a (f.0.0)).reads (f.0.1) in fits.other (f.1)

-- what is found at the scope of the model, of the same run under another name
pub says_at : (es run_es : List Event) → run_es ≡ es → FullRun es → (sw : Rel) → Joined es sw → (order : List ℕ) → Ordered (length es) (PoRf es) order → NoTwins run_es → (scope s : Scope) → scope ≡ s → (scope ≡ Whole → NoUpdate es) → (hb : Rel) → ((a b : ℕ) → hb a b ↔ Hb sw es a b) →
    (laid laid_now : List ℕ) (steps steps_now : List Step) (verdict : Verdict) → Concludes s run_es hb laid laid_now steps steps_now verdict → Says scope sw es laid laid_now steps steps_now verdict
says_at es run_es e full sw joined order ordered single scope s is admits hb same laid laid_now steps steps_now verdict finds =
    says es full sw joined (order_causal es full order ordered) (subst NoTwins e single) scope admits hb same laid laid_now steps steps_now verdict
    (subst (λ x. Concludes x es hb laid laid_now steps steps_now verdict) (sym is) (subst (λ x. Concludes s x hb laid laid_now steps steps_now verdict) e finds))

-- long enough for the steps of any cycle
pub room_for : (order : List ℕ) (steps : List Step) → ¬ Short order steps → max_events ≤ length steps
room_for order steps long = ⊎_elim (λ less. absurd (long (inr less))) (λ ge. ge) (cases_lt (length steps) max_events)

-- what is judged under the model that a number names
pub named : (n : Option ModelName) (k m : ModelName) (es : List Event) (order order_now : List ℕ) (steps steps_now : List Step) (r : Result Verdict CheckerFault) →
    Some k ≡ n → k ≡ m → Judges (scope_of m) (rule_of m es) es order order_now steps steps_now r → JudgesUnder n es order order_now steps steps_now r
named n k m es order order_now steps steps_now r is same j = subst (λ x. JudgesUnder x es order order_now steps steps_now r) (ap Some (sym same) ∙ is) j
