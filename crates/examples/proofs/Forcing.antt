-- The outcome of a run that is drawn is forced, where the decisions say so.
use Rattle.std.proofs.Common.{◌≡◌, ℕ, ◌≤◌, List, [], length, Some, None, Option, take_all, refl, arith}
use Rattle.std.proofs.Math.Decide.{dec_le}
use Rattle.events.specs.Graph.{PoRf}
use Rattle.events.specs.Relations.{Rel, Acyclic}
use Rattle.events.specs.declared.event.Event.{Event}
use Rattle.models.proofs.Inside.{step_inside}
use Rattle.models.specs.Models.{Hb, rule_of, scope_of}
use Rattle.models.specs.declared.name.ModelName.{ModelName}
use Rattle.models.specs.declared.name.ModelName.TheVariants.{Rc20, Ra, Sra, Wra, Relaxed}
use Rattle.models.specs.declared.scope.Scope.{Scope}
use Rattle.models.specs.declared.scope.Scope.TheVariants.{Location, Whole, Weak}
use Rattle.verdicts.specs.Absent.{NoTwins, NoBack}
use Rattle.verdicts.specs.Layings.{IsLaid}
use Rattle.verdicts.specs.Numbers.{violation_number}
use Rattle.verdicts.specs.Violations.{Violates, IsFirst}
use Rattle.verdicts.specs.declared.step.Step.{Step}
use Rattle.verdicts.specs.declared.violation.Violation.{Violation}
use Rattle.verdicts.specs.declared.violation.Violation.TheVariants as violation
use Rattle.verdicts.specs.declared.verdict.Verdict.TheVariants.{Consistent}
use Rattle.verdicts.proofs.First.{first_causal, first_twin, first_weak, first_back, first_round, first_whole}
use Rattle.judge.specs.Found.{NoneLeft}
use Rattle.judge.specs.Judges.{FitsScope}
use Rattle.judge.proofs.Verdicts.{says, rules_out}
use Rattle.examples.specs.Forced.{ConsistentBy, InconsistentBy, Outcome, Forced, Only}
use Rattle.examples.specs.Forced.Outcome.{consistent, inconsistent, refused}
use Rattle.examples.proofs.Decisions.{dec_and, dec_and3, dec_and4, dec_if}
use Rattle.examples.proofs.Deciding.{dec_no_update, dec_lowest, dec_no_twins, dec_no_weak, dec_no_back, dec_laid, dec_laid_events, dec_scope, dec_nil, dec_violates}
use Rattle.examples.proofs.Drawn.{Drawn, joined, inside, dec_hb, dec_acyclic}
use Rattle.examples.proofs.Alone.{Alone, dec_alone, alone}

-- a proof, where a decision finds what it takes
abbrev pub checked : {A B : Type 0} → Dec A → (A → B) → Option B
checked (yes a) f = Some (f a)
checked (no n) f = None

abbrev pub IsFound : {A : Type 0} → Option A → Type 0
IsFound (Some a) = Unit {0}
IsFound None = ⊥

pub found : {A : Type 0} (o : Option A) → IsFound o → A
found (Some a) t = a
found None t = absurd t

module _ {es : List Event} {f g h : List ℕ} (d : Drawn es f g h) (m : ModelName) where
  abbrev pub hb : Rel
  hb = Hb (rule_of m es) es

  abbrev pub scope : Scope
  scope = scope_of m

  abbrev pub dec_fits : Dec (FitsScope scope es)
  dec_fits = dec_if (dec_scope scope Whole) (dec_no_update es)

  abbrev pub dec_forth : Dec (NoBack es hb)
  dec_forth = dec_no_back es hb (inside d m) (dec_hb d m) f (d.reads)

  -- the order is laid, with nothing left that rules it out
  abbrev pub dec_laid_at : (s : Scope) (o : List ℕ) → Dec (IsLaid s es hb o × NoneLeft s es hb)
  dec_laid_at Location o = dec_and (dec_laid es hb (inside d m) (dec_hb d m) f (d.reads) o) dec_forth
  dec_laid_at Whole o = dec_and (dec_laid_events es hb (inside d m) (dec_hb d m) f (d.reads) o) (yes tt)
  dec_laid_at Weak o = dec_and (dec_nil o) (dec_no_weak es hb (inside d m) (dec_hb d m) f (d.reads))

  -- what keeps violations of earlier kinds out
  abbrev Without : Scope → Violation → Type 0
  Without s v =
      (2 ≤ violation_number v → Acyclic (PoRf es)) × (3 ≤ violation_number v → NoTwins es)
      × ((5 ≤ violation_number v) × (s ≡ Location) → NoBack es hb)

  first : (s : Scope) (v : Violation) (ss : List Step) → Violates s es hb v ss → Without s v → IsFirst s es hb v
  first s (violation.Causal k) ss is w = first_causal es hb s k
  first s (violation.Twin u v) ss is w = first_twin es hb (w.0 (omega arith)) s u v
  first s (violation.Weak u v r) ss is w = first_weak es hb (w.0 (omega arith)) (w.1 (omega arith)) s u v r
  first s violation.Back ss is w = rw (is.1) (first_back es hb (w.0 (omega arith)) (w.1 (omega arith)))
  first s (violation.Round l k) ss is w =
      rw (is.1) (first_round es hb (w.0 (omega arith)) (w.1 (omega arith)) (w.2 (omega arith, is.1)) l k)
  first s (violation.Whole k) ss is w = rw (is.1) (first_whole es hb (w.0 (omega arith)) (w.1 (omega arith)) k)

  pub laid_consistent : (o : List ℕ) →
      (IsLaid scope es hb o × NoneLeft scope es hb) × Acyclic (PoRf es) × NoTwins es × FitsScope scope es → ConsistentBy m es o
  laid_consistent o ((laid, left), causal, single, fits) =
      let all = take_all (length o) o (omega arith) in
      let said =
      says es (d.full) (rule_of m es) (joined m es (d.full)) causal single scope fits hb (λ a b. ((λ p. p), (λ p. p))) o o [] []
      (Consistent (length o)) ((omega arith, rw all laid, refl), left, refl) in
      record { fits = fits; laid = rw all at said.1; order = rw all at said.2; satisfies = rw all at said.3 }

  pub first_inconsistent : (v : Violation) (ss : List Step) → FitsScope scope es × Violates scope es hb v ss × Without scope v →
      InconsistentBy m es v ss
  first_inconsistent v ss (fits, holds, w) =
      record {
        fits = fits;
        holds = holds;
        first = first scope v ss holds w;
        fails = rules_out es (d.full) (rule_of m es) (joined m es (d.full)) scope fits v ss holds;
      }

  abbrev pub IsAlone : Violation → List Step → Type 0
  IsAlone v ss = Alone es hb (inside d m) (dec_hb d m) f (d.reads) v ss

  pub only_one : (v : Violation) (ss : List Step) → InconsistentBy m es v ss → IsAlone v ss → Only m es (inconsistent v ss)
  only_one v ss by is w ts holds first =
      alone es hb (inside d m) (dec_hb d m) f (d.reads) (step_inside es (d.full)) scope v ss is by.holds w ts holds
      (let up = by.first w ts holds in let down = first v ss by.holds in omega arith)

  abbrev pub check : (t : Outcome) → Option (Forced m es t × Only m es t)
  check (consistent o) =
      checked (dec_and4 (dec_laid_at scope o) (dec_acyclic d) (dec_no_twins es) dec_fits) (λ h. (laid_consistent o h, tt))
  check (inconsistent v ss) =
      checked
      (dec_and
      (dec_and3 dec_fits (dec_violates es hb (inside d m) (dec_hb d m) f (d.reads) scope v ss)
      (dec_and3 (dec_if (dec_le 2 (violation_number v)) (dec_acyclic d))
      (dec_if (dec_le 3 (violation_number v)) (dec_no_twins es))
      (dec_if (dec_and (dec_le 5 (violation_number v)) (dec_scope scope Location)) dec_forth)))
      (dec_alone es hb (inside d m) (dec_hb d m) f (d.reads) v ss))
      (λ (h, is). let by = first_inconsistent v ss h in (by, only_one v ss by is))
  check (refused u) =
      checked (dec_and (dec_scope scope Whole) (dec_lowest es u)) (λ (w, l). (record { whole = w; lowest = l }, tt))

module _ {es : List Event} {f g h : List ℕ} (d : Drawn es f g h) where
  -- the outcomes are forced, and of each violation there is no other
  pub outcomes : (outcome : ModelName → Outcome) →
      IsFound (check d Rc20 (outcome Rc20)) → IsFound (check d Ra (outcome Ra)) → IsFound (check d Sra (outcome Sra)) →
      IsFound (check d Wra (outcome Wra)) → IsFound (check d Relaxed (outcome Relaxed)) →
      (m : ModelName) → Forced m es (outcome m) × Only m es (outcome m)
  outcomes outcome rc20 ra sra wra relaxed Rc20 = found _ rc20
  outcomes outcome rc20 ra sra wra relaxed Ra = found _ ra
  outcomes outcome rc20 ra sra wra relaxed Sra = found _ sra
  outcomes outcome rc20 ra sra wra relaxed Wra = found _ wra
  outcomes outcome rc20 ra sra wra relaxed Relaxed = found _ relaxed
