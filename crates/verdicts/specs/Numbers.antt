-- The numbers of sorts of steps and of kinds of violations, and how many steps show a violation.
use Rattle.std.specs.Prelude.{ℕ}
use Rattle.verdicts.specs.declared.step.Sort.{Sort}
use Rattle.verdicts.specs.declared.step.Sort.TheVariants as sort
use Rattle.verdicts.specs.declared.violation.Violation.{Violation}
use Rattle.verdicts.specs.declared.violation.Violation.TheVariants as violation
use Rattle.verdicts.specs.declared.verdict.Verdict.{Verdict}
use Rattle.verdicts.specs.declared.verdict.Verdict.TheVariants.{Consistent, Inconsistent}

abbrev pub sort_number : Sort → ℕ
sort_number sort.Po = 1
sort_number sort.Rf = 2
sort_number sort.Before = 3
sort_number (sort.Read r) = 4
sort_number sort.Hb = 5

abbrev pub sort_load : Sort → ℕ
sort_load sort.Po = 0
sort_load sort.Rf = 0
sort_load sort.Before = 0
sort_load (sort.Read r) = r
sort_load sort.Hb = 0

abbrev pub violation_number : Violation → ℕ
violation_number (violation.Causal k) = 1
violation_number (violation.Twin u v) = 2
violation_number (violation.Weak w v r) = 3
violation_number violation.Back = 4
violation_number (violation.Round l k) = 5
violation_number (violation.Whole k) = 6

abbrev pub step_count : Violation → ℕ
step_count (violation.Causal k) = k
step_count (violation.Twin u v) = 0
step_count (violation.Weak w v r) = 0
step_count violation.Back = 1
step_count (violation.Round l k) = k
step_count (violation.Whole k) = k

abbrev pub IsConsistent : Verdict → Type 0
IsConsistent (Consistent k) = Unit {0}
IsConsistent (Inconsistent v) = ⊥
