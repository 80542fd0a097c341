-- The lines of all models, one behind another, are what is printed of a run.
use Rattle.std.proofs.Common.{◌≡◌, ℕ, ◌≤◌, List, [], length, refl, ap, length-append, append-nil, append_assoc, arith}
use Rattle.std.specs.List.{flat_map}
use Rattle.events.specs.declared.event.Event.{Event}
use Rattle.models.specs.Models.{rule_of, scope_of}
use Rattle.models.specs.declared.name.ModelName.{ModelName}
use Rattle.models.specs.declared.name.ModelName.TheVariants.{Rc20, Ra, Sra, Wra, Relaxed}
use Rattle.report.specs.Longest.{longest_report}
use Rattle.report.specs.Report.{IsLine, LineBehind, AreLines, by_number}

module _ (es : List Event) where
  abbrev Behind : ModelName → List ℕ → List ℕ → Type 0
  Behind m old new = LineBehind m (scope_of m) (rule_of m es) es old new

  pub are_lines :
      (t₁ t₂ t₃ t₄ t₅ : List ℕ) → Behind Rc20 [] t₁ → Behind Ra t₁ t₂ → Behind Sra t₂ t₃ → Behind Wra t₃ t₄ → Behind Relaxed t₄ t₅
      → AreLines es t₅ × (length t₅ ≤ longest_report)
  are_lines t₁ t₂ t₃ t₄ t₅ (a, is_a, at_a, few_a) (b, is_b, at_b, few_b) (c, is_c, at_c, few_c) (d, is_d, at_d, few_d) (e, is_e, at_e, few_e) =
      (record { line = line; each = each; all = all }, omega (arith, ap length at_a, ap length at_b, ap length at_c, ap length at_d, ap length at_e, length-append {A = ℕ}, few_a, few_b, few_c, few_d, few_e))
    where
      line : ModelName → List ℕ
      line Rc20 = a
      line Ra = b
      line Sra = c
      line Wra = d
      line Relaxed = e

      each : (m : ModelName) → IsLine m (scope_of m) (rule_of m es) es (line m)
      each Rc20 = is_a
      each Ra = is_b
      each Sra = is_c
      each Wra = is_d
      each Relaxed = is_e

      all : t₅ ≡ flat_map line by_number
      all = rw (at_e, at_d, at_c, at_b, at_a) (simp (append_assoc {A = ℕ}, append-nil {A = ℕ}) refl)
