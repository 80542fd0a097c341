-- A line, as it is written: its model, what the answer is, and the rest.
use Rattle.std.proofs.Common.{◌≡◌, ℕ, List, ◌++◌, ◌∷◌, Result, Ok, codes, take, refl, ap, ◌∙◌}
use Rattle.std.specs.List.{flat_map, join_with_byte}
use Rattle.events.specs.declared.event.Event.{Event}
use Rattle.executions.specs.declared.fault.CheckerFault.{CheckerFault}
use Rattle.models.specs.declared.name.ModelName.{ModelName}
use Rattle.verdicts.specs.Numbers.{step_count}
use Rattle.verdicts.specs.declared.step.Step.{Step}
use Rattle.verdicts.specs.declared.verdict.Verdict.{Verdict}
use Rattle.verdicts.specs.declared.verdict.Verdict.TheVariants.{Consistent, Inconsistent}
use Rattle.verdicts.specs.declared.violation.Violation.{Violation}
use Rattle.verdicts.specs.declared.violation.Violation.TheVariants.{Causal, Twin, Weak, Back, Round, Whole}
use Rattle.verdicttext.specs.Text.{space, marked, model_word, order_words, line_text, violation_words}
use Rattle.verdicttext.proofs.Words.{joined_from_first}

after_inconsistent : (v : Violation) (ss : List Step)
    → join_with_byte space (codes "inconsistent" ∷ violation_words v ss) ≡ codes "inconsistent " ++ join_with_byte space (violation_words v ss)
after_inconsistent (Causal k) ss = refl
after_inconsistent (Twin u v) ss = refl
after_inconsistent (Weak w v r) ss = refl
after_inconsistent Back ss = refl
after_inconsistent (Round l k) ss = refl
after_inconsistent (Whole k) ss = refl

module _ (m : ModelName) (es : List Event) (answer : Result Verdict CheckerFault) (o : List ℕ) (ss : List Step) (word : List ℕ)
    (named : word ≡ model_word m) where
  pub consistent_line : (k : ℕ) (stores : List ℕ) → answer ≡ Ok (Consistent k) → stores ≡ take k o
      → line_text m es answer o ss ≡ word ++ (codes " consistent" ++ flat_map (marked space) (order_words es stores))
  consistent_line k stores is shown =
      ap (λ a. line_text m es a o ss) is
      ∙ (ap (λ l. model_word m ++ (space ∷ l)) (joined_from_first space (codes "consistent") (order_words es (take k o)))
      ∙ rw (named, shown) refl)

  pub inconsistent_line : (v : Violation) (steps : List Step) → answer ≡ Ok (Inconsistent v) → steps ≡ take (step_count v) ss
      → line_text m es answer o ss ≡ word ++ (codes " inconsistent " ++ join_with_byte space (violation_words v steps))
  inconsistent_line v steps is shown =
      ap (λ a. line_text m es a o ss) is
      ∙ (ap (λ l. model_word m ++ (space ∷ l)) (after_inconsistent v (take (step_count v) ss)) ∙ rw (named, shown) refl)
