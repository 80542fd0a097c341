-- What is printed of the log of a run whose outcomes are forced.
use Rattle.std.proofs.Common.{◌≡◌, inl, inr, ℕ, List, Ok, Err, ap, subst, ◌∙◌, arith}
use Rattle.std.specs.List.{flat_map}
use Rattle.std.proofs.lemmas.List.{length-replicate}
use Rattle.events.specs.Limits.{max_events}
use Rattle.events.specs.Run.{FullRun}
use Rattle.events.specs.declared.event.Event.{Event}
use Rattle.models.specs.Models.{rule_of, scope_of}
use Rattle.models.specs.declared.name.ModelName.{ModelName}
use Rattle.models.specs.declared.name.ModelName.TheVariants.{Rc20, Ra, Sra, Wra, Relaxed}
use Rattle.verdicts.specs.declared.step.Sort.TheVariants.{Po}
use Rattle.verdicts.specs.declared.step.Step.{Step}
use Rattle.judge.specs.Judges.{Short}
use Rattle.checker.specs.Promise.{new_order, new_steps}
use Rattle.runlog.specs.Reading.{reading}
use Rattle.runlog.specs.Spelling.{spelling}
use Rattle.runlog.proofs.Laws.{reading_from_spelled}
use Rattle.runlog.proofs.Outcomes.{fault_is}
use Rattle.report.specs.Report.{IsLine, AreLines, IsPrinted, by_number}
use Rattle.report.specs.Report.IsPrinted.{refused, judged}
use Rattle.examples.specs.Forced.{Outcome, Forced, Only, Example}
use Rattle.examples.proofs.Drawn.{Drawn}
use Rattle.examples.proofs.Forcing.{check, IsFound, outcomes}
use Rattle.examples.proofs.Printing.{outcome_line, line_is}

abbrev pub outcome_text : List Event → (ModelName → Outcome) → List ℕ
outcome_text es outcome = flat_map (λ m. outcome_line m es (outcome m)) by_number

long : ¬ Short new_order new_steps
long (inl less) = absurd (omega (arith, length-replicate {A = ℕ} max_events 0))
long (inr less) = absurd (omega (arith, length-replicate {A = Step} max_events (record { from = 0; to = 0; sort = Po })))

module _ (es : List Event) (full : FullRun es) (outcome : ModelName → Outcome) (is : (m : ModelName) → Forced m es (outcome m) × Only m es (outcome m)) where
  each_line : (m : ModelName) (line : List ℕ) → IsLine m (scope_of m) (rule_of m es) es line → line ≡ outcome_line m es (outcome m)
  each_line m line l =
      let (by, only) = is m in
      l.text
      ∙ line_is m es new_order l.order_now new_steps l.steps_now (outcome m) l.checked.verdict by only long l.promise.verdict.judges

  lines_are : (t : List ℕ) → AreLines es t → t ≡ outcome_text es outcome
  lines_are t a = a.all ∙ ap (λ line. flat_map line by_number) (λ i m. each_line m (a.line m) (a.each m) i)

  pub printed : (s : List ℕ) → s ≡ spelling es → (t : List ℕ) → IsPrinted s t → t ≡ outcome_text es outcome
  printed s spells t (refused {f} fault) =
      let reads : reading s ≡ Ok es = reading_from_spelled s es full spells in
      let fails : reading s ≡ Err f = fault_is s fault in absurd (cc)
  printed s spells t (judged {es = others} same whole lines) =
      let reads : reading s ≡ Ok es = reading_from_spelled s es full spells in
      let again : reading s ≡ Ok others = reading_from_spelled s others whole same in
      let one : others ≡ es = cc in lines_are t (subst (λ x. AreLines x t) one lines)

module _ {es : List Event} {f g h : List ℕ} (d : Drawn es f g h) where
  pub example : (outcome : ModelName → Outcome) →
      IsFound (check d Rc20 (outcome Rc20)) → IsFound (check d Ra (outcome Ra)) → IsFound (check d Sra (outcome Sra)) →
      IsFound (check d Wra (outcome Wra)) → IsFound (check d Relaxed (outcome Relaxed)) →
      (text : List ℕ) → outcome_text es outcome ≡ text → (s : List ℕ) → s ≡ spelling es → Example es s outcome text
  example outcome rc20 ra sra wra relaxed text shown s spells =
      let is = outcomes d outcome rc20 ra sra wra relaxed in
      record {
        full = d.full;
        spells = spells;
        forced = λ m. (is m).0;
        only = λ m. (is m).1;
        printed = λ t p. printed es (d.full) outcome is s spells t p ∙ shown;
      }
