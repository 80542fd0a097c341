-- The words of an answer are those of the outcome that is forced.
use Rattle.std.proofs.Common.{◌≡◌, ℕ, List, [], ◌∷◌, ◌++◌, take, map, codes, decimal, Result, refl, sym, ap, ◌∙◌, arith}
use Rattle.std.specs.List.{join_with_byte, flat_map}
use Rattle.events.specs.Relations.{Rel}
use Rattle.events.specs.Text.{refused_text}
use Rattle.events.specs.declared.event.Event.{Event}
use Rattle.executions.specs.Faults.{fault_code}
use Rattle.executions.specs.declared.fault.CheckerFault.{CheckerFault}
use Rattle.executions.specs.declared.fault.CheckerFault.TheVariants.{HasUpdates}
use Rattle.models.specs.Models.{Hb, rule_of, scope_of}
use Rattle.models.specs.declared.name.ModelName.{ModelName}
use Rattle.models.specs.declared.scope.Scope.{Scope}
use Rattle.verdicts.specs.Numbers.{step_count}
use Rattle.verdicts.specs.Violations.{Violates}
use Rattle.verdicts.specs.declared.step.Step.{Step}
use Rattle.verdicts.specs.declared.verdict.Verdict.{Verdict}
use Rattle.verdicts.specs.declared.violation.Violation.{Violation}
use Rattle.verdicts.specs.declared.violation.Violation.TheVariants as violation
use Rattle.judge.specs.Judges.{Short, Judges}
use Rattle.verdicttext.specs.Text.{space, comma, model_word, order_words, violation_words, answer_words, line_text}
use Rattle.verdicttext.specs.Turns.{turned}
use Rattle.examples.specs.Forced.{Outcome, Forced, Only, ends}
use Rattle.examples.specs.Forced.Outcome.{consistent, inconsistent, refused}
use Rattle.examples.proofs.Ends.{ends_one}
use Rattle.examples.proofs.Judged.{Shows, shows}

-- The words of a violation, of the ends of its steps.
abbrev words_of : Violation → List (ℕ × ℕ) → List (List ℕ)
words_of (violation.Causal k) ps = codes "CAUSAL" ∷ map (λ p. decimal p.0) ps
words_of (violation.Twin u v) ps = codes "TWIN" ∷ (decimal u ∷ (decimal v ∷ []))
words_of (violation.Weak w v r) ps = codes "WEAK" ∷ (decimal w ∷ (decimal v ∷ (decimal r ∷ [])))
words_of violation.Back ps = codes "BACK" ∷ flat_map (λ p. decimal p.0 ∷ (decimal p.1 ∷ [])) ps
words_of (violation.Round l k) ps =
    codes "ROUND" ∷ ((decimal l ++ (codes ":" ++ join_with_byte comma (map (λ p. decimal p.0 ++ (codes ">" ++ decimal p.1)) ps))) ∷ [])
words_of (violation.Whole k) ps = codes "WHOLE" ∷ map (λ p. decimal p.0) ps

of_each : {A : Type 0} (h : ℕ × ℕ → A) (ss : List Step) → map (λ s. h (s.from, s.to)) ss ≡ map h (map (λ s. (s.from, s.to)) ss)
of_each h [] = refl
of_each h (s ∷ ss) = ap (λ l. h (s.from, s.to) ∷ l) (of_each h ss)

words_by_ends : (scope : Scope) (es : List Event) (hb : Rel) (v : Violation) (ss : List Step) → Violates scope es hb v ss →
    violation_words v ss ≡ words_of v (ends ss)
words_by_ends scope es hb (violation.Causal k) ss is = ap (λ l. codes "CAUSAL" ∷ l) (of_each (λ p. decimal p.0) (turned ss))
words_by_ends scope es hb (violation.Twin u v) ss is = refl
words_by_ends scope es hb (violation.Weak w v r) ss is = refl
words_by_ends scope es hb violation.Back [] is = absurd (omega arith)
words_by_ends scope es hb violation.Back (s ∷ []) is = ap (words_of violation.Back) (sym (ends_one s))
words_by_ends scope es hb violation.Back (s ∷ (t ∷ ss)) is = absurd (omega arith)
words_by_ends scope es hb (violation.Round l k) ss is =
    ap (λ x. codes "ROUND" ∷ ((decimal l ++ (codes ":" ++ join_with_byte comma x)) ∷ []))
    (of_each (λ p. decimal p.0 ++ (codes ">" ++ decimal p.1)) (turned ss))
words_by_ends scope es hb (violation.Whole k) ss is = ap (λ l. codes "WHOLE" ∷ l) (of_each (λ p. decimal p.0) (turned ss))

abbrev outcome_words : List Event → Outcome → List (List ℕ)
outcome_words es (consistent o) = codes "consistent" ∷ order_words es o
outcome_words es (inconsistent v ss) = codes "inconsistent" ∷ violation_words v ss
outcome_words es (refused u) = refused_text (fault_code (HasUpdates u)) ∷ []

abbrev pub outcome_line : ModelName → List Event → Outcome → List ℕ
outcome_line m es t = join_with_byte space (model_word m ∷ outcome_words es t) ++ codes "\n"

-- an answer that shows the outcome has its words
shown_words : (m : ModelName) (es : List Event) (order order_now : List ℕ) (steps_now : List Step) (t : Outcome) (r : Result Verdict CheckerFault) →
    Forced m es t → Only m es t → Shows m es order order_now steps_now t r → answer_words es r order_now steps_now ≡ outcome_words es t
shown_words m es order order_now steps_now (consistent o) r by only (k, is, room, here) =
    ap (λ a. answer_words es a order_now steps_now) is ∙ ap (λ l. codes "consistent" ∷ order_words es l) here
shown_words m es order order_now steps_now (inconsistent v ss) r by only (w, is, holds, first) =
    let ts = take (step_count w) steps_now in
    let (same, so) = only w ts holds first in
    let words : violation_words w ts ≡ violation_words v ss =
    words_by_ends (scope_of m) es (Hb (rule_of m es) es) w ts holds
    ∙ ((λ i. words_of (sym same i) (sym so i)) ∙ sym (words_by_ends (scope_of m) es (Hb (rule_of m es) es) v ss by.holds)) in
    ap (λ a. answer_words es a order_now steps_now) is ∙ ap (λ l. codes "inconsistent" ∷ l) words
shown_words m es order order_now steps_now (refused u) r by only is = ap (λ a. answer_words es a order_now steps_now) is

-- so the line of what the judge answers is that of the outcome
pub line_is : (m : ModelName) (es : List Event) (order order_now : List ℕ) (steps steps_now : List Step) (t : Outcome) (r : Result Verdict CheckerFault) →
    Forced m es t → Only m es t → ¬ Short order steps → Judges (scope_of m) (rule_of m es) es order order_now steps steps_now r →
    line_text m es r order_now steps_now ++ codes "\n" ≡ outcome_line m es t
line_is m es order order_now steps steps_now t r by only long judges =
    ap (λ ws. join_with_byte space (model_word m ∷ ws) ++ codes "\n")
    (shown_words m es order order_now steps_now t r by only (shows m es order order_now steps steps_now long t r by judges))
