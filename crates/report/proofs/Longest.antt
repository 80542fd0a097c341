-- No line of a judge's answer is longer than the longest.
use Rattle.std.proofs.Common.{ℕ, ◌+◌, ◌*◌, ◌<◌, ◌≤◌, List, ◌∷◌, length, take, decimal, Ok, Err, inl, inr, Result, sym, subst, length-append, arith}
use Rattle.std.specs.Prelude.{slice_index}
use Rattle.std.proofs.lemmas.Fmt.{length-decimal-le}
use Rattle.std.proofs.lemmas.List.Elements.{All-from_get_or}
use Rattle.events.specs.Limits.{max_events}
use Rattle.events.specs.Run.{Update, Store, FullRun}
use Rattle.events.specs.Graph.{Inside}
use Rattle.events.specs.Text.{refused_text}
use Rattle.events.specs.declared.event.Event.{Event}
use Rattle.events.specs.Relations.{Rel}
use Rattle.executions.specs.Faults.{fault_code}
use Rattle.executions.specs.declared.fault.CheckerFault.{CheckerFault}
use Rattle.toposort.proofs.Pigeons.{pigeons}
use Rattle.models.specs.Models.{Hb}
use Rattle.models.specs.Orders.{ListsStores, IsOrder}
use Rattle.models.specs.declared.name.ModelName.{ModelName}
use Rattle.models.specs.declared.name.ModelName.TheVariants.{Rc20, Ra, Sra, Wra, Relaxed}
use Rattle.models.specs.declared.scope.Scope.{Scope}
use Rattle.models.specs.declared.scope.Scope.TheVariants.{Location, Whole, Weak}
use Rattle.verdicts.specs.Numbers.{step_count}
use Rattle.verdicts.specs.declared.step.Step.{Step}
use Rattle.verdicts.specs.declared.verdict.Verdict.{Verdict}
use Rattle.verdicts.specs.declared.verdict.Verdict.TheVariants.{Consistent, Inconsistent}
use Rattle.judge.specs.Judges.{Refuses, Judges}
use Rattle.verdicttext.specs.Text.{space, model_word, order_words, answer_words, line_text}
use Rattle.report.specs.Longest.{longest_line}
use Rattle.report.proofs.Room.{room, joined_fits}
use Rattle.report.proofs.Digits.{event_digits}
use Rattle.report.proofs.Inside.{happens_inside}
use Rattle.report.proofs.OrderRoom.{order_room}
use Rattle.report.proofs.ViolationRoom.{violation_room}

model_fits : (m : ModelName) → length (model_word m) ≤ 7
model_fits Rc20 = omega arith
model_fits Ra = omega arith
model_fits Sra = omega arith
model_fits Wra = omega arith
model_fits Relaxed = omega arith

-- a refusal, of which the number has two digits at most and the place three
refused_fits : (number place : ℕ) → number < 100 → length (decimal place) ≤ 3 → length (refused_text (number, place)) ≤ 14
refused_fits number place low few =
    let digits = length-decimal-le 2 number (omega arith) low (omega arith) in
    simp length-append (omega arith)

module _ (es : List Event) (full : FullRun es) where
  -- no store stands twice, so there are no more than events
  listed_room : (o : List ℕ) → ListsStores es o → room (order_words es o) ≤ 8 * max_events
  listed_room o l =
      let few = full.few in
      let each = pigeons (length es) (length o) (slice_index o) (λ i lt. (l.stores i lt).0) l.once in
      let fits = order_room es full o (All-from_get_or (Store es) o 0 l.stores) in
      omega arith

  ordered_room : (scope : Scope) (o : List ℕ) → IsOrder scope es o → room (order_words es o) ≤ 8 * max_events
  ordered_room Location o l = listed_room o l
  ordered_room Whole o l = listed_room o l
  ordered_room Weak o none = subst (λ p. room (order_words es p) ≤ 8 * max_events) (sym none) (omega arith)

  update_fits : (u : ℕ) → Update es u → length (refused_text (24, u)) ≤ 14
  update_fits u is = refused_fits 24 u (omega arith) (event_digits es full u (is.0))

  fault_fits : (scope : Scope) (order : List ℕ) (steps : List Step) (f : CheckerFault) → Refuses scope es order steps f
      → length (refused_text (fault_code f)) ≤ 14
  fault_fits scope order steps f (inl (short, is)) =
      subst (λ x. length (refused_text (fault_code x)) ≤ 14) (sym is) (refused_fits 9 0 (omega arith) (length-decimal-le 3 0 (omega arith) (omega arith) (omega arith)))
  fault_fits scope order steps f (inr (_, _, (u, lowest, is))) =
      subst (λ x. length (refused_text (fault_code x)) ≤ 14) (sym is) (update_fits u (lowest.0))

  module _ (scope : Scope) (sw : Rel) (inside : Inside es sw) where
    -- all words but the model's
    answer_room : (order order_now : List ℕ) (steps steps_now : List Step) (r : Result Verdict CheckerFault)
        → length steps ≤ max_events → Judges scope sw es order order_now steps steps_now r
        → room (answer_words es r order_now steps_now) ≤ 8 * max_events + 30
    answer_room order order_now steps steps_now (Ok (Consistent k)) few (admits, says) =
        let fits = ordered_room scope (take k order_now) (says.2) in
        omega arith
    answer_room order order_now steps steps_now (Ok (Inconsistent v)) few (admits, says) =
        let fits = violation_room es full (Hb sw es) (happens_inside es sw inside) scope v (take (step_count v) steps_now) (says.1) in
        let room_for = says.0 in
        omega arith
    answer_room order order_now steps steps_now (Err f) few (refuses, kept, unwritten) =
        let fits = fault_fits scope order steps f refuses in
        omega arith

    -- under any rule that joins events of the run, at any scope
    pub line_fits : (m : ModelName) (order order_now : List ℕ) (steps steps_now : List Step) (r : Result Verdict CheckerFault)
        → length steps ≤ max_events → Judges scope sw es order order_now steps steps_now r
        → length (line_text m es r order_now steps_now) ≤ longest_line
    line_fits m order order_now steps steps_now r few judged =
        let joined = joined_fits space (model_word m ∷ answer_words es r order_now steps_now) in
        let model = model_fits m in
        let answer = answer_room order order_now steps steps_now r few judged in
        omega arith
