-- A line is written behind what stands there, and finds room.
use Rattle.std.proofs.Common.{◌≡◌, ℕ, ◌+◌, ◌≤◌, List, [], ◌++◌, length, drop, Ok, Err, IsOk, Result, refl, ap, subst, ◌∙◌, length-append, arith}
use Rattle.std.proofs.lemmas.List.{length-replicate}
use Rattle.std.specs.Prelude.{codes}
use Rattle.events.specs.Graph.{Inside}
use Rattle.events.specs.Limits.{max_events}
use Rattle.events.specs.Relations.{Rel}
use Rattle.events.specs.Run.{FullRun}
use Rattle.events.specs.declared.event.Event.{Event}
use Rattle.events.specs.declared.raw.RawEvent.{RawEvent}
use Rattle.models.specs.declared.name.ModelName.{ModelName}
use Rattle.models.specs.declared.scope.Scope.{Scope}
use Rattle.sessions.specs.Recording.{most_calls, recording, recorded, Records}
use Rattle.sessions.specs.Replayed.{carried, Replayed}
use Rattle.sessions.specs.declared.calls.Answer.{Answer}
use Rattle.sessions.specs.declared.calls.Answer.TheVariants.{Barred}
use Rattle.sessions.specs.declared.calls.Call.{Call}
use Rattle.verdicts.specs.declared.step.Sort.TheVariants.{Po}
use Rattle.verdicts.specs.declared.step.Step.{Step}
use Rattle.checker.specs.Promise.{Promise, new_order, new_steps}
use Rattle.checker.specs.declared.checked.Checked.{Checked}
use Rattle.verdicttext.specs.Text.{line_text}
use Rattle.writing.specs.declared.put.Full.{Full}
use Rattle.report.specs.Longest.{longest_line, longest_report}
use Rattle.report.specs.Report.{Begins, new_memory, new_answers, LineBehind}
use Rattle.report.proofs.Longest.{line_fits}

-- what finds room is written
pub written : (n : ℕ) (t old new : List ℕ) (r : Result (Unit {0}) Full) → length old + length t ≤ n → Begins n t old new r → IsOk r × (new ≡ old ++ t)
written n t old new (Ok u) room began = (refl, began)
written n t old new (Err x) room began = absurd (omega (arith, began, room))

-- the record obeys the calls that record the run
obeyed : (es : List Event) → Records es → (memory_now others_now : List RawEvent) (answers_now : List Answer)
    → Replayed (recording es) new_memory memory_now [] others_now new_answers answers_now → answers_now ≡ recorded es ++ drop (length (recording es)) new_answers
obeyed es records memory_now others_now answers_now r =
    let all : carried (recording es) new_answers ≡ length (recording es) = omega (arith, records.few, length-replicate {A = Answer} most_calls Barred) in
    let room : max_events ≤ length new_memory = omega (arith, length-replicate {A = RawEvent} max_events (record { thread = 0; kind = 0; mode = 0; location = 0; writer = 0 })) in
    rw all at r.answers ∙ ap (λ told. told ++ drop (length (recording es)) new_answers) (records.answers (length new_memory) 0 room)

-- so is the line of an answer of `check`
module _ (es : List Event) (full : FullRun es) (scope : Scope) (sw : Rel) (inside : Inside es sw) (records : Records es) (calls : List Call) (are : calls ≡ recording es) (m : ModelName) where
  pub line_behind :
      (memory_now others_now : List RawEvent) (answers_now : List Answer) (order_now : List ℕ) (steps_now : List Step) (c : Checked)
      → Promise calls new_memory memory_now [] others_now new_answers answers_now scope sw es new_order order_now new_steps steps_now [] c
      → (old new : List ℕ) (r : Result (Unit {0}) Full) → length old + (longest_line + 1) ≤ longest_report
      → Begins longest_report (line_text m es c.verdict order_now steps_now ++ codes "\n") old new r
      → IsOk r × LineBehind m scope sw es old new
  line_behind memory_now others_now answers_now order_now steps_now c promised old new r room began =
      let promise = subst (λ cs. Promise cs new_memory memory_now [] others_now new_answers answers_now scope sw es new_order order_now new_steps steps_now [] c) are promised in
      let line = line_text m es c.verdict order_now steps_now in
      let few : length new_steps ≤ max_events = omega (arith, length-replicate {A = Step} max_events (record { from = 0; to = 0; sort = Po })) in
      let short : length line ≤ longest_line = line_fits es full scope sw inside m new_order order_now new_steps steps_now c.verdict few promise.verdict.judges in
      let size : length (line ++ codes "\n") ≤ longest_line + 1 = omega (arith, length-append line (codes "\n"), short) in
      let (ok, all) = written longest_report (line ++ codes "\n") old new r (omega (arith, room, size)) began in (
        ok,
        (
          line ++ codes "\n",
          record {
            memory_now = memory_now;
            others_now = others_now;
            answers_now = answers_now;
            order_now = order_now;
            steps_now = steps_now;
            checked = c;
            promise = promise;
            obeyed = obeyed es records memory_now others_now answers_now promise.records;
            text = refl;
          },
          all,
          size,
        ),
      )
