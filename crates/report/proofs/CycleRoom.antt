-- How much room the words of a cycle take: a step 8 characters at most.
use Rattle.std.proofs.Common.{◌≡◌, ℕ, ◌*◌, ◌≤◌, List, ◌++◌, length, take, drop, map, decimal, ap, length-append, arith}
use Rattle.std.specs.List.{All, join_with_byte}
use Rattle.std.proofs.lemmas.List.{length-map, take-append-drop}
use Rattle.std.proofs.lemmas.List.Elements.{All-append, All-take, All-drop, All-map, All-weaker}
use Rattle.events.specs.Run.{FullRun}
use Rattle.events.specs.declared.event.Event.{Event}
use Rattle.verdicts.specs.declared.step.Step.{Step}
use Rattle.verdicttext.specs.Text.{cycle_words, step_text}
use Rattle.verdicttext.specs.Turns.{turned, lowest_start}
use Rattle.report.proofs.Room.{room, Short, short_words, joined_fits}
use Rattle.report.proofs.Digits.{event_digits}
use Rattle.report.proofs.Inside.{StepInside}

round_length : (n : ℕ) (ss : List Step) → length (drop n ss ++ take n ss) ≡ length ss
round_length n ss =
    let whole = ap length (take-append-drop n ss) in
    omega (arith, length-append (drop n ss) (take n ss), length-append (take n ss) (drop n ss))

-- texts of steps, each a short one
texts_room : (text : Step → List ℕ) (ss : List Step) → All (λ s. Short (text s)) ss → room (map text ss) ≤ 8 * length ss
texts_room text ss all =
    let fits = short_words (map text ss) (All-map Short text ss all) in
    omega (arith, length-map ss text)

module _ (es : List Event) (full : FullRun es) where
  turned_all : (P : Step → Type 0) (ss : List Step) → All P ss → All P (turned ss)
  turned_all P ss all = All-append P _ _ (All-drop P (lowest_start ss) ss all) (All-take P (lowest_start ss) ss all)

  turned_room : (text : Step → List ℕ) → ((s : Step) → StepInside es s → Short (text s)) → (ss : List Step) → All (StepInside es) ss
      → room (map text (turned ss)) ≤ 8 * length ss
  turned_room text short ss all =
      let fits = texts_room text (turned ss) (turned_all (λ s. Short (text s)) ss (All-weaker (StepInside es) (λ s. Short (text s)) short ss all)) in
      omega (arith, round_length (lowest_start ss) ss)

  pub starts_room : (ss : List Step) → All (StepInside es) ss → room (cycle_words ss) ≤ 8 * length ss
  starts_room ss all = turned_room (λ s. decimal s.from) (λ s h. let few = event_digits es full s.from h.0 in omega arith) ss all

  step_short : (s : Step) → StepInside es s → Short (step_text s)
  step_short s h =
      let from = event_digits es full s.from h.0 in
      let to = event_digits es full s.to h.1 in
      simp length-append (omega arith)

  pub steps_fit : (c : ℕ) (ss : List Step) → All (StepInside es) ss → length (join_with_byte c (map step_text (turned ss))) ≤ 8 * length ss
  steps_fit c ss all =
      let joined = joined_fits c (map step_text (turned ss)) in
      let fits = turned_room step_text step_short ss all in
      omega arith
