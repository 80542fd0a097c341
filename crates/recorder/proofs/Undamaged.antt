-- Memory that is not damaged holds an open run, and memory that holds an open run is not damaged.
use Rattle.std.proofs.Common.{◌≡◌, ℕ, zero, suc, ◌-◌, ◌≤◌, List, [], ◌∷◌, length, take, map, Ok, Err, Result, refl, ap, ◌∙◌, arith}
use Rattle.std.proofs.lemmas.Bool.{true_from_ne_false}
use Rattle.std.proofs.lemmas.List.{length-map, length-take, get_or-map}
use Rattle.events.specs.Limits.{max_events}
use Rattle.events.specs.Raw.{raw_of, checked}
use Rattle.events.specs.Run.{at, no_event, Within}
use Rattle.events.specs.declared.event.Event.{Event}
use Rattle.events.specs.declared.raw.RawEvent.{RawEvent}
use Rattle.events.proofs.Fields.{checked_legal, legal_checked}
use Rattle.events.proofs.Numbers.{writer_within}
use Rattle.recorder.specs.Places.{event_of, events_of, no_place, place_of}
use Rattle.recorder.proofs.Runs.{OpenRun}
use Rattle.recorder.specs.Refusals.{IsDamaged, Whole}
use Rattle.recorder.specs.Refusals.IsDamaged.{fields, writer}
use Rattle.events.specs.declared.raw.FieldFault.{FieldFault}
use Rattle.recorder.proofs.Refusals.{fails_checked, Decides-may_read}

-- numbers that pass the check are seen as the event that they pass as
seen_checked : (x : RawEvent) (e : Event) → checked x ≡ Ok e → event_of x ≡ e
seen_checked x e is = grind arith

seen_raw : (e : Event) → event_of (raw_of e) ≡ e
seen_raw e = grind arith

pub shown_raw : (es : List Event) → events_of (map raw_of es) ≡ es
shown_raw [] = refl
shown_raw (e ∷ es) = rw (seen_raw e, shown_raw es) refl

-- event i is what its place is seen as
pub at_shown : (places : List RawEvent) (i : ℕ) → 1 ≤ i → i ≤ length places → at (events_of places) i ≡ event_of (place_of places i)
at_shown places zero low high = absurd (omega arith)
at_shown places (suc k) low high = let one : suc k - 1 ≡ k = omega arith in rw one (get_or-map event_of places k no_place no_event (omega arith))

pub place_raw : (es : List Event) (i : ℕ) → Within es i → place_of (map raw_of es) i ≡ raw_of (at es i)
place_raw es zero within = absurd (omega arith)
place_raw es (suc k) within = let one : suc k - 1 ≡ k = omega arith in rw one (get_or-map raw_of es k no_event no_place (omega arith))

-- the numbers of a place that is not damaged pass the check
passes_by : (places : List RawEvent) (i : ℕ) (r : Result Event FieldFault) → checked (place_of places i) ≡ r → ¬ IsDamaged places i → checked (place_of places i) ≡ Ok (event_of (place_of places i))
passes_by places i (Ok e) is sound = rw (seen_checked _ e is) is
passes_by places i (Err f) is sound = absurd (sound (fields ((fails_checked _ f).0 is)))

-- an open run has no damaged place
not_damaged : (es : List Event) → OpenRun es → (i : ℕ) → Within es i → ¬ IsDamaged (map raw_of es) i
not_damaged es run i within (fields {f} fault) =
    let is = (fails_checked _ f).1 fault in
    let fine = legal_checked (raw_of (at es i)) (at es i) (run.legal i within) refl in
    let both = ap checked (place_raw es i within) ∙ fine in
    cc
not_damaged es run i within (writer some never) = let here = shown_raw es in never (rw here (run.fitted i (rw here at some)))

module _ (n : ℕ) (memory : List RawEvent) (few : n ≤ max_events) where
  abbrev places : List RawEvent
  places = take n memory

  -- memory that is not damaged
  module _ (w : Whole n memory) where
    long : length places ≡ n
    long = omega (arith, length-take {A = RawEvent}, w.long)

    passes : (i : ℕ) → 1 ≤ i → i ≤ length places → checked (place_of places i) ≡ Ok (event_of (place_of places i))
    passes i low high = passes_by places i (checked (place_of places i)) refl (w.sound i low high)

    pub whole_run : OpenRun (events_of places)
    whole_run =
        record {
          few = omega (arith, length-map {A = RawEvent} {B = Event}, long);
          legal = λ i within. let inside : i ≤ length places = omega (arith, length-map {A = RawEvent} {B = Event}) in rw (at_shown places i within.0 inside) (checked_legal (place_of places i) (event_of (place_of places i)) (passes i within.0 inside)).0;
          fitted = λ i some.
              let within = writer_within (events_of places) i some in
              let test = Decides-may_read (events_of places) (at (events_of places) i).writer i in
              test.0 (true_from_ne_false _ (λ no. w.sound i within.0 (omega (arith, length-map {A = RawEvent} {B = Event})) (writer some (λ reads. let yes = test.1 reads in cc))));
        }

  -- memory that holds an open run
  pub raw_whole : (es : List Event) → max_events ≤ length memory → OpenRun es → places ≡ map raw_of es → Whole n memory
  raw_whole es room run is =
      record {
        long = room;
        sound = λ i low high. rw is (not_damaged es run i (low, omega (arith, ap length is, length-map {A = Event} {B = RawEvent})));
      }
