-- The two passes of the reading, one step at a time.
use Rattle.std.proofs.Common.{◌≡◌, ℕ, zero, suc, ◌+◌, ◌-◌, ◌≤◌, List, length, is_ok, Ok, Err, Result, refl, ap, arith}
use Rattle.std.proofs.lemmas.Bool.Decides.{nat_tests}
use Rattle.std.proofs.lemmas.List.FromFn.{length-map-range_with_len, get_or-map-range_with_len}
use Rattle.std.specs.Prelude.{◌==◌, if◌then◌else◌}
use Rattle.std.specs.Bool.{Decides}
use Rattle.std.specs.Result.{result_unwrap_or}
use Rattle.events.specs.Raw.{checked}
use Rattle.events.specs.Run.{at, no_event, Linked}
use Rattle.events.specs.declared.event.Event.{Event}
use Rattle.events.proofs.Fields.{checked_legal, legal_checked}
use Rattle.events.proofs.Numbers.{store_within}
use Rattle.events.proofs.Results.{ok_value}
use Rattle.runlog.specs.Layout.{is_event, start, raw_at}
use Rattle.runlog.specs.Reading.{ended, scanned, event_at, events_of, linked, linked_up}
use Rattle.runlog.specs.FirstFault.{LegalAt, Sound}
use Rattle.runlog.specs.declared.fault.LogFault.{LogFault}
use Rattle.runlog.specs.declared.fault.LogFault.TheVariants.{BadEvent, TooMany}

-- where the first pass goes from n events, with k more that may come
abbrev pub scanned_on : List ℕ → ℕ → ℕ → Result ℕ LogFault
scanned_on s k n =
    if is_event s (start n) then
    (if k == 0 then Err (TooMany (start n))
    else if is_ok (checked (raw_at s (start n))) then scanned (k - 1) s (n + 1) else Err (BadEvent (start n)))
    else ended s n

pub scanned_step : (s : List ℕ) (k n : ℕ) → scanned k s n ≡ scanned_on s k n
unfolding scanned
scanned_step s zero n = refl
scanned_step s (suc k) n = grind (arith, nat_tests)

-- where the second pass goes from n events, with k more to come
abbrev pub linked_on : List Event → ℕ → ℕ → Result (List Event) LogFault
linked_on es k n = if k == 0 then Ok es else if linked es (n + 1) then linked_up (k - 1) es (n + 1) else Err (BadEvent (start n))

pub linked_step : (es : List Event) (k n : ℕ) → linked_up k es n ≡ linked_on es k n
unfolding linked_up
linked_step es zero n = refl
linked_step es (suc k) n = grind (arith, nat_tests)

-- the events of the records, by number
pub length-events_of : (s : List ℕ) (n : ℕ) → length (events_of s n) ≡ n
length-events_of s n = length-map-range_with_len (event_at s) 0 n

pub at-events_of : (s : List ℕ) (n i : ℕ) → 1 ≤ i → i ≤ n → at (events_of s n) i ≡ event_at s (i - 1)
at-events_of s n zero low high = absurd (omega arith)
at-events_of s n (suc k) low high = get_or-map-range_with_len (event_at s) 0 n k (suc k - 1) no_event high (omega arith)

-- the test of the fields says whether the record's numbers are those of a legal event
pub Decides-legal : (s : List ℕ) (p : ℕ) → Decides (is_ok (checked (raw_at s p))) (LegalAt s p)
Decides-legal s p = (
  λ ok.
      let e = result_unwrap_or (checked (raw_at s p)) no_event in
      let is = checked_legal (raw_at s p) e (ok_value (checked (raw_at s p)) no_event ok) in
      (e, is.0, is.1),
  λ here. ap is_ok (legal_checked (raw_at s p) here.0 here.1 here.2),
)

-- and a sound record holds its event
pub sound_checked : (s : List ℕ) (k : ℕ) → Sound s k → checked (raw_at s (start k)) ≡ Ok (event_at s k)
sound_checked s k here = ok_value (checked (raw_at s (start k))) no_event ((Decides-legal s (start k)).1 here.legal)

-- the test of an event's writer says whether the event is linked
pub Decides-linked : (es : List Event) (i : ℕ) → Decides (linked es i) (Linked es i)
Decides-linked es i = grind (arith, nat_tests, store_within es (at es i).writer)
