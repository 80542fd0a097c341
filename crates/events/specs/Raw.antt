-- Events as plain numbers.
use Rattle.std.specs.Prelude.{◌≡◌, ◌↔◌, ℕ, ◌≤◌, Bool, true, false, ◌&&◌, Some, None, Ok, Err, Option, Result, ◌==◌, ◌≢◌, nat_le, if◌then◌else◌, MatchResult}
use Rattle.std.specs.Option.{ok_or}
use Rattle.events.specs.Limits.{max_threads, max_locations}
use Rattle.events.specs.Events.{kind_number, kind_of, mode_number, mode_of, allowed, is_access}
use Rattle.events.specs.declared.event.Kind.{Kind}
use Rattle.events.specs.declared.event.Mode.{Mode}
use Rattle.events.specs.declared.event.Event.{Event}
use Rattle.events.specs.declared.raw.RawEvent.{RawEvent}
use Rattle.events.specs.declared.raw.FieldFault.{FieldFault}
use Rattle.events.specs.declared.raw.FieldFault.TheVariants as fault

abbrev pub fault_number : FieldFault → ℕ
fault_number fault.Thread = 1
fault_number fault.Kind = 2
fault_number fault.Mode = 3
fault_number fault.Location = 4

-- r is what has the number n, if anything has, and else the fault f
pub record Decodes {A : Type 0} (number : A → ℕ) (of : ℕ → Option A) (f : FieldFault) (n : ℕ) (r : Result A FieldFault) : Type 0 where
  pub reads : r ≡ ok_or (of n) f
  pub named : MatchResult r (λ a. number a ≡ n) (λ _. (a : A) → number a ≢ n)

abbrev pub KindOf : ℕ → Result Kind FieldFault → Type 0
KindOf = Decodes kind_number kind_of fault.Kind

abbrev pub ModeOf : ℕ → Result Mode FieldFault → Type 0
ModeOf = Decodes mode_number mode_of fault.Mode

abbrev pub InThreads : ℕ → Type 0
InThreads t = (1 ≤ t) × (t ≤ max_threads)

-- a fence has location 0, and every access one of the others
abbrev pub InLocations : Kind → ℕ → Type 0
InLocations k l = (is_access k ≡ true → (1 ≤ l) × (l ≤ max_locations)) × (is_access k ≡ false → l ≡ 0)

-- the thread, the mode and the location are among those that an event of this kind may have
pub record Legal (e : Event) : Type 0 where
  pub thread : InThreads e.thread
  pub mode : allowed e.kind e.mode ≡ true
  pub location : InLocations e.kind e.location

-- the numbers of an event
abbrev pub raw_of : Event → RawEvent
raw_of e = record { thread = e.thread; kind = kind_number e.kind; mode = mode_number e.mode; location = e.location; writer = e.writer }

-- the same ranges as tests
abbrev pub in_threads : ℕ → Bool
in_threads t = nat_le 1 t && nat_le t max_threads

abbrev pub in_locations : Kind → ℕ → Bool
in_locations k l = if is_access k then nat_le 1 l && nat_le l max_locations else l == 0

abbrev pub checked_mode : RawEvent → Kind → Option Mode → Result Event FieldFault
checked_mode x k None = Err fault.Mode
checked_mode x k (Some m) =
    if allowed k m then
    (if in_locations k x.location then
    Ok (record { thread = x.thread; kind = k; mode = m; location = x.location; writer = x.writer })
    else Err fault.Location)
    else Err fault.Mode

abbrev pub checked_kind : RawEvent → Option Kind → Result Event FieldFault
checked_kind x None = Err fault.Kind
checked_kind x (Some k) = checked_mode x k (mode_of x.mode)

-- the event, or the first field that is out of its range
abbrev pub checked : RawEvent → Result Event FieldFault
checked x = if in_threads x.thread then checked_kind x (kind_of x.kind) else Err fault.Thread

-- the first field that is out of its range, where those before it are in theirs
pub data FirstField (x : RawEvent) : FieldFault → Type 0 where
  thread : ¬ InThreads x.thread → FirstField x fault.Thread
  kind : InThreads x.thread → ((k : Kind) → kind_number k ≢ x.kind) → FirstField x fault.Kind
  mode : (k : Kind) → InThreads x.thread → kind_number k ≡ x.kind → ((m : Mode) → mode_number m ≡ x.mode → allowed k m ≢ true) → FirstField x fault.Mode
  location : (k : Kind) (m : Mode) → InThreads x.thread → kind_number k ≡ x.kind → mode_number m ≡ x.mode → allowed k m ≡ true → ¬ InLocations k x.location → FirstField x fault.Location

-- exactly the numbers of a legal event give that event
abbrev pub Passes : RawEvent → Result Event FieldFault → Type 0
Passes x r = (e : Event) → (r ≡ Ok e) ↔ (Legal e × (raw_of e ≡ x))

-- and a field is named exactly if it is the first that is out of its range
abbrev pub Fails : RawEvent → Result Event FieldFault → Type 0
Fails x r = (f : FieldFault) → (r ≡ Err f) ↔ FirstField x f

-- r is the answer to the numbers x
pub record Checks (x : RawEvent) (r : Result Event FieldFault) : Type 0 where
  pub reads : r ≡ checked x
  pub passes : Passes x r
  pub fails : Fails x r
