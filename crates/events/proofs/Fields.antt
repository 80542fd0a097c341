-- The numbers of a legal event, and no others, pass the check of the fields; else the first field out of range is named.
use Rattle.std.proofs.Common.{◌≡◌, Ok, Err, Result, refl, arith}
use Rattle.std.proofs.lemmas.Bool.Decides.{nat_tests}
use Rattle.events.specs.Events.{kind_number, mode_number}
use Rattle.events.specs.Raw.{Legal, raw_of, checked, FirstField, Checks}
use Rattle.events.specs.Raw.FirstField.{thread as bad_thread, kind as bad_kind, mode as bad_mode, location as bad_location}
use Rattle.events.specs.declared.event.Kind.{Kind}
use Rattle.events.specs.declared.event.Kind.TheVariants.{Read, Write, Update, Fence}
use Rattle.events.specs.declared.event.Mode.{Mode}
use Rattle.events.specs.declared.event.Mode.TheVariants.{Relaxed, Acquire, Release, AcquireRelease}
use Rattle.events.specs.declared.event.Event.{Event}
use Rattle.events.specs.declared.raw.RawEvent.{RawEvent}
use Rattle.events.specs.declared.raw.FieldFault.{FieldFault}
use Rattle.events.specs.declared.raw.FieldFault.TheVariants as fault

-- numbers that pass are those of a legal event, which they pass as
pub checked_legal : (x : RawEvent) (e : Event) → checked x ≡ Ok e → Legal e × (raw_of e ≡ x)
checked_legal x e h =
    (record { thread = grind arith; mode = grind (arith, nat_tests); location = grind (arith, nat_tests) }, grind (arith, nat_tests))

-- the numbers of a legal event pass as that event
pub legal_checked : (x : RawEvent) (e : Event) → Legal e → raw_of e ≡ x → checked x ≡ Ok e
legal_checked x e h i = grind arith

-- where the location is named, the kind and the mode suit each other, and the location is out of its range
place_fault : (x : RawEvent) (k : Kind) (m : Mode) → kind_number k ≡ x.kind → mode_number m ≡ x.mode → checked x ≡ Err fault.Location → FirstField x fault.Location
place_fault x k m p q h = bad_location k m (grind arith) p q (grind arith) (grind arith)

-- the field that is named is the first that is out of its range
first_field : (x : RawEvent) (f : FieldFault) → checked x ≡ Err f → FirstField x f
first_field x fault.Thread h = bad_thread (grind arith)
first_field x fault.Kind h = bad_kind (grind arith) (grind arith)
first_field x fault.Mode h =
    let (k, kind) : (k : Kind) × (kind_number k ≡ x.kind) = grind arith in
    bad_mode k (grind arith) kind (grind arith)
first_field x fault.Location h =
    let (k, m, kind, mode) : (k : Kind) × (m : Mode) × (kind_number k ≡ x.kind) × (mode_number m ≡ x.mode) = grind arith in
    place_fault x k m kind mode h

-- and the first that is out of its range is named
field_first : (x : RawEvent) (f : FieldFault) → FirstField x f → checked x ≡ Err f
field_first x f (bad_thread never) = grind arith
field_first x f (bad_kind t never) = grind (arith, never Read, never Write, never Update, never Fence)
field_first x f (bad_mode k t p never) = grind (arith, never Relaxed, never Acquire, never Release, never AcquireRelease)
field_first x f (bad_location k m t p q s never) = grind arith

-- what the checks come to is all that is said of it
pub checks : (x : RawEvent) (r : Result Event FieldFault) → r ≡ checked x → Checks x r
checks x r is =
    rw is (record {
      reads = refl;
      passes = λ e. (checked_legal x e, λ (legal, raw). legal_checked x e legal raw);
      fails = λ f. (first_field x f, field_first x f);
    })
