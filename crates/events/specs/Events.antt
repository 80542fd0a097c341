-- Kinds, modes and events.
use Rattle.std.specs.Prelude.{ℕ, Bool, true, false, not, ◌&&◌, Some, None, Option, ◌==◌, if◌then◌else◌}
use Rattle.events.specs.declared.event.Kind.{Kind}
use Rattle.events.specs.declared.event.Kind.TheVariants.{Read, Write, Update, Fence}
use Rattle.events.specs.declared.event.Mode.{Mode}
use Rattle.events.specs.declared.event.Mode.TheVariants.{Relaxed, Acquire, Release, AcquireRelease}
use Rattle.events.specs.declared.event.Event.{Event}

abbrev pub kind_number : Kind → ℕ
kind_number Read = 1
kind_number Write = 2
kind_number Update = 3
kind_number Fence = 4

abbrev pub kind_of : ℕ → Option Kind
kind_of n = if n == 1 then Some Read else if n == 2 then Some Write else if n == 3 then Some Update else if n == 4 then Some Fence else None

abbrev pub mode_number : Mode → ℕ
mode_number Relaxed = 0
mode_number Acquire = 1
mode_number Release = 2
mode_number AcquireRelease = 3

abbrev pub mode_of : ℕ → Option Mode
mode_of n = if n == 0 then Some Relaxed else if n == 1 then Some Acquire else if n == 2 then Some Release else if n == 3 then Some AcquireRelease else None

abbrev pub is_load : Kind → Bool
is_load Read = true
is_load Write = false
is_load Update = true
is_load Fence = false

abbrev pub is_store : Kind → Bool
is_store Read = false
is_store Write = true
is_store Update = true
is_store Fence = false

-- everything but a fence reads or writes a location
abbrev pub is_access : Kind → Bool
is_access Read = true
is_access Write = true
is_access Update = true
is_access Fence = false

-- acquire or stronger
abbrev pub acquires : Mode → Bool
acquires Relaxed = false
acquires Acquire = true
acquires Release = false
acquires AcquireRelease = true

-- release or stronger
abbrev pub releases : Mode → Bool
releases Relaxed = false
releases Acquire = false
releases Release = true
releases AcquireRelease = true

-- a read does not release, and a write does not acquire
abbrev pub allowed : Kind → Mode → Bool
allowed Read m = not (releases m)
allowed Write m = not (acquires m)
allowed Update m = true
allowed Fence m = true

-- the stored number 0 means that there is no writer
abbrev pub writer_of : Event → Option ℕ
writer_of e = if e.writer == 0 then None else Some e.writer

-- w, the event with number i, can be what l, the event with number r, reads from
abbrev pub fitting : Event → ℕ → Event → ℕ → Bool
fitting w i l r = not (i == r) && (is_store w.kind && w.location == l.location)
