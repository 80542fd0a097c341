-- The example runs.
use Rattle.std.specs.Prelude.{ℕ, List, [], ◌∷◌}
use Rattle.events.specs.declared.event.Event.{Event}
use Rattle.events.specs.declared.event.Kind.TheVariants.{Read, Write, Update}
use Rattle.events.specs.declared.event.Mode.{Mode}
use Rattle.events.specs.declared.event.Mode.TheVariants.{Relaxed, Acquire, Release}
use Rattle.runlog.specs.Sample.{sample}

-- an event of thread t in mode m at location l; w is the writer of one that reads
abbrev writes : ℕ → Mode → ℕ → Event
writes t m l = record { thread = t; kind = Write; mode = m; location = l; writer = 0 }

abbrev reads : ℕ → Mode → ℕ → ℕ → Event
reads t m l w = record { thread = t; kind = Read; mode = m; location = l; writer = w }

abbrev updates : ℕ → Mode → ℕ → ℕ → Event
updates t m l w = record { thread = t; kind = Update; mode = m; location = l; writer = w }

abbrev pub no_events : List Event
no_events = []

-- Two threads write two locations in opposite order, and each then reads, where it wrote last, what the other wrote there.
abbrev pub two_writes_each_way : List Event
two_writes_each_way = sample

-- A flag is set after two writes, and what sees the flag reads the first of them. The flag is read in mode m.
abbrev hands_over : Mode → List Event
hands_over m = writes 1 Relaxed 1 ∷ (writes 1 Relaxed 1 ∷ (writes 1 Release 2 ∷ (reads 2 m 2 3 ∷ (reads 2 Relaxed 1 1 ∷ []))))

abbrev pub handing_over : List Event
handing_over = hands_over Acquire

abbrev pub handing_over_relaxed : List Event
handing_over_relaxed = hands_over Relaxed

-- Two updates read from one write.
abbrev pub twin : List Event
twin = writes 1 Relaxed 1 ∷ (updates 2 Relaxed 1 1 ∷ (updates 3 Relaxed 1 1 ∷ []))

-- A thread updates what was written, and then still reads what was written.
abbrev pub back : List Event
back = writes 1 Relaxed 1 ∷ (updates 2 Relaxed 1 1 ∷ (reads 2 Relaxed 1 1 ∷ []))

-- Each of two threads reads what the other writes after its read.
abbrev pub load_buffering : List Event
load_buffering = reads 1 Relaxed 1 4 ∷ (writes 1 Relaxed 2 ∷ (reads 2 Relaxed 2 2 ∷ (writes 2 Relaxed 1 ∷ [])))

-- A thread writes, and then reads what an update made of another's write.
abbrev pub update_in_between : List Event
update_in_between = writes 1 Relaxed 1 ∷ (updates 2 Relaxed 1 1 ∷ (writes 3 Relaxed 1 ∷ (reads 3 Relaxed 1 2 ∷ [])))

-- A thread writes after it reads what another writes, and a third writes where it wrote.
abbrev pub orders_that_differ : List Event
orders_that_differ = reads 1 Relaxed 1 4 ∷ (writes 1 Relaxed 2 ∷ (writes 2 Relaxed 2 ∷ (writes 3 Relaxed 1 ∷ [])))
