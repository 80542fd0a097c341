-- What a run is to be seen as: with other modes, and else as it is.
use Rattle.std.specs.Prelude.{List, map}
use Rattle.events.specs.declared.event.Kind.{Kind}
use Rattle.events.specs.declared.event.Kind.TheVariants.{Read, Write, Update, Fence}
use Rattle.events.specs.declared.event.Mode.{Mode}
use Rattle.events.specs.declared.event.Mode.TheVariants.{Relaxed, Acquire, Release, AcquireRelease}
use Rattle.events.specs.declared.event.Event.{Event}

-- the strongest mode that an event of this kind may have
abbrev pub strongest : Kind → Mode
strongest Read = Acquire
strongest Write = Release
strongest Update = AcquireRelease
strongest Fence = AcquireRelease

abbrev pub with_mode : Mode → Event → Event
with_mode m e = record e { mode = m }

-- every event in the strongest mode of its kind
abbrev pub strengthened : List Event → List Event
strengthened es = map (λ e. with_mode (strongest e.kind) e) es

-- every event relaxed
abbrev pub relaxed : List Event → List Event
relaxed es = map (λ e. with_mode Relaxed e) es
