-- The limits of a run, each named once. The code has the same numbers in src/limits.rt.
use Rattle.std.specs.Prelude.{ℕ}

abbrev pub max_events : ℕ
max_events = 512

abbrev pub max_threads : ℕ
max_threads = 8

abbrev pub max_locations : ℕ
max_locations = 64
