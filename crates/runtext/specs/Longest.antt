-- How long the text of a run can be.
use Rattle.std.specs.Prelude.{ℕ, ◌+◌, ◌*◌}
use Rattle.events.specs.Limits.{max_events}

-- a line takes 25 characters at most, and the last eleven
abbrev pub longest_run : ℕ
longest_run = 25 * max_events + 11
