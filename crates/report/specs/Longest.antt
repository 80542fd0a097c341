-- How long a line of a judge's answer can be, and all that is printed of a log.
use Rattle.std.specs.Prelude.{ℕ, ◌+◌, ◌*◌}

-- an event takes eight characters at most, and the words of a line 64
abbrev pub longest_line : ℕ
longest_line = 4160

-- a line and its end for each of the five models
abbrev pub longest_report : ℕ
longest_report = 5 * (longest_line + 1)
