-- A cycle of steps, turned so that it begins with the step that starts lowest.
use Rattle.std.specs.Prelude.{ℕ, ◌<◌, Bool, List, ◌++◌, length, take, drop, nat_lt, nat_le}
use Rattle.std.specs.List.{list_all, position_or_len, IsFirstBest}
use Rattle.verdicts.specs.declared.step.Step.{Step}

-- the first place whose step starts no higher than any step
abbrev pub lowest_start : List Step → ℕ
lowest_start ss = position_or_len (λ s. list_all (λ t. nat_le s.from t.from) ss) ss

-- from that step on, round to the one before it
abbrev pub turned : List Step → List Step
turned ss = drop (lowest_start ss) ss ++ take (lowest_start ss) ss

abbrev pub starts_lower : Step → Step → Bool
starts_lower s t = nat_lt s.from t.from

-- Any steps have such a place: none starts lower than the one there, and none before it as low.
abbrev pub LowestFirst : List Step → Type 0
LowestFirst ss = 0 < length ss → IsFirstBest starts_lower ss (length ss) (lowest_start ss)
