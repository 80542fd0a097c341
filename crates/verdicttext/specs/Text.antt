-- The text of a verdict: words with one space between each and the next.
use Rattle.std.specs.Prelude.{ℕ, List, [], ◌∷◌, ◌++◌, Ok, Err, codes, decimal, Result, map, take, slice_index}
use Rattle.std.specs.List.{join_with_byte}
use Rattle.events.specs.Text.{refused_text}
use Rattle.events.specs.declared.event.Event.{Event}
use Rattle.executions.specs.Faults.{fault_code}
use Rattle.executions.specs.declared.fault.CheckerFault.{CheckerFault}
use Rattle.models.specs.declared.name.ModelName.{ModelName}
use Rattle.models.specs.declared.name.ModelName.TheVariants.{Rc20, Ra, Sra, Wra, Relaxed}
use Rattle.verdicts.specs.Numbers.{step_count}
use Rattle.verdicts.specs.declared.step.Step.{Step}
use Rattle.verdicts.specs.declared.verdict.Verdict.{Verdict}
use Rattle.verdicts.specs.declared.verdict.Verdict.TheVariants.{Consistent, Inconsistent}
use Rattle.verdicts.specs.declared.violation.Violation.{Violation}
use Rattle.verdicts.specs.declared.violation.Violation.TheVariants as violation
use Rattle.verdicttext.specs.Groups.{location, groups}
use Rattle.verdicttext.specs.Turns.{turned}

abbrev pub space : ℕ
space = 32

abbrev pub less : ℕ
less = 60

abbrev pub comma : ℕ
comma = 44

-- a word after this character
abbrev pub marked : ℕ → List ℕ → List ℕ
marked c w = c ∷ w

abbrev pub model_word : ModelName → List ℕ
model_word Rc20 = codes "RC20"
model_word Ra = codes "RA"
model_word Sra = codes "SRA"
model_word Wra = codes "WRA"
model_word Relaxed = codes "RELAXED"

abbrev pub group_word : List Event → List ℕ → List ℕ
group_word es g = decimal (location es (slice_index g 0)) ++ (codes ":" ++ join_with_byte less (map decimal g))

abbrev pub order_words : List Event → List ℕ → List (List ℕ)
order_words es o = map (group_word es) (groups es o)

abbrev pub cycle_words : List Step → List (List ℕ)
cycle_words ss = map (λ s. decimal s.from) (turned ss)

abbrev pub step_text : Step → List ℕ
step_text s = decimal s.from ++ (codes ">" ++ decimal s.to)

abbrev pub round_word : ℕ → List Step → List ℕ
round_word l ss = decimal l ++ (codes ":" ++ join_with_byte comma (map step_text (turned ss)))

abbrev pub back_words : List Step → List (List ℕ)
back_words [] = []
back_words (s ∷ ss) = decimal s.from ∷ (decimal s.to ∷ [])

-- the kind, then the events that show it
abbrev pub violation_words : Violation → List Step → List (List ℕ)
violation_words (violation.Causal k) ss = codes "CAUSAL" ∷ cycle_words ss
violation_words (violation.Twin u v) ss = codes "TWIN" ∷ (decimal u ∷ (decimal v ∷ []))
violation_words (violation.Weak w v r) ss = codes "WEAK" ∷ (decimal w ∷ (decimal v ∷ (decimal r ∷ [])))
violation_words violation.Back ss = codes "BACK" ∷ back_words ss
violation_words (violation.Round l k) ss = codes "ROUND" ∷ (round_word l ss ∷ [])
violation_words (violation.Whole k) ss = codes "WHOLE" ∷ cycle_words ss

-- of the buffers as much as the verdict says
abbrev pub answer_words : List Event → Result Verdict CheckerFault → List ℕ → List Step → List (List ℕ)
answer_words es (Ok (Consistent k)) o ss = codes "consistent" ∷ order_words es (take k o)
answer_words es (Ok (Inconsistent v)) o ss = codes "inconsistent" ∷ violation_words v (take (step_count v) ss)
answer_words es (Err f) o ss = refused_text (fault_code f) ∷ []

abbrev pub line_text : ModelName → List Event → Result Verdict CheckerFault → List ℕ → List Step → List ℕ
line_text m es answer o ss = join_with_byte space (model_word m ∷ answer_words es answer o ss)
