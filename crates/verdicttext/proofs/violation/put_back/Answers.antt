use Rattle.std.proofs.Common.{◌≡◌, ◌≤◌, List, [], ◌∷◌, ◌++◌, length, get_or, decimal, append-nil, ap, sym, arith}
use Rattle.std.specs.List.{flat_map}
use Rattle.verdicts.specs.declared.step.Step.{Step}
use Rattle.verdicttext.specs.Text.{back_words, marked, space}
use Rattle.writing.proofs.Laid.{puts_then, puts_as}
use Rattle.verdicttext.proofs.violation.put_back.Goals as goal

first_words : (ss : List Step) (d e : Step) → 1 ≤ length ss
    → marked space (decimal (get_or ss 0 d).from) ++ marked space (decimal (get_or ss 0 e).to) ≡ flat_map (marked space) (back_words ss)
first_words [] d e some = absurd (omega arith)
first_words (s ∷ ss) d e some = ap (λ l. marked space (decimal s.from) ++ l) (sym (append-nil (marked space (decimal s.to))))

pub returns-in-len1-up : goal.returns-in-len1-up
returns-in-len1-up c =
    puts_as (first_words c.args.steps.now _ _ c.in-len1-up.len_at_least) (puts_then c.put_word-at.ensures c.put_word.ensures)
