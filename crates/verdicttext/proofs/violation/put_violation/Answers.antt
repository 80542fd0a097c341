use Rattle.std.proofs.Common.{List, codes, decimal, ap, sym, ◌∙◌, ℕ}
use Rattle.std.specs.List.{join_with_byte}
use Rattle.verdicts.specs.declared.violation.Violation.{Violation}
use Rattle.verdicts.specs.declared.step.Step.{Step}
use Rattle.verdicttext.specs.Text.{back_words, cycle_words, marked, space, violation_words}
use Rattle.verdicttext.proofs.Words.{joined_from_first}
use Rattle.writing.proofs.Laid.{puts_then, puts_as}
use Rattle.verdicttext.proofs.violation.put_violation.Goals as goal

abbrev text : List Step → Violation → List ℕ
text ss v = join_with_byte space (violation_words v ss)

pub returns-in-Causal : goal.returns-in-Causal
returns-in-Causal c =
    let ss = c.args.steps.now in
    puts_as (sym (ap (text ss) c.in-Causal.is ∙ joined_from_first space (codes "CAUSAL") (cycle_words ss)))
    (puts_then c.put-at.ensures c.put_starts.ensures)

pub returns-in-Twin : goal.returns-in-Twin
returns-in-Twin c =
    puts_as (sym (ap (text c.args.steps.now) c.in-Twin.is))
    (puts_then c.put-at-in-Twin.ensures (puts_then c.put_word-at.ensures c.put_word.ensures))

pub returns-in-Weak : goal.returns-in-Weak
returns-in-Weak c =
    puts_as (sym (ap (text c.args.steps.now) c.in-Weak.is))
    (puts_then c.put-at-in-Weak.ensures (puts_then c.put_word-at-in-Weak.ensures (puts_then c.put_word-at-in-Weak-2.ensures c.put_word-in-Weak.ensures)))

pub returns-in-Back : goal.returns-in-Back
returns-in-Back c =
    let ss = c.args.steps.now in
    puts_as (sym (ap (text ss) c.in-Back.is ∙ joined_from_first space (codes "BACK") (back_words ss)))
    (puts_then c.put-at-in-Back.ensures c.put_back.ensures)

pub returns-in-Round : goal.returns-in-Round
returns-in-Round c =
    let ss = c.args.steps.now in
    let place = puts_as (ap (λ n. marked space (decimal n)) c.from.ensures) c.put_word-at-in-Round.ensures in
    puts_as (sym (ap (text ss) c.in-Round.is))
    (puts_then c.put-at-in-Round.ensures (puts_then place (puts_then c.put-at-in-Round-2.ensures c.put_steps.ensures)))

pub returns-in-Whole : goal.returns-in-Whole
returns-in-Whole c =
    let ss = c.args.steps.now in
    puts_as (sym (ap (text ss) c.in-Whole.is ∙ joined_from_first space (codes "WHOLE") (cycle_words ss)))
    (puts_then c.put-at-in-Whole.ensures c.put_starts-in-Whole.ensures)
