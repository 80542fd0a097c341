use Rattle.std.proofs.Common.{◌≡◌, ◌++◌, ◌∷◌, [], codes, decimal, ap, sym, ◌∙◌, append-nil}
use Rattle.std.proofs.lemmas.Grind.{flat_map-append}
use Rattle.std.proofs.lemmas.Iterator.Consumers.{YieldsList-from_first, YieldsList-end}
use Rattle.std.proofs.lemmas.List.{map-id}
use Rattle.runtext.specs.Text.{line_text, lines_text, run_text}
use Rattle.writing.proofs.Laid.{puts_then, puts_as}
use Rattle.runtext.proofs.run.put_run.Goals as goal

pub loop-event-preserved : goal.loop-event-preserved
loop-event-preserved g c =
    let lines = c.loop-event.yielded in
    puts_as (ap (λ l. lines_text lines ++ l) (sym (append-nil _)) ∙ sym (flat_map-append line_text lines (c.in-Some.event ∷ [])))
    (puts_then c.loop-event.invariant c.put_event_line-at.ensures)

pub returns : goal.returns
returns g c =
    let es = g.E.Execution.events c.args.run.now in
    let gives = YieldsList-from_first (λ x. x) (λ rest. rest) es (c.into_iter-event-iterator.ensures.into_iter_gives ∙ c.iter-event-items.ensures) in
    let all : c.loop-event.yielded ≡ es =
    sym (map-id c.loop-event.yielded) ∙ (YieldsList-end gives c.loop-event.yielded _ c.loop-event.yielded_by _ _ c.in-None.is c.next.ensures.steps).0 in
    let text : lines_text c.loop-event.yielded ++ (decimal c.count.result ++ codes " events\n") ≡ run_text es =
    (λ k. lines_text (all k) ++ (decimal (c.count.ensures k) ++ codes " events\n")) in
    puts_as text (puts_then c.loop-event.invariant (puts_then c.put_number-at.ensures c.put.ensures))
