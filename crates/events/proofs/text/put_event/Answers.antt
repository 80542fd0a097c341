use Rattle.std.proofs.Common.{ap, ◌∙◌, decimal}
use Rattle.writing.proofs.Laid.{puts_then, puts_as}
use Rattle.events.proofs.text.put_event.Goals as goal

pub returns : goal.returns
returns c =
    let thread = puts_as (ap decimal c.from.ensures) c.put_number-at.ensures in
    let kind = puts_as (c.as_bytes.ensures.value ∙ c.letter.ensures) c.put-at-3.ensures in
    puts_then c.put-at.ensures (puts_then thread (puts_then c.put-at-2.ensures (puts_then kind
    (puts_then c.put-at-4.ensures c.put_mode_and_place.ensures))))
