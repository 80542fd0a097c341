use Rattle.std.proofs.Common.{ap, decimal, ◌∙◌}
use Rattle.writing.proofs.Laid.{puts_then, puts_as}
use Rattle.events.proofs.text.put_refused.Goals as goal

pub returns : goal.returns
returns g c =
    let number = puts_as (ap decimal (c.from.ensures ∙ c.number.ensures)) c.put_number-at.ensures in
    let place = puts_as (ap decimal c.place.ensures) c.put_number.ensures in
    puts_then c.put-at.ensures (puts_then number (puts_then c.put-at-2.ensures place))
