use Rattle.std.proofs.Common.{None, ap, ◌∙◌}
use Rattle.std.proofs.lemmas.List.{take_all}
use Rattle.verdicttext.specs.Groups.{location}
use Rattle.verdicttext.proofs.Parts.{parts, parts_are, here_more, text_more}
use Rattle.writing.proofs.Laid.{puts_then, puts_as}
use Rattle.verdicttext.proofs.order.put_order.Goals as goal

pub loop-store-preserved : goal.loop-store-preserved
loop-store-preserved g c =
    let es = g.E.Execution.events c.args.run.now in
    let o = c.args.stores.now in
    let loop = c.loop-store in
    let (known, held) = loop.invariant in
    let within = c.loop-store-test.true in
    let at = c.location-location.ensures ∙ ap (location es) c.from.ensures in
    let i = loop.store-index in (
      here_more es o i _ loop.here within known at,
      puts_as (text_more es o i _ loop.here within known at) (puts_then held c.put_store-at.ensures),
    )

pub returns : goal.returns
returns g c =
    let es = g.E.Execution.events c.args.run.now in
    let o = c.args.stores.now in
    puts_as (ap (parts es None) (take_all c.loop-store.store-index o c.loop-store-test.false) ∙ parts_are es o) c.loop-store.invariant.1
