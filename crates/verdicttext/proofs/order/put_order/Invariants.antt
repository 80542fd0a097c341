use Rattle.std.proofs.Common.{◌≡◌, take, None}
use Rattle.verdicttext.proofs.Parts.{parts, last_location}
use Rattle.writing.specs.Writes.{Puts}
use Rattle.verdicttext.proofs.order.put_order.Given as goal

abbrev pub invariant-loop-store : goal.invariant-loop-store
invariant-loop-store g l =
    let es = g.E.Execution.events l.run in
    let done = take l.store-index l.stores in
    (l.here ≡ last_location es None done) × Puts (parts es None done) l.place l.initial.text l.text l.at
