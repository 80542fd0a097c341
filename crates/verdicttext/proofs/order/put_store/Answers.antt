use Rattle.std.proofs.Common.{◌≡◌, ap, decimal, arith}
use Rattle.std.proofs.lemmas.Grind.{common_steps}
use Rattle.verdicttext.specs.Store.{first_text, store_text}
use Rattle.verdicttext.specs.Text.{less, marked}
use Rattle.writing.proofs.Laid.{puts_then, puts_as}
use Rattle.verdicttext.proofs.order.put_store.Goals as goal

pub returns-then-eq : goal.returns-then-eq
returns-then-eq c =
    let is : marked less (decimal c.args.store) ≡ store_text c.args.here c.args.location c.args.store = let e = c.eq.ensures in let t = c.if-eq.true in grind (arith, common_steps, e, t) in
    puts_as is (puts_then c.put-at.ensures (puts_as (ap decimal c.from.ensures) c.put_number.ensures))

pub returns : goal.returns
returns c =
    let is : first_text c.args.location c.args.store ≡ store_text c.args.here c.args.location c.args.store = let e = c.eq.ensures in let t = c.if-eq.false in grind (arith, common_steps, e, t) in
    let location = puts_as (ap decimal c.from-2.ensures) c.put_number-at.ensures in
    let store = puts_as (ap decimal c.from-3.ensures) c.put_number-2.ensures in
    puts_as is (puts_then c.put-at-2.ensures (puts_then location (puts_then c.put-at-3.ensures store)))
