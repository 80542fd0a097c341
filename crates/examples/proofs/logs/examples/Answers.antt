use Rattle.std.proofs.Common.{refl}
use Rattle.examples.proofs.Known as known
use Rattle.examples.proofs.Judged.{one, answered}
use Rattle.examples.proofs.logs.examples.Goals as goal

pub returns : goal.returns
returns c =
    record {
      no_events = known.no_events-example _ refl;
      two_writes_each_way = known.two_writes_each_way-example _ c.two_plus_two_writes.ensures.spells;
      handing_over = known.handing_over-example _ refl;
      handing_over_relaxed = known.handing_over_relaxed-example _ refl;
      twin = known.twin-example _ refl;
      back = known.back-example _ refl;
      load_buffering = known.load_buffering-example _ refl;
      update_in_between = known.update_in_between-example _ refl;
      orders_that_differ = known.orders_that_differ-example _ refl;
      spelled = c.two_plus_two_writes.ensures;
      one = one;
      answered = answered;
    }
