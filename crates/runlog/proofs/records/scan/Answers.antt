use Rattle.std.proofs.Common.{◌≡◌, ◌-◌, arith}
use Rattle.std.proofs.lemmas.Bool.Decides.{nat_tests}
use Rattle.events.specs.Limits.{max_events}
use Rattle.runlog.specs.Reading.{ended, scanned}
use Rattle.runlog.proofs.Steps.{scanned_step}
use Rattle.runlog.proofs.records.scan.Goals as goal

pub returns-in_default : goal.returns-in_default
returns-in_default c = grind (arith, nat_tests, scanned_step c.args.s.now (max_events - c.loop-n.n) c.loop-n.n)

pub returns-then-is_err : goal.returns-then-is_err
returns-then-is_err c = grind (arith, nat_tests, scanned_step c.args.s.now (max_events - c.loop-n.n) c.loop-n.n)

pub loop-n-preserved : goal.loop-n-preserved
loop-n-preserved c = grind (arith, nat_tests, scanned_step c.args.s.now (max_events - c.loop-n.n) c.loop-n.n)

pub returns-then-is_some : goal.returns-then-is_some
returns-then-is_some c = grind (arith, nat_tests, scanned_step c.args.s.now (max_events - c.loop-n.n) c.loop-n.n)

pub returns : goal.returns
returns c =
    let last : c.loop-n.n ≡ max_events = omega arith in
    let end : scanned (max_events - c.loop-n.n) c.args.s.now c.loop-n.n ≡ ended c.args.s.now max_events = rw last (grind (arith, nat_tests, scanned_step c.args.s.now 0 max_events)) in
    cc
