-- The example runs, their logs, and their outcomes under each model.
use Rattle.std.specs.Prelude.{ℕ, [], ◌∷◌}
use Rattle.models.specs.declared.name.ModelName.{ModelName}
use Rattle.models.specs.declared.name.ModelName.TheVariants.{Rc20, Ra, Sra, Wra, Relaxed}
use Rattle.verdicts.specs.declared.step.Sort.{Sort}
use Rattle.verdicts.specs.declared.step.Sort.TheVariants.{Po, Rf, Before, Read, Hb}
use Rattle.verdicts.specs.declared.step.Step.{Step}
use Rattle.verdicts.specs.declared.violation.Violation.TheVariants.{Causal, Twin, Weak, Back, Round, Whole}
use Rattle.examples.specs.declared.logs.ExampleLogs.{ExampleLogs}
use Rattle.runlog.specs.Sample.{Spelled}
use Rattle.examples.specs.Runs as run
use Rattle.examples.specs.Printed as print
use Rattle.examples.specs.Forced.{Outcome, OneOutcome, Example}
use Rattle.examples.specs.Forced.Outcome.{consistent, inconsistent, refused}
use Rattle.examples.specs.Judged.{Answered}

-- a step of this sort from a to b
abbrev pub step : ℕ → Sort → ℕ → Step
step a s b = record { from = a; to = b; sort = s }

abbrev pub no_events : ModelName → Outcome
no_events m = consistent []

-- each thread's second write stands before the other's first, which goes for each location by itself
abbrev pub two_writes_each_way : ModelName → Outcome
two_writes_each_way Rc20 = consistent (5 ∷ (1 ∷ (2 ∷ (4 ∷ []))))
two_writes_each_way Ra = consistent (5 ∷ (1 ∷ (2 ∷ (4 ∷ []))))
two_writes_each_way Sra = inconsistent (Whole 4) (step 1 Hb 2 ∷ (step 2 (Read 3) 4 ∷ (step 4 Hb 5 ∷ (step 5 (Read 6) 1 ∷ []))))
two_writes_each_way Wra = consistent []
two_writes_each_way Relaxed = consistent (5 ∷ (1 ∷ (2 ∷ (4 ∷ []))))

-- event 2 comes in happens-before between event 1 and what reads from it
abbrev pub handing_over : ModelName → Outcome
handing_over Rc20 = inconsistent (Round 1 2) (step 1 Before 2 ∷ (step 2 (Read 5) 1 ∷ []))
handing_over Ra = inconsistent (Round 1 2) (step 1 Before 2 ∷ (step 2 (Read 5) 1 ∷ []))
handing_over Sra = inconsistent (Whole 2) (step 1 Hb 2 ∷ (step 2 (Read 5) 1 ∷ []))
handing_over Wra = inconsistent (Weak 1 2 5) []
handing_over Relaxed = consistent (1 ∷ (2 ∷ (3 ∷ [])))

-- for RC20 a relaxed load synchronises with nothing; the models that synchronise by reads-from alone see no difference
abbrev pub handing_over_relaxed : ModelName → Outcome
handing_over_relaxed Rc20 = consistent (1 ∷ (2 ∷ (3 ∷ [])))
handing_over_relaxed m = handing_over m

abbrev pub twin : ModelName → Outcome
twin Sra = refused 2
twin m = inconsistent (Twin 2 3) []

abbrev pub back : ModelName → Outcome
back Sra = refused 2
back Wra = inconsistent (Weak 1 2 3) []
back m = inconsistent Back (step 2 (Read 3) 1 ∷ [])

abbrev pub load_buffering : ModelName → Outcome
load_buffering m = inconsistent (Causal 4) (step 1 Po 2 ∷ (step 2 Rf 3 ∷ (step 3 Po 4 ∷ (step 4 Rf 1 ∷ []))))

-- the update stands right after event 1, so event 3 comes before both
abbrev pub update_in_between : ModelName → Outcome
update_in_between Sra = refused 2
update_in_between Wra = consistent []
update_in_between m = consistent (3 ∷ (1 ∷ (2 ∷ [])))

-- Nothing orders the two writes of location 2. Location by location the lower one is laid first; along the whole run event 2 waits
-- for event 1, and that for event 4, and event 3 waits for none.
abbrev pub orders_that_differ : ModelName → Outcome
orders_that_differ Sra = consistent (4 ∷ (3 ∷ (2 ∷ [])))
orders_that_differ Wra = consistent []
orders_that_differ m = consistent (4 ∷ (2 ∷ (3 ∷ [])))

-- The definitions force of each run under each model the outcome above, and no other, and what is printed of its log is the text that
-- is printed here. Any two outcomes that are forced are the same, and they are what the judge answers.
pub record Examples (logs : ExampleLogs) : Type 0 where
  pub no_events : Example run.no_events logs.no_events no_events print.no_events
  pub two_writes_each_way : Example run.two_writes_each_way logs.two_writes_each_way two_writes_each_way print.two_writes_each_way
  pub handing_over : Example run.handing_over logs.handing_over handing_over print.handing_over
  pub handing_over_relaxed : Example run.handing_over_relaxed logs.handing_over_relaxed handing_over_relaxed print.handing_over_relaxed
  pub twin : Example run.twin logs.twin twin print.twin
  pub back : Example run.back logs.back back print.back
  pub load_buffering : Example run.load_buffering logs.load_buffering load_buffering print.load_buffering
  pub update_in_between : Example run.update_in_between logs.update_in_between update_in_between print.update_in_between
  pub orders_that_differ : Example run.orders_that_differ logs.orders_that_differ orders_that_differ print.orders_that_differ
  -- the log of these two writes each way has 66 bytes, and begins and ends with these
  pub spelled : Spelled logs.two_writes_each_way
  pub one : OneOutcome
  pub answered : Answered
