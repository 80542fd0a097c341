-- No two updates so far have one writer, and each is kept for its writer.
use Rattle.chains.proofs.Twins.{Readers}
use Rattle.chains.proofs.fill.twins.Given as goal

abbrev pub invariant-loop-u : goal.invariant-loop-u
invariant-loop-u g l = Readers (g.E.Execution.events l.run) l.u l.readers
