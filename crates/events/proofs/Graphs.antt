-- In a full run every load reads from exactly one event, which fits.
use Rattle.std.proofs.Common.{◌≡◌, ◌==◌, ℕ, List, Option, Some, None, refl, arith}
use Rattle.std.proofs.lemmas.Bool.{cond_both, eqb-true, eqb-false, true_from_ne_false}
use Rattle.events.specs.Events.{writer_of}
use Rattle.events.specs.Run.{at, Within, FullRun}
use Rattle.events.specs.Graph.{WriterOf, RfReads}
use Rattle.events.specs.declared.event.Event.{Event}

pub rf_reads : (es : List Event) → FullRun es → RfReads es
rf_reads es full = record { some = grind arith; one = grind arith; fits = λ w r. grind (arith, full.linked r) }

-- the number that an event keeps for its writer
pub writer_of_event : (es : List Event) (r : ℕ) (o : Option ℕ) → FullRun es → Within es r → o ≡ writer_of (at es r) → WriterOf es r o
writer_of_event es r o full w e =
    rw e (cond_both ((at es r).writer == 0) None (Some (at es r).writer) (WriterOf es r)
    (λ t. λ v f. let z = eqb-true ((at es r).writer) 0 t in let fits = (full.linked r w).reads (f.0.1) in let low = fits.store.0.0 in omega arith)
    (λ n. ((w, true_from_ne_false _ (λ k. eqb-false ((at es r).writer) 0 n ((full.linked r w).others k))), refl)))
