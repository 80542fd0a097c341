use Rattle.std.proofs.Common.{◌∙◌, sym, arith, rules}
use Rattle.std.proofs.lemmas.Bool.{false≢true}
use Rattle.std.proofs.lemmas.List.{length-set}
use Rattle.models.proofs.Marks.{same_everywhere}
use Rattle.laying.proofs.Kept.{locations_skip, locations_more, locations_all}
use Rattle.laying.proofs.stores.store_locations.Goals as goal
use Rattle.laying.proofs.stores.store_locations.Goals.{then-is_store, else-is_store}

pub loop-x-init : goal.loop-x-init
loop-x-init g c = (
  search rules,
  record {
    store = λ x lt s. let low = s.0.0 in absurd (omega arith);
    other = λ x isnt. search (rules, same_everywhere);
  },
)

pub loop-x-preserved : goal.loop-x-preserved
loop-x-preserved g c =
    let (size, below) = c.loop-x.invariant in
    let few = (g.met.E.Execution.full (c.args.run.now)).few in
    let lt = c.loop-x-test.true in
    elim c.if-is_store.branch [
      | then-is_store w ↦
          rw (w.locations-is, w.from.ensures ∙ w.location.ensures) (
            length-set _ _ _ ∙ size,
            locations_more _ _ _ below (omega (arith, c.count-x-end.ensures)) (c.is_store.ensures.0 w.if-is_store.true),
          )
      | else-is_store w ↦
          rw w.locations-is
          (size, locations_skip _ _ _ below (λ s. false≢true (sym w.if-is_store.false ∙ c.is_store.ensures.1 s)))
    ]

pub returns : goal.returns
returns g c = locations_all _ _ _ (let end = c.loop-x-test.false in omega (arith, c.count-x-end.ensures)) (c.loop-x.invariant.1)
