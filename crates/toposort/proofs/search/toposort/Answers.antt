use Rattle.toposort.proofs.Laws.{every_node, one_listing, tells}
use Rattle.toposort.proofs.search.toposort.Goals as goal

pub returns-then-listing-size-clause-every : goal.returns-then-listing-size-clause-every
returns-then-listing-size-clause-every g c = every_node _ _

pub returns-then-listing-size-clause-one : goal.returns-then-listing-size-clause-one
returns-then-listing-size-clause-one g c = one_listing _ _

pub returns-then-listing-size-clause-tells : goal.returns-then-listing-size-clause-tells
returns-then-listing-size-clause-tells g c = tells _ _

pub returns-clause-every : goal.returns-clause-every
returns-clause-every g c = every_node _ _

pub returns-clause-one : goal.returns-clause-one
returns-clause-one g c = one_listing _ _

pub returns-clause-tells : goal.returns-clause-tells
returns-clause-tells g c = tells _ _
