-- That a run is full holds in one way at most, so a truncated proof of it is as good as a proof.
use Rattle.std.proofs.Common.{ℕ, List}
use Rattle.std.proofs.Math.Logic.{∥∥₁_elim}
use Rattle.std.proofs.Props.{props}
use Rattle.events.specs.Raw.{Legal}
use Rattle.events.specs.Run.{Fits, Linked, FullRun}
use Rattle.events.specs.declared.event.Event.{Event}

legal_once : (e : Event) → IsProp (Legal e)
legal_once e = Prim.hlevel props

fits_once : (es : List Event) (w r : ℕ) → IsProp (Fits es w r)
fits_once es w r = Prim.hlevel props

linked_once : (es : List Event) (k : ℕ) → IsProp (Linked es k)
linked_once es k = Prim.hlevel props

full_once : (es : List Event) → IsProp (FullRun es)
full_once es = Prim.hlevel props

pub full_of : (es : List Event) → ∥ FullRun es ∥₁ → FullRun es
full_of es f = ∥∥₁_elim f (full_once es) (λ full. full)
