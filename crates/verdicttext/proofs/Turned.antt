-- What the chain of the turned steps gives.
use Rattle.std.proofs.Common.{◌≡◌, ℕ, List, ◌++◌, map, false, None, Option, Bor, Iter, sym, ap, refl, ◌∙◌}
use Rattle.std.specs.Iterator.{Yields}
use Rattle.std.specs.Iterator.Adapters.{chain_steps}
use Rattle.std.specs.declared.iter.Chain.{Chain}
use Rattle.std.proofs.iter.Yields.{fronts}
use Rattle.std.proofs.lemmas.Iterator.{YieldsList-from_slice}
use Rattle.std.proofs.lemmas.Iterator.Consumers.{YieldsList-from_chain, YieldsList-at, YieldsList-end}
use Rattle.std.proofs.lemmas.Simd.{map-map}
use Rattle.verdicts.specs.declared.step.Step.{Step}

abbrev Steps : Type 0
Steps = Chain (Iter Step) (Iter Step)

abbrev Gives : Steps → Option (Bor Step) → Steps → Type 0
Gives = chain_steps fronts fronts

-- s, which has the steps ss before it, gave these items until its end, so their texts are those of ss
pub given_texts : (text : Step → List ℕ) (ss : List Step) (s t : Steps) → s ≡ t → t.a.rest.now ++ t.b.rest.now ≡ ss
    → (t.a_done ≡ false) × (t.b_done ≡ false)
    → (items : List (Bor Step)) (u v : Steps) (end : Option (Bor Step)) → Yields Gives s items u → end ≡ None → Gives u end v
    → map (λ i. text i.now) items ≡ map text ss
given_texts text ss s t is steps fresh items u v end by none last =
    let road = YieldsList-at is (YieldsList-from_chain (YieldsList-from_slice t.a.rest.now refl) (YieldsList-from_slice t.b.rest.now refl) fresh.0 fresh.1) in
    sym (map-map text (λ i. i.now) items) ∙ ap (map text) ((YieldsList-end road items u by end v none last).0 ∙ steps)
