-- The example runs: the pairs that their paths join, their outcomes, and what is printed.
use Rattle.std.proofs.Common.{◌≡◌, ℕ, List, [], ◌∷◌, refl}
use Rattle.std.proofs.Math.Decide.{ℕ_discrete, dec_lt, dec_le}
use Rattle.std.specs.Fmt.{digits}
use Rattle.runlog.specs.Reading.{scanned, linked_up, reading}
use Rattle.runlog.specs.Spelling.{spelling}
use Rattle.examples.specs.Runs as run
use Rattle.examples.specs.Printed as print
use Rattle.examples.specs.Forced.{Example}
use Rattle.examples.specs.Examples.{no_events, two_writes_each_way, handing_over, handing_over_relaxed, twin, back, load_buffering, update_in_between, orders_that_differ}
use Rattle.examples.proofs.Drawn.{drawn}
use Rattle.examples.proofs.Reported.{example}

pub no_events-example : (s : List ℕ) → s ≡ spelling run.no_events → Example run.no_events s no_events print.no_events
unfolding ℕ_discrete dec_lt dec_le digits reading scanned linked_up
no_events-example = example (drawn run.no_events [] [] [] refl tt tt tt tt) no_events tt tt tt tt tt print.no_events refl

pub two_writes_each_way-example : (s : List ℕ) → s ≡ spelling run.two_writes_each_way → Example run.two_writes_each_way s two_writes_each_way print.two_writes_each_way
unfolding ℕ_discrete dec_lt dec_le digits reading scanned linked_up
two_writes_each_way-example =
    example
    (drawn run.two_writes_each_way (43 ∷ (16 ∷ []))
    (12 ∷ (13 ∷ (23 ∷ (45 ∷ (46 ∷ (56 ∷ (43 ∷ (16 ∷ []))))))))
    (12 ∷ (13 ∷ (23 ∷ (45 ∷ (46 ∷ (56 ∷ (43 ∷ (16 ∷ [])))))))) refl tt tt tt tt)
    two_writes_each_way tt tt tt tt tt print.two_writes_each_way refl

pub handing_over-example : (s : List ℕ) → s ≡ spelling run.handing_over → Example run.handing_over s handing_over print.handing_over
unfolding ℕ_discrete dec_lt dec_le digits reading scanned linked_up
handing_over-example =
    example
    (drawn run.handing_over (34 ∷ (15 ∷ []))
    (15 ∷ (25 ∷ (14 ∷ (24 ∷ (35 ∷ (12 ∷ (13 ∷ (23 ∷ (45 ∷ (34 ∷ []))))))))))
    (15 ∷ (25 ∷ (14 ∷ (24 ∷ (35 ∷ (12 ∷ (13 ∷ (23 ∷ (45 ∷ (34 ∷ [])))))))))) refl tt tt tt tt)
    handing_over tt tt tt tt tt print.handing_over refl

pub handing_over_relaxed-example : (s : List ℕ) → s ≡ spelling run.handing_over_relaxed → Example run.handing_over_relaxed s handing_over_relaxed print.handing_over_relaxed
unfolding ℕ_discrete dec_lt dec_le digits reading scanned linked_up
handing_over_relaxed-example =
    example
    (drawn run.handing_over_relaxed (34 ∷ (15 ∷ []))
    (15 ∷ (25 ∷ (14 ∷ (24 ∷ (35 ∷ (12 ∷ (13 ∷ (23 ∷ (45 ∷ (34 ∷ []))))))))))
    (12 ∷ (13 ∷ (23 ∷ (45 ∷ [])))) refl tt tt tt tt)
    handing_over_relaxed tt tt tt tt tt print.handing_over_relaxed refl

pub twin-example : (s : List ℕ) → s ≡ spelling run.twin → Example run.twin s twin print.twin
unfolding ℕ_discrete dec_lt dec_le digits reading scanned linked_up
twin-example = example (drawn run.twin (12 ∷ (13 ∷ [])) (12 ∷ (13 ∷ [])) [] refl tt tt tt tt) twin tt tt tt tt tt print.twin refl

pub back-example : (s : List ℕ) → s ≡ spelling run.back → Example run.back s back print.back
unfolding ℕ_discrete dec_lt dec_le digits reading scanned linked_up
back-example = example (drawn run.back (12 ∷ (13 ∷ [])) (12 ∷ (13 ∷ (23 ∷ []))) (23 ∷ []) refl tt tt tt tt) back tt tt tt tt tt print.back refl

pub load_buffering-example : (s : List ℕ) → s ≡ spelling run.load_buffering → Example run.load_buffering s load_buffering print.load_buffering
unfolding ℕ_discrete dec_lt dec_le digits reading scanned linked_up
load_buffering-example =
    example
    (drawn run.load_buffering (41 ∷ (23 ∷ []))
    (11 ∷ (22 ∷ (33 ∷ (44 ∷ (14 ∷ (21 ∷ (32 ∷ (43 ∷ (13 ∷ (24 ∷ (31 ∷ (42 ∷ (12 ∷ (23 ∷ (34 ∷ (41 ∷ []))))))))))))))))
    (12 ∷ (34 ∷ [])) refl tt tt tt tt)
    load_buffering tt tt tt tt tt print.load_buffering refl

pub update_in_between-example : (s : List ℕ) → s ≡ spelling run.update_in_between → Example run.update_in_between s update_in_between print.update_in_between
unfolding ℕ_discrete dec_lt dec_le digits reading scanned linked_up
update_in_between-example =
    example
    (drawn run.update_in_between (14 ∷ (12 ∷ (24 ∷ []))) (14 ∷ (12 ∷ (24 ∷ (34 ∷ [])))) (34 ∷ []) refl tt tt tt tt)
    update_in_between tt tt tt tt tt print.update_in_between refl

pub orders_that_differ-example : (s : List ℕ) → s ≡ spelling run.orders_that_differ → Example run.orders_that_differ s orders_that_differ print.orders_that_differ
unfolding ℕ_discrete dec_lt dec_le digits reading scanned linked_up
orders_that_differ-example =
    example
    (drawn run.orders_that_differ (41 ∷ []) (42 ∷ (12 ∷ (41 ∷ []))) (12 ∷ []) refl tt tt tt tt)
    orders_that_differ tt tt tt tt tt print.orders_that_differ refl
