-- The lowest start by its law is that of the definition, and there is one.
use Rattle.std.proofs.Common.{◌≡◌, ℕ, ◌≤◌, List, [], ◌∷◌, length, sym, arith, subst}
use Rattle.std.specs.List.{IsFirstBest}
use Rattle.std.proofs.lemmas.Bool.Decides.{nat_tests}
use Rattle.std.proofs.lemmas.List.Sums.{position_or_len_is, list_all-from_AllPass}
use Rattle.std.proofs.lemmas.List.{get_or_default}
use Rattle.std.proofs.lemmas.List.Folds.{list_all_at}
use Rattle.std.proofs.lemmas.List.MinMax.{IsFirstBest-from_best_of, IsStrictWeakOrder-by_number}
use Rattle.verdicts.specs.declared.step.Step.{Step}
use Rattle.verdicts.specs.Violations.{no_step}
use Rattle.verdicttext.specs.Turns.{lowest_start, starts_lower, LowestFirst}

pub lowest_is : (ss : List Step) (m : ℕ) → IsFirstBest starts_lower ss (length ss) m → lowest_start ss ≡ m
lowest_is ss m (place, none, first) =
    position_or_len_is _ ss m no_step (grind arith)
    (λ k lt. list_all_at _ ss m no_step place (let b = first k no_step lt in grind (arith, nat_tests)))
    (λ _. list_all-from_AllPass _ ss (λ k d lt. let b = none k no_step lt in rw (get_or_default ss k d no_step lt) (grind (arith, nat_tests))))

pub lowest_first : (ss : List Step) → LowestFirst ss
lowest_first [] some = absurd (grind arith)
lowest_first (s ∷ ss) some =
    let best = IsFirstBest-from_best_of (IsStrictWeakOrder-by_number (λ (t : Step). t.from)) s ss in
    subst (IsFirstBest starts_lower (s ∷ ss) (length (s ∷ ss))) (sym (lowest_is (s ∷ ss) best.0 best.1)) best.1

-- so the lowest of the first i is, if i is no less than all; i may be 1 where there is none
pub lowest_at : (ss : List Step) (i m : ℕ) → IsFirstBest starts_lower ss i m → length ss ≤ i → (1 ≤ length ss → i ≤ length ss)
    → m ≤ length ss → m ≡ lowest_start ss
lowest_at [] i m best high within low = grind arith
lowest_at (s ∷ ss) i m best high within low =
    let all : i ≡ length (s ∷ ss) = grind arith in
    sym (lowest_is (s ∷ ss) m (subst (λ n. IsFirstBest starts_lower (s ∷ ss) n m) all best))
