-- The ends of steps, which their sorts do not change.
use Rattle.std.proofs.Common.{◌≡◌, ℕ, zero, suc, Bool, List, [], ◌∷◌, ◌++◌, length, map, take, drop, not, get_or, refl, sym, ap, ◌∙◌, length-append, length-take, length-drop, arith}
use Rattle.std.proofs.Math.Decide.{ℕ_discrete, map_dec}
use Rattle.std.specs.Prelude.{nat_le}
use Rattle.std.specs.List.{list_all, prefix_len}
use Rattle.std.proofs.lemmas.List.{length-map, drop-map, map-append}
use Rattle.std.proofs.lemmas.List.Folds.{list_all-map}
use Rattle.verdicts.specs.declared.step.Sort.TheVariants.{Po}
use Rattle.verdicts.specs.declared.step.Step.{Step}
use Rattle.verdicttext.specs.Turns.{lowest_start, turned}
use Rattle.examples.specs.Forced.{ends}
use Rattle.examples.proofs.Decisions.{dec_and3}

-- the step from a to b, of no sort that matters
abbrev pub plain : ℕ → ℕ → Step
plain a b = record { from = a; to = b; sort = Po }

abbrev pub plainly : Step → Step
plainly s = plain s.from s.to

abbrev pair : Step → ℕ × ℕ
pair s = (s.from, s.to)

prefix_plain : (p q : Step → Bool) → ((s : Step) → p (plainly s) ≡ q s) → (ss : List Step) → prefix_len p (map plainly ss) ≡ prefix_len q ss
prefix_plain p q same [] = refl
prefix_plain p q same (s ∷ ss) = rw (same s, prefix_plain p q same ss) refl

lowest_plain : (ss : List Step) → lowest_start (map plainly ss) ≡ lowest_start ss
lowest_plain ss =
    prefix_plain (λ s. not (list_all (λ t. nat_le s.from t.from) (map plainly ss))) (λ s. not (list_all (λ t. nat_le s.from t.from) ss))
    (λ s. ap not (list_all-map (λ (t : Step). nat_le s.from t.from) plainly ss)) ss

take_plain : (k : ℕ) (ss : List Step) → take k (map plainly ss) ≡ map plainly (take k ss)
take_plain zero ss = refl
take_plain (suc k) [] = refl
take_plain (suc k) (s ∷ ss) = ap (λ l. plainly s ∷ l) (take_plain k ss)

pair_plain : (ss : List Step) → map pair (map plainly ss) ≡ map pair ss
pair_plain [] = refl
pair_plain (s ∷ ss) = ap (λ l. pair s ∷ l) (pair_plain ss)

pub ends_plain : (ss : List Step) → ends (map plainly ss) ≡ ends ss
ends_plain ss =
    let k = lowest_start ss in
    ap (λ n. map pair (drop n (map plainly ss) ++ take n (map plainly ss))) (lowest_plain ss)
    ∙ (ap (λ l. map pair (l ++ take k (map plainly ss))) (drop-map plainly k ss)
    ∙ (ap (λ l. map pair (map plainly (drop k ss) ++ l)) (take_plain k ss)
    ∙ (ap (map pair) (sym (map-append plainly (drop k ss) (take k ss))) ∙ pair_plain (turned ss))))

length_parts : (k : ℕ) (ss : List Step) → length (map pair (drop k ss ++ take k ss)) ≡ length ss
length_parts k ss = grind (arith, length-append, length-take, length-drop, length-map)

pub length_ends : (ss : List Step) → length (ends ss) ≡ length ss
length_ends ss = length_parts (lowest_start ss) ss

-- one step is its own turn
pub ends_one : (s : Step) → ends (s ∷ []) ≡ (s.from, s.to) ∷ []
ends_one s = parts (lowest_start (s ∷ []))
  where
    parts : (k : ℕ) → map pair (drop k (s ∷ []) ++ take k (s ∷ [])) ≡ (s.from, s.to) ∷ []
    parts zero = refl
    parts (suc k) = rest k
      where
        rest : (k : ℕ) → map pair (drop (suc k) (s ∷ []) ++ take (suc k) (s ∷ [])) ≡ (s.from, s.to) ∷ []
        rest zero = refl
        rest (suc k) = refl

abbrev pub dec_pairs : (l m : List (ℕ × ℕ)) → Dec (l ≡ m)
dec_pairs [] [] = yes refl
dec_pairs [] (q ∷ m) = no (λ e. let long : 0 ≡ length (q ∷ m) = ap length e in absurd (omega arith))
dec_pairs (p ∷ l) [] = no (λ e. let long : length (p ∷ l) ≡ 0 = ap length e in absurd (omega arith))
dec_pairs (p ∷ l) (q ∷ m) =
    map_dec (λ (a, b, rest) i. (a i, b i) ∷ rest i)
    (λ e. (ap (λ x. (get_or {A = ℕ × ℕ} x 0 (0, 0)).0) e, ap (λ x. (get_or {A = ℕ × ℕ} x 0 (0, 0)).1) e, ap (drop 1) e))
    (dec_and3 (ℕ_discrete p.0 q.0) (ℕ_discrete p.1 q.1) (dec_pairs l m))
