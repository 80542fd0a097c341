-- Texts laid over memory one behind another.
use Rattle.std.proofs.Common.{◌≡◌, ℕ, zero, suc, ◌+◌, ◌≤◌, ◌<◌, List, [], ◌∷◌, ◌++◌, length, Ok, Err, sym, ap, refl, subst, ◌∙◌, length-append, arith, ⊎_elim}
use Rattle.std.specs.Prelude.{min}
use Rattle.std.proofs.lemmas.Bool.{cases_lt}
use Rattle.std.proofs.lemmas.Grind.{common_steps}
use Rattle.writing.specs.declared.put.Full.{Full}
use Rattle.writing.specs.Writes.{laid, most, Puts, Writes}

-- behind the end nothing is laid
laid_behind : (t : List ℕ) (at : ℕ) (old : List ℕ) → length old ≤ at → laid t at old ≡ old
laid_behind t at old behind = grind (arith, common_steps)

laid_front : (a b old : List ℕ) → laid b (length a) (laid a 0 old) ≡ laid (a ++ b) 0 old
laid_front [] b old = grind (arith, common_steps)
laid_front (c ∷ a) b [] = grind (arith, common_steps)
laid_front (c ∷ a) b (x ∷ old) = ap (λ l. c ∷ l) (laid_front a b old)

laid_then : (a b : List ℕ) (at : ℕ) (old : List ℕ) → laid b (at + length a) (laid a at old) ≡ laid (a ++ b) at old
laid_then a b zero old = ap (λ k. laid b k (laid a 0 old)) (omega arith) ∙ laid_front a b old
laid_then a b (suc at) [] = grind (arith, common_steps)
laid_then a b (suc at) (x ∷ old) =
    let next : suc at + length a ≡ suc (at + length a) = omega arith in
    ap (λ k. laid b k (laid a (suc at) (x ∷ old))) next ∙ ap (λ l. x ∷ l) (laid_then a b at old)

length_laid : (t : List ℕ) (at : ℕ) (old : List ℕ) → length (laid t at old) ≡ length old
length_laid t at old = grind (arith, common_steps)

-- also where no number is as high as the place that the first reaches
laid_most : (a b : List ℕ) (at e : ℕ) (old : List ℕ) → length old < most → e ≡ min (at + length a) most → laid b e (laid a at old) ≡ laid (a ++ b) at old
laid_most a b at e old few is =
    ⊎_elim
    (λ high. laid_behind b e (laid a at old) (rw (length_laid a at old) (omega (arith, is, high)))
    ∙ (sym (laid_behind b (at + length a) (laid a at old) (rw (length_laid a at old) (omega (arith, high)))) ∙ laid_then a b at old))
    (λ low. ap (λ k. laid b k (laid a at old)) (omega (arith, is, low)) ∙ laid_then a b at old)
    (cases_lt most (at + length a))

-- A text, and behind it another.
pub puts_then : {a b old mid new : List ℕ} {at e end : ℕ} → Puts a at old mid e → Puts b e mid new end → Puts (a ++ b) at old new end
puts_then {a} {b} {old} {mid} {new} {at} {e} {end} h k =
    let reached = h.behind in
    let ends = k.behind in
    record {
      few = h.few;
      behind = simp length-append (omega (arith, reached, ends));
      memory = k.memory ∙ (ap (laid b e) h.memory ∙ laid_most a b at e old h.few h.behind);
    }

pub puts_none : (at : ℕ) (old : List ℕ) → length old < most → at ≤ most → Puts [] at old old at
puts_none at old few low = record { few = few; behind = grind (arith, common_steps); memory = grind (arith, common_steps) }

-- What is counted over no memory is what is written over memory.
pub written : {t seen old new : List ℕ} {count n : ℕ} → Puts t 0 [] seen count → count ≤ length old → Puts t 0 old new n → Writes t old new (Ok n)
written {t} {seen} {old} {new} {count} {n} h fits k =
    let counted = h.behind in
    let ends = k.behind in
    let few = k.few in
    (omega (arith, counted, ends, few, fits), omega (arith, counted, ends, few, fits), k.memory ∙ grind (arith, common_steps, counted, ends, few, fits))

pub no_room : {t seen : List ℕ} {count : ℕ} (old : List ℕ) (f : Full) → Puts t 0 [] seen count → length old < count → Writes t old old (Err f)
no_room old f h long = let counted = h.behind in (omega (arith, counted, long), refl)

-- The same text, as it is called elsewhere.
pub puts_as : {t u old new : List ℕ} {at end : ℕ} → t ≡ u → Puts t at old new end → Puts u at old new end
puts_as {t} {u} {old} {new} {at} {end} is h = subst (λ l. Puts l at old new end) is h
