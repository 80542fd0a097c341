-- The pairs that paths join, listed.
use Rattle.std.proofs.Common.{◌≡◌, ◌⊎◌, ◌↔◌, inl, inr, ℕ, ◌<◌, ◌/◌, ◌%◌, List, [], ◌∷◌}
use Rattle.std.proofs.Math.Decide.{ℕ_discrete}
use Rattle.events.specs.Relations.{Rel, ◌⁺, one, more}
use Rattle.events.specs.Paths.{path_join, path_last}
use Rattle.examples.proofs.Decisions.{dec_and, dec_or, dec_if, dec_some, dec_each}

-- the pair a b, both below 10, is listed as the number 10 * a + b
abbrev pub Listed : List ℕ → Rel
Listed [] a b = ⊥
Listed (p ∷ h) a b = ((p / 10 ≡ a) × (p % 10 ≡ b)) ⊎ Listed h a b

abbrev pub dec_listed : (h : List ℕ) (a b : ℕ) → Dec (Listed h a b)
dec_listed [] a b = no (λ l. l)
dec_listed (p ∷ h) a b = dec_or (dec_and (ℕ_discrete (p / 10) a) (ℕ_discrete (p % 10) b)) (dec_listed h a b)

module _ (R : Rel) (n : ℕ) where
  -- each pair is one step, or two pairs after it in a row
  abbrev pub Built : List ℕ → Type 0
  Built [] = Unit {0}
  Built (p ∷ h) = (R (p / 10) (p % 10) ⊎ ((z : ℕ) × (z < n) × (Listed h (p / 10) z × Listed h z (p % 10)))) × Built h

  -- each step is listed, and one after a step
  abbrev pub Closed : List ℕ → Type 0
  Closed h = (a : ℕ) → a < n → (b : ℕ) → b < n → R a b → Listed h a b × ((c : ℕ) → c < n → Listed h b c → Listed h a c)

  built_path : (h : List ℕ) → Built h → (a b : ℕ) → Listed h a b → (R ⁺) a b
  built_path [] t a b l = absurd l
  built_path (p ∷ h) (s, t) a b (inr l) = built_path h t a b l
  built_path (p ∷ h) (inl s, t) a b (inl (e, f)) = let path : (R ⁺) (p / 10) (p % 10) = one s in rw (e, f) at path
  built_path (p ∷ h) (inr (z, lt, (l, m)), t) a b (inl (e, f)) =
      let path : (R ⁺) (p / 10) (p % 10) = path_join (built_path h t (p / 10) z l) (built_path h t z (p % 10) m) in
      rw (e, f) at path

  module _ (dec : (a b : ℕ) → Dec (R a b)) where
    abbrev pub dec_built : (h : List ℕ) → Dec (Built h)
    dec_built [] = yes tt
    dec_built (p ∷ h) =
        dec_and
        (dec_or (dec (p / 10) (p % 10)) (dec_some n _ (λ z. dec_and (dec_listed h (p / 10) z) (dec_listed h z (p % 10)))))
        (dec_built h)

    abbrev pub dec_closed : (h : List ℕ) → Dec (Closed h)
    dec_closed h =
        dec_each n _ (λ a. dec_each n _ (λ b. dec_if (dec a b)
        (dec_and (dec_listed h a b) (dec_each n _ (λ c. dec_if (dec_listed h b c) (dec_listed h a c))))))

    abbrev pub dec_table : (h : List ℕ) → Dec (Built h × Closed h)
    dec_table h = dec_and (dec_built h) (dec_closed h)

-- the pairs of h are those that paths of R join
abbrev pub Tables : Rel → List ℕ → Type 0
Tables R h = (a b : ℕ) → Listed h a b ↔ (R ⁺) a b

module _ (R : Rel) (n : ℕ) (low : (a b : ℕ) → R a b → (a < n) × (b < n)) (h : List ℕ) where
  path_listed : Closed R n h → (a b : ℕ) → (R ⁺) a b → Listed h a b
  path_listed closed a b (one s) = (closed a (low a b s).0 b (low a b s).1 s).0
  path_listed closed a b (more {b = m} s p) =
      let (y, l) = path_last p in
      (closed a (low a m s).0 m (low a m s).1 s).1 b (low y b (l.1)).1 (path_listed closed m b p)

  pub tables : Built R n h → Closed R n h → Tables R h
  tables built closed a b = (built_path R n h built a b, path_listed closed a b)
