-- Laws of paths, of one or more steps of a relation. These are proofs; they stand here since a law of an impl cites only what is in
-- specs/.
use Rattle.std.proofs.Common.{ℕ, ◌≡◌, ◌⊎◌, inl, inr, sym, refl}
use Rattle.events.specs.Relations.{Rel, ◌⁺, one, more}

-- one path after another
pub path_join : {r : Rel} {a b c : ℕ} → (r ⁺) a b → (r ⁺) b c → (r ⁺) a c
path_join (one s) q = more s q
path_join (more s p) q = more s (path_join p q)

-- a path through steps that are steps or paths of another relation
pub path_through : {r s : Rel} → ((a b : ℕ) → r a b → (s ⁺) a b) → {a b : ℕ} → (r ⁺) a b → (s ⁺) a b
path_through f (one {a} {b} s) = f a b s
path_through f (more {a} {b} s p) = path_join (f a b s) (path_through f p)

-- the last step of a path, taken off
pub path_last : {r : Rel} {a c : ℕ} → (r ⁺) a c → (b : ℕ) × (((a ≡ b) ⊎ (r ⁺) a b) × r b c)
path_last (one {a} s) = (a, (inl refl, s))
path_last (more s p) = let l = path_last p in (l.0, (inr (elim (l.1.0) [ inl e ↦ rw (sym e) (one s) | inr q ↦ more s q ]), l.1.1))
