-- Relations between numbered events, and the operators that the axioms are written in.
use Rattle.std.specs.Prelude.{◌≡◌, ◌≢◌, ◌⊎◌, ℕ}

abbrev pub Rel : Type 1
Rel = ℕ → ℕ → Type 0

-- one step of r, then one of s
infixr 60 ◌⨾◌
abbrev pub ◌⨾◌ : Rel → Rel → Rel
◌⨾◌ r s a c = (b : ℕ) × (r a b) × (s b c)

infixr 50 ◌∪◌
abbrev pub ◌∪◌ : Rel → Rel → Rel
◌∪◌ r s a b = r a b ⊎ s a b

-- r without the pairs of an event with itself
infix 80 ◌∖id
abbrev pub ◌∖id : Rel → Rel
◌∖id r a b = r a b × (a ≢ b)

-- an optional step
infix 80 ◌？
abbrev pub ◌？ : Rel → Rel
◌？ r a b = (a ≡ b) ⊎ r a b

infix 80 ◌⁻¹
abbrev pub ◌⁻¹ : Rel → Rel
◌⁻¹ r a b = r b a

-- one or more steps
infix 80 ◌⁺
pub data ◌⁺ (r : Rel) : ℕ → ℕ → Type 0 where
  one : {a b : ℕ} → r a b → (r ⁺) a b
  more : {a b c : ℕ} → r a b → (r ⁺) b c → (r ⁺) a c

-- the events of a set, each with itself
abbrev pub ⟦◌⟧ : (ℕ → Type 0) → Rel
⟦◌⟧ p a b = (a ≡ b) × p a

abbrev pub Irreflexive : Rel → Type 0
Irreflexive r = (a : ℕ) → ¬ r a a

abbrev pub Acyclic : Rel → Type 0
Acyclic r = Irreflexive (r ⁺)
