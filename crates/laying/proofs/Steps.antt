-- What is gathered so far: the members before place j of the class at place k, and those of the classes before it.
use Rattle.std.proofs.Common.{◌≡◌, ◌≢◌, ◌⊎◌, inl, inr, ⊎_elim, ℕ, ◌+◌, ◌<◌, ◌≤◌, List, length, get_or, set, take, drop, refl, sym, ◌∙◌, arith}
use Rattle.std.proofs.lemmas.Bool.{cases_lt}
use Rattle.std.proofs.lemmas.Grind.{get_or-set_at, drop_more_same}
use Rattle.std.proofs.lemmas.List.{get_or-set_other, get_or-take, length-take-le, drop-set-lt}
use Rattle.laying.specs.Gathers.{Different, Earlier, Gathers}
use Rattle.laying.proofs.Laws.{earlier_apart}
use Rattle.laying.proofs.Room.{room_for_more}

-- the pair (a, b) of a place of a class and a place of a member comes before (k, j)
abbrev pub Passed : ℕ → ℕ → ℕ → ℕ → Type 0
Passed k j a b = (a < k) ⊎ ((a ≡ k) × (b < j))

module _ (class : ℕ → ℕ) (members classes : List ℕ) where
  -- w is the member at place b, of the class at place a
  pub record Stands (a b w : ℕ) : Type 0 where
    pub class_in : a < length classes
    pub member_in : b < length members
    pub class_is : get_or classes a 0 ≡ class w
    pub member_is : get_or members b 0 ≡ w

  -- the first `count` places of o have the members that were passed, in their order, and the others what they had
  pub record Begun (old : List ℕ) (k j : ℕ) (o : List ℕ) (count : ℕ) : Type 0 where
    pub few : count ≤ length members
    pub rest : drop count o ≡ drop count old
    pub only : (i : ℕ) → i < count → (a : ℕ) × (b : ℕ) × Passed k j a b × Stands a b (get_or o i 0)
    pub all : (a b w : ℕ) → Passed k j a b → Stands a b w → (i : ℕ) × (i < count) × (get_or o i 0 ≡ w)
    pub sorted : (i m : ℕ) → i < m → m < count → Earlier class members classes (get_or o i 0) (get_or o m 0)

  pub begun_none : (o : List ℕ) → Begun o 0 0 o 0
  begun_none o =
      record {
        few = omega arith;
        rest = refl;
        only = λ i h. absurd (omega arith);
        all = λ a b w p s. absurd (omega arith);
        sorted = λ i m less h. absurd (omega arith);
      }

  -- the next class
  pub begun_class : (old : List ℕ) (k : ℕ) (o : List ℕ) (count : ℕ) → Begun old k (length members) o count → Begun old (k + 1) 0 o count
  begun_class old k o count s =
      record {
        few = s.few;
        rest = s.rest;
        only = λ i h. let (a, b, p, is) = s.only i h in (a, b, inl (omega arith), is);
        all = λ a b w p is. let m = is.member_in in s.all a b w (grind arith) is;
        sorted = s.sorted;
      }

  pub begun_all : (old o : List ℕ) (count : ℕ) → length members ≤ length o → Begun old (length classes) 0 o count → Gathers class members classes (take count o)
  begun_all old o count long s =
      let few = s.few in
      let size = length-take-le count o (omega arith) in
      record {
        only = λ i lt. let (a, b, p, is) = s.only i (omega arith) in
            rw (at i (omega arith)) ((b, is.member_in, is.member_is), (a, is.class_in, is.class_is));
        all = λ e (b, m, f) (a, c, g).
            let (i, lt, d) = s.all a b e (inl c) (record { class_in = c; member_in = m; class_is = g; member_is = f }) in
            (i, omega arith, at i lt ∙ d);
        sorted = λ i m less lt. rw (at i (omega arith), at m (omega arith)) (s.sorted i m less (omega arith));
      }
    where
      at : (i : ℕ) → i < count → get_or (take count o) i 0 ≡ get_or o i 0
      at i h = get_or-take count o i 0 h

  -- the member at place j against the class at place k
  module _ (old : List ℕ) (k j : ℕ) (o : List ℕ) (count : ℕ) (s : Begun old k j o count) (in_classes : k < length classes) (in_members : j < length members) where
    split : (a b : ℕ) → Passed k (j + 1) a b → Passed k j a b ⊎ ((a ≡ k) × (b ≡ j))
    split a b p = grind arith

    pub begun_skip : class (get_or members j 0) ≢ get_or classes k 0 → Begun old k (j + 1) o count
    begun_skip other =
        record {
          few = s.few;
          rest = s.rest;
          only = λ i h. let (a, b, p, is) = s.only i h in (a, b, grind arith, is);
          all = λ a b w p at.
              let c = at.class_is in
              let m = at.member_is in
              ⊎_elim (λ q. s.all a b w q at) (λ (e, f). absurd (other (cc))) (split a b p);
          sorted = s.sorted;
        }

    module _ (once : Different members) (apart : Different classes) (is : class (get_or members j 0) ≡ get_or classes k 0) where
      after : (i : ℕ) → i < count → Earlier class members classes (get_or o i 0) (get_or members j 0)
      after i h =
          let (a, b, p, at) = s.only i h in
          let c = at.class_is in
          ⊎_elim (λ less. inl (a, k, less, in_classes, at.class_is, sym is))
          (λ (same, less). inr ((cc), (b, j, less, in_members, at.member_is, refl)))
          p

      pub begun_room : count < length members
      begun_room =
          room_for_more members count (get_or members j 0) (λ i. get_or o i 0)
          (λ i h. let (a, b, p, at) = s.only i h in (b, at.member_in, at.member_is))
          (λ i m less h. earlier_apart class members classes once apart _ _ (s.sorted i m less h))
          (j, in_members, refl)
          (λ i h. earlier_apart class members classes once apart _ _ (after i h))

      module _ (long : length members ≤ length o) where
        room : count < length o
        room = let r = begun_room in omega arith

        abbrev next : List ℕ
        next = set o count (get_or members j 0)

        before : (i : ℕ) → i < count → get_or next i 0 ≡ get_or o i 0
        before i h = get_or-set_other o count i (get_or members j 0) 0 (omega arith)

        at : (i : ℕ) → i ≡ count → get_or next i 0 ≡ get_or members j 0
        at i e = get_or-set_at o count i (get_or members j 0) 0 e room

        pub begun_more : Begun old k (j + 1) next (count + 1)
        begun_more =
            record {
              few = let r = begun_room in omega arith;
              rest = drop-set-lt (count + 1) o count (get_or members j 0) (omega arith) ∙ drop_more_same o old count s.rest;
              only = λ i h.
                  ⊎_elim
                  (λ less. let (a, b, p, is) = s.only i less in (a, b, grind arith, rw (before i less) is))
                  (λ ge. (k, j, inr (refl, omega arith), rw (at i (omega arith)) (record { class_in = in_classes; member_in = in_members; class_is = sym is; member_is = refl })))
                  (cases_lt i count);
              all = λ a b w p is.
                  ⊎_elim (λ q. let (i, h, e) = s.all a b w q is in (i, omega arith, before i h ∙ e))
                  (λ (e, f). (count, omega arith, at count refl ∙ rw (← f) is.member_is)) (split a b p);
              sorted = λ i m less h.
                  ⊎_elim
                  (λ low. rw (before i (omega arith), before m low) (s.sorted i m less low))
                  (λ ge. rw (before i (omega arith), at m (omega arith)) (after i (omega arith)))
                  (cases_lt m count);
            }
