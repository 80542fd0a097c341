-- Calls written one behind the other.
use Rattle.std.proofs.Common.{◌≡◌, ℕ, ◌+◌, ◌-◌, ◌<◌, ◌≤◌, Bool, true, false, List, [], ◌∷◌, ◌++◌, length, map, take, drop, set, refl, sym, ap, ◌∙◌, arith}
use Rattle.std.proofs.lemmas.List.{append-nil, append_assoc, length-append, length_push, length-map, set-append_right, drop-set, drop-set-add, drop-drop, length-drop, take_all, drop_all, map_push, map-id}
use Rattle.std.proofs.lemmas.List.FromFn.{filter_of_map_range_with_len_more, length-map-range_with_len, map-range_with_len_more}
use Rattle.std.proofs.Math.Seq.{take-append_seam, drop-append_seam}
use Rattle.std.specs.Prelude.{if◌then◌else◌}
use Rattle.std.specs.List.{filter, range_with_len}
use Rattle.sessions.specs.Recording.{Heads}
use Rattle.sessions.specs.declared.calls.Call.{Call}

-- one call more
pub heads_next : (cs old now : List Call) (c : Call) (k : ℕ) → Heads cs old now → k ≡ length cs → k < length old → Heads (cs ++ c ∷ []) old (set now k c)
heads_next cs old now c k heads here room =
    let n = length cs in
    let same : n + 0 ≡ n = omega arith in
    let none : n - n ≡ 0 = omega arith in
    let first : set (drop n old) 0 c ≡ c ∷ drop (n + 1) old = sym (drop-set-add n old 0 c) ∙ rw same (drop-set old n c (omega arith)) in
    let written : set (cs ++ drop n old) n c ≡ cs ++ (c ∷ drop (n + 1) old) = set-append_right cs (drop n old) n n c refl (omega arith) ∙ rw none (ap (λ rest. cs ++ rest) first) in
    rw (here, heads, written, length_push cs c, append_assoc cs (c ∷ []) (drop (n + 1) old)) refl

-- one call for each number
pub heads_mapped : (f : ℕ → Call) (before old now : List Call) (i k : ℕ) → 1 ≤ i → length before + (i - 1) ≡ k → k < length old → Heads (before ++ map f (range_with_len 1 (i - 1))) old now → Heads (before ++ map f (range_with_len 1 (i + 1 - 1))) old (set now k (f i))
heads_mapped f before old now i k low here room heads =
    let one : i + 1 - 1 ≡ i - 1 + 1 = omega arith in
    let more = map-range_with_len_more f 1 (i - 1) i (omega arith) in
    let size = length-append before (map f (range_with_len 1 (i - 1))) ∙ ap (λ n. length before + n) (length-map-range_with_len f 1 (i - 1)) in
    rw (one, more, ← append_assoc before (map f (range_with_len 1 (i - 1))) (f i ∷ [])) (heads_next _ old now (f i) k heads (omega arith) room)

-- calls behind the calls at the head
pub heads_more : (cs ds old mid part : List Call) (k : ℕ) → k ≡ length cs → Heads cs old mid → Heads ds (take (length mid - k) (drop k mid)) part → Heads (cs ++ ds) old (take k mid ++ (part ++ drop (length mid - k) (drop k mid)))
heads_more cs ds old mid part k here heads more =
    let n = length cs in
    let size : length (drop n mid) ≡ length mid - n = length-drop n mid in
    let all : take (length mid - n) (drop n mid) ≡ drop n mid = take_all (length mid - n) (drop n mid) (omega arith) in
    let none : drop (length mid - n) (drop n mid) ≡ [] = drop_all (length mid - n) (drop n mid) (omega arith) in
    let front : take n mid ≡ cs = rw heads (take-append_seam cs (drop n old)) in
    let back : drop n mid ≡ drop n old = rw heads (drop-append_seam cs (drop n old)) in
    let rest : part ≡ ds ++ drop (length ds) (drop n old) = rw here at more ∙ ap (λ xs. ds ++ drop (length ds) xs) (all ∙ back) in
    rw (here, none, front, rest, append-nil (ds ++ drop (length ds) (drop n old)), drop-drop (length ds) n old, length-append cs ds, append_assoc cs ds (drop (n + length ds) old)) refl

-- of the numbers below one, those that pass a test
module _ (p : ℕ → Bool) where
  abbrev pub passing : ℕ → List ℕ
  passing i = filter p (range_with_len 1 (i - 1))

  passing_next : (i : ℕ) → 1 ≤ i → passing (i + 1) ≡ passing i ++ (if p i then i ∷ [] else [])
  passing_next i low =
      let one : i + 1 - 1 ≡ i - 1 + 1 = omega arith in
      let more = filter_of_map_range_with_len_more p (λ i. i) 1 (i - 1) i (omega arith) in
      rw one (rw (map-id (range_with_len 1 (i - 1 + 1)), map-id (range_with_len 1 (i - 1))) at more)

  pub passing_more : (i : ℕ) → 1 ≤ i → p i ≡ true → passing (i + 1) ≡ passing i ++ i ∷ []
  passing_more i low passes = passing_next i low ∙ rw passes refl

  pub passing_same : (i : ℕ) → 1 ≤ i → p i ≡ false → passing (i + 1) ≡ passing i
  passing_same i low fails = passing_next i low ∙ rw (fails, append-nil (passing i)) refl

  -- and one call for each of these
  pub heads_passing : (f : ℕ → Call) (old now : List Call) (i k : ℕ) → 1 ≤ i → p i ≡ true → k ≡ length (passing i) → k < length old → Heads (map f (passing i)) old now → Heads (map f (passing (i + 1))) old (set now k (f i))
  heads_passing f old now i k low passes here room heads = rw (passing_more i low passes, map_push f (passing i) i) (heads_next _ old now (f i) k heads (here ∙ sym (length-map (passing i) f)) room)

  pub one_more : (i : ℕ) → 1 ≤ i → p i ≡ true → length (passing (i + 1)) ≡ length (passing i) + 1
  one_more i low passes = rw (passing_more i low passes) (length_push (passing i) i)
