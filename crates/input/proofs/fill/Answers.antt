use Rattle.std.proofs.Common.{◌≡◌, ◌+◌, ◌≤◌, ℕ, List, ◌++◌, ◌∙◌, length, take, drop, rules, ap, le_refl, length-take-le, subst, sym}
use Rattle.std.specs.Prelude.{Option}
use Rattle.std.proofs.Math.Seq.{take-append-add, take-append-le, drop-append-add}
use Rattle.std.proofs.lemmas.List.{drop-append-le, drop-drop}
use Rattle.std.proofs.lemmas.Slice.{take-put_mid_below}
use Rattle.std.proofs.lemmas.Result.{MatchResult-from_err}
use Rattle.std.proofs.KnownBytes.{Consumes-kept, Consumes-trans}
use Rattle.std.specs.Io.KnownBytes.{Consumes, Keeps}
use borrow.Rule.Slice.PartMut.{put_mid, put_same, mid_of, post_of}
use Rattle.input.proofs.fill.Goals as goal

-- after a read into `xs[i..]` that left ys there and gave n bytes, what it gave follows the first i bytes
take-put_mid_more : (i k n : ℕ) (xs ys : List ℕ) → i ≤ length xs → n ≤ length ys → take (i + n) (put_mid i k xs ys) ≡ take i xs ++ take n ys
take-put_mid_more i k n xs ys within fits =
    let front = take i xs in
    let rest = ys ++ post_of i k xs in
    ap (λ m. take (m + n) (front ++ rest)) (sym (length-take-le i xs within)) ∙ take-append-add front rest n
    ∙ ap (λ l. front ++ l) (take-append-le n ys (post_of i k xs) fits)

-- so what the input has lost is at the front again
consumed_more : (a b c : Option (List ℕ)) (i k n : ℕ) (xs ys : List ℕ) → i ≤ length xs → n ≤ length ys → Consumes a b (take i xs) → Consumes b c (take n ys)
    → Consumes a c (take (i + n) (put_mid i k xs ys))
consumed_more a b c i k n xs ys within fits before read =
    subst (Consumes a c) (sym (take-put_mid_more i k n xs ys within fits)) (Consumes-trans a b c _ _ before read)

-- a read that failed has written nothing
consumed_still : (a b c : Option (List ℕ)) (i k : ℕ) (xs ys : List ℕ) → i ≤ length xs → Consumes a b (take i xs) → Keeps b c
    → Consumes a c (take i (put_mid i k xs ys))
consumed_still a b c i k xs ys within before read =
    subst (Consumes a c) (sym (take-put_mid_below i k xs ys i (le_refl i) within)) (Consumes-kept a b c _ before read)

-- what stands behind the n bytes
drop-put_mid_more : (i k n : ℕ) (xs ys : List ℕ) → i ≤ length xs → n ≤ length ys → drop (i + n) (put_mid i k xs ys) ≡ drop n ys ++ post_of i k xs
drop-put_mid_more i k n xs ys within fits =
    let front = take i xs in
    let rest = ys ++ post_of i k xs in
    ap (λ m. drop (m + n) (front ++ rest)) (sym (length-take-le i xs within)) ∙ drop-append-add front rest n ∙ drop-append-le n ys (post_of i k xs) fits

-- is what stood there
drop-put_mid_kept : (i k n : ℕ) (xs ys : List ℕ) → i ≤ length xs → n ≤ length ys → length ys ≡ length (mid_of i k xs)
    → drop n ys ≡ drop n (mid_of i k xs) → drop (i + n) (put_mid i k xs ys) ≡ drop (i + n) xs
drop-put_mid_kept i k n xs ys within fits long same =
    drop-put_mid_more i k n xs ys within fits ∙ ap (λ l. l ++ post_of i k xs) same
    ∙ sym (drop-put_mid_more i k n xs (mid_of i k xs) within (subst (λ m. n ≤ m) long fits)) ∙ ap (drop (i + n)) (put_same i k xs)

-- and so what stood there before the first read
kept_on : (i k n : ℕ) (xs ys old : List ℕ) → i ≤ length xs → n ≤ length ys → length ys ≡ length (mid_of i k xs)
    → drop n ys ≡ drop n (mid_of i k xs) → drop i xs ≡ drop i old → drop (i + n) (put_mid i k xs ys) ≡ drop (i + n) old
kept_on i k n xs ys old within fits long same before =
    drop-put_mid_kept i k n xs ys within fits long same ∙ sym (drop-drop n i xs) ∙ ap (drop n) before ∙ drop-drop n i old

pub loop-n-preserved : goal.loop-n-preserved
loop-n-preserved g c = (
  search rules,
  search (rules, consumed_more),
  kept_on c.loop-n.n _ c.in_ok-got.got c.loop-n.buffer c.read_once.new.rest c.args.buffer.now
      (search rules) (search rules) (search rules) (search rules) (search rules),
)

-- what a failed read leaves
unread : (i k : ℕ) (xs ys old : List ℕ) → ys ≡ mid_of i k xs → drop i xs ≡ drop i old → drop i (put_mid i k xs ys) ≡ drop i old
unread i k xs ys old same before = ap (λ zs. drop i (put_mid i k xs zs)) same ∙ ap (drop i) (put_same i k xs) ∙ before

pub returns-in_err-got-clause-none_lost : goal.returns-in_err-got-clause-none_lost
returns-in_err-got-clause-none_lost g c =
    MatchResult-from_err c.from_residual.result _ _ c.from_residual.ensures.0
    (λ _. (c.loop-n.n, search rules, (search (rules, consumed_still), unread c.loop-n.n _ c.loop-n.buffer c.read_once.new.rest c.args.buffer.now (search rules) (search rules))))
