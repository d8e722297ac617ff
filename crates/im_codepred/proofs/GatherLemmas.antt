-- The values of a run that are gathered word by word.
use Rattle.std.proofs.Common.{◌≡◌, ℕ, ◌+◌, ◌-◌, ◌/◌, ◌%◌, ◌^◌, ◌<◌, ◌≤◌, List, [], ◌∷◌, length, take, drop, get_or, ⊎_elim, refl, sym, ap, ◌∙◌, arith, length-take, length-drop, get_or-take, get_or-drop}
use Rattle.std.proofs.Math.Nat.{pow-suc}
use Rattle.std.proofs.Math.Pow.{pow_mono}
use Rattle.std.proofs.lemmas.Bool.{cases_lt}
use Rattle.std.proofs.lemmas.List.{length-map, get_or-map}
use Rattle.im_values.specs.declared.content.Content.{Content as Value}
use Rattle.im_values.specs.declared.content.Content.TheVariants.{Null}
use Rattle.im_syntax.specs.BoundFits.{value_at}
use Rattle.im_codepred.specs.inner.Slabs.{column_of}
use Rattle.im_codepred.specs.inner.Tallying.{at_bits}

-- the values that belong to a word
abbrev pub share_of : List (List Value) → ℕ → ℕ → List Value
share_of rows column first = take 64 (drop first (column_of rows column))

-- there are as many as rows are left, and 64 at most
pub record Reaches (rows : List (List Value)) (column first k : ℕ) : Type 0 where
  pub few : k < 64
  pub inside : first + k < length rows
  pub reads : value_at (get_or rows (first + k) []) column ≡ get_or (share_of rows column first) k Null

-- a row that is left
pub column-left : (rows : List (List Value)) (column first k : ℕ) → first + k < length rows → k < length (drop first (column_of rows column))
column-left rows column first k inside =
    omega (arith, length-drop first (column_of rows column), length-map rows (λ row. value_at row column), inside)

pub reads-rest : (rows : List (List Value)) (column first k : ℕ) → first + k < length rows →
    value_at (get_or rows (first + k) []) column ≡ get_or (drop first (column_of rows column)) k Null
reads-rest rows column first k inside =
    sym (get_or-drop first (column_of rows column) k Null ∙ get_or-map (λ row. value_at row column) rows (first + k) [] Null inside)

reads-share : (rows : List (List Value)) (column first k : ℕ) → k < 64 → first + k < length rows →
    value_at (get_or rows (first + k) []) column ≡ get_or (share_of rows column first) k Null
reads-share rows column first k few inside =
    reads-rest rows column first k inside ∙ sym (get_or-take 64 (drop first (column_of rows column)) k Null few)

pub reaches : (rows : List (List Value)) (column first k : ℕ) → k < 64 → first + k < length rows → Reaches rows column first k
reaches rows column first k few inside = record { few = few; inside = inside; reads = reads-share rows column first k few inside }

pub share-reaches : (rows : List (List Value)) (column first k : ℕ) → k < length (share_of rows column first) → Reaches rows column first k
share-reaches rows column first k below =
    let vs = column_of rows column in
    let size = length-map rows (λ row. value_at row column) in
    let taken = length-take 64 (drop first vs) in
    let left = length-drop first vs in
    reaches rows column first k (omega (arith, below, taken)) (omega (arith, below, taken, left, size))

-- where 64 rows are left they are all of a word
pub share-full : (rows : List (List Value)) (column first : ℕ) → first + 64 ≤ length rows → length (share_of rows column first) ≡ 64
share-full rows column first inside =
    let vs = column_of rows column in
    let size = length-map rows (λ row. value_at row column) in
    let taken = length-take 64 (drop first vs) in
    let left = length-drop first vs in
    omega (arith, inside, taken, left, size)

-- each bit of a word is set, of as many as there are elements
pub at_bits-all : {A : Type 0} (xs : List A) (w : ℕ) → w + 1 ≡ 2 ^ length xs → at_bits w xs ≡ xs
at_bits-all [] w all = refl
at_bits-all (x ∷ xs) w all =
    let double = pow-suc 2 (length xs) in
    let odd : w % 2 ≡ 1 = omega (arith, all, double) in
    let half : w / 2 + 1 ≡ 2 ^ length xs = omega (arith, all, double) in
    rw (odd, at_bits-all xs (w / 2) half) refl

-- a word of which each bit is set has 64 elements
long-enough : (n w : ℕ) → w ≡ 2 ^ 64 - 1 → w < 2 ^ n → 64 ≤ n
long-enough n w is few =
    ⊎_elim (λ (h : n < 64).
    let low = pow_mono {i = n} {j = 63} (omega (arith, h)) in
    absurd (omega (arith, low, is, few)))
    (λ (h : 64 ≤ n). h)
    (cases_lt n 64)

pub word-full : (rows : List (List Value)) (column first w : ℕ) → w ≡ 2 ^ 64 - 1 → w < 2 ^ length (share_of rows column first) → first + 64 ≤ length rows
word-full rows column first w is few =
    let vs = column_of rows column in
    let enough = long-enough (length (share_of rows column first)) w is few in
    let size = length-map rows (λ row. value_at row column) in
    let taken = length-take 64 (drop first vs) in
    let left = length-drop first vs in
    omega (arith, enough, taken, left, size)

pub word-all : (rows : List (List Value)) (column first w : ℕ) → w ≡ 2 ^ 64 - 1 → w < 2 ^ length (share_of rows column first) →
    share_of rows column first ≡ at_bits w (share_of rows column first)
word-all rows column first w is few =
    let full = share-full rows column first (word-full rows column first w is few) in
    let all : w + 1 ≡ 2 ^ length (share_of rows column first) = omega (arith, is) ∙ sym (ap (λ n. 2 ^ n) full) in
    sym (at_bits-all (share_of rows column first) w all)
