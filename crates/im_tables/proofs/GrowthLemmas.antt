-- Lists and tables that grow by empty elements.
use Rattle.std.proofs.Common.{◌≡◌, ◌≢◌, ℕ, zero, suc, ◌+◌, ◌<◌, ◌≤◌, List, [], ◌∷◌, ◌++◌, length, get_or, set, max, inl, inr, refl, sym, ap, ◌∙◌, ⊎_elim, arith, le_refl}
use Rattle.std.proofs.lemmas.Bool.{cases_eq, cases_lt}
use Rattle.std.proofs.lemmas.Grind.{get_or-set_at}
use Rattle.std.proofs.lemmas.List.{get_or-set_other, get_or_read, length_push}
use Rattle.im_tables.specs.Table.{AddsUpTo, IsGrown, IsPadded, cell_at, row_of}

-- a default element at the end is never read
get_or-pad : {T : Type 0} (xs : List T) (default : T) (i : ℕ) → get_or (xs ++ default ∷ []) i default ≡ get_or xs i default
get_or-pad [] default zero = refl
get_or-pad [] default (suc i) = refl
get_or-pad (x ∷ xs) default zero = refl
get_or-pad (x ∷ xs) default (suc i) = get_or-pad xs default i

pub IsPadded-refl : {T : Type 0} (default : T) (xs : List T) → IsPadded default xs xs
IsPadded-refl default xs = record { each = λ i. refl; longer = le_refl (length xs) }

pub IsPadded-push : {T : Type 0} (default : T) (old new : List T) → IsPadded default old new → IsPadded default old (new ++ default ∷ [])
IsPadded-push default old new padded = record {
  each = λ i. get_or-pad new default i ∙ padded.each i;
  longer = let long = length_push new default in let before = padded.longer in omega (arith, long, before);
}

-- tables without cells were added
pub IsGrown-padded : {T : Type 0} (empty : T) (old new : List (List T)) → IsPadded [] old new → IsGrown empty old new
unfolding cell_at
IsGrown-padded empty old new padded = record {
  cells = λ table number. ap (λ (row : List _). get_or row number empty) (padded.each table);
  room = λ table. let same = ap (λ (row : List _). length row) (padded.each table) in omega (arith, same);
}

-- a table grew by empty cells
pub IsGrown-line : {T : Type 0} (empty : T) (old new : List (List T)) (table : ℕ) (before row : List T) → IsPadded [] old new → table < length new
    → before ≡ get_or new table before → IsPadded empty before row → IsGrown empty old (set new table row)
unfolding cell_at
IsGrown-line empty old new table before row padded inside was longer =
    let here = λ (k : ℕ) (is : k ≡ table). get_or-set_at new table k row [] is inside in
    let there = λ (k : ℕ) (is : k ≢ table). get_or-set_other new table k row [] is in
    let first = λ (k : ℕ) (is : k ≡ table). get_or_read new table before inside was [] ∙ (padded.each table ∙ ap (row_of old) (sym is)) in
    record {
      cells = λ k number.
          ⊎_elim
          (λ (is : k ≡ table). ap (λ (line : List _). get_or line number empty) (here k is)
          ∙ (longer.each number ∙ ap (λ (line : List _). get_or line number empty) (first k is)))
          (λ (is : k ≢ table). ap (λ (line : List _). get_or line number empty) (there k is ∙ padded.each k))
          (cases_eq k table);
      room = λ k.
          ⊎_elim
          (λ (is : k ≡ table). let now = ap length (here k is) in let then_ = ap length (first k is) in let more =
          longer.longer in omega (arith, now, then_, more))
          (λ (is : k ≢ table). let now = ap length (there k is ∙ padded.each k) in omega (arith, now))
          (cases_eq k table);
    }

-- a cell read in the cells of its table
pub cell_at-row : {T : Type 0} (empty : T) (cells : List (List T)) (table number : ℕ) (row : List T) → row ≡ row_of cells table →
    get_or row number empty ≡ cell_at empty cells table number
unfolding cell_at
cell_at-row empty cells table number row is = ap (λ (line : List _). get_or line number empty) is

-- tables without cells have none
pub AddsUpTo-padded : {T : Type 0} (old new : List (List T)) (table number : ℕ) → IsPadded [] old new → AddsUpTo table number old new
AddsUpTo-padded old new table number padded = record {
  each = λ t n has. let same = ap length (padded.each t) in let below = has.below in inl (record { below = omega (arith, same, below) });
}

-- a table has cells up to this number, or as many as before
pub AddsUpTo-line : {T : Type 0} (old new : List (List T)) (table number : ℕ) (before row : List T) → IsPadded [] old new → table < length new
    → before ≡ get_or new table before → length row ≤ max (length before) (number + 1) → AddsUpTo table number old (set new table row)
AddsUpTo-line old new table number before row padded inside was most = record {
  each = λ t n has.
      let below = has.below in
      ⊎_elim
      (λ (is : t ≡ table).
      let now = ap length (get_or-set_at new table t row [] is inside) in
      let then_ = ap length (get_or_read new table before inside was [] ∙ (padded.each table ∙ ap (row_of old) (sym is))) in
      ⊎_elim
      (λ (within : n < length (row_of old t)). inl (record { below = within }))
      (λ (past : length (row_of old t) ≤ n). inr (is, omega (arith, now, then_, most, below, past)))
      (cases_lt n (length (row_of old t))))
      (λ (other : t ≢ table).
      let same = ap length (get_or-set_other new table t row [] other ∙ padded.each t) in
      inl (record { below = omega (arith, same, below) }))
      (cases_eq t table);
}
