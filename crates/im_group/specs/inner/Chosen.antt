-- Rows that the bits of words choose, and groups that take them.
use Rattle.std.specs.Prelude.{◌≡◌, ℕ, ◌/◌, ◌%◌, ◌<◌, ◌^◌, ◌*◌, ◌==◌, Bool, List, [], ◌∷◌, length, take, drop, fold, filter, if◌then◌else◌}
use Rattle.std.specs.List.{AllByRecursion}
use Rattle.im_values.specs.declared.content.Content.{Content as Value}
use Rattle.im_group.specs.declared.asked.Asked.{Asked}
use Rattle.im_group.specs.Tallies.{Tallied}
use Rattle.im_group.specs.Partials.{key_of}
use Rattle.im_group.specs.inner.Holding.{with_taken, CanTake}

-- the elements of a list at the bits of a word that are set, from the lowest on
abbrev pub at_bits : {A : Type 0} → ℕ → List A → List A
at_bits word [] = []
at_bits word (x ∷ xs) = if word % 2 == 1 then x ∷ at_bits (word / 2) xs else at_bits (word / 2) xs

-- the rows of a word, from a place on
abbrev pub share_of : List (List Value) → ℕ → List (List Value)
share_of rows first = take 64 (drop first rows)

-- a row has the columns of a key, and those that are asked
pub record HasSeen (columns : List ℕ) (asked : List Asked) (row : List Value) : Type 0 where
  pub keyed : AllByRecursion (λ column. column < length row) columns
  pub fits : AllByRecursion (λ a. a.column < length row) asked

-- groups that take rows one after the other, each by its key
abbrev pub with_row : List ℕ → List Asked → List (List Value × Tallied) → List Value → List (List Value × Tallied)
with_row columns asked groups row = with_taken asked groups (key_of columns row) row

abbrev pub with_rows : List ℕ → List Asked → List (List Value × Tallied) → List (List Value) → List (List Value × Tallied)
with_rows columns asked groups rows = fold (with_row columns asked) groups rows

-- the counts of each group stay below 2^64 with each of these rows
abbrev pub CanTakeEach : List ℕ → List Asked → List (List Value × Tallied) → List (List Value) → Type 0
CanTakeEach columns asked groups [] = Unit {0}
CanTakeEach columns asked groups (row ∷ rows) =
    CanTake asked groups (key_of columns row) × CanTakeEach columns asked (with_row columns asked groups row) rows

-- the rows at the bits that are left of a word can be taken, and come to the whole
pub record IsLeft (columns : List ℕ) (asked : List Asked) (rows : List (List Value)) (rest : ℕ) (now whole : List (List Value × Tallied)) : Type 0 where
  pub few : rest < 2 ^ length rows
  pub room : CanTakeEach columns asked now (at_bits rest rows)
  pub comes : with_rows columns asked now (at_bits rest rows) ≡ whole

-- those of the rows from a word on that are kept can be taken, and come to the whole
pub record AreLeft (keeps : List Value → Bool) (columns : List ℕ) (asked : List Asked) (rows : List (List Value)) (place : ℕ)
    (now whole : List (List Value × Tallied)) : Type 0 where
  pub room : CanTakeEach columns asked now (filter keeps (drop (place * 64) rows))
  pub comes : with_rows columns asked now (filter keeps (drop (place * 64) rows)) ≡ whole
