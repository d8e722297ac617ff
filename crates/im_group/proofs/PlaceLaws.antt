-- A table of where columns stand, filled from the last column to the first.
use Rattle.std.proofs.Common.{◌≡◌, ℕ, zero, suc, ◌+◌, ◌<◌, ◌==◌, Bool, true, false, cond, List, [], ◌∷◌, ◌++◌, length, drop, get_or, Option, None, Some, refl, sym, ap, ◌∙◌, arith}
use Rattle.std.specs.Option.{ForSome}
use Rattle.std.proofs.lemmas.Bool.Decides.{nat_tests}
use Rattle.std.proofs.Math.Seq.{drop-cons}
use Rattle.im_values.specs.declared.content.Content.{Content as Value}
use Rattle.im_values.specs.declared.content.Content.TheVariants as value
use Rattle.im_group.specs.Answers.{key_value}
use Rattle.im_group.specs.inner.Places.{AreIn, AreIfPut, IsFirst, SaysNothing}

-- ---- the first value of a column in a key

none-of : (columns : List ℕ) (column : ℕ) → key_value columns [] column ≡ value.Null
none-of [] column = refl
none-of (c ∷ cs) column = refl

first-from : (key : List Value) (from : ℕ) → get_or (drop from key) 0 value.Null ≡ get_or key from value.Null
first-from [] zero = refl
first-from [] (suc n) = refl
first-from (v ∷ key) zero = refl
first-from (v ∷ key) (suc n) = first-from key n

behind : (key : List Value) (from : ℕ) → drop 1 (drop from key) ≡ drop (suc from) key
behind [] zero = refl
behind [] (suc n) = refl
behind (v ∷ key) zero = refl
behind (v ∷ key) (suc n) = behind key n

at-first : (c column : ℕ) (cs : List ℕ) (key : List Value) → column ≡ c → key_value (c ∷ cs) key column ≡ get_or key 0 value.Null
at-first c column cs [] is = refl
at-first c column cs (v ∷ key) is =
    let same : (c == column) ≡ true = grind (arith, nat_tests, is) in
    ap (λ b. cond b v (key_value cs key column)) same

past-first : (c column : ℕ) (cs : List ℕ) (key : List Value) → (column ≡ c → ⊥) → key_value (c ∷ cs) key column ≡ key_value cs (drop 1 key) column
past-first c column cs [] apart = sym (none-of cs column)
past-first c column cs (v ∷ key) apart =
    let other : (c == column) ≡ false = grind (arith, nat_tests, apart) in
    ap (λ b. cond b v (key_value cs key column)) other

-- ---- the table

-- a table that says nothing says nothing wrong
pub says-nothing : (columns : List ℕ) (from : ℕ) (places : List (Option ℕ)) → SaysNothing places → AreIn columns from places
says-nothing columns from places is = record {
  at = λ column place told. let none : None ≡ Some place = sym (is.at column) ∙ told in absurd cc;
}

pub empty-says : SaysNothing []
empty-says = record { at = λ column. refl }

pushed : (places : List (Option ℕ)) (k : ℕ) → get_or places k None ≡ None → get_or (places ++ None ∷ []) k None ≡ None
pushed [] zero is = refl
pushed [] (suc k) is = refl
pushed (p ∷ places) zero is = is
pushed (p ∷ places) (suc k) is = pushed places k is

pub pushed-says : (places : List (Option ℕ)) → SaysNothing places → SaysNothing (places ++ None ∷ [])
pushed-says places is = record { at = λ column. pushed places column (is.at column) }

-- one column more, in front of the others
pub one-more : (columns : List ℕ) (at column : ℕ) (old new : List (Option ℕ)) → at < length columns → column ≡ get_or columns at 0
    → AreIn (drop (suc at) columns) (suc at) old → AreIfPut old column at new → AreIn (drop at columns) at new
one-more columns at column old new within is are put = record {
  at = λ c place told key.
      ap (λ l. key_value l (drop at key) c) (drop-cons columns at 0 within ∙ ap (λ d. d ∷ drop (suc at) columns) (sym is))
      ∙ go c place told key (c == column) refl;
}
  where
    rest : List ℕ
    rest = drop (suc at) columns

    go : (c place : ℕ) → get_or new c None ≡ Some place → (key : List Value) → (b : Bool) → (c == column) ≡ b
        → key_value (column ∷ rest) (drop at key) c ≡ get_or key place value.Null
    go c place told key true e =
        let same : c ≡ column = grind (arith, nat_tests, e) in
        at-first column c rest (drop at key) same
        ∙ (first-from key at
        ∙ ap (λ n. get_or key n value.Null) (sym (put.here place (ap (λ n. get_or new n None) (sym same) ∙ told))))
    go c place told key false e =
        let apart : c ≡ column → ⊥ = λ same. let yes : (c == column) ≡ true = grind (arith, nat_tests, same) in absurd cc in
        past-first column c rest (drop at key) apart
        ∙ (ap (λ l. key_value rest l c) (behind key at)
        ∙ are.at c place (sym (put.others c apart) ∙ told) key)
