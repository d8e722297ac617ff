-- The row numbers given by table, as changes are noted.
use Rattle.std.proofs.Common.{◌≡◌, ℕ, zero, suc, ◌+◌, ◌==◌, if◌then◌else◌, max, List, [], ◌∷◌, ◌++◌, take, slice_get, Some, get_or, refl, sym, ap, subst, ◌∙◌, arith}
use Rattle.std.proofs.lemmas.List.Sums.{fold-append}
use Rattle.im_history.specs.declared.change.Change.{Change}
use Rattle.im_history.specs.declared.changes.LentChange.{LentChange}
use Rattle.im_history.specs.Puts.{lent_change}
use Rattle.im_history.specs.Tables.{given_by}
use Rattle.im_standby.specs.inner.Applying.{IsNoted}

-- no changes
pub IsNoted-none : (ends : List ℕ) → IsNoted ends ends []
IsNoted-none ends = record { each = λ table. refl }

-- those of one list and then those of another
pub given_by-append : (table n : ℕ) (changes more : List Change) → given_by table n (changes ++ more) ≡ given_by table (given_by table n changes) more
given_by-append table n changes more = fold-append (λ (k : ℕ) (change : Change). if change.table == table then max k (change.rid + 1) else k) n changes more

-- some changes, and then others
pub IsNoted-more : (old now new : List ℕ) (changes more : List Change) → IsNoted old now changes → IsNoted now new more → IsNoted old new (changes ++ more)
IsNoted-more old now new changes more first later = record {
  each = λ table.
      later.each table
      ∙ (ap (λ (n : ℕ). given_by table n more) (first.each table)
      ∙ sym (given_by-append table (get_or old table 0) changes more));
}

-- the items so far and one more
take-got : {X : Type 0} (xs : List X) (i : ℕ) (x : X) → slice_get xs i ≡ Some x → take (i + 1) xs ≡ take i xs ++ x ∷ []
take-got [] i x is = absurd (cc is)
take-got (y ∷ ys) zero x is = let same : y ≡ x = cc is in ap (λ z. z ∷ []) same
take-got (y ∷ ys) (suc i) x is =
    let next : suc i + 1 ≡ suc (i + 1) = omega arith in
    ap (λ (n : ℕ). take n (y ∷ ys)) next ∙ ap (λ l. y ∷ l) (take-got ys i x is)

-- the changes so far, and then one more that is lent
pub IsNoted-next : (old now new : List ℕ) (changes : List Change) (place : ℕ) (lent : LentChange) → slice_get changes place ≡ Some (lent_change lent)
    → IsNoted old now (take place changes)
    → ((t : ℕ) → get_or new t 0 ≡ (if lent.table == t then max (get_or now t 0) (lent.rid + 1) else get_or now t 0))
    → IsNoted old new (take (place + 1) changes)
IsNoted-next old now new changes place lent is so_far one =
    subst (IsNoted old new) (sym (take-got changes place (lent_change lent) is))
    (IsNoted-more old now new (take place changes) (lent_change lent ∷ []) so_far (record { each = λ table. one table }))
