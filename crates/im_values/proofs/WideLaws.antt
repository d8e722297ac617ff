-- Rows that are lengthened by defaults: twice is as once, and they fit.
use Rattle.std.proofs.Common.{◌≡◌, ℕ, zero, suc, ◌≤◌, ◌&&◌, Bool, true, false, List, [], ◌∷◌, ◌++◌, take, drop, length, refl, ap, ◌∙◌, append-nil}
use Rattle.std.proofs.lemmas.Bool.{false≢true}
use Rattle.std.proofs.lemmas.List.{drop_all}
use Rattle.im_values.specs.declared.content.Content.{Content as Value}
use Rattle.im_values.specs.declared.schema.Column.{Column}
use Rattle.im_values.specs.Fits.{fits, fits_first, may_stand}
use Rattle.im_values.specs.Widened.{widened}

both : (a b : Bool) → (a && b) ≡ true → (a ≡ true) × (b ≡ true)
both true b is = (refl, is)
both false b is = absurd (false≢true is)

and_true : (a b : Bool) → a ≡ true → b ≡ true → (a && b) ≡ true
and_true true b one two = two
and_true false b one two = absurd (false≢true one)

taken_again : (n : ℕ) (long : List Value) → take n long ++ drop (length (take n long)) long ≡ long
taken_again zero long = refl
taken_again (suc n) [] = refl
taken_again (suc n) (value ∷ long) = ap (λ (l : List Value). value ∷ l) (taken_again n long)

-- a row that was lengthened by the first defaults, and then by all, is the row lengthened by all
pub widened-again : (long : List Value) (n : ℕ) (row : List Value) → widened long (widened (take n long) row) ≡ widened long row
widened-again long n [] = taken_again n long
widened-again [] zero (value ∷ row) = ap (λ (l : List Value). widened [] l) (append-nil (value ∷ row))
widened-again [] (suc n) (value ∷ row) = ap (λ (l : List Value). widened [] l) (append-nil (value ∷ row))
widened-again (first ∷ long) zero (value ∷ row) = ap (λ (l : List Value). widened (first ∷ long) l) (append-nil (value ∷ row))
widened-again (first ∷ long) (suc n) (value ∷ row) = ap (λ (l : List Value). value ∷ l) (widened-again long n row)

-- a row that is long enough stays
pub widened-long : (defaults row : List Value) → length defaults ≤ length row → widened defaults row ≡ row
widened-long defaults row long = ap (λ (l : List Value). row ++ l) (drop_all (length row) defaults long) ∙ append-nil row

-- a row that fits fits the first columns
pub fits-first : (row : List Value) (schema : List Column) → fits row schema ≡ true → fits_first row schema ≡ true
fits-first [] schema fit = refl
fits-first (value ∷ row) [] fit = fit
fits-first (value ∷ row) (column ∷ schema) fit =
    let parts = both (may_stand column.kind value) (fits row schema) fit in
    and_true (may_stand column.kind value) (fits_first row schema) parts.0 (fits-first row schema parts.1)

-- and it does where there are more columns
pub fits_first-more : (row : List Value) (schema more : List Column) → fits_first row schema ≡ true → fits_first row (schema ++ more) ≡ true
fits_first-more [] schema more fit = refl
fits_first-more (value ∷ row) [] more fit = absurd (false≢true fit)
fits_first-more (value ∷ row) (column ∷ schema) more fit =
    let parts = both (may_stand column.kind value) (fits_first row schema) fit in
    and_true (may_stand column.kind value) (fits_first row (schema ++ more)) parts.0 (fits_first-more row schema more parts.1)

-- a row that fits the first columns fits all, once it is lengthened by defaults that do
pub widened-fits : (defaults row : List Value) (schema : List Column) → fits defaults schema ≡ true → fits_first row schema ≡ true
    → fits (widened defaults row) schema ≡ true
widened-fits defaults [] schema all first = all
widened-fits defaults (value ∷ row) [] all first = absurd (false≢true first)
widened-fits [] (value ∷ row) (column ∷ schema) all first = absurd (false≢true all)
widened-fits (default ∷ defaults) (value ∷ row) (column ∷ schema) all first =
    let parts = both (may_stand column.kind value) (fits_first row schema) first in
    let others = both (may_stand column.kind default) (fits defaults schema) all in
    and_true (may_stand column.kind value) (fits (widened defaults row) schema) parts.0 (widened-fits defaults row schema others.1 parts.1)

-- a row that fits, and one more value that may stand in one more column
pub fits-push : (row : List Value) (schema : List Column) (value : Value) (column : Column) → fits row schema ≡ true → may_stand column.kind value ≡ true
    → fits (row ++ value ∷ []) (schema ++ column ∷ []) ≡ true
fits-push [] [] value column fit stands = and_true (may_stand column.kind value) true stands refl
fits-push [] (first ∷ schema) value column fit stands = absurd (false≢true fit)
fits-push (one ∷ row) [] value column fit stands = absurd (false≢true fit)
fits-push (one ∷ row) (first ∷ schema) value column fit stands =
    let parts = both (may_stand first.kind one) (fits row schema) fit in
    and_true (may_stand first.kind one) (fits (row ++ value ∷ []) (schema ++ column ∷ [])) parts.0 (fits-push row schema value column parts.1 stands)

-- of columns that a row fits the first so many values fit the first so many
pub fits-take : (n : ℕ) (row : List Value) (schema : List Column) → fits row schema ≡ true → fits (take n row) (take n schema) ≡ true
fits-take zero row schema fit = refl
fits-take (suc n) [] [] fit = refl
fits-take (suc n) [] (column ∷ schema) fit = absurd (false≢true fit)
fits-take (suc n) (value ∷ row) [] fit = absurd (false≢true fit)
fits-take (suc n) (value ∷ row) (column ∷ schema) fit =
    let parts = both (may_stand column.kind value) (fits row schema) fit in
    and_true (may_stand column.kind value) (fits (take n row) (take n schema)) parts.0 (fits-take n row schema parts.1)
