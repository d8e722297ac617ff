-- A row that fits its table still does once values that may stand there are assigned to its columns.
use Rattle.std.proofs.lemmas.List.{drop_all, length-set, take_all}
use Rattle.std.proofs.Common.{◌≡◌, ◌&&◌, ◌++◌, length, take, drop, ℕ, zero, suc, Bool, true, false, List, [], ◌∷◌, Some, refl, ◌∙◌, arith, append-nil}
use Rattle.std.specs.Prelude.{slice_set, slice_get}
use Rattle.std.specs.List.{AllByRecursion}
use Rattle.im_values.specs.declared.schema.Column.{Column}
use Rattle.im_values.specs.declared.content.Content.{Content as Value}
use Rattle.im_values.specs.Fits.{may_stand, fits}
use Rattle.im_names.specs.Fitting.{SetServes}
use Rattle.im_statements.specs.Assigned.{assigned}

both : (a b : Bool) → (a && b) ≡ true → (a ≡ true) × (b ≡ true)
both true true e = (refl, refl)
both true false e = cc
both false b e = cc

fits-set : (row : List Value) (columns : List Column) (index : ℕ) (value : Value) (column : Column) → fits row columns ≡ true →
    slice_get columns index ≡ Some column → may_stand column.kind value ≡ true → fits (slice_set row index value) columns ≡ true
fits-set [] [] index value column fit is stands = fit
fits-set [] (c ∷ columns) index value column fit is stands = cc
fits-set (v ∷ row) [] index value column fit is stands = cc
fits-set (v ∷ row) (c ∷ columns) zero value column fit is stands =
    let here : c ≡ column = some-inj is in
    let rest = both (may_stand c.kind v) (fits row columns) fit in
    rw (here, stands) rest.1
  where
    some-inj : {a b : Column} → Some a ≡ Some b → a ≡ b
    some-inj e = cc
fits-set (v ∷ row) (c ∷ columns) (suc index) value column fit is stands =
    let rest = both (may_stand c.kind v) (fits row columns) fit in
    rw rest.0 (fits-set row columns index value column rest.1 is stands)

pub fits-assigned : (columns : List Column) (sets : List (ℕ × Value)) (row : List Value) → fits row columns ≡ true →
    AllByRecursion (SetServes columns) sets → fits (assigned sets row) columns ≡ true
fits-assigned columns [] row fit all = fit
fits-assigned columns (set ∷ sets) row fit all =
    fits-assigned columns sets (slice_set row set.0 set.1) (fits-set row columns set.0 set.1 all.0.column fit all.0.is_there all.0.stands) all.1

pub length-assigned : (sets : List (ℕ × Value)) (row : List Value) → length (assigned sets row) ≡ length row
length-assigned [] row = refl
length-assigned (set ∷ sets) row = length-assigned sets (slice_set row set.0 set.1) ∙ length-set row set.0 set.1

-- a vector after a call that changed its slice, keeping its length
pub written_back : {X : Type 0} (n : ℕ) (xs ys : List X) → n ≡ length ys → length xs ≡ length ys → take n (xs ++ drop (length xs) ys) ≡ xs
written_back n xs ys n_is long =
    let none : drop (length xs) ys ≡ [] = drop_all (length xs) ys (omega (arith, long)) in
    rw (none, append-nil xs) (take_all n xs (omega (arith, n_is, long)))
