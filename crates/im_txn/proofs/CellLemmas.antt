-- Lock cells that are set, and cells that are made.
use Rattle.std.proofs.Common.{◌≡◌, ℕ, suc, ◌+◌, ◌-◌, ◌<◌, ◌≤◌, Bool, true, false, ◌||◌, ◌⊎◌, inl, inr, ⊎_elim, List, [], ◌∷◌, get_or, length, take, drop, drop-cons, Some, refl, sym, ap, ◌∙◌, subst, arith, if◌then◌else◌}
use Rattle.std.specs.Prelude.{slice_get}
use Rattle.std.proofs.lemmas.List.Elements.{All-nil, All-cons, All-head, All-tail, All-weaker, All-more}
use Rattle.std.proofs.lemmas.Option.{get_or_from_slice_get}
use Rattle.im_history.specs.declared.change.Change.{Change}
use Rattle.im_history.specs.Puts.{put_from}
use Rattle.im_history.specs.Rows.{Row}
use Rattle.im_history.specs.Touched.{is_to, touches}
use Rattle.im_tables.specs.Table.{HasCell, with_cell, with_cells}
use Rattle.im_tables.proofs.ForCallers.{HasCell-grown, HasCell-with_cell, cell_at-with_cell}
use Rattle.im_txn.specs.LockCells.{Locks, lock_of, set_cell, set_cells, HasCells, HasRows, IsLonger}

-- there is a cell for the row of a change
abbrev HasLock : Locks → Change → Type 0
HasLock locks change = HasCell locks change.table change.rid

HasCells-set : (value : ℕ) (locks : Locks) (change : Change) (changes : List Change) → HasCells locks changes → HasCells (set_cell value locks change) changes
HasCells-set value locks change changes has =
    record {
      each =
          All-weaker (HasLock locks) (HasLock (set_cell value locks change))
          (λ other. HasCell-with_cell locks change.table change.rid value other.table other.rid) changes has.each;
    }

either : (a b : Bool) (x y : ℕ) → (if b then x else (if a then x else y)) ≡ (if a || b then x else y)
either true true x y = refl
either true false x y = refl
either false b x y = refl

-- each cell after those of changes are set, where there are such cells or they are freed
pub lock_of-set_cells : (value : ℕ) (locks : Locks) (changes : List Change) (table rid : ℕ) → HasCells locks changes ⊎ (value ≡ 0)
    → lock_of (set_cells value locks changes) table rid ≡ (if touches changes table rid then value else lock_of locks table rid)
lock_of-set_cells value locks [] table rid can = refl
lock_of-set_cells value locks (change ∷ changes) table rid can =
    let first : HasLock locks change ⊎ (value ≡ 0) =
    ⊎_elim (λ (has : HasCells locks (change ∷ changes)). inl (All-head (HasLock locks) change changes has.each)) (λ (free : value ≡ 0). inr free) can in
    let later : HasCells (set_cell value locks change) changes ⊎ (value ≡ 0) =
    ⊎_elim
    (λ (has : HasCells locks (change ∷ changes)). inl (HasCells-set value locks change changes
    (record { each = All-tail (HasLock locks) change changes has.each })))
    (λ (free : value ≡ 0). inr free)
    can in
    lock_of-set_cells value (set_cell value locks change) changes table rid later
    ∙ (ap (λ (was : ℕ). if touches changes table rid then value else was) (cell_at-with_cell 0 locks change.table change.rid value table rid first)
    ∙ either (is_to table rid change) (touches changes table rid) value (lock_of locks table rid))

-- ---- cells that are made

pub HasCells-longer : (old new : Locks) (changes : List Change) → IsLonger old new → HasCells old changes → HasCells new changes
HasCells-longer old new changes longer has =
    record { each = All-weaker (HasLock old) (HasLock new) (λ change. HasCell-grown 0 old new change.table change.rid longer) changes has.each }

-- one change more has a cell
pub HasCells-more : (locks : Locks) (changes : List Change) (i : ℕ) (d : Change) → i < length changes → HasCells locks (take i changes)
    → HasLock locks (get_or changes i d) → HasCells locks (take (i + 1) changes)
HasCells-more locks changes i d inside has here = record { each = All-more (HasLock locks) changes i d inside has.each here }

-- the change at a place has a cell
pub HasCells-next : (locks : Locks) (changes : List Change) (i : ℕ) (change : Change) → slice_get changes i ≡ Some change → i < length changes
    → HasCells locks (take i changes) → HasCell locks change.table change.rid → HasCells locks (take (i + 1) changes)
HasCells-next locks changes i change is inside has here =
    HasCells-more locks changes i change inside has (subst (HasLock locks) (sym (get_or_from_slice_get changes i change change is)) here)

-- ---- rows side by side

-- there is a cell for each row up to one that has one
pub HasRows-up_to : (locks : Locks) (table first count : ℕ) → (count ≡ 0 → ⊥) → HasCell locks table (first + (count - 1)) → HasRows locks table first count
HasRows-up_to locks table first count some has =
    record { each = λ rid from below. record { below = let last = has.below in omega (arith, last, below) } }

pub HasRows-none : (locks : Locks) (table first count : ℕ) → count ≡ 0 → HasRows locks table first count
HasRows-none locks table first count none = record { each = λ rid from below. absurd (omega (arith, none, from, below)) }

put_cells : (locks : Locks) (table first : ℕ) (rows : List Row) → ((rid : ℕ) → first ≤ rid → rid < first + length rows → HasCell locks table rid)
    → HasCells locks (put_from table first rows)
put_cells locks table first [] has = record { each = All-nil _ }
put_cells locks table first (row ∷ rows) has =
    let rest =
    put_cells locks table (first + 1) rows (λ rid from below. has rid (omega (arith, from)) (omega (arith, below))) in
    record {
      each =
          All-cons (HasLock locks) (record { table = table; rid = first; row = Some row }) (put_from table (first + 1) rows)
          (has first (omega arith) (omega arith)) rest.each;
    }

-- rows that are put have cells
pub HasCells-put : (locks : Locks) (changes : List Change) (table first count : ℕ) (rows : List Row) → changes ≡ put_from table first rows
    → count ≡ length rows → HasRows locks table first count → HasCells locks changes
HasCells-put locks changes table first count rows is long has =
    subst (HasCells locks) (sym is) (put_cells locks table first rows (λ rid from below. has.each rid from (omega (arith, below, long))))

put_sets : (value : ℕ) (locks : Locks) (table first : ℕ) (rows : List Row) →
    with_cells table first (length rows) value locks ≡ set_cells value locks (put_from table first rows)
put_sets value locks table first [] = refl
put_sets value locks table first (row ∷ rows) = put_sets value (with_cell table first value locks) table (first + 1) rows

-- their cells are set together
pub set_cells-put : (value : ℕ) (locks : Locks) (changes : List Change) (table first count : ℕ) (rows : List Row) → changes ≡ put_from table first rows
    → count ≡ length rows → with_cells table first count value locks ≡ set_cells value locks changes
set_cells-put value locks changes table first count rows is long =
    ap (λ (n : ℕ). with_cells table first n value locks) long
    ∙ (put_sets value locks table first rows ∙ ap (set_cells value locks) (sym is))

-- ---- one after another

-- the change at a place is set, and then the others
pub set_cells-next : (value : ℕ) (locks : Locks) (changes : List Change) (i : ℕ) (change : Change) → slice_get changes i ≡ Some change → i < length changes
    → set_cells value locks (drop i changes) ≡ set_cells value (set_cell value locks change) (drop (i + 1) changes)
set_cells-next value locks changes i change is inside =
    ap (set_cells value locks) (drop-next changes i change is inside)
  where
    drop-next : (cs : List Change) (k : ℕ) (c : Change) → slice_get cs k ≡ Some c → k < length cs → drop k cs ≡ c ∷ drop (k + 1) cs
    drop-next cs k c found within =
        let next : suc k ≡ k + 1 = omega arith in
        drop-cons cs k c within
        ∙ (ap (λ (x : Change). x ∷ drop (suc k) cs) (get_or_from_slice_get cs k c c found) ∙ ap (λ (n : ℕ). c ∷ drop n cs) next)
