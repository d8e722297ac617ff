-- The mask of what is left of a unit beside rows, and the part of that and of the rows beside it.
use Rattle.std.proofs.Common.{◌≡◌, ℕ, zero, suc, ◌+◌, ◌-◌, ◌<◌, ◌≤◌, ◌==◌, ◌&&◌, Bool, true, false, if◌then◌else◌, List, [], ◌∷◌, ◌++◌, length, take, drop, map, replicate, get_or, Option, Some, None, refl, sym, ap, subst, ◌∙◌, ⊎_elim, arith}
use Rattle.std.specs.Prelude.{is_some, nat_lt}
use Rattle.std.specs.List.{fold}
use Rattle.std.proofs.lemmas.Bool.{cases_lt}
use Rattle.std.proofs.lemmas.Bool.Decides.{nat_tests}
use Rattle.std.proofs.lemmas.List.{drop_all, length-replicate, length-set, take_more}
use Rattle.std.proofs.lemmas.List.Sums.{fold_push}
use Rattle.im_history.specs.Rows.{Row}
use Rattle.im_history.specs.Units.{Content}
use Rattle.im_lanes.specs.Masks.{filled, joined}
use Rattle.im_unit.specs.Holding.{count_present, present_rows, spot_of}
use Rattle.im_unit.proofs.ForCallers.{present-at}
use Rattle.im_scan.specs.inner.Left.{AreBetween, cut_at, is_left, spots_where, without, without_all}

-- ---- one row number is hidden

-- as many positions as rows are present
pub length-where : (shown : ℕ → Bool) (test : Row → Bool) (rid : ℕ) (rows : List (Option Row)) →
    length (spots_where shown test rid rows) ≡ count_present rows
length-where shown test rid [] = refl
length-where shown test rid (None ∷ rows) = length-where shown test (rid + 1) rows
length-where shown test rid (Some row ∷ rows) = ap suc (length-where shown test (rid + 1) rows)

pub length-without : (spot : Option ℕ) (spots : List Bool) → length (without spot spots) ≡ length spots
length-without None spots = refl
length-without (Some spot) spots = length-set spots spot false

-- a row number below those of the rows
hidden-below : (hidden : ℕ) (shown : ℕ → Bool) (test : Row → Bool) (rid : ℕ) (rows : List (Option Row)) → hidden < rid →
    spots_where shown test rid rows ≡ spots_where (λ k. if hidden == k then false else shown k) test rid rows
hidden-below hidden shown test rid [] below = refl
hidden-below hidden shown test rid (None ∷ rows) below = hidden-below hidden shown test (rid + 1) rows (omega (arith, below))
hidden-below hidden shown test rid (Some row ∷ rows) below =
    let apart : (hidden == rid) ≡ false = grind (arith, nat_tests, below) in
    ap (λ (l : List Bool). (if shown rid then test row else false) ∷ l) (hidden-below hidden shown test (rid + 1) rows (omega (arith, below)))
    ∙ ap (λ (b : Bool). (if (if b then false else shown rid) then test row else false)
    ∷ spots_where (λ k. if hidden == k then false else shown k) test (rid + 1) rows) (sym apart)

-- a row number of theirs
hidden-at : (hidden : ℕ) (shown : ℕ → Bool) (test : Row → Bool) (rid place : ℕ) (rows : List (Option Row)) → hidden ≡ rid + place →
    without (if is_some (get_or rows place None) then Some (count_present (take place rows)) else None) (spots_where shown test rid rows)
    ≡ spots_where (λ k. if hidden == k then false else shown k) test rid rows
hidden-at hidden shown test rid place [] is = refl
hidden-at hidden shown test rid zero (None ∷ rows) is = hidden-below hidden shown test (rid + 1) rows (omega (arith, is))
hidden-at hidden shown test rid zero (Some row ∷ rows) is =
    let here : (hidden == rid) ≡ true = grind (arith, nat_tests, is) in
    ap (λ (l : List Bool). false ∷ l) (hidden-below hidden shown test (rid + 1) rows (omega (arith, is)))
    ∙ ap (λ (b : Bool). (if (if b then false else shown rid) then test row else false)
    ∷ spots_where (λ k. if hidden == k then false else shown k) test (rid + 1) rows) (sym here)
hidden-at hidden shown test rid (suc place) (None ∷ rows) is = hidden-at hidden shown test (rid + 1) place rows (omega (arith, is))
hidden-at hidden shown test rid (suc place) (Some row ∷ rows) is =
    by (is_some (get_or rows place None)) (hidden-at hidden shown test (rid + 1) place rows (omega (arith, is)))
    ∙ ap (λ (b : Bool). (if (if b then false else shown rid) then test row else false)
    ∷ spots_where (λ k. if hidden == k then false else shown k) test (rid + 1) rows) (sym apart)
  where
    apart : (hidden == rid) ≡ false
    apart = grind (arith, nat_tests, is)

    head : Bool
    head = if shown rid then test row else false

    by : (b : Bool) →
        without (if b then Some (count_present (take place rows)) else None) (spots_where shown test (rid + 1) rows)
        ≡ spots_where (λ k. if hidden == k then false else shown k) test (rid + 1) rows →
        without (if b then Some (suc (count_present (take place rows))) else None) (head ∷ spots_where shown test (rid + 1) rows)
        ≡ head ∷ spots_where (λ k. if hidden == k then false else shown k) test (rid + 1) rows
    by true e = ap (λ (l : List Bool). head ∷ l) e
    by false e = ap (λ (l : List Bool). head ∷ l) e

-- a row number of a unit, or another
hidden-spot : (content : Content) (hidden : ℕ) (shown : ℕ → Bool) (test : Row → Bool) →
    without (spot_of content hidden) (spots_where shown test content.first content.rows)
    ≡ spots_where (λ k. if hidden == k then false else shown k) test content.first content.rows
hidden-spot content hidden shown test =
    ⊎_elim
    (λ (before : hidden < content.first).
    let out : nat_lt hidden content.first ≡ true = grind (arith, nat_tests, before) in
    ap (λ (b : Bool). without (found b) (spots_where shown test content.first content.rows)) out
    ∙ hidden-below hidden shown test content.first content.rows before)
    (λ (from : content.first ≤ hidden).
    let inside : nat_lt hidden content.first ≡ false = grind (arith, nat_tests, from) in
    ap (λ (b : Bool). without (found b) (spots_where shown test content.first content.rows)) inside
    ∙ hidden-at hidden shown test content.first (hidden - content.first) content.rows (omega (arith, from)))
    (cases_lt hidden content.first)
  where
    found : Bool → Option ℕ
    found b =
        if is_some (if b then None else get_or content.rows (hidden - content.first) None)
        then Some (count_present (take (hidden - content.first) content.rows)) else None

-- the row numbers of all rows beside a unit
pub hidden-all : {X : Type 0} (content : Content) (beside : List (ℕ × X)) (shown : ℕ → Bool) (test : Row → Bool) →
    without_all content beside (spots_where shown test content.first content.rows)
    ≡ spots_where (λ k. fold (λ left row. if row.0 == k then false else left) (shown k) beside) test content.first content.rows
hidden-all content [] shown test = refl
hidden-all content (row ∷ beside) shown test =
    ap (without_all content beside) (hidden-spot content row.0 shown test)
    ∙ hidden-all content beside (λ k. if row.0 == k then false else shown k) test

-- ---- the row numbers from one on are hidden

all-where : (test : Row → Bool) (rid : ℕ) (rows : List (Option Row)) → map test (present_rows rows) ≡ spots_where (λ k. true) test rid rows
all-where test rid [] = refl
all-where test rid (None ∷ rows) = all-where test (rid + 1) rows
all-where test rid (Some row ∷ rows) = ap (λ (l : List Bool). test row ∷ l) (all-where test (rid + 1) rows)

cut-past : (shown : ℕ → Bool) (test : Row → Bool) (rid end : ℕ) (rows : List (Option Row)) → end ≤ rid →
    cut_at 0 (spots_where shown test rid rows) ≡ spots_where (λ k. nat_lt k end) test rid rows
cut-past shown test rid end [] past = refl
cut-past shown test rid end (None ∷ rows) past = cut-past shown test (rid + 1) end rows (omega (arith, past))
cut-past shown test rid end (Some row ∷ rows) past =
    let out : nat_lt rid end ≡ false = grind (arith, nat_tests, past) in
    ap (λ (l : List Bool). false ∷ l) (cut-past shown test (rid + 1) end rows (omega (arith, past)))
    ∙ ap (λ (b : Bool). (if b then test row else false) ∷ spots_where (λ k. nat_lt k end) test (rid + 1) rows) (sym out)

cut-where : (test : Row → Bool) (rid end place : ℕ) (rows : List (Option Row)) → end ≡ rid + place →
    cut_at (count_present (take place rows)) (spots_where (λ k. true) test rid rows) ≡ spots_where (λ k. nat_lt k end) test rid rows
cut-where test rid end zero rows is = cut-past (λ k. true) test rid end rows (omega (arith, is))
cut-where test rid end (suc place) [] is = refl
cut-where test rid end (suc place) (None ∷ rows) is = cut-where test (rid + 1) end place rows (omega (arith, is))
cut-where test rid end (suc place) (Some row ∷ rows) is =
    let inside : nat_lt rid end ≡ true = grind (arith, nat_tests, is) in
    ap (λ (l : List Bool). test row ∷ l) (cut-where test (rid + 1) end place rows (omega (arith, is)))
    ∙ ap (λ (b : Bool). (if b then test row else false) ∷ spots_where (λ k. nat_lt k end) test (rid + 1) rows) (sym inside)

-- where nothing is beyond, all stay
pub cut-none : (n : ℕ) (spots : List Bool) → length spots ≤ n → spots ≡ cut_at n spots
cut-none zero [] few = refl
cut-none (suc n) [] few = refl
cut-none zero (spot ∷ spots) few = absurd (omega (arith, few))
cut-none (suc n) (spot ∷ spots) few = ap (λ (l : List Bool). spot ∷ l) (cut-none n spots (omega (arith, few)))

-- a mask and one that chooses the first positions
cut-joined-none : (spots : List Bool) → joined (λ a b. a && b) spots (replicate (length spots) false) ≡ cut_at 0 spots
cut-joined-none [] = refl
cut-joined-none (true ∷ spots) = ap (λ (l : List Bool). false ∷ l) (cut-joined-none spots)
cut-joined-none (false ∷ spots) = ap (λ (l : List Bool). false ∷ l) (cut-joined-none spots)

-- of these the first ones are chosen
first-of : (n len : ℕ) → filled 0 n (replicate len false) ≡ replicate n true ++ drop n (replicate len false)
first-of n len =
    let all : n - 0 ≡ n = omega arith in
    ap (λ (k : ℕ). replicate k true ++ drop n (replicate len false)) all

pub cut-joined : (n len : ℕ) (spots : List Bool) → len ≡ length spots → n ≤ len →
    joined (λ a b. a && b) spots (filled 0 n (replicate len false)) ≡ cut_at n spots
cut-joined n len spots is within =
    ap (joined (λ a b. a && b) spots) (first-of n len ∙ ap (λ (k : ℕ). replicate n true ++ drop n (replicate k false)) is)
    ∙ by n spots (omega (arith, within, is))
  where
    by : (n : ℕ) (spots : List Bool) → n ≤ length spots →
        joined (λ a b. a && b) spots (replicate n true ++ drop n (replicate (length spots) false)) ≡ cut_at n spots
    by zero [] within = refl
    by zero (spot ∷ spots) within = cut-joined-none (spot ∷ spots)
    by (suc n) [] within = absurd (omega (arith, within))
    by (suc n) (true ∷ spots) within = ap (λ (l : List Bool). true ∷ l) (by n spots (omega (arith, within)))
    by (suc n) (false ∷ spots) within = ap (λ (l : List Bool). false ∷ l) (by n spots (omega (arith, within)))

-- ---- both

pub left-where : {X : Type 0} (content : Content) (test : Row → Bool) (beside : List (ℕ × X)) (count : ℕ) (kept cut left : List Bool) →
    kept ≡ map test (present_rows content.rows) → cut ≡ cut_at (count_present (take count content.rows)) kept →
    left ≡ without_all content beside cut → left ≡ spots_where (is_left (content.first + count) beside) test content.first content.rows
left-where content test beside count kept cut left is cuts hides =
    hides
    ∙ (ap (without_all content beside)
    (cuts
    ∙ (ap (cut_at (count_present (take count content.rows))) (is ∙ all-where test content.first content.rows)
    ∙ cut-where test content.first (content.first + count) count content.rows refl))
    ∙ hidden-all content beside (λ k. nat_lt k (content.first + count)) test)

-- ---- for the loops

-- the position of a row is one of those of the rows that are present
pub spot-within : (content : Content) (rid spot : ℕ) → Some spot ≡ spot_of content rid → spot < count_present content.rows
spot-within content rid spot is = by (nat_lt rid content.first) is
  where
    place : ℕ
    place = rid - content.first

    there : (row : Option Row) → get_or content.rows place None ≡ row →
        Some spot ≡ (if is_some row then Some (count_present (take place content.rows)) else None) → spot < count_present content.rows
    there None at e = absurd cc
    there (Some row) at e =
        let same : spot ≡ count_present (take place content.rows) = cc in
        omega (arith, same, (present-at content.rows place row at).0)

    by : (b : Bool) →
        Some spot ≡ (if is_some (if b then None else get_or content.rows place None) then Some (count_present (take place content.rows)) else None) →
        spot < count_present content.rows
    by true e = absurd cc
    by false e = there (get_or content.rows place None) refl e

pub length-cut : (n : ℕ) (spots : List Bool) → length (cut_at n spots) ≡ length spots
length-cut zero [] = refl
length-cut (suc n) [] = refl
length-cut zero (spot ∷ spots) = ap suc (length-cut zero spots)
length-cut (suc n) (spot ∷ spots) = ap suc (length-cut n spots)

pub length-filled : (n len : ℕ) → n ≤ len → length (filled 0 n (replicate len false)) ≡ len
length-filled n len within = ap length (first-of n len) ∙ by n len within
  where
    by : (n len : ℕ) → n ≤ len → length (replicate n true ++ drop n (replicate len false)) ≡ len
    by zero len within = length-replicate len false
    by (suc n) zero within = absurd (omega (arith, within))
    by (suc n) (suc len) within = ap suc (by n len (omega (arith, within)))

-- one row more is hidden
pub hidden-more : {X : Type 0} (content : Content) (beside : List (ℕ × X)) (i : ℕ) (row : ℕ × X) (old spots new : List Bool) → i < length beside →
    row ≡ get_or beside i row → spots ≡ without_all content (take i beside) old → new ≡ without (spot_of content row.0) spots →
    new ≡ without_all content (take (i + 1) beside) old
hidden-more content beside i row old spots new inside is so_far now =
    now
    ∙ (ap (without (spot_of content row.0)) so_far
    ∙ sym (ap (λ l. without_all content l old) (take_more beside i row inside ∙ ap (λ r. take i beside ++ r ∷ []) (sym is))
    ∙ fold_push (λ (left : List Bool) r. without (spot_of content r.0) left) old (take i beside) row))

-- rows from a place on, the first of which is this one
pub between-more : (from end i : ℕ) (rows : List (ℕ × Option Row)) (row : ℕ × Option Row) → i < length rows → row ≡ get_or rows i row →
    from ≤ row.0 → row.0 < end → AreBetween (row.0 + 1) end (drop (i + 1) rows) → AreBetween from end (drop i rows)
between-more from end i [] row inside is low high rest = absurd (omega (arith, inside))
between-more from end zero (r ∷ rows) row inside is low high rest =
    subst (λ (x : ℕ × Option Row). AreBetween from end (x ∷ rows)) is (low, high, rest)
between-more from end (suc i) (r ∷ rows) row inside is low high rest =
    let next : suc i + 1 ≡ suc (i + 1) = omega arith in
    between-more from end i rows row (omega (arith, inside)) is low high
    (subst (λ (n : ℕ). AreBetween (row.0 + 1) end (drop n (r ∷ rows))) next rest)

pub between-none : (from end i : ℕ) (rows : List (ℕ × Option Row)) → length rows ≤ i → AreBetween from end (drop i rows)
between-none from end i rows past = subst (λ (l : List (ℕ × Option Row)). AreBetween from end (l)) (sym (drop_all i rows past)) tt
