-- What was fetched in pieces, piece by piece and row by row.
use Rattle.std.proofs.Common.{◌≡◌, ℕ, zero, suc, ◌+◌, ◌-◌, ◌<◌, ◌≤◌, ◌^◌, Bool, true, false, if◌then◌else◌, List, [], ◌∷◌, ◌++◌, length, take, get_or, map, Option, None, Some, refl, sym, ap, subst, ◌∙◌, arith, append_assoc, append-nil}
use Rattle.std.specs.List.{AllByRecursion, flat_map, range_with_len, slice_get}
use Rattle.std.proofs.lemmas.Grind.{flat_map-append}
use Rattle.std.proofs.lemmas.List.{length-append, length-take-le, map-append, take_more}
use Rattle.im_values.specs.declared.content.Content.{Content as Value}
use Rattle.im_syntax.specs.Condition.{CondOf}
use Rattle.im_syntax.specs.declared.bound.Bound.{Bound}
use Rattle.im_syntax.specs.BoundFits.{BoundFits}
use Rattle.im_history.specs.Fetched.{all_widened, each_at, run_from}
use Rattle.im_history.specs.Rows.{Row}
use Rattle.im_history.proofs.FetchedLaws.{each_at-next, length-each_at, length-run_from, length-widened, numbers-widened, run_from-next}
use Rattle.im_group.specs.Partials.{GoesOnWith, IsPartOfFew, IsPartOfSoFew, Numbered, Parts, keeps, partial}
use Rattle.im_scan.specs.Parts.{MayAsk}
use Rattle.im_scan.specs.inner.Pieces.{AreInOrder, HasRoomFor, TakesAt, numbered_all}
use Rattle.im_scan.specs.inner.Steps.{GoesOnBy, numbered, numbered_from}
use Rattle.im_scan.specs.inner.Walk.{AreClear}
use Rattle.im_scan.proofs.WalkLemmas.{goes-unkept}
use Rattle.im_scan.proofs.InPlace.{first-of, others-of, numbers_of, rows_of}

pub numbers-run : (first : ℕ) (rows : List Row) → numbers_of (run_from first rows) ≡ range_with_len first (length rows)
numbers-run first [] = refl
numbers-run first (row ∷ rows) = ap (λ (l : List ℕ). first ∷ l) (numbers-run (first + 1) rows)

-- ---- one piece more

module _ {X : Type 0} (rows_in : X → List (ℕ × Option Row)) where
  abbrev all_in : List X → List (ℕ × Option Row)
  all_in pieces = flat_map rows_in pieces

  -- a piece behind others
  pub pieces-push : (pieces : List X) (piece : X) → flat_map rows_in (pieces ++ piece ∷ []) ≡ flat_map rows_in pieces ++ rows_in piece
  pieces-push pieces piece =
      flat_map-append rows_in pieces (piece ∷ []) ∙ ap (λ (last : List (ℕ × Option Row)). all_in pieces ++ last) (append-nil (rows_in piece))

  pub pieces-more : (pieces : List X) (i : ℕ) (piece : X) → i < length pieces → piece ≡ get_or pieces i piece
      → flat_map rows_in (take (i + 1) pieces) ≡ flat_map rows_in (take i pieces) ++ rows_in piece
  pieces-more pieces i piece within is =
      ap all_in (take_more pieces i piece within ∙ ap (λ (p : X). take i pieces ++ p ∷ []) (sym is))
      ∙ pieces-push (take i pieces) piece

  few-pieces : (pieces : List X) (i : ℕ) → length (all_in (take i pieces)) ≤ length (all_in pieces)
  few-pieces [] zero = omega arith
  few-pieces [] (suc i) = omega arith
  few-pieces (p ∷ pieces) zero = omega arith
  few-pieces (p ∷ pieces) (suc i) =
      let less = few-pieces pieces i in
      omega (arith, less, length-append (rows_in p) (all_in (take i pieces)), length-append (rows_in p) (all_in pieces))

  pub pieces-within : (pieces : List X) (i : ℕ) (piece : X) → i < length pieces → piece ≡ get_or pieces i piece
      → length (flat_map rows_in (take i pieces)) + length (rows_in piece) ≤ length (flat_map rows_in pieces)
  pieces-within pieces i piece within is =
      let more = ap length (pieces-more pieces i piece within is) ∙ length-append (all_in (take i pieces)) (rows_in piece) in
      let less = few-pieces pieces (i + 1) in
      omega (arith, more, less)

-- ---- row numbers in order

range-append : (first n m : ℕ) → range_with_len first (n + m) ≡ range_with_len first n ++ range_with_len (first + n) m
range-append first zero m =
    let none : zero + m ≡ m = omega arith in
    let here : first ≡ first + zero = omega arith in
    ap (λ (k : ℕ). range_with_len first k) none ∙ ap (λ (k : ℕ). range_with_len k m) here
range-append first (suc n) m =
    let whole : suc n + m ≡ suc (n + m) = omega arith in
    let next : first + 1 + n ≡ first + suc n = omega arith in
    ap (λ (k : ℕ). range_with_len first k) whole
    ∙ (ap (λ (l : List ℕ). first ∷ l) (range-append (first + 1) n m)
    ∙ ap (λ (k : ℕ). first ∷ (range_with_len (first + 1) n ++ range_with_len k m)) next)

length-range : (first n : ℕ) → length (range_with_len first n) ≡ n
length-range first zero = refl
length-range first (suc n) = ap suc (length-range (first + 1) n)

length-numbers : (fetched : List (ℕ × Option Row)) → length (numbers_of fetched) ≡ length fetched
length-numbers [] = refl
length-numbers (f ∷ fetched) = ap suc (length-numbers fetched)

-- what was gone over is in order, and this row number is the next
pub record IsNextTo (first : ℕ) (fetched : List (ℕ × Option Row)) (next : ℕ) : Type 0 where
  pub next_is : next ≡ first + length fetched
  pub order : AreInOrder first fetched

pub long-span : (rid count : ℕ) (piece : List (ℕ × Option Row)) → numbers_of piece ≡ range_with_len rid count → length piece ≡ count
long-span rid count piece numbers = sym (length-numbers piece) ∙ (ap length numbers ∙ length-range rid count)

next-more : (first rid count next : ℕ) (fetched piece : List (ℕ × Option Row)) → IsNextTo first fetched next → rid ≡ next
    → numbers_of piece ≡ range_with_len rid count → IsNextTo first (fetched ++ piece) (next + count)
next-more first rid count next fetched piece are here numbers = record {
  next_is = omega (arith, are.next_is, all, long);
  order =
      map-append (λ f. f.0) fetched piece
      ∙ (ap (λ (l : List ℕ). l ++ numbers_of piece) are.order
      ∙ (ap (λ (l : List ℕ). range_with_len first (length fetched) ++ l) numbers
      ∙ (ap (λ (k : ℕ). range_with_len first (length fetched) ++ range_with_len k count) (here ∙ are.next_is)
      ∙ (sym (range-append first (length fetched) count) ∙ ap (range_with_len first) (ap (λ (k : ℕ). length fetched + k) (sym long) ∙ sym all)))));
}
  where
    long : length piece ≡ count
    long = long-span rid count piece numbers

    all : length (fetched ++ piece) ≡ length fetched + length piece
    all = length-append fetched piece

module _ {X : Type 0} (rows_in : X → List (ℕ × Option Row)) where
  pub in-order-more : (first rid count next i : ℕ) (pieces : List X) (piece : X) → i < length pieces → piece ≡ get_or pieces i piece
      → IsNextTo first (flat_map rows_in (take i pieces)) next → rid ≡ next → numbers_of (rows_in piece) ≡ range_with_len rid count
      → IsNextTo first (flat_map rows_in (take (i + 1) pieces)) (next + count)
  in-order-more first rid count next i pieces piece within is are here numbers =
      subst (λ (l : List (ℕ × Option Row)). IsNextTo first l (next + count)) (sym (pieces-more rows_in pieces i piece within is))
      (next-more first rid count next (flat_map rows_in (take i pieces)) (rows_in piece) are here numbers)

  -- no row number overflows
  pub next-within : (first rid count next i : ℕ) (pieces : List X) (piece : X) → i < length pieces → piece ≡ get_or pieces i piece
      → IsNextTo first (flat_map rows_in (take i pieces)) next → numbers_of (rows_in piece) ≡ range_with_len rid count
      → first + length (flat_map rows_in pieces) < 2 ^ 64 → next + count < 2 ^ 64
  next-within first rid count next i pieces piece within is are numbers few =
      omega (arith, are.next_is, long-span rid count (rows_in piece) numbers, pieces-within rows_in pieces i piece within is, few)

-- rows that are lengthened are as much in order
pub order-widened : (defaults : List Value) (first : ℕ) (rows : List (ℕ × Option Row)) → AreInOrder first rows
    → AreInOrder first (all_widened defaults rows)
order-widened defaults first rows are =
    numbers-widened defaults rows ∙ (are ∙ ap (range_with_len first) (sym (length-widened defaults rows)))

-- in order, the rows each with its number are those from the first number on
pub numbered-in-order : (first : ℕ) (fetched : List (ℕ × Option Row)) → AreInOrder first fetched
    → numbered_all fetched ≡ numbered_from first (rows_of fetched)
numbered-in-order first [] are = refl
numbered-in-order first (f ∷ fetched) are =
    let here : f.0 ≡ first = first-of f.0 first (numbers_of fetched) (range_with_len (first + 1) (length fetched)) are in
    ap (λ (n : ℕ). numbered n f.1 ++ numbered_all fetched) here
    ∙ ap (λ (l : List Numbered). numbered first f.1 ++ l)
    (numbered-in-order (first + 1) fetched (others-of f.0 first (numbers_of fetched) (range_with_len (first + 1) (length fetched)) are))

-- ---- a query may be asked

all-front : {X : Type 0} (P : X → Type 0) (xs ys : List X) → AllByRecursion P (xs ++ ys) → AllByRecursion P xs
all-front P [] ys all = tt
all-front P (x ∷ xs) ys all = (all.0, all-front P xs ys all.1)

all-back : {X : Type 0} (P : X → Type 0) (xs ys : List X) → AllByRecursion P (xs ++ ys) → AllByRecursion P ys
all-back P [] ys all = all
all-back P (x ∷ xs) ys all = all-back P xs ys all.1

pub piece-fits : {X : Type 0} (rows_in : X → List (ℕ × Option Row)) (bound : Bound) (pieces : List X) (i : ℕ) (piece : X) → i < length pieces
    → piece ≡ get_or pieces i piece → AllByRecursion (λ row. MayAsk bound row.1) (flat_map rows_in pieces)
    → AllByRecursion (λ row. MayAsk bound row.1) (rows_in piece)
piece-fits rows_in bound [] i piece within is all = absurd (omega (arith, within))
piece-fits rows_in bound (p ∷ pieces) zero piece within is all =
    subst (λ q. AllByRecursion (λ row. MayAsk bound row.1) (rows_in q)) (sym is)
    (all-front (λ row. MayAsk bound row.1) (rows_in p) (flat_map rows_in pieces) all)
piece-fits rows_in bound (p ∷ pieces) (suc i) piece within is all =
    piece-fits rows_in bound pieces i piece (omega (arith, within)) is (all-back (λ row. MayAsk bound row.1) (rows_in p) (flat_map rows_in pieces) all)

pub run-fits : (bound : Bound) (first : ℕ) (rows : List Row) → AllByRecursion (λ row. MayAsk bound row.1) (run_from first rows)
    → AllByRecursion (λ row. BoundFits row bound) rows
run-fits bound first [] all = tt
run-fits bound first (row ∷ rows) all = (all.0 row refl, run-fits bound (first + 1) rows all.1)

pub some-inj : {A : Type 0} {a b : A} → ◌≡◌ {A = Option A} (Some a) (Some b) → a ≡ b
some-inj e = cc

pub at-fits : (bound : Bound) (rows : List Row) (i : ℕ) (row : Row) → slice_get rows i ≡ Some row
    → AllByRecursion (λ r. BoundFits r bound) rows → BoundFits row bound
at-fits bound [] i row is all = absurd (cc is)
at-fits bound (r ∷ rows) zero row is all = subst (λ (q : Row). BoundFits q bound) (some-inj is) all.0
at-fits bound (r ∷ rows) (suc i) row is all = at-fits bound rows i row is all.1

-- ---- rows of a run

pub length-numbered-run : (first : ℕ) (rows : List Row) → length (numbered_all (run_from first rows)) ≡ length rows
length-numbered-run first [] = refl
length-numbered-run first (row ∷ rows) = ap suc (length-numbered-run (first + 1) rows)

pub numbered-append : (xs ys : List (ℕ × Option Row)) → numbered_all (xs ++ ys) ≡ numbered_all xs ++ numbered_all ys
numbered-append xs ys = flat_map-append (λ f. numbered f.0 f.1) xs ys

pub goes-nowhere : (bound : Bound) (part : Parts) → GoesOnBy bound part [] part
goes-nowhere bound part = record { goes = λ rows old. old ∙ ap (partial bound) (sym (append-nil rows)) }

-- the part may take one more
pub few-run : (bound : Bound) (first at : ℕ) (rows : List Row) (old now : Parts) → HasRoomFor bound (length rows) old → at < length rows
    → GoesOnBy bound old (numbered_all (run_from first (take at rows))) now → IsPartOfFew bound now
few-run bound first at rows old now room within goes = record {
  rows = room.rows ++ numbered_all (run_from first (take at rows));
  is = goes.goes room.rows room.is;
  few =
      let all = length-append room.rows (numbered_all (run_from first (take at rows))) in
      let long = length-numbered-run first (take at rows) ∙ length-take-le at rows (omega (arith, within)) in
      omega (arith, all, long, within, room.few);
}

pub run-more : (bound : Bound) (first at : ℕ) (rows : List Row) (old now new : Parts)
    → GoesOnBy bound old (numbered_all (run_from first (take at rows))) now → TakesAt bound (first + at) rows at now new
    → GoesOnBy bound old (numbered_all (run_from first (take (at + 1) rows))) new
run-more bound first at rows old now new so_far takes = record {
  goes = λ front is.
      takes.on.goes (front ++ numbered_all (run_from first (take at rows))) (so_far.goes front is)
      ∙ ap (partial bound)
      (append_assoc front (numbered_all (run_from first (take at rows))) ((first + at, takes.row) ∷ [])
      ∙ ap (λ (l : List Numbered). front ++ l)
      (sym (ap numbered_all (run_from-next first rows at takes.row takes.there)
      ∙ numbered-append (run_from first (take at rows)) ((first + at, Some takes.row) ∷ []))));
}

-- ---- rows, each at its own row number

length-numbered-each : (rids : List ℕ) (rows : List Row) → length rids ≡ length rows → length (numbered_all (each_at rids rows)) ≡ length rows
length-numbered-each [] rows same = same
length-numbered-each (rid ∷ rids) [] same = refl
length-numbered-each (rid ∷ rids) (row ∷ rows) same = ap suc (length-numbered-each rids rows (omega (arith, same)))

same-takes : (rids : List ℕ) (rows : List Row) (at : ℕ) → length rids ≡ length rows → at ≤ length rows → length (take at rids) ≡ length (take at rows)
same-takes rids rows at same within = length-take-le at rids (omega (arith, same, within)) ∙ sym (length-take-le at rows within)

-- the part may take one more
pub few-each : (bound : Bound) (rids : List ℕ) (at : ℕ) (rows : List Row) (old now : Parts) → length rids ≡ length rows → HasRoomFor bound (length rows) old
    → at < length rows → GoesOnBy bound old (numbered_all (each_at (take at rids) (take at rows))) now → IsPartOfFew bound now
few-each bound rids at rows old now same room within goes = record {
  rows = room.rows ++ numbered_all (each_at (take at rids) (take at rows));
  is = goes.goes room.rows room.is;
  few =
      let all = length-append room.rows (numbered_all (each_at (take at rids) (take at rows))) in
      let long = length-numbered-each (take at rids) (take at rows) (same-takes rids rows at same (omega (arith, within)))
      ∙ length-take-le at rows (omega (arith, within)) in
      omega (arith, all, long, within, room.few);
}

pub each-more : (bound : Bound) (rids : List ℕ) (at rid : ℕ) (rows : List Row) (old now new : Parts) → length rids ≡ length rows
    → slice_get rids at ≡ Some rid → GoesOnBy bound old (numbered_all (each_at (take at rids) (take at rows))) now → TakesAt bound rid rows at now new
    → GoesOnBy bound old (numbered_all (each_at (take (at + 1) rids) (take (at + 1) rows))) new
each-more bound rids at rid rows old now new same is so_far takes = record {
  goes = λ front begins.
      takes.on.goes (front ++ numbered_all (each_at (take at rids) (take at rows))) (so_far.goes front begins)
      ∙ ap (partial bound)
      (append_assoc front (numbered_all (each_at (take at rids) (take at rows))) ((rid, takes.row) ∷ [])
      ∙ ap (λ (l : List Numbered). front ++ l)
      (sym (ap numbered_all (each_at-next rids rows at rid takes.row same is takes.there)
      ∙ numbered-append (each_at (take at rids) (take at rows)) ((rid, Some takes.row) ∷ []))));
}

pub each-fits : (bound : Bound) (rids : List ℕ) (rows : List Row) → length rids ≡ length rows
    → AllByRecursion (λ row. MayAsk bound row.1) (each_at rids rows) → AllByRecursion (λ row. BoundFits row bound) rows
each-fits bound [] [] same all = tt
each-fits bound [] (row ∷ rows) same all = absurd (omega (arith, same))
each-fits bound (rid ∷ rids) [] same all = tt
each-fits bound (rid ∷ rids) (row ∷ rows) same all = (all.0 row refl, each-fits bound rids rows (omega (arith, same)) all.1)

pub room-each : (bound : Bound) (rids : List ℕ) (rows : List Row) (part : Parts) → length rids ≡ length rows
    → HasRoomFor bound (length (each_at rids rows)) part → HasRoomFor bound (length rows) part
room-each bound rids rows part same room = subst (λ (n : ℕ). HasRoomFor bound n part) (length-each_at rids rows same) room

-- ---- rows of a run, whatever their numbers are

-- the values of the rows of a run
values-run : (first : ℕ) (rows : List Row) → map (λ (r : Numbered). r.1) (numbered_all (run_from first rows)) ≡ rows
values-run first [] = refl
values-run first (row ∷ rows) = ap (λ (l : List Row). row ∷ l) (values-run (first + 1) rows)

-- rows that are taken whatever their numbers are
pub so-few : (bound : Bound) (rows : List Row) (part : Parts) → HasRoomFor bound (length rows) part → IsPartOfSoFew bound (length rows) part
so-few bound rows part room = record { rows = room.rows; is = room.is; few = room.few }

pub goes-with : (bound : Bound) (first : ℕ) (rows : List Row) (old new : Parts) → GoesOnWith bound old rows new
    → GoesOnBy bound old (numbered_all (run_from first rows)) new
goes-with bound first rows old new goes = record {
  goes = λ front is. goes.goes front (numbered_all (run_from first rows)) is (values-run first rows);
}

-- ---- rows of pieces

few-one : (rid n : ℕ) (row : Option Row) (rows : List Numbered) → length rows ≤ n → length (numbered rid row ++ rows) ≤ suc n
few-one rid n None rows less = omega (arith, less)
few-one rid n (Some row) rows less = omega (arith, less)

pub few-all : (fetched : List (ℕ × Option Row)) → length (numbered_all fetched) ≤ length fetched
few-all [] = omega arith
few-all (f ∷ fetched) = few-one f.0 (length fetched) f.1 (numbered_all fetched) (few-all fetched)

module _ {X : Type 0} (rows_in : X → List (ℕ × Option Row)) where
  pub room-piece : (bound : Bound) (pieces : List X) (i : ℕ) (piece : X) (part : Parts) → i < length pieces → piece ≡ get_or pieces i piece
      → length (flat_map rows_in pieces) < 2 ^ 64 → part ≡ partial bound (numbered_all (flat_map rows_in (take i pieces)))
      → HasRoomFor bound (length (rows_in piece)) part
  room-piece bound pieces i piece part within is few so_far = record {
    rows = numbered_all (flat_map rows_in (take i pieces));
    is = so_far;
    few = omega (arith, few-all (flat_map rows_in (take i pieces)), pieces-within rows_in pieces i piece within is, few);
  }

  pub pieces-taken : (bound : Bound) (pieces : List X) (i : ℕ) (piece : X) (part new : Parts) → i < length pieces → piece ≡ get_or pieces i piece
      → part ≡ partial bound (numbered_all (flat_map rows_in (take i pieces))) → GoesOnBy bound part (numbered_all (rows_in piece)) new
      → new ≡ partial bound (numbered_all (flat_map rows_in (take (i + 1) pieces)))
  pieces-taken bound pieces i piece part new within is so_far goes =
      goes.goes (numbered_all (flat_map rows_in (take i pieces))) so_far
      ∙ ap (partial bound)
      (sym (ap numbered_all (pieces-more rows_in pieces i piece within is) ∙ numbered-append (flat_map rows_in (take i pieces)) (rows_in piece)))

-- a run has as many row numbers as rows
pub room-run : (bound : Bound) (first : ℕ) (rows : List Row) (part : Parts) → HasRoomFor bound (length (run_from first rows)) part
    → HasRoomFor bound (length rows) part
room-run bound first rows part room = subst (λ (n : ℕ). HasRoomFor bound n part) (length-run_from first rows) room

-- ---- rows of a run that a mask chooses

pub chosen-at : (filter : Option (CondOf ℕ Value)) (rows : List Row) (at : ℕ) (row : Row) → slice_get rows at ≡ Some row
    → get_or (map (keeps filter) rows) at false ≡ keeps filter row
chosen-at filter [] at row is = absurd (cc is)
chosen-at filter (r ∷ rows) zero row is = ap (keeps filter) (some-inj is)
chosen-at filter (r ∷ rows) (suc at) row is = chosen-at filter rows at row is

pub kept-row : (filter : Option (CondOf ℕ Value)) (rows : List Row) (at : ℕ) (row : Row) → slice_get rows at ≡ Some row
    → get_or (map (keeps filter) rows) at false ≡ true → keeps filter row ≡ true
kept-row filter rows at row is chosen = sym (chosen-at filter rows at row is) ∙ chosen

-- a row that is not chosen
run-pass : (bound : Bound) (first at : ℕ) (rows : List Row) (old now : Parts) (row : Row) → slice_get rows at ≡ Some row
    → keeps bound.filter row ≡ false → GoesOnBy bound old (numbered_all (run_from first (take at rows))) now
    → GoesOnBy bound old (numbered_all (run_from first (take (at + 1) rows))) now
run-pass bound first at rows old now row is not so_far =
    subst (λ (l : List Numbered). GoesOnBy bound old l now)
    (sym (ap numbered_all (run_from-next first rows at row is) ∙ numbered-append (run_from first (take at rows)) ((first + at, Some row) ∷ [])))
    (goes-unkept bound old now (numbered_all (run_from first (take at rows))) ((first + at, row) ∷ []) so_far
    (ap (λ (b : Bool). if b then (first + at, row) ∷ [] else []) not))

one-at : {A : Type 0} (xs : List A) (at : ℕ) → at < length xs → (x : A) × (slice_get xs at ≡ Some x)
one-at [] at within = absurd (omega (arith, within))
one-at (x ∷ xs) zero within = (x, refl)
one-at (x ∷ xs) (suc at) within = one-at xs at (omega (arith, within))

pass-more : (bound : Bound) (first at n : ℕ) (rows : List Row) (old now : Parts) → at + n ≤ length rows
    → AreClear (map (keeps bound.filter) rows) at (at + n) → GoesOnBy bound old (numbered_all (run_from first (take at rows))) now
    → GoesOnBy bound old (numbered_all (run_from first (take (at + n) rows))) now
pass-more bound first at zero rows old now within clear so_far =
    let same : at ≡ at + zero = omega arith in
    subst (λ (k : ℕ). GoesOnBy bound old (numbered_all (run_from first (take k rows))) now) same so_far
pass-more bound first at (suc n) rows old now within clear so_far =
    let next : at + 1 + n ≡ at + suc n = omega arith in
    let found = one-at rows at (omega (arith, within)) in
    subst (λ (k : ℕ). GoesOnBy bound old (numbered_all (run_from first (take k rows))) now) next
    (pass-more bound first (at + 1) n rows old now (omega (arith, within)) (λ k low high. clear k (omega (arith, low)) (omega (arith, high)))
    (run-pass bound first at rows old now found.0 found.1
    (sym (chosen-at bound.filter rows at found.0 found.1) ∙ clear at (omega arith) (omega arith)) so_far))

-- none of the rows up to a place is chosen
pub run-passes : (bound : Bound) (first at to : ℕ) (rows : List Row) (mask : List Bool) (old now : Parts) → mask ≡ map (keeps bound.filter) rows
    → at ≤ to → to ≤ length rows → AreClear mask at to → GoesOnBy bound old (numbered_all (run_from first (take at rows))) now
    → GoesOnBy bound old (numbered_all (run_from first (take to rows))) now
run-passes bound first at to rows mask old now is from within clear so_far =
    let whole : at + (to - at) ≡ to = omega (arith, from) in
    subst (λ (k : ℕ). GoesOnBy bound old (numbered_all (run_from first (take k rows))) now) whole
    (pass-more bound first at (to - at) rows old now (omega (arith, from, within))
    (λ k low high. ap (λ (l : List Bool). get_or l k false) (sym is) ∙ clear k low (omega (arith, high, from))) so_far)

-- ---- rows that a mask chooses, each at its own row number

-- a row that is not chosen
each-pass : (bound : Bound) (rids : List ℕ) (at rid : ℕ) (rows : List Row) (old now : Parts) (row : Row) → length rids ≡ length rows
    → slice_get rids at ≡ Some rid → slice_get rows at ≡ Some row → keeps bound.filter row ≡ false
    → GoesOnBy bound old (numbered_all (each_at (take at rids) (take at rows))) now
    → GoesOnBy bound old (numbered_all (each_at (take (at + 1) rids) (take (at + 1) rows))) now
each-pass bound rids at rid rows old now row same there is not so_far =
    subst (λ (l : List Numbered). GoesOnBy bound old l now)
    (sym (ap numbered_all (each_at-next rids rows at rid row same there is)
    ∙ numbered-append (each_at (take at rids) (take at rows)) ((rid, Some row) ∷ [])))
    (goes-unkept bound old now (numbered_all (each_at (take at rids) (take at rows))) ((rid, row) ∷ []) so_far
    (ap (λ (b : Bool). if b then (rid, row) ∷ [] else []) not))

each-pass-more : (bound : Bound) (rids : List ℕ) (at n : ℕ) (rows : List Row) (old now : Parts) → length rids ≡ length rows → at + n ≤ length rows
    → AreClear (map (keeps bound.filter) rows) at (at + n) → GoesOnBy bound old (numbered_all (each_at (take at rids) (take at rows))) now
    → GoesOnBy bound old (numbered_all (each_at (take (at + n) rids) (take (at + n) rows))) now
each-pass-more bound rids at zero rows old now same within clear so_far =
    let here : at ≡ at + zero = omega arith in
    subst (λ (k : ℕ). GoesOnBy bound old (numbered_all (each_at (take k rids) (take k rows))) now) here so_far
each-pass-more bound rids at (suc n) rows old now same within clear so_far =
    let next : at + 1 + n ≡ at + suc n = omega arith in
    let found = one-at rows at (omega (arith, within)) in
    let number = one-at rids at (omega (arith, within, same)) in
    subst (λ (k : ℕ). GoesOnBy bound old (numbered_all (each_at (take k rids) (take k rows))) now) next
    (each-pass-more bound rids (at + 1) n rows old now same (omega (arith, within))
    (λ k low high. clear k (omega (arith, low)) (omega (arith, high)))
    (each-pass bound rids at number.0 rows old now found.0 same number.1 found.1
    (sym (chosen-at bound.filter rows at found.0 found.1) ∙ clear at (omega arith) (omega arith)) so_far))

-- none of the rows up to a place is chosen
pub each-passes : (bound : Bound) (rids : List ℕ) (at to : ℕ) (rows : List Row) (mask : List Bool) (old now : Parts) → length rids ≡ length rows
    → mask ≡ map (keeps bound.filter) rows → at ≤ to → to ≤ length rows → AreClear mask at to
    → GoesOnBy bound old (numbered_all (each_at (take at rids) (take at rows))) now
    → GoesOnBy bound old (numbered_all (each_at (take to rids) (take to rows))) now
each-passes bound rids at to rows mask old now same is from within clear so_far =
    let whole : at + (to - at) ≡ to = omega (arith, from) in
    subst (λ (k : ℕ). GoesOnBy bound old (numbered_all (each_at (take k rids) (take k rows))) now) whole
    (each-pass-more bound rids at (to - at) rows old now same (omega (arith, from, within))
    (λ k low high. ap (λ (l : List Bool). get_or l k false) (sym is) ∙ clear k low (omega (arith, high, from))) so_far)

-- the values of the rows
values-each : (rids : List ℕ) (rows : List Row) → length rids ≡ length rows → map (λ (r : Numbered). r.1) (numbered_all (each_at rids rows)) ≡ rows
values-each [] [] same = refl
values-each [] (row ∷ rows) same = absurd (omega (arith, same))
values-each (rid ∷ rids) [] same = absurd (omega (arith, same))
values-each (rid ∷ rids) (row ∷ rows) same = ap (λ (l : List Row). row ∷ l) (values-each rids rows (omega (arith, same)))

pub goes-each : (bound : Bound) (rids : List ℕ) (rows : List Row) (old new : Parts) → length rids ≡ length rows → GoesOnWith bound old rows new
    → GoesOnBy bound old (numbered_all (each_at rids rows)) new
goes-each bound rids rows old new same goes = record {
  goes = λ front is. goes.goes front (numbered_all (each_at rids rows)) is (values-each rids rows same);
}

-- ---- pieces behind other rows

module _ {X : Type 0} (rows_in : X → List (ℕ × Option Row)) where
  abbrev taken : List X → List Numbered
  taken pieces = numbered_all (flat_map rows_in pieces)

  pub room-piece-behind : (bound : Bound) (pieces : List X) (i : ℕ) (piece : X) (old part : Parts) → i < length pieces → piece ≡ get_or pieces i piece
      → HasRoomFor bound (length (flat_map rows_in pieces)) old → GoesOnBy bound old (numbered_all (flat_map rows_in (take i pieces))) part
      → HasRoomFor bound (length (rows_in piece)) part
  room-piece-behind bound pieces i piece old part within is room so_far = record {
    rows = room.rows ++ taken (take i pieces);
    is = so_far.goes room.rows room.is;
    few =
        let all = length-append room.rows (taken (take i pieces)) in
        omega (arith, all, few-all (flat_map rows_in (take i pieces)), pieces-within rows_in pieces i piece within is, room.few);
  }

  pub pieces-taken-behind : (bound : Bound) (pieces : List X) (i : ℕ) (piece : X) (old part new : Parts) → i < length pieces
      → piece ≡ get_or pieces i piece → GoesOnBy bound old (numbered_all (flat_map rows_in (take i pieces))) part
      → GoesOnBy bound part (numbered_all (rows_in piece)) new → GoesOnBy bound old (numbered_all (flat_map rows_in (take (i + 1) pieces))) new
  pieces-taken-behind bound pieces i piece old part new within is so_far goes = record {
    goes = λ front begins.
        goes.goes (front ++ taken (take i pieces)) (so_far.goes front begins)
        ∙ ap (partial bound)
        (append_assoc front (taken (take i pieces)) (numbered_all (rows_in piece))
        ∙ ap (λ (l : List Numbered). front ++ l)
        (sym (ap numbered_all (pieces-more rows_in pieces i piece within is)
        ∙ numbered-append (flat_map rows_in (take i pieces)) (rows_in piece))));
  }
