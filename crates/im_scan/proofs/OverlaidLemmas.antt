-- A view's own changes, laid over what was fetched in pieces.
use Rattle.std.proofs.Common.{◌≡◌, ℕ, zero, suc, ◌+◌, ◌-◌, ◌<◌, ◌≤◌, ◌==◌, Bool, true, false, if◌then◌else◌, List, [], ◌∷◌, ◌++◌, length, take, drop, get_or, map, All, Option, Some, None, refl, sym, ap, subst, ◌∙◌, arith, append_assoc, append-nil}
use Rattle.std.specs.List.{AllByRecursion, fold, range_with_len}
use Rattle.std.specs.Option.{unwrap_or}
use Rattle.std.proofs.lemmas.Bool.Decides.{nat_tests}
use Rattle.std.proofs.lemmas.List.{drop_all, drop-drop, length-drop, length-map, map-append, take_all}
use Rattle.std.proofs.lemmas.List.Elements.{All-head, All-tail}
use Rattle.std.proofs.Math.Seq.{drop-cons}
use Rattle.im_syntax.specs.declared.bound.Bound.{Bound}
use Rattle.im_scan.specs.declared.pieces.LentPiece.{LentPiece}
use Rattle.im_history.specs.declared.view.View.{View}
use Rattle.im_history.specs.Fetched.{run_from}
use Rattle.im_scan.specs.inner.LentPieces.{in_lent_piece, in_lent_pieces}
use Rattle.im_history.specs.Last.{Slot, AreLast, change_of, last_at}
use Rattle.im_history.specs.Rows.{Row, present}
use Rattle.im_history.proofs.LastLaws.{last-suffices}
use Rattle.im_group.specs.Partials.{partial}
use Rattle.im_scan.specs.Parts.{MayAsk, fetched_after}
use Rattle.im_scan.specs.inner.Beside.{Beside}
use Rattle.im_scan.specs.inner.Overlaid.{IsChangedIn, changed_by, left_of}
use Rattle.im_scan.specs.inner.Pieces.{AreInOrder, numbered_all}
use Rattle.im_scan.specs.inner.Steps.{MayScan, laid_row}
use Rattle.im_scan.proofs.BesideLemmas.{last-each}
use Rattle.im_scan.proofs.FitLemmas.{own-fits}
use Rattle.im_scan.proofs.InPlace.{first-of, found, numbers_of, others-of, rows_of}
use Rattle.im_scan.proofs.PieceLemmas.{numbered-in-order}
use Rattle.im_scan.proofs.SlotLemmas.{numbered_from-present}

-- ---- a run from a place on

pub drop-run : (first n : ℕ) (rows : List Row) → drop n (run_from first rows) ≡ run_from (first + n) (drop n rows)
drop-run first zero rows = let same : first ≡ first + 0 = omega arith in ap (λ (k : ℕ). run_from k rows) same
drop-run first (suc n) [] = refl
drop-run first (suc n) (row ∷ rows) =
    let next : first + 1 + n ≡ first + suc n = omega arith in
    drop-run (first + 1) n rows ∙ ap (λ (k : ℕ). run_from k (drop n rows)) next

-- all that is left of it
pub rest-run : (first from : ℕ) (rows : List Row) → run_from (first + from) (take (length rows - from) (drop from rows)) ≡ drop from (run_from first rows)
rest-run first from rows =
    ap (run_from (first + from)) (take_all (length rows - from) (drop from rows) (omega (arith, length-drop from rows)))
    ∙ sym (drop-run first from rows)

-- the row at a place, those before it and those behind
record HasAt (first n : ℕ) (rows : List Row) : Type 0 where
  pub was : Option Row
  pub is : run_from first rows ≡ run_from first (take n rows) ++ (first + n, was) ∷ drop (suc n) (run_from first rows)

has-at : (first n : ℕ) (rows : List Row) → n < length rows → HasAt first n rows
has-at first n [] within = absurd (omega (arith, within))
has-at first zero (row ∷ rows) within =
    let same : first ≡ first + 0 = omega arith in
    record { was = Some row; is = ap (λ (k : ℕ). (k, Some row) ∷ run_from (first + 1) rows) same }
has-at first (suc n) (row ∷ rows) within =
    let later = has-at (first + 1) n rows (omega (arith, within)) in
    let next : first + 1 + n ≡ first + suc n = omega arith in
    record {
      was = later.was;
      is =
          ap (λ (l : Beside). (first, Some row) ∷ l) later.is
          ∙ ap (λ (k : ℕ). (first, Some row) ∷ (run_from (first + 1) (take n rows) ++ (k, later.was) ∷ drop (suc n) (run_from (first + 1) rows))) next;
    }

-- a row of a run is put in the place of another
pub change-run : (first from rid : ℕ) (rows : List Row) (row : Option Row) (old mid new : Beside) → first ≤ rid → from ≤ rid - first
    → rid - first < length rows → mid ≡ old ++ run_from (first + from) (take (rid - first - from) (drop from rows)) → new ≡ mid ++ (rid, row) ∷ []
    → IsChangedIn rid row (old ++ drop from (run_from first rows)) (new ++ drop (rid - first + 1) (run_from first rows))
change-run first from rid rows row old mid new low begins within put pushed = record {
  before = mid;
  was = here.was;
  behind = drop (rid - first + 1) (run_from first rows);
  old_is =
      ap (λ (l : Beside). old ++ l) split
      ∙ (sym (append_assoc old (run_from (first + from) (take n (drop from rows))) ((rid, here.was) ∷ drop (rid - first + 1) (run_from first rows)))
      ∙ ap (λ (l : Beside). l ++ (rid, here.was) ∷ drop (rid - first + 1) (run_from first rows)) (sym put));
  new_is =
      ap (λ (l : Beside). l ++ drop (rid - first + 1) (run_from first rows)) pushed
      ∙ append_assoc mid ((rid, row) ∷ []) (drop (rid - first + 1) (run_from first rows));
}
  where
    n : ℕ
    n = rid - first - from

    here : HasAt (first + from) n (drop from rows)
    here = has-at (first + from) n (drop from rows) (omega (arith, begins, within, length-drop from rows))

    number : first + from + n ≡ rid
    number = omega (arith, low, begins)

    place : from + suc n ≡ rid - first + 1
    place = omega (arith, begins)

    behind : drop (suc n) (run_from (first + from) (drop from rows)) ≡ drop (rid - first + 1) (run_from first rows)
    behind =
        ap (drop (suc n)) (sym (drop-run first from rows))
        ∙ (drop-drop (suc n) from (run_from first rows) ∙ ap (λ (k : ℕ). drop k (run_from first rows)) place)

    split : drop from (run_from first rows) ≡ run_from (first + from) (take n (drop from rows)) ++ (rid, here.was) ∷ drop (rid - first + 1) (run_from first rows)
    split =
        drop-run first from rows
        ∙ (here.is
        ∙ (ap (λ (k : ℕ). run_from (first + from) (take n (drop from rows)) ++ (k, here.was) ∷ drop (suc n) (run_from (first + from) (drop from rows))) number
        ∙ ap (λ (l : Beside). run_from (first + from) (take n (drop from rows)) ++ (rid, here.was) ∷ l) behind))

-- a row is put in the place of another that is alone
pub change-one : (number from next rid : ℕ) (was row : Option Row) (old new : Beside) → number ≡ rid → from ≡ 0 → 1 ≡ next → new ≡ old ++ (rid, row) ∷ []
    → IsChangedIn rid row (old ++ drop from ((number, was) ∷ [])) (new ++ drop next ((number, was) ∷ []))
change-one number from next rid was row old new here begins ends pushed = record {
  before = old;
  was = was;
  behind = [];
  old_is =
      ap (λ (k : ℕ). old ++ drop k ((number, was) ∷ [])) begins
      ∙ ap (λ (k : ℕ). old ++ (k, was) ∷ []) here;
  new_is =
      ap (λ (k : ℕ). new ++ drop k ((number, was) ∷ [])) (sym ends)
      ∙ (append-nil new ∙ pushed);
}

-- and other rows behind
change-before : (rid : ℕ) (row : Option Row) (old new rest : Beside) → IsChangedIn rid row old new → IsChangedIn rid row (old ++ rest) (new ++ rest)
change-before rid row old new rest is = record {
  before = is.before;
  was = is.was;
  behind = is.behind ++ rest;
  old_is = ap (λ (l : Beside). l ++ rest) is.old_is ∙ append_assoc is.before ((rid, is.was) ∷ is.behind) rest;
  new_is = ap (λ (l : Beside). l ++ rest) is.new_is ∙ append_assoc is.before ((rid, row) ∷ is.behind) rest;
}

-- ---- pieces from a place on

pub left-whole : (pieces : List LentPiece) → left_of pieces 0 ≡ in_lent_pieces pieces
left-whole [] = refl
left-whole (piece ∷ pieces) = refl

at-cons : (fetched : List LentPiece) (at : ℕ) (piece : LentPiece) → at < length fetched → piece ≡ get_or fetched at piece
    → drop at fetched ≡ piece ∷ drop (at + 1) fetched
at-cons fetched at piece within is =
    let next : suc at ≡ at + 1 = omega arith in
    drop-cons fetched at piece within
    ∙ (ap (λ (p : LentPiece). p ∷ drop (suc at) fetched) (sym is) ∙ ap (λ (k : ℕ). piece ∷ drop k fetched) next)

-- what is left, once the rest of a piece is put behind others
pub left-more : (fetched : List LentPiece) (at from : ℕ) (piece : LentPiece) (old new : Beside) → at < length fetched → piece ≡ get_or fetched at piece
    → new ≡ old ++ drop from (in_lent_piece piece) → new ++ left_of (drop (at + 1) fetched) 0 ≡ old ++ left_of (drop at fetched) from
left-more fetched at from piece old new within is put =
    ap (λ (l : Beside). l ++ left_of (drop (at + 1) fetched) 0) put
    ∙ (ap (λ (l : Beside). (old ++ drop from (in_lent_piece piece)) ++ l) (left-whole (drop (at + 1) fetched))
    ∙ (append_assoc old (drop from (in_lent_piece piece)) (in_lent_pieces (drop (at + 1) fetched))
    ∙ ap (λ (l : List LentPiece). old ++ left_of l from) (sym (at-cons fetched at piece within is))))

-- a row of a piece is put in the place of another, and the other pieces are left
pub change-left : (fetched : List LentPiece) (at from next rid : ℕ) (piece : LentPiece) (row : Option Row) (old new : Beside) → at < length fetched
    → piece ≡ get_or fetched at piece → IsChangedIn rid row (old ++ drop from (in_lent_piece piece)) (new ++ drop next (in_lent_piece piece))
    → IsChangedIn rid row (old ++ left_of (drop at fetched) from) (new ++ left_of (drop at fetched) next)
change-left fetched at from next rid piece row old new within is changed =
    subst (λ (l : List LentPiece). IsChangedIn rid row (old ++ left_of l from) (new ++ left_of l next)) (sym (at-cons fetched at piece within is))
    (record {
      before = all.before;
      was = all.was;
      behind = all.behind;
      old_is = sym (append_assoc old (drop from (in_lent_piece piece)) rest) ∙ all.old_is;
      new_is = sym (append_assoc new (drop next (in_lent_piece piece)) rest) ∙ all.new_is;
    })
  where
    rest : Beside
    rest = in_lent_pieces (drop (at + 1) fetched)

    all : IsChangedIn rid row ((old ++ drop from (in_lent_piece piece)) ++ rest) ((new ++ drop next (in_lent_piece piece)) ++ rest)
    all = change-before rid row (old ++ drop from (in_lent_piece piece)) (new ++ drop next (in_lent_piece piece)) rest changed

-- the end
pub left-none : (fetched : List LentPiece) (at from : ℕ) → length fetched ≤ at → left_of (drop at fetched) from ≡ []
left-none fetched at from past = ap (λ (l : List LentPiece). left_of l from) (drop_all at fetched past)

-- ---- rows in order

abbrev apart : ℕ → Beside → Type 0
apart rid rows = AllByRecursion (λ row. (rid == row.0) ≡ false) rows

later-apart : (first rid : ℕ) (rows : Beside) → AreInOrder first rows → rid < first → apart rid rows
later-apart first rid [] are below = tt
later-apart first rid (row ∷ rows) are below =
    let here : row.0 ≡ first = first-of row.0 first (numbers_of rows) (range_with_len (first + 1) (length rows)) are in
    let other : (rid == row.0) ≡ false = grind (arith, nat_tests, here, below) in
    (other, later-apart (first + 1) rid rows (others-of row.0 first (numbers_of rows) (range_with_len (first + 1) (length rows)) are) (omega (arith, below)))

-- the rows before one and behind it are of other row numbers
record AreApart (first rid : ℕ) (front back : Beside) : Type 0 where
  pub low : first + length front ≡ rid
  pub before : apart rid front
  pub behind : apart rid back

are-apart : (first rid : ℕ) (was : Option Row) (before behind : Beside) → AreInOrder first (before ++ (rid, was) ∷ behind)
    → AreApart first rid before behind
are-apart first rid was [] behind are =
    let here : rid ≡ first = first-of rid first (numbers_of behind) (range_with_len (first + 1) (length behind)) are in
    record {
      low = omega (arith, here);
      before = tt;
      behind =
          later-apart (first + 1) rid behind (others-of rid first (numbers_of behind) (range_with_len (first + 1) (length behind)) are) (omega (arith, here));
    }
are-apart first rid was (row ∷ before) behind are =
    let rest = before ++ (rid, was) ∷ behind in
    let here : row.0 ≡ first = first-of row.0 first (numbers_of rest) (range_with_len (first + 1) (length rest)) are in
    let later = are-apart (first + 1) rid was before behind (others-of row.0 first (numbers_of rest) (range_with_len (first + 1) (length rest)) are) in
    let place = later.low in
    let other : (rid == row.0) ≡ false = grind (arith, nat_tests, here, place) in
    record {
      low = omega (arith, place);
      before = (other, later.before);
      behind = later.behind;
    }

-- with another row at a row number they are as much in order
order-changed : (first rid : ℕ) (row was : Option Row) (before behind : Beside) → AreInOrder first (before ++ (rid, was) ∷ behind)
    → AreInOrder first (before ++ (rid, row) ∷ behind)
order-changed first rid row was before behind are =
    same before ∙ (are ∙ ap (range_with_len first) (long before))
  where
    same : (rows : Beside) → numbers_of (rows ++ (rid, row) ∷ behind) ≡ numbers_of (rows ++ (rid, was) ∷ behind)
    same [] = refl
    same (r ∷ rows) = ap (λ (l : List ℕ). r.0 ∷ l) (same rows)

    long : (rows : Beside) → length (rows ++ (rid, was) ∷ behind) ≡ length (rows ++ (rid, row) ∷ behind)
    long [] = refl
    long (r ∷ rows) = ap suc (long rows)

-- ---- changes that are left

-- a row, with what these slots have at its row number in its place
abbrev pub put_over : List Slot → ℕ × Option Row → ℕ × Option Row
put_over slots row = (row.0, unwrap_or (last_at slots row.0) row.1)

over-apart : (rid : ℕ) (row : Option Row) (left : List Slot) (rows : Beside) → apart rid rows
    → map (put_over left) rows ≡ map (put_over ((rid, row) ∷ left)) rows
over-apart rid row left [] all = refl
over-apart rid row left (r ∷ rows) all =
    ap (λ (b : Bool). (r.0, unwrap_or (if b then Some row else last_at left r.0) r.1) ∷ map (put_over left) rows) (sym all.0)
    ∙ ap (λ (l : Beside). put_over ((rid, row) ∷ left) r ∷ l) (over-apart rid row left rows all.1)

over-here : (rid : ℕ) (row was : Option Row) (left : List Slot) → unwrap_or (last_at left rid) row ≡ row
    → put_over left (rid, row) ≡ put_over ((rid, row) ∷ left) (rid, was)
over-here rid row was left last =
    let same : (rid == rid) ≡ true = grind (arith, nat_tests) in
    ap (λ (r : Option Row). (rid, r)) last
    ∙ ap (λ (b : Bool). (rid, unwrap_or (if b then Some row else last_at left rid) was)) (sym same)

-- these changes are left, over rows in which the others stand
pub record IsLaid (fetched : Beside) (view : View) (first : ℕ) (left : List Slot) (rows : Beside) : Type 0 where
  pub each : All (λ slot. change_of view.own view.table slot.0 ≡ Some slot.1) left
  pub laid : map (put_over left) rows ≡ map (changed_by view) fetched
  pub order : AreInOrder first rows

module _ (fetched : Beside) (view : View) (first : ℕ) where
  -- the rows of row numbers that the slots are of
  none-laid : (count from : ℕ) (left : List Slot) (rows : Beside) → AreLast view.own view.table first count left → AreInOrder from rows
      → first ≤ from → from + length rows ≤ first + count → map (put_over left) rows ≡ map (changed_by view) rows
  none-laid count from left [] last are low high = refl
  none-laid count from left (row ∷ rows) last are low high =
      let here : row.0 ≡ from = first-of row.0 from (numbers_of rows) (range_with_len (from + 1) (length rows)) are in
      ap (λ (o : Option (Option Row)). (row.0, unwrap_or o row.1) ∷ map (put_over left) rows)
      (last.found row.0 (omega (arith, here, low)) (omega (arith, here, high)))
      ∙ ap (λ (l : Beside). changed_by view row ∷ l)
      (none-laid count (from + 1) left rows last (others-of row.0 from (numbers_of rows) (range_with_len (from + 1) (length rows)) are)
      (omega (arith, low)) (omega (arith, high)))

  pub laid-none : (count : ℕ) (left : List Slot) (rows : Beside) → AreLast view.own view.table first count left → AreInOrder first fetched
      → length fetched ≡ count → rows ≡ fetched → IsLaid fetched view first left rows
  laid-none count left rows last are long is =
      subst (IsLaid fetched view first left) (sym is) (record {
        each = last.each;
        laid = none-laid count first left fetched last are (omega arith) (omega (arith, long));
        order = are;
      })

  pub laid-own : (rid : ℕ) (row : Option Row) (left : List Slot) (old new : Beside) → IsLaid fetched view first ((rid, row) ∷ left) old
      → IsChangedIn rid row old new → IsLaid fetched view first left new
  laid-own rid row left old new are changed =
      subst (IsLaid fetched view first left) (sym changed.new_is) (record {
        each = rest;
        laid =
            map-append (put_over left) changed.before ((rid, row) ∷ changed.behind)
            ∙ (ap (λ (l : Beside). l ++ put_over left (rid, row) ∷ map (put_over left) changed.behind) (over-apart rid row left changed.before others.before)
            ∙ (ap (λ (r : ℕ × Option Row). map (put_over ((rid, row) ∷ left)) changed.before ++ r ∷ map (put_over left) changed.behind)
            (over-here rid row changed.was left (last-each view.own view.table rid row left rest head))
            ∙ (ap (λ (l : Beside). map (put_over ((rid, row) ∷ left)) changed.before ++ put_over ((rid, row) ∷ left) (rid, changed.was) ∷ l)
            (over-apart rid row left changed.behind others.behind)
            ∙ (sym (map-append (put_over ((rid, row) ∷ left)) changed.before ((rid, changed.was) ∷ changed.behind))
            ∙ (ap (map (put_over ((rid, row) ∷ left))) (sym changed.old_is) ∙ are.laid)))));
        order = order-changed first rid row changed.was changed.before changed.behind order;
      })
    where
      head : change_of view.own view.table rid ≡ Some row
      head = All-head (λ (s : Slot). change_of view.own view.table s.0 ≡ Some s.1) (rid, row) left are.each

      rest : All (λ (s : Slot). change_of view.own view.table s.0 ≡ Some s.1) left
      rest = All-tail (λ (s : Slot). change_of view.own view.table s.0 ≡ Some s.1) (rid, row) left are.each

      order : AreInOrder first (changed.before ++ (rid, changed.was) ∷ changed.behind)
      order = subst (AreInOrder first) changed.old_is are.order

      others : AreApart first rid changed.before changed.behind
      others = are-apart first rid changed.was changed.before changed.behind order

  over-none : (rows : Beside) → rows ≡ map (put_over []) rows
  over-none [] = refl
  over-none ((rid, row) ∷ rows) = ap (λ (l : Beside). (rid, row) ∷ l) (over-none rows)

  pub laid-all : (rows : Beside) → IsLaid fetched view first [] rows → rows ≡ map (changed_by view) fetched
  laid-all rows are = over-none rows ∙ are.laid

-- ---- what a scan takes

module _ (view : View) where
  order-laid : (first : ℕ) (fetched : Beside) → AreInOrder first fetched → AreInOrder first (map (changed_by view) fetched)
  order-laid first fetched are = same fetched ∙ (are ∙ ap (range_with_len first) (sym (length-map fetched (changed_by view))))
    where
      same : (rows : Beside) → numbers_of (map (changed_by view) rows) ≡ numbers_of rows
      same [] = refl
      same (row ∷ rows) = ap (λ (l : List ℕ). row.0 ∷ l) (same rows)

  -- the row at a place
  at-laid : (first i : ℕ) (fetched : Beside) → AreInOrder first fetched → i < length fetched
      → get_or (rows_of (map (changed_by view) fetched)) i None ≡ unwrap_or (change_of view.own view.table (first + i)) (get_or (rows_of fetched) i None)
  at-laid first i [] are within = absurd (omega (arith, within))
  at-laid first zero (row ∷ rows) are within =
      let here : row.0 ≡ first + 0 =
      first-of row.0 first (numbers_of rows) (range_with_len (first + 1) (length rows)) are ∙ (let same : first ≡ first + 0 = omega arith in same) in
      ap (λ (k : ℕ). unwrap_or (change_of view.own view.table k) row.1) here
  at-laid first (suc i) (row ∷ rows) are within =
      let next : first + 1 + i ≡ first + suc i = omega arith in
      at-laid (first + 1) i rows (others-of row.0 first (numbers_of rows) (range_with_len (first + 1) (length rows)) are) (omega (arith, within))
      ∙ ap (λ (k : ℕ). unwrap_or (change_of view.own view.table k) (get_or (rows_of rows) i None)) next

  -- the rows with the own changes over them are those that a scan takes
  pub laid-part : (bound : Bound) (first count : ℕ) (fetched : Beside) → AreInOrder first fetched → length fetched ≡ count
      → partial bound (numbered_all (map (changed_by view) fetched)) ≡ partial bound (present (laid_row None fetched view) first count)
  laid-part bound first count fetched are long =
      ap (partial bound)
      (numbered-in-order first (map (changed_by view) fetched) (order-laid first fetched are)
      ∙ (numbered_from-present (laid_row None fetched view) first (rows_of (map (changed_by view) fetched)) each
      ∙ ap (present (laid_row None fetched view) first) all))
    where
      all : length (rows_of (map (changed_by view) fetched)) ≡ count
      all = length-map (map (changed_by view) fetched) (λ row. row.1) ∙ (length-map fetched (changed_by view) ∙ long)

      each : (i : ℕ) → i < length (rows_of (map (changed_by view) fetched))
          → get_or (rows_of (map (changed_by view) fetched)) i None ≡ laid_row None fetched view (first + i)
      each i within =
          let inside : i < length fetched = omega (arith, within, all, long) in
          at-laid first i fetched are inside
          ∙ (ap (unwrap_or (change_of view.own view.table (first + i))) (sym (found fetched first i None are inside))
          ∙ sym (last-suffices view.table (first + i) (fold (fetched_after (first + i)) None fetched) view.own))

  -- a query may be asked of them
  pub laid-fits : (bound : Bound) (fetched : Beside) → MayScan bound None fetched view.own
      → AllByRecursion (λ row. MayAsk bound row.1) (map (changed_by view) fetched)
  laid-fits bound fetched may = each fetched may.fetched_fits
    where
      each : (rows : Beside) → AllByRecursion (λ row. MayAsk bound row.1) rows → AllByRecursion (λ row. MayAsk bound row.1) (map (changed_by view) rows)
      each [] all = tt
      each (row ∷ rows) all = (
        subst (MayAsk bound) (last-suffices view.table row.0 row.1 view.own) (own-fits bound view.own view.table row.0 row.1 may.own_fits all.0),
        each rows all.1,
      )
