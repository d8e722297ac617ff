-- The part of what is left of a unit and of the rows beside it.
use Rattle.std.proofs.Common.{◌≡◌, ℕ, zero, suc, ◌+◌, ◌-◌, ◌<◌, ◌≤◌, ◌^◌, ◌==◌, Bool, true, false, if◌then◌else◌, List, [], ◌∷◌, ◌++◌, length, take, map, get_or, Option, Some, None, refl, sym, ap, subst, ◌∙◌, ⊎_elim, arith, append-nil}
use Rattle.std.specs.Prelude.{nat_lt}
use Rattle.std.specs.List.{cons_option, fold}
use Rattle.std.specs.Option.{option_map}
use Rattle.std.proofs.lemmas.Bool.{cases_lt}
use Rattle.std.proofs.lemmas.Bool.Decides.{nat_tests}
use Rattle.std.proofs.lemmas.List.{length-append, length-take-le, take_more}
use Rattle.im_syntax.specs.declared.bound.Bound.{Bound}
use Rattle.im_history.specs.Rows.{Row, present}
use Rattle.im_history.specs.Units.{Content}
use Rattle.im_codepred.specs.Tallies.{chosen}
use Rattle.im_group.specs.Interleaved.{Interleaves, nothing, from_front, from_back}
use Rattle.im_group.specs.MadeGroups.{kept_values}
use Rattle.im_group.specs.Partials.{IsPartOfFew, Numbered, Parts, keeps, kept, partial}
use Rattle.im_group.proofs.ForCallers.{partial-interleaved}
use Rattle.im_unit.specs.Holding.{present_rows, row_of}
use Rattle.im_scan.specs.Parts.{fetched_after}
use Rattle.im_scan.specs.inner.Beside.{Beside}
use Rattle.im_scan.specs.inner.Left.{AreBetween, IsPartOfChosen, is_left, left_at, spots_where}
use Rattle.im_scan.specs.inner.Pieces.{HasRoomFor, numbered_all}
use Rattle.im_scan.specs.inner.Steps.{GoesOnBy, numbered}
use Rattle.im_scan.specs.inner.Walk.{standing}
use Rattle.im_scan.proofs.PieceLemmas.{few-all, numbered-append}
use Rattle.im_scan.proofs.WalkLemmas.{goes-on}

-- ---- the row numbers that are left

-- a row number that is not left stays so
not-left : {X : Type 0} (beside : List (ℕ × X)) (rid : ℕ) → fold (λ left row. if row.0 == rid then false else left) false beside ≡ false
not-left [] rid = refl
not-left (row ∷ beside) rid = by (row.0 == rid) (not-left beside rid)
  where
    by : (b : Bool) → fold (λ left r. if r.0 == rid then false else left) false beside ≡ false →
        fold (λ left r. if r.0 == rid then false else left) (if b then false else false) beside ≡ false
    by true e = e
    by false e = e

-- none from the end on is left
past-left : {X : Type 0} (end : ℕ) (beside : List (ℕ × X)) (rid : ℕ) → end ≤ rid → is_left end beside rid ≡ false
past-left end beside rid past =
    let out : nat_lt rid end ≡ false = grind (arith, nat_tests, past) in
    ap (λ (b : Bool). fold (λ left row. if row.0 == rid then false else left) b beside) out ∙ not-left beside rid

-- that of a row beside the unit is not
here-left : (end rid : ℕ) (row : Option Row) (beside : Beside) → is_left end ((rid, row) ∷ beside) rid ≡ false
here-left end rid row beside =
    let same : (rid == rid) ≡ true = grind (arith, nat_tests) in
    ap (λ (b : Bool). fold (λ left r. if r.0 == rid then false else left) (if b then false else nat_lt rid end) beside) same ∙ not-left beside rid

-- that of another row
other-left : (end rid : ℕ) (row : ℕ × Option Row) (beside : Beside) → (row.0 ≡ rid → ⊥) → is_left end (row ∷ beside) rid ≡ is_left end beside rid
other-left end rid row beside apart =
    let other : (row.0 == rid) ≡ false = grind (arith, nat_tests, apart) in
    ap (λ (b : Bool). fold (λ left r. if r.0 == rid then false else left) (if b then false else nat_lt rid end) beside) other

-- rows of later row numbers hide none
before-left : (from end rid : ℕ) (beside : Beside) → AreBetween from end beside → rid < from → rid < end → is_left end beside rid ≡ true
before-left from end rid [] are before within = grind (arith, nat_tests, within)
before-left from end rid (row ∷ beside) are before within =
    other-left end rid row beside (λ e. let low = are.0 in omega (arith, e, low, before))
    ∙ before-left (row.0 + 1) end rid beside are.2 (let low = are.0 in omega (arith, low, before)) within

-- ---- what is left, by columns and by row numbers

either-none : (b : Bool) → ◌≡◌ {A = Option Row} (if b then None else None) None
either-none true = refl
either-none false = refl

none-chosen : (shown : ℕ → Bool) (test : Row → Bool) (rid : ℕ) (rows : List (Option Row)) → ((k : ℕ) → rid ≤ k → shown k ≡ false) →
    chosen (spots_where shown test rid rows) (present_rows rows) ≡ []
none-chosen shown test rid [] none = refl
none-chosen shown test rid (None ∷ rows) none = none-chosen shown test (rid + 1) rows (λ k low. none k (omega (arith, low)))
none-chosen shown test rid (Some row ∷ rows) none =
    ap (λ (b : Bool). chosen ((if b then test row else false) ∷ spots_where shown test (rid + 1) rows) (row ∷ present_rows rows)) (none rid (omega arith))
    ∙ none-chosen shown test (rid + 1) rows (λ k low. none k (omega (arith, low)))

-- the rows kept at the row numbers that are shown are those chosen
shown-values : (bound : Bound) (shown : ℕ → Bool) (row_at : ℕ → Option Row) (rows : List (Option Row)) (first n : ℕ) →
    ((k rid : ℕ) → k < n → rid ≡ first + k → row_at rid ≡ (if shown rid then get_or rows k None else None)) →
    ((rid : ℕ) → first + n ≤ rid → shown rid ≡ false) →
    kept_values bound (present row_at first n) ≡ chosen (spots_where shown (keeps bound.filter) first rows) (present_rows rows)
shown-values bound shown row_at [] first zero each past = refl
shown-values bound shown row_at [] first (suc n) each past =
    ap (λ (row : Option Row). kept_values bound (cons_option (option_map (λ r. (first, r)) row) (present row_at (first + 1) n)))
    (each 0 first (omega arith) (omega arith) ∙ either-none (shown first))
    ∙ shown-values bound shown row_at [] (first + 1) n (λ k rid below is. each (suc k) rid (omega (arith, below)) (omega (arith, is)))
    (λ rid low. past rid (omega (arith, low)))
shown-values bound shown row_at (row ∷ rows) first zero each past =
    sym (none-chosen shown (keeps bound.filter) first (row ∷ rows) (λ rid low. past rid (omega (arith, low))))
shown-values bound shown row_at (None ∷ rows) first (suc n) each past =
    ap (λ (row : Option Row). kept_values bound (cons_option (option_map (λ r. (first, r)) row) (present row_at (first + 1) n)))
    (each 0 first (omega arith) (omega arith) ∙ either-none (shown first))
    ∙ shown-values bound shown row_at rows (first + 1) n (λ k rid below is. each (suc k) rid (omega (arith, below)) (omega (arith, is)))
    (λ rid low. past rid (omega (arith, low)))
shown-values bound shown row_at (Some row ∷ rows) first (suc n) each past =
    ap (λ (r : Option Row). kept_values bound (cons_option (option_map (λ r. (first, r)) r) (present row_at (first + 1) n)))
    (each 0 first (omega arith) (omega arith))
    ∙ by (shown first)
    (shown-values bound shown row_at rows (first + 1) n (λ k rid below is. each (suc k) rid (omega (arith, below)) (omega (arith, is)))
    (λ rid low. past rid (omega (arith, low))))
  where
    later : List Numbered
    later = present row_at (first + 1) n

    others : List Row
    others = chosen (spots_where shown (keeps bound.filter) (first + 1) rows) (present_rows rows)

    if_kept : (c : Bool) → kept_values bound later ≡ others →
        map (λ (r : Numbered). r.1) (if c then (first, row) ∷ kept bound later else kept bound later) ≡ (if c then row ∷ others else others)
    if_kept true e = ap (λ (l : List Row). row ∷ l) e
    if_kept false e = e

    by : (b : Bool) → kept_values bound later ≡ others →
        kept_values bound (cons_option (option_map (λ r. (first, r)) (if b then Some row else None)) later) ≡
        (if (if b then keeps bound.filter row else false) then row ∷ others else others)
    by true e = if_kept (keeps bound.filter row) e
    by false e = e

-- the rows kept of what is left of a unit are those chosen of its rows
left-values : (bound : Bound) (content : Content) (beside : Beside) (spots : List Bool) (count : ℕ) →
    spots ≡ spots_where (is_left (content.first + count) beside) (keeps bound.filter) content.first content.rows →
    kept_values bound (present (left_at content (content.first + count) beside) content.first count) ≡ chosen spots (present_rows content.rows)
left-values bound content beside spots count is =
    shown-values bound shown (left_at content (content.first + count) beside) content.rows content.first count
    (λ k rid below at.
    let inside : nat_lt rid content.first ≡ false = grind (arith, nat_tests, at) in
    let there : rid - content.first ≡ k = omega (arith, at) in
    ap (λ (b : Bool). if shown rid then (if b then None else get_or content.rows (rid - content.first) None) else None) inside
    ∙ ap (λ n. if shown rid then get_or content.rows n None else None) there)
    (λ rid low. past-left (content.first + count) beside rid low)
    ∙ sym (ap (λ (m : List Bool). chosen m (present_rows content.rows)) is)
  where
    shown : ℕ → Bool
    shown = is_left (content.first + count) beside

-- ---- what is left, and the rows beside it

-- rows of later row numbers change nothing
missed : (from end rid : ℕ) (beside : Beside) (row : Option Row) → AreBetween from end beside → rid < from → fold (fetched_after rid) row beside ≡ row
missed from end rid [] row are before = refl
missed from end rid (r ∷ beside) row are before =
    let low = are.0 in
    let apart : (r.0 == rid) ≡ false = grind (arith, nat_tests, low, before) in
    ap (λ (b : Bool). fold (fetched_after rid) (if b then r.1 else row) beside) apart
    ∙ missed (r.0 + 1) end rid beside row are.2 (omega (arith, low, before))

-- two lists alternate in a third, and the first is so short that there is room for so many more
record AreWoven (front back whole : List Numbered) (more n : ℕ) : Type 0 where
  pub woven : Interleaves front back whole
  pub few : length front + more ≤ n

-- a row more of the first list, if there is one
one-front : (rid : ℕ) (row : Option Row) (front back whole : List Numbered) (more n : ℕ) → AreWoven front back whole more n →
    AreWoven (cons_option (option_map (λ r. (rid, r)) row) front) back (cons_option (option_map (λ r. (rid, r)) row) whole) more (suc n)
one-front rid None front back whole more n are = record { woven = are.woven; few = let few = are.few in omega (arith, few) }
one-front rid (Some row) front back whole more n are = record { woven = from_front are.woven; few = let few = are.few in omega (arith, few) }

-- a row more of the second
one-back : (rid : ℕ) (row : Option Row) (front back whole : List Numbered) (more n : ℕ) → AreWoven front back whole more n →
    AreWoven front (numbered rid row ++ back) (cons_option (option_map (λ r. (rid, r)) row) whole) (suc more) (suc n)
one-back rid None front back whole more n are = record { woven = are.woven; few = let few = are.few in omega (arith, few) }
one-back rid (Some row) front back whole more n are = record { woven = from_back are.woven; few = let few = are.few in omega (arith, few) }

weave : (end : ℕ) (beside : Beside) (left unit whole : ℕ → Option Row) (first n : ℕ) → first + n ≡ end → AreBetween first end beside →
    ((k : ℕ) → first ≤ k → k < end → left k ≡ (if is_left end beside k then unit k else None)) →
    ((k : ℕ) → first ≤ k → k < end → whole k ≡ fold (fetched_after k) (unit k) beside) →
    AreWoven (present left first n) (numbered_all beside) (present whole first n) (length beside) n
weave end [] left unit whole first zero is are lefts wholes = record { woven = nothing; few = omega arith }
weave end (row ∷ beside) left unit whole first zero is are lefts wholes =
    absurd (let low = are.0 in let high = are.1 in omega (arith, is, low, high))
weave end [] left unit whole first (suc n) is are lefts wholes =
    subst (λ (o : Option Row). AreWoven (cons_option (option_map (λ r. (first, r)) (left first)) (present left (first + 1) n)) []
    (cons_option (option_map (λ r. (first, r)) o) (present whole (first + 1) n)) 0 (suc n)) same
    (one-front first (left first) (present left (first + 1) n) [] (present whole (first + 1) n) 0 n
    (weave end [] left unit whole (first + 1) n (omega (arith, is)) tt (λ k low high. lefts k (omega (arith, low)) high)
    (λ k low high. wholes k (omega (arith, low)) high)))
  where
    within : nat_lt first end ≡ true
    within = grind (arith, nat_tests, is)

    same : left first ≡ whole first
    same =
        lefts first (omega arith) (omega (arith, is)) ∙ (ap (λ (b : Bool). if b then unit first else None) within
        ∙ sym (wholes first (omega arith) (omega (arith, is))))
weave end (row ∷ beside) left unit whole first (suc n) is are lefts wholes =
    ⊎_elim
    (λ (before : first < row.0).
    let between : AreBetween (first + 1) end (row ∷ beside) = (omega (arith, before), are.1, are.2) in
    let behind : AreBetween row.0 end (row ∷ beside) = (omega arith, are.1, are.2) in
    let shown = before-left row.0 end first (row ∷ beside) behind before (omega (arith, is)) in
    let stands = missed row.0 end first (row ∷ beside) (unit first) behind before in
    let same : left first ≡ whole first =
    lefts first (omega arith) (omega (arith, is)) ∙ (ap (λ (b : Bool). if b then unit first else None) shown
    ∙ sym (wholes first (omega arith) (omega (arith, is)) ∙ stands)) in
    subst (λ (o : Option Row). AreWoven (cons_option (option_map (λ r. (first, r)) (left first)) (present left (first + 1) n))
    (numbered_all (row ∷ beside)) (cons_option (option_map (λ r. (first, r)) o) (present whole (first + 1) n)) (suc (length beside)) (suc n)) same
    (one-front first (left first) (present left (first + 1) n) (numbered_all (row ∷ beside)) (present whole (first + 1) n) (suc (length beside)) n
    (weave end (row ∷ beside) left unit whole (first + 1) n (omega (arith, is)) between (λ k low high. lefts k (omega (arith, low)) high)
    (λ k low high. wholes k (omega (arith, low)) high))))
    (λ (past : row.0 ≤ first).
    let low = are.0 in
    let here : row.0 ≡ first = omega (arith, past, low) in
    let later : AreBetween (first + 1) end beside = subst (λ (n : ℕ). AreBetween (n + 1) end beside) here are.2 in
    let none : left first ≡ None =
    lefts first (omega arith) (omega (arith, is)) ∙ ap (λ (b : Bool). if b then unit first else None)
    (ap (λ (n : ℕ). is_left end ((n, row.1) ∷ beside) first) here ∙ here-left end first row.1 beside) in
    let taken : whole first ≡ row.1 =
    wholes first (omega arith) (omega (arith, is))
    ∙ (ap (λ (b : Bool). fold (fetched_after first) (if b then row.1 else unit first) beside) (equal here)
    ∙ missed (first + 1) end first beside row.1 later (omega arith)) in
    subst (λ (o : Option Row). AreWoven (cons_option (option_map (λ r. (first, r)) o) (present left (first + 1) n))
    (numbered row.0 row.1 ++ numbered_all beside) (present whole first (suc n)) (suc (length beside)) (suc n)) (sym none)
    (subst (λ (o : Option Row). AreWoven (present left (first + 1) n)
    (numbered row.0 row.1 ++ numbered_all beside) (cons_option (option_map (λ r. (first, r)) o) (present whole (first + 1) n)) (suc (length beside))
    (suc n)) (sym taken)
    (subst (λ (m : ℕ). AreWoven (present left (first + 1) n)
    (numbered m row.1 ++ numbered_all beside) (cons_option (option_map (λ r. (first, r)) row.1) (present whole (first + 1) n)) (suc (length beside))
    (suc n)) (sym here)
    (one-back first row.1 (present left (first + 1) n) (numbered_all beside) (present whole (first + 1) n) (length beside) n
    (weave end beside left unit whole (first + 1) n (omega (arith, is)) later
    (λ k from high. lefts k (omega (arith, from)) high
    ∙ ap (λ (b : Bool). if b then unit k else None) (other-left end k row beside (λ e. omega (arith, e, here, from))))
    (λ k from high. wholes k (omega (arith, from)) high
    ∙ ap (λ (b : Bool). fold (fetched_after k) (if b then row.1 else unit k) beside) (apart here k from)))))))
    (cases_lt first row.0)
  where
    equal : row.0 ≡ first → (row.0 == first) ≡ true
    equal here = grind (arith, nat_tests, here)

    apart : row.0 ≡ first → (k : ℕ) → first + 1 ≤ k → (row.0 == k) ≡ false
    apart here k from = grind (arith, nat_tests, here, from)

module _ (bound : Bound) (content : Content) (beside : Beside) (count : ℕ) where
  abbrev left_rows : List Numbered
  left_rows = present (left_at content (content.first + count) beside) content.first count

  abbrev whole_rows : List Numbered
  whole_rows = present (standing (Some content) beside) content.first count

  woven : AreBetween content.first (content.first + count) beside →
      AreWoven left_rows (numbered_all beside) whole_rows (length beside) count
  woven are =
      weave (content.first + count) beside (left_at content (content.first + count) beside) (row_of content) (standing (Some content) beside)
      content.first count refl are (λ k low high. refl) (λ k low high. refl)

  -- the part of what is chosen of a unit has room for the rows beside it
  pub left-room : (spots : List Bool) (part : Parts) → AreBetween content.first (content.first + count) beside → content.first + count < 2 ^ 64 →
      spots ≡ spots_where (is_left (content.first + count) beside) (keeps bound.filter) content.first content.rows →
      IsPartOfChosen bound content spots part → HasRoomFor bound (length beside) part
  left-room spots part are within is gives = record {
    rows = left_rows;
    is = gives.gives left_rows (left-values bound content beside spots count is);
    few = let few = (woven are).few in omega (arith, few, within);
  }

  -- with them it is the part of what stands at the row numbers
  pub left-whole : bound.grouped ≡ true → (spots : List Bool) (part new : Parts) → AreBetween content.first (content.first + count) beside →
      spots ≡ spots_where (is_left (content.first + count) beside) (keeps bound.filter) content.first content.rows →
      IsPartOfChosen bound content spots part → GoesOnBy bound part (numbered_all beside) new → new ≡ partial bound whole_rows
  left-whole grouped spots part new are is gives goes =
      goes.goes left_rows (gives.gives left_rows (left-values bound content beside spots count is))
      ∙ sym (partial-interleaved bound left_rows (numbered_all beside) whole_rows grouped (woven are).woven)

-- ---- rows beside a unit that is not gone over

none-present : (first n : ℕ) → present (λ rid. None) first n ≡ []
none-present first zero = refl
none-present first (suc n) = none-present (first + 1) n

alone : {front back whole : List Numbered} → Interleaves front back whole → front ≡ [] → back ≡ whole
alone nothing none = refl
alone (from_front rest) none = cc
alone (from_back {x = row} {front = front} {back = back} {whole = whole} rest) none = ap (λ (l : List Numbered). row ∷ l) (alone rest none)

-- they are all that stands there
pub beside-alone : (first count : ℕ) (beside : Beside) → AreBetween first (first + count) beside →
    numbered_all beside ≡ present (standing None beside) first count
beside-alone first count beside are =
    let woven = (weave (first + count) beside (λ rid. None) (λ rid. None) (standing None beside) first count refl are
    (λ k low high. sym (either-none (is_left (first + count) beside k))) (λ k low high. refl)).woven in
    alone woven (none-present first count)

-- ---- the rows beside a unit, one by one

numbered-push : (rows : Beside) (rid : ℕ) (row : Option Row) → numbered_all (rows ++ (rid, row) ∷ []) ≡ numbered_all rows ++ numbered rid row
numbered-push rows rid row =
    numbered-append rows ((rid, row) ∷ [])
    ∙ ap (λ (l : List Numbered). numbered_all rows ++ l) (append-nil (numbered rid row))

-- one more may come
pub few-beside : (bound : Bound) (i : ℕ) (rows : Beside) (old part : Parts) → HasRoomFor bound (length rows) old → i < length rows →
    GoesOnBy bound old (numbered_all (take i rows)) part → IsPartOfFew bound part
few-beside bound i rows old part has inside goes = record {
  rows = has.rows ++ numbered_all (take i rows);
  is = goes.goes has.rows has.is;
  few =
      let few = has.few in
      let less = few-all (take i rows) in
      let long = length-take-le i rows (omega (arith, inside)) in
      let both = length-append has.rows (numbered_all (take i rows)) in
      omega (arith, few, less, long, both, inside);
}

-- one more came
pub beside-more : (bound : Bound) (i : ℕ) (rows : Beside) (row : ℕ × Option Row) (old part new : Parts) → i < length rows →
    row ≡ get_or rows i row → GoesOnBy bound old (numbered_all (take i rows)) part →
    GoesOnBy bound part (numbered row.0 row.1) new → GoesOnBy bound old (numbered_all (take (i + 1) rows)) new
beside-more bound i rows row old part new inside is goes more =
    subst (λ (l : List Numbered). GoesOnBy bound old l new) (sym all)
    (goes-on bound old part new (numbered_all (take i rows)) (numbered row.0 row.1) goes more)
  where
    longer : take (i + 1) rows ≡ take i rows ++ row ∷ []
    longer = take_more rows i row inside ∙ ap (λ (r : ℕ × Option Row). take i rows ++ r ∷ []) (sym is)

    all : numbered_all (take (i + 1) rows) ≡ numbered_all (take i rows) ++ numbered row.0 row.1
    all = ap numbered_all longer ∙ numbered-push (take i rows) row.0 row.1
