-- The part that a walk over row numbers gives.
use Rattle.std.proofs.Common.{◌≡◌, ℕ, zero, suc, ◌+◌, ◌-◌, ◌<◌, ◌≤◌, ◌^◌, ◌==◌, min, Bool, true, false, if◌then◌else◌, List, [], ◌∷◌, ◌++◌, length, map, get_or, Option, Some, None, refl, sym, ap, subst, ◌∙◌, ⊎_elim, arith, append_assoc, append-nil, length-append}
use Rattle.std.specs.Prelude.{nat_lt}
use Rattle.std.specs.List.{cons_option, fold}
use Rattle.std.specs.Option.{option_map}
use Rattle.std.proofs.lemmas.Bool.{cases_lt}
use Rattle.std.proofs.lemmas.Bool.Decides.{nat_tests}
use Rattle.std.proofs.lemmas.List.{get_or_past}
use Rattle.std.proofs.lemmas.List.Elements.{filter-append}
use Rattle.std.proofs.lemmas.List.Sums.{fold_push}
use Rattle.im_values.specs.declared.content.Content.{Content as Value}
use Rattle.im_syntax.specs.Condition.{CondOf}
use Rattle.im_syntax.specs.declared.bound.Bound.{Bound}
use Rattle.im_history.specs.Rows.{Row, present}
use Rattle.im_history.specs.Units.{Content}
use Rattle.im_group.specs.Partials.{Numbered, Parts, IsPartOfFew, keeps, kept, partial}
use Rattle.im_unit.specs.Holding.{row_of}
use Rattle.im_scan.specs.Parts.{fetched_after, row_in_unit}
use Rattle.im_scan.specs.inner.Steps.{GoesOnBy, numbered}
use Rattle.im_scan.specs.inner.Walk.{AreClear, IsPartTo, is_kept, standing}
use Rattle.im_scan.proofs.ForCallers.{length-present, present-append}
use Rattle.im_scan.proofs.PinLemmas.{present-same}
use Rattle.im_scan.proofs.PrunedLemmas.{partial-kept}

-- ---- rows behind others

pub goes-none : (bound : Bound) (part : Parts) → GoesOnBy bound part [] part
goes-none bound part = record { goes = λ rows is. is ∙ ap (partial bound) (sym (append-nil rows)) }

pub goes-on : (bound : Bound) (p q r : Parts) (xs ys : List Numbered) → GoesOnBy bound p xs q → GoesOnBy bound q ys r → GoesOnBy bound p (xs ++ ys) r
goes-on bound p q r xs ys a b = record { goes = λ rows is. b.goes (rows ++ xs) (a.goes rows is) ∙ ap (partial bound) (append_assoc rows xs ys) }

-- rows that are not kept may as well be there
pub goes-unkept : (bound : Bound) (p q : Parts) (xs ys : List Numbered) → GoesOnBy bound p xs q → kept bound ys ≡ [] → GoesOnBy bound p (xs ++ ys) q
goes-unkept bound p q xs ys a none = record {
  goes = λ rows is.
      a.goes rows is
      ∙ partial-kept bound (rows ++ xs) (rows ++ (xs ++ ys))
      (sym (append-nil (kept bound (rows ++ xs)))
      ∙ (ap (λ (l : List Numbered). kept bound (rows ++ xs) ++ l) (sym none)
      ∙ (sym (filter-append (λ (r : Numbered). keeps bound.filter r.1) (rows ++ xs) ys) ∙ ap (kept bound) (append_assoc rows xs ys))));
}

-- ---- the part of rows below a row number

pub part-to : (bound : Bound) (p q : Parts) (from more : ℕ) (xs : List Numbered) → IsPartTo bound from p → GoesOnBy bound p xs q → length xs ≤ more →
    IsPartTo bound (from + more) q
part-to bound p q from more xs to goes few = record {
  rows = to.rows ++ xs;
  is = goes.goes to.rows to.is;
  few = omega (arith, length-append to.rows xs, to.few, few);
}

pub few-to : (bound : Bound) (part : Parts) (rid : ℕ) → IsPartTo bound rid part → rid + 1 < 2 ^ 64 → IsPartOfFew bound part
few-to bound part rid to below = record { rows = to.rows; is = to.is; few = let few = to.few in omega (arith, few, below) }

pub up-to : (bound : Bound) (part : Parts) (low rid : ℕ) → low ≤ rid → IsPartTo bound low part → IsPartTo bound rid part
up-to bound part low rid below to = record { rows = to.rows; is = to.is; few = let few = to.few in omega (arith, few, below) }

-- ---- rows of a function of the row number

one-row : (rid : ℕ) (row : Option Row) → numbered rid row ≡ cons_option (option_map (λ r. (rid, r)) row) []
one-row rid None = refl
one-row rid (Some row) = refl

pub present-one : (row_at : ℕ → Option Row) (rid : ℕ) → numbered rid (row_at rid) ≡ present row_at rid 1
present-one row_at rid = one-row rid (row_at rid)

-- none of them is kept
pub unkept : (bound : Bound) (row_at : ℕ → Option Row) (rid n : ℕ) → ((k : ℕ) → rid ≤ k → k < rid + n → is_kept bound.filter (row_at k) ≡ false) →
    kept bound (present row_at rid n) ≡ []
unkept bound row_at rid zero none = refl
unkept bound row_at rid (suc n) none =
    by (row_at rid) (none rid (omega arith) (omega arith))
    ∙ unkept bound row_at (rid + 1) n (λ k low high. none k (omega (arith, low)) (omega (arith, high)))
  where
    later : List Numbered
    later = present row_at (rid + 1) n

    by : (row : Option Row) → is_kept bound.filter row ≡ false → kept bound (cons_option (option_map (λ r. (rid, r)) row) later) ≡ kept bound later
    by None e = refl
    by (Some row) e = ap (λ (b : Bool). if b then (rid, row) ∷ kept bound later else kept bound later) e

-- ---- what is kept of a unit

pub kept-at : (filter : Option (CondOf ℕ Value)) (rows : List (Option Row)) (k : ℕ) →
    get_or (map (is_kept filter) rows) k false ≡ is_kept filter (get_or rows k None)
kept-at filter [] k = refl
kept-at filter (row ∷ rows) zero = refl
kept-at filter (row ∷ rows) (suc k) = kept-at filter rows k

pub place-kept : (filter : Option (CondOf ℕ Value)) (content : Content) (places : List Bool) (rid : ℕ) → places ≡ map (is_kept filter) content.rows →
    content.first ≤ rid → is_kept filter (row_of content rid) ≡ get_or places (rid - content.first) false
place-kept filter content places rid are from =
    let inside : nat_lt rid content.first ≡ false = grind (arith, nat_tests) in
    ap (λ (b : Bool). is_kept filter (if b then None else get_or content.rows (rid - content.first) None)) inside
    ∙ (sym (kept-at filter content.rows (rid - content.first)) ∙ ap (λ (l : List Bool). get_or l (rid - content.first) false) (sym are))

module _ (bound : Bound) (content : Content) (places : List Bool) (first from : ℕ) where
  -- the part went on by the unit's rows from one row number on, up to the row number of a place
  pub record IsStretch (old : Parts) (at : ℕ) (new : Parts) : Type 0 where
    pub low : from ≤ first + at
    pub goes : GoesOnBy bound old (present (row_of content) from (first + at - from)) new

  pub stretch-begin : (part : Parts) → first ≤ from → IsStretch part (from - first) part
  stretch-begin part begins = record {
    low = omega (arith, begins);
    goes =
        let nothing : first + (from - first) - from ≡ 0 = omega (arith, begins) in
        subst (λ n. GoesOnBy bound part (present (row_of content) from n) part) (sym nothing) (goes-none bound part);
  }

  unkept-on : first ≡ content.first → places ≡ map (is_kept bound.filter) content.rows → (at past : ℕ) → AreClear places at past →
      kept bound (present (row_of content) (first + at) (past - at)) ≡ []
  unkept-on begins are at past clear =
      unkept bound (row_of content) (first + at) (past - at)
      (λ k low high. place-kept bound.filter content places k are (omega (arith, low, begins))
      ∙ clear (k - content.first) (omega (arith, low, begins)) (omega (arith, low, high, begins)))

  pub stretch-on : first ≡ content.first → places ≡ map (is_kept bound.filter) content.rows → (old new : Parts) (at past : ℕ) → at ≤ past →
      AreClear places at past → IsStretch old at new → IsStretch old past new
  stretch-on begins are old new at past order clear is = record {
    low = let low = is.low in omega (arith, low, order);
    goes =
        let low = is.low in
        let whole : first + at - from + (past - at) ≡ first + past - from = omega (arith, low, order) in
        subst (λ (l : List Numbered). GoesOnBy bound old l new)
        (present-append (row_of content) from (first + at - from) (past - at) (first + at) (omega (arith, low))
        ∙ ap (present (row_of content) from) whole)
        (goes-unkept bound old new (present (row_of content) from (first + at - from)) (present (row_of content) (first + at) (past - at)) is.goes
        (unkept-on begins are at past clear));
  }

  pub stretch-row : (old new more : Parts) (at : ℕ) → IsStretch old at new →
      GoesOnBy bound new (numbered (first + at) (row_of content (first + at))) more → IsStretch old (at + 1) more
  stretch-row old new more at is goes = record {
    low = let low = is.low in omega (arith, low);
    goes =
        let low = is.low in
        let whole : first + at - from + 1 ≡ first + (at + 1) - from = omega (arith, low) in
        subst (λ (l : List Numbered). GoesOnBy bound old l more)
        (ap (λ (l : List Numbered). present (row_of content) from (first + at - from) ++ l) (present-one (row_of content) (first + at))
        ∙ (present-append (row_of content) from (first + at - from) 1 (first + at) (omega (arith, low))
        ∙ ap (present (row_of content) from) whole))
        (goes-on bound old new more (present (row_of content) from (first + at - from)) (numbered (first + at) (row_of content (first + at))) is.goes goes);
  }

  -- the part so far is of few rows
  pub stretch-to : (old new : Parts) (at : ℕ) → IsStretch old at new → IsPartTo bound from old → IsPartTo bound (first + at) new
  stretch-to old new at is to =
      let low = is.low in
      let there : from + (first + at - from) ≡ first + at = omega (arith, low) in
      subst (λ n. IsPartTo bound n new) there
      (part-to bound old new from (first + at - from) (present (row_of content) from (first + at - from)) to is.goes
      (length-present (row_of content) from (first + at - from)))

  -- past the last place of the unit nothing is chosen
  past-clear : (at past end : ℕ) → past ≡ min (length places) end → AreClear places at past → AreClear places at end
  past-clear at past end is clear k low high =
      ⊎_elim (λ (under : k < past). clear k low under)
      (λ (over : past ≤ k). get_or_past places k false (omega (arith, is, over, high)))
      (cases_lt k past)

  pub stretch-all : first ≡ content.first → places ≡ map (is_kept bound.filter) content.rows → (old new : Parts) (at past end : ℕ) →
      past ≡ min (length places) (end - first) → first + at ≤ end → AreClear places at past → IsStretch old at new →
      GoesOnBy bound old (present (row_of content) from (end - from)) new
  stretch-all begins are old new at past end is within clear stretch =
      let low = stretch.low in
      let there : first + (end - first) - from ≡ end - from = omega (arith, within) in
      let all = stretch-on begins are old new at (end - first) (omega (arith, within)) (past-clear at past (end - first) is clear) stretch in
      subst (λ n. GoesOnBy bound old (present (row_of content) from n) new) there all.goes

-- ---- nothing of a unit

pub nothing-there : (from n : ℕ) → present (row_in_unit None) from n ≡ []
nothing-there from zero = refl
nothing-there from (suc n) = nothing-there (from + 1) n

-- ---- rows beside a unit

module _ (bound : Bound) (unit : Option Content) (first : ℕ) where
  -- so far the part is that of what stands at the row numbers below one, and these rows beside the unit are of such row numbers
  pub record IsWalked (beside : List (ℕ × Option Row)) (from : ℕ) (part : Parts) : Type 0 where
    pub low : first ≤ from
    pub quiet : (rid : ℕ) → from ≤ rid → (row : Option Row) → fold (fetched_after rid) row beside ≡ row
    pub is : part ≡ partial bound (present (standing unit beside) first (from - first))

  pub walked-none : (part : Parts) → part ≡ partial bound [] → IsWalked [] first part
  walked-none part is = record {
    low = omega arith;
    quiet = λ rid from row. refl;
    is = let nothing : first - first ≡ 0 = omega arith in is ∙ ap (λ n. partial bound (present (standing unit []) first n)) (sym nothing);
  }

  pub walked-to : (beside : List (ℕ × Option Row)) (from : ℕ) (part : Parts) → IsWalked beside from part → IsPartTo bound from part
  walked-to beside from part walked = record {
    rows = present (standing unit beside) first (from - first);
    is = walked.is;
    few = omega (arith, length-present (standing unit beside) first (from - first));
  }

  pub walked-more : (beside : List (ℕ × Option Row)) (from rid : ℕ) (row : Option Row) (old mid new : Parts) → IsWalked beside from old → from ≤ rid →
      GoesOnBy bound old (present (row_in_unit unit) from (rid - from)) mid → GoesOnBy bound mid (numbered rid row) new →
      IsWalked (beside ++ (rid, row) ∷ []) (rid + 1) new
  walked-more beside from rid row old mid new walked order unit_goes row_goes = record {
    low = let low = walked.low in omega (arith, low, order);
    quiet = λ k past before.
        fold_push (fetched_after k) before beside (rid, row)
        ∙ (missed k (fold (fetched_after k) before beside) (λ same. omega (arith, same, past)) ∙ walked.quiet k (omega (arith, order, past)) before);
    is =
        row_goes.goes (so_far ++ between) (unit_goes.goes so_far walked.is)
        ∙ ap (partial bound)
        (ap (λ (l : List Numbered). l ++ numbered rid row)
        (ap (λ (l : List Numbered). l ++ between) front
        ∙ (ap (λ (l : List Numbered). present now first (from - first) ++ l) middle
        ∙ present-append now first (from - first) (rid - from) from (let low = walked.low in omega (arith, low))))
        ∙ (ap (λ (l : List Numbered). present now first (from - first + (rid - from)) ++ l)
        (ap (numbered rid) (sym here) ∙ present-one now rid)
        ∙ (present-append now first (from - first + (rid - from)) 1 rid (let low = walked.low in omega (arith, low, order))
        ∙ ap (present now first) (let low = walked.low in omega (arith, low, order)))));
  }
    where
      before_it : ℕ → Option Row
      before_it = standing unit beside

      now : ℕ → Option Row
      now = standing unit (beside ++ (rid, row) ∷ [])

      so_far : List Numbered
      so_far = present before_it first (from - first)

      between : List Numbered
      between = present (row_in_unit unit) from (rid - from)

      missed : (k : ℕ) (before : Option Row) → (rid ≡ k → ⊥) → fetched_after k before (rid, row) ≡ before
      missed k before apart =
          let other : (rid == k) ≡ false = grind (arith, nat_tests, apart) in
          ap (λ (b : Bool). if b then row else before) other

      same : (k : ℕ) → (rid ≡ k → ⊥) → before_it k ≡ now k
      same k apart = sym (fold_push (fetched_after k) (row_in_unit unit k) beside (rid, row) ∙ missed k (before_it k) apart)

      here : now rid ≡ row
      here =
          let equal : (rid == rid) ≡ true = grind (arith, nat_tests) in
          fold_push (fetched_after rid) (row_in_unit unit rid) beside (rid, row) ∙ ap (λ (b : Bool). if b then row else before_it rid) equal

      front : so_far ≡ present now first (from - first)
      front = present-same before_it now first (from - first)
          (λ k low high. same k (λ e. let begins = walked.low in omega (arith, e, high, order, begins)))

      middle : between ≡ present now from (rid - from)
      middle = present-same (row_in_unit unit) now from (rid - from)
          (λ k low high. sym (walked.quiet k low (row_in_unit unit k)) ∙ same k (λ e. omega (arith, e, high, order)))

  pub walked-all : (beside : List (ℕ × Option Row)) (from count : ℕ) (old new : Parts) → IsWalked beside from old → from ≤ first + count →
      GoesOnBy bound old (present (row_in_unit unit) from (first + count - from)) new → new ≡ partial bound (present (standing unit beside) first count)
  walked-all beside from count old new walked within goes =
      let low = walked.low in
      let whole : from - first + (first + count - from) ≡ count = omega (arith, low, within) in
      goes.goes (present (standing unit beside) first (from - first)) walked.is
      ∙ ap (partial bound)
      (ap (λ (l : List Numbered). present (standing unit beside) first (from - first) ++ l)
      (present-same (row_in_unit unit) (standing unit beside) from (first + count - from)
      (λ k past below. sym (walked.quiet k past (row_in_unit unit k))))
      ∙ (present-append (standing unit beside) first (from - first) (first + count - from) from (omega (arith, low))
      ∙ ap (present (standing unit beside) first) whole))
