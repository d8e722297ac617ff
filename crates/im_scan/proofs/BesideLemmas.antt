-- What was fetched and what a view's own changes left, merged by row number.
use Rattle.std.proofs.Common.{◌≡◌, ℕ, zero, suc, ◌+◌, ◌<◌, ◌≤◌, ◌==◌, ◌&&◌, Bool, true, false, if◌then◌else◌, List, [], ◌∷◌, ◌++◌, ◌⊎◌, inl, inr, length, drop, get_or, map, All, Option, Some, None, refl, sym, ap, subst, ◌∙◌, ⊎_elim, arith, append_assoc}
use Rattle.std.specs.List.{AllByRecursion, fold}
use Rattle.std.specs.Option.{unwrap_or}
use Rattle.std.proofs.lemmas.Bool.{cases_lt}
use Rattle.std.proofs.lemmas.Bool.Decides.{nat_tests}
use Rattle.std.proofs.lemmas.List.{drop_all}
use Rattle.std.proofs.lemmas.List.Elements.{All-head, All-tail}
use Rattle.std.proofs.Math.Seq.{drop-cons}
use Rattle.im_syntax.specs.declared.bound.Bound.{Bound}
use Rattle.im_history.specs.declared.change.Change.{Change}
use Rattle.im_history.specs.declared.view.View.{View}
use Rattle.im_history.specs.Last.{Slot, AreLast, change_of, last_at, left_by}
use Rattle.im_history.specs.Rows.{Row}
use Rattle.im_history.proofs.LastLaws.{last-suffices}
use Rattle.im_scan.specs.Parts.{MayAsk, fetched_after}
use Rattle.im_scan.specs.inner.Beside.{AreBeside, Beside, ComesOf, IsIn, IsPassed, IsRising, SkipsEqual}
use Rattle.im_scan.specs.inner.Left.{AreBetween}
use Rattle.im_scan.specs.inner.Steps.{IsUnchanged}

-- ---- lists

all-join : {X : Type 0} (P : X → Type 0) (xs ys : List X) → AllByRecursion P xs → AllByRecursion P ys → AllByRecursion P (xs ++ ys)
all-join P [] ys front back = back
all-join P (x ∷ xs) ys front back = (front.0, all-join P xs ys front.1 back)

all-front : {X : Type 0} (P : X → Type 0) (xs ys : List X) → AllByRecursion P (xs ++ ys) → AllByRecursion P xs
all-front P [] ys all = tt
all-front P (x ∷ xs) ys all = (all.0, all-front P xs ys all.1)

all-back : {X : Type 0} (P : X → Type 0) (xs ys : List X) → AllByRecursion P (xs ++ ys) → AllByRecursion P ys
all-back P [] ys all = all
all-back P (x ∷ xs) ys all = all-back P xs ys all.1

all-weaker : {X : Type 0} (P Q : X → Type 0) (xs : List X) → ((x : X) → P x → Q x) → AllByRecursion P xs → AllByRecursion Q xs
all-weaker P Q [] weaker all = tt
all-weaker P Q (x ∷ xs) weaker all = (weaker x all.0, all-weaker P Q xs weaker all.1)

one-behind-other : (rid : ℕ) (row : Option Row) (xs ys : Beside) →
    fold (fetched_after rid) row (xs ++ ys) ≡ fold (fetched_after rid) (fold (fetched_after rid) row xs) ys
one-behind-other rid row [] ys = refl
one-behind-other rid row (x ∷ xs) ys = one-behind-other rid (fetched_after rid row x) xs ys

-- a row of another row number
other-row : (rid : ℕ) (row : Option Row) (x : ℕ × Option Row) → (x.0 == rid) ≡ false → fetched_after rid row x ≡ row
other-row rid row x apart = ap (λ (b : Bool). if b then x.1 else row) apart

-- rows of later row numbers
missed : (rows : Beside) (rid : ℕ) (row : Option Row) → AllByRecursion (λ r. rid < r.0) rows → fold (fetched_after rid) row rows ≡ row
missed [] rid row all = refl
missed (r ∷ rows) rid row all =
    let low = all.0 in
    let apart : (r.0 == rid) ≡ false = grind (arith, nat_tests, low) in
    ap (λ (o : Option Row). fold (fetched_after rid) o rows) (other-row rid row r apart) ∙ missed rows rid row all.1

-- ---- rising row numbers

rising-drop : (rows : Beside) (n : ℕ) → IsRising rows → IsRising (drop n rows)
rising-drop rows zero rising = rising
rising-drop [] (suc n) rising = tt
rising-drop (r ∷ rows) (suc n) rising = rising-drop rows n rising.1

-- rows between row numbers
between-above : (rid from end : ℕ) (rows : Beside) → rid < from → AreBetween from end rows → AllByRecursion (λ other. rid < other.0) rows
between-above rid from end [] low are = tt
between-above rid from end (row ∷ rows) low are =
    let begins = are.0 in
    (omega (arith, low, begins), between-above rid (row.0 + 1) end rows (omega (arith, low, begins)) are.2)

pub between-rising : (from end : ℕ) (rows : Beside) → AreBetween from end rows → IsRising rows
between-rising from end [] are = tt
between-rising from end (row ∷ rows) are = (between-above row.0 (row.0 + 1) end rows (omega arith) are.2, between-rising (row.0 + 1) end rows are.2)

-- what is left from a place on
pub rest-cons : (rows : Beside) (n : ℕ) → n < length rows → drop n rows ≡ get_or rows n (0, None) ∷ drop (n + 1) rows
rest-cons rows n inside =
    let next : suc n ≡ n + 1 = omega arith in
    drop-cons rows n (0, None) inside ∙ ap (λ k. get_or rows n (0, None) ∷ drop k rows) next

-- is all of higher row numbers than the first of it
rest-above : (fetched : Beside) (n rid : ℕ) → IsRising fetched → (n < length fetched → rid < (get_or fetched n (0, None)).0) →
    AllByRecursion (λ r. rid < r.0) (drop n fetched)
rest-above fetched n rid rising first =
    ⊎_elim
    (λ (inside : n < length fetched).
    let head = get_or fetched n (0, None) in
    let whole = rest-cons fetched n inside in
    let here = subst IsRising whole (rising-drop fetched n rising) in
    let low = first inside in
    subst (AllByRecursion (λ r. rid < r.0)) (sym whole)
    (low, all-weaker (λ r. head.0 < r.0) (λ r. rid < r.0) (drop (n + 1) fetched) (λ r under. omega (arith, under, low)) here.0))
    (λ (over : length fetched ≤ n). subst (AllByRecursion (λ r. rid < r.0)) (sym (drop_all n fetched over)) tt)
    (cases_lt n (length fetched))

tail-above : (fetched : Beside) (n rid : ℕ) → IsRising fetched → n < length fetched → (get_or fetched n (0, None)).0 ≡ rid →
    AllByRecursion (λ r. rid < r.0) (drop (n + 1) fetched)
tail-above fetched n rid rising inside is =
    let here = subst IsRising (rest-cons fetched n inside) (rising-drop fetched n rising) in
    all-weaker (λ r. (get_or fetched n (0, None)).0 < r.0) (λ r. rid < r.0) (drop (n + 1) fetched) (λ r under. omega (arith, under, is)) here.0

-- ---- where rows come from

weaker-in : (row : Option Row) (fetched rows : Beside) → AllByRecursion (λ r. IsIn r.1 (map (λ f. f.1) fetched)) rows →
    AllByRecursion (λ r. IsIn r.1 (row ∷ map (λ f. f.1) fetched)) rows
weaker-in row fetched [] all = tt
weaker-in row fetched (r ∷ rows) all = (inr all.0, weaker-in row fetched rows all.1)

in-self : (fetched : Beside) → AllByRecursion (λ r. IsIn r.1 (map (λ f. f.1) fetched)) fetched
in-self [] = tt
in-self (f ∷ fetched) = (inl refl, weaker-in f.1 fetched fetched (in-self fetched))

comes-self : (fetched : Beside) (own : List Change) → AllByRecursion (λ r. ComesOf fetched own r.1) fetched
comes-self fetched own =
    all-weaker (λ r. IsIn r.1 (map (λ f. f.1) fetched)) (λ r. ComesOf fetched own r.1) fetched (λ r is. inl is) (in-self fetched)

left-in : (own : List Change) (table rid : ℕ) (row : Option Row) (left : Option (Option Row)) → fold (left_by table rid) left own ≡ Some row →
    (left ≡ Some row) ⊎ IsIn row (map (λ change. change.row) own)
left-in [] table rid row left is = inl is
left-in (change ∷ own) table rid row left is =
    ⊎_elim (λ (now : left_by table rid left change ≡ Some row). by ((change.table == table) && (change.rid == rid)) now)
    (λ (later : IsIn row (map (λ change. change.row) own)). inr (inr later))
    (left-in own table rid row (left_by table rid left change) is)
  where
    by : (b : Bool) → ◌≡◌ {A = Option (Option Row)} (if b then Some change.row else left) (Some row) →
        (left ≡ Some row) ⊎ IsIn row (map (λ change. change.row) (change ∷ own))
    by true e = let same : change.row ≡ row = cc in inr (inl same)
    by false e = inl e

change-in : (own : List Change) (table rid : ℕ) (row : Option Row) → change_of own table rid ≡ Some row → IsIn row (map (λ change. change.row) own)
change-in own table rid row is =
    ⊎_elim (λ (nothing : ◌≡◌ {A = Option (Option Row)} None (Some row)). absurd cc) (λ (found : IsIn row (map (λ change. change.row) own)). found)
    (left-in own table rid row None is)

in-fits : (P : Option Row → Type 0) (rows : List (Option Row)) (row : Option Row) → AllByRecursion P rows → IsIn row rows → P row
in-fits P [] row all is = absurd is
in-fits P (other ∷ rows) row all is =
    ⊎_elim (λ (here : other ≡ row). subst P here all.0) (λ (later : IsIn row rows). in-fits P rows row all.1 later) is

all-mapped : {X : Type 0} (P : Option Row → Type 0) (f : X → Option Row) (xs : List X) → AllByRecursion (λ x. P (f x)) xs → AllByRecursion P (map f xs)
all-mapped P f [] all = tt
all-mapped P f (x ∷ xs) all = (all.0, all-mapped P f xs all.1)

-- a query may be asked of the rows beside a unit
pub fits-beside : (bound : Bound) (fetched : Beside) (view : View) (first count : ℕ) (rows : Beside) → AreBeside fetched view first count rows →
    AllByRecursion (λ f. MayAsk bound f.1) fetched → AllByRecursion (λ change. MayAsk bound change.row) view.own →
    AllByRecursion (λ r. MayAsk bound r.1) rows
fits-beside bound fetched view first count rows are may own =
    all-weaker (λ r. ComesOf fetched view.own r.1) (λ r. MayAsk bound r.1) rows
    (λ r from.
    ⊎_elim
    (λ (is : IsIn r.1 (map (λ f. f.1) fetched)).
    in-fits (MayAsk bound) (map (λ f. f.1) fetched) r.1 (all-mapped (MayAsk bound) (λ f. f.1) fetched may) is)
    (λ (is : IsIn r.1 (map (λ change. change.row) view.own)).
    in-fits (MayAsk bound) (map (λ change. change.row) view.own) r.1 (all-mapped (MayAsk bound) (λ change. change.row) view.own own) is)
    from)
    are.comes

-- ---- merged

-- these changes are left, over the rows merged so far and what was fetched from a place on
pub record IsMerged (fetched : Beside) (view : View) (first count : ℕ) (left : List Slot) (at : ℕ) (rows : Beside) : Type 0 where
  pub within : at ≤ length fetched
  pub each : All (λ slot. change_of view.own view.table slot.0 ≡ Some slot.1) left
  pub stands : (rid : ℕ) → first ≤ rid → rid < first + count → (row : Option Row) →
      unwrap_or (last_at left rid) (fold (fetched_after rid) row (rows ++ drop at fetched))
      ≡ unwrap_or (change_of view.own view.table rid) (fold (fetched_after rid) row fetched)
  pub comes : AllByRecursion (λ r. ComesOf fetched view.own r.1) (rows ++ drop at fetched)

-- the last change of a row number is what the changes left there
pub last-each : (own : List Change) (table rid : ℕ) (row : Option Row) (left : List Slot) →
    All (λ slot. change_of own table slot.0 ≡ Some slot.1) left → change_of own table rid ≡ Some row → unwrap_or (last_at left rid) row ≡ row
last-each own table rid row [] each is = refl
last-each own table rid row (slot ∷ left) each is =
    by (slot.0 == rid) refl
    (last-each own table rid row left (All-tail (λ (s : Slot). change_of own table s.0 ≡ Some s.1) slot left each) is)
  where
    head : change_of own table slot.0 ≡ Some slot.1
    head = All-head (λ (s : Slot). change_of own table s.0 ≡ Some s.1) slot left each

    by : (b : Bool) → (slot.0 == rid) ≡ b → unwrap_or (last_at left rid) row ≡ row →
        unwrap_or (if b then Some slot.1 else last_at left rid) row ≡ row
    by true e later =
        let here : slot.0 ≡ rid = grind (arith, nat_tests, e) in
        let same : Some slot.1 ≡ Some row = sym head ∙ (ap (change_of own table) here ∙ is) in
        cc
    by false e later = later

module _ (fetched : Beside) (view : View) (first count : ℕ) where
  pub merged-none : (left : List Slot) → AreLast view.own view.table first count left → IsMerged fetched view first count left 0 []
  merged-none left last = record {
    within = omega arith;
    each = last.each;
    stands = λ rid from below row.
        ap (λ (o : Option (Option Row)). unwrap_or o (fold (fetched_after rid) row fetched)) (last.found rid from below);
    comes = comes-self fetched view.own;
  }

  pub merged-passed : (left : List Slot) (at next rid : ℕ) (rows more : Beside) → IsMerged fetched view first count left at rows →
      IsPassed fetched at next rid rows more → IsMerged fetched view first count left next more
  merged-passed left at next rid rows more are passed = record {
    within = passed.within;
    each = are.each;
    stands = λ k from below row.
        ap (λ (l : Beside). unwrap_or (last_at left k) (fold (fetched_after k) row l)) passed.whole ∙ are.stands k from below row;
    comes = subst (AllByRecursion (λ r. ComesOf fetched view.own r.1)) (sym passed.whole) are.comes;
  }

  -- what is left behind the place of a row number: all of higher ones, and with what was skipped all that was left
  record IsBehind (rid at next : ℕ) : Type 0 where
    pub above : AllByRecursion (λ r. rid < r.0) (drop next fetched)
    pub same : (k : ℕ) → (rid == k) ≡ false → (row : Option Row) → fold (fetched_after k) row (drop next fetched) ≡ fold (fetched_after k) row (drop at fetched)
    pub comes : AllByRecursion (λ r. ComesOf fetched view.own r.1) (drop at fetched) →
        AllByRecursion (λ r. ComesOf fetched view.own r.1) (drop next fetched)

  behind : IsRising fetched → (rid at next : ℕ) → (at < length fetched → rid ≤ (get_or fetched at (0, None)).0) → SkipsEqual fetched at rid next →
      IsBehind rid at next
  behind rising rid at next past skips =
      ⊎_elim
      (λ (skip : (next ≡ at + 1) × (at < length fetched) × ((get_or fetched at (0, None)).0 ≡ rid)).
      let whole = rest-cons fetched at skip.1 in
      subst (IsBehind rid at) (sym skip.0) (record {
        above = tail-above fetched at rid rising skip.1 skip.2;
        same = λ k apart row.
            let other : ((get_or fetched at (0, None)).0 == k) ≡ false = ap (λ n. n == k) skip.2 ∙ apart in
            sym (ap (fold (fetched_after k) row) whole
            ∙ ap (λ (o : Option Row). fold (fetched_after k) o (drop (at + 1) fetched)) (other-row k row (get_or fetched at (0, None)) other));
        comes = λ all. (subst (AllByRecursion (λ r. ComesOf fetched view.own r.1)) whole all).1;
      }))
      (λ (stay : (next ≡ at) × (at < length fetched → (get_or fetched at (0, None)).0 ≡ rid → ⊥)).
      subst (IsBehind rid at) (sym stay.0) (record {
        above = rest-above fetched at rid rising (λ inside.
            let low = past inside in
            let apart = stay.1 inside in
            omega (arith, low, apart));
        same = λ k apart row. refl;
        comes = λ all. all;
      }))
      skips.skips

  pub merged-own : IsRising fetched → (rid at next : ℕ) (row : Option Row) (left : List Slot) (rows : Beside) →
      IsMerged fetched view first count ((rid, row) ∷ left) at rows →
      (at < length fetched → rid ≤ (get_or fetched at (0, None)).0) → SkipsEqual fetched at rid next →
      IsMerged fetched view first count left next (rows ++ (rid, row) ∷ [])
  merged-own rising rid at next row left rows are past skips = record {
    within = skips.within;
    each = All-tail (λ (s : Slot). change_of view.own view.table s.0 ≡ Some s.1) (rid, row) left are.each;
    stands = λ k from below x. by k (rid == k) refl from below x;
    comes =
        subst (AllByRecursion (λ r. ComesOf fetched view.own r.1)) (sym (append_assoc rows ((rid, row) ∷ []) (drop next fetched)))
        (all-join (λ r. ComesOf fetched view.own r.1) rows ((rid, row) ∷ drop next fetched)
        (all-front (λ r. ComesOf fetched view.own r.1) rows (drop at fetched) are.comes) (
          inr (change-in view.own view.table rid row head),
          rest.comes (all-back (λ r. ComesOf fetched view.own r.1) rows (drop at fetched) are.comes),
        ));
  }
    where
      rest : IsBehind rid at next
      rest = behind rising rid at next past skips

      head : change_of view.own view.table rid ≡ Some row
      head = All-head (λ (s : Slot). change_of view.own view.table s.0 ≡ Some s.1) (rid, row) left are.each

      -- the rows with this one behind them, and what is left
      laid : (k : ℕ) (x : Option Row) → fold (fetched_after k) x ((rows ++ (rid, row) ∷ []) ++ drop next fetched)
          ≡ fold (fetched_after k) (fetched_after k (fold (fetched_after k) x rows) (rid, row)) (drop next fetched)
      laid k x =
          ap (fold (fetched_after k) x) (append_assoc rows ((rid, row) ∷ []) (drop next fetched))
          ∙ one-behind-other k x rows ((rid, row) ∷ drop next fetched)

      by : (k : ℕ) (b : Bool) → (rid == k) ≡ b → first ≤ k → k < first + count → (x : Option Row) →
          unwrap_or (last_at left k) (fold (fetched_after k) x ((rows ++ (rid, row) ∷ []) ++ drop next fetched))
          ≡ unwrap_or (change_of view.own view.table k) (fold (fetched_after k) x fetched)
      by k true e from below x =
          let here : rid ≡ k = grind (arith, nat_tests, e) in
          let above = subst (λ n. AllByRecursion (λ (r : ℕ × Option Row). n < r.0) (drop next fetched)) here rest.above in
          ap (unwrap_or (last_at left k))
          (laid k x
          ∙ (ap (λ (b : Bool). fold (fetched_after k) (if b then row else fold (fetched_after k) x rows) (drop next fetched)) e
          ∙ missed (drop next fetched) k row above))
          ∙ (last-each view.own view.table k row left (All-tail (λ (s : Slot). change_of view.own view.table s.0 ≡ Some s.1) (rid, row) left are.each)
          (ap (change_of view.own view.table) (sym here) ∙ head)
          ∙ (ap (λ (b : Bool). unwrap_or (if b then Some row else last_at left k) (fold (fetched_after k) x (rows ++ drop at fetched))) (sym e)
          ∙ are.stands k from below x))
      by k false e from below x =
          ap (unwrap_or (last_at left k))
          (laid k x
          ∙ (ap (λ (o : Option Row). fold (fetched_after k) o (drop next fetched)) (other-row k (fold (fetched_after k) x rows) (rid, row) e)
          ∙ (rest.same k e (fold (fetched_after k) x rows) ∙ sym (one-behind-other k x rows (drop at fetched)))))
          ∙ (ap (λ (b : Bool). unwrap_or (if b then Some row else last_at left k) (fold (fetched_after k) x (rows ++ drop at fetched))) (sym e)
          ∙ are.stands k from below x)

  pub merged-all : IsRising fetched → (at next : ℕ) (rows more : Beside) → IsMerged fetched view first count [] at rows →
      IsPassed fetched at next (first + count) rows more → AreBeside fetched view first count more
  merged-all rising at next rows more are passed = record {
    at = λ rid from below row.
        let all = merged-passed [] at next (first + count) rows more are passed in
        sym (one-behind-other rid row more (drop next fetched)
        ∙ missed (drop next fetched) rid (fold (fetched_after rid) row more)
        (rest-above fetched next rid rising (λ inside. let low = passed.past inside in omega (arith, low, below))))
        ∙ (all.stands rid from below row ∙ sym (last-suffices view.table rid (fold (fetched_after rid) row fetched) view.own));
    comes = all-front (λ r. ComesOf fetched view.own r.1) more (drop next fetched)
        (subst (AllByRecursion (λ r. ComesOf fetched view.own r.1)) (sym passed.whole) are.comes);
  }

  -- where the view changed nothing, what was fetched is all
  pub fetched-beside : (rows : Beside) → IsUnchanged view first count → rows ≡ fetched → AreBeside fetched view first count rows
  fetched-beside rows none is = record {
    at = λ rid from below row.
        let stands = fold (fetched_after rid) row fetched in
        ap (fold (fetched_after rid) row) is
        ∙ sym (last-suffices view.table rid stands view.own ∙ ap (λ (o : Option (Option Row)). unwrap_or o stands) (none.none rid from below));
    comes = subst (AllByRecursion (λ r. ComesOf fetched view.own r.1)) (sym is) (comes-self fetched view.own);
  }

-- ---- one more is put

pub passed-more : (fetched : Beside) (from at : ℕ) (row : ℕ × Option Row) (old rows more : Beside) → at < length fetched →
    row ≡ get_or fetched at (0, None) → more ≡ rows ++ row ∷ [] → rows ++ drop at fetched ≡ old ++ drop from fetched →
    more ++ drop (at + 1) fetched ≡ old ++ drop from fetched
passed-more fetched from at row old rows more inside is pushed whole =
    ap (λ (l : Beside). l ++ drop (at + 1) fetched) pushed
    ∙ (append_assoc rows (row ∷ []) (drop (at + 1) fetched)
    ∙ (ap (λ (r : ℕ × Option Row). rows ++ r ∷ drop (at + 1) fetched) is
    ∙ (ap (λ (l : Beside). rows ++ l) (sym (rest-cons fetched at inside)) ∙ whole)))

-- the same one once more
pub pushed-again : (rows more : Beside) (row again : ℕ × Option Row) → more ≡ rows ++ again ∷ [] → again ≡ row → more ≡ rows ++ row ∷ []
pushed-again rows more row again pushed same = pushed ∙ ap (λ (r : ℕ × Option Row). rows ++ r ∷ []) same

-- one that is there, whatever stands for one that is not
pub at-within : (fetched : Beside) (at : ℕ) (row : ℕ × Option Row) → at < length fetched → row ≡ get_or fetched at row →
    row ≡ get_or fetched at (0, None)
at-within [] at row inside is = absurd (omega (arith, inside))
at-within (f ∷ fetched) zero row inside is = is
at-within (f ∷ fetched) (suc at) row inside is = at-within fetched at row (omega (arith, inside)) is
