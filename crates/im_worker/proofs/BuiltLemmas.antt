-- A unit that was lent to a build, made anew with the rows that are stale beside it.
use Rattle.std.proofs.Common.{◌≡◌, ℕ, zero, suc, ◌+◌, ◌*◌, ◌==◌, ◌<◌, ◌≤◌, Bool, true, false, if◌then◌else◌, List, ◌∷◌, length, map, filter, get_or, Option, Some, None, refl, sym, ap, ap₂, ◌∙◌, subst, arith}
use Rattle.std.specs.Prelude.{nat_lt}
use Rattle.std.specs.List.{range_with_len}
use Rattle.std.specs.Option.{option_map}
use Rattle.std.proofs.lemmas.Bool.Decides.{nat_tests}
use Rattle.std.proofs.lemmas.List.{ext_get_or}
use Rattle.std.proofs.lemmas.List.FromFn.{get_or-map-range_with_len, length-map-range_with_len}
use Rattle.im_core.specs.Pins.{row_given, row_lent}
use Rattle.im_core.specs.Tasks.{as_wide, task_fetched, task_fetched_by, task_lent, task_serving}
use Rattle.im_core.proofs.ForCallers.{lent-mended}
use Rattle.im_history.specs.declared.limits.Limits.{Limits}
use Rattle.im_history.specs.declared.task.Task.{Task}
use Rattle.im_history.specs.History.{History}
use Rattle.im_history.specs.Legal.{IsLegal}
use Rattle.im_history.specs.Rows.{Row}
use Rattle.im_history.specs.Serving.{not_newer}
use Rattle.im_history.specs.Units.{Content, IsOwn, columns_at, content_at, task_content, touched_between, unit, unit_row}
use Rattle.im_history.specs.Views.{per_at}
use Rattle.im_history.proofs.HeldLaws.{held-within, task_content-is}
use Rattle.im_unit.specs.Rebuilt.{RiseWithin, rebuilt, row_or_fetched}
use Rattle.im_unit.proofs.ForCallers.{length-rebuilt, row-rebuilt}
use Rattle.im_worker.specs.inner.Built.{IsBeside}

-- ---- what is fetched rises

-- some of the row numbers in a row, each with what is found there
rise-picked : (p : ℕ → Bool) (f : ℕ → Option Row) (low first count end : ℕ) → low ≤ first → first + count ≤ end
    → RiseWithin low end (map (λ rid. (rid, f rid)) (filter p (range_with_len first count)))
rise-picked p f low first zero end from upto = tt
rise-picked p f low first (suc count) end from upto =
    by (p first) (rise-picked p f (first + 1) (first + 1) count end (omega arith) (omega (arith, upto)))
    (rise-picked p f low (first + 1) count end (omega (arith, from)) (omega (arith, upto)))
  where
    others : List ℕ
    others = filter p (range_with_len (first + 1) count)

    by : (b : Bool) → RiseWithin (first + 1) end (map (λ rid. (rid, f rid)) others) → RiseWithin low end (map (λ rid. (rid, f rid)) others)
        → RiseWithin low end (map (λ rid. (rid, f rid)) (if b then first ∷ others else others))
    by true above all = (from, omega (arith, upto), above)
    by false above all = all

-- ---- what a held build is of

-- what its unit is to hold is what a unit of its extent at its SCN holds
pub task_content-own : (limits : Limits) (h : History) (who : ℕ) (task : Task) → IsLegal limits h → IsOwn h who task
    → task_content h task ≡ content_at h task.table task.extent task.scn
task_content-own limits h who task legal own =
    subst (λ (t : Task). task_content h t ≡ content_at h t.table t.extent t.scn) own.same (task_content-is limits h task.id own.held legal own.is)

-- and it has the columns that its table had at its SCN
pub columns-own : (limits : Limits) (h : History) (who : ℕ) (task : Task) → IsLegal limits h → IsOwn h who task → task.columns ≡ columns_at h task.table task.scn
columns-own limits h who task legal own =
    subst (λ (t : Task). t.columns ≡ columns_at h t.table t.scn) own.same (held-within limits h task.id own.held legal own.is).columns

-- a unit that is lent to a build has its columns
wide-lent : (h : History) (table columns : ℕ) (found : Option ℕ) (n : ℕ) → as_wide h table columns found ≡ Some n → columns_at h table n ≡ columns
wide-lent h table columns None n is = absurd cc
wide-lent h table columns (Some at) n is = by (columns_at h table at == columns) refl is
  where
    by : (b : Bool) → (columns_at h table at == columns) ≡ b → (if b then Some at else None) ≡ Some n → columns_at h table n ≡ columns
    by true wide some = let same : at ≡ n = cc in subst (λ (k : ℕ). columns_at h table k ≡ columns) same (grind (arith, nat_tests, wide))
    by false wide some = absurd cc

columns-lent : (h : History) (task : Task) (n : ℕ) → task_serving h task ≡ Some n → columns_at h task.table n ≡ task.columns
columns-lent h task n is = wide-lent h task.table task.columns (not_newer task.scn (unit h task.table task.extent)) n is

-- what is read for it can be put beside the unit that is lent
pub is-beside : (limits : Limits) (h : History) (who : ℕ) (task : Task) → IsLegal limits h → IsOwn h who task
    → IsBeside task (task_lent h task) (task_fetched h task)
is-beside limits h who task legal own = by (task_serving h task) refl
  where
    first : ℕ
    first = task.extent * per_at h task.table

    long : (n : ℕ) → length (content_at h task.table task.extent n).rows ≡ per_at h task.table
    long n = length-map-range_with_len (unit_row h task.table n) first (per_at h task.table)

    by : (lent : Option ℕ) → task_serving h task ≡ lent
        → IsBeside task (option_map (content_at h task.table task.extent) lent) (task_fetched_by h task lent)
    by None is = tt
    by (Some n) is = (
      columns-lent h task n is,
      rise-picked (touched_between h n task.scn task.table) (unit_row h task.table task.scn) first first (per_at h task.table) _ (omega arith)
          (let rows = long n in omega (arith, rows)),
    )

-- ---- the lent unit, made anew

-- the row of a unit at a place
lent-place : (content : Content) (place : ℕ) → row_lent (Some content) (content.first + place) ≡ get_or content.rows place None
lent-place content place =
    let before : nat_lt (content.first + place) content.first ≡ false = grind (arith, nat_tests) in
    rw before (ap (λ (k : ℕ). get_or content.rows k None) (omega arith))

-- it holds what a unit of the extent at the build's SCN holds
pub built-mended : (h : History) (task : Task) (n : ℕ) → task.columns ≡ columns_at h task.table task.scn → task_serving h task ≡ Some n
    → rebuilt (content_at h task.table task.extent n) task.scn (task_fetched_by h task (Some n)) ≡ content_at h task.table task.extent task.scn
built-mended h task n wide is =
    ap₂ (λ (columns : ℕ) (list : List (Option Row)). record { scn = task.scn; first = old.first; columns = columns; rows = list })
    (columns-lent h task n is ∙ wide) (ext_get_or None (rebuilt old task.scn fetched).rows now (long ∙ sym now_long) each)
  where
    per : ℕ
    per = per_at h task.table

    old : Content
    old = content_at h task.table task.extent n

    fetched : List (ℕ × Option Row)
    fetched = task_fetched_by h task (Some n)

    now : List (Option Row)
    now = (content_at h task.table task.extent task.scn).rows

    now_long : length now ≡ per
    now_long = length-map-range_with_len (unit_row h task.table task.scn) old.first per

    old_long : length old.rows ≡ per
    old_long = length-map-range_with_len (unit_row h task.table n) old.first per

    long : length (rebuilt old task.scn fetched).rows ≡ per
    long = length-rebuilt old task.scn fetched ∙ old_long

    each : (place : ℕ) → place < length (rebuilt old task.scn fetched).rows
        → get_or (rebuilt old task.scn fetched).rows place None ≡ get_or now place None
    each place inside =
        let within : place < per = omega (arith, inside, long) in
        row-rebuilt old task.scn fetched place None (omega (arith, within, old_long))
        ∙ (ap (row_or_fetched fetched (old.first + place)) (sym (lent-place old place))
        ∙ (ap
        (λ (lent : Option ℕ). row_given (record { unit = option_map (content_at h task.table task.extent) lent; fetched = task_fetched_by h task lent })
        (old.first + place)) (sym is)
        ∙ (lent-mended h task n wide is (old.first + place) (omega arith) (omega (arith, within))
        ∙ sym (get_or-map-range_with_len (unit_row h task.table task.scn) old.first per place (old.first + place) None within refl))))
