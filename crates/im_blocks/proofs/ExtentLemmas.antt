-- The rows of row numbers in a row.
use Prim.Native.Nat.{zero, suc}
use Rattle.std.proofs.Common.{◌≡◌, ℕ, ◌+◌, ◌-◌, ◌<◌, ◌≤◌, Bool, true, List, [], ◌∷◌, ◌++◌, drop, length, take, get_or, Option, Some, if◌then◌else◌, refl, sym, ap, subst, ◌∙◌, ⊎_elim, arith, le-leb}
use Rattle.std.specs.Prelude.{slice_get}
use Rattle.std.proofs.lemmas.Bool.{cases_eq}
use Rattle.std.proofs.lemmas.Option.{slice_get-get_or}
use Rattle.im_tables.specs.Table.{row_of}
use Rattle.im_tables.proofs.ForCallers.{HasCell-where}
use Rattle.im_tables.proofs.Wholes.{cell_at-line}
use Rattle.im_values.specs.declared.content.Content.{Content as Value}
use Rattle.im_versions.specs.declared.version.Version.{Version}
use Rattle.im_versions.specs.Versions.{row_at}
use Rattle.im_versions.proofs.ForCallers.{row_at-push}
use Rattle.im_history.specs.Fetched.{run_from}
use Rattle.im_blocks.specs.declared.run.Run.{Run}
use Rattle.im_blocks.specs.declared.slot.Slot.TheVariants.{Empty, InRun}
use Rattle.im_blocks.specs.Chains.{AllVersions, run_at, slot_at, versions_at, rows_at}
use Rattle.im_blocks.specs.Runs.{holds, rows_in, version_in}
use Rattle.im_blocks.specs.declared.version_table.extents.Asked.{Asked}
use Rattle.im_blocks.specs.declared.slot.Slot.{Slot}
use Rattle.im_blocks.specs.declared.gathered.Gathered.{Gathered}
use Rattle.im_blocks.specs.inner.Gathering.{Gathers, gathered}
use Rattle.im_blocks.specs.inner.Reading.{AreRead, EndsIn}
use Rattle.im_blocks.specs.inner.Seen.{AreSeen}
use Rattle.im_blocks.proofs.RunLemmas.{found_run, in_rows-from, in_rows-true, is_in-from, is_in-true, run-shown}
use Rattle.im_blocks.proofs.StoreLemmas.{in_slot}

-- so many row numbers, and one behind them
pub rows_at-append : (blocks : AllVersions) (table first count more scn : ℕ) →
    rows_at blocks table first (count + more) scn ≡ rows_at blocks table first count scn ++ rows_at blocks table (first + count) more scn
rows_at-append blocks table first zero more scn =
    ap (λ (n : ℕ). rows_at blocks table first n scn) (omega arith) ∙ ap (λ (n : ℕ). rows_at blocks table n more scn) (omega arith)
rows_at-append blocks table first (suc count) more scn =
    let next : suc count + more ≡ suc (count + more) = omega arith in
    let from : first + 1 + count ≡ first + suc count = omega arith in
    ap (λ (n : ℕ). rows_at blocks table first n scn) next
    ∙ ap (λ (l : List (ℕ × Option (List Value))). (first, row_at (versions_at blocks table first) scn) ∷ l)
    (rows_at-append blocks table (first + 1) count more scn
    ∙ ap (λ (n : ℕ). rows_at blocks table (first + 1) count scn ++ rows_at blocks table n more scn) from)

-- what was read up to a row number, and what was read behind it
pub rows_at-more : (blocks : AllVersions) (table first rid next scn : ℕ) (so_far longer : List (ℕ × Option (List Value))) → first ≤ rid → rid ≤ next
    → so_far ≡ rows_at blocks table first (rid - first) scn → longer ≡ so_far ++ rows_at blocks table rid (next - rid) scn
    → longer ≡ rows_at blocks table first (next - first) scn
rows_at-more blocks table first rid next scn so_far longer from to rows pushed =
    let here : first + (rid - first) ≡ rid = omega (arith, from) in
    let all : rid - first + (next - rid) ≡ next - first = omega (arith, from, to) in
    pushed
    ∙ (ap (λ (l : List (ℕ × Option (List Value))). l ++ rows_at blocks table rid (next - rid) scn) rows
    ∙ (ap (λ (n : ℕ). rows_at blocks table first (rid - first) scn ++ rows_at blocks table n (next - rid) scn) (sym here)
    ∙ (sym (rows_at-append blocks table first (rid - first) (next - rid) scn) ∙ ap (λ (n : ℕ). rows_at blocks table first n scn) all)))

-- one row number alone
pub rows_at-one : (blocks : AllVersions) (table rid scn : ℕ) (row : Option (List Value)) → row ≡ row_at (versions_at blocks table rid) scn →
    (rid, row) ∷ [] ≡ rows_at blocks table rid (rid + 1 - rid) scn
rows_at-one blocks table rid scn row is =
    let one : 1 ≡ rid + 1 - rid = omega arith in
    ap (λ (r : Option (List Value)). (rid, r) ∷ []) is ∙ ap (λ (n : ℕ). rows_at blocks table rid n scn) one

pub drop-got : {X : Type 0} (xs : List X) (k : ℕ) (x : X) → slice_get xs k ≡ Some x → drop k xs ≡ x ∷ drop (k + 1) xs
drop-got [] k x is = absurd (cc is)
drop-got (y ∷ ys) zero x is = first y x ys is
  where
    first : {X : Type 0} (y x : X) (ys : List X) → Some y ≡ Some x → y ∷ ys ≡ x ∷ ys
    first y x ys is = cc is
drop-got (y ∷ ys) (suc k) x is =
    let next : suc k + 1 ≡ suc (k + 1) = omega arith in
    drop-got ys k x is ∙ ap (λ (n : ℕ). x ∷ drop n (y ∷ ys)) (sym next)

-- a version alone is read from its SCN on
row_at-one : (version : Version) (scn : ℕ) → version.scn ≤ scn → row_at (version ∷ []) scn ≡ version.row
row_at-one version scn upto =
    row_at-push [] version scn ∙ ap (λ (b : Bool). if b then version.row else row_at [] scn) (le-leb version.scn scn upto)

-- a row number that is in a run is read from it, and so are those behind it
run_step : (b : AllVersions) (table number scn : ℕ) (run : Run) (count rid : ℕ) → slice_get b.runs number ≡ Some run → run.table ≡ table
    → run.scn ≤ scn → run.first ≤ rid → rid < run.first + length (rows_in run.rows) → slot_at b table rid ≡ InRun number
    → rows_at b table (rid + 1) count scn ≡ run_from (rid + 1) (take count (drop (rid + 1 - run.first) (rows_in run.rows)))
    → rows_at b table rid (suc count) scn ≡ run_from rid (take (suc count) (drop (rid - run.first) (rows_in run.rows)))
run_step b table number scn run count rid at table_is upto from inside slot behind =
    ap (λ (l : List (ℕ × Option (List Value))). (rid, row_at (versions_at b table rid) scn) ∷ l)
    (behind ∙ ap (λ (n : ℕ). run_from (rid + 1) (take count (drop n rows))) next)
    ∙ (ap (λ (row : Option (List Value)). (rid, row) ∷ run_from (rid + 1) (take count (drop (rid - run.first + 1) rows))) here
    ∙ ap (λ (l : List (List Value)). run_from rid (take (suc count) l)) (sym (drop-got rows (rid - run.first) row got_row)))
  where
    rows : List (List Value)
    rows = rows_in run.rows

    next : rid + 1 - run.first ≡ rid - run.first + 1
    next = omega (arith, from)

    row : List Value
    row = get_or rows (rid - run.first) []

    got_row : slice_get rows (rid - run.first) ≡ Some row
    got_row = slice_get-get_or rows (rid - run.first) [] (omega (arith, from, inside))

    held : holds run table rid ≡ true
    held =
        subst (λ (t : ℕ). holds run t rid ≡ true) table_is
        (is_in-from run.table run.first (length rows) rid (in_rows-from run.first (length rows) rid from inside))

    here : row_at (versions_at b table rid) scn ≡ Some row
    here =
        ap (λ (vs : List Version). row_at vs scn)
        (sym (in_slot b table rid (InRun number) slot) ∙ run-shown b.runs run number table rid at held)
        ∙ (row_at-one (version_in run rid) scn upto ∙ got_row)

-- row numbers in a row that are in one run are read from it
pub rows_at-run : (b : AllVersions) (table number scn : ℕ) (run : Run) → slice_get b.runs number ≡ Some run → run.table ≡ table → run.scn ≤ scn
    → (count rid : ℕ) → run.first ≤ rid → rid + count ≤ run.first + length (rows_in run.rows)
    → ((r : ℕ) → rid ≤ r → r < rid + count → slot_at b table r ≡ InRun number)
    → rows_at b table rid count scn ≡ run_from rid (take count (drop (rid - run.first) (rows_in run.rows)))
rows_at-run b table number scn run at table_is upto zero rid from inside slots = refl
rows_at-run b table number scn run at table_is upto (suc count) rid from inside slots =
    run_step b table number scn run count rid at table_is upto from (omega (arith, inside)) (slots rid (omega arith) (omega arith))
    (rows_at-run b table number scn run at table_is upto count (rid + 1) (omega (arith, from)) (omega (arith, inside))
    (λ r low high. slots r (omega (arith, low)) (omega (arith, high))))

-- the same rows, said in another way
pub Gathers-same : (old new : Gathered) (these those : List (ℕ × Option (List Value))) → these ≡ those → Gathers old new these → Gathers old new those
Gathers-same old new these those same gathers = record {
  rows = gathers.rows ∙ ap (λ (l : List (ℕ × Option (List Value))). gathered old ++ l) same;
  whole = gathers.whole;
}

-- one row number was read
pub AreRead-one : (b : AllVersions) (asked : Asked) (rid : ℕ) (row : Option (List Value)) (old new : Gathered) → rid < asked.end
    → row ≡ row_at (versions_at b asked.table rid) asked.scn → Gathers old new ((rid, row) ∷ []) → AreRead b asked rid (rid + 1) old new
AreRead-one b asked rid row old new before is gathers = record {
  from = omega arith;
  upto = omega (arith, before);
  rows = Gathers-same old new _ _ (rows_at-one b asked.table rid asked.scn row is) gathers;
}

-- ---- as far as row numbers in a row are in a run

-- a row number has a slot, and lies in so many from a first one on
pub record IsInside (b : AllVersions) (table rid first count : ℕ) : Type 0 where
  pub from : first ≤ rid
  pub to : rid < first + count
  pub there : rid < length (row_of b.slots table)

pub IsInside-seen : (b : AllVersions) (table rid number first scn : ℕ) (rows : List (List Value)) → slot_at b table rid ≡ InRun number
    → AreSeen (run_at b.runs number table rid) first rows scn → IsInside b table rid first (length rows)
IsInside-seen b table rid number first scn rows slot seen =
    let found = found_run b.runs number table rid seen.run seen.is in
    let both = is_in-true seen.run.table seen.run.first (length (rows_in seen.run.rows)) table rid found.own in
    let lies = in_rows-true seen.run.first (length (rows_in seen.run.rows)) rid both.1 in
    let from = lies.from in
    let to = lies.to in
    let first_is = seen.first_is in
    let long = ap length seen.rows_are in
    record {
      from = omega (arith, from, first_is);
      to = omega (arith, to, first_is, long);
      there = (HasCell-where Empty b.slots table rid (λ empty. cc (slot, empty))).below;
    }

-- the slots that were looked at, and the first
pub slots-upto : (b : AllVersions) (table rid number next : ℕ) (cells : List Slot) → cells ≡ row_of b.slots table → slot_at b table rid ≡ InRun number
    → ((r : ℕ) → rid + 1 ≤ r → r < next → get_or cells r Empty ≡ InRun number)
    → (r : ℕ) → rid ≤ r → r < next → slot_at b table r ≡ InRun number
slots-upto b table rid number next cells is slot behind r from to =
    ⊎_elim
    (λ (here : r ≡ rid). ap (slot_at b table) here ∙ slot)
    (λ (apart : r ≡ rid → ⊥).
    let later : rid + 1 ≤ r = grind (arith, apart, from) in
    sym (cell_at-line Empty b.slots table r cells is) ∙ behind r later to)
    (cases_eq r rid)

-- rows of a run that were seen, read up to a row number
pub AreRead-run : (b : AllVersions) (asked : Asked) (rid number first next : ℕ) (rows : List (List Value)) (old new : Gathered)
    → AreSeen (run_at b.runs number asked.table rid) first rows asked.scn → EndsIn b asked rid number first (length rows) next
    → Gathers old new (run_from rid (take (next - rid) (drop (rid - first) rows))) → AreRead b asked rid next old new
AreRead-run b asked rid number first next rows old new seen ends is =
    let run = seen.run in
    let found = found_run b.runs number asked.table rid run seen.is in
    let both = is_in-true run.table run.first (length (rows_in run.rows)) asked.table rid found.own in
    let first_is = seen.first_is in
    let long = ap length seen.rows_are in
    let from = ends.from in
    let behind = ends.behind in
    let inside = ends.inside in
    let read =
    rows_at-run b asked.table number asked.scn run found.at both.0 seen.upto (next - rid) rid (omega (arith, first_is, behind))
    (omega (arith, first_is, long, inside, from)) (λ r low high. ends.slots r low (omega (arith, high, from))) in
    record {
      from = from;
      upto = ends.upto;
      rows = Gathers-same old new _ _
          (ap (λ (n : ℕ). run_from rid (take (next - rid) (drop (rid - n) rows))) (sym first_is)
          ∙ (ap (λ (l : List (List Value)). run_from rid (take (next - rid) (drop (rid - run.first) l))) (sym seen.rows_are) ∙ sym read)) is;
    }
