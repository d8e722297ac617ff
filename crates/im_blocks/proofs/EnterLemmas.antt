-- Row numbers that go into a run.
use Rattle.std.proofs.Common.{◌≡◌, ℕ, ◌+◌, ◌-◌, ◌<◌, ◌≤◌, Bool, true, false, List, length, get_or, set, if◌then◌else◌, refl, sym, ap, ◌∙◌, ⊎_elim, arith}
use Rattle.std.proofs.lemmas.Bool.{cases_Bool, cases_eq, cases_lt, true≢false}
use Rattle.std.proofs.lemmas.List.{get_or-set_other, get_or-set_same, length-set}
use Rattle.im_tables.specs.Table.{cell_at, row_of}
use Rattle.im_tables.specs.Wholes.{written}
use Rattle.im_tables.proofs.Wholes.{HasCell-written, cell_at-line, cell_at-unwritten, cell_at-written, written-all}
use Rattle.im_blocks.specs.declared.run.Run.{Run}
use Rattle.im_blocks.specs.declared.slot.Slot.{Slot}
use Rattle.im_blocks.specs.declared.slot.Slot.TheVariants.{Empty}
use Rattle.im_blocks.specs.declared.touched.Touched.{Touched}
use Rattle.im_blocks.specs.Runs.{holds, in_rows, rows_in}
use Rattle.im_blocks.specs.inner.Puts.{AreEntered, HasEntered, entered}
use Rattle.im_blocks.proofs.RunLemmas.{in_rows-below, in_rows-from, in_rows-past, is_in-from, is_in-true}

module _ (runs : List Run) (chains : List Touched) (number : ℕ) (run : Run) where
  -- a slot by whether its row number goes in
  abbrev by_test : Bool → ℕ → Slot → Slot
  by_test b r slot = if b then entered runs chains number run run.table r slot else slot

  pub AreEntered-none : (old : List Slot) (count : ℕ) → count ≡ 0 → AreEntered runs chains number run count old old
  AreEntered-none old count none = record {
    each = λ r. sym (ap (λ (b : Bool). by_test b r (get_or old r Empty)) (none_in r));
    long = refl;
  }
    where
      none_in : (r : ℕ) → in_rows run.first count r ≡ false
      none_in r =
          ⊎_elim (λ (below : r < run.first). in_rows-below run.first count r below)
          (λ (from : run.first ≤ r). in_rows-past run.first count r (omega (arith, from, none))) (cases_lt r run.first)

  pub AreEntered-next : (old cells new : List Slot) (rid : ℕ) → run.first ≤ rid → rid < length cells
      → AreEntered runs chains number run (rid - run.first) old cells
      → new ≡ set cells rid (entered runs chains number run run.table rid (get_or cells rid Empty))
      → AreEntered runs chains number run (rid + 1 - run.first) old new
  AreEntered-next old cells new rid from inside so_far is = rw is (record {
    each = λ r. ⊎_elim (λ (same : r ≡ rid). here r same) (λ (apart : r ≡ rid → ⊥). other r apart) (cases_eq r rid);
    long = length-set cells rid cell ∙ so_far.long;
  })
    where
      cell : Slot
      cell = entered runs chains number run run.table rid (get_or cells rid Empty)

      not_yet : get_or cells rid Empty ≡ get_or old rid Empty
      not_yet =
          so_far.each rid
          ∙ ap (λ (b : Bool). by_test b rid (get_or old rid Empty)) (in_rows-past run.first (rid - run.first) rid (omega (arith, from)))

      at : get_or (set cells rid cell) rid Empty ≡ by_test (in_rows run.first (rid + 1 - run.first) rid) rid (get_or old rid Empty)
      at =
          get_or-set_same cells rid cell Empty inside
          ∙ (ap (entered runs chains number run run.table rid) not_yet
          ∙ sym (ap (λ (b : Bool). by_test b rid (get_or old rid Empty))
          (in_rows-from run.first (rid + 1 - run.first) rid from (omega (arith, from)))))

      here : (r : ℕ) → r ≡ rid → get_or (set cells rid cell) r Empty ≡ by_test (in_rows run.first (rid + 1 - run.first) r) r (get_or old r Empty)
      here r same = rw same at

      tested : (r : ℕ) → (r ≡ rid → ⊥) → in_rows run.first (rid - run.first) r ≡ in_rows run.first (rid + 1 - run.first) r
      tested r apart =
          ⊎_elim
          (λ (below : r < run.first). in_rows-below run.first (rid - run.first) r below ∙ sym (in_rows-below run.first (rid + 1 - run.first) r below))
          (λ (above : run.first ≤ r). ⊎_elim
          (λ (before : r < rid).
          in_rows-from run.first (rid - run.first) r above (omega (arith, before, above))
          ∙ sym (in_rows-from run.first (rid + 1 - run.first) r above (omega (arith, before, above))))
          (λ (behind : rid ≤ r).
          let past : rid < r = grind (arith, apart, behind) in
          in_rows-past run.first (rid - run.first) r (omega (arith, past, from))
          ∙ sym (in_rows-past run.first (rid + 1 - run.first) r (omega (arith, past, from))))
          (cases_lt r rid))
          (cases_lt r run.first)

      other : (r : ℕ) → (r ≡ rid → ⊥) → get_or (set cells rid cell) r Empty ≡ by_test (in_rows run.first (rid + 1 - run.first) r) r (get_or old r Empty)
      other r apart =
          get_or-set_other cells rid r cell Empty apart
          ∙ (so_far.each r ∙ ap (λ (b : Bool). by_test b r (get_or old r Empty)) (tested r apart))

  pub HasEntered-table : (old : List (List Slot)) (was left : List Slot) → run.table < length old → was ≡ row_of old run.table
      → AreEntered runs chains number run (length (rows_in run.rows)) was left
      → HasEntered runs chains number run old (set old run.table (written (row_of old run.table) left))
  HasEntered-table old was left inside is went =
      rw (written-all (row_of old run.table) left (went.long ∙ ap length is)) (record {
        here = λ t r held.
            let both = is_in-true run.table run.first (length (rows_in run.rows)) t r held in
            ap (λ (k : ℕ). cell_at Empty (set old run.table left) k r) (sym both.0)
            ∙ (at r ∙ (ap (λ (b : Bool). by_test b r (cell_at Empty old run.table r)) both.1
            ∙ ap (λ (k : ℕ). entered runs chains number run k r (cell_at Empty old k r)) both.0));
        others = λ t r off. ⊎_elim
            (λ (same : t ≡ run.table).
            ap (λ (k : ℕ). cell_at Empty (set old run.table left) k r) same
            ∙ (at r ∙ (ap (λ (b : Bool). by_test b r (cell_at Empty old run.table r)) (not_in t r same off)
            ∙ ap (λ (k : ℕ). cell_at Empty old k r) (sym same))))
            (λ (other : t ≡ run.table → ⊥). cell_at-unwritten Empty old run.table left t r other)
            (cases_eq t run.table);
        cells = λ t r has. HasCell-written old run.table left t r inside (let long = went.long ∙ ap length is in omega (arith, long)) has;
      })
    where
      at : (r : ℕ) → cell_at Empty (set old run.table left) run.table r
          ≡ by_test (in_rows run.first (length (rows_in run.rows)) r) r (cell_at Empty old run.table r)
      at r =
          cell_at-written Empty old run.table r left inside
          ∙ (went.each r ∙ ap (by_test (in_rows run.first (length (rows_in run.rows)) r) r) (cell_at-line Empty old run.table r was is))

      not_in : (t r : ℕ) → t ≡ run.table → holds run t r ≡ false → in_rows run.first (length (rows_in run.rows)) r ≡ false
      not_in t r same off =
          ⊎_elim
          (λ (lies : in_rows run.first (length (rows_in run.rows)) r ≡ true).
          absurd (true≢false (sym (ap (λ (k : ℕ). holds run k r) same ∙ is_in-from run.table run.first (length (rows_in run.rows)) r lies) ∙ off)))
          (λ (no : in_rows run.first (length (rows_in run.rows)) r ≡ false). no)
          (cases_Bool (in_rows run.first (length (rows_in run.rows)) r))
