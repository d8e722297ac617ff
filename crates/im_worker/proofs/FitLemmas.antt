-- What is fetched for a build is what its unit takes: in a legal history each row fits its table.
use Rattle.std.proofs.Common.{◌≡◌, ℕ, zero, suc, ◌+◌, ◌-◌, ◌≤◌, ◌*◌, true, All, arith, List, [], ◌∷◌, ◌++◌, length, map, take, Option, Some, None, refl, sym, ap, ◌∙◌, subst}
use Rattle.std.specs.List.{AllByRecursion, range_with_len}
use Rattle.std.specs.Option.{ForSome, option_map}
use Rattle.std.proofs.lemmas.List.{length-take-le, map-append}
use Rattle.im_core.specs.Tasks.{task_among, task_fetched, task_fetched_by, task_rows, task_serving}
use Rattle.im_history.specs.declared.limits.Limits.{Limits}
use Rattle.im_history.specs.declared.look.TableInfo.{TableInfo}
use Rattle.im_history.specs.declared.task.Task.{Task}
use Rattle.im_history.specs.Fetched.{all_widened}
use Rattle.im_history.specs.History.{History}
use Rattle.im_history.specs.Columns.{columns_at, schema_at}
use Rattle.im_history.specs.Legal.{AreNarrow, IsLawful, IsLegal}
use Rattle.im_history.specs.Rows.{Row}
use Rattle.im_history.specs.Tables.{table_at}
use Rattle.im_history.specs.Units.{IsOwn, stale, unit_row}
use Rattle.im_history.specs.Views.{schema_of}
use Rattle.im_history.proofs.ColumnLaws.{columns_at-few}
use Rattle.im_history.proofs.FetchedLaws.{rows-widened}
use Rattle.im_history.proofs.FitLaws.{fits-length, fits-short, unit_row-fits}
use Rattle.im_history.proofs.HeldLaws.{held-within}
use Rattle.im_history.proofs.ShapeLaws.{are-narrow}
use Rattle.im_unit.specs.Holding.{AreShort, HaveWidth}
use Rattle.im_unit.specs.Rebuilt.{fetched_rows}
use Rattle.im_values.specs.declared.schema.Column.{Column}
use Rattle.im_values.specs.Fits.{fits}
use Rattle.im_values.specs.Sizes.{value_bytes}
use Rattle.im_values.specs.Widened.{widened}
use Rattle.im_reach.specs.Sides.{Found, Known, speaks}
use Rattle.im_worker.specs.inner.Beginning.{IsJust}
use Rattle.im_worker.specs.inner.Built.{AreTaken, nones}
use Rattle.im_worker.proofs.BuiltLemmas.{columns-own}
use Rattle.im_worker.proofs.UnitLemmas.{nones_more, nones_none, own-found}

-- ---- the rows behind those that were fetched

every-append : (P : Option Row → Type 0) (xs ys : List (Option Row)) → AllByRecursion P xs → AllByRecursion P ys → AllByRecursion P (xs ++ ys)
every-append P [] ys first then = then
every-append P (x ∷ xs) ys first then = (first.0, every-append P xs ys first.1 then)

every-nones : (P : Option Row → Type 0) (count : ℕ) → P None → AllByRecursion P (nones count)
every-nones P zero none = subst (AllByRecursion P) (sym nones_none) tt
every-nones P (suc count) none =
    subst (AllByRecursion P) (sym (ap nones (plus_one count) ∙ nones_more count))
    (every-append P (nones count) (None ∷ []) (every-nones P count none) (none, tt))
  where
    plus_one : (n : ℕ) → suc n ≡ n + 1
    plus_one n = omega arith

no_row : (P : Row → Type 0) → ForSome None P
no_row P = λ row some. absurd cc

pub width-padded : (columns count : ℕ) (rows : List (Option Row)) → HaveWidth columns rows → HaveWidth columns (rows ++ nones count)
width-padded columns count rows wide =
    every-append (λ row. ForSome row (λ values. length values ≡ columns)) rows (nones count) wide
    (every-nones (λ row. ForSome row (λ values. length values ≡ columns)) count (no_row (λ values. length values ≡ columns)))

pub short-padded : (count : ℕ) (rows : List (Option Row)) → AreShort rows → AreShort (rows ++ nones count)
short-padded count rows short =
    every-append (λ row. ForSome row (λ values. All (λ value. value_bytes value ≤ 65538) values)) rows (nones count) short
    (every-nones (λ row. ForSome row (λ values. All (λ value. value_bytes value ≤ 65538) values)) count
    (no_row (λ values. All (λ value. value_bytes value ≤ 65538) values)))

-- where there is no row, none is lengthened
none-widened : (defaults : Row) (numbers : List ℕ) → map (option_map (widened defaults)) (map (λ (k : ℕ). None) numbers) ≡ map (λ (k : ℕ). None) numbers
none-widened defaults [] = refl
none-widened defaults (k ∷ numbers) = ap (λ (l : List (Option Row)). None ∷ l) (none-widened defaults numbers)

nones-widened : (defaults : Row) (count : ℕ) → map (option_map (widened defaults)) (nones count) ≡ nones count
unfolding nones
nones-widened defaults count = none-widened defaults (range_with_len 0 count)

-- rows that were fetched, lengthened, and none behind them
slots-padded : (defaults : Row) (found : List (ℕ × Option Row)) (count : ℕ)
    → map (option_map (widened defaults)) (fetched_rows found ++ nones count) ≡ fetched_rows (all_widened defaults found) ++ nones count
slots-padded defaults found count =
    map-append (option_map (widened defaults)) (fetched_rows found) (nones count)
    ∙ (ap (λ (l : List (Option Row)). map (option_map (widened defaults)) (fetched_rows found) ++ l) (nones-widened defaults count)
    ∙ ap (λ (l : List (Option Row)). l ++ nones count) (sym (rows-widened defaults found)))

pub padded-rows : (defaults : Row) (slots : List (Option Row)) (written found : List (ℕ × Option Row)) (per len : ℕ)
    → slots ≡ fetched_rows written ++ nones (per - len) → all_widened defaults written ≡ found → len ≡ length found
    → map (option_map (widened defaults)) slots ≡ fetched_rows found ++ nones (per - length found)
padded-rows defaults slots written found per len are shown long =
    ap (map (option_map (widened defaults))) are
    ∙ (slots-padded defaults written (per - len)
    ∙ (ap (λ (l : List (ℕ × Option Row)). fetched_rows l ++ nones (per - len)) shown
    ∙ ap (λ (n : ℕ). fetched_rows found ++ nones (per - n)) long))

-- ---- the rows that were fetched

-- the first of columns that are narrow are narrow
narrow-take : (n : ℕ) (schema : List Column) → AreNarrow schema → AreNarrow (take n schema)
narrow-take zero schema narrow = tt
narrow-take (suc n) [] narrow = tt
narrow-take (suc n) (column ∷ columns) narrow = (narrow.0, narrow-take n columns narrow.1)

-- the columns that a table had at an SCN
wide_at : (h : History) (table n : ℕ) → length (schema_at h table n) ≡ columns_at h table n
wide_at h table n = length-take-le (columns_at h table n) (schema_of (table_at h table)) (columns_at-few h table n)

narrow_at : (limits : Limits) (h : History) (table n : ℕ) (made : TableInfo) → IsLegal limits h → table_at h table ≡ Some made
    → AreNarrow (schema_at h table n)
narrow_at limits h table n made legal is =
    narrow-take (columns_at h table n) (schema_of (table_at h table))
    (subst (λ (t : Option TableInfo). AreNarrow (schema_of t)) (sym is) (are-narrow limits h table made legal is))

taken_among : (limits : Limits) (h : History) (task : Task) (made : TableInfo) → IsLegal limits h → table_at h task.table ≡ Some made
    → task.columns ≡ columns_at h task.table task.scn → (numbers : List ℕ) → AreTaken task (task_among h task numbers)
taken_among limits h task made legal is columns [] = (tt, tt)
taken_among limits h task made legal is columns (rid ∷ numbers) =
    let others = taken_among limits h task made legal is columns numbers in
    let there : List Column = schema_at h task.table task.scn in
    let fit : (row : Row) → unit_row h task.table task.scn rid ≡ Some row → fits row there ≡ true =
    λ row found. unit_row-fits limits h task.table task.scn rid made row legal is found in (
      (λ row found. fits-length row there (fit row found) ∙ (wide_at h task.table task.scn ∙ sym columns), others.0),
      (λ row found. fits-short row there (fit row found) (narrow_at limits h task.table task.scn made legal is), others.1),
    )

-- whatever was read for a held build is what its unit takes
pub are-taken : (limits : Limits) (h : History) (who : ℕ) (task : Task) → IsLegal limits h → IsOwn h who task → AreTaken task (task_fetched h task)
are-taken limits h who task legal own = by (task_serving h task)
  where
    among : (numbers : List ℕ) → AreTaken task (task_among h task numbers)
    among =
        let within = held-within limits h task.id own.held legal own.is in
        taken_among limits h task within.exists.made legal
        (subst (λ (t : Task). table_at h t.table ≡ Some within.exists.made) own.same within.exists.is)
        (columns-own limits h who task legal own)

    by : (lent : Option ℕ) → AreTaken task (task_fetched_by h task lent)
    by None = among (range_with_len (task.extent * task.per) (task_rows h task))
    by (Some at) = among (stale h task.table task.extent at task.scn)

pub taken-found : (who : ℕ) (task : Task) (old new : Known) (P : History → Type 0) (fetched : List (ℕ × Option Row))
    → speaks old.side who ≡ true → IsJust who task old → IsLawful new.limits new.log → (found : Found old new P)
    → fetched ≡ task_fetched found.at task → AreTaken task fetched
taken-found who task old new P fetched mine just lawful found read =
    subst (AreTaken task) (sym read)
    (subst (λ (s : Known). AreTaken task (task_fetched s.log task)) found.now
    (are-taken new.limits new.log who task lawful.legal (own-found who task old new P mine just lawful.legal found)))
