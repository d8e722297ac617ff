-- What is read for a build.
use Rattle.std.proofs.Common.{◌≡◌, ℕ, ◌-◌, ◌*◌, ◌==◌, ◌<◌, ◌≤◌, Bool, true, false, if◌then◌else◌, nat_le, min, List, [], ◌∷◌, length, take, Option, Some, None, refl, sym, ap, ap₂, ◌∙◌, subst, arith}
use Rattle.std.specs.Option.{option_map}
use Rattle.std.proofs.lemmas.List.{length-map}
use Rattle.std.proofs.lemmas.List.FromFn.{length-range_with_len}
use Rattle.im_values.specs.declared.content.Content.{Content as Value}
use Rattle.im_values.specs.declared.limits.TheConstants.{MOST_ROWS}
use Rattle.im_history.specs.declared.limits.Limits.{Limits}
use Rattle.im_history.specs.declared.task.Held.{Held}
use Rattle.im_history.specs.declared.task.Task.{Task}
use Rattle.im_history.specs.Columns.{defaults_at}
use Rattle.im_history.specs.Fetched.{all_widened}
use Rattle.im_history.specs.History.{History}
use Rattle.im_history.specs.Horizon.{horizon}
use Rattle.im_history.specs.Legal.{Exists, IsLegal}
use Rattle.im_history.specs.Rows.{Row}
use Rattle.im_history.specs.Serving.{not_newer}
use Rattle.im_history.specs.Stored.{Stored}
use Rattle.im_history.specs.Tables.{table_at}
use Rattle.im_history.specs.Units.{Content, columns_at, content_at, held_at, unit, unit_row}
use Rattle.im_history.specs.Views.{defaults_of}
use Rattle.im_history.proofs.HeldLaws.{held-within}
use Rattle.im_blocks.specs.Chains.{AllVersions, rows_at}
use Rattle.im_blocks.specs.Kept.{IsKept}
use Rattle.im_blocks.proofs.ForCallers.{rows_at_kept}
use Rattle.im_directory.specs.Slots.{build_in}
use Rattle.im_core.specs.Answers.{IsHeld}
use Rattle.im_core.specs.Tasks.{as_wide, given_of, task_among, task_fetched, task_fetched_by, task_lent, task_read, task_read_among, task_read_by, task_rows, task_serving}
use Rattle.im_core.specs.inner.Holds.{Caches, Holds}
use Rattle.im_core.proofs.FetchLemmas.{given_few}
use Rattle.im_core.proofs.LendLemmas.{lent-none}

-- the build is held, so many row numbers were given when it began, and its extent begins below that
pub record HasTask (h : History) (task : Task) (given : ℕ) : Type 0 where
  pub is : given_of (held_at h task.id) ≡ given
  pub first : task.extent * task.per < given
  pub few : given ≤ MOST_ROWS

same_held : {a b : Held} → Some a ≡ Some b → a ≡ b
same_held e = cc

pub has_task : {U : Type 0} {content : U → Content} {limits : Limits} {history : Stored} {caches : Caches U} (task : Task) (found : Held)
    → Holds content limits history caches → IsHeld history.entries task → build_in caches.kept task.id ≡ Some found → HasTask history.entries task found.given
has_task {U} {content} {limits} {history} {caches} task found holds held is =
    let here : held_at history.entries task.id ≡ Some found = sym (holds.units.held task.id) ∙ is in
    let same : held.held ≡ found = same_held (sym held.is ∙ here) in
    let task_is : found.task ≡ task = ap (λ (one : Held). one.task) (sym same) ∙ held.same in
    let within = held-within limits history.entries task.id found holds.legal here in
    let most = given_few content limits history caches holds found.task.table in
    let given = within.given in
    record {
      is = ap given_of here;
      first = subst (λ (t : Task). t.extent * t.per < found.given) task_is within.first;
      few = omega (arith, given, most);
    }

pub task_rows_are : (h : History) (task : Task) (given count : ℕ) → HasTask h task given → count ≡ min task.per (given - task.extent * task.per)
    → count ≡ task_rows h task
task_rows_are h task given count has count_is = count_is ∙ ap (λ n. min task.per (n - task.extent * task.per)) (sym has.is)

pub task_fetched_is : (h : History) (blocks : AllVersions) (task : Task) (given count : ℕ) → IsKept h blocks → horizon h ≤ task.scn → HasTask h task given
    → count ≡ min task.per (given - task.extent * task.per) → rows_at blocks task.table (task.extent * task.per) count task.scn ≡ task_read_by h task None
task_fetched_is h blocks task given count keeps old has count_is =
    rows_at_kept h blocks keeps task.table (task.extent * task.per) count task.scn old ∙ rw (task_rows_are h task given count has count_is) refl

-- ---- what a build is lent

-- rows that were read are what the build fetches, once they are lengthened by the first of the table's defaults
among-wide : (h : History) (task : Task) (numbers : List ℕ)
    → all_widened (defaults_at h task.table task.scn) (task_read_among h task numbers) ≡ task_among h task numbers
among-wide h task [] = refl
among-wide h task (rid ∷ numbers) =
    ap (λ (l : List (ℕ × Option Row)). (rid, unit_row h task.table task.scn rid) ∷ l) (among-wide h task numbers)

read_by-wide : (h : History) (task : Task) (at : Option ℕ) → all_widened (defaults_at h task.table task.scn) (task_read_by h task at) ≡ task_fetched_by h task at
read_by-wide h task None = among-wide h task _
read_by-wide h task (Some at) = among-wide h task _

-- what was read is what the build fetches, once it is lengthened by the first of the table's defaults
pub read-wide : (h : History) (task : Task) → task.columns ≡ columns_at h task.table task.scn
    → all_widened (take task.columns (defaults_of (table_at h task.table))) (task_read h task) ≡ task_fetched h task
read-wide h task columns =
    ap (λ (n : ℕ). all_widened (take n (defaults_of (table_at h task.table))) (task_read h task)) columns ∙ read_by-wide h task (task_serving h task)

-- the same of what was read, and of the defaults that were taken
pub fetched-wide : (h : History) (task : Task) (defaults : List Value) (read : List (ℕ × Option Row)) → task.columns ≡ columns_at h task.table task.scn
    → defaults ≡ take task.columns (defaults_of (table_at h task.table)) → read ≡ task_read h task → all_widened defaults read ≡ task_fetched h task
fetched-wide h task defaults read columns defaults_are read_is =
    ap₂ (λ (d : List Value) (rows : List (ℕ × Option Row)). all_widened d rows) defaults_are read_is ∙ read-wide h task columns

pub length-read : (h : History) (task : Task) → task.columns ≡ columns_at h task.table task.scn → length (task_read h task) ≡ length (task_fetched h task)
length-read h task columns = sym (length-map _ _) ∙ ap length (read-wide h task columns)

-- a unit is lent to the build, and beside it the stale rows are read
pub record TaskStale (h : History) (task : Task) : Type 0 where
  pub at : ℕ
  pub is : unit h task.table task.extent ≡ Some at
  pub rows : task_read_by h task (Some at) ≡ task_read h task

-- no unit is lent, and all rows are read
pub record TaskAll (h : History) (task : Task) : Type 0 where
  pub rows : task_read_by h task None ≡ task_read h task
  pub long : task_rows h task ≡ length (task_read h task)

-- an SCN that is as wide is that SCN
wide-some : (h : History) (table columns at : ℕ) (o : Option ℕ) → as_wide h table columns o ≡ Some at → o ≡ Some at
wide-some h table columns at None is = absurd cc
wide-some h table columns at (Some n) is = by (columns_at h table n == columns) is
  where
    by : (b : Bool) → (if b then Some n else None) ≡ Some at → ◌≡◌ {A = Option ℕ} (Some n) (Some at)
    by true same = same
    by false same = absurd cc

not_newer-some : (most at : ℕ) (o : Option ℕ) → not_newer most o ≡ Some at → o ≡ Some at
not_newer-some most at None is = absurd cc
not_newer-some most at (Some n) is = by (nat_le n most) is
  where
    by : (b : Bool) → (if b then Some n else None) ≡ Some at → ◌≡◌ {A = Option ℕ} (Some n) (Some at)
    by true same = same
    by false same = absurd cc

-- a unit that was lent
record LentAt {X : Type 0} (f : ℕ → X) (o : Option ℕ) : Type 0 where
  at : ℕ
  is : o ≡ Some at

lent_at : {X : Type 0} (f : ℕ → X) (o : Option ℕ) (x : X) → Some x ≡ option_map f o → LentAt f o
lent_at f None x is = absurd cc
lent_at f (Some at) x is = record { at = at; is = refl }

pub task_stale : (h : History) (task : Task) (x : Content) → Some x ≡ task_lent h task → TaskStale h task
task_stale h task x lent =
    let found = lent_at (content_at h task.table task.extent) (task_serving h task) x lent in
    let newer = wide-some h task.table task.columns found.at (not_newer task.scn (unit h task.table task.extent)) found.is in
    record {
      at = found.at;
      is = not_newer-some task.scn found.at (unit h task.table task.extent) newer;
      rows = ap (task_read_by h task) (sym found.is);
    }

pub task_all : (h : History) (task : Task) → None ≡ task_lent h task → TaskAll h task
task_all h task lent =
    let rows : task_read_by h task None ≡ task_read h task =
    ap (task_read_by h task) (sym (lent-none (task_serving h task) (content_at h task.table task.extent) lent)) in
    record { rows = rows; long = sym (length-map _ _ ∙ length-range_with_len _ _) ∙ ap length rows }

-- a held build has the columns that its table had at its SCN, and its table exists
pub record IsTask (h : History) (task : Task) : Type 0 where
  pub exists : Exists h task.table
  pub columns : task.columns ≡ columns_at h task.table task.scn

pub is_task : (limits : Limits) (h : History) (task : Task) → IsLegal limits h → IsHeld h task → IsTask h task
is_task limits h task legal held =
    let within = held-within limits h task.id held.held legal held.is in
    subst (IsTask h) held.same (record { exists = within.exists; columns = within.columns })
