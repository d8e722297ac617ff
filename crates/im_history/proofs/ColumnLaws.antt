-- The columns of a table at an SCN, as a history goes on.
use Rattle.std.proofs.Common.{◌≡◌, ℕ, zero, suc, ◌+◌, ◌==◌, ◌≤◌, ◌&&◌, Bool, true, false, if◌then◌else◌, nat_le, List, [], ◌∷◌, ◌++◌, length, take, All, Option, Some, refl, sym, ap, ap₂, ◌∙◌, arith}
use Rattle.std.proofs.lemmas.Bool.{false≢true, lt-leb}
use Rattle.std.proofs.lemmas.Bool.Decides.{nat_tests}
use Rattle.std.proofs.lemmas.List.{length_push, length-map, take-append-le}
use Rattle.std.proofs.lemmas.List.Elements.{All-nil}
use Rattle.im_values.specs.declared.content.Content.{Content as Value}
use Rattle.im_values.specs.declared.content.Content.TheVariants.{Null}
use Rattle.im_values.specs.declared.schema.Column.{Column}
use Rattle.im_history.specs.declared.entry.Entry.{Entry}
use Rattle.im_history.specs.declared.entry.What.{What}
use Rattle.im_history.specs.declared.entry.What.TheVariants.{Add}
use Rattle.im_history.specs.declared.look.TableInfo.{TableInfo}
use Rattle.im_history.specs.Columns.{added, added_after, columns_at, columns_of, defaults_at, schema_at}
use Rattle.im_history.specs.Commits.{scn, moves_clock}
use Rattle.im_history.specs.History.{History, replay}
use Rattle.im_history.specs.Legal.{Exists}
use Rattle.im_history.specs.Tables.{table_at, tables}
use Rattle.im_history.specs.Views.{defaults_of, schema_of}
use Rattle.im_history.proofs.EachTable.{Keeps, all-created, found-among}
use Rattle.im_history.proofs.Laws.{scn-push, tables-push}
use Rattle.im_history.proofs.Replay.{replay-push}
use Rattle.im_history.proofs.RowLaws.{each_history}
use Rattle.im_history.proofs.TableLaws.{columns-push, new_columns, table-grows}

pub added-nil : (table from : ℕ) → added [] table from ≡ 0
unfolding added replay
added-nil table from = refl

pub added-push : (h : History) (entry : Entry) (table from : ℕ)
    → added (h ++ entry ∷ []) table from ≡ added_after table from h (added h table from) entry.what
unfolding added
added-push h entry table from = replay-push (λ before so_far e. added_after table from before so_far e.what) 0 h entry

-- behind an SCN that is reached an entry adds all its columns
added_after-is : (table from : ℕ) (h : History) (so_far : ℕ) (what : What) → from ≤ scn h
    → added_after table from h so_far what ≡ so_far + length (new_columns table what)
added_after-is table from h so_far (Add other column default) reached = by (other == table)
  where
    by : (b : Bool) → (if b && nat_le from (scn h) then so_far + 1 else so_far) ≡ so_far + length (if b then column ∷ [] else [])
    by true = let is : nat_le from (scn h) ≡ true = grind (arith, nat_tests, reached) in rw is refl
    by false = omega arith
added_after-is table from h so_far _ reached = omega arith

-- no column was added behind an SCN that is not passed yet
record IsPast (table from : ℕ) (h : History) : Type 0 where
  is : scn h ≤ from → added h table from ≡ 0

past_step : (table from : ℕ) (h : History) (so_far : ℕ) (what : What) → so_far ≡ 0 → scn h + (if moves_clock what then 1 else 0) ≤ from
    → added_after table from h so_far what ≡ 0
past_step table from h so_far (Add other column default) none past =
    let before : nat_le from (scn h) ≡ false = lt-leb from (scn h) (omega (arith, past)) in
    rw before (by (other == table))
  where
    by : (b : Bool) → (if b && false then so_far + 1 else so_far) ≡ 0
    by true = none
    by false = none
past_step table from h so_far _ none past = none

IsPast-push : (table from : ℕ) (h : History) (entry : Entry) → IsPast table from h → IsPast table from (h ++ entry ∷ [])
IsPast-push table from h entry before = record {
  is = λ past.
      let later = rw (scn-push h entry) at past in
      added-push h entry table from ∙ past_step table from h (added h table from) entry.what (before.is (omega (arith, later))) later;
}

pub added-none : (h : History) (table from : ℕ) → scn h ≤ from → added h table from ≡ 0
added-none h table from past =
    (each_history (IsPast table from) (record { is = λ past. added-nil table from }) (IsPast-push table from) h).is past

-- no more columns were added behind a later SCN
record AreFewer (table from later : ℕ) (h : History) : Type 0 where
  few : added h table later ≤ added h table from

fewer_step : (table from later : ℕ) (h : History) (before after : ℕ) (what : What) → from ≤ later → after ≤ before
    → added_after table later h after what ≤ added_after table from h before what
fewer_step table from later h before after (Add other column default) within few = by (other == table) (nat_le later (scn h)) (nat_le from (scn h)) within_both
  where
    within_both : nat_le later (scn h) ≡ true → nat_le from (scn h) ≡ true
    within_both is = grind (arith, nat_tests, within, is)

    by : (b late early : Bool) → (late ≡ true → early ≡ true) → (if b && late then after + 1 else after) ≤ (if b && early then before + 1 else before)
    by true true true both = omega (arith, few)
    by true true false both = absurd (false≢true (both refl))
    by true false true both = omega (arith, few)
    by true false false both = few
    by false late early both = few
fewer_step table from later h before after _ within few = few

pub added-fewer : (h : History) (table from later : ℕ) → from ≤ later → added h table later ≤ added h table from
added-fewer h table from later within =
    (each_history (AreFewer table from later) (record { few = rw (added-nil table later) (omega arith) })
    (λ h entry before. record {
      few =
          rw (added-push h entry table later, added-push h entry table from)
          (fewer_step table from later h (added h table from) (added h table later) entry.what within before.few);
    }) h).few

-- ---- how many columns

-- at the present SCN, and above it, a table has the columns that it has now
pub columns_at-now : (h : History) (table n : ℕ) → scn h ≤ n → columns_at h table n ≡ columns_of (table_at h table)
columns_at-now h table n past = rw (added-none h table n past) (omega arith)

-- at a later SCN it has no fewer
pub columns_at-grows : (h : History) (table n m : ℕ) → n ≤ m → columns_at h table n ≤ columns_at h table m
columns_at-grows h table n m within = let fewer = added-fewer h table n m within in omega (arith, fewer)

-- no more than now
pub columns_at-few : (h : History) (table n : ℕ) → columns_at h table n ≤ columns_of (table_at h table)
columns_at-few h table n = omega arith

-- and at an SCN that was reached it had so many for ever
pub columns_at-push : (h : History) (entry : Entry) (table n : ℕ) → Exists h table → n ≤ scn h
    → columns_at (h ++ entry ∷ []) table n ≡ columns_at h table n
columns_at-push h entry table n exists reached =
    let more = columns-push h entry table exists in
    let others = added-push h entry table n ∙ added_after-is table n h (added h table n) entry.what reached in
    rw (more, others) (omega arith)

-- ---- a default for each column

abbrev IsLong : TableInfo → Type 0
IsLong made = length made.defaults ≡ length made.schema

record AllLong (h : History) : Type 0 where
  each : All IsLong (tables h)

AllLong-nil : AllLong []
unfolding tables replay
AllLong-nil = record { each = All-nil IsLong }

keeps-long : (what : What) → Keeps IsLong what
keeps-long what = record {
  made = λ name schema grid is. length-map schema (λ (column : Column). Null);
  grown = λ table column default is t long.
      let one = length_push t.defaults default in let other = length_push t.schema column in omega (arith, one, other, long);
  joined = λ priority t long. long;
}

pub defaults-long : (h : History) (table : ℕ) (made : TableInfo) → table_at h table ≡ Some made → length made.defaults ≡ length made.schema
defaults-long h table made is =
    found-among IsLong (tables h) table made
    ((each_history AllLong AllLong-nil
    (λ h entry before. record { each = rw (tables-push h entry) (all-created IsLong (tables h) entry.what (keeps-long entry.what) before.each) }) h).each)
    is

-- ---- which columns

-- the first of the first
pub take-take : {X : Type 0} (n m : ℕ) (xs : List X) → n ≤ m → take n (take m xs) ≡ take n xs
take-take zero m xs within = refl
take-take (suc n) zero xs within = absurd (omega (arith, within))
take-take (suc n) (suc m) [] within = refl
take-take (suc n) (suc m) (x ∷ xs) within = ap (λ l. x ∷ l) (take-take n m xs (omega (arith, within)))

-- the columns of a table at an SCN that was reached stay
pub schema_at-push : (h : History) (entry : Entry) (table n : ℕ) → Exists h table → n ≤ scn h
    → schema_at (h ++ entry ∷ []) table n ≡ schema_at h table n
schema_at-push h entry table n exists reached =
    let now = table-grows h entry table exists in
    let few = columns_at-few h table n in
    ap₂ (λ (k : ℕ) (columns : List Column). take k columns) (columns_at-push h entry table n exists reached) (ap schema_of now.is ∙ now.schema)
    ∙ (take-append-le (columns_at h table n) exists.made.schema (new_columns table entry.what)
    (omega (arith, few, ap (λ (t : Option TableInfo). columns_of t) exists.is))
    ∙ ap (λ (t : Option TableInfo). take (columns_at h table n) (schema_of t)) (sym exists.is))

-- and so do their defaults
pub defaults_at-push : (h : History) (entry : Entry) (table n : ℕ) → Exists h table → n ≤ scn h
    → defaults_at (h ++ entry ∷ []) table n ≡ defaults_at h table n
defaults_at-push h entry table n exists reached =
    let now = table-grows h entry table exists in
    let few = columns_at-few h table n in
    let long = defaults-long h table exists.made exists.is in
    let wide = ap (λ (t : Option TableInfo). columns_of t) exists.is in
    ap₂ (λ (k : ℕ) (values : List Value). take k values) (columns_at-push h entry table n exists reached) (ap defaults_of now.is ∙ now.defaults)
    ∙ (take-append-le (columns_at h table n) exists.made.defaults _ (omega (arith, few, long, wide))
    ∙ ap (λ (t : Option TableInfo). take (columns_at h table n) (defaults_of t)) (sym exists.is))
