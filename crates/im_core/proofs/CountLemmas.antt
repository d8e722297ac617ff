-- The tables, the row numbers given and the weight, one entry on.
use Rattle.std.proofs.Common.{◌≡◌, ℕ, zero, suc, ◌+◌, ◌≢◌, ◌-◌, ◌*◌, ◌<◌, ◌≤◌, ◌==◌, Bool, true, false, if◌then◌else◌, max, List, [], ◌∷◌, ◌++◌, length, get_or, set, Option, Some, refl, sym, ap, ◌∙◌, arith, All}
use Rattle.std.proofs.lemmas.Bool.Decides.{nat_tests}
use Rattle.std.proofs.lemmas.List.Elements.{All-head, All-tail, All-nil, All-cons}
use Rattle.std.proofs.lemmas.List.{length_push, length-set, get_or-set_same, get_or-set_other}
use Rattle.im_values.specs.declared.content.Content.{Content as Value}
use Rattle.im_values.specs.declared.limits.TheConstants.{CHANGE_WEIGHT, MOST_TABLES}
use Rattle.im_values.specs.declared.schema.Column.{Column}
use Rattle.im_history.specs.declared.change.Change.{Change}
use Rattle.im_history.specs.declared.entry.Entry.{Entry}
use Rattle.im_history.specs.declared.entry.Mode.{Mode}
use Rattle.im_values.specs.declared.priority.Priority.{Priority}
use Rattle.im_history.specs.declared.entry.What.{What}
use Rattle.im_history.specs.declared.entry.What.TheVariants.{Create, Add, Memory, Begin, Open, Shut, Write, Commit, Rollback, Build, Switch, Cancel, Trickle, Evict, Leave, Purge}
use Rattle.im_history.specs.declared.look.TableInfo.{TableInfo}
use Rattle.im_history.specs.Grid.{Grid}
use Rattle.im_history.specs.History.{History}
use Rattle.im_history.specs.Legal.{put_from}
use Rattle.im_history.specs.Rows.{Row}
use Rattle.im_history.specs.Tables.{tables, created, given, given_by, given_after, lengthened, new_table, remembered, with_column, with_memory}
use Rattle.im_history.specs.Weights.{weight, weight_after, changes_weight}
use Rattle.im_history.proofs.Laws.{tables-push, given-push, weight-push}
use Rattle.im_core.specs.inner.Kept.{Counts, Gives}

-- entries of this kind create no table, give no row number and weigh nothing
pub record IsLight (what : What) : Type 0 where
  pub tables : (ts : List TableInfo) → created ts what ≡ ts
  pub given : (table n : ℕ) → given_after table n what ≡ n
  pub weight : (n : ℕ) → weight_after n what ≡ n

pub light-begin : (mode : Mode) → IsLight (Begin mode)
light-begin mode = record { tables = λ ts. refl; given = λ table n. refl; weight = λ n. refl }

pub light-open : (cursor table : ℕ) (asked : Option ℕ) → IsLight (Open cursor table asked)
light-open cursor table asked = record { tables = λ ts. refl; given = λ t n. refl; weight = λ n. refl }

pub light-shut : (cursor : ℕ) → IsLight (Shut cursor)
light-shut cursor = record { tables = λ ts. refl; given = λ t n. refl; weight = λ n. refl }

pub light-commit : IsLight Commit
light-commit = record { tables = λ ts. refl; given = λ t n. refl; weight = λ n. refl }

pub light-rollback : IsLight Rollback
light-rollback = record { tables = λ ts. refl; given = λ t n. refl; weight = λ n. refl }

pub light-build : (id table extent : ℕ) (trickle : Bool) → IsLight (Build id table extent trickle)
light-build id table extent trickle = record { tables = λ ts. refl; given = λ t n. refl; weight = λ n. refl }

pub light-switch : (id : ℕ) → IsLight (Switch id)
light-switch id = record { tables = λ ts. refl; given = λ t n. refl; weight = λ n. refl }

pub light-cancel : (id : ℕ) (full : Bool) → IsLight (Cancel id full)
light-cancel id full = record { tables = λ ts. refl; given = λ t n. refl; weight = λ n. refl }

pub light-evict : (table extent : ℕ) → IsLight (Evict table extent)
light-evict table extent = record { tables = λ ts. refl; given = λ t n. refl; weight = λ n. refl }

pub light-trickle : (count : ℕ) → IsLight (Trickle count)
light-trickle count = record { tables = λ ts. refl; given = λ t n. refl; weight = λ n. refl }

pub light-leave : IsLight Leave
light-leave = record { tables = λ ts. refl; given = λ t n. refl; weight = λ n. refl }

pub light-purge : IsLight Purge
light-purge = record { tables = λ ts. refl; given = λ t n. refl; weight = λ n. refl }

pub given-light : (h : History) (entry : Entry) (table : ℕ) → IsLight entry.what → given (h ++ entry ∷ []) table ≡ given h table
given-light h entry table light = given-push h entry table ∙ light.given table (given h table)

pub weight-light : (h : History) (entry : Entry) → IsLight entry.what → weight (h ++ entry ∷ []) ≡ weight h
weight-light h entry light = weight-push h entry ∙ light.weight (weight h)

pub Counts-light : (h : History) (entry : Entry) (catalog : List TableInfo) (counts : List ℕ) (weighed : ℕ) → IsLight entry.what
    → Counts h catalog counts weighed → Counts (h ++ entry ∷ []) catalog counts weighed
Counts-light h entry catalog counts weighed light c = record {
  tables = c.tables ∙ sym (tables-push h entry ∙ light.tables (tables h));
  few = c.few;
  long = c.long;
  gives = λ place. c.gives place ∙ sym (given-light h entry (place + 1) light);
  weighs = c.weighs ∙ sym (weight-light h entry light);
  light = λ table. rw (given-light h entry table light, weight-light h entry light) (c.light table);
}

-- nothing was given of a table that does not stand
pub given-new : (h : History) (catalog : List TableInfo) (counts : List ℕ) (weighed place : ℕ) → Counts h catalog counts weighed → length counts ≤ place
    → given h (place + 1) ≡ 0
given-new h catalog counts weighed place c past = sym (c.gives place) ∙ get_or-past counts place past
  where
    get_or-past : (xs : List ℕ) (i : ℕ) → length xs ≤ i → get_or xs i 0 ≡ 0
    get_or-past [] i past = refl
    get_or-past (x ∷ xs) zero past = absurd (omega arith)
    get_or-past (x ∷ xs) (suc i) past = get_or-past xs i (omega arith)

-- one more table
pub Counts-create : (h : History) (who : ℕ) (name : List ℕ) (schema : List Column) (grid : Grid) (catalog : List TableInfo) (counts : List ℕ) (weighed : ℕ)
    → length catalog < MOST_TABLES → Counts h catalog counts weighed
    → Counts (h ++ record { who = who; what = Create name schema grid } ∷ [])
    (catalog ++ new_table name schema grid ∷ []) (counts ++ 0 ∷ []) weighed
Counts-create h who name schema grid catalog counts weighed room c = record {
  tables = ap (λ (ts : List TableInfo). ts ++ new_table name schema grid ∷ []) c.tables ∙ sym (tables-push h entry);
  few = let long = length_push catalog (new_table name schema grid) in omega arith;
  long = length_push counts 0 ∙ (ap (λ n. n + 1) c.long ∙ sym (length_push catalog (new_table name schema grid)));
  gives = λ place. get_or-zero counts place ∙ (c.gives place ∙ sym (given-push h entry (place + 1)));
  weighs = c.weighs ∙ sym (weight-push h entry);
  light = λ table. rw (given-push h entry table, weight-push h entry) (c.light table);
}
  where
    entry : Entry
    entry = record { who = who; what = Create name schema grid }

    get_or-zero : (xs : List ℕ) (i : ℕ) → get_or (xs ++ 0 ∷ []) i 0 ≡ get_or xs i 0
    get_or-zero [] zero = refl
    get_or-zero [] (suc i) = refl
    get_or-zero (x ∷ xs) zero = refl
    get_or-zero (x ∷ xs) (suc i) = get_or-zero xs i

-- a table joins the column store or leaves it
length-with_memory : (place : ℕ) (priority : Option Priority) (ts : List TableInfo) → length (with_memory place priority ts) ≡ length ts
length-with_memory place priority [] = refl
length-with_memory zero priority (t ∷ ts) = refl
length-with_memory (suc place) priority (t ∷ ts) = ap suc (length-with_memory place priority ts)

length-remembered : (table : ℕ) (priority : Option Priority) (ts : List TableInfo) → length (remembered table priority ts) ≡ length ts
length-remembered zero priority ts = refl
length-remembered (suc place) priority ts = length-with_memory place priority ts

pub Counts-memory : (h : History) (who table : ℕ) (priority : Option Priority) (catalog : List TableInfo) (counts : List ℕ) (weighed : ℕ)
    → Counts h catalog counts weighed
    → Counts (h ++ record { who = who; what = Memory table priority } ∷ []) (remembered table priority catalog) counts weighed
Counts-memory h who table priority catalog counts weighed c = record {
  tables = ap (remembered table priority) c.tables ∙ sym (tables-push h entry);
  few = let same = length-remembered table priority catalog in let few = c.few in omega (arith, same, few);
  long = c.long ∙ sym (length-remembered table priority catalog);
  gives = λ place. c.gives place ∙ sym (given-push h entry (place + 1));
  weighs = c.weighs ∙ sym (weight-push h entry);
  light = λ t. rw (given-push h entry t, weight-push h entry) (c.light t);
}
  where
    entry : Entry
    entry = record { who = who; what = Memory table priority }

-- a table gets a column
length-with_column : (place : ℕ) (column : Column) (default : Value) (ts : List TableInfo) → length (with_column place column default ts) ≡ length ts
length-with_column place column default [] = refl
length-with_column zero column default (t ∷ ts) = refl
length-with_column (suc place) column default (t ∷ ts) = ap suc (length-with_column place column default ts)

length-lengthened : (table : ℕ) (column : Column) (default : Value) (ts : List TableInfo) → length (lengthened table column default ts) ≡ length ts
length-lengthened zero column default ts = refl
length-lengthened (suc place) column default ts = length-with_column place column default ts

pub Counts-add : (h : History) (who table : ℕ) (column : Column) (default : Value) (catalog : List TableInfo) (counts : List ℕ) (weighed : ℕ)
    → Counts h catalog counts weighed
    → Counts (h ++ record { who = who; what = Add table column default } ∷ []) (lengthened table column default catalog) counts weighed
Counts-add h who table column default catalog counts weighed c = record {
  tables = ap (lengthened table column default) c.tables ∙ sym (tables-push h entry);
  few = let same = length-lengthened table column default catalog in let few = c.few in omega (arith, same, few);
  long = c.long ∙ sym (length-lengthened table column default catalog);
  gives = λ place. c.gives place ∙ sym (given-push h entry (place + 1));
  weighs = c.weighs ∙ sym (weight-push h entry);
  light = λ t. rw (given-push h entry t, weight-push h entry) (c.light t);
}
  where
    entry : Entry
    entry = record { who = who; what = Add table column default }

-- an insert's changes weigh something each, and give the next row numbers
put_from-weight : (table first : ℕ) (rows : List Row) → length rows * CHANGE_WEIGHT ≤ changes_weight (put_from table first rows)
put_from-weight table first [] = omega arith
put_from-weight table first (row ∷ rows) = let rest = put_from-weight table (first + 1) rows in omega arith

-- the number given, one change on
given-step : (table n : ℕ) (change : Change) → change.table ≡ table → (if change.table == table then max n (change.rid + 1) else n) ≡ max n (change.rid + 1)
given-step table n change same = let is : (change.table == table) ≡ true = grind (arith, nat_tests) in rw is refl

pub given-insert : (table first : ℕ) (rows : List Row) → 1 ≤ length rows → given_by table first (put_from table first rows) ≡ first + length rows
given-insert table first [] some = absurd (omega arith)
given-insert table first (row ∷ []) some = given-step table first (record { table = table; rid = first; row = Some row }) refl ∙ omega arith
given-insert table first (row ∷ (next ∷ rows)) some =
    let most : max first (first + 1) ≡ first + 1 = omega arith in
    let rest : given_by table (first + 1) (put_from table (first + 1) (next ∷ rows)) ≡ first + 1 + length (next ∷ rows) =
    given-insert table (first + 1) (next ∷ rows) (omega arith) in
    ap (λ (n : ℕ). given_by table n (put_from table (first + 1) (next ∷ rows)))
    (given-step table first (record { table = table; rid = first; row = Some row }) refl ∙ most)
    ∙ (rest ∙ omega arith)

-- changes to other tables give no row number of this one
pub given-others : (table n : ℕ) (changes : List Change) → All (λ change. (change.table == table) ≡ false) changes → given_by table n changes ≡ n
given-others table n [] others = refl
given-others table n (change ∷ changes) others =
    let here : (change.table == table) ≡ false = All-head (λ (c : Change). (c.table == table) ≡ false) change changes others in
    ap (λ (b : Bool). given_by table (if b then max n (change.rid + 1) else n) changes) here
    ∙ given-others table n changes (All-tail (λ (c : Change). (c.table == table) ≡ false) change changes others)

-- changes to rows that were given give no more
pub given-within : (table n : ℕ) (changes : List Change) → All (λ change. change.rid < n) changes → given_by table n changes ≡ n
given-within table n [] within = refl
given-within table n (change ∷ changes) within =
    let here : change.rid < n = All-head (λ (c : Change). c.rid < n) change changes within in
    ap (λ (m : ℕ). given_by table m changes) (by (change.table == table) (omega (arith, here)))
    ∙ given-within table n changes (All-tail (λ (c : Change). c.rid < n) change changes within)
  where
    by : (b : Bool) → max n (change.rid + 1) ≡ n → (if b then max n (change.rid + 1) else n) ≡ n
    by true e = e
    by false e = refl

-- changes to one table are not to another
others-of : (table other : ℕ) (changes : List Change) → other ≢ table → All (λ change. change.table ≡ table) changes
    → All (λ change. (change.table == other) ≡ false) changes
others-of table other [] different same = All-nil _
others-of table other (change ∷ changes) different same =
    let is : change.table ≡ table = All-head (λ (c : Change). c.table ≡ table) change changes same in
    let no : change.table ≢ other = λ e. different (sym e ∙ is) in
    let here : (change.table == other) ≡ false = grind (arith, nat_tests) in
    All-cons (λ (c : Change). (c.table == other) ≡ false) change changes here
    (others-of table other changes different (All-tail (λ (c : Change). c.table ≡ table) change changes same))

-- changes are written to a table
pub Counts-write : (h : History) (who table count : ℕ) (changes : List Change) (catalog : List TableInfo) (counts : List ℕ) (weighed : ℕ) → 1 ≤ table
    → table ≤ length counts → Gives h table changes count → Counts h catalog counts weighed
    → Counts (h ++ record { who = who; what = Write changes } ∷ []) catalog (set counts (table - 1) count) (weighed + changes_weight changes)
Counts-write h who table count changes catalog counts weighed first last gives c = record {
  tables = c.tables ∙ sym (tables-push h entry);
  few = c.few;
  long = length-set counts (table - 1) count ∙ c.long;
  gives = λ place. by place (place == table - 1) refl ∙ sym (given-push h entry (place + 1));
  weighs = ap (λ n. n + changes_weight changes) c.weighs ∙ sym (weight-push h entry);
  light = λ other. rw (given-push h entry other, weight-push h entry) (light other (other == table) refl);
}
  where
    entry : Entry
    entry = record { who = who; what = Write changes }

    by : (place : ℕ) (same : Bool) → (place == table - 1) ≡ same
        → get_or (set counts (table - 1) count) place 0 ≡ given_by (place + 1) (given h (place + 1)) changes
    by place true e =
        let at : place ≡ table - 1 = grind (arith, nat_tests) in
        let number : place + 1 ≡ table = omega (arith, at, first) in
        rw (number, at) (get_or-set_same counts (table - 1) count 0 (omega (arith, first, last)) ∙ gives.is)
    by place false e =
        let other : place ≢ table - 1 = grind (arith, nat_tests) in
        let different : place + 1 ≢ table = λ same. other (omega (arith, same)) in
        get_or-set_other counts (table - 1) place count 0 other
        ∙ (c.gives place ∙ sym (given-others (place + 1) (given h (place + 1)) changes (others-of table (place + 1) changes different gives.same)))

    light : (other : ℕ) (same : Bool) → (other == table) ≡ same → given_by other (given h other) changes * CHANGE_WEIGHT ≤ weight h + changes_weight changes
    light other true e = let is : other ≡ table = grind (arith, nat_tests) in rw (is, ← gives.is) gives.light
    light other false e =
        let different : other ≢ table = grind (arith, nat_tests) in
        let old = c.light other in
        rw (given-others other (given h other) changes (others-of table other changes different gives.same)) (omega (arith, old))

-- the next row numbers of a table
put_from-same : (table first : ℕ) (rows : List Row) → All (λ change. change.table ≡ table) (put_from table first rows)
put_from-same table first [] = All-nil _
put_from-same table first (row ∷ rows) =
    All-cons (λ (c : Change). c.table ≡ table) (record { table = table; rid = first; row = Some row }) (put_from table (first + 1) rows) refl
    (put_from-same table (first + 1) rows)

pub Gives-insert : (h : History) (table : ℕ) (rows : List Row) → 1 ≤ length rows → given h table * CHANGE_WEIGHT ≤ weight h
    → Gives h table (put_from table (given h table) rows) (given h table + length rows)
Gives-insert h table rows some light = record {
  same = put_from-same table (given h table) rows;
  is = sym (given-insert table (given h table) rows some);
  light = let more = put_from-weight table (given h table) rows in omega (arith, more, light);
}

pub Gives-rewrite : (h : History) (table : ℕ) (changes : List Change) → All (λ change. change.table ≡ table) changes
    → All (λ change. change.rid < given h table) changes → given h table * CHANGE_WEIGHT ≤ weight h → Gives h table changes (given h table)
Gives-rewrite h table changes same within light = record {
  same = same;
  is = sym (given-within table (given h table) changes within);
  light = omega (arith, light);
}
