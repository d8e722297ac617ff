-- A history touches no row number that it did not give, and gives none of a table that is not there.
use Rattle.std.proofs.Common.{◌≡◌, ℕ, zero, suc, ◌+◌, ◌<◌, ◌≤◌, ◌==◌, ◌⊎◌, Bool, true, false, List, [], ◌∷◌, ◌++◌, All, length, max, None, Some, if◌then◌else◌, refl, sym, ap, subst, ⊎_elim, arith}
use Rattle.std.proofs.lemmas.Bool.{cases_Bool, cases_lt, eq-eqb}
use Rattle.std.proofs.lemmas.List.Elements.{All-append, All-cons, All-head, All-nil, All-tail, All-weaker}
use Rattle.std.proofs.lemmas.Option.{slice_get_within}
use Rattle.im_tables.proofs.Tests.{and-true, eq-true}
use Rattle.im_values.specs.declared.content.Content.{Content as Value}
use Rattle.im_history.specs.declared.change.Change.{Change}
use Rattle.im_history.specs.declared.entry.Entry.{Entry}
use Rattle.im_history.specs.declared.entry.What.{What}
use Rattle.im_history.specs.declared.entry.What.TheVariants.{Create, Add, Commit, Rollback, Write}
use Rattle.im_history.specs.declared.limits.Limits.{Limits}
use Rattle.im_history.specs.Commits.{commits, committed_by, members}
use Rattle.im_history.specs.History.{History, replay}
use Rattle.im_history.specs.Legal.{Exists, IsAllowed, IsLegal, IsInsert, IsRewrite}
use Rattle.im_history.specs.Puts.{put_from}
use Rattle.im_history.specs.Tables.{given, given_after, given_by, tables}
use Rattle.im_history.specs.Touched.{is_to, touches}
use Rattle.im_history.specs.Transactions.{pending, pending_after}
use Rattle.im_history.proofs.GivenLaws.{given-grows, given_by-grows}
use Rattle.im_history.proofs.Laws.{IsLegal-pop, commits-push, given-push, pending-push}
use Rattle.im_history.proofs.RowLaws.{each_history}
use Rattle.im_history.proofs.TableLaws.{Exists-push}
use Rattle.im_history.proofs.ViewLaws.{cursor-columns}

-- ---- row numbers

-- the row number of a change was given
abbrev IsGiven : History → Change → Type 0
IsGiven h change = change.rid < given h change.table

-- so were those of all these changes
abbrev AreGiven : History → List Change → Type 0
AreGiven h changes = All (IsGiven h) changes

-- and those of all that is pending or committed
record AllGiven (h : History) : Type 0 where
  pub pending_are : (who : ℕ) → AreGiven h (pending h who)
  pub commits_are : All (AreGiven h) (commits h)

AllGiven-nil : AllGiven []
unfolding pending commits members replay
AllGiven-nil = record { pending_are = λ who. All-nil (IsGiven []); commits_are = All-nil (AreGiven []) }

still-given : (h : History) (entry : Entry) (changes : List Change) → AreGiven h changes → AreGiven (h ++ entry ∷ []) changes
still-given h entry changes all =
    All-weaker (IsGiven h) (IsGiven (h ++ entry ∷ [])) (λ change was. let more = given-grows h entry change.table in omega (arith, more, was)) changes all

-- how many were given with those that one change names
abbrev with_change : Change → (ℕ → ℕ) → ℕ → ℕ
with_change change so_far table = if change.table == table then max (so_far table) (change.rid + 1) else so_far table

-- changes give the row numbers that they name
given_by-names : (so_far : ℕ → ℕ) (changes : List Change) → All (λ change. change.rid < given_by change.table (so_far change.table) changes) changes
given_by-names so_far [] = All-nil (λ (change : Change). change.rid < so_far change.table)
given_by-names so_far (change ∷ changes) =
    All-cons (λ (c : Change). c.rid < given_by c.table (so_far c.table) (change ∷ changes)) change changes here (given_by-names (with_change change so_far) changes)
  where
    here : change.rid < given_by change.table (with_change change so_far change.table) changes
    here =
        let own : with_change change so_far change.table ≡ max (so_far change.table) (change.rid + 1) =
        ap (λ (b : Bool). if b then max (so_far change.table) (change.rid + 1) else so_far change.table) (eq-eqb change.table change.table refl) in
        let more = given_by-grows change.table (with_change change so_far change.table) changes in
        omega (arith, own, more)

given-written : (h : History) (who : ℕ) (changes : List Change) → AreGiven (h ++ record { who = who; what = Write changes } ∷ []) changes
given-written h who changes =
    All-weaker (λ change. change.rid < given_by change.table (given h change.table) changes) (IsGiven (h ++ record { who = who; what = Write changes } ∷ []))
    (λ change is. subst (λ (n : ℕ). change.rid < n) (sym (given-push h (record { who = who; what = Write changes }) change.table)) is) changes
    (given_by-names (given h) changes)

pending-given : (h : History) (who : ℕ) (so_far : List Change) (what : What) → AreGiven (h ++ record { who = who; what = what } ∷ []) so_far
    → AreGiven (h ++ record { who = who; what = what } ∷ []) (pending_after so_far what)
pending-given h who so_far (Write changes) all =
    All-append (IsGiven (h ++ record { who = who; what = Write changes } ∷ [])) so_far changes all (given-written h who changes)
pending-given h who so_far Commit all = All-nil (IsGiven (h ++ record { who = who; what = Commit } ∷ []))
pending-given h who so_far Rollback all = All-nil (IsGiven (h ++ record { who = who; what = Rollback } ∷ []))
pending-given h who so_far _ all = all

committed-given : (h new : History) (who : ℕ) (what : What) → AreGiven new (pending h who) → All (AreGiven new) (committed_by h who what)
committed-given h new who Commit all = All-cons (AreGiven new) (pending h who) [] all (All-nil (AreGiven new))
committed-given h new who (Create name schema grid) all = All-cons (AreGiven new) [] [] (All-nil (IsGiven new)) (All-nil (AreGiven new))
committed-given h new who (Add table column default) all = All-cons (AreGiven new) [] [] (All-nil (IsGiven new)) (All-nil (AreGiven new))
committed-given h new who _ all = All-nil (AreGiven new)

AllGiven-push : (h : History) (entry : Entry) → AllGiven h → AllGiven (h ++ entry ∷ [])
AllGiven-push h entry so_far = record {
  pending_are = λ who. subst (AreGiven new) (sym (pending-push h entry who)) (mine who (entry.who == who));
  commits_are =
      subst (All (AreGiven new)) (sym (commits-push h entry))
      (All-append (AreGiven new) (commits h) (committed_by h entry.who entry.what)
      (All-weaker (AreGiven h) (AreGiven new) (λ changes all. still-given h entry changes all) (commits h) so_far.commits_are)
      (committed-given h new entry.who entry.what (still-given h entry (pending h entry.who) (so_far.pending_are entry.who))));
}
  where
    new : History
    new = h ++ entry ∷ []

    mine : (who : ℕ) (b : Bool) → AreGiven new (if b then pending_after (pending h who) entry.what else pending h who)
    mine who true = pending-given h entry.who (pending h who) entry.what (still-given h entry (pending h who) (so_far.pending_are who))
    mine who false = still-given h entry (pending h who) (so_far.pending_are who)

all_given : (h : History) → AllGiven h
all_given h = each_history AllGiven AllGiven-nil AllGiven-push h

not_to : (h : History) (table rid : ℕ) (change : Change) → given h table ≤ rid → IsGiven h change → is_to table rid change ≡ false
not_to h table rid change past is = ⊎_elim no (λ (off : is_to table rid change ≡ false). off) (cases_Bool (is_to table rid change))
  where
    no : is_to table rid change ≡ true → is_to table rid change ≡ false
    no same =
        let sides = and-true (change.table == table) (change.rid == rid) same in
        let row = eq-true change.rid rid sides.1 in
        let long = ap (given h) (eq-true change.table table sides.0) in
        absurd (omega (arith, row, long, past, is))

not_touched : (h : History) (table rid : ℕ) (changes : List Change) → given h table ≤ rid → AreGiven h changes → touches changes table rid ≡ false
not_touched h table rid [] past all = refl
not_touched h table rid (change ∷ changes) past all =
    rw (not_to h table rid change past (All-head (IsGiven h) change changes all))
    (not_touched h table rid changes past (All-tail (IsGiven h) change changes all))

-- no commit touched a row number that was not given
pub none-touches : (h : History) (table rid : ℕ) → given h table ≤ rid → All (λ changes. touches changes table rid ≡ false) (commits h)
none-touches h table rid past =
    All-weaker (AreGiven h) (λ changes. touches changes table rid ≡ false) (λ changes all. not_touched h table rid changes past all) (commits h)
    (all_given h).commits_are

-- ---- tables

-- a table whose row numbers were given exists
record GivenExist (h : History) : Type 0 where
  pub each : (table : ℕ) → 0 < given h table → Exists h table

GivenExist-nil : GivenExist []
unfolding given replay
GivenExist-nil = record { each = λ table some. absurd (omega (arith, some)) }

put-exist : (h : History) (table first : ℕ) (rows : List (List Value)) → Exists h table → All (λ change. Exists h change.table) (put_from table first rows)
put-exist h table first [] exists = All-nil (λ (change : Change). Exists h change.table)
put-exist h table first (row ∷ rows) exists =
    All-cons (λ (change : Change). Exists h change.table) _ (put_from table (first + 1) rows) exists (put-exist h table (first + 1) rows exists)

-- each change that may be written is to a table that exists
written-exist : (limits : Limits) (h : History) (who : ℕ) (changes : List Change) → IsLegal limits h → IsAllowed limits h who (Write changes)
    → All (λ change. Exists h change.table) changes
written-exist limits h who changes legal may =
    ⊎_elim
    (λ (insert : IsInsert limits h who changes).
    subst (All (λ (change : Change). Exists h change.table)) (sym insert.next) (put-exist h insert.table (given h insert.table) insert.rows insert.may.exists))
    (λ (rewrite : IsRewrite limits h who changes).
    let has = cursor-columns limits h who rewrite.cursor rewrite.may.opened legal rewrite.may.is in
    let exists : Exists h rewrite.may.opened.view.table = record { made = has.made; is = has.is } in
    All-weaker (λ (change : Change). change.table ≡ rewrite.may.opened.view.table) (λ change. Exists h change.table)
    (λ change same. subst (Exists h) (sym same) exists) changes rewrite.may.same)
    may

given_by-exist : (h : History) (table so_far : ℕ) (changes : List Change) → All (λ change. Exists h change.table) changes
    → (0 < so_far → Exists h table) → 0 < given_by table so_far changes → Exists h table
given_by-exist h table so_far [] all before some = before some
given_by-exist h table so_far (change ∷ changes) all before some =
    given_by-exist h table (if change.table == table then max so_far (change.rid + 1) else so_far) changes
    (All-tail (λ (c : Change). Exists h c.table) change changes all)
    (λ now. by (change.table == table) refl now) some
  where
    by : (b : Bool) → (change.table == table) ≡ b → 0 < (if b then max so_far (change.rid + 1) else so_far) → Exists h table
    by true is now = subst (Exists h) (eq-true change.table table is) (All-head (λ (c : Change). Exists h c.table) change changes all)
    by false is now = before now

given_after-exist : (limits : Limits) (h : History) (who : ℕ) (what : What) (table : ℕ) → IsLegal limits h → IsAllowed limits h who what
    → (0 < given h table → Exists h table) → 0 < given_after table (given h table) what → Exists h table
given_after-exist limits h who (Write changes) table legal may before some =
    given_by-exist h table (given h table) changes (written-exist limits h who changes legal may) before some
given_after-exist limits h who _ table legal may before some = before some

GivenExist-push : (limits : Limits) (h : History) (entry : Entry) → IsLegal limits h → IsAllowed limits h entry.who entry.what → GivenExist h
    → GivenExist (h ++ entry ∷ [])
GivenExist-push limits h entry legal may so_far = record {
  each = λ table some.
      Exists-push h entry table
      (given_after-exist limits h entry.who entry.what table legal may (so_far.each table) (subst (λ (n : ℕ). 0 < n) (given-push h entry table) some));
}

given_exist : (limits : Limits) (h : History) → IsLegal limits h → GivenExist h
given_exist limits = each_history (λ h. IsLegal limits h → GivenExist h) (λ legal. GivenExist-nil)
    (λ h entry so_far legal.
    let before = IsLegal-pop limits h entry legal in GivenExist-push limits h entry before.0 before.1 (so_far before.0))

its_place : (h : History) (table : ℕ) → Exists h table → (1 ≤ table) × (table ≤ length (tables h))
its_place h zero exists = absurd (no exists.is)
  where
    no : None ≡ Some exists.made → ⊥
    no is = cc
its_place h (suc before) exists =
    let inside = slice_get_within (tables h) before exists.made exists.is in (omega arith, omega (arith, inside))

-- no row number of table 0 was given, nor of one past the last
pub none-given : (limits : Limits) (h : History) (table : ℕ) → IsLegal limits h → (table ≡ 0) ⊎ (length (tables h) < table) → given h table ≡ 0
none-given limits h table legal outside =
    ⊎_elim
    (λ (some : 0 < given h table).
    let place = its_place h table ((given_exist limits h legal).each table some) in
    let first = place.0 in
    let last = place.1 in
    ⊎_elim (λ (is : table ≡ 0). absurd (omega (arith, is, first))) (λ (past : length (tables h) < table). absurd (omega (arith, past, last))) outside)
    (λ (none : given h table ≤ 0). omega (arith, none))
    (cases_lt 0 (given h table))
