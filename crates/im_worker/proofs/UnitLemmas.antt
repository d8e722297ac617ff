-- What is read for a build and padded is what its unit is to hold.
use Rattle.std.proofs.Common.{◌≡◌, ℕ, zero, suc, ◌+◌, ◌-◌, ◌*◌, ◌<◌, ◌≤◌, ◌==◌, ◌&&◌, Bool, true, false, if◌then◌else◌, min, max, List, [], ◌∷◌, ◌++◌, length, map, take, All, Option, Some, None, refl, sym, ap, ap₂, ◌∙◌, subst, arith, append-nil, append_assoc}
use Rattle.std.specs.List.{AllByRecursion, find, flat_map, fold, range_with_len}
use Rattle.std.specs.Option.{option_map, option_or}
use Rattle.std.proofs.lemmas.Bool.Decides.{nat_tests}
use Rattle.std.proofs.lemmas.List.Elements.{All-nil, All-cons, All-head, All-tail, All-append, All-weaker, All-take}
use Rattle.std.proofs.lemmas.List.FromFn.{length-map-range_with_len, map-range_with_len_more}
use Rattle.std.proofs.lemmas.Simd.{map-map}
use Rattle.im_core.specs.Tasks.{given_of, task_fetched, task_fetched_by, task_lent, task_rows, task_serving}
use Rattle.im_history.specs.declared.change.Change.{Change}
use Rattle.im_history.specs.declared.entry.Entry.{Entry}
use Rattle.im_history.specs.declared.entry.What.{What}
use Rattle.im_history.specs.declared.entry.What.TheVariants.{Build, Create, Add, Commit, Rollback, Switch, Cancel, Write}
use Rattle.im_history.specs.declared.limits.Limits.{Limits}
use Rattle.im_history.specs.declared.task.Held.{Held}
use Rattle.im_history.specs.declared.task.Task.{Task}
use Rattle.im_values.specs.Widened.{widened}
use Rattle.im_history.specs.Columns.{defaults_at}
use Rattle.im_history.specs.Commits.{commits, committed_by, scn, members}
use Rattle.im_history.specs.History.{History, replay}
use Rattle.im_history.specs.Legal.{IsAllowed, IsLawful, IsLegal}
use Rattle.im_history.specs.Queue.{build_of}
use Rattle.im_history.specs.Rows.{Row, changes_until, row_after, rows}
use Rattle.im_history.specs.Tables.{given, given_after, given_by}
use Rattle.im_history.specs.Transactions.{or_here, pending, pending_after}
use Rattle.im_history.specs.Units.{Content, IsOwn, builds, content_at, drops, held, held_at, is_id, killed_by, task_content, unit_row}
use Rattle.im_history.proofs.BuildLaws.{begun_at, held_at-build, held_at-cancel, held_at-plain, held_at-switch}
use Rattle.im_history.proofs.GivenLaws.{given-grows, given_by-grows}
use Rattle.im_history.proofs.Laws.{IsLegal-pop, commits-push, given-push, pending-push}
use Rattle.im_history.proofs.RowLaws.{each_history, rows-append}
use Rattle.im_history.proofs.UnitLaws.{is_plain}
use Rattle.im_reach.specs.Sides.{Found, Known, speaks}
use Rattle.im_worker.proofs.RestLemmas.{went-found}
use Rattle.im_worker.specs.inner.Beginning.{IsGiven, IsJust}
use Rattle.im_worker.specs.inner.Built.{IsBeside, content_built, content_from, nones}
use Rattle.im_worker.specs.inner.Rests.{Went}
use Rattle.im_worker.proofs.BuiltLemmas.{built-mended, columns-own, is-beside, task_content-own}
use Rattle.im_worker.proofs.HoldingLaws.{are_numbered, killed-task, killed-who, other_number, same_number}
use Rattle.im_worker.proofs.StandingLaws.{after-legal, apart-id, content_of}

-- ---- row numbers that were not given have no row

-- a change names a row number below what it gives
abbrev IsCovered : List Change → Change → Type 0
IsCovered changes change = (n : ℕ) → change.rid < given_by change.table n changes

covers : (changes : List Change) → All (IsCovered changes) changes
covers [] = All-nil (IsCovered [])
covers (first ∷ rest) =
    All-cons (IsCovered (first ∷ rest)) first rest own
    (All-weaker (IsCovered rest) (IsCovered (first ∷ rest))
    (λ change covered n. covered (if first.table == change.table then max n (first.rid + 1) else n)) rest
    (covers rest))
  where
    own : (n : ℕ) → first.rid < given_by first.table n (first ∷ rest)
    own n =
        let more = given_by-grows first.table (max n (first.rid + 1)) rest in
        subst (λ (b : Bool). first.rid < given_by first.table (if b then max n (first.rid + 1) else n) rest) (sym (same_number first.table first.table refl))
        (omega (arith, more))

-- the row number of a change was given
abbrev WasGiven : History → Change → Type 0
WasGiven h change = change.rid < given h change.table

-- and so of all that is pending, and all that was committed
record AllGiven (h : History) : Type 0 where
  waiting : (who : ℕ) → All (WasGiven h) (pending h who)
  done : All (All (WasGiven h)) (commits h)

AllGiven-nil : AllGiven []
unfolding pending commits members replay
AllGiven-nil = record { waiting = λ who. All-nil (WasGiven []); done = All-nil (All (WasGiven [])) }

AllGiven-push : (h : History) (entry : Entry) → AllGiven h → AllGiven (h ++ entry ∷ [])
AllGiven-push h entry so_far = record {
  waiting = λ who. rw (pending-push h entry who) (mine who (entry.who == who));
  done =
      rw (commits-push h entry)
      (All-append (All (WasGiven now)) (commits h) (committed_by h entry.who entry.what) (each_later (commits h) so_far.done) (committed entry.what));
}
  where
    now : History
    now = h ++ entry ∷ []

    later : (changes : List Change) → All (WasGiven h) changes → All (WasGiven now) changes
    later = All-weaker (WasGiven h) (WasGiven now) (λ change below. let more = given-grows h entry change.table in omega (arith, below, more))

    each_later : (lists : List (List Change)) → All (All (WasGiven h)) lists → All (All (WasGiven now)) lists
    each_later = All-weaker (All (WasGiven h)) (All (WasGiven now)) later

    written : (more : List Change) → entry.what ≡ Write more → All (WasGiven now) more
    written more same =
        All-weaker (IsCovered more) (WasGiven now)
        (λ change covered. subst (λ (n : ℕ). change.rid < n)
        (sym (given-push h entry change.table ∙ ap (given_after change.table (given h change.table)) same)) (covered (given h change.table))) more
        (covers more)

    after : (changes : List Change) (what : What) → entry.what ≡ what → All (WasGiven now) changes → All (WasGiven now) (pending_after changes what)
    after changes (Write more) same all = All-append (WasGiven now) changes more all (written more same)
    after changes Commit same all = All-nil (WasGiven now)
    after changes Rollback same all = All-nil (WasGiven now)
    after changes _ same all = all

    mine : (who : ℕ) (same : Bool) → All (WasGiven now) (if same then pending_after (pending h who) entry.what else pending h who)
    mine who true = after (pending h who) entry.what refl (later (pending h who) (so_far.waiting who))
    mine who false = later (pending h who) (so_far.waiting who)

    committed : (what : What) → All (All (WasGiven now)) (committed_by h entry.who what)
    committed Commit = All-cons (All (WasGiven now)) (pending h entry.who) []
        (later (pending h entry.who) (so_far.waiting entry.who)) (All-nil (All (WasGiven now)))
    committed (Create name schema grid) = All-cons (All (WasGiven now)) [] [] (All-nil (WasGiven now)) (All-nil (All (WasGiven now)))
    committed (Add table column default) = All-cons (All (WasGiven now)) [] [] (All-nil (WasGiven now)) (All-nil (All (WasGiven now)))
    committed _ = All-nil (All (WasGiven now))

all_given : (h : History) → AllGiven h
all_given = each_history AllGiven AllGiven-nil AllGiven-push

each-flat_map : (P : Change → Type 0) (lists : List (List Change)) → All (All P) lists → All P (flat_map (λ changes. changes) lists)
each-flat_map P [] all = All-nil P
each-flat_map P (changes ∷ lists) all =
    All-append P changes (flat_map (λ c. c) lists) (All-head (All P) changes lists all) (each-flat_map P lists (All-tail (All P) changes lists all))

-- a change is to another row
abbrev IsElsewhere : ℕ → ℕ → Change → Type 0
IsElsewhere table rid change = ((change.table == table) && (change.rid == rid)) ≡ false

fold-none : (table rid : ℕ) (changes : List Change) → All (IsElsewhere table rid) changes → fold (row_after table rid) None changes ≡ None
fold-none table rid [] all = refl
fold-none table rid (first ∷ rest) all =
    ap (λ (row : Option Row). fold (row_after table rid) row rest)
    (ap (λ (b : Bool). if b then first.row else None) (All-head (IsElsewhere table rid) first rest all))
    ∙ fold-none table rid rest (All-tail (IsElsewhere table rid) first rest all)

elsewhere : (h : History) (table rid : ℕ) (change : Change) → given h table ≤ rid → WasGiven h change → IsElsewhere table rid change
elsewhere h table rid change past below = by (change.table == table) refl
  where
    by : (b : Bool) → (change.table == table) ≡ b → (b && (change.rid == rid)) ≡ false
    by false is = refl
    by true is =
        let same : change.table ≡ table = grind (arith, nat_tests, is) in
        let less : change.rid < given h table = subst (λ (t : ℕ). change.rid < given h t) same below in
        other_number change.rid rid (omega (arith, less, past))

pub rows-ungiven : (h : History) (table n rid : ℕ) → given h table ≤ rid → rows h table n rid ≡ None
unfolding rows
rows-ungiven h table n rid past =
    fold-none table rid (changes_until h n)
    (All-weaker (WasGiven h) (IsElsewhere table rid) (λ change below. elsewhere h table rid change past below) (changes_until h n)
    (each-flat_map (WasGiven h) (take n (commits h)) (All-take (All (WasGiven h)) n (commits h) (all_given h).done)))

-- ---- the build that just began

killed-given : (place : ℕ) (what : What) (held : Held) → (killed_by place what held).given ≡ held.given
killed-given place what held = by (drops held.task.table held.task.extent what)
  where
    by : (b : Bool) → (if b then record held { killed = or_here place held.killed } else held).given ≡ held.given
    by true = refl
    by false = refl

-- entries of others leave it
given-other : (limits : Limits) (h : History) (entry : Entry) (who count : ℕ) (task : Task) → IsAllowed limits h entry.who entry.what
    → (entry.who == who) ≡ false → IsGiven who count task h → IsGiven who count task (h ++ entry ∷ [])
given-other limits h entry who count task allowed other g = by entry.what refl allowed
  where
    own : IsOwn h who task
    own = record { held = g.held; is = g.is; mine = g.mine; same = g.same }

    still : held_at (h ++ entry ∷ []) task.id ≡ Some g.held → IsGiven who count task (h ++ entry ∷ [])
    still is = record { held = g.held; is = is; mine = g.mine; same = g.same; given = g.given }

    same_entry : (what : What) → entry.what ≡ what → held_at (h ++ entry ∷ []) task.id ≡ held_at (h ++ record { who = entry.who; what = what } ∷ []) task.id
    same_entry what same = ap (λ (w : What). held_at (h ++ record { who = entry.who; what = w } ∷ []) task.id) same

    by : (what : What) → entry.what ≡ what → IsAllowed limits h entry.who what → IsGiven who count task (h ++ entry ∷ [])
    by (Build id table extent trickle) same may =
        still
        (same_entry (Build id table extent trickle) same
        ∙ (held_at-build h entry.who id table extent trickle task.id
        ∙ ap (λ (o : Option Held). option_or o (if id == task.id then Some (begun_at h entry.who id table extent trickle) else None)) g.is))
    by (Switch id) same may =
        still
        (same_entry (Switch id) same
        ∙ (held_at-switch h entry.who id task.id
        ∙ (ap (λ (b : Bool). if b then None else held_at h task.id) (apart-id h entry.who who id task other may.may own) ∙ g.is)))
    by (Cancel id full) same may =
        still
        (same_entry (Cancel id full) same
        ∙ (held_at-cancel h entry.who id full task.id
        ∙ (ap (λ (b : Bool). if b then None else held_at h task.id) (apart-id h entry.who who id task other may.may own) ∙ g.is)))
    by what same may = record {
      held = killed_by (length h) entry.what g.held;
      is = held_at-plain h entry task.id (ap is_plain same) ∙ ap (option_map (killed_by (length h) entry.what)) g.is;
      mine = killed-who (length h) entry.what g.held ∙ g.mine;
      same = killed-task (length h) entry.what g.held ∙ g.same;
      given = killed-given (length h) entry.what g.held ∙ g.given;
    }

find-past : (id : ℕ) (list : List Held) → AllByRecursion (λ held. held.task.id < id) list → find (is_id id) list ≡ None
find-past id [] all = refl
find-past id (first ∷ rest) all =
    ap (λ (b : Bool). if b then Some first else find (is_id id) rest) (other_number first.task.id id all.0) ∙ find-past id rest all.1

below_next : (n : ℕ) (list : List Held) → AllByRecursion (λ held. held.task.id ≤ n) list → AllByRecursion (λ held. held.task.id < n + 1) list
below_next n [] all = tt
below_next n (first ∷ rest) all = (let less = all.0 in omega (arith, less), below_next n rest all.1)

-- it is held, and its own
pub given-just : (who : ℕ) (task : Task) (now : Known) → (just : IsJust who task now) → IsGiven who (given just.at just.choice.table) task now.log
given-just who task now just = record {
  held = begun;
  is =
      ap₂ (λ (h : History) (t : Task). held_at h t.id) just.log just.is
      ∙ (held_at-build at who id just.choice.table just.choice.extent just.choice.trickle id
      ∙ (ap (λ (o : Option Held). option_or o (if id == id then Some begun else None))
      (find-past id (held at) (below_next (builds at) (held at) (are_numbered now.limits at before).upto))
      ∙ ap (λ (b : Bool). if b then Some begun else None) (same_number id id refl)));
  mine = refl;
  same = sym just.is;
  given = refl;
}
  where
    at : History
    at = just.at

    id : ℕ
    id = builds at + 1

    begun : Held
    begun = begun_at at who id just.choice.table just.choice.extent just.choice.trickle

    before : IsLegal now.limits at
    before = (IsLegal-pop now.limits at (record { who = who; what = build_of at just.choice }) (subst (IsLegal now.limits) just.log just.lawful.legal)).0

pub own-just : (who : ℕ) (task : Task) (now : Known) → IsJust who task now → IsOwn now.log who task
own-just who task now just = let g = given-just who task now just in record { held = g.held; is = g.is; mine = g.mine; same = g.same }

-- how many of its row numbers were given
rows-given : (who count : ℕ) (task : Task) (h : History) → IsGiven who count task h → task_rows h task ≡ min task.per (count - task.extent * task.per)
rows-given who count task h g =
    ap (λ (o : Option Held). min task.per (given_of o - task.extent * task.per)) g.is
    ∙ ap (λ (n : ℕ). min task.per (n - task.extent * task.per)) g.given

-- ---- rows, padded

pub nones_none : nones 0 ≡ []
unfolding nones
nones_none = refl

-- one more row number without a row
pub nones_more : (m : ℕ) → nones (m + 1) ≡ nones m ++ None ∷ []
unfolding nones
nones_more m = map-range_with_len_more (λ (k : ℕ). None) 0 m m (omega arith)

pad-rows : (f : ℕ → Option Row) (a n m : ℕ) → ((k : ℕ) → a + n ≤ k → k < a + n + m → f k ≡ None)
    → map f (range_with_len a n) ++ nones m ≡ map f (range_with_len a (n + m))
pad-rows f a n zero none =
    ap (λ (list : List (Option Row)). map f (range_with_len a n) ++ list) nones_none
    ∙ (append-nil (map f (range_with_len a n)) ∙ ap (λ (k : ℕ). map f (range_with_len a k)) (omega arith))
pad-rows f a n (suc m) none =
    ap (λ (list : List (Option Row)). map f (range_with_len a n) ++ list) (ap nones (let e : suc m ≡ m + 1 = omega arith in e) ∙ nones_more m)
    ∙ (sym (append_assoc (map f (range_with_len a n)) (nones m) (None ∷ []))
    ∙ (ap₂ (λ (list : List (Option Row)) (row : Option Row). list ++ row ∷ []) (pad-rows f a n m (λ k low high. none k low (omega (arith, high))))
    (sym (none (a + (n + m)) (omega arith) (omega arith)))
    ∙ (sym (map-range_with_len_more f a (n + m) (a + (n + m)) refl) ∙ ap (λ (k : ℕ). map f (range_with_len a k)) (omega arith))))

-- a build that just began is held still, once others went on
given-went : (who : ℕ) (task : Task) (old new : Known) → speaks old.side who ≡ true → (just : IsJust who task old) → Went old new
    → IsLegal new.limits new.log → IsGiven who (given just.at just.choice.table) task new.log
given-went who task old new mine just went legal =
    after-legal new.limits old.side who (IsGiven who (given just.at just.choice.table) task)
    (λ h entry whole other. given-other new.limits h entry who (given just.at just.choice.table) task (IsLegal-pop new.limits h entry whole).1 other)
    old.log new.log mine legal went.after
    (given-just who task old just)

own-given : {who count : ℕ} {task : Task} {h : History} → IsGiven who count task h → IsOwn h who task
own-given g = record { held = g.held; is = g.is; mine = g.mine; same = g.same }

-- where no unit is lent to the build, what was read for it, and padded, is what its unit is to hold
content-read : (who : ℕ) (task : Task) (old new : Known) → speaks old.side who ≡ true → IsJust who task old → Went old new → IsLegal new.limits new.log
    → content_from task (task_fetched_by new.log task None) ≡ task_content new.log task
content-read who task old new mine just went legal =
    ap (content_of task)
    (ap₂ (λ (list : List (Option Row)) (m : ℕ). list ++ nones (task.per - m)) mapped (length-map-range_with_len (λ rid. (rid, row_at rid)) first n)
    ∙ (pad-rows row_at first n (task.per - n) none ∙ ap (λ (k : ℕ). map row_at (range_with_len first k)) (let is = n_is in omega (arith, is))))
  where
    at : History
    at = just.at

    count : ℕ
    count = given at just.choice.table

    first : ℕ
    first = task.extent * task.per

    n : ℕ
    n = task_rows new.log task

    row_at : ℕ → Option Row
    row_at = unit_row new.log task.table task.scn

    n_is : n ≡ min task.per (count - first)
    n_is = rows-given who count task new.log (given-went who task old new mine just went legal)

    mapped : map (λ (found : ℕ × Option Row). found.1) (task_fetched_by new.log task None) ≡ map row_at (range_with_len first n)
    mapped = map-map (λ (found : ℕ × Option Row). found.1) (λ rid. (rid, row_at rid)) (range_with_len first n)

    longer : new.log ≡ at ++ (record { who = who; what = build_of at just.choice } ∷ went.after.between)
    longer =
        went.after.log
        ∙ (ap (λ (h : History). h ++ went.after.between) just.log
        ∙ append_assoc at (record { who = who; what = build_of at just.choice } ∷ []) went.after.between)

    scn_is : task.scn ≡ scn at
    scn_is = ap (λ (t : Task). t.scn) just.is

    table_is : count ≡ given at task.table
    table_is = ap (λ (t : Task). given at t.table) (sym just.is)

    none : (k : ℕ) → first + n ≤ k → k < first + n + (task.per - n) → row_at k ≡ None
    none k low high =
        ap (option_map (widened (defaults_at new.log task.table task.scn)))
        (ap (λ (h : History). rows h task.table task.scn k) longer
        ∙ (rows-append at (record { who = who; what = build_of at just.choice } ∷ went.after.between) task.table task.scn k (omega (arith, scn_is))
        ∙ rows-ungiven at task.table task.scn k (omega (arith, n_is, table_is, low, high))))

-- whether a unit is lent to the build or not, what is made of what was read is what its unit is to hold
content-built : (who : ℕ) (task : Task) (old new : Known) → speaks old.side who ≡ true → IsJust who task old → Went old new → IsLegal new.limits new.log
    → content_built task (task_lent new.log task) (task_fetched new.log task) ≡ task_content new.log task
content-built who task old new mine just went legal = by (task_serving new.log task) refl
  where
    own : IsOwn new.log who task
    own = own-given (given-went who task old new mine just went legal)

    by : (lent : Option ℕ) → task_serving new.log task ≡ lent
        → content_built task (option_map (content_at new.log task.table task.extent) lent) (task_fetched_by new.log task lent) ≡ task_content new.log task
    by None is = content-read who task old new mine just went legal
    by (Some n) is =
        built-mended new.log task n (columns-own new.limits new.log who task legal own) is
        ∙ sym (task_content-own new.limits new.log who task legal own)

-- so a unit of it has that
pub content-found : (who : ℕ) (task : Task) (old new : Known) (P : History → Type 0) (lent : Option Content) (fetched : List (ℕ × Option Row))
    (content : Content) → speaks old.side who ≡ true → IsJust who task old → IsLawful new.limits new.log → (found : Found old new P)
    → lent ≡ task_lent found.at task → fetched ≡ task_fetched found.at task → content ≡ content_built task lent fetched
    → content ≡ task_content new.log task
content-found who task old new P lent fetched content mine just lawful found lent_is read is =
    is
    ∙ (ap₂ (content_built task) lent_is read
    ∙ (ap (λ (s : Known). content_built task (task_lent s.log task) (task_fetched s.log task)) (sym found.now)
    ∙ content-built who task old new mine just (went-found old new P found) lawful.legal))

-- the build is the worker's own still, where the reading found it
pub own-found : (who : ℕ) (task : Task) (old new : Known) (P : History → Type 0) → speaks old.side who ≡ true → IsJust who task old
    → IsLegal new.limits new.log → Found old new P → IsOwn new.log who task
own-found who task old new P mine just legal found = own-given (given-went who task old new mine just (went-found old new P found) legal)

-- and a unit that was lent is such that it can be made anew
pub beside-found : (who : ℕ) (task : Task) (old new : Known) (P : History → Type 0) (lent : Option Content) (fetched : List (ℕ × Option Row))
    → speaks old.side who ≡ true → IsJust who task old → IsLawful new.limits new.log → (found : Found old new P)
    → lent ≡ task_lent found.at task → fetched ≡ task_fetched found.at task → IsBeside task lent fetched
beside-found who task old new P lent fetched mine just lawful found lent_is read =
    subst (IsBeside task lent) (sym read)
    (subst (λ (unit : Option Content). IsBeside task unit (task_fetched found.at task)) (sym lent_is)
    (subst (λ (s : Known). IsBeside task (task_lent s.log task) (task_fetched s.log task)) found.now
    (is-beside new.limits new.log who task lawful.legal (own-found who task old new P mine just lawful.legal found))))
