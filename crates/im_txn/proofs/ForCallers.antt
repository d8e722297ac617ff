-- Each call keeps what is going on in agreement with the history, together with the entry that it goes with.
use Rattle.std.proofs.Common.{◌≡◌, ℕ, suc, ◌+◌, ◌<◌, ◌≤◌, Bool, true, false, not, ◌==◌, ◌&&◌, ◌||◌, List, [], ◌∷◌, ◌++◌, length, map, filter, count_by, All, get_or, Option, Some, None, is_some, ⊎_elim, refl, sym, ap, ◌∙◌, subst, arith, eq-eqb, ne_eqb, if◌then◌else◌, true≢false}
use Rattle.std.specs.List.{list_any, find}
use Rattle.std.specs.Option.{option_map, option_or}
use Rattle.std.proofs.lemmas.Bool.{cases_eq, false≢true}
use Rattle.std.proofs.lemmas.List.{length_push}
use Rattle.std.proofs.lemmas.List.Elements.{All-nil, All-cons}
use Rattle.std.proofs.lemmas.List.Sums.{sum_by_push, count_by-le-length}
use Rattle.im_values.specs.declared.limits.TheConstants.{NUMBERS}
use Rattle.im_history.specs.declared.change.Change.{Change}
use Rattle.im_history.specs.declared.entry.Mode.{Mode}
use Rattle.im_history.specs.declared.entry.What.{What}
use Rattle.im_history.specs.declared.entry.What.TheVariants.{Begin, Open, Shut, Write, Commit, Rollback}
use Rattle.im_history.specs.Cursors.{Opened, opened, is_cursor, cursor_at, is_cursor_open, is_own, cursors_open}
use Rattle.im_history.specs.History.{History, replay}
use Rattle.im_history.specs.Kinds.{scope_of}
use Rattle.im_history.specs.declared.refused.Why.{Why}
use Rattle.im_history.specs.declared.refused.Why.TheVariants.{RowLocked}
use Rattle.im_history.specs.Refusals.{row_locked}
use Rattle.im_history.specs.Rows.{own_changes}
use Rattle.im_history.specs.Tables.{given}
use Rattle.im_history.specs.Touched.{touches, holder}
use Rattle.im_history.specs.Transactions.{pending, begun, begun_after, mode, is_open, or_here}
use Rattle.im_history.specs.Views.{view_at}
use Rattle.im_txn.specs.declared.cursor.Cursor.{Cursor}
use Rattle.im_txn.specs.Activity.{Activity, is_number, transactions, cursor_in, cursors_in, own_in, scns_in, with_mode, with_cursor, without_cursor, with_changes, ended}
use Rattle.im_txn.specs.Agrees.{Agrees, cursor_of, kept, owed, owes, is_apart}
use Rattle.im_txn.specs.Effects.{IsIdle, IsBegun, IsOpened, IsShut, IsWritten, IsEnded, IsGrown}
use Rattle.im_txn.specs.LockCells.{other_in}
use Rattle.im_txn.specs.Standing.{Standing, activity_at, lock_at, holder_in, IsFree, HasRoom}
use Rattle.im_txn.proofs.AgreesLemmas.{Apart, Agrees-apart-by, Agrees-follows, Locked-same}
use Rattle.im_txn.proofs.CellLemmas.{HasCells-longer}
use Rattle.im_txn.proofs.GivenLemmas.{pending-below}
use Rattle.im_txn.proofs.LockLemmas.{Locked-write, Locked-end, holder-is}
use Rattle.im_history.proofs.KindLaws.{begun-kept, cursors-kept, mode-kept, pending-kept}
use Rattle.im_tables.proofs.Lists.{sum_by-part, find-none, find-map, is_some-find, list_any-map, count_by-map, filter-map, count_by-none, count_by-some, count_by-filter, length-filter-not}

-- what a transaction that may begin here adds

opens-one : (began : Option ℕ) (place old new n : ℕ) → is_some began ≡ false →
    new + ((if is_some began then 1 else 0) + n) ≡ old + ((if is_some (or_here place began) then 1 else 0) + n) → new ≡ old + 1
opens-one None place old new n shut owed = omega (arith, owed)
opens-one (Some b) place old new n shut owed = absurd (true≢false shut)

opens-none : (began : Option ℕ) (place old new n : ℕ) → is_some began ≡ true →
    new + ((if is_some began then 1 else 0) + n) ≡ old + ((if is_some (or_here place began) then 1 else 0) + n) → new ≡ old
opens-none None place old new n is owed = absurd (false≢true is)
opens-none (Some b) place old new n is owed = omega (arith, owed)

opens-most : (began : Option ℕ) (place old new n : ℕ) → new + ((if is_some began then 1 else 0) + n) ≡ old +
    ((if is_some (or_here place began) then 1 else 0) + n) → new ≤ old + 1
opens-most None place old new n owed = omega (arith, owed)
opens-most (Some b) place old new n owed = omega (arith, owed)

none-from : (o : Option ℕ) → is_some o ≡ false → o ≡ None
none-from None free = refl
none-from (Some n) free = absurd (true≢false free)

neither : (a b : Bool) → not (a || b) ≡ true → (a ≡ false) × (b ≡ false)
neither false false is = (refl, refl)
neither false true is = absurd (false≢true is)
neither true b is = absurd (false≢true is)

and-false : (b : Bool) → b && false ≡ false
and-false true = refl
and-false false = refl

-- at first nothing is going on
pub Agrees-nil : (standing : Standing) → IsIdle standing → Agrees [] standing
unfolding pending begun mode opened replay owed
Agrees-nil standing none = record {
  changes = λ who. ap (λ (a : Activity). a.pending) (none.activities who);
  began = λ who. ap (λ (a : Activity). a.begun) (none.activities who);
  modes = λ who. ap (λ (a : Activity). a.mode) (none.activities who);
  cursors = λ who. ap (λ (a : Activity). a.cursors) (none.activities who);
  once = λ who cursor. rw (ap (λ (a : Activity). count_by (is_number cursor) a.cursors) (none.activities who)) (omega arith);
  locks = λ table rid who below. rw (none.locks table rid) (ne_eqb 0 (suc who) (λ (e : 0 ≡ suc who). omega arith));
  holders = λ table rid. omega (arith, none.locks table rid);
  owing = none.owed;
}

-- a Begin
pub Agrees-begin : (h : History) (who : ℕ) (mode : Mode) (old new : Standing) → Agrees h old → who < NUMBERS → IsBegun old new who (length h) mode →
    Agrees (h ++ record { who = who; what = Begin mode } ∷ []) new
Agrees-begin h who mode old new agrees number begins =
    Agrees-follows h who (Begin mode) old new (with_mode (length h) mode (activity_at old who)) agrees number begins.activity (record {
      changes = agrees.changes who;
      began = ap (λ (b : Option ℕ). begun_after (length h) b (Begin mode)) (agrees.began who);
      modes = refl;
      cursors = agrees.cursors who;
      once = agrees.once who;
    }) (Locked-same h who (Begin mode) old new agrees begins.locks (λ so_far. refl))

map-push : (xs : List Opened) (x : Opened) → map kept (xs ++ x ∷ []) ≡ map kept xs ++ kept x ∷ []
map-push [] x = refl
map-push (y ∷ xs) x = ap (λ (l : List Cursor). kept y ∷ l) (map-push xs x)

-- a cursor number that is not open counts for nothing
none-open : (h : History) (who cursor : ℕ) (standing : Standing) → Agrees h standing → is_cursor_open h who cursor ≡ false →
    count_by (is_number cursor) (activity_at standing who).cursors ≡ 0
none-open h who cursor standing agrees shut =
    rw (agrees.cursors who, count_by-map kept (is_number cursor) (is_cursor cursor) (opened h who) (λ x. refl))
    (count_by-none (is_cursor cursor) (opened h who) shut)

once-push : (cursors : List Cursor) (cursor : Cursor) (number : ℕ) → count_by (is_number cursor.cursor) cursors ≡ 0 →
    count_by (is_number number) cursors ≤ 1 → count_by (is_number number) (cursors ++ cursor ∷ []) ≤ 1
once-push cursors cursor number none once =
    let sum = sum_by_push (λ c. if is_number number c then 1 else 0) cursors cursor in
    ⊎_elim (λ (is : cursor.cursor ≡ number).
    let term : ◌≡◌ {A = ℕ} (if is_number number cursor then 1 else 0) 1 = ap (λ (b : Bool). if b then 1 else 0) (eq-eqb cursor.cursor number is) in
    let zero_now : count_by (is_number number) cursors ≡ 0 = subst (λ (k : ℕ). count_by (is_number k) cursors ≡ 0) is none in
    omega (arith, sum, term, zero_now))
    (λ (apart : cursor.cursor ≡ number → ⊥).
    let term : ◌≡◌ {A = ℕ} (if is_number number cursor then 1 else 0) 0 = ap (λ (b : Bool). if b then 1 else 0) (ne_eqb cursor.cursor number apart) in
    omega (arith, sum, term, once))
    (cases_eq cursor.cursor number)

-- an Open of a cursor that is not open
pub Agrees-open : (h : History) (who cursor table : ℕ) (asked : Option ℕ) (old new : Standing) → Agrees h old → who < NUMBERS →
    is_cursor_open h who cursor ≡ false → IsOpened old new who (cursor_of h who cursor table asked) →
    Agrees (h ++ record { who = who; what = Open cursor table asked } ∷ []) new
Agrees-open h who cursor table asked old new agrees number shut opens =
    Agrees-follows h who (Open cursor table asked) old new (with_cursor (cursor_of h who cursor table asked) (activity_at old who)) agrees number opens.activity (record {
      changes = agrees.changes who;
      began = agrees.began who;
      modes = agrees.modes who;
      cursors =
          ap (λ (l : List Cursor). l ++ cursor_of h who cursor table asked ∷ []) (agrees.cursors who)
          ∙ sym (map-push (opened h who) (record { cursor = cursor; view = view_at h who table asked }));
      once =
          λ other. once-push (activity_at old who).cursors (cursor_of h who cursor table asked) other (none-open h who cursor old agrees shut)
          (agrees.once who other);
    }) (Locked-same h who (Open cursor table asked) old new agrees opens.locks (λ so_far. refl))

-- a Shut
pub Agrees-shut : (h : History) (who cursor : ℕ) (old new : Standing) → Agrees h old → who < NUMBERS → IsShut old new who cursor →
    Agrees (h ++ record { who = who; what = Shut cursor } ∷ []) new
Agrees-shut h who cursor old new agrees number shuts =
    Agrees-follows h who (Shut cursor) old new (without_cursor cursor (activity_at old who)) agrees number shuts.activity (record {
      changes = agrees.changes who;
      began = agrees.began who;
      modes = agrees.modes who;
      cursors =
          ap (λ (l : List Cursor). filter (λ c. not (is_number cursor c)) l) (agrees.cursors who)
          ∙ filter-map kept (λ c. not (is_number cursor c)) (λ o. not (is_cursor cursor o)) (opened h who) (λ x. refl);
      once = λ other.
          let fewer = count_by-filter (is_number other) (λ c. not (is_number cursor c)) (activity_at old who).cursors in
          omega (arith, fewer, agrees.once who other);
    }) (Locked-same h who (Shut cursor) old new agrees shuts.locks (λ so_far. refl))

-- a Write of changes whose rows no other holds
pub Agrees-write : (h : History) (who : ℕ) (changes : List Change) (old new : Standing) → Agrees h old → who < NUMBERS → IsFree old who changes →
    IsWritten old new who (length h) changes → Agrees (h ++ record { who = who; what = Write changes } ∷ []) new
Agrees-write h who changes old new agrees number free written =
    Agrees-follows h who (Write changes) old new (with_changes (length h) changes (activity_at old who)) agrees number written.activity (record {
      changes = ap (λ (l : List Change). l ++ changes) (agrees.changes who);
      began = ap (λ (b : Option ℕ). begun_after (length h) b (Write changes)) (agrees.began who);
      modes = agrees.modes who;
      cursors = agrees.cursors who;
      once = agrees.once who;
    }) (Locked-write h who (Write changes) (length h) changes old new (λ so_far. refl) agrees number free written)

-- a Commit
pub Agrees-commit : (h : History) (who : ℕ) (old new : Standing) → Agrees h old → who < NUMBERS → IsEnded old new who →
    Agrees (h ++ record { who = who; what = Commit } ∷ []) new
Agrees-commit h who old new agrees number ends =
    Agrees-follows h who Commit old new (ended (activity_at old who)) agrees number ends.activity (record {
      changes = refl;
      began = refl;
      modes = refl;
      cursors = agrees.cursors who;
      once = agrees.once who;
    }) (Locked-end h who Commit old new (λ so_far. refl) agrees number ends)

-- a Rollback
pub Agrees-rollback : (h : History) (who : ℕ) (old new : Standing) → Agrees h old → who < NUMBERS → IsEnded old new who →
    Agrees (h ++ record { who = who; what = Rollback } ∷ []) new
Agrees-rollback h who old new agrees number ends =
    Agrees-follows h who Rollback old new (ended (activity_at old who)) agrees number ends.activity (record {
      changes = refl;
      began = refl;
      modes = refl;
      cursors = agrees.cursors who;
      once = agrees.once who;
    }) (Locked-end h who Rollback old new (λ so_far. refl) agrees number ends)

apart-kinds : (what : What) → is_apart what ≡ true → Apart what
apart-kinds what is =
    let none = neither (scope_of what).transaction (scope_of what).cursors is
    in record {
      changes = λ so_far. pending-kept so_far what none.0;
      began = λ place so_far. begun-kept place so_far what none.0;
      modes = λ so_far. mode-kept so_far what none.0;
      cursors = λ before who so_far. cursors-kept before who so_far what none.1;
    }

-- an entry of any other kind, with no call
pub Agrees-apart : (h : History) (who : ℕ) (what : What) (standing : Standing) → is_apart what ≡ true → Agrees h standing →
    Agrees (h ++ record { who = who; what = what } ∷ []) standing
Agrees-apart h who what standing is agrees = Agrees-apart-by h who what standing (apart-kinds what is) agrees

-- making room, with no entry
pub Agrees-grown : (h : History) (old new : Standing) → Agrees h old → IsGrown old new → Agrees h new
Agrees-grown h old new agrees grown = record {
  changes = λ who. (grown.activities who).pending ∙ agrees.changes who;
  began = λ who. (grown.activities who).begun ∙ agrees.began who;
  modes = λ who. (grown.activities who).mode ∙ agrees.modes who;
  cursors = λ who. (grown.activities who).cursors ∙ agrees.cursors who;
  once = λ who cursor. rw ((grown.activities who).cursors) (agrees.once who cursor);
  locks = λ table rid who below. ap (λ (n : ℕ). n == suc who) (grown.locks.cells table rid) ∙ agrees.locks table rid who below;
  holders = λ table rid. rw (grown.locks.cells table rid) (agrees.holders table rid);
  owing = grown.owed ∙ agrees.owing;
}

-- room that was made stays while more is made
pub HasRoom-grown : (old new : Standing) (who : ℕ) (changes : List Change) → HasRoom old who changes → IsGrown old new → HasRoom new who changes
HasRoom-grown old new who changes room grown = record {
  write = omega (arith, room.write, (grown.activities who).room);
  fits = let same = ap length (grown.activities who).pending in omega (arith, room.fits, same);
  cells = HasCells-longer old.locks new.locks changes grown.locks room.cells;
}

-- and so does room for a cursor
pub cursor_room-grown : (old new : Standing) (who : ℕ) → 0 < (activity_at old who).cursor_room → IsGrown old new → 0 < (activity_at new who).cursor_room
cursor_room-grown old new who room grown = omega (arith, room, (grown.activities who).cursor_room)

-- rows that are free stay free while room is made
pub IsFree-grown : (old new : Standing) (who : ℕ) (changes : List Change) → IsFree old who changes → IsGrown old new → IsFree new who changes
IsFree-grown old new who changes free grown = record {
  each = λ k d inside. ap (other_in who) (grown.locks.cells (get_or changes k d).table (get_or changes k d).rid) ∙ free.each k d inside;
}

-- what is read, by the history

pub is_open-by : (h : History) (standing : Standing) (who : ℕ) → Agrees h standing → is_open h who ≡ is_some (activity_at standing who).begun
is_open-by h standing who agrees = ap (λ (b : Option ℕ). is_some b) (sym (agrees.began who))

pub own-by : (h : History) (standing : Standing) (who table : ℕ) → Agrees h standing → own_in (activity_at standing who) table ≡ own_changes h who table
own-by h standing who table agrees = ap (λ (l : List Change). filter (λ change. change.table == table) l) (agrees.changes who)

-- the open cursor of a number is what is kept of that opened
pub cursor-by : (h : History) (standing : Standing) (who cursor : ℕ) → Agrees h standing →
    cursor_in (activity_at standing who) cursor ≡ option_map kept (cursor_at h who cursor)
cursor-by h standing who cursor agrees =
    ap (λ (l : List Cursor). find (is_number cursor) l) (agrees.cursors who) ∙ find-map kept (is_number cursor) (is_cursor cursor) (opened h who) (λ x. refl)

pub is_cursor_open-by : (h : History) (standing : Standing) (who cursor : ℕ) → Agrees h standing →
    is_cursor_open h who cursor ≡ is_some (cursor_in (activity_at standing who) cursor)
is_cursor_open-by h standing who cursor agrees =
    sym (is_some-find (is_number cursor) (activity_at standing who).cursors
    ∙ (ap (λ (l : List Cursor). list_any (is_number cursor) l) (agrees.cursors who)
    ∙ list_any-map kept (is_number cursor) (is_cursor cursor) (opened h who) (λ x. refl)))

pub cursors_open-by : (h : History) (standing : Standing) (who : ℕ) → Agrees h standing → cursors_in (activity_at standing who) ≡ cursors_open h who
cursors_open-by h standing who agrees =
    ap (λ (l : List Cursor). count_by (λ c. not (is_own c.cursor)) l) (agrees.cursors who)
    ∙ count_by-map kept (λ c. not (is_own c.cursor)) (λ o. not (is_own o.cursor)) (opened h who) (λ x. refl)

scns-map : (os : List Opened) → map (λ (c : Cursor). c.scn) (map kept os) ≡ map (λ (o : Opened). o.view.scn) os
scns-map [] = refl
scns-map (o ∷ os) = ap (λ (l : List ℕ). o.view.scn ∷ l) (scns-map os)

-- what the open cursors read at is what their views read at
pub scns-by : (h : History) (standing : Standing) (who : ℕ) → Agrees h standing
    → scns_in (activity_at standing who) ≡ map (λ opened. opened.view.scn) (opened h who)
scns-by h standing who agrees = ap (λ (l : List Cursor). map (λ (c : Cursor). c.scn) l) (agrees.cursors who) ∙ scns-map (opened h who)

-- another number that holds a row is the first that has a change to it pending
pub holder-by : (h : History) (standing : Standing) (who table rid : ℕ) → Agrees h standing → holder_in standing who table rid ≡ holder h who table rid
holder-by h standing who table rid agrees =
    holder-is who (lock_at standing table rid) (λ other. touches (pending h other) table rid) (agrees.holders table rid) (agrees.locks table rid)

-- rows are free where the history has no holder of them
pub IsFree-by : (h : History) (standing : Standing) (who : ℕ) (changes : List Change) → Agrees h standing →
    All (λ change. holder h who change.table change.rid ≡ None) changes → IsFree standing who changes
IsFree-by h standing who changes agrees none = record {
  each = λ k d inside. holder-by h standing who (get_or changes k d).table (get_or changes k d).rid agrees ∙ none k d inside;
}

no-holder : (rid : ℕ) (o : Option ℕ) → option_map (λ other. RowLocked rid other) o ≡ None → o ≡ None
no-holder rid None none = refl
no-holder rid (Some other) none = absurd cc

first-none : (first rest : Option Why) → option_or first rest ≡ None → first ≡ None
first-none None rest none = refl
first-none (Some why) rest none = absurd cc

rest-none : (first rest : Option Why) → option_or first rest ≡ None → rest ≡ None
rest-none None rest none = none
rest-none (Some why) rest none = absurd cc

none-locked : (h : History) (who : ℕ) (changes : List Change) → row_locked h who changes ≡ None →
    All (λ change. holder h who change.table change.rid ≡ None) changes
none-locked h who [] none = All-nil (λ change. holder h who change.table change.rid ≡ None)
none-locked h who (change ∷ changes) none =
    let first = option_map (λ other. RowLocked change.rid other) (holder h who change.table change.rid) in
    All-cons (λ c. holder h who c.table c.rid ≡ None) change changes
    (no-holder change.rid (holder h who change.table change.rid) (first-none first (row_locked h who changes) none))
    (none-locked h who changes (rest-none first (row_locked h who changes) none))

-- rows are free where none of them refuses a write as locked
pub IsFree-unlocked : (h : History) (standing : Standing) (who : ℕ) (changes : List Change) → Agrees h standing → row_locked h who changes ≡ None →
    IsFree standing who changes
IsFree-unlocked h standing who changes agrees none = IsFree-by h standing who changes agrees (none-locked h who changes none)

-- a row number that was not given yet is touched by nothing that is pending
pub untouched-past-given : (h : History) (who table rid : ℕ) → given h table ≤ rid → touches (pending h who) table rid ≡ false
untouched-past-given h who table rid past = pending-below h who table rid past

-- so an insert's rows are free
pub IsFree-past-given : (h : History) (standing : Standing) (who : ℕ) (changes : List Change) → Agrees h standing →
    All (λ change. given h change.table ≤ change.rid) changes → IsFree standing who changes
IsFree-past-given h standing who changes agrees past = IsFree-by h standing who changes agrees (λ k d inside.
    find-none (λ other. not (other == who) && touches (pending h other) (get_or changes k d).table (get_or changes k d).rid) 0 NUMBERS (λ other from to.
    rw (untouched-past-given h other (get_or changes k d).table (get_or changes k d).rid (past k d inside)) (and-false (not (other == who)))))

-- what is owed

-- what one number owes is part of what all owe
pub owed-part : (h : History) (standing : Standing) (who : ℕ) → Agrees h standing → who < NUMBERS → owes h who ≤ standing.owed
unfolding owed
owed-part h standing who agrees number = rw agrees.owing (sum_by-part (owes h) 0 NUMBERS who (omega arith) (omega arith))

-- an open transaction is owed a Rollback
pub owed-open : (h : History) (standing : Standing) (who : ℕ) → Agrees h standing → who < NUMBERS → is_open h who ≡ true → 1 ≤ standing.owed
owed-open h standing who agrees number is =
    let one : ◌≡◌ {A = ℕ} (if is_open h who then 1 else 0) 1 = ap (λ (b : Bool). if b then 1 else 0) is in
    omega (arith, owed-part h standing who agrees number, one)

-- an open cursor is owed a Shut
pub owed-cursor : (h : History) (standing : Standing) (who cursor : ℕ) → Agrees h standing → who < NUMBERS → is_cursor_open h who cursor ≡ true →
    1 ≤ standing.owed
owed-cursor h standing who cursor agrees number is =
    omega (
      arith,
      owed-part h standing who agrees number,
      count_by-some (is_cursor cursor) (opened h who) is,
      count_by-le-length (is_cursor cursor)
          (opened h who),
    )

-- where none is open, a Begin is one entry more
pub owed-begun : (h : History) (who place : ℕ) (mode : Mode) (old new : Standing) → Agrees h old → is_open h who ≡ false → IsBegun old new who place mode →
    new.owed ≡ old.owed + 1
owed-begun h who place mode old new agrees shut begins =
    opens-one (activity_at old who).begun place old.owed new.owed (length (activity_at old who).cursors)
    (ap (λ (b : Option ℕ). is_some b) (agrees.began who) ∙ shut) begins.activity.owed

-- where none is open, a Write is one entry more
pub owed-first-write : (h : History) (who place : ℕ) (changes : List Change) (old new : Standing) → Agrees h old → is_open h who ≡ false →
    IsWritten old new who place changes → new.owed ≡ old.owed + 1
owed-first-write h who place changes old new agrees shut written =
    opens-one (activity_at old who).begun place old.owed new.owed (length (activity_at old who).cursors)
    (ap (λ (b : Option ℕ). is_some b) (agrees.began who) ∙ shut) written.activity.owed

-- where one is open, a Write is none more
pub owed-write : (h : History) (who place : ℕ) (changes : List Change) (old new : Standing) → Agrees h old → is_open h who ≡ true →
    IsWritten old new who place changes → new.owed ≡ old.owed
owed-write h who place changes old new agrees is written =
    opens-none (activity_at old who).begun place old.owed new.owed (length (activity_at old who).cursors)
    (ap (λ (b : Option ℕ). is_some b) (agrees.began who) ∙ is) written.activity.owed

-- a write or a Begin is at most one entry more
pub owed-write-most : (who place : ℕ) (changes : List Change) (old new : Standing) → IsWritten old new who place changes → new.owed ≤ old.owed + 1
owed-write-most who place changes old new written =
    opens-most (activity_at old who).begun place old.owed new.owed (length (activity_at old who).cursors) written.activity.owed

-- an Open is one entry more
pub owed-opened : (who : ℕ) (cursor : Cursor) (old new : Standing) → IsOpened old new who cursor → new.owed ≡ old.owed + 1
owed-opened who cursor old new opens = omega (arith, opens.activity.owed, length_push (activity_at old who).cursors cursor)

-- a Shut of an open cursor is one entry fewer
pub owed-shut : (h : History) (who cursor : ℕ) (old new : Standing) → Agrees h old → is_cursor_open h who cursor ≡ true → IsShut old new who cursor →
    new.owed + 1 ≡ old.owed
owed-shut h who cursor old new agrees is shuts =
    let cursors = (activity_at old who).cursors in
    let there : list_any (is_number cursor) cursors ≡ true = ap (λ (l : List Cursor). list_any (is_number cursor) l) (agrees.cursors who)
    ∙ (list_any-map kept (is_number cursor) (is_cursor cursor) (opened h who) (λ x. refl) ∙ is) in
    omega (arith, shuts.activity.owed, length-filter-not (is_number cursor) cursors, agrees.once who cursor, count_by-some (is_number cursor) cursors there)

-- the end of an open transaction is one entry fewer
pub owed-ended : (h : History) (who : ℕ) (old new : Standing) → Agrees h old → is_open h who ≡ true → IsEnded old new who → new.owed + 1 ≡ old.owed
owed-ended h who old new agrees is ends =
    let one : transactions (activity_at old who) ≡ 1 = ap (λ (b : Bool). if b then 1 else 0) (ap (λ (b : Option ℕ). is_some b) (agrees.began who) ∙ is) in
    omega (arith, ends.activity.owed, one)

-- the end of none is none fewer
pub owed-ended-none : (h : History) (who : ℕ) (old new : Standing) → Agrees h old → is_open h who ≡ false → IsEnded old new who → new.owed ≡ old.owed
owed-ended-none h who old new agrees shut ends =
    let none : transactions (activity_at old who) ≡ 0 = ap (λ (b : Bool). if b then 1 else 0) (ap (λ (b : Option ℕ). is_some b) (agrees.began who) ∙ shut) in
    omega (arith, ends.activity.owed, none)

-- one row that no other holds
pub IsFree-one : (standing : Standing) (who : ℕ) (change : Change) → is_some (holder_in standing who change.table change.rid) ≡ false →
    IsFree standing who (change ∷ [])
IsFree-one standing who change free =
    record {
      each =
          All-cons (λ c. holder_in standing who c.table c.rid ≡ None) change [] (none-from (holder_in standing who change.table change.rid) free)
          (All-nil (λ c. holder_in standing who c.table c.rid ≡ None));
    }
