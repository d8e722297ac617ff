-- One activity changes, and what is owed moves with it.
use Rattle.std.proofs.Common.{◌≡◌, ℕ, ◌+◌, ◌-◌, ◌*◌, ◌^◌, ◌<◌, ◌≤◌, Bool, true, false, List, [], length, get_or, set, Option, is_some, ⊎_elim, inl, inr, refl, sym, ap, ◌∙◌, subst, arith, replicate, if◌then◌else◌}
use Rattle.std.proofs.lemmas.List.{get_or-set_same, get_or-set_other, length-set, get_or_past, get_or_read, get_or-replicate, length-replicate, length_push}
use Rattle.std.proofs.lemmas.List.Elements.{All-set, All-get_or, All-weaker, All-replicate}
use Rattle.std.proofs.lemmas.List.Sums.{sum_by-set, sum_by-le, get_or-le-sum_by}
use Rattle.std.proofs.lemmas.List.Folds.{sum_by-replicate}
use Rattle.std.proofs.lemmas.Bool.{cases_lt, cases_eq}
use Rattle.im_values.specs.declared.limits.TheConstants.{NUMBERS}
use Rattle.im_history.specs.declared.change.Change.{Change}
use Rattle.im_history.specs.declared.entry.Mode.{Mode}
use Rattle.im_history.specs.Touched.{touches}
use Rattle.im_tables.proofs.ForCallers.{cell_at-nil}
use Rattle.im_txn.specs.declared.cursor.Cursor.{Cursor}
use Rattle.im_txn.specs.Activity.{Activity, idle, owed_by, transactions, with_mode, with_cursor, without_cursor, with_changes, ended}
use Rattle.im_txn.specs.Effects.{Becomes, IsIdle, IsWritten, IsEnded, IsRoomier, IsGrown}
use Rattle.im_txn.specs.LockCells.{Locks, lock_of, set_cells, HasCells, IsLonger}
use Rattle.im_txn.specs.Standing.{Standing, activity_at, IsCounted, IsFew, HasRoom}
use Rattle.im_txn.proofs.CellLemmas.{lock_of-set_cells}

-- the standing with one activity set, the cells and what is owed
abbrev pub moved : Standing → ℕ → Activity → Locks → ℕ → Standing
moved old who after locks owed = record { activities = set old.activities who after; locks = locks; owed = owed }

-- a call changes one activity, and what is owed moves with it
pub record Turns (old : Standing) (who : ℕ) (before after : Activity) (now : ℕ) : Type 0 where
  pub counted : IsCounted old
  pub number : who < NUMBERS
  pub was : before ≡ get_or old.activities who before
  pub few : IsFew before → IsFew after
  pub owed : now + owed_by before ≡ old.owed + owed_by after

inside : (old : Standing) (who : ℕ) (before after : Activity) (now : ℕ) → Turns old who before after now → who < length old.activities
inside old who before after now turns = omega (arith, turns.counted.numbers, turns.number)

pub before-is : (old : Standing) (who : ℕ) (before after : Activity) (now : ℕ) → Turns old who before after now → before ≡ activity_at old who
before-is old who before after now turns = get_or_read old.activities who before (inside old who before after now turns) turns.was idle

-- the activity becomes what the call makes of it
pub Turns-becomes : (old : Standing) (who : ℕ) (before after : Activity) (locks : Locks) (now : ℕ) (makes : Activity → Activity) →
    Turns old who before after now → after ≡ makes before → Becomes old (moved old who after locks now) who (makes (activity_at old who))
Turns-becomes old who before after locks now makes turns made =
    let is = before-is old who before after now turns in
    let all : after ≡ makes (activity_at old who) = made ∙ ap makes is in
    record {
      mine = get_or-set_same old.activities who after idle (inside old who before after now turns) ∙ all;
      others = λ other apart. get_or-set_other old.activities who other after idle apart;
      owed =
          subst (λ (a : Activity). now + owed_by (activity_at old who) ≡ old.owed + owed_by a) all
          (subst (λ (b : Activity). now + owed_by b ≡ old.owed + owed_by after) is turns.owed);
    }

pub activity-few : (old : Standing) (who : ℕ) → IsCounted old → who < NUMBERS → IsFew (activity_at old who)
activity-few old who counted number = All-get_or IsFew old.activities who idle (omega (arith, counted.numbers)) counted.few

-- it stays counted
pub Turns-counted : (old : Standing) (who : ℕ) (before after : Activity) (locks : Locks) (now : ℕ) → Turns old who before after now →
    IsCounted (moved old who after locks now)
Turns-counted old who before after locks now turns =
    let is = before-is old who before after now turns in
    let sums = sum_by-set owed_by old.activities who after idle (inside old who before after now turns) in
    let part : owed_by before ≡ owed_by (activity_at old who) = ap owed_by is in
    let few : IsFew before = subst IsFew (sym is) (activity-few old who turns.counted turns.number) in
    record {
      numbers = length-set old.activities who after ∙ turns.counted.numbers;
      few = All-set IsFew old.activities who after (turns.few few) turns.counted.few;
      sum = omega (arith, sums, turns.owed, turns.counted.sum, part);
    }

one_at_most : (b : Bool) → (if b then 1 else 0) ≤ 1
one_at_most true = omega arith
one_at_most false = omega arith

transactions-one : (activity : Activity) → transactions activity ≤ 1
transactions-one activity = one_at_most (is_some activity.begun)

few-owed : (activity : Activity) → IsFew activity → owed_by activity ≤ 4294967297
few-owed activity few = omega (arith, few, transactions-one activity)

-- what is owed fits
pub owed-few : (standing : Standing) → IsCounted standing → standing.owed < 2 ^ 62
owed-few standing counted =
    let each = All-weaker IsFew (λ (activity : Activity). owed_by activity ≤ 4294967297) few-owed standing.activities counted.few in
    let most = sum_by-le owed_by 4294967297 standing.activities each in
    let count : length standing.activities * 4294967297 ≡ NUMBERS * 4294967297 = ap (λ n. n * 4294967297) counted.numbers in
    omega (arith, most, count, counted.sum)

pub Turns-fits : (old : Standing) (who : ℕ) (before after : Activity) (now : ℕ) → Turns old who before after now → now < 2 ^ 62
Turns-fits old who before after now turns = owed-few (moved old who after old.locks now) (Turns-counted old who before after old.locks now turns)

-- what one session owes is part of it
pub owed-part : (old : Standing) (who : ℕ) (before : Activity) → IsCounted old → who < NUMBERS → before ≡ get_or old.activities who before →
    owed_by before ≤ old.owed
owed-part old who before counted number was =
    let inside : who < length old.activities = omega (arith, counted.numbers) in
    let part = get_or-le-sum_by owed_by old.activities who before inside in
    let same : owed_by before ≡ owed_by (get_or old.activities who before) = ap owed_by was in
    omega (arith, part, same, counted.sum)

-- the open cursors are the same
pub record SameCursors (before after : Activity) : Type 0 where
  pub cursors : after.cursors ≡ before.cursors
  pub room : after.cursor_room ≡ before.cursor_room

-- transactions begin or end
pub transaction-turns : (old : Standing) (who : ℕ) (before after : Activity) (now : ℕ) → IsCounted old → who < NUMBERS →
    before ≡ get_or old.activities who before → SameCursors before after → now + transactions before ≡ old.owed + transactions after →
    Turns old who before after now
transaction-turns old who before after now counted number was same owed =
    let long : length after.cursors ≡ length before.cursors = ap length same.cursors in
    record {
      counted = counted;
      number = number;
      was = was;
      few = λ few. omega (arith, few, long, same.room);
      owed = omega (arith, owed, long);
    }

-- cursors are opened or shut
pub cursor-turns : (old : Standing) (who : ℕ) (before after : Activity) (now : ℕ) → IsCounted old → who < NUMBERS →
    before ≡ get_or old.activities who before → after.begun ≡ before.begun → (IsFew before → IsFew after) →
    now + length before.cursors ≡ old.owed + length after.cursors → Turns old who before after now
cursor-turns old who before after now counted number was same few owed =
    let open_now : transactions after ≡ transactions before = ap (λ (b : Option ℕ). if is_some b then 1 else 0) same in
    record { counted = counted; number = number; was = was; few = few; owed = omega (arith, owed, open_now) }

pub begin-turns : (old : Standing) (who place : ℕ) (mode : Mode) (before after : Activity) (more : ℕ) → IsCounted old → who < NUMBERS →
    before ≡ get_or old.activities who before → after ≡ with_mode place mode before → transactions before + more ≡ transactions after →
    Turns old who before after (old.owed + more)
begin-turns old who place mode before after more counted number was made count =
    transaction-turns old who before after (old.owed + more) counted number was (record {
      cursors =
          ap (λ (a : Activity). a.cursors) made;
      room = ap (λ (a : Activity). a.cursor_room) made;
    }) (omega (arith, count))

pub write-turns : (old : Standing) (who place : ℕ) (changes : List Change) (before after : Activity) (more : ℕ) → IsCounted old → who < NUMBERS →
    before ≡ get_or old.activities who before → after ≡ with_changes place changes before → transactions before + more ≡ transactions after →
    Turns old who before after (old.owed + more)
write-turns old who place changes before after more counted number was made count =
    transaction-turns old who before after (old.owed + more) counted number was (record {
      cursors =
          ap (λ (a : Activity). a.cursors) made;
      room = ap (λ (a : Activity). a.cursor_room) made;
    }) (omega (arith, count))

pub end-turns : (old : Standing) (who : ℕ) (before after : Activity) (fewer : ℕ) → IsCounted old → who < NUMBERS →
    before ≡ get_or old.activities who before → after ≡ ended before → fewer ≡ transactions before → Turns old who before after (old.owed - fewer)
end-turns old who before after fewer counted number was made count =
    let part = owed-part old who before counted number was in
    let closed : transactions after ≡ 0 = ap transactions made in
    transaction-turns old who before after (old.owed - fewer) counted number was (record {
      cursors =
          ap (λ (a : Activity). a.cursors) made;
      room = ap (λ (a : Activity). a.cursor_room) made;
    }) (omega (arith, count, part, closed))

pub open-turns : (old : Standing) (who : ℕ) (cursor : Cursor) (before after : Activity) → IsCounted old → who < NUMBERS →
    before ≡ get_or old.activities who before → after ≡ with_cursor cursor before → 0 < before.cursor_room → Turns old who before after (old.owed + 1)
open-turns old who cursor before after counted number was made room =
    let long : length after.cursors ≡ length before.cursors + 1 = ap (λ (a : Activity). length a.cursors) made ∙ length_push before.cursors cursor in
    let left : after.cursor_room ≡ before.cursor_room - 1 = ap (λ (a : Activity). a.cursor_room) made in
    cursor-turns old who before after (old.owed + 1) counted number was (ap (λ (a : Activity). a.begun) made) (λ few. omega (arith, few, long, left, room))
    (omega (arith, long))

pub shut-turns : (old : Standing) (who number : ℕ) (before after : Activity) (fewer : ℕ) → IsCounted old → who < NUMBERS →
    before ≡ get_or old.activities who before → after ≡ without_cursor number before → length after.cursors + fewer ≡ length before.cursors →
    Turns old who before after (old.owed - fewer)
shut-turns old who number before after fewer counted inside was made count =
    let part = owed-part old who before counted inside was in
    let left : after.cursor_room ≡ before.cursor_room = ap (λ (a : Activity). a.cursor_room) made in
    cursor-turns old who before after (old.owed - fewer) counted inside was (ap (λ (a : Activity). a.begun) made) (λ few. omega (arith, few, left, count))
    (omega (arith, count, part))

-- room is made

pub IsRoomier-refl : (activity : Activity) → IsRoomier activity activity
IsRoomier-refl activity = record { pending = refl; begun = refl; mode = refl; cursors = refl; room = omega arith; cursor_room = omega arith }

pub roomier-turns : (old : Standing) (who : ℕ) (before after : Activity) → IsCounted old → who < NUMBERS → before ≡ get_or old.activities who before →
    IsRoomier before after → (IsFew before → IsFew after) → Turns old who before after old.owed
roomier-turns old who before after counted number was roomier few =
    let long : length after.cursors ≡ length before.cursors = ap length roomier.cursors in
    cursor-turns old who before after old.owed counted number was roomier.begun few (omega (arith, long))

pub roomier-grown : (old : Standing) (who : ℕ) (before after : Activity) (locks : Locks) → Turns old who before after old.owed → IsRoomier before after →
    IsLonger old.locks locks → IsGrown old (moved old who after locks old.owed)
roomier-grown old who before after locks turns roomier longer = record {
  activities = λ other.
      ⊎_elim (λ (is : other ≡ who).
      subst (λ (k : ℕ). IsRoomier (activity_at old k) (activity_at (moved old who after locks old.owed) k)) (sym is)
      (subst (IsRoomier (activity_at old who)) (sym (get_or-set_same old.activities who after idle (inside old who before after old.owed turns)))
      (subst (λ (b : Activity). IsRoomier b after) (before-is old who before after old.owed turns) roomier)))
      (λ (apart : other ≡ who → ⊥). subst (IsRoomier (activity_at old other)) (sym (get_or-set_other old.activities who other after idle apart))
      (IsRoomier-refl (activity_at old other)))
      (cases_eq other who);
  locks = longer;
  owed = refl;
}

-- the activity that has more room is that of the session
pub roomier-at : (old : Standing) (who : ℕ) (before after : Activity) (locks : Locks) → Turns old who before after old.owed →
    activity_at (moved old who after locks old.owed) who ≡ after
roomier-at old who before after locks turns = get_or-set_same old.activities who after idle (inside old who before after old.owed turns)

-- nothing is going on at first

pub idle-counted : (locks : Locks) → IsCounted (record { activities = replicate NUMBERS idle; locks = locks; owed = 0 })
idle-counted locks = record {
  numbers = length-replicate NUMBERS idle;
  few = All-replicate IsFew NUMBERS idle (omega arith);
  sum = sym (sum_by-replicate owed_by NUMBERS idle);
}

pub idle-idle : IsIdle (record { activities = replicate NUMBERS idle; locks = []; owed = 0 })
idle-idle = record {
  activities = λ who.
      ⊎_elim (λ (below : who < NUMBERS). get_or-replicate NUMBERS who idle idle below)
      (λ (past : NUMBERS ≤ who). get_or_past (replicate NUMBERS idle) who idle (omega (arith, length-replicate NUMBERS idle))) (cases_lt who NUMBERS);
  locks = λ table rid. cell_at-nil 0 table rid;
  owed = refl;
}

-- two readings of one activity
pub same-read : (old : Standing) (who : ℕ) (a b : Activity) → IsCounted old → who < NUMBERS → a ≡ get_or old.activities who a →
    b ≡ get_or old.activities who b → a ≡ b
same-read old who a b counted number read again =
    let within : who < length old.activities = omega (arith, counted.numbers) in
    get_or_read old.activities who a within read idle ∙ sym (get_or_read old.activities who b within again idle)

-- the rows of the changes are held
pub written-set : (old : Standing) (who place : ℕ) (changes : List Change) (before after : Activity) (locks : Locks) (now : ℕ) →
    Turns old who before after now → after ≡ with_changes place changes before → locks ≡ set_cells (who + 1) old.locks changes →
    HasCells old.locks changes → IsWritten old (moved old who after locks now) who place changes
written-set old who place changes before after locks now turns made cells has = record {
  activity = Turns-becomes old who before after locks now (with_changes place changes) turns made;
  locks = λ table rid. ap (λ (all : Locks). lock_of all table rid) cells ∙ lock_of-set_cells (who + 1) old.locks changes table rid (inl has);
}

-- the rows of the pending changes are free
pub ended-set : (old : Standing) (who : ℕ) (changes : List Change) (before after : Activity) (locks : Locks) (now : ℕ) → Turns old who before after now →
    after ≡ ended before → locks ≡ set_cells 0 old.locks changes → changes ≡ before.pending → IsEnded old (moved old who after locks now) who
ended-set old who changes before after locks now turns made cells handed =
    let all : changes ≡ (activity_at old who).pending = handed ∙ ap (λ (a : Activity). a.pending) (before-is old who before after now turns) in
    record {
      activity = Turns-becomes old who before after locks now ended turns made;
      locks = λ table rid.
          ap (λ (all : Locks). lock_of all table rid) cells
          ∙ (lock_of-set_cells 0 old.locks changes table rid (inr refl)
          ∙ ap (λ (list : List Change). if touches list table rid then 0 else lock_of old.locks table rid) all);
    }

-- there is room for changes once the session and the cells have it
pub HasRoom-grown : (old : Standing) (who : ℕ) (changes : List Change) (count : ℕ) (before after : Activity) (locks : Locks) →
    Turns old who before after old.owed → IsRoomier before after → count ≡ length changes → 0 < after.room → length before.pending + count ≤ 2 ^ 63 →
    HasCells locks changes → HasRoom (moved old who after locks old.owed) who changes
HasRoom-grown old who changes count before after locks turns roomier long room few has = record {
  write = rw (roomier-at old who before after locks turns) room;
  fits =
      let same : length after.pending ≡ length before.pending = ap length roomier.pending in
      rw (roomier-at old who before after locks turns) (omega (arith, same, long, few));
  cells = has;
}

-- a reading of an activity is the activity
pub reads : (old : Standing) (who : ℕ) (before : Activity) → IsCounted old → who < NUMBERS → before ≡ get_or old.activities who before →
    before ≡ activity_at old who
reads old who before counted number was = get_or_read old.activities who before (omega (arith, counted.numbers)) was idle
