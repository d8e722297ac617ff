-- What goes on after one more entry of a session.
use Rattle.std.proofs.Common.{◌≡◌, ℕ, suc, ◌+◌, ◌<◌, ◌≤◌, Bool, true, false, ◌==◌, List, [], ◌∷◌, ◌++◌, length, map, count_by, Option, is_some, ⊎_elim, refl, sym, ap, ap₂, ◌∙◌, subst, arith, eq-eqb, ne_eqb, if◌then◌else◌}
use Rattle.std.specs.List.{range_with_len}
use Rattle.std.proofs.lemmas.Bool.{cases_eq}
use Rattle.std.proofs.lemmas.List.{length-map}
use Rattle.im_values.specs.declared.limits.TheConstants.{NUMBERS}
use Rattle.im_history.specs.declared.change.Change.{Change}
use Rattle.im_history.specs.declared.entry.Entry.{Entry}
use Rattle.im_history.specs.declared.entry.Mode.{Mode}
use Rattle.im_history.specs.declared.entry.What.{What}
use Rattle.im_history.specs.Cursors.{Opened, opened, opened_after}
use Rattle.im_history.specs.History.{History}
use Rattle.im_history.specs.Touched.{touches}
use Rattle.im_history.specs.Transactions.{pending, pending_after, begun, begun_after, mode, mode_after, is_open}
use Rattle.im_history.proofs.Laws.{pending-push, begun-push, mode-push, opened-push}
use Rattle.im_txn.specs.Activity.{Activity, is_number, owed_by, transactions}
use Rattle.im_txn.specs.Agrees.{Agrees, kept, owed, owes}
use Rattle.im_txn.specs.Effects.{Becomes}
use Rattle.im_txn.specs.LockCells.{Locks, lock_of}
use Rattle.im_txn.specs.Standing.{Standing, activity_at, lock_at}
use Rattle.im_tables.proofs.Lists.{sum_by-moves, sum_by-equal}

-- one more entry
abbrev pub with_entry : History → ℕ → What → History
with_entry h who what = h ++ record { who = who; what = what } ∷ []

-- a part of each activity is what it should be, where that of one session is
by_number : {X : Type 0} (read : Activity → X) (now next was : ℕ → X) (who : ℕ) (old new : Standing) (after : Activity) → Becomes old new who after →
    ((other : ℕ) → now other ≡ (if who == other then next other else was other)) → ((other : ℕ) → read (activity_at old other) ≡ was other) →
    read after ≡ next who → (other : ℕ) → read (activity_at new other) ≡ now other
by_number read now next was who old new after becomes law agrees mine other =
    ⊎_elim (λ (is : who ≡ other).
    let here : read (activity_at new who) ≡ next who = ap read becomes.mine ∙ mine in
    let law_is : now other ≡ next other = law other ∙ rw (eq-eqb who other is) refl in
    subst (λ (k : ℕ). read (activity_at new k) ≡ next k) is here ∙ sym law_is)
    (λ (apart : who ≡ other → ⊥).
    let law_is : now other ≡ was other = law other ∙ rw (ne_eqb who other apart) refl in
    ap read (becomes.others other (λ (e : other ≡ who). apart (sym e))) ∙ (agrees other ∙ sym law_is))
    (cases_eq who other)

kept-if : (b : Bool) (x y : List Opened) → map kept (if b then x else y) ≡ (if b then map kept x else map kept y)
kept-if true x y = refl
kept-if false x y = refl

-- what one number owes, by what it has going on
pub owes-is : (h : History) (who : ℕ) (activity : Activity) → activity.begun ≡ begun h who → activity.cursors ≡ map kept (opened h who) →
    owes h who ≡ owed_by activity
owes-is h who activity began cursors =
    let opens : (if is_open h who then 1 else 0) ≡ transactions activity = ap (λ (b : Option ℕ). if is_some b then 1 else 0) (sym began) in
    let long : length activity.cursors ≡ length (opened h who) = ap length cursors ∙ length-map (opened h who) kept in
    omega (arith, opens, long)

-- the activity of a session is what one more entry makes of it
pub record Follows (h : History) (who : ℕ) (what : What) (after : Activity) : Type 0 where
  pub changes : after.pending ≡ pending_after (pending h who) what
  pub began : after.begun ≡ begun_after (length h) (begun h who) what
  pub modes : after.mode ≡ mode_after (mode h who) what
  pub cursors : after.cursors ≡ map kept (opened_after h who (opened h who) what)
  pub once : (cursor : ℕ) → count_by (is_number cursor) after.cursors ≤ 1

-- the lock cells are what this history says
pub record Locked (h : History) (new : Standing) : Type 0 where
  pub locks : (table rid other : ℕ) → other < NUMBERS → (lock_at new table rid == suc other) ≡ touches (pending h other) table rid
  pub holders : (table rid : ℕ) → lock_at new table rid ≤ NUMBERS

owing-push : (h k : History) (who : ℕ) (old new : Standing) (after : Activity) → who < NUMBERS → Becomes old new who after → old.owed ≡ owed h →
    ((other : ℕ) → owes h other ≡ owed_by (activity_at old other)) → ((other : ℕ) → owes k other ≡ owed_by (activity_at new other)) → new.owed ≡ owed k
unfolding owed
owing-push h k who old new after number becomes owing before now =
    let apart = λ (other : ℕ) (off : other ≡ who → ⊥). now other ∙ (ap owed_by (becomes.others other off) ∙ sym (before other)) in
    let moves = sum_by-moves (owes h) (owes k) 0 NUMBERS who (omega arith) (omega arith) apart in
    let mine : owed_by (activity_at new who) ≡ owed_by after = ap owed_by becomes.mine in
    omega (arith, moves, becomes.owed, owing, before who, now who, mine)

-- all agrees after one more entry
pub Agrees-follows : (h : History) (who : ℕ) (what : What) (old new : Standing) (after : Activity) → Agrees h old → who < NUMBERS →
    Becomes old new who after → Follows h who what after → Locked (with_entry h who what) new → Agrees (with_entry h who what) new
Agrees-follows h who what old new after agrees number becomes follows locked =
    let entry : Entry = record { who = who; what = what } in
    let began =
    by_number (λ (a : Activity). a.begun) (begun (with_entry h who what)) (λ other. begun_after (length h) (begun h other) what)
    (begun h) who old new after becomes (begun-push h entry) agrees.began follows.began in
    let cursors =
    by_number (λ (a : Activity). a.cursors) (λ other. map kept (opened (with_entry h who what) other))
    (λ other. map kept (opened_after h other (opened h other) what)) (λ other. map kept (opened h other)) who old new after becomes
    (λ other. ap (map kept) (opened-push h entry other) ∙ kept-if (who == other) (opened_after h other (opened h other) what)
    (opened h other)) agrees.cursors follows.cursors in
    record {
      changes =
          by_number (λ (a : Activity). a.pending) (pending (with_entry h who what)) (λ other. pending_after (pending h other) what)
          (pending h) who old new after becomes (pending-push h entry) agrees.changes follows.changes;
      began = began;
      modes =
          by_number (λ (a : Activity). a.mode) (mode (with_entry h who what)) (λ other. mode_after (mode h other) what) (mode h) who old new after becomes
          (mode-push h entry) agrees.modes follows.modes;
      cursors = cursors;
      once = λ other cursor.
          ⊎_elim (λ (is : other ≡ who). subst (λ (a : Activity). count_by (is_number cursor) a.cursors ≤ 1) (sym (ap (activity_at new) is ∙ becomes.mine))
          (follows.once cursor))
          (λ (apart : other ≡ who → ⊥). subst (λ (a : Activity). count_by (is_number cursor) a.cursors ≤ 1) (sym (becomes.others other apart))
          (agrees.once other cursor))
          (cases_eq other who);
      locks = locked.locks;
      holders = locked.holders;
      owing =
          owing-push h (with_entry h who what) who old new after number becomes agrees.owing
          (λ other. owes-is h other (activity_at old other) (agrees.began other) (agrees.cursors other))
          (λ other. owes-is (with_entry h who what) other (activity_at new other) (began other) (cursors other));
    }

if-same : {X : Type 0} (b : Bool) (x : X) → (if b then x else x) ≡ x
if-same true x = refl
if-same false x = refl

-- the cells stay where nothing becomes pending or ceases to be
pub Locked-same : (h : History) (who : ℕ) (what : What) (old new : Standing) → Agrees h old → new.locks ≡ old.locks →
    ((so_far : List Change) → pending_after so_far what ≡ so_far) → Locked (with_entry h who what) new
Locked-same h who what old new agrees same stays =
    let cell = λ (table rid : ℕ). ap (λ (all : Locks). lock_of all table rid) same in
    let list = λ (other : ℕ). pending-push h (record { who = who; what = what }) other
    ∙ (ap (λ (l : List Change). if who == other then l else pending h other) (stays (pending h other)) ∙ if-same (who == other) (pending h other)) in
    record {
      locks = λ table rid other below.
          ap (λ (n : ℕ). n == suc other) (cell table rid)
          ∙ (agrees.locks table rid other below ∙ ap (λ (l : List Change). touches l table rid) (sym (list other)));
      holders = λ table rid. rw (cell table rid) (agrees.holders table rid);
    }

-- an entry that changes nothing of any session
pub record Apart (what : What) : Type 0 where
  pub changes : (so_far : List Change) → pending_after so_far what ≡ so_far
  pub began : (place : ℕ) (so_far : Option ℕ) → begun_after place so_far what ≡ so_far
  pub modes : (so_far : Mode) → mode_after so_far what ≡ so_far
  pub cursors : (before : History) (who : ℕ) (so_far : List Opened) → opened_after before who so_far what ≡ so_far

stays : {X : Type 0} (b : Bool) (next was : X) → next ≡ was → (if b then next else was) ≡ was
stays true next was same = same
stays false next was same = refl

owed-same : (h k : History) (standing : Standing) → standing.owed ≡ owed h → ((other : ℕ) → owes k other ≡ owes h other) → standing.owed ≡ owed k
unfolding owed
owed-same h k standing owing same = owing ∙ sum_by-equal (owes k) (owes h) (range_with_len 0 NUMBERS) same

-- what goes on agrees after such an entry as before
pub Agrees-apart-by : (h : History) (who : ℕ) (what : What) (standing : Standing) → Apart what → Agrees h standing → Agrees (with_entry h who what) standing
Agrees-apart-by h who what standing apart agrees =
    let entry : Entry = record { who = who; what = what } in
    let changes =
    λ (other : ℕ). pending-push h entry other ∙ stays (who == other) (pending_after (pending h other) what) (pending h other)
    (apart.changes (pending h other)) in
    let began =
    λ (other : ℕ). begun-push h entry other ∙ stays (who == other) (begun_after (length h) (begun h other) what) (begun h other)
    (apart.began (length h) (begun h other)) in
    let modes = λ (other : ℕ). mode-push h entry other ∙ stays (who == other) (mode_after (mode h other) what) (mode h other) (apart.modes (mode h other)) in
    let cursors =
    λ (other : ℕ). opened-push h entry other ∙ stays (who == other) (opened_after h other (opened h other) what) (opened h other)
    (apart.cursors h other (opened h other)) in
    record {
      changes = λ other. agrees.changes other ∙ sym (changes other);
      began = λ other. agrees.began other ∙ sym (began other);
      modes = λ other. agrees.modes other ∙ sym (modes other);
      cursors = λ other. agrees.cursors other ∙ ap (map kept) (sym (cursors other));
      once = agrees.once;
      locks = λ table rid other below. agrees.locks table rid other below ∙ ap (λ (l : List Change). touches l table rid) (sym (changes other));
      holders = agrees.holders;
      owing =
          owed-same h (with_entry h who what) standing agrees.owing
          (λ other. ap₂ (λ (b : Option ℕ) (l : List Opened). (if is_some b then 1 else 0) + length l) (began other) (cursors other));
    }
