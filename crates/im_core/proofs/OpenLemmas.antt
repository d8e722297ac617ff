-- What stays of a cursor's view while the cursor is open.
use Rattle.std.proofs.Common.{◌≡◌, ℕ, ◌+◌, ◌<◌, ◌≤◌, ◌==◌, ◌&&◌, ◌||◌, Bool, true, false, not, if◌then◌else◌, max, All, List, [], ◌∷◌, ◌++◌, Option, Some, None, refl, sym, ap, subst, ◌∙◌, ⊎_elim, arith, append_assoc, append-nil}
use Rattle.std.specs.List.{filter, find}
use Rattle.std.specs.Option.{option_or}
use Rattle.std.proofs.lemmas.Bool.{cases_lt}
use Rattle.std.proofs.lemmas.Bool.Decides.{nat_tests}
use Rattle.std.proofs.lemmas.List.Elements.{All-nil, All-cons, All-head, All-tail, All-append, All-filter, All-weaker}
use Rattle.std.proofs.lemmas.List.Folds.{find-append, list_any-append}
use Rattle.im_history.specs.declared.change.Change.{Change}
use Rattle.im_history.specs.declared.entry.Entry.{Entry}
use Rattle.im_history.specs.declared.entry.What.{What}
use Rattle.im_history.specs.declared.entry.What.TheVariants.{Create, Add, Commit, Open, Rollback, Shut, Write}
use Rattle.im_history.specs.declared.limits.Limits.{Limits}
use Rattle.im_history.specs.declared.view.View.{View}
use Rattle.im_history.specs.Commits.{commits, moves_clock, scn, members}
use Rattle.im_history.specs.Cursors.{Opened, cursor_at, is_cursor, opened, opened_after}
use Rattle.im_history.specs.History.{History, replay}
use Rattle.im_history.specs.Legal.{Exists, IsAllowed, IsLegal}
use Rattle.im_history.specs.Rows.{rows}
use Rattle.im_history.specs.Tables.{given, given_after, given_by}
use Rattle.im_history.specs.Touched.{is_to, touches}
use Rattle.im_history.specs.Transactions.{pending, pending_after}
use Rattle.im_history.specs.Views.{per_at, reads_at, view_at}
use Rattle.im_history.proofs.GivenLaws.{given-grows, given_by-grows}
use Rattle.im_history.proofs.Laws.{IsLegal-pop, given-push, opened-push, pending-push, scn-push}
use Rattle.im_history.proofs.RowLaws.{each_history, each_longer, rows-append, rows-push_commit, rows-push_empty, rows-push_quiet, rows_past}
use Rattle.im_history.proofs.StaleLaws.{untouched}
use Rattle.im_history.proofs.TableLaws.{Exists-push, per_at-push}
use Rattle.im_history.proofs.ViewLaws.{asked-reached, open-asked}
use Rattle.im_core.specs.Pins.{StaysOpen, is_shut, shuts}
use Rattle.im_core.proofs.FetchLemmas.{found_has}

-- ---- row numbers that were not given

pub same_number : (n m : ℕ) → (n == m) ≡ true → n ≡ m
same_number n m e = grind (arith, nat_tests, e)

other_number : (n m : ℕ) → n < m → (n == m) ≡ false
other_number n m below = grind (arith, nat_tests, below)

-- changes that leave a row number ungiven do not touch it
ungiven-untouched : (table rid n : ℕ) (changes : List Change) → given_by table n changes ≤ rid → touches changes table rid ≡ false
ungiven-untouched table rid n [] past = refl
ungiven-untouched table rid n (change ∷ changes) past =
    by (change.table == table) (λ m behind. ungiven-untouched table rid m changes behind) past
  where
    by : (b : Bool) → ((m : ℕ) → given_by table m changes ≤ rid → touches changes table rid ≡ false)
        → given_by table (if b then max n (change.rid + 1) else n) changes ≤ rid
        → ((b && (change.rid == rid)) || touches changes table rid) ≡ false
    by false later behind = later n behind
    by true later behind =
        let least = given_by-grows table (max n (change.rid + 1)) changes in
        rw (other_number change.rid rid (omega (arith, least, behind))) (later (max n (change.rid + 1)) behind)

-- no row of this number is committed, and none is pending
record IsNowhere (table rid : ℕ) (h : History) : Type 0 where
  done : (n : ℕ) → rows h table n rid ≡ None
  waiting : (who : ℕ) → touches (pending h who) table rid ≡ false

abbrev WhereUngiven : ℕ → ℕ → History → Type 0
WhereUngiven table rid h = given h table ≤ rid → IsNowhere table rid h

nothing-done : (table rid n : ℕ) → rows [] table n rid ≡ None
unfolding rows commits members replay
nothing-done table rid n = rows_past [] table n rid (omega arith) ∙ refl

nothing-waiting : (table rid who : ℕ) → touches (pending [] who) table rid ≡ false
unfolding pending replay
nothing-waiting table rid who = refl

nowhere-push : (table rid : ℕ) (h : History) (entry : Entry) → WhereUngiven table rid h → WhereUngiven table rid (h ++ entry ∷ [])
nowhere-push table rid h entry so_far past = record {
  done = λ n. done n entry.what refl;
  waiting = λ who. rw (pending-push h entry who) (mine who (entry.who == who));
}
  where
    old : IsNowhere table rid h
    old = let more = given-grows h entry table in so_far (omega (arith, past, more))

    commit : (n : ℕ) → entry.what ≡ Commit → rows (h ++ record { who = entry.who; what = Commit } ∷ []) table n rid ≡ None
    commit n is =
        ⊎_elim
        (λ (above : scn h < n). rows-push_commit h entry.who table n rid above
        ∙ (untouched (pending h entry.who) table rid (rows h table (scn h) rid) (old.waiting entry.who) ∙ old.done (scn h)))
        (λ (within : n ≤ scn h). rows-append h (record { who = entry.who; what = Commit } ∷ []) table n rid within ∙ old.done n)
        (cases_lt (scn h) n)

    done : (n : ℕ) (what : What) → entry.what ≡ what → rows (h ++ record { who = entry.who; what = what } ∷ []) table n rid ≡ None
    done n Commit is = commit n is
    done n (Create name schema grid) is =
        rows-push_empty h (record { who = entry.who; what = Create name schema grid }) table n rid refl ∙ old.done n
    done n (Add other column default) is =
        rows-push_empty h (record { who = entry.who; what = Add other column default }) table n rid refl ∙ old.done n
    done n what is = rows-push_quiet h (record { who = entry.who; what = what }) table n rid refl ∙ old.done n

    written : (more : List Change) → entry.what ≡ Write more → touches more table rid ≡ false
    written more is =
        ungiven-untouched table rid (given h table) more
        (subst (λ (n : ℕ). n ≤ rid) (given-push h entry table ∙ ap (given_after table (given h table)) is) past)

    after : (changes : List Change) (what : What) → entry.what ≡ what → touches changes table rid ≡ false
        → touches (pending_after changes what) table rid ≡ false
    after changes (Write more) is none = rw (list_any-append (is_to table rid) changes more, none) (written more is)
    after changes Commit is none = refl
    after changes Rollback is none = refl
    after changes _ is none = none

    mine : (who : ℕ) (same : Bool) → touches (if same then pending_after (pending h who) entry.what else pending h who) table rid ≡ false
    mine who true = after (pending h who) entry.what refl (old.waiting who)
    mine who false = old.waiting who

nowhere : (table rid : ℕ) (h : History) → WhereUngiven table rid h
nowhere table rid =
    each_history (WhereUngiven table rid)
    (λ past. record { done = nothing-done table rid; waiting = nothing-waiting table rid }) (nowhere-push table rid)

-- ---- an SCN that was reached

scn-push_grows : (h : History) (entry : Entry) → scn h ≤ scn (h ++ entry ∷ [])
scn-push_grows h entry = grows (scn h) (scn (h ++ entry ∷ [])) (if moves_clock entry.what then 1 else 0) (scn-push h entry)
  where
    grows : (before now step : ℕ) → now ≡ before + step → before ≤ now
    grows before now step is = omega (arith, is)

-- ---- the view of an open cursor

-- its table is there and cut as the view has it, its SCN was reached, and at it no row stands behind those that the view has
pub record IsFixed (h : History) (view : View) : Type 0 where
  pub exists : Exists h view.table
  pub per : view.per ≡ per_at h view.table
  pub known : view.scn ≤ scn h
  pub ungiven : (rid : ℕ) → view.rows ≤ rid → rows h view.table view.scn rid ≡ None

fixed-view : (h : History) (who table : ℕ) (asked : Option ℕ) → Exists h table → reads_at h who asked ≤ scn h → IsFixed h (view_at h who table asked)
fixed-view h who table asked exists reached = record {
  exists = exists;
  per = refl;
  known = reached;
  ungiven = λ rid past. (nowhere table rid h past).done (reads_at h who asked);
}

fixed-push : (h : History) (entry : Entry) (view : View) → IsFixed h view → IsFixed (h ++ entry ∷ []) view
fixed-push h entry view is = record {
  exists = Exists-push h entry view.table is.exists;
  per = is.per ∙ sym (per_at-push h entry view.table is.exists);
  known = let grows = scn-push_grows h entry in let known = is.known in omega (arith, known, grows);
  ungiven = λ rid past. rows-append h (entry ∷ []) view.table view.scn rid is.known ∙ is.ungiven rid past;
}

pub fixed-longer : (h more : History) (view : View) → IsFixed h view → IsFixed (h ++ more) view
fixed-longer h more view is = each_longer (λ log. IsFixed log view) (λ log entry so_far. fixed-push log entry view so_far) h more is

abbrev Fixed : History → Opened → Type 0
Fixed h o = IsFixed h o.view

-- each open cursor has such a view
record AllFixed (h : History) : Type 0 where
  each : (who : ℕ) → All (Fixed h) (opened h who)

AllFixed-nil : AllFixed []
unfolding opened replay
AllFixed-nil = record { each = λ who. All-nil (Fixed []) }

AllFixed-push : (limits : Limits) (h : History) (entry : Entry) → IsAllowed limits h entry.who entry.what → AllFixed h → AllFixed (h ++ entry ∷ [])
AllFixed-push limits h entry allowed so_far = record {
  each = λ who.
      rw (opened-push h entry who)
      (All-weaker (Fixed h) (Fixed (h ++ entry ∷ [])) (λ o is. fixed-push h entry o.view is) _ (mine who (entry.who == who)));
}
  where
    after : (who : ℕ) (os : List Opened) (what : What) → IsAllowed limits h entry.who what → All (Fixed h) os
        → All (Fixed h) (opened_after h who os what)
    after who os (Open cursor table asked) may all =
        All-append (Fixed h) os (record { cursor = cursor; view = view_at h who table asked } ∷ []) all
        (All-cons (Fixed h) (record { cursor = cursor; view = view_at h who table asked }) []
        (fixed-view h who table asked may.exists (asked-reached h who asked (open-asked h entry.who cursor asked may.allowed))) (All-nil (Fixed h)))
    after who os (Shut cursor) may all = All-filter (λ other. not (is_cursor cursor other)) (Fixed h) os all
    after who os _ may all = all

    mine : (who : ℕ) (same : Bool) → All (Fixed h) (if same then opened_after h who (opened h who) entry.what else opened h who)
    mine who true = after who (opened h who) entry.what allowed (so_far.each who)
    mine who false = so_far.each who

all_fixed : (limits : Limits) (h : History) → IsLegal limits h → AllFixed h
all_fixed limits = each_history (λ h. IsLegal limits h → AllFixed h) (λ legal. AllFixed-nil)
    (λ h entry so_far legal. let before = IsLegal-pop limits h entry legal in AllFixed-push limits h entry before.1 (so_far before.0))

pub cursor-fixed : (limits : Limits) (h : History) (who cursor : ℕ) (found : Opened) → IsLegal limits h → cursor_at h who cursor ≡ Some found
    → IsFixed h found.view
cursor-fixed limits h who cursor found legal is =
    found_has (Fixed h) (is_cursor cursor) (opened h who) found ((all_fixed limits h legal).each who) is

-- ---- a cursor that no entry shuts

found-append : (cursor : ℕ) (os more : List Opened) (found : Opened) → find (is_cursor cursor) os ≡ Some found
    → find (is_cursor cursor) (os ++ more) ≡ Some found
found-append cursor os more found is =
    find-append (is_cursor cursor) os more ∙ ap (λ (o : Option Opened). option_or o (find (is_cursor cursor) more)) is

-- where another one is shut it is still found
found-filter : (cursor other : ℕ) (os : List Opened) (found : Opened) → (other == cursor) ≡ false → find (is_cursor cursor) os ≡ Some found
    → find (is_cursor cursor) (filter (λ o. not (is_cursor other o)) os) ≡ Some found
found-filter cursor other [] found apart is = is
found-filter cursor other (o ∷ os) found apart is =
    by (o.cursor == cursor) (o.cursor == other) refl refl is (λ later. found-filter cursor other os found apart later)
  where
    rest : List Opened
    rest = filter (λ o. not (is_cursor other o)) os

    both : o.cursor ≡ cursor → o.cursor ≡ other → (other == cursor) ≡ true
    both one two = grind (arith, nat_tests, one, two)

    by : (here there : Bool) → (o.cursor == cursor) ≡ here → (o.cursor == other) ≡ there
        → (if here then Some o else find (is_cursor cursor) os) ≡ Some found
        → (find (is_cursor cursor) os ≡ Some found → find (is_cursor cursor) rest ≡ Some found)
        → find (is_cursor cursor) (if not there then o ∷ rest else rest) ≡ Some found
    by true true one two found_is later =
        absurd (let same = both (same_number o.cursor cursor one) (same_number o.cursor other two) in cc)
    by true false one two found_is later = rw one found_is
    by false true one two found_is later = later found_is
    by false false one two found_is later = rw one (later found_is)

stays-push : (h : History) (entry : Entry) (who cursor : ℕ) (found : Opened) → shuts who cursor entry ≡ false → cursor_at h who cursor ≡ Some found
    → cursor_at (h ++ entry ∷ []) who cursor ≡ Some found
stays-push h entry who cursor found stays is = rw (opened-push h entry who) (by (entry.who == who) refl stays)
  where
    after : (what : What) → is_shut cursor what ≡ false → find (is_cursor cursor) (opened_after h who (opened h who) what) ≡ Some found
    after (Open other table asked) apart =
        found-append cursor (opened h who) (record { cursor = other; view = view_at h who table asked } ∷ []) found is
    after (Shut other) apart = found-filter cursor other (opened h who) found apart is
    after _ apart = is

    by : (b : Bool) → (entry.who == who) ≡ b → (b && is_shut cursor entry.what) ≡ false
        → find (is_cursor cursor) (if b then opened_after h who (opened h who) entry.what else opened h who) ≡ Some found
    by true mine apart = after entry.what apart
    by false mine apart = is

-- it is the same cursor then, with the same view
pub cursor-stays : (h since : History) (who cursor : ℕ) (found : Opened) → StaysOpen who cursor since → cursor_at h who cursor ≡ Some found
    → cursor_at (h ++ since) who cursor ≡ Some found
cursor-stays h [] who cursor found stays is = rw append-nil is
cursor-stays h (entry ∷ since) who cursor found stays is =
    let kept = λ (e : Entry). shuts who cursor e ≡ false in
    rw (append_assoc h (entry ∷ []) since) at
    (cursor-stays (h ++ entry ∷ []) since who cursor found (All-tail kept entry since stays)
    (stays-push h entry who cursor found (All-head kept entry since stays) is))
