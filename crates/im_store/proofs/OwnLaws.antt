-- What entries of other numbers leave as it is of the builds that a number holds, and of what it sees by its cursors.
use Rattle.std.proofs.Common.{◌≡◌, ℕ, ◌*◌, ◌≤◌, ◌==◌, Bool, true, false, IsTrue, List, [], ◌∷◌, ◌++◌, take, drop, find, fold, length, map, is_some, All, Option, Some, None, if◌then◌else◌, refl, sym, ap, ap₂, ◌∙◌, subst, arith, take-append-drop}
use Rattle.std.specs.Option.{option_map, option_or}
use Rattle.std.proofs.lemmas.Bool.Decides.{nat_tests}
use Rattle.std.proofs.lemmas.List.Elements.{All-append, All-cons, All-filter, All-head, All-nil, All-tail, All-weaker}
use Rattle.im_core.specs.Answers.{cursor_view, view_of}
use Rattle.im_history.specs.declared.change.Change.{Change}
use Rattle.im_history.specs.declared.entry.Entry.{Entry}
use Rattle.im_history.specs.declared.entry.Mode.{Mode}
use Rattle.im_history.specs.declared.entry.Mode.TheVariants as mode
use Rattle.im_history.specs.declared.entry.What.{What}
use Rattle.im_history.specs.declared.entry.What.TheVariants as what
use Rattle.im_history.specs.declared.limits.Limits.{Limits}
use Rattle.im_history.specs.declared.task.Held.{Held}
use Rattle.im_history.specs.declared.task.Task.{Task}
use Rattle.im_history.specs.Commits.{scn}
use Rattle.im_history.specs.Cursors.{Opened, cursor_at, is_cursor, opened, opened_after}
use Rattle.im_history.specs.History.{History, replay}
use Rattle.im_history.specs.Legal.{Exists, IsAllowed, IsLegal, MayEnd, MayWrite, still_seen}
use Rattle.im_history.specs.Rows.{Row, row_after, seen, snapshot_under}
use Rattle.im_history.specs.Transactions.{begun}
use Rattle.im_history.specs.Transactions as transactions
use Rattle.im_history.specs.Units.{IsOwn, drops, held_at, killed_by, rows_of_extent, task_content, unit_row}
use Rattle.im_history.specs.Views.{seen_by, shown, view_at}
use Rattle.im_history.proofs.BuildLaws.{begun_at, held_at-build, held_at-cancel, held_at-plain, held_at-switch}
use Rattle.im_history.proofs.ContentLaws.{unit_row-push}
use Rattle.im_history.proofs.HeldLaws.{held-within}
use Rattle.im_history.proofs.Laws.{opened-push}
use Rattle.im_history.proofs.RowLaws.{each_history, each_longer, rows-append}
use Rattle.im_history.proofs.TableLaws.{Exists-push}
use Rattle.im_history.proofs.UnitLaws.{is_plain}
use Rattle.im_history.proofs.ViewLaws.{cursor-columns}
use Rattle.im_store.proofs.OtherLaws.{WentOn, legal-old, on-others, opened-on, pending-on, scn-longer}

-- ---- builds

holds-plain : (h : History) (entry : Entry) (who : ℕ) (task : Task) → is_plain entry.what ≡ true → IsOwn h who task
    → IsOwn (h ++ entry ∷ []) who task
holds-plain h entry who task plain own =
    by (drops own.held.task.table own.held.task.extent entry.what) refl
    (held_at-plain h entry task.id plain ∙ ap (option_map (killed_by (length h) entry.what)) own.is)
  where
    by : (b : Bool) → drops own.held.task.table own.held.task.extent entry.what ≡ b
        → held_at (h ++ entry ∷ []) task.id ≡ Some (killed_by (length h) entry.what own.held) → IsOwn (h ++ entry ∷ []) who task
    by true is found = record {
      held = killed_by (length h) entry.what own.held;
      is = found;
      mine = rw is own.mine;
      same = rw is own.same;
    }
    by false is found = record {
      held = killed_by (length h) entry.what own.held;
      is = found;
      mine = rw is own.mine;
      same = rw is own.same;
    }

the_same : {a b : Held} → Some a ≡ Some b → a ≡ b
the_same is = cc

true_not_false : {b : Bool} → b ≡ true → b ≡ false → ⊥
true_not_false is not_so = cc

equal_tests : (a b : ℕ) → a ≡ b → (a == b) ≡ true
equal_tests a b same = grind (arith, nat_tests, same)

-- a build that another number ends is not this one's
apart-id : (h : History) (maker who id : ℕ) (task : Task) → (maker == who) ≡ false → MayEnd h maker id → IsOwn h who task
    → (task.id == id) ≡ false
apart-id h maker who id task other may own = by (task.id == id) refl
  where
    by : (b : Bool) → (task.id == id) ≡ b → (task.id == id) ≡ false
    by false is = is
    by true is =
        let same : task.id ≡ id = grind (arith, nat_tests, is) in
        let one : own.held ≡ may.held = the_same (sym own.is ∙ (ap (held_at h) same ∙ may.is)) in
        absurd (true_not_false (equal_tests maker who (sym may.mine ∙ (sym (ap (λ (held : Held). held.who) one) ∙ own.mine))) other)

holds-push : (limits : Limits) (who : ℕ) (task : Task) (h : History) (entry : Entry) → (entry.who == who) ≡ false → IsLegal limits h
    → IsAllowed limits h entry.who entry.what → IsOwn h who task → IsOwn (h ++ entry ∷ []) who task
holds-push limits who task h entry other legal allowed own = by entry.what refl allowed
  where
    after : What → History
    after w = h ++ record { who = entry.who; what = w } ∷ []

    found : (w : What) → entry.what ≡ w → held_at (after w) task.id ≡ Some own.held → IsOwn (h ++ entry ∷ []) who task
    found w same is = record {
      held = own.held;
      is = ap (λ (w : What). held_at (after w) task.id) same ∙ is;
      mine = own.mine;
      same = own.same;
    }

    by : (w : What) → entry.what ≡ w → IsAllowed limits h entry.who w → IsOwn (h ++ entry ∷ []) who task
    by (what.Build id table extent trickle) same may =
        found (what.Build id table extent trickle) same
        (held_at-build h entry.who id table extent trickle task.id
        ∙ ap (λ (o : Option Held). option_or o (if id == task.id then Some (begun_at h entry.who id table extent trickle) else None)) own.is)
    by (what.Switch id) same may =
        found (what.Switch id) same
        (held_at-switch h entry.who id task.id
        ∙ (ap (λ (b : Bool). if b then None else held_at h task.id) (apart-id h entry.who who id task other may.may own) ∙ own.is))
    by (what.Cancel id full) same may =
        found (what.Cancel id full) same
        (held_at-cancel h entry.who id full task.id
        ∙ (ap (λ (b : Bool). if b then None else held_at h task.id) (apart-id h entry.who who id task other may.may own) ∙ own.is))
    by w same may = holds-plain h entry who task (ap is_plain same) own

-- a unit's row, as far as the history went on
record StaysSo (old : History) (table unit_scn rid : ℕ) (h : History) : Type 0 where
  exists : Exists h table
  within : unit_scn ≤ scn h
  same : unit_row h table unit_scn rid ≡ unit_row old table unit_scn rid

unit_row-longer : (old more : History) (table unit_scn rid : ℕ) → Exists old table → unit_scn ≤ scn old
    → unit_row (old ++ more) table unit_scn rid ≡ unit_row old table unit_scn rid
unit_row-longer old more table unit_scn rid exists within =
    (each_longer (StaysSo old table unit_scn rid)
    (λ h entry so_far. record {
      exists = Exists-push h entry table so_far.exists;
      within = let before = so_far.within in let moved = scn-longer h (entry ∷ []) in omega (arith, before, moved);
      same = unit_row-push h entry table unit_scn rid so_far.exists so_far.within ∙ so_far.same;
    }) old more (record { exists = exists; within = within; same = refl })).same

-- a build is of a table that exists, and at an SCN that was reached
record IsReached (h : History) (task : Task) : Type 0 where
  exists : Exists h task.table
  within : task.scn ≤ scn h

map_same : {X : Type 0} (f g : ℕ → X) → ((k : ℕ) → f k ≡ g k) → (ks : List ℕ) → map f ks ≡ map g ks
map_same f g same [] = refl
map_same f g same (k ∷ ks) = ap₂ (λ x xs. x ∷ xs) (same k) (map_same f g same ks)

module _ {limits : Limits} {who : ℕ} {old at : History} (went : WentOn limits who old at) (task : Task) (own : IsOwn old who task) where
  pub IsOwn-on : IsOwn at who task
  IsOwn-on = on-others limits who (λ (h : History). IsOwn h who task) (holds-push limits who task) old at went own

  reached-own : IsReached old task
  reached-own =
      let within = held-within limits old task.id own.held (legal-old limits who old at went) own.is in
      subst (IsReached old) own.same (record { exists = within.exists; within = within.scn })

  row-own : (rid : ℕ) → unit_row at task.table task.scn rid ≡ unit_row old task.table task.scn rid
  row-own rid =
      ap (λ (h : History). unit_row h task.table task.scn rid) went.is
      ∙ unit_row-longer old went.between task.table task.scn rid reached-own.exists reached-own.within

  pub task_content-on : task_content at task ≡ task_content old task
  task_content-on =
      ap (λ (list : List (Option Row)). record { scn = task.scn; first = task.extent * task.per; columns = task.columns; rows = list })
      (map_same (unit_row at task.table task.scn) (unit_row old task.table task.scn) row-own (rows_of_extent task.per task.extent))

-- ---- what a cursor sees

seen-same : (h more : History) (table n : ℕ) (own : List Change) (rid : ℕ) → n ≤ scn h → seen (h ++ more) table n own rid ≡ seen h table n own rid
unfolding seen
seen-same h more table n own rid within = ap (λ (row : Option Row). fold (row_after table rid) row own) (rows-append h more table n rid within)

module _ {limits : Limits} {who : ℕ} {old at : History} (went : WentOn limits who old at) (cursor : ℕ) where
  cursor_at-on : cursor_at at who cursor ≡ cursor_at old who cursor
  cursor_at-on = ap (find (is_cursor cursor)) (opened-on went)

  pub cursor_view-on : cursor_view at who cursor ≡ cursor_view old who cursor
  cursor_view-on = ap view_of cursor_at-on

  module _ (changes : List Change) (may : MayWrite old who cursor changes) where
    abbrev opening : Opened
    opening = may.opened

    known : opening.view.scn ≤ scn old
    known = (cursor-columns limits old who cursor opening (legal-old limits who old at went) may.is).reached

    seen-on : (rid : ℕ) → seen_by at opening.view rid ≡ seen_by old opening.view rid
    seen-on rid =
        ap (λ (h : History). seen_by h opening.view rid) went.is
        ∙ ap (shown opening.view) (seen-same old went.between opening.view.table opening.view.scn opening.view.own rid known)

    still-on : (rid : ℕ) → still_seen at who opening rid ≡ still_seen old who opening rid
    still-on rid =
        ap (fold (row_after opening.view.table rid) (seen_by at opening.view rid)) (pending-on went)
        ∙ ap (λ (row : Option Row). fold (row_after opening.view.table rid) row (transactions.pending old who)) (seen-on rid)

    pub MayWrite-on : MayWrite at who cursor changes
    MayWrite-on = record {
      opened = opening;
      is = cursor_at-on ∙ may.is;
      unasked = may.unasked;
      some = may.some;
      same = may.same;
      rising = may.rising;
      inside = may.inside;
      saw =
          All-weaker (λ (c : Change). IsTrue (is_some (seen_by old opening.view c.rid)))
          (λ (c : Change). IsTrue (is_some (seen_by at opening.view c.rid)))
          (λ c saw. subst (λ (row : Option Row). IsTrue (is_some row)) (sym (seen-on c.rid)) saw) changes may.saw;
      stands =
          All-weaker (λ (c : Change). IsTrue (is_some (still_seen old who opening c.rid)))
          (λ (c : Change). IsTrue (is_some (still_seen at who opening c.rid)))
          (λ c stands. subst (λ (row : Option Row). IsTrue (is_some row)) (sym (still-on c.rid)) stands) changes may.stands;
      fit = may.fit;
    }
