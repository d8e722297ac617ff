-- What entries of other numbers leave as it is, in a legal history.
use Rattle.std.proofs.Common.{◌≡◌, ℕ, ◌+◌, ◌≤◌, ◌==◌, ◌&&◌, ◌||◌, Bool, true, false, IsTrue, if◌then◌else◌, List, [], ◌∷◌, ◌++◌, length, take, is_some, All, refl, sym, ap, ◌∙◌, subst, arith, append-nil, append_assoc, length-append}
use Rattle.std.specs.List.{list_any}
use Rattle.std.proofs.lemmas.List.{take-append-le}
use Rattle.std.proofs.lemmas.List.Elements.{All-head, All-tail}
use Rattle.im_values.specs.declared.schema.Column.{Column}
use Rattle.im_values.specs.Fits.{fits}
use Rattle.im_core.specs.Answers.{MayPut}
use Rattle.im_history.specs.declared.entry.Entry.{Entry}
use Rattle.im_history.specs.declared.limits.Limits.{Limits}
use Rattle.im_history.specs.declared.view.Opening.{Opening}
use Rattle.im_history.specs.Commits.{moves_clock, scn}
use Rattle.im_history.specs.Cursors.{is_cursor, is_cursor_open, opened, opened_after}
use Rattle.im_history.specs.History.{History}
use Rattle.im_history.specs.Leaves.{has_left, is_leave}
use Rattle.im_history.specs.Legal.{Exists, IsAllowed, IsLegal, IsLegalFrom, MayLeave, MaySetMemory}
use Rattle.im_history.specs.Rows.{Row}
use Rattle.im_history.specs.Tables.{table_at}
use Rattle.im_history.specs.Transactions.{begun, begun_after, is_open, pending, pending_after}
use Rattle.im_history.proofs.LeaveLaws.{has_left-push}
use Rattle.im_history.proofs.Laws.{IsLegal-push, begun-push, opened-push, pending-push, scn-push}
use Rattle.im_history.proofs.RowLaws.{each_longer}
use Rattle.im_history.proofs.TableLaws.{GrowsTo, table-longer}

-- others went on: none of them has this number, and the whole history is legal
pub record WentOn (limits : Limits) (who : ℕ) (old at : History) : Type 0 where
  pub between : History
  pub is : at ≡ old ++ between
  pub apart : All (λ entry. (entry.who == who) ≡ false) between
  pub legal : IsLegal limits at

-- a legal history is legal up to each place, and from there on
legal-from : (limits : Limits) (before h k : History) → IsLegalFrom limits before (h ++ k)
    → IsLegalFrom limits before h × IsLegalFrom limits (before ++ h) k
legal-from limits before [] k legal = (tt, rw append-nil legal)
legal-from limits before (first ∷ h) k legal =
    let rest = legal-from limits (before ++ first ∷ []) h k legal.1 in
    ((legal.0, rest.0), rw (append_assoc before (first ∷ []) h) at rest.1)

legal-parts : (limits : Limits) (who : ℕ) (old at : History) (went : WentOn limits who old at)
    → IsLegalFrom limits [] old × IsLegalFrom limits old went.between
legal-parts limits who old at went = legal-from limits [] old went.between (subst (IsLegalFrom limits []) went.is went.legal.each)

pub legal-old : (limits : Limits) (who : ℕ) (old at : History) → WentOn limits who old at → IsLegal limits old
legal-old limits who old at went = record { each = (legal-parts limits who old at went).0 }

-- what each allowed entry of another number keeps holds when others went on
module _ (limits : Limits) (who : ℕ) (P : History → Type 0)
    (step : (h : History) (entry : Entry) → (entry.who == who) ≡ false → IsLegal limits h → IsAllowed limits h entry.who entry.what → P h
    → P (h ++ entry ∷ [])) where
  on-each : (before between : History) → IsLegal limits before → IsLegalFrom limits before between
      → All (λ entry. (entry.who == who) ≡ false) between → P before → P (before ++ between)
  on-each before [] legal rest apart holds = rw append-nil holds
  on-each before (entry ∷ between) legal rest apart holds =
      rw (append_assoc before (entry ∷ []) between) at
      (on-each (before ++ entry ∷ []) between
      (IsLegal-push limits before entry legal rest.0.number rest.0.allowed) rest.1
      (All-tail (λ (e : Entry). (e.who == who) ≡ false) entry between apart)
      (step before entry (All-head (λ (e : Entry). (e.who == who) ≡ false) entry between apart) legal rest.0.allowed holds))

  pub on-others : (old at : History) → WentOn limits who old at → P old → P at
  on-others old at went holds =
      subst P (sym went.is)
      (on-each old went.between (legal-old limits who old at went) (legal-parts limits who old at went).1 went.apart holds)

or_nothing : (b : Bool) → (b || false) ≡ b
or_nothing true = refl
or_nothing false = refl

-- ---- a number's transaction and cursors, and whether it left

module _ {limits : Limits} {who : ℕ} {old at : History} (went : WentOn limits who old at) where
  pub begun-on : begun at who ≡ begun old who
  begun-on =
      on-others limits who (λ h. begun h who ≡ begun old who)
      (λ h entry other legal allowed so_far.
      begun-push h entry who
      ∙ (ap (λ (b : Bool). if b then begun_after (length h) (begun h who) entry.what else begun h who) other ∙ so_far))
      old at went refl

  pub pending-on : pending at who ≡ pending old who
  pending-on =
      on-others limits who (λ h. pending h who ≡ pending old who)
      (λ h entry other legal allowed so_far.
      pending-push h entry who ∙ (ap (λ (b : Bool). if b then pending_after (pending h who) entry.what else pending h who) other ∙ so_far))
      old at went refl

  pub opened-on : opened at who ≡ opened old who
  opened-on =
      on-others limits who (λ h. opened h who ≡ opened old who)
      (λ h entry other legal allowed so_far.
      opened-push h entry who ∙ (ap (λ (b : Bool). if b then opened_after h who (opened h who) entry.what else opened h who) other ∙ so_far))
      old at went refl

  left-on : has_left at who ≡ has_left old who
  left-on =
      on-others limits who (λ h. has_left h who ≡ has_left old who)
      (λ h entry other legal allowed so_far.
      has_left-push h entry who
      ∙ (ap (λ (b : Bool). has_left h who || (b && is_leave entry.what)) other ∙ (or_nothing (has_left h who) ∙ so_far)))
      old at went refl

  pub is_open-on : {b : Bool} → is_open old who ≡ b → is_open at who ≡ b
  is_open-on is = ap is_some begun-on ∙ is

  pub is_cursor_open-on : {b : Bool} (cursor : ℕ) → is_cursor_open old who cursor ≡ b → is_cursor_open at who cursor ≡ b
  is_cursor_open-on cursor is = ap (list_any (is_cursor cursor)) opened-on ∙ is

  pub MayLeave-on : MayLeave old who → MayLeave at who
  MayLeave-on may = record { idle = is_open-on may.idle; closed = opened-on ∙ may.closed; once = left-on ∙ may.once }

-- ---- tables

module _ {limits : Limits} {who : ℕ} {old at : History} (went : WentOn limits who old at) (table : ℕ) where
  pub table-on : (exists : Exists old table) → GrowsTo exists.made (table_at at table)
  table-on exists = subst (λ (h : History). GrowsTo exists.made (table_at h table)) (sym went.is) (table-longer old went.between table exists)

  pub Exists-on : Exists old table → Exists at table
  Exists-on exists = let now = table-on exists in record { made = now.by.info; is = now.by.is }

  pub MaySetMemory-on : MaySetMemory old who table → MaySetMemory at who table
  MaySetMemory-on may = record { exists = Exists-on may.exists; idle = is_open-on went may.idle }

-- rows that fit the columns that were seen fit them still: others may have added columns, but only behind these
module _ {limits : Limits} {who : ℕ} {old at : History} (went : WentOn limits who old at) where
  pub MayPut-on : (opening : Opening) (rows : List Row) → MayPut old opening rows → MayPut at opening rows
  MayPut-on opening rows may =
      let now = table-on went opening.table may.exists in
      let seen = may.seen in
      let long = ap length now.by.schema ∙ length-append may.exists.made.schema now.columns in
      let first : take opening.columns now.by.info.schema ≡ take opening.columns may.exists.made.schema =
      ap (take opening.columns) now.by.schema ∙ take-append-le opening.columns may.exists.made.schema now.columns seen in
      record {
        exists = record { made = now.by.info; is = now.by.is };
        seen = omega (arith, long, seen);
        some = may.some;
        fit = subst (λ (columns : List Column). All (λ row. IsTrue (fits row columns)) rows) (sym first) may.fit;
      }

-- ---- the SCN

-- it never falls
pub scn-longer : (h more : History) → scn h ≤ scn (h ++ more)
scn-longer h more =
    each_longer (λ (log : History). scn h ≤ scn log)
    (λ log entry so_far. let now = scn-push log entry in
    grows (scn h) (scn log) (scn (log ++ entry ∷ [])) (if moves_clock entry.what then 1 else 0) so_far now) h more (omega arith)
  where
    grows : (n before now step : ℕ) → n ≤ before → now ≡ before + step → n ≤ now
    grows n before now step a b = omega (arith, a, b)
