-- The changes of a commit, handed out from the last on.
use Rattle.std.proofs.Common.{◌≡◌, ℕ, ◌+◌, ◌<◌, ◌≤◌, Bool, true, false, ◌==◌, ◌⊎◌, inl, inr, List, [], ◌∷◌, ◌++◌, length, Option, Some, None, is_some, if◌then◌else◌, refl, sym, ap, subst, ◌∙◌, ⊎_elim, arith, le_refl, append_assoc, append-nil}
use Rattle.std.specs.List.{All}
use Rattle.std.specs.Option.{option_or}
use Rattle.std.proofs.lemmas.Bool.{cases_Bool, eq-eqb, ne_eqb, true≢false}
use Rattle.std.proofs.lemmas.List.{get_or_append_left, get_or_push, length_push}
use Rattle.im_tables.specs.Table.{HasCell}
use Rattle.im_tables.proofs.ForCallers.{same_cell}
use Rattle.im_tables.proofs.Tests.{and-true, eq-true}
use Rattle.im_versions.specs.declared.version.Version.{Version}
use Rattle.im_history.specs.declared.change.Change.{Change}
use Rattle.im_history.specs.Puts.{put_from}
use Rattle.im_history.specs.Rows.{Row}
use Rattle.im_history.specs.Touched.{is_to}
use Rattle.im_blocks.specs.declared.ready.Ready.{Ready}
use Rattle.im_blocks.specs.declared.ready.Ready.TheVariants.{Run, One}
use Rattle.im_blocks.specs.Chains.{AllVersions, IsReady, versions_at, newest_scn}
use Rattle.im_blocks.specs.Readied.{HasPlace, HasRoom, IsFreeRun, ready_changes}
use Rattle.im_blocks.specs.Runs.{is_in}
use Rattle.im_blocks.specs.inner.Handing.{HasTaken, HasTakenRun, MayTake, MayTakeRun, versions_after}
use Rattle.im_blocks.specs.Transitions.{IsBefore, Applied}
use Rattle.im_blocks.specs.VersionsOf.{last_change, version_by}
use Rattle.im_blocks.proofs.VersionLemmas.{version_of, last_change-append, last_change-cons, last_change-put_from, newest_scn-version_of, or_none, put_of, ready_changes-push}

-- versions that have that of the commit's later changes, and take or do not take the row of one before them
step_versions : (last : Option Change) (old now : List Version) (scn : ℕ) (change : Change) → newest_scn old < scn →
    now ≡ old ++ version_of scn last → versions_after scn change.row now ≡ old ++ version_of scn (option_or last (Some change))
step_versions None old now scn change before is =
    let same : now ≡ old = is ∙ append-nil old in
    let differs : (newest_scn now == scn) ≡ false =
    ne_eqb (newest_scn now) scn (λ e. let here : newest_scn now ≡ newest_scn old = ap newest_scn same in absurd (omega (arith, e, here, before))) in
    rw differs (ap (λ (v : List Version). v ++ record { scn = scn; row = change.row } ∷ []) same)
step_versions (Some later) old now scn change before is =
    let newest : newest_scn now ≡ scn = ap newest_scn is ∙ newest_scn-version_of old scn (Some later) in
    let equal : (newest_scn now == scn) ≡ true = eq-eqb (newest_scn now) scn newest in
    rw equal is

-- while the changes of a commit are handed out from the last on: those that are left, and what the others did
pub record Handed (old now : AllVersions) (scn : ℕ) (left ready : List Ready) : Type 0 where
  pub done : List Change
  pub whole : ready_changes ready ≡ ready_changes left ++ done
  pub places : All (HasPlace old) left
  pub versions : (table rid : ℕ) → versions_at now table rid ≡ versions_at old table rid ++ version_by scn done table rid
  pub ready_still : (table rid : ℕ) (put : Bool) → last_change done table rid ≡ None → IsReady old table rid put → IsReady now table rid put
  pub cells : (table rid : ℕ) → HasCell old.slots table rid → HasCell now.slots table rid
  pub room : length left ≤ now.room

pub Handed-none : (old : AllVersions) (scn : ℕ) (ready : List Ready) → HasRoom old ready → Handed old old scn ready ready
Handed-none old scn ready room = record {
  done = [];
  whole = sym (append-nil (ready_changes ready));
  places = room.each;
  versions = λ table rid. sym (append-nil (versions_at old table rid));
  ready_still = λ table rid put none ready. ready;
  cells = λ table rid has. has;
  room = room.runs;
}

pub Handed-all : (old now : AllVersions) (scn : ℕ) (ready : List Ready) → Handed old now scn [] ready → Applied old now scn (ready_changes ready)
Handed-all old now scn ready handed = record {
  versions = λ table rid. handed.versions table rid ∙ ap (λ (c : List Change). versions_at old table rid ++ version_by scn c table rid) (sym handed.whole);
}

not_some : {X : Type 0} (o : Option X) → is_some o ≡ false → o ≡ None
not_some None e = refl
not_some (Some x) e = absurd (true≢false e)

newest_by : (b : Bool) (old scn : ℕ) → old < scn → (if b then scn else old) ≤ scn
newest_by true old scn before = le_refl scn
newest_by false old scn before = omega (arith, before)

-- the one that comes next has room
last_place : (old : AllVersions) (left : List Ready) (one : Ready) → All (HasPlace old) (left ++ one ∷ []) → HasPlace old one
last_place old left one places =
    let long : length (left ++ one ∷ []) ≡ length left + 1 = length_push left one in
    subst (HasPlace old) (get_or_push left one one (length left) refl) (places (length left) one (omega (arith, long)))

left_places : (old : AllVersions) (left : List Ready) (one : Ready) → All (HasPlace old) (left ++ one ∷ []) → All (HasPlace old) left
left_places old left one places = λ k d inside.
    let long : length (left ++ one ∷ []) ≡ length left + 1 = length_push left one in
    subst (HasPlace old) (get_or_append_left left (one ∷ []) d k inside) (places k d (omega (arith, long, inside)))

-- so its row number can take its row
pub MayTake-next : (old now : AllVersions) (scn : ℕ) (left ready : List Ready) (change : Change) → IsBefore old scn →
    Handed old now scn (left ++ One change ∷ []) ready → MayTake now change.table change.rid (is_some change.row) scn
MayTake-next old now scn left ready change before handed =
    let table : ℕ = change.table in
    let rid : ℕ = change.rid in
    let earlier : newest_scn (versions_at old table rid) < scn = before.each table rid in
    let last : Option Change = last_change handed.done table rid in
    let long : length (left ++ One change ∷ []) ≡ length left + 1 = length_push left (One change) in
    let many = handed.room in
    let newest : newest_scn (versions_at now table rid) ≡ (if is_some last then scn else newest_scn (versions_at old table rid)) =
    ap newest_scn (handed.versions table rid) ∙ newest_scn-version_of (versions_at old table rid) scn last in
    record {
      some = omega (arith, earlier);
      below = rw newest (newest_by (is_some last) (newest_scn (versions_at old table rid)) scn earlier);
      ready = λ (lower : newest_scn (versions_at now table rid) < scn).
          ⊎_elim (λ (touched : is_some last ≡ true).
          let is : newest_scn (versions_at now table rid) ≡ scn = newest
          ∙ ap (λ (b : Bool). if b then scn else newest_scn (versions_at old table rid)) touched in
          absurd (omega (arith, is, lower)))
          (λ (untouched : is_some last ≡ false).
          handed.ready_still table rid (is_some change.row) (not_some last untouched) (last_place old left (One change) handed.places))
          (cases_Bool (is_some last));
      room = omega (arith, long, many);
    }

option_or_none : (first : Option Change) (b : Bool) (change : Change) → option_or first (if b then Some change else None) ≡ None → (first ≡ None) × (b ≡ false)
option_or_none None false change e = (refl, refl)
option_or_none None true change e = absurd (true≢false (ap is_some e))
option_or_none (Some x) b change e = absurd (true≢false (ap is_some e))

-- a change is to its own row
to_itself : (change : Change) → is_to change.table change.rid change ≡ true
to_itself change = rw (eq-eqb change.table change.table refl, eq-eqb change.rid change.rid refl) refl

-- and to no other
to_other : (change : Change) (table rid : ℕ) → (table ≡ change.table → rid ≡ change.rid → ⊥) → is_to table rid change ≡ false
to_other change table rid apart = by_test (is_to table rid change) refl
  where
    by_test : (b : Bool) → is_to table rid change ≡ b → is_to table rid change ≡ false
    by_test false e = e
    by_test true e =
        let both = and-true (change.table == table) (change.rid == rid) e in
        absurd (apart (sym (eq-true change.table table both.0)) (sym (eq-true change.rid rid both.1)))

-- and then it is among those that are done
pub Handed-next : (old now new : AllVersions) (scn : ℕ) (left ready : List Ready) (change : Change) → IsBefore old scn
    → HasTaken now new change.table change.rid scn change.row → Handed old now scn (left ++ One change ∷ []) ready → Handed old new scn left ready
Handed-next old now new scn left ready change before taken handed =
    record {
      done = change ∷ handed.done;
      whole = handed.whole
          ∙ (ap (λ (l : List Change). l ++ handed.done) (ready_changes-push left (One change)) ∙ append_assoc (ready_changes left) (change ∷ []) handed.done);
      places = left_places old left (One change) handed.places;
      versions = λ table rid.
          ⊎_elim
          (λ (is : (table ≡ change.table) × (rid ≡ change.rid)).
          subst (λ (k : ℕ). versions_at new k rid ≡ versions_at old k rid ++ version_by scn (change ∷ handed.done) k rid) (sym is.0)
          (subst (λ (k : ℕ). versions_at new change.table k ≡ versions_at old change.table k ++ version_by scn (change ∷ handed.done) change.table k) (sym is.1)
          here))
          (λ (apart : table ≡ change.table → rid ≡ change.rid → ⊥). other table rid apart)
          (same_cell change.table change.rid table rid);
      ready_still = λ table rid put none was.
          let both =
          option_or_none (last_change handed.done table rid) (is_to table rid change) change (sym (last_change-cons change handed.done table rid) ∙ none) in
          taken.only.ready table rid put
          (λ t r. true≢false (sym (subst (λ (k : ℕ). is_to k rid change ≡ true) (sym t) (subst (λ (k : ℕ). is_to change.table k change ≡ true) (sym r) (to_itself change))) ∙ both.1))
          (handed.ready_still table rid put both.0 was);
      cells = λ table rid has. taken.only.cells table rid (handed.cells table rid has);
      room = let long = length_push left (One change) in let less = taken.only.room in let many = handed.room in omega (arith, long, less, many);
    }
  where
    here : versions_at new change.table change.rid ≡ versions_at old change.table change.rid ++ version_by scn (change ∷ handed.done) change.table change.rid
    here =
        taken.versions
        ∙ (step_versions (last_change handed.done change.table change.rid) (versions_at old change.table change.rid) (versions_at now change.table change.rid) scn
        change (before.each change.table change.rid) (handed.versions change.table change.rid)
        ∙ ap (λ (last : Option Change). versions_at old change.table change.rid ++ version_of scn last)
        (ap (λ (b : Bool). option_or (last_change handed.done change.table change.rid) (if b then Some change else None)) (sym (to_itself change))
        ∙ sym (last_change-cons change handed.done change.table change.rid)))

    other : (table rid : ℕ) → (table ≡ change.table → rid ≡ change.rid → ⊥)
        → versions_at new table rid ≡ versions_at old table rid ++ version_by scn (change ∷ handed.done) table rid
    other table rid apart =
        taken.only.others table rid apart
        ∙ (handed.versions table rid
        ∙ ap (λ (last : Option Change). versions_at old table rid ++ version_of scn last)
        (sym (or_none (last_change handed.done table rid))
        ∙ (ap (λ (b : Bool). option_or (last_change handed.done table rid) (if b then Some change else None)) (sym (to_other change table rid apart))
        ∙ sym (last_change-cons change handed.done table rid))))

-- ---- rows at row numbers in a row

-- where a row had no version, it has none but that of this commit
none_or_this : (last : Option Change) (old now : List Version) (scn : ℕ) → old ≡ [] → now ≡ old ++ version_of scn last → (now ≡ []) ⊎ (newest_scn now ≡ scn)
none_or_this None old now scn none is = inl (is ∙ (append-nil old ∙ none))
none_or_this (Some change) old now scn none is = inr (ap newest_scn is ∙ newest_scn-version_of old scn (Some change))

-- the row numbers of rows that come next can take them
pub MayTakeRun-next : (old now : AllVersions) (scn : ℕ) (left ready : List Ready) (table first : ℕ) (rows : List Row) → IsBefore old scn →
    Handed old now scn (left ++ Run table first rows ∷ []) ready → MayTakeRun now table first (length rows) scn
MayTakeRun-next old now scn left ready table first rows before handed =
    let one : Ready = Run table first rows in
    let place : IsFreeRun old table first (length rows) = last_place old left one handed.places in
    let earlier = before.each table first in
    let long = length_push left one in
    let many = handed.room in
    record {
      some = omega (arith, earlier);
      any = place.some;
      cells = λ t r is. handed.cells t r (place.cells t r is);
      free = λ t r is.
          none_or_this (last_change handed.done t r) (versions_at old t r) (versions_at now t r) scn (place.free.each t r is) (handed.versions t r);
      room = omega (arith, long, many);
    }

-- and then their changes are among those that are done
pub Handed-run : (old now new : AllVersions) (scn : ℕ) (left ready : List Ready) (table first : ℕ) (rows : List Row) → IsBefore old scn
    → HasTakenRun now new table first scn rows → Handed old now scn (left ++ Run table first rows ∷ []) ready → Handed old new scn left ready
Handed-run old now new scn left ready table first rows before taken handed =
    record {
      done = put_from table first rows ++ handed.done;
      whole = handed.whole
          ∙ (ap (λ (l : List Change). l ++ handed.done) (ready_changes-push left one) ∙ append_assoc (ready_changes left) (put_from table first rows) handed.done);
      places = left_places old left one handed.places;
      versions = λ t r. ⊎_elim (λ (is : is_in table first (length rows) t r ≡ true). here t r is)
          (λ (no : is_in table first (length rows) t r ≡ false). other t r no) (cases_Bool (is_in table first (length rows) t r));
      ready_still = λ t r put none was.
          let both = option_or_none (last_change handed.done t r) (is_in table first (length rows) t r) (put_of table first rows r) (sym (lasts t r) ∙ none) in
          taken.ready t r put both.1 (handed.ready_still t r put both.0 was);
      cells = λ t r has. taken.cells t r (handed.cells t r has);
      room = let long = length_push left one in let less = taken.room in let many = handed.room in omega (arith, long, less, many);
    }
  where
    one : Ready
    one = Run table first rows

    lasts : (t r : ℕ) → last_change (put_from table first rows ++ handed.done) t r
        ≡ option_or (last_change handed.done t r) (if is_in table first (length rows) t r then Some (put_of table first rows r) else None)
    lasts t r =
        last_change-append (put_from table first rows) handed.done t r
        ∙ ap (λ (o : Option Change). option_or (last_change handed.done t r) o) (last_change-put_from table first rows t r)

    here : (t r : ℕ) → is_in table first (length rows) t r ≡ true
        → versions_at new t r ≡ versions_at old t r ++ version_by scn (put_from table first rows ++ handed.done) t r
    here t r is =
        taken.here t r is
        ∙ (step_versions (last_change handed.done t r) (versions_at old t r) (versions_at now t r) scn (put_of table first rows r) (before.each t r)
        (handed.versions t r)
        ∙ ap (λ (last : Option Change). versions_at old t r ++ version_of scn last)
        (ap (λ (b : Bool). option_or (last_change handed.done t r) (if b then Some (put_of table first rows r) else None)) (sym is) ∙ sym (lasts t r)))

    other : (t r : ℕ) → is_in table first (length rows) t r ≡ false
        → versions_at new t r ≡ versions_at old t r ++ version_by scn (put_from table first rows ++ handed.done) t r
    other t r off =
        taken.others t r off
        ∙ (handed.versions t r
        ∙ ap (λ (last : Option Change). versions_at old t r ++ version_of scn last)
        (sym (or_none (last_change handed.done t r))
        ∙ (ap (λ (b : Bool). option_or (last_change handed.done t r) (if b then Some (put_of table first rows r) else None)) (sym off) ∙ sym (lasts t r))))
