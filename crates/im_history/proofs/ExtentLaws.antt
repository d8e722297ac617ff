-- The extents of tables, as a history goes on, and that units are of extents.
use Rattle.std.proofs.Common.{◌≡◌, ℕ, zero, suc, ◌+◌, ◌-◌, ◌*◌, ◌/◌, ◌==◌, ◌&&◌, ◌<◌, ◌≤◌, Bool, true, false, List, [], ◌∷◌, ◌++◌, length, Option, Some, None, if◌then◌else◌, slice_get, refl, sym, ap, ◌∙◌, subst, arith}
use Rattle.std.proofs.Math.Nat.{div-mul-le_self, div-zero}
use Rattle.std.proofs.lemmas.Bool.{false≢true, eqb-true}
use Rattle.std.proofs.lemmas.List.{length_push}
use Rattle.std.proofs.lemmas.Nat.{le-div}
use Rattle.std.proofs.lemmas.Option.{slice_get_within}
use Rattle.im_values.specs.declared.content.Content.{Content as Value}
use Rattle.im_values.specs.declared.priority.Priority.{Priority}
use Rattle.im_values.specs.declared.schema.Column.{Column}
use Rattle.im_history.specs.declared.entry.Entry.{Entry}
use Rattle.im_history.specs.declared.entry.What.{What}
use Rattle.im_history.specs.declared.entry.What.TheVariants.{Create, Add, Memory, Switch}
use Rattle.im_history.specs.declared.limits.Limits.{Limits}
use Rattle.im_history.specs.declared.look.TableInfo.{TableInfo}
use Rattle.im_history.specs.declared.task.Held.{Held}
use Rattle.im_history.specs.Commits.{scn}
use Rattle.im_history.specs.Extents.{AreOfExtents, IsExtent}
use Rattle.im_history.specs.Grid.{extents_for}
use Rattle.im_history.specs.History.{History}
use Rattle.im_history.specs.Legal.{Exists, IsLegal}
use Rattle.im_history.specs.Tables.{created, given, new_table, tables, with_column, with_memory}
use Rattle.im_history.specs.Units.{drops, held_at, is_on, switched, unit, unit_after}
use Rattle.im_history.specs.Views.{per_at}
use Rattle.im_history.proofs.GivenLaws.{given-grows}
use Rattle.im_history.proofs.HeldLaws.{held-within}
use Rattle.im_history.proofs.Laws.{IsLegal-pop, scn-push, tables-push}
use Rattle.im_history.proofs.RowLaws.{each_history}
use Rattle.im_history.proofs.ShapeLaws.{per_at-some}
use Rattle.im_history.proofs.TableLaws.{per_at-push}
use Rattle.im_history.proofs.UnitLaws.{unit-nil, unit-push}

-- ---- an extent stays one

length-with_memory : (place : ℕ) (priority : Option Priority) (ts : List TableInfo) → length (with_memory place priority ts) ≡ length ts
length-with_memory place priority [] = refl
length-with_memory zero priority (t ∷ ts) = refl
length-with_memory (suc place) priority (t ∷ ts) = ap suc (length-with_memory place priority ts)

length-with_column : (place : ℕ) (column : Column) (default : Value) (ts : List TableInfo) → length (with_column place column default ts) ≡ length ts
length-with_column place column default [] = refl
length-with_column zero column default (t ∷ ts) = refl
length-with_column (suc place) column default (t ∷ ts) = ap suc (length-with_column place column default ts)

created-grows : (ts : List TableInfo) (what : What) → length ts ≤ length (created ts what)
created-grows ts (Create name schema grid) =
    let longer = length_push ts (new_table name schema grid) in omega (arith, longer)
created-grows ts (Add zero column default) = omega arith
created-grows ts (Add (suc place) column default) = let same = length-with_column place column default ts in omega (arith, same)
created-grows ts (Memory zero priority) = omega arith
created-grows ts (Memory (suc place) priority) = let same = length-with_memory place priority ts in omega (arith, same)
created-grows ts _ = omega arith

-- there are no fewer tables after one more entry
pub tables-grow : (h : History) (entry : Entry) → length (tables h) ≤ length (tables (h ++ entry ∷ []))
tables-grow h entry = rw (tables-push h entry) (created-grows (tables h) entry.what)

-- more row numbers fill no fewer extents
pub extents_for-grows : (rows more per : ℕ) → rows ≤ more → extents_for rows per ≤ extents_for more per
extents_for-grows rows more zero grows = let none = div-zero (rows + 0 - 1) in omega (arith, none)
extents_for-grows rows more (suc before) grows =
    let fit : (rows + suc before - 1) / suc before * suc before ≤ rows + suc before - 1 = div-mul-le_self (rows + suc before - 1) (suc before) in
    le-div ((rows + suc before - 1) / suc before) (more + suc before - 1) (suc before) (omega arith) (omega (arith, fit, grows))

-- a table stands there
record Stands (found : Option TableInfo) : Type 0 where
  made : TableInfo
  is : found ≡ Some made

stands : (ts : List TableInfo) (place : ℕ) → place < length ts → Stands (slice_get ts place)
stands [] place last = absurd (omega (arith, last))
stands (t ∷ ts) zero last = record { made = t; is = refl }
stands (t ∷ ts) (suc place) last = stands ts place (omega (arith, last))

-- the table of an extent exists
pub IsExtent-exists : (h : History) (table extent : ℕ) → IsExtent h table extent → Exists h table
IsExtent-exists h zero extent is = absurd (let first = is.first in omega (arith, first))
IsExtent-exists h (suc before) extent is =
    let last = is.last in
    let one = stands (tables h) before (omega (arith, last)) in
    record { made = one.made; is = one.is }

-- an extent of a table is one after one more entry
pub IsExtent-push : (h : History) (entry : Entry) (table extent : ℕ) → IsExtent h table extent → IsExtent (h ++ entry ∷ []) table extent
IsExtent-push h entry table extent is =
    let now : History = h ++ entry ∷ [] in
    let last = is.last in
    let within = is.within in
    let same : per_at now table ≡ per_at h table = per_at-push h entry table (IsExtent-exists h table extent is) in
    let grown : extents_for (given h table) (per_at h table) ≤ extents_for (given now table) (per_at h table) =
    extents_for-grows (given h table) (given now table) (per_at h table) (given-grows h entry table) in
    record {
      first = is.first;
      last = let more = tables-grow h entry in omega (arith, last, more);
      within = rw same (omega (arith, within, grown));
    }

-- ---- units

there_is_none : {X : Type 0} {x : X} → None ≡ Some x → ⊥
there_is_none is = cc

its_place : (h : History) (table : ℕ) → Exists h table → (1 ≤ table) × (table ≤ length (tables h))
its_place h zero exists = absurd (there_is_none exists.is)
its_place h (suc before) exists =
    let inside = slice_get_within (tables h) before exists.made exists.is in (omega arith, omega (arith, inside))

-- an extent whose first row number was given counts
counted : (rows per extent : ℕ) → 1 ≤ per → extent * per < rows → extent < extents_for rows per
counted rows per extent some first =
    let fills : extent + 1 ≤ (rows + per - 1) / per = le-div (extent + 1) (rows + per - 1) per (omega (arith, some)) (omega (arith, some, first)) in
    omega (arith, fills)

-- a held build is of an extent
pub held-of-extent : (limits : Limits) (h : History) (id : ℕ) (held : Held) → IsLegal limits h → held_at h id ≡ Some held
    → IsExtent h held.task.table held.task.extent
held-of-extent limits h id held legal is =
    let within = held-within limits h id held legal is in
    let place = its_place h held.task.table within.exists in
    let first = within.first in
    let per = within.per in
    let given_by_now = within.given in
    record {
      first = place.0;
      last = place.1;
      within =
          counted (given h held.task.table) (per_at h held.task.table) held.task.extent (per_at-some limits h held.task.table legal)
          (rw (← per) (omega (arith, first, given_by_now)));
    }

-- a unit is of an extent, and its SCN was reached
record IsKnown (h : History) (table extent unit_scn : ℕ) : Type 0 where
  of : IsExtent h table extent
  reached : unit_scn ≤ scn h

IsKnown-push : (h : History) (entry : Entry) (table extent unit_scn : ℕ) → IsKnown h table extent unit_scn → IsKnown (h ++ entry ∷ []) table extent unit_scn
IsKnown-push h entry table extent unit_scn known = record {
  of = IsExtent-push h entry table extent known.of;
  reached = let before = known.reached in let moved = scn-push h entry in omega (arith, before, moved);
}

of_some : {a b : ℕ} → Some a ≡ Some b → a ≡ b
of_some is = cc

both : (a b : Bool) → (a && b) ≡ true → (a ≡ true) × (b ≡ true)
both true b is = (refl, is)
both false b is = absurd (false≢true is)

-- the unit of a build that was held
known_held : (limits : Limits) (h : History) (table extent id unit_scn : ℕ) (held : Held) → IsLegal limits h → held_at h id ≡ Some held
    → is_on table extent held ≡ true → held.task.scn ≡ unit_scn → IsKnown h table extent unit_scn
known_held limits h table extent id unit_scn held legal is on same =
    let parts = both (held.task.table == table) (held.task.extent == extent) on in
    let one : held.task.table ≡ table = eqb-true held.task.table table parts.0 in
    let two : held.task.extent ≡ extent = eqb-true held.task.extent extent parts.1 in
    let reached = (held-within limits h id held legal is).scn in
    record {
      of = subst (λ (e : ℕ). IsExtent h table e) two (subst (λ (t : ℕ). IsExtent h t held.task.extent) one (held-of-extent limits h id held legal is));
      reached = subst (λ (n : ℕ). n ≤ scn h) same reached;
    }

-- each unit is known
record EachKnown (h : History) : Type 0 where
  each : (table extent unit_scn : ℕ) → unit h table extent ≡ Some unit_scn → IsKnown h table extent unit_scn

switch_known : (limits : Limits) (h : History) (table extent id unit_scn : ℕ) (found : Option Held) → IsLegal limits h → EachKnown h
    → held_at h id ≡ found → switched table extent (unit h table extent) found ≡ Some unit_scn → IsKnown h table extent unit_scn
switch_known limits h table extent id unit_scn None legal known same is = known.each table extent unit_scn is
switch_known limits h table extent id unit_scn (Some held) legal known same is = by (is_on table extent held) refl is
  where
    by : (b : Bool) → is_on table extent held ≡ b → (if b then Some held.task.scn else unit h table extent) ≡ Some unit_scn
        → IsKnown h table extent unit_scn
    by true on is = known_held limits h table extent id unit_scn held legal same on (of_some is)
    by false off is = known.each table extent unit_scn is

drop_known : (h : History) (table extent unit_scn : ℕ) (dropped : Bool) → EachKnown h
    → (if dropped then None else unit h table extent) ≡ Some unit_scn → IsKnown h table extent unit_scn
drop_known h table extent unit_scn true known is = absurd (there_is_none is)
drop_known h table extent unit_scn false known is = known.each table extent unit_scn is

step_known : (limits : Limits) (h : History) (table extent unit_scn : ℕ) (what : What) → IsLegal limits h → EachKnown h
    → unit_after table extent h (unit h table extent) what ≡ Some unit_scn → IsKnown h table extent unit_scn
step_known limits h table extent unit_scn (Switch id) legal known is =
    switch_known limits h table extent id unit_scn (held_at h id) legal known refl is
step_known limits h table extent unit_scn what legal known is = drop_known h table extent unit_scn (drops table extent what) known is

-- in a legal history
record LegalKnown (limits : Limits) (h : History) : Type 0 where
  known : IsLegal limits h → EachKnown h

LegalKnown-nil : (limits : Limits) → LegalKnown limits []
LegalKnown-nil limits = record {
  known = λ legal. record { each = λ table extent unit_scn is. absurd (there_is_none (sym (unit-nil table extent) ∙ is)) };
}

LegalKnown-push : (limits : Limits) (h : History) (entry : Entry) → LegalKnown limits h → LegalKnown limits (h ++ entry ∷ [])
LegalKnown-push limits h entry before = record {
  known = λ legal.
      let earlier = (IsLegal-pop limits h entry legal).0 in
      record {
        each = λ table extent unit_scn is.
            IsKnown-push h entry table extent unit_scn
            (step_known limits h table extent unit_scn entry.what earlier (before.known earlier) (sym (unit-push h entry table extent) ∙ is));
      };
}

each-known : (limits : Limits) (h : History) → IsLegal limits h → EachKnown h
each-known limits h legal = (each_history (LegalKnown limits) (LegalKnown-nil limits) (LegalKnown-push limits) h).known legal

-- in a legal history each unit is of an extent of a table
pub extents-of-units : (limits : Limits) (h : History) → IsLegal limits h → AreOfExtents h
extents-of-units limits h legal = record { each = λ table extent unit_scn is. ((each-known limits h legal).each table extent unit_scn is).of }

-- and of an SCN that was reached
pub unit-scn-known : (limits : Limits) (h : History) (table extent unit_scn : ℕ) → IsLegal limits h → unit h table extent ≡ Some unit_scn → unit_scn ≤ scn h
unit-scn-known limits h table extent unit_scn legal is = ((each-known limits h legal).each table extent unit_scn is).reached
