-- In a legal history each held build is of an extent that had a row number when it began.
use Rattle.std.proofs.Common.{◌≡◌, ℕ, ◌*◌, ◌==◌, ◌<◌, ◌≤◌, Bool, true, false, [], ◌∷◌, ◌++◌, length, map, Option, Some, None, if◌then◌else◌, refl, sym, ap, ap₂, ◌∙◌, subst, arith}
use Rattle.std.specs.Option.{option_map, option_or}
use Rattle.im_history.specs.declared.entry.Entry.{Entry}
use Rattle.im_history.specs.declared.entry.What.{What}
use Rattle.im_history.specs.declared.entry.What.TheVariants.{Build, Switch, Cancel}
use Rattle.im_history.specs.declared.limits.Limits.{Limits}
use Rattle.im_history.specs.declared.task.Held.{Held}
use Rattle.im_history.specs.Commits.{scn}
use Rattle.im_history.specs.History.{History}
use Rattle.im_history.specs.Legal.{Exists, IsAllowed, IsLegal, MayBuild}
use Rattle.im_history.specs.Tables.{given}
use Rattle.im_history.specs.Transactions.{or_here}
use Rattle.im_history.specs.Units.{Content, columns_at, content_at, held_at, killed_by, rows_of_extent, task_content, unit_row}
use Rattle.im_history.specs.Views.{per_at}
use Rattle.im_history.proofs.ColumnLaws.{columns_at-now, columns_at-push}
use Rattle.im_history.proofs.BuildLaws.{begun_at, held_at-build, held_at-cancel, held_at-nil, held_at-plain, held_at-switch}
use Rattle.im_history.proofs.GivenLaws.{given-grows}
use Rattle.im_history.proofs.GridLaws.{first_within}
use Rattle.im_history.proofs.Laws.{IsLegal-pop, scn-push}
use Rattle.im_history.proofs.NextLaws.{next-is}
use Rattle.im_history.proofs.RowLaws.{each_history}
use Rattle.im_history.proofs.TableLaws.{Exists-push, per_at-push}
use Rattle.im_history.proofs.UnitLaws.{is_plain}

-- a build of an extent of a table that exists, whose first row number was given when it began. It has the columns that the table had
-- at its SCN
pub record IsWithin (h : History) (held : Held) : Type 0 where
  pub exists : Exists h held.task.table
  pub per : held.task.per ≡ per_at h held.task.table
  pub columns : held.task.columns ≡ columns_at h held.task.table held.task.scn
  pub first : held.task.extent * held.task.per < held.given
  pub given : held.given ≤ given h held.task.table
  pub scn : held.task.scn ≤ scn h

IsWithin-push : (h : History) (entry : Entry) (held : Held) → IsWithin h held → IsWithin (h ++ entry ∷ []) held
IsWithin-push h entry held within = record {
  exists = Exists-push h entry held.task.table within.exists;
  per = within.per ∙ sym (per_at-push h entry held.task.table within.exists);
  columns = within.columns ∙ sym (columns_at-push h entry held.task.table held.task.scn within.exists within.scn);
  first = within.first;
  given = let before = within.given in let more = given-grows h entry held.task.table in omega (arith, before, more);
  scn = let before = within.scn in let moved = scn-push h entry in omega (arith, before, moved);
}

-- whether a build is killed is no matter
IsWithin-killed : (h : History) (place : ℕ) (what : What) (held : Held) → IsWithin h held → IsWithin h (killed_by place what held)
IsWithin-killed h place what held within = by _
  where
    by : (b : Bool) → IsWithin h (if b then record held { killed = or_here place held.killed } else held)
    by true = record { exists = within.exists; per = within.per; columns = within.columns; first = within.first; given = within.given; scn = within.scn }
    by false = within

-- the build that begins
IsWithin-begun : (h : History) (who id table extent : ℕ) (trickle : Bool)
    → MayBuild h id table extent trickle → IsWithin h (begun_at h who id table extent trickle)
IsWithin-begun h who id table extent trickle may =
    let known = next-is h _ may.comes in
    record {
      exists = known.exists;
      per = refl;
      columns = sym (columns_at-now h table (scn h) (omega arith));
      first = first_within (given h table) (per_at h table) extent known.within.within;
      given = omega arith;
      scn = omega arith;
    }

-- each held build is so
record EachWithin (h : History) : Type 0 where
  each : (id : ℕ) (held : Held) → held_at h id ≡ Some held → IsWithin h held

held_once : {held : Held} → None ≡ Some held → ⊥
held_once is = cc

of_some : {a b : Held} → Some a ≡ Some b → a ≡ b
of_some is = cc

map_within : (h : History) (place : ℕ) (what : What) (before : Option Held) (held : Held) → ((held : Held) → before ≡ Some held → IsWithin h held)
    → option_map (killed_by place what) before ≡ Some held → IsWithin h held
map_within h place what None held each is = absurd (held_once is)
map_within h place what (Some first) held each is = subst (IsWithin h) (of_some is) (IsWithin-killed h place what first (each first refl))

or_within : (h : History) (before : Option Held) (mine : Bool) (new held : Held) → ((held : Held) → before ≡ Some held → IsWithin h held) → IsWithin h new
    → option_or before (if mine then Some new else None) ≡ Some held → IsWithin h held
or_within h (Some first) mine new held each begun is = subst (IsWithin h) (of_some is) (each first refl)
or_within h None true new held each begun is = subst (IsWithin h) (of_some is) begun
or_within h None false new held each begun is = absurd (held_once is)

unless_within : (h : History) (before : Option Held) (ended : Bool) (held : Held) → ((held : Held) → before ≡ Some held → IsWithin h held)
    → (if ended then None else before) ≡ Some held → IsWithin h held
unless_within h before true held each is = absurd (held_once is)
unless_within h before false held each is = each held is

EachWithin-push : (limits : Limits) (h : History) (entry : Entry) → IsAllowed limits h entry.who entry.what → EachWithin h → EachWithin (h ++ entry ∷ [])
EachWithin-push limits h entry allowed so_far = record { each = λ id held is. IsWithin-push h entry held (by entry.what refl allowed id held is) }
  where
    plain : (id : ℕ) (held : Held) → is_plain entry.what ≡ true → held_at (h ++ entry ∷ []) id ≡ Some held → IsWithin h held
    plain id held is_one is = map_within h (length h) entry.what (held_at h id) held (so_far.each id) (sym (held_at-plain h entry id is_one) ∙ is)

    by : (what : What) → entry.what ≡ what → IsAllowed limits h entry.who what → (id : ℕ) (held : Held) → held_at (h ++ entry ∷ []) id ≡ Some held
        → IsWithin h held
    by (Build number table extent trickle) same may id held is =
        or_within h (held_at h id) (number == id) (begun_at h entry.who number table extent trickle) held (so_far.each id)
        (IsWithin-begun h entry.who number table extent trickle may)
        (sym (held_at-build h entry.who number table extent trickle id)
        ∙ (ap (λ (w : What). held_at (h ++ record { who = entry.who; what = w } ∷ []) id) (sym same) ∙ is))
    by (Switch number) same may id held is =
        unless_within h (held_at h id) (id == number) held (so_far.each id)
        (sym (held_at-switch h entry.who number id) ∙ (ap (λ (w : What). held_at (h ++ record { who = entry.who; what = w } ∷ []) id) (sym same) ∙ is))
    by (Cancel number full) same may id held is =
        unless_within h (held_at h id) (id == number) held (so_far.each id)
        (sym (held_at-cancel h entry.who number full id) ∙ (ap (λ (w : What). held_at (h ++ record { who = entry.who; what = w } ∷ []) id) (sym same) ∙ is))
    by what same may id held is = plain id held (ap is_plain same) is

-- in a legal history
record LegalWithin (limits : Limits) (h : History) : Type 0 where
  within : IsLegal limits h → EachWithin h

LegalWithin-nil : (limits : Limits) → LegalWithin limits []
LegalWithin-nil limits = record { within = λ legal. record { each = λ id held is. absurd (held_once (sym (held_at-nil id) ∙ is)) } }

LegalWithin-push : (limits : Limits) (h : History) (entry : Entry) → LegalWithin limits h → LegalWithin limits (h ++ entry ∷ [])
LegalWithin-push limits h entry before = record {
  within = λ legal. let parts = IsLegal-pop limits h entry legal in EachWithin-push limits h entry parts.1 (before.within parts.0);
}

-- a held build of a legal history is of an extent that had a row number when it began
pub held-within : (limits : Limits) (h : History) (id : ℕ) (held : Held) → IsLegal limits h → held_at h id ≡ Some held → IsWithin h held
held-within limits h id held legal is = ((each_history (LegalWithin limits) (LegalWithin-nil limits) (LegalWithin-push limits) h).within legal).each id held is

abbrev task_content_of : (h : History) (held : Held) (per columns : ℕ) → Content
task_content_of h held per columns = record {
  scn = held.task.scn;
  first = held.task.extent * per;
  columns = columns;
  rows = map (unit_row h held.task.table held.task.scn) (rows_of_extent per held.task.extent);
}

-- so what its unit is to hold is what a unit of its extent at its SCN holds
pub task_content-is : (limits : Limits) (h : History) (id : ℕ) (held : Held) → IsLegal limits h → held_at h id ≡ Some held
    → task_content h held.task ≡ content_at h held.task.table held.task.extent held.task.scn
task_content-is limits h id held legal is =
    let within = held-within limits h id held legal is in
    ap₂ (task_content_of h held) within.per within.columns
