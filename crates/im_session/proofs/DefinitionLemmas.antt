-- The creation of a table, and its joining of the column store.
use Rattle.std.proofs.Common.{◌≡◌, ℕ, zero, suc, ◌+◌, true, false, List, [], ◌∷◌, ◌++◌, length, Option, Some, None, is_some, refl, sym, ap, ◌∙◌, subst, arith}
use Rattle.std.specs.List.{list_any}
use Rattle.std.specs.Prelude.{slice_get}
use Rattle.im_core.specs.declared.answers.Made.{Made}
use Rattle.im_core.specs.Answers.{IsRefusal}
use Rattle.im_values.specs.declared.priority.Priority.{Priority}
use Rattle.im_values.specs.declared.schema.Column.{Column}
use Rattle.im_history.specs.declared.entry.What.TheVariants as what
use Rattle.im_history.specs.declared.look.TableInfo.{TableInfo}
use Rattle.im_history.specs.declared.refused.Refused.{Refused}
use Rattle.im_history.specs.Commits.{scn}
use Rattle.im_history.specs.Cursors.{Opened, has_own_open, is_own}
use Rattle.im_history.specs.Grid.{Grid}
use Rattle.im_history.specs.History.{History}
use Rattle.im_history.specs.Legal.{MaySetMemory}
use Rattle.im_history.specs.Refusals.{create_refusal}
use Rattle.im_history.specs.Tables.{new_table, table_among, table_at, tables}
use Rattle.im_history.specs.Transactions.{is_open}
use Rattle.im_history.proofs.Laws.{tables-push}
use Rattle.im_plan.specs.Plan.{Plan, End}
use Rattle.im_reach.specs.Sides.{Added, Found, Known, speaks}
use Rattle.im_replies.specs.declared.aim.Aim.TheVariants as aim
use Rattle.im_replies.specs.Causes.{fault_of}
use Rattle.im_session.specs.inner.Definitions.{created_reply}
use Rattle.im_session.specs.inner.Rests.{IsRest}
use Rattle.im_session.proofs.OtherLemmas.{begun-added, opened-added}
use Rattle.im_session.proofs.RestLemmas.{attempt-done, decide-done, rest-refused}
use Rattle.im_statements.specs.Definitions.{create_table, created, join_memory}
use Rattle.im_statements.specs.Outcomes.{Outcome, said}
use Rattle.im_statements.specs.Turns.{decide_by, refused_reply}

-- the creation was refused, whether or not it was to join the column store
pub create-refused : (who k : ℕ) (old new : Known) (name : List ℕ) (schema : List Column) (grid : Grid) (memory : Option Priority)
    (told : Refused) → speaks old.side who ≡ true → has_own_open old.log who ≡ false
    → Found old new (λ at. IsRefusal at (create_refusal at name) told)
    → IsRest who k old (create_table name schema grid memory) (said (refused_reply (fault_of (aim.Creating name)) k told.place told.why)) new
create-refused who k old new name schema grid None told mine shut found =
    rest-refused who k old new true (fault_of (aim.Creating name)) (λ at. create_refusal at name) (λ at. what.Create name schema grid) created told mine
    shut found
create-refused who k old new name schema grid (Some priority) told mine shut found =
    rest-refused who k old new false (fault_of (aim.Creating name)) (λ at. create_refusal at name) (λ at. what.Create name schema grid)
    (λ at. join_memory at priority) told mine shut found

module _ (who k : ℕ) (old middle : Known) (name : List ℕ) (schema : List Column) (grid : Grid) (made : Made) where
  -- a table of this name was created, with this number
  abbrev IsMade : History → Type 0
  IsMade at = (create_refusal at name ≡ None) × (made ≡ record { place = length at; table = length (tables at) + 1; scn = scn at + 1 })

  -- it does not join the column store
  pub create-done : Added old middle who (λ at. what.Create name schema grid) IsMade
      → IsRest who k old (create_table name schema grid None) (said (created_reply made)) middle
  create-done added =
      decide-done who k old middle (fault_of (aim.Creating name)) (λ at. create_refusal at name) (λ at. what.Create name schema grid) IsMade created
      (said (created_reply made)) added (λ at fact. fact.0) (λ at fact. ap (λ (m : Made). End (said (created_reply m))) (sym fact.1))

  -- it is still to join
  pub create-joins : (priority : Priority) (outcome : Outcome) (new : Known) → Added old middle who (λ at. what.Create name schema grid) IsMade
      → IsRest who (k + 1) middle (decide_by (λ here. what.Memory made.table (Some priority)) (λ here. End (said (created_reply made)))) outcome new
      → IsRest who k old (create_table name schema grid (Some priority)) outcome new
  create-joins priority outcome new added rest =
      attempt-done who k old middle new (fault_of (aim.Creating name)) (λ at. create_refusal at name) (λ at. what.Create name schema grid) IsMade
      (λ at. join_memory at priority) outcome added added.fact.0
      (subst (λ (p : Plan Outcome). IsRest who (k + 1) middle p outcome new)
      (ap (λ (m : Made). decide_by (λ here. what.Memory m.table (Some priority)) (λ here. End (said (created_reply m)))) added.fact.1) rest)

  module _ (mine : speaks old.side who ≡ true) (added : Added old middle who (λ at. what.Create name schema grid) IsMade) where
    abbrev at : History
    at = added.at

    log-is : middle.log ≡ at ++ record { who = who; what = what.Create name schema grid } ∷ []
    log-is = ap (λ (s : Known). s.log) added.now

    pub created-shut : has_own_open old.log who ≡ false → has_own_open middle.log who ≡ false
    created-shut shut =
        ap (list_any (λ (other : Opened). is_own other.cursor)) (opened-added who old middle (what.Create name schema grid) IsMade mine added) ∙ shut

    slice-last : (ts : List TableInfo) (table : TableInfo) → slice_get (ts ++ table ∷ []) (length ts) ≡ Some table
    slice-last [] table = refl
    slice-last (t ∷ ts) table = slice-last ts table

    among-last : (ts : List TableInfo) (table : TableInfo) (number : ℕ) → number ≡ length ts + 1 → table_among (ts ++ table ∷ []) number ≡ Some table
    among-last ts table zero is = absurd (omega (arith, is))
    among-last ts table (suc before) is =
        let last : before ≡ length ts = omega (arith, is) in
        ap (slice_get (ts ++ table ∷ [])) last ∙ slice-last ts table

    pub created-may : is_open old.log who ≡ false → MaySetMemory middle.log who made.table
    created-may idle = record {
      exists = record {
        made = new_table name schema grid;
        is =
            ap (λ (log : History). table_at log made.table) log-is
            ∙ (ap (λ (ts : List TableInfo). table_among ts made.table) (tables-push at (record { who = who; what = what.Create name schema grid }))
            ∙ among-last (tables at) (new_table name schema grid) made.table
            (ap (λ (m : Made). m.table) added.fact.1));
      };
      idle = ap is_some (begun-added who old middle (what.Create name schema grid) IsMade mine added) ∙ idle;
    }
