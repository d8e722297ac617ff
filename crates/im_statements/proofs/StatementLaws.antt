-- What the plan of each statement of a session keeps.
use Rattle.std.proofs.Common.{◌≡◌, ℕ, zero, suc, ◌+◌, ◌-◌, ◌==◌, ◌≤◌, ◌&&◌, ◌||◌, is_some, nat_le, nat_lt, Bool, true, false, not, if◌then◌else◌, List, [], ◌∷◌, ◌++◌, length, map, Option, Some, None, Result, Ok, Err, refl, sym, subst, arith}
use Rattle.std.proofs.lemmas.Bool.Decides.{nat_tests}
use Rattle.std.specs.Prelude.{⊤}
use Rattle.std.specs.List.{list_any}
use Rattle.std.specs.Option.{option_map, option_or}
use Rattle.std.specs.Result.{IfOk}
use Rattle.im_values.specs.declared.priority.Priority.{Priority}
use Rattle.im_values.specs.declared.schema.Column.{Column}
use Rattle.im_values.specs.declared.content.Content.{Content as Value}
use Rattle.im_values.specs.declared.content.Content.TheVariants as value
use Rattle.im_values.specs.declared.schema.Kind.{Kind}
use Rattle.im_values.specs.declared.schema.Kind.TheVariants as kind
use Rattle.im_history.specs.declared.change.Change.{Change}
use Rattle.im_history.specs.declared.cursors.TheConstants.{OWN_CURSOR}
use Rattle.im_history.specs.declared.entry.Mode.{Mode}
use Rattle.im_history.specs.declared.entry.What.{What}
use Rattle.im_history.specs.declared.entry.What.TheVariants as what
use Rattle.im_history.specs.declared.limits.Limits.{Limits}
use Rattle.im_history.specs.declared.look.TableInfo.{TableInfo}
use Rattle.im_history.specs.declared.refused.Why.{Why}
use Rattle.im_history.specs.declared.refused.Why.TheVariants as why
use Rattle.im_history.specs.declared.view.View.{View}
use Rattle.im_history.specs.Commits.{scn}
use Rattle.im_history.specs.Cursors.{is_own}
use Rattle.im_history.specs.Grid.{Grid}
use Rattle.im_history.specs.History.{History}
use Rattle.im_history.specs.Refusals.{add_refusal, begin_refusal, create_refusal, forbids_writing, is_column, when, write_refusal}
use Rattle.im_history.specs.Rows.{Row}
use Rattle.im_history.specs.Tables.{given, table_at, table_named, tables}
use Rattle.im_history.specs.Transactions.{is_open, mode}
use Rattle.im_history.specs.Views.{schema_of, view_at}
use Rattle.im_group.specs.Answers.{answer as answer_of}
use Rattle.im_names.specs.declared.fault.NameFault.{NameFault}
use Rattle.im_names.specs.declared.fault.NameFault.TheVariants.{RepeatedColumn, TooLong, UnknownTable, WrongKind}
use Rattle.im_names.specs.declared.resolved.Resolved.{Resolved}
use Rattle.im_names.specs.declared.resolved.Resolved.TheVariants as resolved
use Rattle.im_names.specs.Definitions.{column_name, column_of}
use Rattle.im_names.specs.Faults.{first_fault, unless, with_earlier}
use Rattle.im_names.specs.Literals.{compared, default_of, is_other, stored, too_long}
use Rattle.im_names.specs.Lookups.{has_column, is_among, of_table, repeated, standing, table_called}
use Rattle.im_names.specs.Statements.{added_fault, resolution, query_answer}
use Rattle.im_plan.specs.Plan.{Plan, End, Turn, counted}
use Rattle.im_replies.specs.declared.body.Body.{Body}
use Rattle.im_replies.specs.declared.body.Body.TheVariants as body
use Rattle.im_replies.specs.declared.fault.Fault.{Fault}
use Rattle.im_replies.specs.declared.fault.Fault.TheVariants as fault
use Rattle.im_replies.specs.declared.reply.Reply.{Reply}
use Rattle.im_replies.specs.declared.served.Served.{Served}
use Rattle.im_replies.specs.declared.aim.Aim.TheVariants as aim
use Rattle.im_replies.specs.Causes.{fault_of, name_fault}
use Rattle.im_syntax.specs.declared.bound.Bound.{Bound}
use Rattle.im_syntax.specs.declared.statement.Stmt.{Stmt}
use Rattle.im_syntax.specs.declared.statement.Stmt.TheVariants as stmt
use Rattle.im_syntax.specs.Condition.{CondOf}
use Rattle.im_syntax.specs.Rules.{IsStmt}
use Rattle.im_statements.specs.declared.rewriting.Rewriting.{Rewriting}
use Rattle.im_statements.specs.declared.rewriting.Rewriting.TheVariants.{Updating, Deleting}
use Rattle.im_statements.specs.Cursors.{close, close_query, close_with, fetch, fetch_query, fetch_reply, open_query, step, step_query, step_reply, with_query}
use Rattle.im_statements.specs.Definitions.{add_column, alter_table, create_table, created, join_memory, roll_back, set_mode}
use Rattle.im_statements.specs.Outcomes.{Closes, Effect, Opens, Outcome, OpenQuery, Replied, State, Stays, Steps, query_at, said}
use Rattle.im_statements.specs.Scans.{end_scan, explain, explained, mark_at, opening_refusal, rows_seen, scan, select, serve, serve_from}
use Rattle.im_statements.specs.Statements.{definition_plan, found_plan, is_definition, looked_up, named_plan, resolved_plan, seen_columns}
use Rattle.im_statements.specs.Transaction.{open_by, open_by_definition}
use Rattle.im_statements.specs.Turns.{answer_at, look, or_refused, served_reply, settled_reply, unless_refused}
use Rattle.im_statements.specs.Writes.{changes_to, insert, inserting_refusal, inserts, kept_rows, or_fault, rewrite, write_or_end, written}
use Rattle.im_statements.proofs.AnswerLaws.{formed-each, of_table-each, unless-each}
use Rattle.im_statements.proofs.PlanLaws.{IsApart, IsKept, IsTidy, MayLack, Moves, Tells, closes, done, keeps, none, open_behind, opens, query_opened, shuts, stays, steps, turned}

-- ---- turns

module _ (fine : Type 0) (says : Body → Bool → Bool) (who : ℕ) (before : Bool) where
  abbrev Kept : Type 0 → Bool → ℕ → Bool → List ℕ → Effect → Plan Outcome → Type 0
  Kept sure free k now own effect plan = IsKept fine sure says who before free k now own effect plan

  -- whatever is sure
  kept-any : (sure : Type 0) (free : Bool) (k : ℕ) (now : Bool) (own : List ℕ) (effect : Effect) (plan : Plan Outcome)
      → Kept ⊤ free k now own effect plan → Kept sure free k now own effect plan
  kept-any sure free k now own effect plan kept = record { tidy = kept.tidy; told = λ s. kept.told tt }

  -- the line ends
  kept-said : (sure : Type 0) (free : Bool) (k : ℕ) (now : Bool) (reply : Reply) → MayLack says before free k now → now ≡ says reply.body before
      → Kept sure free k now [] Stays (End (said reply))
  kept-said sure free k now reply lack told = record { tidy = (refl, done Stays); told = λ s. (lack, told) }

  kept-if : (sure : Type 0) (free : Bool) (k : ℕ) (now : Bool) (own : List ℕ) (effect : Effect) (b : Bool) (first second : Plan Outcome)
      → Kept sure free k now own effect first → Kept sure free k now own effect second
      → Kept sure free k now own effect (if b then first else second)
  kept-if sure free k now own effect true first second one other = one
  kept-if sure free k now own effect false first second one other = other

  kept-look : (sure : Type 0) (free : Bool) (k : ℕ) (now : Bool) (own : List ℕ) (on : History → Plan Outcome) → MayLack says before free k now
      → ((at : History) → Kept (is_open at who ≡ now) free k now own Stays (on at)) → Kept sure free k now own Stays (look on)
  kept-look sure free k now own on lack rest = record {
    tidy = λ at. (own, Stays, none false own Stays, (rest at).tidy);
    told = λ s. (lack, λ at is. (rest at).told is);
  }

  -- an entry that nothing refuses
  kept-adds : (sure : Type 0) (free : Bool) (k : ℕ) (now : Bool) (own later : List ℕ) (decides : Bool) (entry : History → What)
      (does : History → Effect) (on : History → Plan Outcome) → MayLack says before free k now
      → ((at : History) → Moves fine at who decides own Stays (Some (entry at)) later (does at))
      → ((at : History) → Kept (is_open at who ≡ now) (not (decides && true) && free) (suc k) (open_behind (entry at) now) later (does at) (on at))
      → Kept sure free k now own Stays (Turn decides (λ at. Some (entry at)) on)
  kept-adds sure free k now own later decides entry does on lack moves rest = record {
    tidy = λ at. (later, does at, moves at, (rest at).tidy);
    told = λ s. (lack, λ at is. (rest at).told is);
  }

  -- an entry that may be refused, while no cursor of the statement's own is open
  kept-attempt : (sure : Type 0) (free : Bool) (k : ℕ) (now : Bool) (later : List ℕ) (decides : Bool) (tells : Why → Fault)
      (refused : History → Option Why) (entry : History → What) (does : History → Effect) (on : History → Plan Outcome)
      → now ≡ says (body.Error (fault.Memory k)) before
      → ((at : History) (cause : Why) → refused at ≡ Some cause → now ≡ says (body.Error (tells cause)) before)
      → ((at : History) → Moves fine at who decides [] Stays (Some (entry at)) later (does at))
      → ((at : History) → Kept (is_open at who ≡ now) (not (decides && true) && free) (suc k) (open_behind (entry at) now) later (does at) (on at))
      → Kept sure free k now [] Stays (Turn decides (λ at. unless_refused (refused at) (entry at)) (λ at. or_refused tells at (refused at) (on at)))
  kept-attempt sure free k now later decides tells refused entry does on lack refusal moves rest = record {
    tidy = λ at. moved at (refused at);
    told = λ s. (λ f. lack, λ at is. tell at is (refused at) refl);
  }
    where
      moved : (at : History) (o : Option Why)
          → (last : List ℕ) × (effect : Effect) × Moves fine at who decides [] Stays (unless_refused o (entry at)) last effect
          × IsTidy fine who last effect (or_refused tells at o (on at))
      moved at None = (later, does at, moves at, (rest at).tidy)
      moved at (Some cause) = ([], Stays, none decides [] Stays, (refl, done Stays))

      tell : (at : History) → is_open at who ≡ now → (o : Option Why) → refused at ≡ o
          → Tells says who before (not (decides && is_some (unless_refused o (entry at))) && free) (counted (unless_refused o (entry at)) k)
          (turned now (unless_refused o (entry at))) (or_refused tells at o (on at))
      tell at is None e = (rest at).told is
      tell at is (Some cause) e = (λ f. lack, refusal at cause e)

  -- ---- tables

  -- the last reply of a line whose entry was made
  kept-decided : (sure : Type 0) (k : ℕ) (now : Bool) (reply : Reply) → now ≡ says reply.body before
      → Kept sure false k now [] Stays (End (said reply))
  kept-decided sure k now reply told = kept-said sure false k now reply (λ f. absurd cc) told

  kept-create : (sure : Type 0) (free : Bool) (k : ℕ) (now : Bool) (name : List ℕ) (schema : List Column) (grid : Grid) (memory : Option Priority)
      → now ≡ says (body.Error (fault.Memory k)) before → now ≡ says (body.Error (fault.Memory (suc k))) before
      → ((at : History) (cause : Why) → create_refusal at name ≡ Some cause → now ≡ says (body.Error (fault_of (aim.Creating name) cause)) before)
      → ((table scn : ℕ) → now ≡ says (body.Created table scn) before)
      → Kept sure free k now [] Stays (create_table name schema grid memory)
  kept-create sure free k now name schema grid None lack later refusal told =
      kept-attempt sure free k now [] true (fault_of (aim.Creating name)) (λ at. create_refusal at name) (λ at. what.Create name schema grid)
      (λ at. Stays) created lack refusal (λ at. stays true [] Stays (what.Create name schema grid) (record { cursors = λ h w cs. refl; stays = refl }))
      (λ at. kept-decided _ (suc k) now (settled_reply (length at) (body.Created (length (tables at) + 1) (scn at + 1)))
      (told (length (tables at) + 1) (scn at + 1)))
  kept-create sure free k now name schema grid (Some priority) lack later refusal told =
      kept-attempt sure free k now [] false (fault_of (aim.Creating name)) (λ at. create_refusal at name) (λ at. what.Create name schema grid)
      (λ at. Stays) (λ at. join_memory at priority) lack refusal
      (λ at. stays false [] Stays (what.Create name schema grid) (record { cursors = λ h w cs. refl; stays = refl }))
      (λ at. kept-adds _ free (suc k) now [] [] true (λ here. what.Memory (length (tables at) + 1) (Some priority)) (λ here. Stays)
      (λ here. created at) (λ f. later)
      (λ here. stays true [] Stays (what.Memory (length (tables at) + 1) (Some priority)) (record { cursors = λ h w cs. refl; stays = refl }))
      (λ here. kept-decided _ (suc (suc k)) now (settled_reply (length at) (body.Created (length (tables at) + 1) (scn at + 1)))
      (told (length (tables at) + 1) (scn at + 1))))

  kept-alter : (sure : Type 0) (free : Bool) (k : ℕ) (now : Bool) (table : ℕ) (priority : Option Priority)
      → now ≡ says (body.Error (fault.Memory k)) before → now ≡ says (body.Altered table) before
      → Kept sure free k now [] Stays (alter_table table priority)
  kept-alter sure free k now table priority lack told =
      kept-adds sure free k now [] [] true (λ at. what.Memory table priority) (λ at. Stays) (λ at. answer_at at (body.Altered table)) (λ f. lack)
      (λ at. stays true [] Stays (what.Memory table priority) (record { cursors = λ h w cs. refl; stays = refl }))
      (λ at. kept-decided _ (suc k) now (settled_reply (length at) (body.Altered table)) told)

  kept-add : (sure : Type 0) (free : Bool) (k : ℕ) (now : Bool) (table : ℕ) (column : Column) (default : Value)
      → now ≡ says (body.Error (fault.Memory k)) before
      → ((at : History) (cause : Why) → add_refusal at table column.name ≡ Some cause → now ≡ says (body.Error (fault_of (aim.Adding column.name) cause)) before)
      → now ≡ says (body.Altered table) before
      → Kept sure free k now [] Stays (add_column table column default)
  kept-add sure free k now table column default lack refusal told =
      kept-attempt sure free k now [] true (fault_of (aim.Adding column.name)) (λ at. add_refusal at table column.name)
      (λ at. what.Add table column default) (λ at. Stays) (λ at. answer_at at (body.Altered table)) lack refusal
      (λ at. stays true [] Stays (what.Add table column default) (record { cursors = λ h w cs. refl; stays = refl }))
      (λ at. kept-decided _ (suc k) now (settled_reply (length at) (body.Altered table)) told)

-- ---- statements that define no table

-- a cursor that a statement opens for its session is none of its own
abbrev IsFine : Resolved → Type 0
IsFine (resolved.OpenFor cursor bound) = is_own cursor ≡ false
IsFine _ = ⊤

module _ (fine : Type 0) (who : ℕ) (before free : Bool) (k : ℕ) where
  -- the transaction is still as it was before the line
  abbrev Plain : Type 0 → Plan Outcome → Type 0
  Plain sure plan = IsKept fine sure open_by who before free k before [] Stays plan

  abbrev Scanning : Plan Outcome → Type 0
  Scanning plan = IsKept fine ⊤ open_by who before free k before (OWN_CURSOR ∷ []) Stays plan

  plain-said : (sure : Type 0) (reply : Reply) → before ≡ open_by reply.body before → Plain sure (End (said reply))
  plain-said sure reply told = kept-said fine open_by who before sure free k before reply (λ f. refl) told

  plain-serve : (sure : Type 0) (own : List ℕ) (view : View) (filter : Option (CondOf ℕ Value)) (count extent : ℕ) (marks : List Served)
      (on : List Served → Plan Outcome) → ((marks : List Served) → IsKept fine ⊤ open_by who before free k before own Stays (on marks))
      → IsKept fine sure open_by who before free k before own Stays (serve view filter count extent marks on)
  plain-serve sure own view filter zero extent marks on rest = kept-any fine open_by who before sure free k before own Stays (on marks) (rest marks)
  plain-serve sure own view filter (suc left) extent marks on rest =
      kept-look fine open_by who before sure free k before own _ (λ f. refl)
      (λ at. plain-serve (is_open at who ≡ before) own view filter left (extent + 1) (marks ++ mark_at at view filter extent ∷ []) on rest)

-- the scan ends, and the line with this reply
module _ (fine : Type 0) (who : ℕ) (before : Bool) where
  kept-end : (sure : Type 0) (free : Bool) (k : ℕ) (now : Bool) (reply : Reply) → (free ≡ true → now ≡ before) → now ≡ open_by reply.body before
      → IsKept fine sure open_by who before free k now (OWN_CURSOR ∷ []) Stays (end_scan reply)
  kept-end sure free k now reply lack told =
      kept-adds fine open_by who before sure free k now (OWN_CURSOR ∷ []) [] false (λ at. what.Shut OWN_CURSOR) (λ at. Stays) (λ at. End (said reply))
      lack (λ at. shuts false (OWN_CURSOR ∷ []) OWN_CURSOR refl)
      (λ at. kept-said fine open_by who before _ free (suc k) now reply lack told)

  plain-scan : (sure : Type 0) (free : Bool) (k table columns : ℕ) (asked : Option ℕ) (filter : Option (CondOf ℕ Value))
      (on : History → View → List Served → Plan Outcome)
      → ((at : History) (view : View) (marks : List Served) → Scanning fine who before free (suc k) (on at view marks))
      → Plain fine who before free k sure (scan who table columns asked filter on)
  plain-scan sure free k table columns asked filter on rest =
      kept-attempt fine open_by who before sure free k before (OWN_CURSOR ∷ []) false (fault_of (aim.Opening table OWN_CURSOR))
      (λ at. opening_refusal at who OWN_CURSOR table columns asked) (λ at. what.Open OWN_CURSOR table asked) (λ at. Stays)
      (λ at. serve_from (view_at at who table asked) filter 0 (on at (view_at at who table asked))) refl (λ at cause e. refl)
      (λ at. opens false [] OWN_CURSOR table asked refl)
      (λ at. plain-serve fine who before free (suc k) _ (OWN_CURSOR ∷ []) (view_at at who table asked) filter _ 0 []
      (on at (view_at at who table asked)) (rest at (view_at at who table asked)))

  -- ---- statements that read

  plain-select : (sure : Type 0) (free : Bool) (k columns : ℕ) (bound : Bound) → Plain fine who before free k sure (select who columns bound)
  plain-select sure free k columns bound =
      plain-scan sure free k bound.table columns bound.asked bound.filter (λ at view marks. end_scan (reply at view marks))
      (λ at view marks. kept-end ⊤ free (suc k) before (reply at view marks) (λ f. refl) refl)
    where
      reply : History → View → List Served → Reply
      reply at view marks = served_reply (length at) marks (body.Answer view.scn (answer_of bound (rows_seen at view)))

  plain-explain : (sure : Type 0) (free : Bool) (k columns : ℕ) (bound : Bound) → Plain fine who before free k sure (explain who columns bound)
  plain-explain sure free k columns bound =
      plain-scan sure free k bound.table columns bound.asked bound.filter (λ at view marks. end_scan (reply at view marks))
      (λ at view marks. kept-end ⊤ free (suc k) before (reply at view marks) (λ f. refl) refl)
    where
      reply : History → View → List Served → Reply
      reply at view marks = served_reply (length at) marks (body.Plan view.scn (map explained marks))

  -- ---- statements that write

  written-none : (rewriting : Rewriting) → before ≡ open_by (written rewriting 0) before
  written-none (Updating sets) = refl
  written-none Deleting = refl

  some : (rows : ℕ) → true ≡ (nat_lt 0 (suc rows) || before)
  some rows =
      let is : nat_lt 0 (suc rows) ≡ true = grind (arith, nat_tests) in
      rw is refl

  written-some : (rewriting : Rewriting) (rows : ℕ) → true ≡ open_by (written rewriting (suc rows)) before
  written-some (Updating sets) rows = some rows
  written-some Deleting rows = some rows

  plain-write : (free : Bool) (k : ℕ) (limits : Limits) (place scn : ℕ) (marks : List Served) (changes : List Change) (rewriting : Rewriting)
      → Scanning fine who before free k (write_or_end limits who place scn marks changes (written rewriting))
  plain-write free k limits place scn marks [] rewriting =
      kept-end ⊤ free k before (served_reply place marks (written rewriting 0)) (λ f. refl) (written-none rewriting)
  plain-write free k limits place scn marks (change ∷ changes) rewriting = record {
    tidy = λ at. moved at (write_refusal limits at who scn (change ∷ changes));
    told = λ s. (λ f. refl, λ at is. tell at (write_refusal limits at who scn (change ∷ changes)));
  }
    where
      body_is : Body
      body_is = written rewriting (length (change ∷ changes))

      ending : History → Option Why → Plan Outcome
      ending at o = end_scan (served_reply (length at) marks (or_fault o body_is))

      seen : (at : History) → IsKept fine ⊤ open_by who before false (suc k) true (OWN_CURSOR ∷ []) Stays (ending at None)
      seen at =
          kept-end ⊤ false (suc k) true (served_reply (length at) marks body_is) (λ f. absurd cc) (written-some rewriting (length changes))

      refusing : (at : History) (cause : Why) → IsKept fine ⊤ open_by who before free k before (OWN_CURSOR ∷ []) Stays (ending at (Some cause))
      refusing at cause =
          kept-end ⊤ free k before (served_reply (length at) marks (body.Error (fault_of aim.Plain cause))) (λ f. refl) refl

      moved : (at : History) (o : Option Why)
          → (later : List ℕ) × (does : Effect)
          × Moves fine at who true (OWN_CURSOR ∷ []) Stays (unless_refused o (what.Write (change ∷ changes))) later does
          × IsTidy fine who later does (ending at o)
      moved at None = (
        OWN_CURSOR ∷ [],
        Stays,
        stays true (OWN_CURSOR ∷ []) Stays (what.Write (change ∷ changes)) (record { cursors = λ h w cs. refl; stays = refl }),
        (seen at).tidy,
      )
      moved at (Some cause) = (OWN_CURSOR ∷ [], Stays, none true (OWN_CURSOR ∷ []) Stays, (refusing at cause).tidy)

      tell : (at : History) (o : Option Why)
          → Tells open_by who before (not (true && is_some (unless_refused o (what.Write (change ∷ changes)))) && free)
          (counted (unless_refused o (what.Write (change ∷ changes))) k) (turned before (unless_refused o (what.Write (change ∷ changes))))
          (ending at o)
      tell at None = (seen at).told tt
      tell at (Some cause) = (refusing at cause).told tt

  plain-rewrite : (sure : Type 0) (free : Bool) (k : ℕ) (limits : Limits) (table columns : ℕ) (filter : Option (CondOf ℕ Value)) (rewriting : Rewriting)
      → Plain fine who before free k sure (rewrite limits who table columns filter rewriting)
  plain-rewrite sure free k limits table columns filter rewriting =
      plain-scan sure free k table columns None filter
      (λ at view marks. write_or_end limits who (length at) view.scn marks (changes at view) (written rewriting))
      (λ at view marks. plain-write free (suc k) limits (length at) view.scn marks (changes at view) rewriting)
    where
      changes : History → View → List Change
      changes at view = changes_to table rewriting (kept_rows filter (rows_seen at view))

module _ (fine : Type 0) (who : ℕ) (before free : Bool) (k : ℕ) (sure : Type 0) where
  abbrev Holds : Plan Outcome → Type 0
  Holds plan = Plain fine who before free k sure plan

  keeps-said : (reply : Reply) → before ≡ open_by reply.body before → Holds (End (said reply))
  keeps-said reply told = plain-said fine who before free k sure reply told

  keeps-if : (b : Bool) (first second : Plan Outcome) → Holds first → Holds second → Holds (if b then first else second)
  keeps-if b first second one other = kept-if fine open_by who before sure free k before [] Stays b first second one other

  -- an entry that decides the line, which goes on with its reply
  keeps-decide : (tells : Why → Fault) (refused : History → Option Why) (entry : History → What) (reply : History → Body)
      → ((at : History) → IsApart (entry at)) → ((at : History) → open_behind (entry at) before ≡ open_by (reply at) before)
      → Holds (Turn true (λ at. unless_refused (refused at) (entry at)) (λ at. or_refused tells at (refused at) (answer_at at (reply at))))
  keeps-decide tells refused entry reply apart told =
      kept-attempt fine open_by who before sure free k before [] true tells refused entry (λ at. Stays) (λ at. answer_at at (reply at))
      refl (λ at cause e. refl) (λ at. stays true [] Stays (entry at) (apart at))
      (λ at. kept-decided fine open_by who before _ (suc k) (open_behind (entry at) before) (settled_reply (length at) (reply at)) (told at))

  keeps-insert : (limits : Limits) (table columns : ℕ) (rows : List Row) → Holds (insert limits who table columns rows)
  keeps-insert limits table columns rows =
      keeps-decide (fault_of (aim.Inserting table)) (λ at. inserting_refusal limits at who table columns rows) (λ at. what.Write (inserts table rows at))
      (λ at. body.Inserted (length rows) (given at table)) (λ at. record { cursors = λ h w cs. refl; stays = refl }) (λ at. refl)

  keeps-set_mode : (mode : Mode) → Holds (set_mode who mode)
  keeps-set_mode mode =
      keeps-decide (fault_of aim.Plain) (λ at. begin_refusal at who) (λ at. what.Begin mode) (λ at. body.Begun (scn at))
      (λ at. record { cursors = λ h w cs. refl; stays = refl }) (λ at. refl)

  -- ---- transactions

  -- an entry that nothing refuses decides the line
  keeps-entry : (entry : What) (reply : History → Body) → IsApart entry → ((at : History) → open_behind entry before ≡ open_by (reply at) before)
      → Holds (Turn true (λ at. Some entry) (λ at. answer_at at (reply at)))
  keeps-entry entry reply apart told =
      kept-adds fine open_by who before sure free k before [] [] true (λ at. entry) (λ at. Stays) (λ at. answer_at at (reply at)) (λ f. refl)
      (λ at. stays true [] Stays entry apart)
      (λ at. kept-decided fine open_by who before _ (suc k) (open_behind entry before) (settled_reply (length at) (reply at)) (told at))

  keeps-commit : Holds (Turn true (λ at. Some what.Commit) (λ at. answer_at at (body.Committed (scn at + 1))))
  keeps-commit = keeps-entry what.Commit (λ at. body.Committed (scn at + 1)) (record { cursors = λ h w cs. refl; stays = refl }) (λ at. refl)

  keeps-roll_back : (at : History) → (sure → is_open at who ≡ before) → Holds (roll_back who at)
  keeps-roll_back at is = record { tidy = closed (is_open at who); told = λ s. tell (is_open at who) (is s) }
    where
      rolling : Holds (Turn true (λ here. Some what.Rollback) (λ here. answer_at here body.RolledBack))
      rolling = keeps-entry what.Rollback (λ here. body.RolledBack) (record { cursors = λ h w cs. refl; stays = refl }) (λ here. refl)

      plan : Bool → Plan Outcome
      plan b = if b then Turn true (λ here. Some what.Rollback) (λ here. answer_at here body.RolledBack) else answer_at at body.RolledBack

      closed : (b : Bool) → IsTidy fine who [] Stays (plan b)
      closed true = rolling.tidy
      closed false = (refl, done Stays)

      tell : (b : Bool) → b ≡ before → Tells open_by who before free k before (plan b)
      tell true e = (λ f. refl, λ here i. (λ f. absurd cc, refl))
      tell false e = (λ f. refl, sym e)

  -- ---- cursors

  keeps-open : (cursor columns : ℕ) (bound : Bound) → (fine → is_own cursor ≡ false) → Holds (open_query who cursor columns bound)
  keeps-open cursor columns bound other =
      kept-attempt fine open_by who before sure free k before [] true (fault_of (aim.Opening bound.table cursor))
      (λ at. opening_refusal at who cursor bound.table columns bound.asked)
      (λ at. what.Open cursor bound.table bound.asked) (λ at. Opens (query_opened at who cursor bound)) _ refl (λ at cause e. refl)
      (λ at. keeps cursor bound other)
      (λ at. record { tidy = (refl, done (Opens (query_opened at who cursor bound))); told = λ s. (λ f. absurd cc, refl) })

  keeps-with : (cursor : ℕ) (at : History) (query : Option OpenQuery) (on : OpenQuery → Plan Outcome) → ((query : OpenQuery) → Holds (on query))
      → Holds (with_query cursor at query on)
  keeps-with cursor at (Some query) on rest = rest query
  keeps-with cursor at None on rest = keeps-said (settled_reply (length at) (body.Error (fault.CursorUnknown cursor))) refl

  keeps-step : (state : State) (at : History) (cursor : ℕ) → Holds (step state at cursor)
  keeps-step state at cursor =
      keeps-with cursor at (query_at state cursor) (step_query at) (λ query.
      keeps-if (nat_lt query.next query.view.extents) _ _
      (kept-look fine open_by who before sure free k before []
      (λ here. End (Replied (step_reply (mark_at here query.view query.bound.filter query.next)) (Steps query.cursor))) (λ f. refl)
      (λ here. record { tidy = (refl, steps query.cursor); told = λ s. (λ f. refl, refl) }))
      (keeps-said (settled_reply (length at) (body.End query.cursor)) refl))

module _ (fine : Type 0) (who : ℕ) (before free : Bool) (k : ℕ) where
  keeps-closing : (sure : Type 0) (cursor : ℕ) (reply : History → Reply) → ((at : History) → before ≡ open_by (reply at).body before)
      → Holds fine who before free k sure (close_with cursor reply)
  keeps-closing sure cursor reply told =
      kept-adds fine open_by who before sure free k before [] [] true (λ at. what.Shut cursor) (λ at. Closes cursor)
      (λ at. End (Replied (reply at) (Closes cursor))) (λ f. refl) (λ at. closes cursor)
      (λ at. record { tidy = (refl, done (Closes cursor)); told = λ s. (λ f. absurd cc, told at) })

  keeps-fetch : (sure : Type 0) (state : State) (at : History) (cursor : ℕ) → Holds fine who before free k sure (fetch state at cursor)
  keeps-fetch sure state at cursor =
      keeps-with fine who before free k sure cursor at (query_at state cursor) (fetch_query at) (λ query.
      plain-serve fine who before free k sure [] query.view query.bound.filter (query.view.extents - query.next) query.next []
      (λ marks. close_with query.cursor (λ here. fetch_reply at query marks))
      (λ marks. keeps-closing ⊤ query.cursor (λ here. fetch_reply at query marks) (λ here. refl)))

  keeps-close : (sure : Type 0) (state : State) (at : History) (cursor : ℕ) → Holds fine who before free k sure (close state at cursor)
  keeps-close sure state at cursor =
      keeps-with fine who before free k sure cursor at (query_at state cursor) (λ query. close_query query.cursor) (λ query.
      keeps-closing sure query.cursor (λ here. settled_reply (length here) (body.Closed query.cursor)) (λ here. refl))

  -- ---- every statement

  -- a statement whose names were found at this history
  keeps-resolved : (sure : Type 0) (limits : Limits) (state : State) (at : History) → (sure → is_open at who ≡ before) → (r : Resolved)
      → (fine → IsFine r) → Holds fine who before free k sure (resolved_plan limits who state at r)
  keeps-resolved sure limits state at is (resolved.Select bound) other = plain-select fine who before sure free k (seen_columns at bound.table) bound
  keeps-resolved sure limits state at is (resolved.Explain bound) other = plain-explain fine who before sure free k (seen_columns at bound.table) bound
  keeps-resolved sure limits state at is (resolved.Create name schema grid memory) other =
      kept-create fine open_by who before sure free k before name schema grid memory refl refl (λ at cause e. refl) (λ table scn. refl)
  keeps-resolved sure limits state at is (resolved.Memory table priority) other =
      kept-alter fine open_by who before sure free k before table priority refl refl
  keeps-resolved sure limits state at is (resolved.AddColumn table column default) other =
      kept-add fine open_by who before sure free k before table column default refl (λ at cause e. refl) refl
  keeps-resolved sure limits state at is (resolved.Insert table rows) other =
      keeps-insert fine who before free k sure limits table (seen_columns at table) rows
  keeps-resolved sure limits state at is (resolved.Update table filter sets) other =
      keeps-if fine who before free k sure (forbids_writing (mode at who)) _ _
      (keeps-said fine who before free k sure (settled_reply (length at) (body.Error fault.ReadOnly)) refl)
      (plain-rewrite fine who before sure free k limits table (seen_columns at table) filter (Updating sets))
  keeps-resolved sure limits state at is (resolved.Delete table filter) other =
      keeps-if fine who before free k sure (forbids_writing (mode at who)) _ _
      (keeps-said fine who before free k sure (settled_reply (length at) (body.Error fault.ReadOnly)) refl)
      (plain-rewrite fine who before sure free k limits table (seen_columns at table) filter Deleting)
  keeps-resolved sure limits state at is (resolved.SetMode mode) other = keeps-set_mode fine who before free k sure mode
  keeps-resolved sure limits state at is resolved.Commit other = keeps-commit fine who before free k sure
  keeps-resolved sure limits state at is resolved.Rollback other = keeps-roll_back fine who before free k sure at is
  keeps-resolved sure limits state at is (resolved.OpenFor cursor bound) other =
      keeps-open fine who before free k sure cursor (seen_columns at bound.table) bound other
  keeps-resolved sure limits state at is (resolved.Step cursor) other = keeps-step fine who before free k sure state at cursor
  keeps-resolved sure limits state at is (resolved.Fetch cursor) other = keeps-fetch sure state at cursor
  keeps-resolved sure limits state at is (resolved.Close cursor) other = keeps-close sure state at cursor
  keeps-resolved sure limits state at is _ other = keeps-said fine who before free k sure (settled_reply (length at) body.Nothing) refl

  keeps-found : (sure : Type 0) (limits : Limits) (state : State) (at : History) → (sure → is_open at who ≡ before) → (r : Result Resolved NameFault)
      → (fine → IfOk r IsFine) → Holds fine who before free k sure (found_plan limits who state at r)
  keeps-found sure limits state at is (Ok r) other = keeps-resolved sure limits state at is r other
  keeps-found sure limits state at is (Err fault) other =
      keeps-said fine who before free k sure (settled_reply (length at) (body.Error (name_fault fault))) refl

-- a cursor that the language lets a session open is none of a statement's own
other-own : (cursor : ℕ) → 1 ≤ cursor → is_own cursor ≡ false
other-own cursor some =
    let no : (cursor == OWN_CURSOR) ≡ false = grind (arith, nat_tests, some) in
    rw no refl

fine-answer : (known : List TableInfo) (s : Stmt) → IsStmt s → IfOk (resolution known s) IsFine
fine-answer known (stmt.Select q) is = formed-each IsFine resolved.Select (λ bound. tt) (query_answer known q)
fine-answer known (stmt.Explain q) is = formed-each IsFine resolved.Explain (λ bound. tt) (query_answer known q)
fine-answer known (stmt.OpenFor cursor q) is =
    formed-each IsFine (resolved.OpenFor cursor) (λ bound. other-own cursor is.0.low_end) (query_answer known q)
fine-answer known (stmt.Create name columns block extent memory) is = unless-each IsFine _ _ tt
fine-answer known (stmt.AlterMemory name memory) is = of_table-each IsFine (table_called known name) name _ (λ table. tt)
fine-answer known (stmt.AlterNoMemory name) is = of_table-each IsFine (table_called known name) name _ (λ table. tt)
fine-answer known (stmt.AddColumn name part default) is = of_table-each IsFine (table_called known name) name _ (λ table. unless-each IsFine _ _ tt)
fine-answer known (stmt.Insert name names tuples) is = of_table-each IsFine (table_called known name) name _ (λ table. unless-each IsFine _ _ tt)
fine-answer known (stmt.Update name sets cond) is = of_table-each IsFine (table_called known name) name _ (λ table. unless-each IsFine _ _ tt)
fine-answer known (stmt.Delete name cond) is = of_table-each IsFine (table_called known name) name _ (λ table. unless-each IsFine _ _ tt)
fine-answer known (stmt.Evict name extent) is = of_table-each IsFine (table_called known name) name _ (λ table. tt)
fine-answer known _ is = tt

-- a statement that defines no table
pub kept-statement : (who : ℕ) (before : Bool) (limits : Limits) (state : State) (s : Stmt)
    → IsKept (IsStmt s) ⊤ open_by who before true 0 before [] Stays (looked_up limits who state s)
kept-statement who before limits state s =
    kept-look (IsStmt s) open_by who before ⊤ true 0 before [] _ (λ f. refl)
    (λ at. keeps-found (IsStmt s) who before true 0 (is_open at who ≡ before) limits state at (λ is. is) (resolution (tables at) s)
    (fine-answer (tables at) s))

-- ---- statements that define a table

-- running out of memory after k entries says that no transaction is open
abbrev IsLost : Bool → ℕ → Type 0
IsLost before k = false ≡ ((k == 0) && before)

-- and a fault of names says so
abbrev IsNamed : Bool → Option NameFault → Type 0
IsNamed before None = ⊤
IsNamed before (Some fault) = false ≡ open_by_definition (body.Error (name_fault fault)) before

-- and a cause that refuses a creation
abbrev IsRefused : Bool → List ℕ → Option Why → Type 0
IsRefused before name None = ⊤
IsRefused before name (Some cause) = false ≡ open_by_definition (body.Error (fault_of (aim.Creating name) cause)) before

-- and a cause that refuses one more column
abbrev IsUnadded : Bool → List ℕ → Option Why → Type 0
IsUnadded before name None = ⊤
IsUnadded before name (Some cause) = false ≡ open_by_definition (body.Error (fault_of (aim.Adding name) cause)) before

repeated-named : (before : Bool) (earlier names : List (List ℕ)) → IsNamed before (first_fault (with_earlier repeated earlier names))
repeated-named before earlier [] = tt
repeated-named before earlier (name ∷ names) = by (is_among earlier name) (repeated-named before (earlier ++ name ∷ []) names)
  where
    later : Option NameFault
    later = first_fault (with_earlier repeated (earlier ++ name ∷ []) names)

    by : (b : Bool) → IsNamed before later → IsNamed before (option_or (if b then Some (RepeatedColumn name) else None) later)
    by true rest = refl
    by false rest = rest

creation-refused : (before : Bool) (name : List ℕ) (at : History) → IsRefused before name (create_refusal at name)
creation-refused before name at = by (table_named at name) _
  where
    by : (table : Option ℕ) (full : Bool) → IsRefused before name (option_or (option_map (λ t. why.TableExists t) table) (when full why.TooManyTables))
    by (Some table) full = refl
    by None true = refl
    by None false = tt

addition-refused : (before : Bool) (table : ℕ) (name : List ℕ) (at : History) → IsUnadded before name (add_refusal at table name)
addition-refused before table name at = by (list_any (is_column name) (schema_of (table_at at table))) _
  where
    by : (stands full : Bool) → IsUnadded before name (option_or (when stands why.ColumnExists) (when full why.TooManyColumns))
    by true full = refl
    by false true = refl
    by false false = tt

-- a column that may not be added has a fault that says so
named-either : (before : Bool) (first second : Option NameFault) → IsNamed before first → IsNamed before second → IsNamed before (option_or first second)
named-either before None second one other = other
named-either before (Some fault) second one other = one

long-named : (before : Bool) (name : List ℕ) (kind_is : Kind) (value_is : Value) → IsNamed before (too_long name kind_is value_is)
long-named before name (kind.Text limit) (value.Text t) = by (nat_le (length t) limit)
  where
    by : (b : Bool) → IsNamed before (if b then None else Some (TooLong name (length t) limit))
    by true = tt
    by false = refl
long-named before name (kind.Text limit) (value.Int n) = tt
long-named before name (kind.Text limit) value.Null = tt
long-named before name kind.Int v = tt

added-named : (before : Bool) (columns : List Column) (column : Column) (default : Value) → IsNamed before (added_fault columns column default)
added-named before columns column default =
    named-either before (standing columns column.name) (stored default column) (stands (has_column columns column.name))
    (named-either before (compared default column) (too_long column.name column.kind default) (other (is_other column.kind default))
    (long-named before column.name column.kind default))
  where
    stands : (b : Bool) → IsNamed before (if b then Some (RepeatedColumn column.name) else None)
    stands true = refl
    stands false = tt

    other : (b : Bool) → IsNamed before (if b then Some (WrongKind column.name) else None)
    other true = refl
    other false = tt

-- no transaction is open any more: k entries were made, and with one more there is none either
module _ (fine : Type 0) (who : ℕ) (before : Bool) (k : ℕ) (lost : IsLost before k) (later : IsLost before (suc k)) (limits : Limits) (state : State)
    (at : History) where
  abbrev Defines : Plan Outcome → Type 0
  Defines plan = IsKept fine ⊤ open_by_definition who before true k false [] Stays plan

  defines-fault : (fault : NameFault) → false ≡ open_by_definition (body.Error (name_fault fault)) before
      → Defines (found_plan limits who state at (Err fault))
  defines-fault fault told =
      kept-said fine open_by_definition who before ⊤ true k false (settled_reply (length at) (body.Error (name_fault fault))) (λ f. lost) told

  defines-create : (faulty : Option NameFault) (name : List ℕ) (schema : List Column) (grid : Grid) (memory : Option Priority) → IsNamed before faulty
      → Defines (found_plan limits who state at (unless faulty (resolved.Create name schema grid memory)))
  defines-create None name schema grid memory named =
      kept-create fine open_by_definition who before ⊤ true k false name schema grid memory lost later
      (λ here cause e. subst (IsRefused before name) e (creation-refused before name here)) (λ table scn. refl)
  defines-create (Some fault) name schema grid memory named = defines-fault fault named

  defines-memory : (found : Option TableInfo) (name : List ℕ) (number : ℕ) (priority : Option Priority)
      → Defines (found_plan limits who state at (of_table found name (λ table. Ok (resolved.Memory number priority))))
  defines-memory None name number priority = defines-fault (UnknownTable name) refl
  defines-memory (Some table) name number priority =
      kept-alter fine open_by_definition who before ⊤ true k false number priority lost refl

  defines-add : (found : Option TableInfo) (name : List ℕ) (number : ℕ) (column : Column) (default : Value)
      → Defines (found_plan limits who state at
      (of_table found name (λ table. unless (added_fault table.schema column default) (resolved.AddColumn number column default))))
  defines-add None name number column default = defines-fault (UnknownTable name) refl
  defines-add (Some table) name number column default =
      by (added_fault table.schema column default) (added-named before table.schema column default)
    where
      by : (faulty : Option NameFault) → IsNamed before faulty
          → Defines (found_plan limits who state at (unless faulty (resolved.AddColumn number column default)))
      by None named =
          kept-add fine open_by_definition who before ⊤ true k false number column default lost
          (λ here cause e. subst (IsUnadded before column.name) e (addition-refused before number column.name here)) refl
      by (Some fault) named = defines-fault fault named

  defines-named : (s : Stmt) → is_definition s ≡ true → Defines (named_plan limits who state s at)
  defines-named (stmt.Create name columns block extent memory) is = defines-create _ name _ _ _ (repeated-named before [] (map column_name columns))
  defines-named (stmt.AlterMemory name memory) is = defines-memory (table_called (tables at) name) name _ _
  defines-named (stmt.AlterNoMemory name) is = defines-memory (table_called (tables at) name) name _ _
  defines-named (stmt.AddColumn name part default) is = defines-add (table_called (tables at) name) name _ (column_of part) (default_of default)
  defines-named _ is = absurd cc

-- a definition commits an open transaction first
pub kept-definition : (fine : Type 0) (who : ℕ) (before : Bool) (limits : Limits) (state : State) (s : Stmt) → is_definition s ≡ true
    → IsKept fine ⊤ open_by_definition who before true 0 before [] Stays (definition_plan limits who state s)
kept-definition fine who before limits state s definition =
    kept-look fine open_by_definition who before ⊤ true 0 before [] _ (λ f. refl)
    (λ at. record { tidy = tidy at (is_open at who); told = λ is. tell at (is_open at who) is })
  where
    committing : Plan Outcome
    committing = Turn false (λ here. Some what.Commit) (λ here. looked_up limits who state s)

    plan : History → Bool → Plan Outcome
    plan at b = if b then committing else named_plan limits who state s at

    committed : IsKept fine ⊤ open_by_definition who true true 0 true [] Stays committing
    committed =
        kept-adds fine open_by_definition who true ⊤ true 0 true [] [] false (λ here. what.Commit) (λ here. Stays) _ (λ f. refl)
        (λ here. stays false [] Stays what.Commit (record { cursors = λ h w cs. refl; stays = refl }))
        (λ here. kept-look fine open_by_definition who true _ true 1 false [] _ (λ f. refl)
        (λ there. kept-any fine open_by_definition who true _ true 1 false [] Stays _
        (defines-named fine who true 1 refl refl limits state there s definition)))

    named : (at : History) → IsKept fine ⊤ open_by_definition who false true 0 false [] Stays (named_plan limits who state s at)
    named at = defines-named fine who false 0 refl refl limits state at s definition

    tidy : (at : History) (b : Bool) → IsTidy fine who [] Stays (plan at b)
    tidy at true = committed.tidy
    tidy at false = (named at).tidy

    tell : (at : History) (b : Bool) → b ≡ before → Tells open_by_definition who before true 0 before (plan at b)
    tell at true e = subst (λ (was : Bool). Tells open_by_definition who was true 0 was committing) e (committed.told tt)
    tell at false e = subst (λ (was : Bool). Tells open_by_definition who was true 0 was (named_plan limits who state s at)) e ((named at).told tt)
