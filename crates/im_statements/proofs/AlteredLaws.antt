-- A line that is refused since a table got columns tells of the last of them, which others added after the line began.
use Rattle.std.proofs.Common.{◌≡◌, ℕ, zero, suc, ◌+◌, ◌-◌, ◌≤◌, Bool, true, false, if◌then◌else◌, List, [], ◌∷◌, ◌++◌, length, map, slice_get, nat_lt, Option, Some, None, Result, Ok, Err, refl, sym, ap, ◌∙◌, subst, inl, inr, append-nil, length-append, arith}
use Rattle.std.specs.List.{find, position_from}
use Rattle.std.specs.Option.{option_or}
use Rattle.std.specs.Prelude.{⊤}
use Rattle.std.specs.Result.{IfOk}
use Rattle.im_values.specs.declared.priority.Priority.{Priority}
use Rattle.im_values.specs.declared.schema.Column.{Column}
use Rattle.im_values.specs.declared.content.Content.{Content as Value}
use Rattle.im_group.specs.Answers.{answer}
use Rattle.im_history.specs.declared.change.Change.{Change}
use Rattle.im_history.specs.declared.cursors.TheConstants.{OWN_CURSOR}
use Rattle.im_history.specs.declared.entry.What.{What}
use Rattle.im_history.specs.declared.entry.What.TheVariants as what
use Rattle.im_history.specs.declared.limits.Limits.{Limits}
use Rattle.im_history.specs.declared.look.TableInfo.{TableInfo}
use Rattle.im_history.specs.declared.refused.Why.{Why}
use Rattle.im_history.specs.declared.refused.Why.TheVariants as why
use Rattle.im_history.specs.declared.view.View.{View}
use Rattle.im_history.specs.Cursors.{is_cursor_open, own_cursors}
use Rattle.im_history.specs.Commits.{scn}
use Rattle.im_history.specs.Grid.{Grid}
use Rattle.im_history.specs.History.{History}
use Rattle.im_history.specs.Horizon.{horizon}
use Rattle.im_history.specs.Legal.{Exists}
use Rattle.im_history.specs.Refusals.{add_refusal, altered, begin_refusal, asked_refusal, create_refusal, forbids_writing, insert_refusal, open_refusal, when, write_refusal}
use Rattle.im_history.specs.Rows.{Row}
use Rattle.im_history.specs.Tables.{is_named, tables}
use Rattle.im_history.specs.Transactions.{is_open, mode}
use Rattle.im_history.specs.Views.{view_at}
use Rattle.im_names.specs.declared.fault.NameFault.{NameFault}
use Rattle.im_names.specs.declared.fault.NameFault.TheVariants as names
use Rattle.im_names.specs.declared.resolved.Resolved.{Resolved}
use Rattle.im_names.specs.declared.resolved.Resolved.TheVariants as resolved
use Rattle.im_names.specs.Conditions.{filter_of}
use Rattle.im_names.specs.Faults.{formed, unless}
use Rattle.im_names.specs.Lookups.{of_table, table_called, table_number}
use Rattle.im_names.specs.Queries.{bound_of, query_fault}
use Rattle.im_names.specs.Rows.{delete_fault, insert_fault, rows_of, set_of, update_fault}
use Rattle.im_names.specs.Statements.{resolution}
use Rattle.im_plan.specs.Goes.{After, Goes, Lacks, Others}
use Rattle.im_plan.specs.Plan.{Plan, End, Turn, counted, made}
use Rattle.im_replies.specs.declared.aim.Aim.TheVariants as aim
use Rattle.im_replies.specs.declared.body.Body.{Body}
use Rattle.im_replies.specs.declared.body.Body.TheVariants as body
use Rattle.im_replies.specs.declared.fault.Fault.{Fault}
use Rattle.im_replies.specs.declared.fault.Fault.TheVariants as fault
use Rattle.im_replies.specs.declared.reply.Reply.{Reply}
use Rattle.im_replies.specs.declared.served.Served.{Served}
use Rattle.im_replies.specs.Causes.{fault_of, name_fault}
use Rattle.im_syntax.specs.declared.bound.Bound.{Bound}
use Rattle.im_syntax.specs.declared.statement.Stmt.{Stmt}
use Rattle.im_syntax.specs.declared.statement.Stmt.TheVariants as stmt
use Rattle.im_syntax.specs.Condition.{CondOf}
use Rattle.im_plan.specs.Altered.{GotColumn}
use Rattle.im_plan.proofs.AlteredLaws.{got-column}
use Rattle.im_statements.specs.Altered.{TellColumns, TellNoColumns, WasAltered}
use Rattle.im_statements.specs.Cursors.{close, close_query, fetch, fetch_query, open_query, step, step_query, with_query}
use Rattle.im_statements.specs.Definitions.{add_column, alter_table, commit, create_table, roll_back, set_mode}
use Rattle.im_statements.specs.Outcomes.{Effect, OpenQuery, Outcome, Replied, State, query_at, said}
use Rattle.im_statements.specs.Scans.{end_scan, explained, mark_at, rows_seen, scan, serve, serve_from}
use Rattle.im_statements.specs.Statements.{definition_plan, found_plan, is_definition, looked_up, named_plan, resolved_plan, seen_columns, statement_plan}
use Rattle.im_statements.specs.Turns.{amends, answer_at, memory_reply, or_refused, served_reply, shut_each, unless_refused}
use Rattle.im_statements.specs.Writes.{changes_to, insert, inserts, kept_rows, or_fault, rewrite, unless_read_only, write_or_end, written}
use Rattle.im_statements.proofs.AnswerLaws.{of_table-each, unless-each}
use Rattle.im_statements.specs.declared.rewriting.Rewriting.{Rewriting}
use Rattle.im_statements.specs.declared.rewriting.Rewriting.TheVariants.{Updating, Deleting}

-- ---- faults

-- the body says that a table got a column
abbrev Says : Body → ℕ → ℕ → Type 0
Says said table place = said ≡ body.Error (fault.TableAltered table place)

the_fault : {a b : Fault} → body.Error a ≡ body.Error b → a ≡ b
the_fault is = cc

-- only an opening and an insert are refused so
plain-fault : (cause : Why) (t p : ℕ) → fault_of aim.Plain cause ≡ fault.TableAltered t p → ⊥
plain-fault (why.Altered place) t p is = absurd cc
plain-fault _ t p is = absurd cc

creating-fault : (name : List ℕ) (cause : Why) (t p : ℕ) → fault_of (aim.Creating name) cause ≡ fault.TableAltered t p → ⊥
creating-fault name (why.TableExists table) t p is = absurd cc
creating-fault name _ t p is = absurd cc

adding-fault : (name : List ℕ) (cause : Why) (t p : ℕ) → fault_of (aim.Adding name) cause ≡ fault.TableAltered t p → ⊥
adding-fault name why.ColumnExists t p is = absurd cc
adding-fault name _ t p is = absurd cc

opening-fault : (table cursor : ℕ) (cause : Why) (t p : ℕ) → fault_of (aim.Opening table cursor) cause ≡ fault.TableAltered t p
    → (t ≡ table) × (cause ≡ why.Altered p)
opening-fault table cursor (why.Altered place) t p is = (cc, cc)
opening-fault table cursor _ t p is = absurd cc

inserting-fault : (table : ℕ) (cause : Why) (t p : ℕ) → fault_of (aim.Inserting table) cause ≡ fault.TableAltered t p
    → (t ≡ table) × (cause ≡ why.Altered p)
inserting-fault table (why.Altered place) t p is = (cc, cc)
inserting-fault table _ t p is = absurd cc

named-fault : (cause : NameFault) (t p : ℕ) → name_fault cause ≡ fault.TableAltered t p → ⊥
named-fault (names.UnknownTable name) t p is = absurd cc
named-fault _ t p is = absurd cc

-- ---- causes

-- a cause that is not of the second kind is the first's
first-only : (first second : Option Why) (cause : Why) → (second ≡ Some cause → ⊥) → option_or first second ≡ Some cause → first ≡ Some cause
first-only None second cause never is = absurd (never is)
first-only (Some found) second cause never is = is

when-other : (b : Bool) (other : Why) (p : ℕ) → (other ≡ why.Altered p → ⊥) → when b other ≡ Some (why.Altered p) → ⊥
when-other true other p apart is = apart cc
when-other false other p apart is = absurd cc

either-other : (first second : Option Why) (cause : Why) → (first ≡ Some cause → ⊥) → (second ≡ Some cause → ⊥) → option_or first second ≡ Some cause → ⊥
either-other first second cause one other is = one (first-only first second cause other is)

asked-other : (h : History) (asked : Option ℕ) (p : ℕ) → asked_refusal h asked ≡ Some (why.Altered p) → ⊥
asked-other h None p is = absurd cc
asked-other h (Some asked) p is =
    either-other (when (nat_lt (scn h) asked) (why.NoSuchScn asked (scn h))) _ (why.Altered p)
    (when-other _ (why.NoSuchScn asked (scn h)) p (λ e. absurd cc))
    (when-other _ (why.SnapshotTooOld asked (horizon h)) p (λ e. absurd cc)) is

open-other : (h : History) (who cursor : ℕ) (asked : Option ℕ) (p : ℕ) → open_refusal h who cursor asked ≡ Some (why.Altered p) → ⊥
open-other h who cursor asked p =
    either-other (when (is_cursor_open h who cursor) why.CursorOpen) _ (why.Altered p) (when-other _ why.CursorOpen p (λ is. absurd cc))
    (either-other _ _ (why.Altered p) (when-other _ why.TooManyCursors p (λ is. absurd cc)) (asked-other h asked p))

insert-other : (limits : Limits) (h : History) (who : ℕ) (changes : List Change) (p : ℕ) → insert_refusal limits h who changes ≡ Some (why.Altered p) → ⊥
insert-other limits h who changes p =
    either-other (when (forbids_writing (mode h who)) why.ReadOnly) _ (why.Altered p) (when-other _ why.ReadOnly p (λ is. absurd cc))
    (either-other _ _ (why.Altered p) (when-other _ (why.TooManyChanges _ _) p (λ is. absurd cc))
    (when-other _ (why.StoreFull _ _) p (λ is. absurd cc)))

module _ (mine : ℕ → Bool) (known : ℕ) where
  -- a table that has other columns than a look showed got its last one from others behind it
  got-seen : (seen at : History) (table place : ℕ) → Exists seen table → known ≤ length seen → After (Others mine) seen at
      → altered at table (seen_columns seen table) ≡ Some (why.Altered place) → GotColumn mine known table place at
  got-seen seen at table place exists long after is =
      got-column mine (Others mine) known seen at table (seen_columns seen table) place long exists refl (λ between others. others.apart) after is

  -- ---- plans

  -- what a line says of a table's columns is so at this history
  abbrev IsSo : History → Outcome → Type 0
  IsSo at (Replied reply effect) =
      (table place : ℕ) → Says reply.body table place → (reply.place ≡ Some (length at)) × GotColumn mine known table place at

  -- and so wherever the plan ends, from this history on
  abbrev Tells : ℕ → History → Plan Outcome → Type 0
  Tells who old (End outcome) = IsSo old outcome
  Tells who old (Turn decides adds on) = (at : History) → After (Others mine) old at → Tells who (at ++ made who (adds at)) (on at)

  goes-tells : (who : ℕ) (old : History) (plan : Plan Outcome) (reply : Reply) (effect : Effect) (new : History) (table place : ℕ)
      → Says reply.body table place → Tells who old plan → Goes (Others mine) who old plan (Replied reply effect) new
      → WasAltered mine known table place reply new
  goes-tells who old (End outcome) reply effect new table place says tells goes =
      let so = subst (IsSo old) (sym goes.value_is) tells table place says in
      record { at = old; settled = so.0; got = so.1; after = goes.after }
  goes-tells who old (Turn decides adds on) reply effect new table place says tells goes =
      goes-tells who (goes.0 ++ made who (adds goes.0)) (on goes.0) reply effect new table place says (tells goes.0 goes.1) goes.2

  lacks-tells : (who k : ℕ) (old : History) (plan : Plan Outcome) (reply : Reply) (effect : Effect) (new : History) (table place : ℕ)
      → Says reply.body table place → ((n : ℕ) (h : History) → Tells who h (amends who n)) → Tells who old plan
      → Lacks (Others mine) who (amends who) k old plan (Replied reply effect) new → WasAltered mine known table place reply new
  lacks-tells who k old (End outcome) reply effect new table place says amended tells lacks =
      goes-tells who old (amends who k) reply effect new table place says (amended k old) lacks
  lacks-tells who k old (Turn decides adds on) reply effect new table place says amended tells lacks = elim lacks [
    | inl goes ↦ goes-tells who old (amends who k) reply effect new table place says (amended k old) goes
    | inr later ↦
        lacks-tells who (counted (adds later.0) k) (later.0 ++ made who (adds later.0)) (on later.0) reply effect new table place says amended
        (tells later.0 later.1) later.3
  ]

  -- ---- plans that say nothing of columns

  abbrev IsQuiet : Outcome → Type 0
  IsQuiet (Replied reply effect) = (table place : ℕ) → Says reply.body table place → ⊥

  abbrev Never : Plan Outcome → Type 0
  Never (End outcome) = IsQuiet outcome
  Never (Turn decides adds on) = (at : History) → Never (on at)

  quiet-so : (at : History) (outcome : Outcome) → IsQuiet outcome → IsSo at outcome
  quiet-so at (Replied reply effect) quiet = λ table place says. absurd (quiet table place says)

  never-tells : (who : ℕ) (old : History) (plan : Plan Outcome) → Never plan → Tells who old plan
  never-tells who old (End outcome) never = quiet-so old outcome never
  never-tells who old (Turn decides adds on) never = λ at after. never-tells who (at ++ made who (adds at)) (on at) (never at)

  never-if : (b : Bool) (first second : Plan Outcome) → Never first → Never second → Never (if b then first else second)
  never-if true first second one other = one
  never-if false first second one other = other

  never-shut : (who k : ℕ) (cursors : List ℕ) → Never (shut_each who cursors (End (said (memory_reply k))))
  never-shut who k [] = λ table place says. absurd cc
  never-shut who k (cursor ∷ cursors) = λ at. never-shut who k cursors

  never-attempt : (decides : Bool) (tells : Why → Fault) (refused : History → Option Why) (entry : History → What) (on : History → Plan Outcome)
      → ((cause : Why) (t p : ℕ) → tells cause ≡ fault.TableAltered t p → ⊥) → ((at : History) → Never (on at))
      → Never (Turn decides (λ at. unless_refused (refused at) (entry at)) (λ at. or_refused tells at (refused at) (on at)))
  never-attempt decides tells refused entry on apart rest = λ at. by at (refused at)
    where
      by : (at : History) (o : Option Why) → Never (or_refused tells at o (on at))
      by at None = rest at
      by at (Some cause) = λ t p says. apart cause t p (the_fault says)

  never-serve : (view : View) (filter : Option (CondOf ℕ Value)) (count extent : ℕ) (marks : List Served) (on : List Served → Plan Outcome)
      → ((marks : List Served) → Never (on marks)) → Never (serve view filter count extent marks on)
  never-serve view filter zero extent marks on rest = rest marks
  never-serve view filter (suc left) extent marks on rest = λ at. never-serve view filter left (extent + 1) (marks ++ mark_at at view filter extent ∷ []) on rest

  never-write : (limits : Limits) (who place scn : ℕ) (marks : List Served) (changes : List Change) (rewriting : Rewriting)
      → Never (write_or_end limits who place scn marks changes (written rewriting))
  never-write limits who place scn marks [] rewriting = λ at t p says. quiet rewriting 0 t p says
    where
      quiet : (rewriting : Rewriting) (rows t p : ℕ) → Says (written rewriting rows) t p → ⊥
      quiet (Updating sets) rows t p says = absurd cc
      quiet Deleting rows t p says = absurd cc
  never-write limits who place scn marks (change ∷ changes) rewriting = λ at here t p says.
      by (write_refusal limits at who scn (change ∷ changes)) rewriting t p says
    where
      by : (o : Option Why) (rewriting : Rewriting) (t p : ℕ) → Says (or_fault o (written rewriting (length (change ∷ changes)))) t p → ⊥
      by None (Updating sets) t p says = absurd cc
      by None Deleting t p says = absurd cc
      by (Some cause) rewriting t p says = plain-fault cause t p (the_fault says)

  never-create : (name : List ℕ) (schema : List Column) (grid : Grid) (memory : Option Priority) → Never (create_table name schema grid memory)
  never-create name schema grid None =
      never-attempt true (fault_of (aim.Creating name)) (λ at. create_refusal at name) (λ at. what.Create name schema grid) _ (creating-fault name)
      (λ at t p says. absurd cc)
  never-create name schema grid (Some priority) =
      never-attempt false (fault_of (aim.Creating name)) (λ at. create_refusal at name) (λ at. what.Create name schema grid) _ (creating-fault name)
      (λ at here t p says. absurd cc)

  never-add : (table : ℕ) (column : Column) (default : Value) → Never (add_column table column default)
  never-add table column default =
      never-attempt true (fault_of (aim.Adding column.name)) (λ at. add_refusal at table column.name) (λ at. what.Add table column default) _
      (adding-fault column.name) (λ at t p says. absurd cc)

  never-with : (cursor : ℕ) (at : History) (query : Option OpenQuery) (on : OpenQuery → Plan Outcome) → ((query : OpenQuery) → Never (on query))
      → Never (with_query cursor at query on)
  never-with cursor at (Some query) on rest = rest query
  never-with cursor at None on rest = λ t p says. absurd cc

  never-step : (state : State) (at : History) (cursor : ℕ) → Never (step state at cursor)
  never-step state at cursor =
      never-with cursor at (query_at state cursor) (step_query at)
      (λ query. never-if (nat_lt query.next query.view.extents) _ _ (λ here t p says. absurd cc) (λ t p says. absurd cc))

  never-fetch : (state : State) (at : History) (cursor : ℕ) → Never (fetch state at cursor)
  never-fetch state at cursor =
      never-with cursor at (query_at state cursor) (fetch_query at) (λ query.
      never-serve query.view query.bound.filter (query.view.extents - query.next) query.next [] _ (λ marks here t p says. absurd cc))

  never-close : (state : State) (at : History) (cursor : ℕ) → Never (close state at cursor)
  never-close state at cursor = never-with cursor at (query_at state cursor) (λ query. close_query query.cursor) (λ query here t p says. absurd cc)

  -- ---- entries that are refused where the table got columns

  module _ (who : ℕ) (seen : History) (long : known ≤ length seen) (table : ℕ) (exists : Exists seen table) where
    told-refused : (decides : Bool) (tells : Why → Fault) (other : History → Option Why) (entry : History → What) (on : History → Plan Outcome)
        → ((cause : Why) (t p : ℕ) → tells cause ≡ fault.TableAltered t p → (t ≡ table) × (cause ≡ why.Altered p))
        → ((at : History) (p : ℕ) → other at ≡ Some (why.Altered p) → ⊥) → ((at : History) → Never (on at))
        → Tells who (seen ++ [])
        (Turn decides (λ at. unless_refused (option_or (altered at table (seen_columns seen table)) (other at)) (entry at))
        (λ at. or_refused tells at (option_or (altered at table (seen_columns seen table)) (other at)) (on at)))
    told-refused decides tells other entry on names apart rest = λ at after.
        by at (subst (λ (h : History). After (Others mine) h at) (append-nil seen) after)
        (option_or (altered at table (seen_columns seen table)) (other at)) refl
      where
        so : (at : History) → After (Others mine) seen at → (cause : Why)
            → option_or (altered at table (seen_columns seen table)) (other at) ≡ Some cause → (t p : ℕ) → tells cause ≡ fault.TableAltered t p
            → GotColumn mine known t p at
        so at after cause e t p is =
            let named = names cause t p is in
            subst (λ (n : ℕ). GotColumn mine known n p at) (sym named.0)
            (got-seen seen at table p exists long after
            (first-only (altered at table (seen_columns seen table)) (other at) (why.Altered p) (apart at p) (e ∙ ap Some named.1)))

        by : (at : History) → After (Others mine) seen at → (o : Option Why)
            → option_or (altered at table (seen_columns seen table)) (other at) ≡ o
            → Tells who (at ++ made who (unless_refused o (entry at))) (or_refused tells at o (on at))
        by at after None e = never-tells who _ (on at) (rest at)
        by at after (Some cause) e = λ t p says.
            subst (λ (h : History). (Some (length at) ≡ Some (length h)) × GotColumn mine known t p h) (sym (append-nil at))
            (refl, so at after cause e t p (the_fault says))

    told-scan : (asked : Option ℕ) (filter : Option (CondOf ℕ Value)) (on : History → View → List Served → Plan Outcome)
        → ((at : History) (view : View) (marks : List Served) → Never (on at view marks))
        → Tells who (seen ++ []) (scan who table (seen_columns seen table) asked filter on)
    told-scan asked filter on rest =
        told-refused false (fault_of (aim.Opening table OWN_CURSOR)) (λ at. open_refusal at who OWN_CURSOR asked)
        (λ at. what.Open OWN_CURSOR table asked) (λ at. serve_from (view at) filter 0 (on at (view at))) (opening-fault table OWN_CURSOR)
        (λ at. open-other at who OWN_CURSOR asked) (λ at. never-serve (view at) filter _ 0 [] (on at (view at)) (rest at (view at)))
      where
        view : History → View
        view at = view_at at who table asked

  told-read : (who : ℕ) (seen : History) → known ≤ length seen → (table : ℕ) (asked : Option ℕ) (filter : Option (CondOf ℕ Value)) → Exists seen table
      → (reply : History → View → List Served → Reply)
      → ((at : History) (view : View) (marks : List Served) (t p : ℕ) → Says (reply at view marks).body t p → ⊥)
      → Tells who (seen ++ []) (scan who table (seen_columns seen table) asked filter (λ at view marks. end_scan (reply at view marks)))
  told-read who seen long table asked filter exists reply quiet =
      told-scan who seen long table exists asked filter (λ at view marks. end_scan (reply at view marks)) (λ at view marks here. quiet at view marks)

  told-open : (who : ℕ) (seen : History) → known ≤ length seen → (cursor : ℕ) (bound : Bound) → Exists seen bound.table
      → Tells who (seen ++ []) (open_query who cursor (seen_columns seen bound.table) bound)
  told-open who seen long cursor bound exists =
      told-refused who seen long bound.table exists true (fault_of (aim.Opening bound.table cursor)) (λ at. open_refusal at who cursor bound.asked)
      (λ at. what.Open cursor bound.table bound.asked) _ (opening-fault bound.table cursor) (λ at. open-other at who cursor bound.asked)
      (λ at t p says. absurd cc)

  told-insert : (limits : Limits) (who : ℕ) (seen : History) → known ≤ length seen → (table : ℕ) (rows : List Row) → Exists seen table
      → Tells who (seen ++ []) (insert limits who table (seen_columns seen table) rows)
  told-insert limits who seen long table rows exists =
      told-refused who seen long table exists true (fault_of (aim.Inserting table)) (λ at. insert_refusal limits at who (inserts table rows at))
      (λ at. what.Write (inserts table rows at)) _ (inserting-fault table) (λ at. insert-other limits at who (inserts table rows at))
      (λ at t p says. absurd cc)

  told-rewrite : (limits : Limits) (who : ℕ) (seen : History) → known ≤ length seen → (table : ℕ) (filter : Option (CondOf ℕ Value)) (rewriting : Rewriting)
      → Exists seen table → Tells who (seen ++ []) (unless_read_only who seen (rewrite limits who table (seen_columns seen table) filter rewriting))
  told-rewrite limits who seen long table filter rewriting exists = by (forbids_writing (mode seen who))
    where
      changes : History → View → List Change
      changes at view = changes_to table rewriting (kept_rows filter (rows_seen at view))

      by : (b : Bool) → Tells who (seen ++ []) (if b then answer_at seen (body.Error fault.ReadOnly) else rewrite limits who table (seen_columns seen table) filter rewriting)
      by true = λ t p says. absurd cc
      by false =
          told-scan who seen long table exists None filter
          (λ at view marks. write_or_end limits who (length at) view.scn marks (changes at view) (written rewriting))
          (λ at view marks. never-write limits who (length at) view.scn marks (changes at view) rewriting)

-- ---- statements

-- the table of a name stands where its number says
record IsAt (name : List ℕ) (i : ℕ) (known : List TableInfo) (table : TableInfo) : Type 0 where
  place : ℕ
  position : position_from (is_named name) i known ≡ Some (i + place)
  there : slice_get known place ≡ Some table

found-at : (name : List ℕ) (i : ℕ) (known : List TableInfo) (table : TableInfo) → find (is_named name) known ≡ Some table → IsAt name i known table
found-at name i [] table e = absurd cc
found-at name i (first ∷ rest) table e = by (is_named name first) refl e (found-at name (i + 1) rest table)
  where
    by : (b : Bool) → is_named name first ≡ b → (if b then Some first else find (is_named name) rest) ≡ Some table
        → (find (is_named name) rest ≡ Some table → IsAt name (i + 1) rest table) → IsAt name i (first ∷ rest) table
    by true is found later =
        let same : i ≡ i + 0 = omega arith in
        record { place = 0; position = rw is (ap Some same); there = found }
    by false is found later =
        let on = later found in
        let same : i + 1 + on.place ≡ i + suc on.place = omega arith in
        record { place = suc on.place; position = rw is (on.position ∙ ap Some same); there = on.there }

-- the table that a statement names exists
abbrev IsThere : History → Resolved → Type 0
IsThere h (resolved.Select bound) = Exists h bound.table
IsThere h (resolved.Explain bound) = Exists h bound.table
IsThere h (resolved.OpenFor cursor bound) = Exists h bound.table
IsThere h (resolved.Insert table rows) = Exists h table
IsThere h (resolved.Update table filter sets) = Exists h table
IsThere h (resolved.Delete table filter) = Exists h table
IsThere h statement = ⊤

module _ (h : History) (name : List ℕ) where
  named-there : (table : TableInfo) → table_called (tables h) name ≡ Some table → Exists h (table_number (tables h) name)
  named-there table is =
      let at = found-at name 0 (tables h) table is in
      let same : 0 + at.place ≡ at.place = omega arith in
      record { made = table; is = rw (at.position, same, at.there) refl }

  -- where it is answered with its number
  there-formed : {A : Type 0} (form : A → Resolved) (fault : TableInfo → Option NameFault) (value : TableInfo → A)
      → ((table : TableInfo) → Exists h (table_number (tables h) name) → IsThere h (form (value table)))
      → IfOk (formed form (of_table (table_called (tables h) name) name (λ table. unless (fault table) (value table)))) (IsThere h)
  there-formed form fault value there = by (table_called (tables h) name) refl
    where
      either : (table : TableInfo) → IsThere h (form (value table)) → (o : Option NameFault) → IfOk (formed form (unless o (value table))) (IsThere h)
      either table holds None = holds
      either table holds (Some f) = tt

      by : (found : Option TableInfo) → table_called (tables h) name ≡ found
          → IfOk (formed form (of_table found name (λ table. unless (fault table) (value table)))) (IsThere h)
      by None is = tt
      by (Some table) is = either table (there table (named-there table is)) (fault table)

  there-plain : (fault : TableInfo → Option NameFault) (value : TableInfo → Resolved)
      → ((table : TableInfo) → Exists h (table_number (tables h) name) → IsThere h (value table))
      → IfOk (of_table (table_called (tables h) name) name (λ table. unless (fault table) (value table))) (IsThere h)
  there-plain fault value there = by (table_called (tables h) name) refl
    where
      either : (table : TableInfo) → IsThere h (value table) → (o : Option NameFault) → IfOk (unless o (value table)) (IsThere h)
      either table holds None = holds
      either table holds (Some f) = tt

      by : (found : Option TableInfo) → table_called (tables h) name ≡ found
          → IfOk (of_table found name (λ table. unless (fault table) (value table))) (IsThere h)
      by None is = tt
      by (Some table) is = either table (there table (named-there table is)) (fault table)

there-answer : (h : History) (s : Stmt) → IfOk (resolution (tables h) s) (IsThere h)
there-answer h (stmt.Select q) =
    there-formed h q.table resolved.Select (λ table. query_fault table.schema q) (λ table. bound_of (table_number (tables h) q.table) table.schema q)
    (λ table there. there)
there-answer h (stmt.Explain q) =
    there-formed h q.table resolved.Explain (λ table. query_fault table.schema q) (λ table. bound_of (table_number (tables h) q.table) table.schema q)
    (λ table there. there)
there-answer h (stmt.OpenFor cursor q) =
    there-formed h q.table (resolved.OpenFor cursor) (λ table. query_fault table.schema q)
    (λ table. bound_of (table_number (tables h) q.table) table.schema q) (λ table there. there)
there-answer h (stmt.Create name columns block extent memory) = unless-each (IsThere h) _ _ tt
there-answer h (stmt.AlterMemory name memory) = of_table-each (IsThere h) (table_called (tables h) name) name _ (λ table. tt)
there-answer h (stmt.AlterNoMemory name) = of_table-each (IsThere h) (table_called (tables h) name) name _ (λ table. tt)
there-answer h (stmt.AddColumn name part default) =
    of_table-each (IsThere h) (table_called (tables h) name) name _ (λ table. unless-each (IsThere h) _ _ tt)
there-answer h (stmt.Insert name names tuples) =
    there-plain h name (λ table. insert_fault table.schema names tuples)
    (λ table. resolved.Insert (table_number (tables h) name) (rows_of table.schema table.defaults names tuples)) (λ table there. there)
there-answer h (stmt.Update name sets cond) =
    there-plain h name (λ table. update_fault table.schema sets cond)
    (λ table. resolved.Update (table_number (tables h) name) (filter_of table.schema cond) (map (set_of table.schema) sets)) (λ table there. there)
there-answer h (stmt.Delete name cond) =
    there-plain h name (λ table. delete_fault table.schema cond)
    (λ table. resolved.Delete (table_number (tables h) name) (filter_of table.schema cond)) (λ table there. there)
there-answer h (stmt.Evict name extent) = of_table-each (IsThere h) (table_called (tables h) name) name _ (λ table. tt)
there-answer h _ = tt

module _ (mine : ℕ → Bool) (known : ℕ) (limits : Limits) (who : ℕ) (state : State) where
  -- the names of a statement were found at this history
  told-resolved : (seen : History) → known ≤ length seen → (r : Resolved) → IsThere seen r
      → Tells mine known who (seen ++ []) (resolved_plan limits who state seen r)
  told-resolved seen long (resolved.Select bound) of =
      told-read mine known who seen long bound.table bound.asked bound.filter of
      (λ at view marks. served_reply (length at) marks (body.Answer view.scn (answer bound (rows_seen at view)))) (λ at view marks t p says. absurd cc)
  told-resolved seen long (resolved.Explain bound) of =
      told-read mine known who seen long bound.table bound.asked bound.filter of
      (λ at view marks. served_reply (length at) marks (body.Plan view.scn (map explained marks))) (λ at view marks t p says. absurd cc)
  told-resolved seen long (resolved.Create name schema grid memory) of =
      never-tells mine known who (seen ++ []) (create_table name schema grid memory) (never-create mine known name schema grid memory)
  told-resolved seen long (resolved.Memory table priority) of =
      never-tells mine known who (seen ++ []) (alter_table table priority) (λ at t p says. absurd cc)
  told-resolved seen long (resolved.AddColumn table column default) of =
      never-tells mine known who (seen ++ []) (add_column table column default) (never-add mine known table column default)
  told-resolved seen long (resolved.Insert table rows) of = told-insert mine known limits who seen long table rows of
  told-resolved seen long (resolved.Update table filter sets) of =
      told-rewrite mine known limits who seen long table filter (Updating sets) of
  told-resolved seen long (resolved.Delete table filter) of =
      told-rewrite mine known limits who seen long table filter Deleting of
  told-resolved seen long (resolved.SetMode chosen) of =
      never-tells mine known who (seen ++ []) (set_mode who chosen)
      (never-attempt mine known true (fault_of aim.Plain) (λ at. begin_refusal at who) (λ at. what.Begin chosen) _ plain-fault (λ at t p says. absurd cc))
  told-resolved seen long resolved.Commit of = never-tells mine known who (seen ++ []) commit (λ at t p says. absurd cc)
  told-resolved seen long resolved.Rollback of =
      never-tells mine known who (seen ++ []) (roll_back who seen)
      (never-if mine known (is_open seen who) _ _ (λ at t p says. absurd cc) (λ t p says. absurd cc))
  told-resolved seen long (resolved.OpenFor cursor bound) of = told-open mine known who seen long cursor bound of
  told-resolved seen long (resolved.Step cursor) of =
      never-tells mine known who (seen ++ []) (step state seen cursor) (never-step mine known state seen cursor)
  told-resolved seen long (resolved.Fetch cursor) of =
      never-tells mine known who (seen ++ []) (fetch state seen cursor) (never-fetch mine known state seen cursor)
  told-resolved seen long (resolved.Close cursor) of =
      never-tells mine known who (seen ++ []) (close state seen cursor) (never-close mine known state seen cursor)
  told-resolved seen long _ of = λ t p says. absurd cc

  told-found : (seen : History) → known ≤ length seen → (r : Result Resolved NameFault) → IfOk r (IsThere seen)
      → Tells mine known who (seen ++ []) (found_plan limits who state seen r)
  told-found seen long (Ok r) of = told-resolved seen long r of
  told-found seen long (Err cause) of = λ t p says. absurd (named-fault cause t p (the_fault says))

  told-named : (s : Stmt) (seen : History) → known ≤ length seen → Tells mine known who (seen ++ []) (named_plan limits who state s seen)
  told-named s seen long = told-found seen long (resolution (tables seen) s) (there-answer seen s)

  -- the history went on
  longer : (old at : History) → known ≤ length old → After (Others mine) old at → known ≤ length at
  longer old at long after =
      let more = ap length after.log ∙ length-append old after.between in
      omega (arith, long, more)

  told-looked : (s : Stmt) (old : History) → known ≤ length old → Tells mine known who old (looked_up limits who state s)
  told-looked s old long = λ at after. told-named s at (longer old at long after)

  told-definition : (s : Stmt) (old : History) → known ≤ length old → Tells mine known who old (definition_plan limits who state s)
  told-definition s old long = λ at after. by at (longer old at long after) (is_open at who)
    where
      by : (at : History) → known ≤ length at → (b : Bool)
          → Tells mine known who (at ++ [])
          (if b then Turn false (λ here. Some what.Commit) (λ here. looked_up limits who state s) else named_plan limits who state s at)
      by at upto true = λ here after.
          let first = longer at here upto (subst (λ (h : History). After (Others mine) h here) (append-nil at) after) in
          let sum = length-append here (record { who = who; what = what.Commit } ∷ []) in
          told-looked s (here ++ record { who = who; what = what.Commit } ∷ []) (omega (arith, first, sum))
      by at upto false = told-named s at upto

  told-statement : (s : Stmt) (old : History) → known ≤ length old → Tells mine known who old (statement_plan limits who state s)
  told-statement s old long = by (is_definition s)
    where
      by : (b : Bool) → Tells mine known who old (if b then definition_plan limits who state s else looked_up limits who state s)
      by true = told-definition s old long
      by false = told-looked s old long

pub tell-columns : TellColumns
tell-columns mine limits who state s old reply effect new table place says line =
    let tells = told-statement mine (length old) limits who state s old (omega arith) in
    let amended : (n : ℕ) (h : History) → Tells mine (length old) who h (amends who n) =
    λ n h. never-tells mine (length old) who h (amends who n) (never-shut mine (length old) who n own_cursors) in
    elim line.whole.played [
      | inl goes ↦
          goes-tells mine (length old) who old (statement_plan limits who state s) reply effect new table place says tells goes
      | inr lacks ↦
          lacks-tells mine (length old) who 0 old (statement_plan limits who state s) reply effect new table place says amended tells lacks
    ]

pub tell-no_columns : TellNoColumns
tell-no_columns mine limits who state s old reply effect new table place all line says =
    let was = tell-columns mine limits who state s old reply effect new table place says line in
    let both : true ≡ false = sym (all was.got.entry.who) ∙ was.got.others in
    absurd cc
