-- A line of a session: what it leaves of the cursors that are kept, and that it is played as a whole.
use Rattle.std.proofs.Common.{◌≡◌, ℕ, Bool, true, false, not, List, [], ◌∷◌, ◌++◌, filter, map, Option, Some, None, Ok, Err, ◌⊎◌, refl, sym, ap, ◌∙◌, subst}
use Rattle.std.specs.List.{AllByRecursion, list_any}
use Rattle.std.specs.Prelude.{slice_index_or, slice_set}
use Rattle.im_history.specs.declared.limits.Limits.{Limits}
use Rattle.im_history.specs.declared.look.Look.{Look}
use Rattle.im_history.specs.Cursors.{Opened, cursor_at, is_cursor_open, is_own, opened as opened_in}
use Rattle.im_history.specs.History.{History}
use Rattle.im_history.specs.Transactions.{is_open}
use Rattle.im_history.specs.Views.{look_at}
use Rattle.im_names.specs.declared.resolved.Resolved.{Resolved}
use Rattle.im_names.specs.declared.fault.NameFault.{NameFault}
use Rattle.im_names.specs.declared.fault.NameFault.TheVariants.{NoMemory}
use Rattle.im_names.specs.Statements.{resolution}
use Rattle.im_plan.specs.Plan.{End, Plan, counted}
use Rattle.im_reach.specs.Sides.{Found, Known, speaks}
use Rattle.im_reach.proofs.RestLaws.{rest-longer}
use Rattle.im_replies.specs.declared.body.Body.TheVariants.{Error}
use Rattle.im_replies.specs.declared.fault.Fault.TheVariants as fault
use Rattle.im_replies.specs.declared.reply.Reply.{Reply}
use Rattle.im_session.specs.declared.cursor.Cursor.{Cursor}
use Rattle.im_session.specs.declared.playing.Use.{Use}
use Rattle.im_session.specs.Cursors.{IsSound, query_of}
use Rattle.im_session.specs.Reads.{IsCounted, Reading}
use Rattle.im_session.specs.Sessions.{Agrees, AreApart, IsStatementPlayed, Kept, state_of}
use Rattle.im_session.specs.inner.Cursors.{IsKept, fetch_outcome, opening_outcome, query_after, step_outcome}
use Rattle.im_session.specs.inner.Names.{reading_in}
use Rattle.im_session.specs.inner.Rests.{IsRest}
use Rattle.im_session.specs.inner.Running.{AreKept, IsRun, is_number, plan_of_use, plan_over}
use Rattle.im_session.specs.inner.Scans.{Longer}
use Rattle.im_session.specs.inner.Serving.{IsCountedFor}
use Rattle.im_session.proofs.CursorLemmas.{sound-longer}
use Rattle.im_session.proofs.KeptLemmas.{IsFound, all-at, all-filter, all-last, all-map, all-set, apart-filter, apart-set, find-open, found-any, fresh-apart, kept-at, set-stays, set-steps, state-filter, state-last}
use Rattle.im_session.proofs.NameLemmas.{named-fault, named-found}
use Rattle.im_session.proofs.OtherLemmas.{opened-after}
use Rattle.im_session.proofs.RestLemmas.{rest-end, rest-lacks, rest-look}
use Rattle.im_session.proofs.ScanLemmas.{longer-went, own-went, speaks-went, went-found, went-log}
use Rattle.im_statements.specs.Agreement.{Agrees as AreOpen, AreQueriesOf}
use Rattle.im_statements.specs.Cursors.{fetch, fetch_query, open_query, step, step_query, with_query}
use Rattle.im_statements.specs.Outcomes.{Closes, Opens, Outcome, OpenQuery, Replied, State, Stays, Steps, query_at, said}
use Rattle.im_statements.specs.Statements.{definition_plan, is_definition, name_reply, named_plan, resolved_plan, statement_plan}
use Rattle.im_statements.specs.Transaction.{open_after}
use Rattle.im_statements.specs.Turns.{memory_reply, settled_reply}
use Rattle.im_statements.proofs.LineLaws.{keep-agreement, keep-transaction}
use Rattle.im_syntax.specs.declared.bound.Bound.{Bound}
use Rattle.im_syntax.specs.declared.statement.Stmt.{Stmt}
use Rattle.im_syntax.specs.Rules.{IsStmt}

-- ---- a line makes the history longer

line-longer : (who k : ℕ) (old new : Known) (plan : Plan Outcome) (outcome : Outcome) → IsRest who k old plan outcome new → Longer old new
line-longer who k old new plan outcome rest = let on = rest-longer old new plan outcome rest in record { more = on.more; log = on.log }

-- what is kept holds after it
sound-rest : (who k : ℕ) (old new : Known) (plan : Plan Outcome) (outcome : Outcome) (cursors : List Cursor) → IsRest who k old plan outcome new
    → AllByRecursion (λ kept. IsSound kept old) cursors → AllByRecursion (λ kept. IsSound kept new) cursors
sound-rest who k old new plan outcome cursors rest sound =
    let longer = line-longer who k old new plan outcome rest in
    all-map (λ kept. IsSound kept old) (λ kept. IsSound kept new) (λ kept is. sound-longer kept old new longer is) cursors sound

-- ---- statements over the cursors

module _ (who : ℕ) (cursors : List Cursor) (old new : Known) (reply : Reply) (sound : AllByRecursion (λ kept. IsSound kept old) cursors)
    (apart : AreApart cursors) where
  -- the line leaves them as they are
  pub run-stays : (plan : Plan Outcome) → IsRest who 0 old plan (said reply) new → IsRun who plan cursors old reply cursors new
  run-stays plan rest = record {
    effect = Stays;
    rest = rest;
    keeps = refl;
    sound = sound-rest who 0 old new plan (said reply) cursors rest sound;
    apart = apart;
  }

  -- a cursor was opened
  pub run-opened : (plan : Plan Outcome) (kept : Cursor) → IsRest who 0 old plan (Replied reply (Opens (query_of kept))) new
      → AreOpen (state_of cursors) old.log who → is_cursor_open old.log who kept.number ≡ false → IsSound kept new
      → IsRun who plan cursors old reply (cursors ++ kept ∷ []) new
  run-opened plan kept rest agree fresh is = record {
    effect = Opens (query_of kept);
    rest = rest;
    keeps = ap (λ (qs : List OpenQuery). record { queries = qs }) (state-last cursors kept);
    sound = all-last (λ kept. IsSound kept new) cursors kept (sound-rest who 0 old new plan _ cursors rest sound) is;
    apart = fresh-apart cursors kept _ agree.queries fresh apart;
  }

  -- what a line over a cursor that is kept does
  with-found : (number at : ℕ) (on : OpenQuery → Plan Outcome) (outcome : Outcome) → (found : IsFound number cursors at)
      → IsRest who 0 old (on (query_of found.kept)) outcome new
      → IsRest who 0 old (with_query number old.log (query_at (state_of cursors) number) on) outcome new
  with-found number at on outcome found rest = rw found.query rest

  -- its next extent was served, or was not
  pub run-stepped : (number at : ℕ) (after : Cursor) (served : Bool) → (found : IsFound number cursors at)
      → IsRest who 0 old (step_query old.log (query_of found.kept)) (step_outcome found.kept.number reply served) new
      → query_of after ≡ query_after served (query_of found.kept) → IsSound after new
      → IsRun who (step (state_of cursors) old.log number) cursors old reply (slice_set cursors at after) new
  run-stepped number at after true found rest same is = record {
    effect = Steps found.kept.number;
    rest = with-found number at (step_query old.log) _ found rest;
    keeps = ap (λ (qs : List OpenQuery). record { queries = qs }) (set-steps cursors at found.kept after apart found.is same);
    sound = all-set (λ kept. IsSound kept new) cursors at after (sound-rest who 0 old new _ _ cursors rest sound) is;
    apart = apart-set cursors at found.kept after found.is (ap (λ (q : OpenQuery). q.cursor) same) apart;
  }
  run-stepped number at after false found rest same is = record {
    effect = Stays;
    rest = with-found number at (step_query old.log) _ found rest;
    keeps = ap (λ (qs : List OpenQuery). record { queries = qs }) (set-stays cursors at found.kept after found.is same);
    sound = all-set (λ kept. IsSound kept new) cursors at after (sound-rest who 0 old new _ _ cursors rest sound) is;
    apart = apart-set cursors at found.kept after found.is (ap (λ (q : OpenQuery). q.cursor) same) apart;
  }

  -- it was closed
  closed-run : (number at : ℕ) (plan : Plan Outcome) → IsFound number cursors at → IsRest who 0 old plan (Replied reply (Closes number)) new
      → IsRun who plan cursors old reply (filter (λ kept. not (is_number number kept)) cursors) new
  closed-run number at plan found rest = record {
    effect = Closes number;
    rest = rest;
    keeps = ap (λ (qs : List OpenQuery). record { queries = qs }) (state-filter number cursors);
    sound = all-filter (λ kept. IsSound kept new) (λ kept. not (is_number number kept)) cursors (sound-rest who 0 old new _ _ cursors rest sound);
    apart = apart-filter (λ kept. not (is_number number kept)) cursors apart;
  }

  pub run-closed : (usage : Use) (number at : ℕ) → (found : IsFound number cursors at)
      → IsRest who 0 old (plan_of_use usage old.log (query_of found.kept)) (Replied reply (Closes found.kept.number)) new
      → IsRun who (plan_over usage (state_of cursors) old.log number) cursors old reply (filter (λ kept. not (is_number number kept)) cursors) new
  run-closed usage number at found rest =
      closed-run number at _ found
      (subst (λ (n : ℕ). IsRest who 0 old (plan_over usage (state_of cursors) old.log number) (Replied reply (Closes n)) new) found.same
      (with-found number at (plan_of_use usage old.log) _ found rest))

  pub run-lacked : (number at : ℕ) → (found : IsFound number cursors at)
      → IsRest who 0 old (fetch_query old.log (query_of found.kept)) (fetch_outcome found.kept.number reply false) new
      → IsRun who (fetch (state_of cursors) old.log number) cursors old reply cursors new
  run-lacked number at found rest = run-stays _ (with-found number at (fetch_query old.log) _ found rest)

-- no cursor of this number is kept
pub run-unknown : (who number : ℕ) (cursors : List Cursor) (old : Known) (look : Look) (on : OpenQuery → Plan Outcome)
    → AllByRecursion (λ kept. IsSound kept old) cursors → AreApart cursors → look ≡ look_at old.log who
    → query_at (state_of cursors) number ≡ None
    → IsRun who (with_query number old.log (query_at (state_of cursors) number) on) cursors old
    (settled_reply look.place (Error (fault.CursorUnknown number))) cursors old
run-unknown who number cursors old look on sound apart look_is none =
    run-stays who cursors old old _ sound apart _
    (rest-end who 0 old _ _
    (ap (λ (q : Option OpenQuery). with_query number old.log q on) none
    ∙ ap (λ (l : Look). End (said (settled_reply l.place (Error (fault.CursorUnknown number))))) (sym look_is)))

-- ---- what a call of a session found and did

pub is-open : (closed : Bool) → not closed ≡ true → closed ≡ false
is-open false e = refl
is-open true e = absurd cc

pub is-closed : (closed : Bool) → not closed ≡ false → closed ≡ true
is-closed true e = refl
is-closed false e = absurd cc

-- a line over a cursor that was found reads so
pub counted-kept : (reading : ℕ → Reading) (who : ℕ) (cursors : List Cursor) (number at : ℕ) (kept : Cursor) (reply : Reply) (before after : ℕ)
    (old new : History) → IsFound number cursors at → kept ≡ slice_index_or cursors at kept → IsCountedFor reading kept who reply before after old new
    → IsCounted (reading number) (state_of cursors) who reply before after old new
counted-kept reading who cursors number at kept reply before after old new found value counted =
    subst (λ (n : ℕ). IsCounted (reading n) (state_of cursors) who reply before after old new) same
    (counted (state_of cursors)
    (subst (λ (n : ℕ). query_at (state_of cursors) n ≡ Some (query_of kept)) (sym same)
    (subst (λ (k : Cursor). query_at (state_of cursors) number ≡ Some (query_of k)) (sym is) found.query)))
  where
    is : kept ≡ found.kept
    is = kept-at cursors at found.kept kept found.is value

    same : kept.number ≡ number
    same = ap (λ (k : Cursor). k.number) is ∙ found.same

-- a statement whose names were found reads so
pub counted-resolved : (r found : Resolved) → r ≡ found → (state : State) (who : ℕ) (reply : Reply) (before after : ℕ) (old new : History)
    → IsCounted (reading_in found) state who reply before after old new → IsCounted (reading_in r) state who reply before after old new
counted-resolved r found is state who reply before after old new =
    subst (λ (x : Resolved). IsCounted (reading_in x) state who reply before after old new) (sym is)

module _ (who : ℕ) (cursors : List Cursor) (old : Known) (here : AreKept who cursors old) where
  -- a cursor that is kept is open
  pub is-kept : (number at : ℕ) (kept : Cursor) → IsFound number cursors at → kept ≡ slice_index_or cursors at kept → IsKept who kept old
  is-kept number at kept found value = record {
    scan = record { is_open = found-any kept.number _ _ opened; opened = opened; sees = sound.sees };
    sound = sound;
  }
    where
      same : kept ≡ found.kept
      same = kept-at cursors at found.kept kept found.is value

      sound : IsSound kept old
      sound = subst (λ (k : Cursor). IsSound k old) (sym same) (all-at (λ k. IsSound k old) cursors at found.kept here.sound found.is)

      opened : cursor_at old.log who kept.number ≡ Some (record { cursor = kept.number; view = kept.view })
      opened =
          subst (λ (k : Cursor). cursor_at old.log who k.number ≡ Some (record { cursor = k.number; view = k.view })) (sym same)
          (subst (λ (n : ℕ). cursor_at old.log who n ≡ Some (record { cursor = found.kept.number; view = found.kept.view })) (sym found.same)
          (find-open number (map query_of cursors) (opened_in old.log who) (query_of found.kept) here.cursors.queries found.query))

  module _ (new : Known) (reply : Reply) where
    pub run-step : (number at : ℕ) (kept after : Cursor) (served : Bool) → IsFound number cursors at → kept ≡ slice_index_or cursors at kept
        → IsRest who 0 old (step_query old.log (query_of kept)) (step_outcome kept.number reply served) new
        → query_of after ≡ query_after served (query_of kept) → IsKept who after new
        → IsRun who (step (state_of cursors) old.log number) cursors old reply (slice_set cursors at after) new
    run-step number at kept after served found value rest same is =
        let e = kept-at cursors at found.kept kept found.is value in
        run-stepped who cursors old new reply here.sound here.apart number at after served found
        (subst (λ (k : Cursor). IsRest who 0 old (step_query old.log (query_of k)) (step_outcome k.number reply served) new) e rest)
        (subst (λ (k : Cursor). query_of after ≡ query_after served (query_of k)) e same) is.sound

    pub run-closing : (usage : Use) (number at : ℕ) (kept : Cursor) → IsFound number cursors at → kept ≡ slice_index_or cursors at kept
        → IsRest who 0 old (plan_of_use usage old.log (query_of kept)) (Replied reply (Closes kept.number)) new
        → IsRun who (plan_over usage (state_of cursors) old.log number) cursors old reply (filter (λ kept. not (is_number number kept)) cursors) new
    run-closing usage number at kept found value rest =
        run-closed who cursors old new reply here.sound here.apart usage number at found
        (subst (λ (k : Cursor). IsRest who 0 old (plan_of_use usage old.log (query_of k)) (Replied reply (Closes k.number)) new)
        (kept-at cursors at found.kept kept found.is value) rest)

    pub run-no_fetch : (number at : ℕ) (kept : Cursor) → IsFound number cursors at → kept ≡ slice_index_or cursors at kept
        → IsRest who 0 old (fetch_query old.log (query_of kept)) (fetch_outcome kept.number reply false) new
        → IsRun who (fetch (state_of cursors) old.log number) cursors old reply cursors new
    run-no_fetch number at kept found value rest =
        run-lacked who cursors old new reply here.sound here.apart number at found
        (subst (λ (k : Cursor). IsRest who 0 old (fetch_query old.log (query_of k)) (fetch_outcome k.number reply false) new)
        (kept-at cursors at found.kept kept found.is value) rest)

    -- no cursor of this number is kept
    pub run-none : (usage : Use) (number : ℕ) (look : Look) → look ≡ look_at old.log who → query_at (state_of cursors) number ≡ None
        → reply ≡ settled_reply look.place (Error (fault.CursorUnknown number))
        → IsRun who (plan_over usage (state_of cursors) old.log number) cursors old reply cursors old
    run-none usage number look look_is none reply_is =
        rw reply_is (run-unknown who number cursors old look (plan_of_use usage old.log) here.sound here.apart look_is none)

    -- a cursor came to them
    pub run-open : (number columns : ℕ) (bound : Bound) (kept : Cursor)
        → IsRest who 0 old (open_query who number columns bound) (opening_outcome reply (Some kept)) new
        → is_cursor_open old.log who kept.number ≡ false → IsKept who kept new
        → IsRun who (open_query who number columns bound) cursors old reply (cursors ++ kept ∷ []) new
    run-open number columns bound kept rest fresh is =
        run-opened who cursors old new reply here.sound here.apart (open_query who number columns bound) kept rest here.cursors fresh is.sound

    -- they stay as they are
    pub run-kept : (plan : Plan Outcome) → IsRest who 0 old plan (said reply) new → IsRun who plan cursors old reply cursors new
    run-kept plan rest = run-stays who cursors old new reply here.sound here.apart plan rest

    -- a statement whose names were found at this history
    pub run-resolved : (r found : Resolved) → r ≡ found → IsRest who 0 old (resolved_plan old.limits who (state_of cursors) old.log found) (said reply) new
        → IsRun who (resolved_plan old.limits who (state_of cursors) old.log r) cursors old reply cursors new
    run-resolved r found is rest =
        subst (λ (x : Resolved). IsRun who (resolved_plan old.limits who (state_of cursors) old.log x) cursors old reply cursors new) (sym is)
        (run-kept (resolved_plan old.limits who (state_of cursors) old.log found) rest)

    -- a definition
    pub run-defined : (s : Stmt) → is_definition s ≡ true
        → ((state : State) → IsRest who 0 old (definition_plan old.limits who state s) (said reply) new)
        → IsRun who (statement_plan old.limits who (state_of cursors) s) cursors old reply cursors new
    run-defined s is rest = run-kept (statement_plan old.limits who (state_of cursors) s) (rw is (rest (state_of cursors)))

  -- memory ran out at the look
  pub run-lacking : (new : Known) (P : History → Type 0) (s : Stmt) → speaks old.side who ≡ true → Found old new P
      → IsRun who (statement_plan old.limits who (state_of cursors) s) cursors old (memory_reply 0) cursors new
  run-lacking new P s mine found =
      run-kept new (memory_reply 0) (statement_plan old.limits who (state_of cursors) s)
      (rest-lacks who 0 old new P (statement_plan old.limits who (state_of cursors) s) mine here.cursors.closed found)

  -- its names had a fault
  pub run-misnamed : (middle : Known) (s : Stmt) (look : Look) (fault : NameFault) → speaks old.side who ≡ true → is_definition s ≡ false
      → Found old middle (λ at. look ≡ look_at at who) → (fault ≡ NoMemory) ⊎ (resolution look.tables s ≡ Err fault)
      → IsRun who (statement_plan old.limits who (state_of cursors) s) cursors old (name_reply 0 look.place fault) cursors middle
  run-misnamed middle s look fault mine other found cause =
      let went = went-found old middle (λ at. look ≡ look_at at who) found in
      run-kept middle (name_reply 0 look.place fault) (statement_plan old.limits who (state_of cursors) s)
      (rw other
      (rest-look who 0 old middle middle (λ at. look ≡ look_at at who) (named_plan old.limits who (state_of cursors) s) _ found
      (subst (λ (l : Limits). IsRest who 0 middle (named_plan l who (state_of cursors) s middle.log) (said (name_reply 0 look.place fault)) middle)
      (ap (λ (k : Known). k.limits) found.now)
      (named-fault who 0 middle (state_of cursors) s look fault (speaks-went who old middle went mine)
      (own-went who old middle mine went here.cursors.closed) (went-log old middle (λ at. look ≡ look_at at who) found) cause))))

-- the cursors are kept once others went on
pub kept-found : (who : ℕ) (cursors : List Cursor) (old new : Known) (P : History → Type 0) → speaks old.side who ≡ true → AreKept who cursors old
    → Found old new P → AreKept who cursors new
kept-found who cursors old new P mine here found = record {
  cursors = record {
    closed = ap (list_any (λ (other : Opened). is_own other.cursor)) same ∙ here.cursors.closed;
    queries = subst (λ (os : List Opened). AreQueriesOf (state_of cursors).queries os) (sym same) here.cursors.queries;
  };
  sound =
      all-map (λ kept. IsSound kept old) (λ kept. IsSound kept new)
      (λ kept is. sound-longer kept old new (longer-went old new (went-found old new P found)) is) cursors here.sound;
  apart = here.apart;
}
  where
    same : opened_in new.log who ≡ opened_in old.log who
    same = ap (λ (k : Known). opened_in k.log who) found.now ∙ opened-after old.side who old.log found.at mine found.after

-- ---- a whole line

limits-found : (old middle : Known) (P : History → Type 0) → Found old middle P → middle.limits ≡ old.limits
limits-found old middle P found = ap (λ (s : Known). s.limits) found.now

module _ (who : ℕ) (cursors : List Cursor) (s : Stmt) (old : Known) where
  abbrev whole : Plan Outcome
  whole = statement_plan old.limits who (state_of cursors) s

  -- its names were found
  pub run-looked : (middle new : Known) (P : History → Type 0) (look : Look) (r : Resolved) (reply : Reply) (after : List Cursor)
      → is_definition s ≡ false → Found old middle P → look ≡ look_at middle.log who → resolution look.tables s ≡ Ok r
      → IsRun who (resolved_plan middle.limits who (state_of cursors) middle.log r) cursors middle reply after new
      → IsRun who whole cursors old reply after new
  run-looked middle new P look r reply after other found look_is is run = record {
    effect = run.effect;
    rest =
        rw other
        (rest-look who 0 old middle new P (named_plan old.limits who (state_of cursors) s) _ found
        (subst (λ (l : Limits). IsRest who 0 middle (named_plan l who (state_of cursors) s middle.log) (Replied reply run.effect) new)
        (limits-found old middle P found)
        (named-found who 0 middle new (state_of cursors) s look r _ look_is is run.rest)));
    keeps = run.keeps;
    sound = run.sound;
    apart = run.apart;
  }

-- what a run over the cursors of a session makes of it, once it knows whether its transaction is open
pub played : (s : Stmt) (before after : Kept) (now : Bool) (old new : Known) (reply : Reply) → after.who ≡ before.who
    → now ≡ open_after s reply before.in_transaction
    → IsRun before.who (statement_plan old.limits before.who (state_of before.cursors) s) before.cursors old reply after.cursors new
    → IsStatementPlayed s before old reply (record after { in_transaction = now }) new
played s before after now old new reply same told run = record {
  same = same;
  known = run.rest.kept;
  effect = run.effect;
  line = record { whole = run.rest.rest };
  keeps = run.keeps;
  transaction = told;
}

pub agrees-played : (s : Stmt) (before after : Kept) (now : Bool) (old new : Known) (reply : Reply) → speaks old.side before.who ≡ true
    → IsStmt s → Agrees before old → after.who ≡ before.who → now ≡ open_after s reply before.in_transaction
    → IsRun before.who (statement_plan old.limits before.who (state_of before.cursors) s) before.cursors old reply after.cursors new
    → Agrees (record after { in_transaction = now }) new
agrees-played s before after now old new reply mine is agrees same told run = record {
  cursors =
      subst (λ (n : ℕ). AreOpen (state_of after.cursors) new.log n) (sym same)
      (subst (λ (state : State). AreOpen state new.log before.who) (sym run.keeps)
      (keep-agreement (speaks old.side) old.limits before.who (state_of before.cursors) s old.log (Replied reply run.effect) new.log mine is
      agrees.cursors (record { whole = run.rest.rest })));
  sound = run.sound;
  apart = run.apart;
  transaction =
      told
      ∙ (ap (λ (b : Bool). open_after s reply b) agrees.transaction
      ∙ (sym
      (keep-transaction (speaks old.side) old.limits before.who (state_of before.cursors) s old.log reply run.effect new.log mine
      (record { whole = run.rest.rest })) ∙ ap (λ (n : ℕ). is_open new.log n) (sym same)));
}

-- the same of a session that is seen by its parts
module _ (session : Kept) (who : ℕ) (cursors : List Cursor) (before : Bool)
    (is : session ≡ record { who = who; cursors = cursors; in_transaction = before }) (old : Known) where
  -- its steps are those of what it keeps
  pub session-counted : (reading : Reading) (reply : Reply) (steps later : ℕ) (first last : History)
      → IsCounted reading (state_of cursors) who reply steps later first last → IsCounted reading (state_of session.cursors) session.who reply steps later first last
  session-counted reading reply steps later first last =
      subst (λ (k : Kept). IsCounted reading (state_of k.cursors) k.who reply steps later first last) (sym is)

  pub session-kept : Agrees session old → AreKept who cursors old
  session-kept agrees =
      let here : Agrees (record { who = who; cursors = cursors; in_transaction = before }) old = subst (λ (k : Kept). Agrees k old) is agrees in
      record { cursors = here.cursors; sound = here.sound; apart = here.apart }

  module _ (s : Stmt) (after : List Cursor) (now : Bool) (new : Known) (reply : Reply) (told : now ≡ open_after s reply before)
      (run : IsRun who (statement_plan old.limits who (state_of cursors) s) cursors old reply after new) where
    pub session-played : IsStatementPlayed s session old reply (record { who = who; cursors = after; in_transaction = now }) new
    session-played =
        subst (λ (k : Kept). IsStatementPlayed s k old reply (record { who = who; cursors = after; in_transaction = now }) new) (sym is)
        (played s (record { who = who; cursors = cursors; in_transaction = before })
        (record { who = who; cursors = after; in_transaction = before }) now old new reply refl told run)

    pub session-agrees : speaks old.side who ≡ true → IsStmt s → Agrees session old
        → Agrees (record { who = who; cursors = after; in_transaction = now }) new
    session-agrees mine stmt agrees =
        agrees-played s (record { who = who; cursors = cursors; in_transaction = before })
        (record { who = who; cursors = after; in_transaction = before }) now old new reply mine stmt
        (subst (λ (k : Kept). Agrees k old) is agrees) refl told run
