-- From a statement to what its names come to, and the commit before a definition.
use Rattle.std.proofs.Common.{◌≡◌, ℕ, ◌⊎◌, inl, inr, true, false, List, Some, is_some, Result, Ok, Err, refl, sym, ap, ◌∙◌, subst}
use Rattle.std.specs.List.{list_any}
use Rattle.std.specs.Result.{IfOk}
use Rattle.im_history.specs.declared.entry.What.TheVariants as what
use Rattle.im_history.specs.declared.limits.Limits.{Limits}
use Rattle.im_history.specs.declared.look.Look.{Look}
use Rattle.im_history.specs.declared.look.TableInfo.{TableInfo}
use Rattle.im_history.specs.Cursors.{Opened, has_own_open, is_own}
use Rattle.im_history.specs.History.{History}
use Rattle.im_history.specs.Transactions.{is_open}
use Rattle.im_history.specs.Views.{look_at}
use Rattle.im_names.specs.declared.fault.NameFault.{NameFault}
use Rattle.im_names.specs.declared.fault.NameFault.TheVariants.{NoMemory}
use Rattle.im_names.specs.declared.resolved.Resolved.{Resolved}
use Rattle.im_names.specs.declared.resolved.Resolved.TheVariants as resolved
use Rattle.im_names.specs.Lookups.{table_called}
use Rattle.im_names.specs.Statements.{resolution, query_answer}
use Rattle.im_plan.specs.Plan.{End, Plan}
use Rattle.im_reach.specs.Sides.{Added, Found, Known, speaks}
use Rattle.im_replies.specs.declared.body.Body.TheVariants.{Error}
use Rattle.im_replies.specs.declared.reply.Reply.{Reply}
use Rattle.im_replies.specs.Causes.{name_fault}
use Rattle.im_session.specs.inner.Names.{defines, reading_in}
use Rattle.im_session.specs.inner.Rests.{IsRest}
use Rattle.im_session.specs.Reads.{reading_of}
use Rattle.im_session.proofs.OtherLemmas.{begun-added, opened-added}
use Rattle.im_session.proofs.RestLemmas.{rest-adds, rest-end, rest-lacks_here, rest-look}
use Rattle.im_statements.proofs.AnswerLaws.{formed-each, of_table-each, unless-each}
use Rattle.im_statements.specs.Outcomes.{Outcome, State, said}
use Rattle.im_statements.specs.Statements.{definition_plan, found_plan, is_definition, looked_up, name_reply, named_plan, resolved_plan}
use Rattle.im_statements.specs.Turns.{memory_reply, settled_reply}
use Rattle.im_syntax.specs.declared.statement.Stmt.{Stmt}
use Rattle.im_syntax.specs.declared.statement.Stmt.TheVariants as stmt

-- ---- what a statement resolves to

-- it defines a table where the statement does, and reads for what the statement reads for
abbrev IsLike : Stmt → Resolved → Type 0
IsLike s r = (defines r ≡ is_definition s) × (reading_in r ≡ reading_of s)

like-answer : (ts : List TableInfo) (s : Stmt) → IfOk (resolution ts s) (IsLike s)
like-answer ts (stmt.Select q) = formed-each (IsLike (stmt.Select q)) resolved.Select (λ bound. (refl, refl)) (query_answer ts q)
like-answer ts (stmt.Explain q) = formed-each (IsLike (stmt.Explain q)) resolved.Explain (λ bound. (refl, refl)) (query_answer ts q)
like-answer ts (stmt.OpenFor cursor q) =
    formed-each (IsLike (stmt.OpenFor cursor q)) (resolved.OpenFor cursor) (λ bound. (refl, refl)) (query_answer ts q)
like-answer ts (stmt.Create name columns block extent memory) =
    unless-each (IsLike (stmt.Create name columns block extent memory)) _ _ (refl, refl)
like-answer ts (stmt.AlterMemory name memory) =
    of_table-each (IsLike (stmt.AlterMemory name memory)) (table_called ts name) name _ (λ table. (refl, refl))
like-answer ts (stmt.AlterNoMemory name) = of_table-each (IsLike (stmt.AlterNoMemory name)) (table_called ts name) name _ (λ table. (refl, refl))
like-answer ts (stmt.AddColumn name part default) =
    of_table-each (IsLike (stmt.AddColumn name part default)) (table_called ts name) name _
    (λ table. unless-each (IsLike (stmt.AddColumn name part default)) _ _ (refl, refl))
like-answer ts (stmt.Insert name names tuples) =
    of_table-each (IsLike (stmt.Insert name names tuples)) (table_called ts name) name _
    (λ table. unless-each (IsLike (stmt.Insert name names tuples)) _ _ (refl, refl))
like-answer ts (stmt.Update name sets cond) =
    of_table-each (IsLike (stmt.Update name sets cond)) (table_called ts name) name _
    (λ table. unless-each (IsLike (stmt.Update name sets cond)) _ _ (refl, refl))
like-answer ts (stmt.Delete name cond) =
    of_table-each (IsLike (stmt.Delete name cond)) (table_called ts name) name _
    (λ table. unless-each (IsLike (stmt.Delete name cond)) _ _ (refl, refl))
like-answer ts (stmt.Evict name extent) =
    of_table-each (IsLike (stmt.Evict name extent)) (table_called ts name) name _ (λ table. (refl, refl))
like-answer ts _ = (refl, refl)

like-resolved : (ts : List TableInfo) (s : Stmt) (r : Resolved) → resolution ts s ≡ Ok r → IsLike s r
like-resolved ts s r is = subst (λ (found : Result Resolved NameFault). IfOk found (IsLike s)) is (like-answer ts s)

pub defines-resolved : (ts : List TableInfo) (s : Stmt) (r : Resolved) → resolution ts s ≡ Ok r → defines r ≡ is_definition s
defines-resolved ts s r is = (like-resolved ts s r is).0

pub reading-resolved : (ts : List TableInfo) (s : Stmt) (r : Resolved) → resolution ts s ≡ Ok r → reading_in r ≡ reading_of s
reading-resolved ts s r is = (like-resolved ts s r is).1

-- ---- names

pub named-found : (who k : ℕ) (old new : Known) (state : State) (s : Stmt) (found : Look) (r : Resolved) (outcome : Outcome)
    → found ≡ look_at old.log who → resolution found.tables s ≡ Ok r → IsRest who k old (resolved_plan old.limits who state old.log r) outcome new
    → IsRest who k old (named_plan old.limits who state s old.log) outcome new
named-found who k old new state s found r outcome look_is is rest =
    rw (sym (ap (λ (l : Look). resolution l.tables s) look_is) ∙ is) rest

-- the reply for a fault of names: that memory ran out, or it
name_reply-either : (k place : ℕ) (fault : NameFault)
    → (name_reply k place fault ≡ memory_reply k) ⊎ (name_reply k place fault ≡ settled_reply place (Error (name_fault fault)))
name_reply-either k place NoMemory = inl refl
name_reply-either k place _ = inr refl

pub named-fault : (who k : ℕ) (old : Known) (state : State) (s : Stmt) (found : Look) (fault : NameFault) → speaks old.side who ≡ true
    → has_own_open old.log who ≡ false → found ≡ look_at old.log who → (fault ≡ NoMemory) ⊎ (resolution found.tables s ≡ Err fault)
    → IsRest who k old (named_plan old.limits who state s old.log) (said (name_reply k found.place fault)) old
named-fault who k old state s found fault mine shut look_is cause = elim cause [
  | inl lacking ↦ subst (λ (reply : Reply). IsRest who k old plan (said reply) old) (sym (ap (name_reply k found.place) lacking)) lacks
  | inr is ↦ by (sym (ap (λ (l : Look). resolution l.tables s) look_is) ∙ is) (name_reply-either k found.place fault)
]
  where
    plan : Plan Outcome
    plan = named_plan old.limits who state s old.log

    lacks : IsRest who k old plan (said (memory_reply k)) old
    lacks = rest-lacks_here who k old plan mine shut

    by : resolution (look_at old.log who).tables s ≡ Err fault
        → (name_reply k found.place fault ≡ memory_reply k) ⊎ (name_reply k found.place fault ≡ settled_reply found.place (Error (name_fault fault)))
        → IsRest who k old plan (said (name_reply k found.place fault)) old
    by is (inl e) = subst (λ (reply : Reply). IsRest who k old plan (said reply) old) (sym e) lacks
    by is (inr e) =
        rest-end who k old plan (said (name_reply k found.place fault))
        (ap (found_plan old.limits who state old.log) is
        ∙ ap (λ (reply : Reply). End (said reply))
        (ap (λ (l : Look). settled_reply l.place (Error (name_fault fault))) (sym look_is) ∙ sym e))

-- ---- the commit before a definition

module _ (who : ℕ) (old new : Known) (P : History → Type 0) (mine : speaks old.side who ≡ true) (added : Added old new who (λ at. what.Commit) P) where
  -- no transaction is open after it
  pub idle-commit : is_open new.log who ≡ false
  idle-commit = ap is_some (begun-added who old new what.Commit P mine added)

  -- and no cursor that was not
  pub shut-commit : has_own_open old.log who ≡ false → has_own_open new.log who ≡ false
  shut-commit shut = ap (list_any (λ (other : Opened). is_own other.cursor)) (opened-added who old new what.Commit P mine added) ∙ shut

limits-found : (old middle : Known) (P : History → Type 0) → Found old middle P → middle.limits ≡ old.limits
limits-found old middle P found = ap (λ (s : Known). s.limits) found.now

-- a definition with no transaction open
pub definition-alone : (who : ℕ) (old middle new : Known) (P : History → Type 0) (state : State) (s : Stmt) (outcome : Outcome) → Found old middle P
    → is_open middle.log who ≡ false → IsRest who 0 middle (named_plan middle.limits who state s middle.log) outcome new
    → IsRest who 0 old (definition_plan old.limits who state s) outcome new
definition-alone who old middle new P state s outcome found idle rest =
    rest-look who 0 old middle new P _ outcome found
    (rw idle (subst (λ (l : Limits). IsRest who 0 middle (named_plan l who state s middle.log) outcome new) (limits-found old middle P found) rest))

-- one that commits first
pub definition-committed : (who : ℕ) (old middle third new : Known) (P Q : History → Type 0) (state : State) (s : Stmt) (outcome : Outcome)
    → Found old middle P → is_open middle.log who ≡ true → Added middle third who (λ at. what.Commit) Q
    → IsRest who 1 third (looked_up third.limits who state s) outcome new → IsRest who 0 old (definition_plan old.limits who state s) outcome new
definition-committed who old middle third new P Q state s outcome found open_now added rest =
    rest-look who 0 old middle new P _ outcome found
    (rw open_now
    (rest-adds who 0 middle third new (λ at. Some what.Commit) (λ at. what.Commit) Q (λ at. looked_up old.limits who state s) outcome added
    refl
    (subst (λ (l : Limits). IsRest who 1 third (looked_up l who state s) outcome new)
    (ap (λ (k : Known). k.limits) added.now ∙ limits-found old middle P found) rest)))
