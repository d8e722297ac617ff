-- An EVICT whose table's name was looked up.
use Rattle.std.proofs.Common.{◌≡◌, ℕ, zero, suc, true, false, List, [], Option, Some, None, Result, Ok, Err, slice_get, ◌⊎◌, inl, inr, refl, sym, ap, ◌∙◌, subst}
use Rattle.std.specs.Option.{option_map}
use Rattle.im_history.specs.declared.look.Look.{Look}
use Rattle.im_history.specs.declared.look.TableInfo.{TableInfo}
use Rattle.im_history.specs.declared.task.Task.{Task}
use Rattle.im_history.specs.History.{History}
use Rattle.im_history.specs.Legal.{Exists, IsLawful}
use Rattle.im_history.specs.Tables.{tables}
use Rattle.im_history.specs.Views.{look_at}
use Rattle.im_history.proofs.ShapeLaws.{defaults-fit}
use Rattle.im_names.specs.declared.fault.NameFault.{NameFault}
use Rattle.im_names.specs.declared.fault.NameFault.TheVariants.{NoMemory}
use Rattle.im_names.specs.declared.resolved.Resolved.{Resolved}
use Rattle.im_names.specs.declared.resolved.Resolved.TheVariants as resolved
use Rattle.im_names.specs.Fitting.{DefaultsFit, OfTable, Serves, columns_at}
use Rattle.im_names.specs.Statements.{resolution}
use Rattle.im_plan.specs.Plan.{Plan, End}
use Rattle.im_reach.specs.Sides.{Found, Known, speaks}
use Rattle.im_replies.specs.declared.body.Body.TheVariants as body
use Rattle.im_replies.specs.declared.reply.Reply.{Reply}
use Rattle.im_replies.specs.Causes.{name_fault}
use Rattle.im_statements.specs.Background.{Answered, CommandOutcome, evict, evict_found, nothing, said}
use Rattle.im_syntax.specs.declared.statement.Stmt.{Stmt}
use Rattle.im_values.specs.declared.schema.Column.{Column}
use Rattle.im_worker.specs.Background.{Ready, tasks_of}
use Rattle.im_worker.specs.inner.Rests.{IsRest}
use Rattle.im_worker.specs.inner.Running.{IsRun, evict_named, extent_of}
use Rattle.im_worker.specs.inner.Standing.{Stands}
use Rattle.im_worker.proofs.RestLemmas.{rest-nothing, stands-went, went-found}
use Rattle.im_worker.proofs.RunLemmas.{run-ends, run-lacks}

-- what was looked at
abbrev pub Looks : ℕ → Look → Known → Known → Type 0
Looks who look old mid = Found old mid (λ at. look ≡ look_at at who)

tables-seen : (who : ℕ) (look : Look) (old mid : Known) → Looks who look old mid → look.tables ≡ tables mid.log
tables-seen who look old mid found = ap (λ (l : Look). l.tables) found.fact ∙ ap (λ (s : Known). tables s.log) (sym found.now)

-- the plan behind a name that was found
abbrev by_extent : ℕ → List Task → Option (ℕ × ℕ) → Plan CommandOutcome
by_extent who builds None = nothing builds
by_extent who builds (Some both) = evict who builds both.0 both.1

found-is : (who : ℕ) (builds : List Task) (r : Resolved) → evict_found who builds (Ok r) ≡ by_extent who builds (extent_of r)
found-is who builds (resolved.Evict table extent) = refl
found-is who builds _ = refl

-- the line goes on from there
pub named-on : (who : ℕ) (builds : List Ready) (look : Look) (stmt : Stmt) (answered : Result Resolved NameFault) (plan : Plan CommandOutcome) (old mid new : Known)
    (reply : Reply) → Looks who look old mid → resolution look.tables stmt ≡ answered → evict_found who (tasks_of builds) answered ≡ plan
    → IsRun who plan builds mid reply builds new → IsRun who (evict_named who (tasks_of builds) stmt) builds old reply builds new
named-on who builds look stmt answered plan old mid new reply found is plan_is run = record {
  rest = rest-nothing who 0 (tasks_of builds) old mid new false (λ at. None) (λ at. evict_found who (tasks_of builds) (resolution (tables at) stmt))
      (Answered reply (tasks_of builds)) (went-found old mid _ found) refl
      (subst (λ (p : Plan CommandOutcome). IsRest who 0 (tasks_of builds) mid p (Answered reply (tasks_of builds)) new)
      (sym (ap (λ (ts : List TableInfo). evict_found who (tasks_of builds) (resolution ts stmt))
      (sym (tables-seen who look old mid found))
      ∙ (ap (evict_found who (tasks_of builds)) is ∙ plan_is))) run.rest);
  stands = run.stands;
}

pub named-extent : (who : ℕ) (builds : List Ready) (look : Look) (stmt : Stmt) (r : Resolved) (both : ℕ × ℕ) (old mid new : Known) (reply : Reply)
    → Looks who look old mid → resolution look.tables stmt ≡ Ok r → extent_of r ≡ Some both
    → IsRun who (evict who (tasks_of builds) both.0 both.1) builds mid reply builds new
    → IsRun who (evict_named who (tasks_of builds) stmt) builds old reply builds new
named-extent who builds look stmt r both old mid new reply found is extent run =
    named-on who builds look stmt (Ok r) (evict who (tasks_of builds) both.0 both.1) old mid new reply found is
    (found-is who (tasks_of builds) r ∙ ap (by_extent who (tasks_of builds)) extent) run

pub named-nothing : (who : ℕ) (builds : List Ready) (look : Look) (stmt : Stmt) (r : Resolved) (old mid : Known) → speaks old.side who ≡ true
    → IsLawful mid.limits mid.log → Stands who builds [] old.log → Looks who look old mid → resolution look.tables stmt ≡ Ok r → extent_of r ≡ None
    → IsRun who (evict_named who (tasks_of builds) stmt) builds old (said body.Nothing) builds mid
named-nothing who builds look stmt r old mid mine lawful stands found is extent =
    named-on who builds look stmt (Ok r) (nothing (tasks_of builds)) old mid mid (said body.Nothing) found is
    (found-is who (tasks_of builds) r ∙ ap (by_extent who (tasks_of builds)) extent)
    (run-ends who builds mid (nothing (tasks_of builds)) (said body.Nothing) refl
    (stands-went old mid who builds [] mine lawful (went-found old mid _ found) stands))

pub named-fault : (who : ℕ) (builds : List Ready) (look : Look) (stmt : Stmt) (fault : NameFault) (old mid : Known) → speaks old.side who ≡ true
    → IsLawful mid.limits mid.log → Stands who builds [] old.log → Looks who look old mid → (fault ≡ NoMemory) ⊎ (resolution look.tables stmt ≡ Err fault)
    → IsRun who (evict_named who (tasks_of builds) stmt) builds old (said (body.Error (name_fault fault))) builds mid
named-fault who builds look stmt fault old mid mine lawful stands found cause = elim cause [
  | inl lacks ↦ subst (λ (f : NameFault).
      IsRun who (evict_named who (tasks_of builds) stmt) builds old (said (body.Error (name_fault f))) builds mid) (sym lacks)
      (run-lacks who builds old mid _ (evict_named who (tasks_of builds) stmt) mine lawful stands found)
  | inr is ↦ named-on who builds look stmt (Err fault) (End (Answered (said (body.Error (name_fault fault))) (tasks_of builds))) old mid mid
      (said (body.Error (name_fault fault))) found is refl
      (run-ends who builds mid _ (said (body.Error (name_fault fault))) refl
      (stands-went old mid who builds [] mine lawful (went-found old mid _ found) stands))
]

-- ---- the table is there

-- the columns of a table that is there
none_there : {X : Type 0} {x : X} → None ≡ Some x → ⊥
none_there is = cc

exists-of : (h : History) (table : ℕ) (columns : List Column) → columns_at (tables h) table ≡ Some columns → Exists h table
exists-of h zero columns is = absurd (none_there is)
exists-of h (suc before) columns is = by (slice_get (tables h) before) refl is
  where
    by : (o : Option TableInfo) → slice_get (tables h) before ≡ o → option_map (λ (table : TableInfo). table.schema) o ≡ Some columns → Exists h (suc before)
    by None at is = absurd (none_there is)
    by (Some made) at is = record { made = made; is = at }

serves-extent : (ts : List TableInfo) (r : Resolved) (both : ℕ × ℕ) → Serves ts r → extent_of r ≡ Some both → OfTable ts both.0 (λ columns. Unit {0})
serves-extent ts (resolved.Evict table extent) both serves is =
    let same : (table, extent) ≡ both = cc in subst (λ (b : ℕ × ℕ). OfTable ts b.0 (λ columns. Unit {0})) same serves
serves-extent ts _ both serves is = absurd (none_there is)

pub named-exists : (who : ℕ) (look : Look) (r : Resolved) (both : ℕ × ℕ) (old mid : Known) → Looks who look old mid → IsLawful mid.limits mid.log
    → (DefaultsFit look.tables → Serves look.tables r) → extent_of r ≡ Some both → Exists mid.log both.0
named-exists who look r both old mid found lawful serves is =
    let seen = tables-seen who look old mid found in
    let fit : DefaultsFit look.tables =
    subst DefaultsFit (sym seen) (record { each = λ number table there. defaults-fit mid.limits mid.log number table lawful.legal there }) in
    let of = serves-extent look.tables r both (serves fit) is in
    exists-of mid.log both.0 of.columns (ap (λ (ts : List TableInfo). columns_at ts both.0) (sym seen) ∙ of.are_of)
