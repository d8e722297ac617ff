-- What a session answered in a race tells of the columns that a table got meanwhile.
use Rattle.std.proofs.Common.{◌≡◌, ℕ, ◌+◌, ◌≤◌, ◌==◌, ◌⊎◌, inl, inr, true, All, List, [], ◌∷◌, ◌++◌, length, Option, Some, None, refl, sym, ap, ◌∙◌, subst, length-append, append-nil, append_assoc, arith}
use Rattle.std.proofs.lemmas.List.Elements.{All-head, All-tail}
use Rattle.im_history.specs.declared.entry.Entry.{Entry}
use Rattle.im_history.specs.History.{History}
use Rattle.im_plan.specs.Goes.{After, Goes, Lacks, Others, PlayedLine}
use Rattle.im_plan.specs.Plan.{Plan, End, Turn, counted, made}
use Rattle.im_play.specs.Requests.{asked, script_limits}
use Rattle.im_race.specs.Jobs.{Answer, HasPlayed, OthersThan, PlaysDemand}
use Rattle.im_race.specs.Telling.{IsOf, RacesTellOfColumns, TellOfColumns, WasAlteredIn}
use Rattle.im_replies.specs.declared.body.Body.TheVariants.{Error}
use Rattle.im_replies.specs.declared.fault.Fault.TheVariants.{TableAltered}
use Rattle.im_replies.specs.declared.reply.Reply.{Reply}
use Rattle.im_script.specs.declared.line.LineKind.{LineKind}
use Rattle.im_script.specs.declared.line.LineKind.TheVariants as kind
use Rattle.im_script.specs.Lines.{SpeaksAs}
use Rattle.im_session.specs.Ends.{end_plan}
use Rattle.im_statements.specs.Altered.{WasAltered}
use Rattle.im_statements.specs.Outcomes.{Replied, State}
use Rattle.im_statements.specs.Statements.{statement_plan}
use Rattle.im_statements.specs.Turns.{amends}
use Rattle.im_syntax.specs.declared.statement.Stmt.{Stmt}
use Rattle.im_statements.proofs.AlteredLaws.{tell-columns}

-- a history went on
record GrewBy (old new : History) : Type 0 where
  more : History
  log : new ≡ old ++ more

grew-on : (old at new : History) → GrewBy old at → GrewBy at new → GrewBy old new
grew-on old at new first second = record {
  more = first.more ++ second.more;
  log = second.log ∙ (ap (λ (h : History). h ++ second.more) first.log ∙ append_assoc old first.more second.more);
}

grew-after : (others : History → Type 0) (old new : History) → After others old new → GrewBy old new
grew-after others old new after = record { more = after.between; log = after.log }

grew-goes : {R : Type 0} (others : History → Type 0) (who : ℕ) (old : History) (plan : Plan R) (result : R) (new : History)
    → Goes others who old plan result new → GrewBy old new
grew-goes others who old (End value) result new goes = grew-after others old new goes.after
grew-goes others who old (Turn decides adds on) result new goes =
    let at = goes.0 in
    grew-on old at new (grew-after others old at goes.1)
    (grew-on at (at ++ made who (adds at)) new (record { more = made who (adds at); log = refl })
    (grew-goes others who (at ++ made who (adds at)) (on at) result new goes.2))

grew-lacks : {R : Type 0} (others : History → Type 0) (who : ℕ) (amends : ℕ → Plan R) (k : ℕ) (old : History) (plan : Plan R) (result : R) (new : History)
    → Lacks others who amends k old plan result new → GrewBy old new
grew-lacks others who amends k old (End value) result new lacks = grew-goes others who old (amends k) result new lacks
grew-lacks others who amends k old (Turn decides adds on) result new lacks = elim lacks [
  | inl goes ↦ grew-goes others who old (amends k) result new goes
  | inr later ↦
      grew-on old later.0 new (grew-after others old later.0 later.1)
      (grew-on later.0 (later.0 ++ made who (adds later.0)) new (record { more = made who (adds later.0); log = refl })
      (grew-lacks others who amends (counted (adds later.0) k) (later.0 ++ made who (adds later.0)) (on later.0) result new later.3))
]

grew-line : {R : Type 0} (others : History → Type 0) (who : ℕ) (amends : ℕ → Plan R) (old : History) (plan : Plan R) (result : R) (new : History)
    → PlayedLine others who amends old plan result new → GrewBy old new
grew-line others who amends old plan result new line = elim line.whole.played [
  | inl goes ↦ grew-goes others who old plan result new goes
  | inr lacks ↦ grew-lacks others who amends 0 old plan result new lacks
]

longer : (old new : History) → GrewBy old new → length old ≤ length new
longer old new grew =
    let long = ap length grew.log ∙ length-append old grew.more in omega (arith, long)

grew-none : (old new : History) → new ≡ old → GrewBy old new
grew-none old new same = record { more = []; log = same ∙ sym (append-nil old) }

-- what a line tells
record Tells (who : ℕ) (old : History) (reply : Reply) (at : History) : Type 0 where
  grew : GrewBy old at
  altered : (table place : ℕ) → reply.body ≡ Error (TableAltered table place) → WasAlteredIn who (length old) table place reply at

-- a line that nobody plays tells nothing
told-plain : (who : ℕ) (old : History) (reply told : Reply) (at : History) → reply ≡ told → at ≡ old
    → ((table place : ℕ) → told.body ≡ Error (TableAltered table place) → ⊥) → Tells who old reply at
told-plain who old reply told at is same never = record {
  grew = grew-none old at same;
  altered = λ table place says. absurd (never table place (ap (λ (r : Reply). r.body) (sym is) ∙ says));
}

told-session : (area who speaker number : ℕ) (statement : Stmt) (state : State) (old : History) (reply : Reply) (kept : State) (at : History) → who ≡ speaker
    → PlaysDemand who state old reply (asked area number (kind.Session speaker statement)) kept at → Tells who old reply at
told-session area who speaker number statement state old reply kept at same plays =
    let own = subst (λ (n : ℕ). PlaysDemand who state old reply (asked area number (kind.Session n statement)) kept at) (sym same) plays in
    let line = own.2 in
    record {
      grew =
          grew-line (OthersThan who) who (amends who) old (statement_plan (script_limits area) who state statement) (Replied reply own.0) at line;
      altered = λ table place says.
          let was = tell-columns (λ number. who == number) (script_limits area) who state statement old reply own.0 at table place says line in
          record { at = was.at; settled = was.settled; got = was.got; rest = was.after.between; goes_on = was.after.log };
    }

the_number : {a b : ℕ} → Some a ≡ Some b → a ≡ b
the_number is = cc

told-line : (area who number : ℕ) (k : LineKind) (state : State) (old : History) (reply : Reply) (kept : State) (at : History) → SpeaksAs (Some who) k
    → PlaysDemand who state old reply (asked area number k) kept at → Tells who old reply at
told-line area who number kind.Skip state old reply kept at of plays = absurd plays
told-line area who number kind.Race state old reply kept at of plays = absurd plays
told-line area who number (kind.Long length) state old reply kept at of plays = told-plain who old reply _ at plays.0 plays.2 (λ table place says. absurd cc)
told-line area who number (kind.Bad byte) state old reply kept at of plays = told-plain who old reply _ at plays.0 plays.2 (λ table place says. absurd cc)
told-line area who number kind.NoMemory state old reply kept at of plays = told-plain who old reply _ at plays.0 plays.2 (λ table place says. absurd cc)
told-line area who number (kind.Background statement) state old reply kept at of plays = absurd plays
told-line area who number (kind.Session speaker statement) state old reply kept at of plays =
    told-session area who speaker number statement state old reply kept at (the_number of.0) plays

grew-demand : (area who number : ℕ) (k : LineKind) (state : State) (old : History) (reply : Reply) (kept : State) (at : History)
    → PlaysDemand who state old reply (asked area number k) kept at → GrewBy old at
grew-demand area who number kind.Skip state old reply kept at plays = absurd plays
grew-demand area who number kind.Race state old reply kept at plays = absurd plays
grew-demand area who number (kind.Long length) state old reply kept at plays = grew-none old at plays.2
grew-demand area who number (kind.Bad byte) state old reply kept at plays = grew-none old at plays.2
grew-demand area who number kind.NoMemory state old reply kept at plays = grew-none old at plays.2
grew-demand area who number (kind.Background statement) state old reply kept at plays = absurd plays
grew-demand area who number (kind.Session speaker statement) state old reply kept at plays =
    grew-line (OthersThan who) who (amends speaker) old (statement_plan (script_limits area) speaker state statement) (Replied reply plays.0) at plays.2

-- the history that a session left
grew-played : (area who : ℕ) (state : State) (old : History) (answers : List Answer) (new : History) → HasPlayed area who state old answers new → GrewBy old new
grew-played area who state old [] new played = grew-goes (OthersThan who) who old (end_plan who) tt new played
grew-played area who state old (answer ∷ answers) new played =
    grew-on old played.1 new (grew-demand area who answer.line.number answer.line.kind state old answer.reply played.0 played.1 played.2)
    (grew-played area who played.0 played.1 answers new played.3)

-- what was told of a beginning is told of the whole
goes-on : (who known table place : ℕ) (reply : Reply) (old new : History) → GrewBy old new → WasAlteredIn who known table place reply old
    → WasAlteredIn who known table place reply new
goes-on who known table place reply old new grew was = record {
  at = was.at;
  settled = was.settled;
  got = was.got;
  rest = was.rest ++ grew.more;
  goes_on = grew.log ∙ (ap (λ (h : History). h ++ grew.more) was.goes_on ∙ append_assoc was.at was.rest grew.more);
}

-- what a session answered tells so
pub tell-race : RacesTellOfColumns
tell-race area who state old new [] all played = longer old new (grew-goes (OthersThan who) who old (end_plan who) tt new played)
tell-race area who state old new (answer ∷ answers) all played =
    let kept = played.0 in
    let at = played.1 in
    let tells =
    told-line area who answer.line.number answer.line.kind state old answer.reply kept at (All-head (IsOf who) answer answers all) played.2 in
    let rest = grew-played area who kept at answers new played.3 in (
      λ table place says. goes-on who (length old) table place answer.reply at new rest (tells.altered table place says),
      (length at, longer old at tells.grew, tell-race area who kept at new answers (All-tail (IsOf who) answer answers all) played.3),
    )
