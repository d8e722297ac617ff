-- The sessions of a script as a list: one of them plays a statement, and the others stay as they were.
use Rattle.std.proofs.Common.{◌≡◌, ℕ, zero, suc, ◌+◌, ◌<◌, ◌≤◌, ◌==◌, false, All, List, [], ◌∷◌, ◌++◌, length, map, Some, refl, sym, ap, ◌∙◌, subst, arith, append_assoc}
use Rattle.std.specs.Prelude.{slice_get, slice_index_or, slice_set}
use Rattle.std.proofs.lemmas.Bool.Decides.{nat_tests}
use Rattle.std.proofs.lemmas.List.Elements.{All-append, All-weaker}
use Rattle.std.proofs.lemmas.Option.{slice_get_within}
use Rattle.im_history.specs.declared.entry.Entry.{Entry}
use Rattle.im_history.specs.declared.limits.Limits.{Limits}
use Rattle.im_history.specs.declared.task.Task.{Task}
use Rattle.im_history.specs.History.{History}
use Rattle.im_history.specs.Legal.{IsLawful}
use Rattle.im_plan.specs.Goes.{PlayedLine as Whole, Nobody}
use Rattle.im_plan.proofs.AloneLaws.{line_alone as line-machine}
use Rattle.im_reach.specs.Sides.{Known, sole, speaks}
use Rattle.im_reach.proofs.RestLaws.{nobody-came}
use Rattle.im_replies.specs.declared.reply.Reply.{Reply}
use Rattle.im_session.specs.Reads.{IsCounted, reading_of}
use Rattle.im_session.specs.Sessions.{Agrees, IsStatementPlayed, Kept, state_of}
use Rattle.im_session.proofs.ForCallers.{IsOwn, agrees-other, agrees-own, line-alone, line-own, played-alone, played-own}
use Rattle.im_play.specs.Machine.{IsAnswer, IsAnswered, IsCommandAnswer, Machine, state_in}
use Rattle.im_play.specs.Requests.{BACKGROUND, asked, script_limits}
use Rattle.im_script.specs.declared.line.Line.{Line}
use Rattle.im_script.specs.declared.line.LineKind.{LineKind}
use Rattle.im_script.specs.declared.line.LineKind.TheVariants as kind
use Rattle.im_play.specs.Between.{Answers, AreSessions, IsBetween, IsHolding, background_side, command_of, machine_of, request_of}
use Rattle.im_play.proofs.ThereLemmas.{there-command, there-session}
use Rattle.im_statements.specs.Background as command
use Rattle.im_statements.specs.Background.{Answered, command_amends, command_plan}
use Rattle.im_statements.specs.Outcomes.{Outcome, Replied, State, fresh, kept_after}
use Rattle.im_statements.specs.Statements.{statement_plan}
use Rattle.im_statements.specs.Turns.{amends}
use Rattle.im_syntax.specs.declared.statement.Stmt.{Stmt}
use Rattle.im_values.specs.declared.limits.TheConstants.{NUMBERS, SESSIONS}
use Rattle.im_worker.specs.Background as background
use Rattle.im_worker.specs.Background.{tasks_of}
use Rattle.im_worker.specs.Reads as builds
use Rattle.im_worker.proofs.ForCallers.{agrees-behind}

some-inj : {a b : Kept} → Some a ≡ Some b → a ≡ b
some-inj e = cc

-- ---- one of them

indexed : (sessions : List Kept) (at : ℕ) (other : Kept) → at < length sessions → slice_get sessions at ≡ Some (slice_index_or sessions at other)
indexed [] at other inside = absurd (omega (arith, inside))
indexed (s ∷ ss) zero other inside = refl
indexed (s ∷ ss) (suc at) other inside = indexed ss at other (omega (arith, inside))

pub session-there : (sessions : List Kept) (at : ℕ) (session : Kept) (now : Known) (kept : background.Kept) → IsBetween now sessions kept → at ≤ SESSIONS
    → session ≡ slice_index_or sessions at session → slice_get sessions at ≡ Some session
session-there sessions at session now kept between within is =
    indexed sessions at session (let count = between.count in omega (arith, count, within)) ∙ ap Some (sym is)

-- the session of a number
pub record IsSession (first : ℕ) (sessions : List Kept) (at : ℕ) (session : Kept) (now : Known) : Type 0 where
  pub number : session.who ≡ first + at
  pub agrees : 1 ≤ first + at → Agrees session now

session-at : (first : ℕ) (sessions : List Kept) (at : ℕ) (session : Kept) (now : Known) → AreSessions first sessions now
    → slice_get sessions at ≡ Some session → IsSession first sessions at session now
session-at first [] at session now are is = absurd cc
session-at first (s ∷ ss) zero session now are is = record {
  number = ap (λ (k : Kept). k.who) (sym (some-inj is)) ∙ (are.0 ∙ omega arith);
  agrees = λ one. subst (λ (k : Kept). Agrees k now) (some-inj is) (are.1 (omega (arith, one)));
}
session-at first (s ∷ ss) (suc at) session now are is =
    let later = session-at (suc first) ss at session now are.2 is in
    record { number = later.number ∙ omega arith; agrees = λ one. later.agrees (omega (arith, one)) }

-- what it keeps
state-at : (sessions : List Kept) (at : ℕ) (session : Kept) → slice_get sessions at ≡ Some session
    → slice_index_or (map (λ s. state_of s.cursors) sessions) at fresh ≡ state_of session.cursors
state-at [] at session is = absurd cc
state-at (s ∷ ss) zero session is = ap (λ (k : Kept). state_of k.cursors) (some-inj is)
state-at (s ∷ ss) (suc at) session is = state-at ss at session is

state-set : (sessions : List Kept) (at : ℕ) (after : Kept)
    → map (λ s. state_of s.cursors) (slice_set sessions at after) ≡ slice_set (map (λ s. state_of s.cursors) sessions) at (state_of after.cursors)
state-set [] at after = refl
state-set (s ∷ ss) zero after = refl
state-set (s ∷ ss) (suc at) after = ap (λ (states : List State). state_of s.cursors ∷ states) (state-set ss at after)

length-set : (sessions : List Kept) (at : ℕ) (after : Kept) → length (slice_set sessions at after) ≡ length sessions
length-set [] at after = refl
length-set (s ∷ ss) zero after = refl
length-set (s ∷ ss) (suc at) after = ap suc (length-set ss at after)

-- ---- one number goes on

-- the sessions of other numbers agree as they did
pub others-agree : (who : ℕ) (old new : Known) → IsOwn who old.log new.log → (first : ℕ) (sessions : List Kept)
    → ((number : ℕ) → first ≤ number → 1 ≤ number → (who == number) ≡ false) → AreSessions first sessions old → AreSessions first sessions new
others-agree who old new own first [] apart are = tt
others-agree who old new own first (session ∷ sessions) apart are = (
  are.0,
  λ one. agrees-own who session old new own (ap (λ (n : ℕ). who == n) are.0 ∙ apart first (omega arith) one) (are.1 one),
  others-agree who old new own (suc first) sessions (λ number above one. apart number (omega (arith, above)) one) are.2,
)

-- the background holds what it held, where a session went on
holding-own : (who : ℕ) (kept : background.Kept) (old new : Known) → 1 ≤ who → IsOwn who old.log new.log → IsHolding kept old → IsHolding kept new
holding-own who kept old new one own holding = record {
  who = holding.who;
  at = holding.at;
  agrees = record { builds = holding.agrees.builds; ready = holding.agrees.ready; own = holding.agrees.own };
  after = record {
    between = holding.after.between ++ own.more;
    lawful = record {
      alone = λ alone. absurd cc;
      apart = All-append Apart holding.after.between own.more holding.after.lawful.apart others;
    };
    log = own.log ∙ (ap (λ (h : History). h ++ own.more) holding.after.log ∙ append_assoc holding.at holding.after.between own.more);
  };
}
  where
    Apart : Entry → Type 0
    Apart entry = speaks background_side entry.who ≡ false

    others : All Apart own.more
    others =
        All-weaker (λ (entry : Entry). entry.who ≡ who) Apart
        (λ entry is. ap (λ (n : ℕ). BACKGROUND == n) is ∙ (let e : (BACKGROUND == who) ≡ false = grind (arith, nat_tests, one) in e)) own.more own.own

-- whoever is not the background has another number than it
not-background : (kept : background.Kept) → kept.who ≡ BACKGROUND → (entry : Entry) → speaks background_side entry.who ≡ false
    → (entry.who == kept.who) ≡ false
not-background kept who entry apart = rw who (let e : (entry.who == BACKGROUND) ≡ false = grind (arith, nat_tests, apart) in e)

-- the builds that the background holds now
pub holding-now : (kept : background.Kept) (now : Known) → IsHolding kept now → IsLawful now.limits now.log → background.Agrees kept now
holding-now kept now holding lawful =
    agrees-behind kept (record now { log = holding.at }) now holding.after.between lawful holding.after.log
    (All-weaker (λ (entry : Entry). speaks background_side entry.who ≡ false) (λ (entry : Entry). (entry.who == kept.who) ≡ false)
    (not-background kept holding.who) holding.after.between holding.after.lawful.apart)
    holding.agrees

pub holding-new : (kept : background.Kept) (now : Known) → kept.who ≡ BACKGROUND → background.Agrees kept now → IsHolding kept now
holding-new kept now who agrees = record {
  who = who;
  at = now.log;
  agrees = record { builds = agrees.builds; ready = agrees.ready; own = agrees.own };
  after = nobody-came background_side now.log;
}

-- ---- a session plays a statement

module _ (s : Stmt) (before after : Kept) (old new : Known) (reply : Reply) (alone : old.side ≡ sole) (played : IsStatementPlayed s before old reply after new) where
  own_of : IsOwn before.who old.log new.log
  own_of = played-own s before after old new reply alone played

  sessions-set : (first : ℕ) (sessions : List Kept) (at : ℕ) → AreSessions first sessions old → slice_get sessions at ≡ Some before → Agrees after new
      → before.who ≡ first + at → AreSessions first (slice_set sessions at after) new
  sessions-set first [] at are is agrees number = absurd cc
  sessions-set first (session ∷ sessions) zero are is agrees number = (
    played.same ∙ (number ∙ omega arith),
    λ one. agrees,
    others-agree before.who old new own_of (suc first) sessions (λ other above one. grind (arith, nat_tests, number, above)) are.2,
  )
  sessions-set first (session ∷ sessions) (suc at) are is agrees number = (
    are.0,
    λ one. agrees-other s before after session old new reply alone played (let e = are.0 in grind (arith, nat_tests, e, number)) (are.1 one),
    sessions-set (suc first) sessions at are.2 is agrees (number ∙ omega arith),
  )

module _ (sessions : List Kept) (at : ℕ) (before : Kept) (kept : background.Kept) (old : Known) (between : IsBetween old sessions kept)
    (is : slice_get sessions at ≡ Some before) (first : 1 ≤ at) where
  one : IsSession 0 sessions at before old
  one = session-at 0 sessions at before old between.agree is

  number-is : before.who ≡ at
  number-is = one.number ∙ omega arith

  pub session-agrees : Agrees before old
  session-agrees = one.agrees (omega (arith, first))

  pub session-number : at ≤ SESSIONS → before.who < NUMBERS
  session-number within = let e = number-is in omega (arith, e, within)

  module _ (s : Stmt) (after : Kept) (new : Known) (reply : Reply) (steps later : ℕ) (played : IsStatementPlayed s before old reply after new)
      (agrees : Agrees after new)
      (counted : IsCounted (reading_of s) (state_of before.cursors) before.who reply steps later old.log new.log) where
    pub between-after : IsBetween new (slice_set sessions at after) kept
    between-after = record {
      side = ap (λ (k : Known). k.side) played.known ∙ between.side;
      limits = subst (λ (l : Limits). l ≡ script_limits l.area) (sym (ap (λ (k : Known). k.limits) played.known)) between.limits;
      count = length-set sessions at after ∙ between.count;
      agree = sessions-set s before after old new reply between.side played 0 sessions at between.agree is agrees one.number;
      holding =
          holding-own before.who kept old new (let e = number-is in omega (arith, e, first)) (own_of s before after old new reply between.side played)
          between.holding;
      there = there-session s before after old new reply between.side few played between.there;
    }
      where
        few : before.who ≤ SESSIONS
        few =
            let inside = slice_get_within sessions at before is in
            let count = between.count in
            let e = number-is in
            omega (arith, inside, count, e)

    pub limits-after : new.limits ≡ old.limits
    limits-after = ap (λ (k : Known). k.limits) played.known

    pub answer-after : (number : ℕ) → IsAnswer steps later (request_of old.limits.area number at s)
        (machine_of old sessions kept) reply (machine_of new (slice_set sessions at after) kept)
    answer-after number = record {
      effect = played.effect;
      line =
          line-machine at (amends at) old.log (statement_plan limits at (state_in machine at) s) outcome new.log
          (subst (λ (n : ℕ). Whole Nobody n (amends n) old.log (statement_plan limits n (state_in machine at) s) outcome new.log) number-is
          (subst (λ (l : Limits). Whole Nobody before.who (amends before.who) old.log (statement_plan l before.who (state_in machine at) s) outcome new.log)
          between.limits
          (subst (λ (state : State). Whole Nobody before.who (amends before.who) old.log (statement_plan old.limits before.who state s) outcome new.log)
          (sym keeps) (played-alone s before after old new reply between.side played))));
      states =
          state-set sessions at after
          ∙ ap (slice_set machine.states at) (played.keeps ∙ ap (kept_after played.effect) (sym keeps));
      builds_are = refl;
      counted =
          subst (λ (n : ℕ). IsCounted (reading_of s) (state_in machine at) n reply steps later old.log new.log) number-is
          (subst (λ (state : State). IsCounted (reading_of s) state before.who reply steps later old.log new.log) (sym keeps) counted);
    }
      where
        machine : Machine
        machine = machine_of old sessions kept

        limits : Limits
        limits = script_limits old.limits.area

        outcome : Outcome
        outcome = Replied reply played.effect

        keeps : state_in machine at ≡ state_of before.cursors
        keeps = state-at sessions at before is

-- a line of a session
pub answers-session : (area before after : ℕ) (line : Line) (who : ℕ) (s : Stmt) (old new : Machine) (reply : Reply) → line.kind ≡ kind.Session who s
    → ((number : ℕ) → IsAnswer before after (request_of area number who s) old reply new) → Answers area before after line old (Some reply) new
answers-session area before after line who s old new reply is answer = record {
  answered = subst (λ (k : LineKind). IsAnswered before after (asked area line.number k) old (Some reply) new) (sym is) (answer line.number);
}

-- ---- the background plays a statement

module _ (sessions : List Kept) (kept after : background.Kept) (old new : Known) (between : IsBetween old sessions kept) (s : Stmt) (reply : Reply)
    (steps later : ℕ) (played : background.IsCommandPlayed s kept old reply after new) (agrees : background.Agrees after new)
    (counted : builds.IsCounted kept.who steps later old.log new.log) where
  who-is : kept.who ≡ BACKGROUND
  who-is = between.holding.who

  command-alone : Whole Nobody kept.who (command_amends kept.who (tasks_of kept.builds)) old.log
      (command_plan old.limits kept.who played.rounds (tasks_of kept.builds) s) (Answered reply (tasks_of after.builds)) new.log
  command-alone =
      line-alone old.side kept.who (command_amends kept.who (tasks_of kept.builds)) old.log
      (command_plan old.limits kept.who played.rounds (tasks_of kept.builds) s) (Answered reply (tasks_of after.builds)) new.log between.side played.line

  kept-own : IsOwn kept.who old.log new.log
  kept-own =
      line-own kept.who (command_amends kept.who (tasks_of kept.builds)) old.log
      (command_plan old.limits kept.who played.rounds (tasks_of kept.builds) s) (Answered reply (tasks_of after.builds)) new.log command-alone

  command-own : IsOwn BACKGROUND old.log new.log
  command-own = subst (λ (n : ℕ). IsOwn n old.log new.log) who-is kept-own

  pub between-command : IsBetween new sessions after
  between-command = record {
    side = ap (λ (k : Known). k.side) played.known ∙ between.side;
    limits = subst (λ (l : Limits). l ≡ script_limits l.area) (sym (ap (λ (k : Known). k.limits) played.known)) between.limits;
    count = between.count;
    agree = others-agree BACKGROUND old new command-own 0 sessions (λ number above one. grind (arith, nat_tests, one)) between.agree;
    holding = holding-new after new (played.same ∙ who-is) agrees;
    there = there-command s kept after old new reply between.side (let e = who-is in omega (arith, e)) kept-own played between.there;
  }

  pub limits-command : new.limits ≡ old.limits
  limits-command = ap (λ (k : Known). k.limits) played.known

  pub answer-command : (number : ℕ) → IsCommandAnswer steps later (command_of old.limits.area number s)
      (machine_of old sessions kept) reply (machine_of new sessions after)
  answer-command number = record {
    rounds = played.rounds;
    line =
        line-machine BACKGROUND (command_amends BACKGROUND tasks) old.log (command_plan (script_limits old.limits.area) BACKGROUND played.rounds tasks s)
        outcome new.log
        (subst (λ (n : ℕ).
        Whole Nobody n (command_amends n tasks) old.log (command_plan (script_limits old.limits.area) n played.rounds tasks s) outcome new.log)
        who-is
        (subst (λ (l : Limits). Whole Nobody kept.who (command_amends kept.who tasks) old.log (command_plan l kept.who played.rounds tasks s) outcome new.log)
        between.limits command-alone));
    states_are = refl;
    counted = subst (λ (n : ℕ). builds.IsCounted n steps later old.log new.log) who-is counted;
  }
    where
      tasks : List Task
      tasks = tasks_of kept.builds

      outcome : command.CommandOutcome
      outcome = Answered reply (tasks_of after.builds)

-- a line of the background
pub answers-command : (area before after : ℕ) (line : Line) (s : Stmt) (old new : Machine) (reply : Reply) → line.kind ≡ kind.Background s
    → ((number : ℕ) → IsCommandAnswer before after (command_of area number s) old reply new) → Answers area before after line old (Some reply) new
answers-command area before after line s old new reply is answer = record {
  answered = subst (λ (k : LineKind). IsAnswered before after (asked area line.number k) old (Some reply) new) (sym is) (answer line.number);
}
