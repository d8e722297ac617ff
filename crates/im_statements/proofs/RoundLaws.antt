-- A line of the background in more rounds: what was left open by too few goes on, and nothing else changes.
use Rattle.std.proofs.Common.{◌≡◌, ℕ, zero, suc, ◌≤◌, ◌&&◌, inl, inr, Bool, true, false, List, [], ◌∷◌, ◌++◌, Option, Some, None, is_some, if◌then◌else◌, refl, sym, ap, ◌∙◌, subst, arith}
use Rattle.std.specs.Bool.{⊤}
use Rattle.std.proofs.lemmas.Bool.Decides.{nat_tests}
use Rattle.std.proofs.lemmas.Bool.{cases_lt}
use Rattle.im_history.specs.declared.entry.What.{What}
use Rattle.im_history.specs.declared.limits.Limits.{Limits}
use Rattle.im_history.specs.declared.task.Choice.{Choice}
use Rattle.im_history.specs.declared.task.Task.{Task}
use Rattle.im_history.specs.History.{History}
use Rattle.im_history.specs.Queue.{next, task_of}
use Rattle.im_plan.specs.Alone.{Played, cut, may_lack, play, play_or_cut, still, undecided}
use Rattle.im_plan.specs.Goes.{Goes, Lacks, PlayedLine, Others}
use Rattle.im_plan.specs.Plan.{Plan, End, Turn, counted, made}
use Rattle.im_replies.specs.declared.body.Body.TheVariants as body
use Rattle.im_replies.specs.declared.reply.Reply.{Reply}
use Rattle.im_replies.specs.declared.task.Built.{Built}
use Rattle.im_replies.specs.declared.task.Ending.{Ending}
use Rattle.im_syntax.specs.declared.statement.Stmt.{Stmt}
use Rattle.im_syntax.specs.declared.statement.Stmt.TheVariants as stmt
use Rattle.im_statements.specs.Background.{Answered, OutOfRounds, CommandOutcome, answer_with, built_of, command_amends, command_plan, finish, run, with_choice}
use Rattle.im_statements.specs.Rounds.{IsEnough, Order, is_answered, played_in}

-- the longer plan is the first one, but where that is out of rounds
abbrev pub Extends : Plan CommandOutcome → Plan CommandOutcome → Type 0
Extends (End OutOfRounds) longer = ⊤
Extends (End (Answered reply builds)) longer = longer ≡ End (Answered reply builds)
Extends (Turn decides adds on) longer =
    (further : History → Plan CommandOutcome) × (longer ≡ Turn decides adds further) × ((at : History) → Extends (on at) (further at))

-- ---- the plans

pub extends-self : (plan : Plan CommandOutcome) → Extends plan plan
extends-self (End OutOfRounds) = tt
extends-self (End (Answered reply builds)) = refl
extends-self (Turn decides adds on) = (on, refl, λ at. extends-self (on at))

-- one round more of a RUN
abbrev round_of : Limits → ℕ → List Task → ℕ → List (Built × Ending) → Task → Plan CommandOutcome
round_of limits who builds rounds so_far task =
    finish false limits who task (λ end. run limits who builds rounds (so_far ++ (built_of task, end) ∷ []))

-- where each build that may come next goes on so
choice-extends : (on further : Task → Plan CommandOutcome) (idle : Plan CommandOutcome) (at : History) (choice : Option Choice)
    → ((task : Task) → Extends (on task) (further task)) → Extends (with_choice on idle at choice) (with_choice further idle at choice)
choice-extends on further idle at None each = extends-self idle
choice-extends on further idle at (Some choice) each = each (task_of at choice)

pub run-extends : (limits : Limits) (who : ℕ) (builds : List Task) (fewer more : ℕ) (so_far : List (Built × Ending)) → fewer ≤ more
    → Extends (run limits who builds fewer so_far) (run limits who builds more so_far)
run-extends limits who builds zero more so_far few = tt
run-extends limits who builds (suc fewer) zero so_far few = absurd (omega (arith, few))
run-extends limits who builds (suc fewer) (suc more) so_far few = (
  λ at. with_choice (round_of limits who builds more so_far) (answer_with builds (body.Ran so_far)) at (next at),
  refl,
  λ at.
      choice-extends (round_of limits who builds fewer so_far) (round_of limits who builds more so_far) (answer_with builds (body.Ran so_far)) at (next at)
      (λ task. (_, refl, λ later. run-extends limits who builds fewer more _ (omega (arith, few)))),
)

pub command-extends : (limits : Limits) (who : ℕ) (builds : List Task) (fewer more : ℕ) (statement : Stmt) → fewer ≤ more
    → Extends (command_plan limits who fewer builds statement) (command_plan limits who more builds statement)
command-extends limits who builds fewer more stmt.Run few = run-extends limits who builds fewer more [] few
command-extends limits who builds fewer more stmt.Begin few = extends-self (command_plan limits who fewer builds stmt.Begin)
command-extends limits who builds fewer more stmt.Switch few = extends-self (command_plan limits who fewer builds stmt.Switch)
command-extends limits who builds fewer more stmt.Cancel few = extends-self (command_plan limits who fewer builds stmt.Cancel)
command-extends limits who builds fewer more (stmt.Trickle count) few = extends-self (command_plan limits who fewer builds (stmt.Trickle count))
command-extends limits who builds fewer more (stmt.Evict name extent) few = extends-self (command_plan limits who fewer builds (stmt.Evict name extent))
command-extends limits who builds fewer more stmt.Purge few = extends-self (command_plan limits who fewer builds stmt.Purge)
command-extends limits who builds fewer more _ few = refl

-- ---- nobody else there

pub play-extends : (who : ℕ) (old : History) (plan longer : Plan CommandOutcome) → Extends plan longer → is_answered (play who old plan).result ≡ true
    → play who old longer ≡ play who old plan
play-extends who old (End OutOfRounds) longer further answered = absurd cc
play-extends who old (End (Answered reply builds)) longer further answered = ap (play who old) further
play-extends who old (Turn decides adds on) longer further answered =
    ap (play who old) further.1 ∙ play-extends who (old ++ made who (adds old)) (on old) (further.0 old) (further.2 old) answered

counted-le : (added : Option What) (m n : ℕ) → m ≤ n → counted added m ≤ counted added n
counted-le None m n h = h
counted-le (Some what) m n h = omega (arith, h)

-- how many entries a line makes before a turn's deciding one
abbrev undecided_at : Bool → Option What → ℕ → ℕ
undecided_at decides added rest = if decides && is_some added then 0 else counted added rest

undecided_at-le : (decides : Bool) (added : Option What) (m n : ℕ) → m ≤ n → undecided_at decides added m ≤ undecided_at decides added n
undecided_at-le true None m n h = h
undecided_at-le false None m n h = h
undecided_at-le true (Some what) m n h = omega arith
undecided_at-le false (Some what) m n h = omega (arith, h)

pub undecided-extends : (who : ℕ) (old : History) (plan longer : Plan CommandOutcome) → Extends plan longer → undecided who old plan ≤ undecided who old longer
undecided-extends who old (End OutOfRounds) longer further = omega arith
undecided-extends who old (End (Answered reply builds)) longer further = omega arith
undecided-extends who old (Turn decides adds on) longer further =
    subst (λ (p : Plan CommandOutcome). undecided who old (Turn decides adds on) ≤ undecided who old p) (sym further.1)
    (undecided_at-le decides (adds old) _ _ (undecided-extends who (old ++ made who (adds old)) (on old) (further.0 old) (further.2 old)))

-- one entry fewer is left before the deciding one
still-within : (decides : Bool) (added : Option What) (left rest : ℕ) → suc left ≤ undecided_at decides added rest → still added left ≤ rest
still-within true None left rest h = h
still-within false None left rest h = h
still-within true (Some what) left rest h = absurd (omega (arith, h))
still-within false (Some what) left rest h = omega (arith, h)

-- where no more entries are to be made, memory lacks at once
cut-zero : (who : ℕ) (amends : ℕ → Plan CommandOutcome) (k : ℕ) (old : History) (plan : Plan CommandOutcome) → cut who amends k 0 old plan ≡ play who old (amends k)
cut-zero who amends k old (End value) = refl
cut-zero who amends k old (Turn decides adds on) = refl

pub cut-extends : (who : ℕ) (amends : ℕ → Plan CommandOutcome) (k left : ℕ) (old : History) (plan longer : Plan CommandOutcome) → Extends plan longer
    → left ≤ undecided who old plan → cut who amends k left old longer ≡ cut who amends k left old plan
cut-extends who amends k zero old plan longer further within = cut-zero who amends k old longer ∙ sym (cut-zero who amends k old plan)
cut-extends who amends k (suc left) old (End OutOfRounds) longer further within = absurd (omega (arith, within))
cut-extends who amends k (suc left) old (End (Answered reply builds)) longer further within = ap (cut who amends k (suc left) old) further
cut-extends who amends k (suc left) old (Turn decides adds on) longer further within =
    ap (cut who amends k (suc left) old) further.1
    ∙ cut-extends who amends k (still (adds old) left) (old ++ made who (adds old)) (on old) (further.0 old) (further.2 old)
    (still-within decides (adds old) left (undecided who (old ++ made who (adds old)) (on old)) within)

-- ---- others between the turns

module _ (others : History → Type 0) (who : ℕ) (reply : Reply) (after : List Task) where
  pub goes-extends : (old : History) (plan longer : Plan CommandOutcome) (new : History) → Extends plan longer
      → Goes others who old plan (Answered reply after) new → Goes others who old longer (Answered reply after) new
  goes-extends old (End OutOfRounds) longer new further goes = absurd (unanswered goes.value_is)
    where
      unanswered : Answered reply after ≡ OutOfRounds → ⊥
      unanswered is = absurd cc
  goes-extends old (End (Answered told builds)) longer new further goes =
      subst (λ (p : Plan CommandOutcome). Goes others who old p (Answered reply after) new) (sym further) goes
  goes-extends old (Turn decides adds on) longer new further goes =
      subst (λ (p : Plan CommandOutcome). Goes others who old p (Answered reply after) new) (sym further.1)
      (goes.0, goes.1, goes-extends (goes.0 ++ made who (adds goes.0)) (on goes.0) (further.0 goes.0) new (further.2 goes.0) goes.2)

  module _ (amends : ℕ → Plan CommandOutcome) where
    -- memory runs out before the next turn
    lacks-here : (k : ℕ) (old : History) (plan : Plan CommandOutcome) (new : History) → Goes others who old (amends k) (Answered reply after) new
        → Lacks others who amends k old plan (Answered reply after) new
    lacks-here k old (End value) new goes = goes
    lacks-here k old (Turn decides adds on) new goes = inl goes

    pub lacks-extends : (k : ℕ) (old : History) (plan longer : Plan CommandOutcome) (new : History) → Extends plan longer
        → Lacks others who amends k old plan (Answered reply after) new → Lacks others who amends k old longer (Answered reply after) new
    lacks-extends k old (End value) longer new further lacks = lacks-here k old longer new lacks
    lacks-extends k old (Turn decides adds on) longer new further lacks =
        subst (λ (p : Plan CommandOutcome). Lacks others who amends k old p (Answered reply after) new) (sym further.1)
        (elim lacks [
          | inl amended ↦ inl amended
          | inr later ↦ inr (
            later.0,
            later.1,
            later.2,
            lacks-extends (counted (adds later.0) k) (later.0 ++ made who (adds later.0)) (on later.0) (further.0 later.0) new (further.2 later.0) later.3,
          )
        ])

    pub line-extends : (old : History) (plan longer : Plan CommandOutcome) (new : History) → Extends plan longer
        → PlayedLine others who amends old plan (Answered reply after) new → PlayedLine others who amends old longer (Answered reply after) new
    line-extends old plan longer new further line = record {
      whole = record {
        played = elim line.whole.played [
          | inl goes ↦ inl (goes-extends old plan longer new further goes)
          | inr lacks ↦ inr (lacks-extends 0 old plan longer new further lacks)
        ];
      };
    }

-- ---- the laws

-- out of memory or not
same-extends : (who : ℕ) (amends : ℕ → Plan CommandOutcome) (lacked : Option ℕ) (old : History) (plan longer : Plan CommandOutcome) → Extends plan longer
    → may_lack who old plan lacked ≡ true → is_answered (play_or_cut who amends lacked old plan).result ≡ true
    → play_or_cut who amends lacked old longer ≡ play_or_cut who amends lacked old plan
same-extends who amends None old plan longer further lawful answered = play-extends who old plan longer further answered
same-extends who amends (Some k) old plan longer further lawful answered = cut-extends who amends k k old plan longer further (grind (arith, nat_tests))

may_lack-extends : (who : ℕ) (lacked : Option ℕ) (old : History) (plan longer : Plan CommandOutcome) → Extends plan longer → may_lack who old plan lacked ≡ true
    → may_lack who old longer lacked ≡ true
may_lack-extends who None old plan longer further lawful = refl
may_lack-extends who (Some k) old plan longer further lawful =
    let more = undecided-extends who old plan longer further in
    grind (arith, nat_tests)

-- the line of an order in so many rounds
abbrev plan_in : ℕ → Order → Plan CommandOutcome
plan_in rounds order = command_plan order.limits order.who rounds order.builds order.statement

order-extends : (order : Order) (fewer more : ℕ) → fewer ≤ more → Extends (plan_in fewer order) (plan_in more order)
order-extends order fewer more few = command-extends order.limits order.who order.builds fewer more order.statement few

order-same : (order : Order) (fewer more : ℕ) → fewer ≤ more → IsEnough order fewer → played_in more order ≡ played_in fewer order
order-same order fewer more few enough =
    same-extends order.who (command_amends order.who order.builds) order.lacked order.old (plan_in fewer order) (plan_in more order)
    (order-extends order fewer more few) enough.lawful enough.answered

pub play-same : (order : Order) (first second : ℕ) → IsEnough order first → IsEnough order second → played_in first order ≡ played_in second order
play-same order first second one other = elim (cases_lt first second) [
  | inl less ↦ sym (order-same order first second (omega (arith, less)) one)
  | inr least ↦ order-same order second first least other
]

pub stay-enough : (order : Order) (fewer more : ℕ) → fewer ≤ more → IsEnough order fewer → IsEnough order more
stay-enough order fewer more few enough = record {
  lawful = may_lack-extends order.who order.lacked order.old (plan_in fewer order) (plan_in more order) (order-extends order fewer more few) enough.lawful;
  answered = ap (λ (p : Played CommandOutcome). is_answered p.result) (order-same order fewer more few enough) ∙ enough.answered;
}

pub stay-among_others : (mine : ℕ → Bool) (limits : Limits) (who : ℕ) (builds after : List Task) (statement : Stmt) (fewer more : ℕ) (old : History)
    (reply : Reply) (new : History) → fewer ≤ more
    → PlayedLine (Others mine) who (command_amends who builds) old (command_plan limits who fewer builds statement) (Answered reply after) new
    → PlayedLine (Others mine) who (command_amends who builds) old (command_plan limits who more builds statement) (Answered reply after) new
stay-among_others mine limits who builds after statement fewer more old reply new few line =
    line-extends (Others mine) who reply after (command_amends who builds) old (command_plan limits who fewer builds statement)
    (command_plan limits who more builds statement) new (command-extends limits who builds fewer more statement few) line
