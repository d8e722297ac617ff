-- What plans of a session's statements keep: what is kept of its cursors, what its replies tell of its transaction, and that nobody leaves.
use Rattle.std.proofs.Common.{◌≡◌, ℕ, ◌==◌, ◌&&◌, Bool, true, false, not, if◌then◌else◌, List, [], ◌∷◌, ◌++◌, length, Option, Some, None, is_some, refl, sym, ap, ◌∙◌, subst, inl, inr, arith, append-nil}
use Rattle.std.proofs.lemmas.Bool.Decides.{nat_tests}
use Rattle.std.specs.List.{AllByRecursion, list_any}
use Rattle.im_history.specs.declared.entry.What.{What}
use Rattle.im_history.specs.declared.entry.What.TheVariants as what
use Rattle.im_history.specs.Cursors.{Opened, is_cursor, is_cursor_open, is_one_of, is_own, opened, opened_after, own_cursors}
use Rattle.im_history.specs.History.{History}
use Rattle.im_history.specs.Leaves.{is_leave}
use Rattle.im_history.specs.Transactions.{begun, begun_after, is_open, or_here}
use Rattle.im_history.specs.Views.{view_at}
use Rattle.im_history.proofs.Laws.{begun-push, opened-push}
use Rattle.im_plan.specs.Goes.{After, Goes, Lacks, PlayedLine, Others}
use Rattle.im_plan.specs.Plan.{Plan, End, Turn, made, counted}
use Rattle.im_replies.specs.declared.body.Body.{Body}
use Rattle.im_replies.specs.declared.body.Body.TheVariants as body
use Rattle.im_replies.specs.declared.fault.Fault.TheVariants as fault
use Rattle.im_replies.specs.declared.reply.Reply.{Reply}
use Rattle.im_syntax.specs.declared.bound.Bound.{Bound}
use Rattle.im_statements.specs.Agreement.{Agrees, AreQueriesOf, kept_by}
use Rattle.im_statements.specs.Outcomes.{Closes, Effect, Opens, OpenQuery, Outcome, Replied, State, Stays, Steps, kept_after}
use Rattle.im_statements.specs.Turns.{amends, shut_each, shut_open}
use Rattle.im_statements.proofs.CursorLaws.{any-both, any-filter, any-never, beside, beside-closed, beside-none, beside-other, beside-own, closed, closed-absent, filter-gone, filter-none, none-numbers, numbers-closed, numbers-none, numbers-other, numbers-own, numbers_in, queries-append, queries-closed, queries-stepped, without}
use Rattle.im_statements.proofs.LeavingLaws.{AddsNoLeave, IsNoLeave}
use Rattle.im_statements.proofs.OtherLaws.{is_open-after, opened-after}

-- ---- what a turn adds

-- entries of this kind open and close no cursor, and nobody leaves by them
pub record IsApart (what : What) : Type 0 where
  pub cursors : (at : History) (who : ℕ) (cursors : List Opened) → opened_after at who cursors what ≡ cursors
  pub stays : is_leave what ≡ false

-- the query that a cursor is opened for at this history
abbrev pub query_opened : History → ℕ → ℕ → Bound → OpenQuery
query_opened at who cursor bound = record { cursor = cursor; bound = bound; view = view_at at who bound.table bound.asked; next = 0 }

-- what a turn adds, by the cursors of the statement's own that are open before and behind it, and by what the line did to those that are
-- kept. A cursor that is kept is none of a statement's own, where the statement is fine
pub data Moves (fine : Type 0) (at : History) (who : ℕ) : Bool → List ℕ → Effect → Option What → List ℕ → Effect → Type 0 where
  none : (decides : Bool) (own : List ℕ) (effect : Effect) → Moves fine at who decides own effect None own effect
  stays : (decides : Bool) (own : List ℕ) (effect : Effect) (what : What) → IsApart what
      → Moves fine at who decides own effect (Some what) own effect
  opens : (decides : Bool) (own : List ℕ) (cursor table : ℕ) (asked : Option ℕ) → is_own cursor ≡ true
      → Moves fine at who decides own Stays (Some (what.Open cursor table asked)) (own ++ cursor ∷ []) Stays
  shuts : (decides : Bool) (own : List ℕ) (cursor : ℕ) → is_own cursor ≡ true
      → Moves fine at who decides own Stays (Some (what.Shut cursor)) (without cursor own) Stays
  keeps : (cursor : ℕ) (bound : Bound) → (fine → is_own cursor ≡ false)
      → Moves fine at who true [] Stays (Some (what.Open cursor bound.table bound.asked)) [] (Opens (query_opened at who cursor bound))
  closes : (cursor : ℕ) → Moves fine at who true [] Stays (Some (what.Shut cursor)) [] (Closes cursor)

-- what the line did is what comes of it, or it served an extent beside that
pub data IsDone : Effect → Effect → Type 0 where
  done : (effect : Effect) → IsDone effect effect
  steps : (cursor : ℕ) → IsDone Stays (Steps cursor)

abbrev pub IsEnd : Effect → Outcome → Type 0
IsEnd effect (Replied reply does) = IsDone effect does

-- a plan that closes the cursors that it opens by itself, and that changes what is kept of the others as its outcome says
abbrev pub IsTidy : Type 0 → ℕ → List ℕ → Effect → Plan Outcome → Type 0
IsTidy fine who own effect (End outcome) = (own ≡ []) × IsEnd effect outcome
IsTidy fine who own effect (Turn decides adds on) =
    (at : History) → (later : List ℕ) × (does : Effect) × Moves fine at who decides own effect (adds at) later does × IsTidy fine who later does (on at)

-- ---- what replies tell

-- whether a transaction is open after one more entry of the session
abbrev pub open_behind : What → Bool → Bool
open_behind (what.Begin mode) now = true
open_behind (what.Write changes) now = true
open_behind what.Commit now = false
open_behind what.Rollback now = false
open_behind entry now = now

-- and after a turn
abbrev pub turned : Bool → Option What → Bool
turned now None = now
turned now (Some what) = open_behind what now

-- what an outcome says of a transaction that is open now or not
abbrev pub IsTold : (Body → Bool → Bool) → Bool → Bool → Outcome → Type 0
IsTold says before now (Replied reply effect) = now ≡ says reply.body before

-- running out of memory says so, where it may still come to that
abbrev pub MayLack : (Body → Bool → Bool) → Bool → Bool → ℕ → Bool → Type 0
MayLack says before free k now = free ≡ true → now ≡ says (body.Error (fault.Memory k)) before

-- a plan, k entries of its line having been made already: wherever it ends or memory runs out, the reply says whether a transaction is
-- open. `free` is whether memory may still run out
abbrev pub Tells : (Body → Bool → Bool) → ℕ → Bool → Bool → ℕ → Bool → Plan Outcome → Type 0
Tells says who before free k now (End outcome) = MayLack says before free k now × IsTold says before now outcome
Tells says who before free k now (Turn decides adds on) =
    MayLack says before free k now
    × ((at : History) → is_open at who ≡ now
    → Tells says who before (not (decides && is_some (adds at)) && free) (counted (adds at) k) (turned now (adds at)) (on at))

-- ---- both

-- what a plan of a statement keeps: it is tidy, and its replies tell so, where what is said of its look is so
pub record IsKept (fine sure : Type 0) (says : Body → Bool → Bool) (who : ℕ) (before free : Bool) (k : ℕ) (now : Bool) (own : List ℕ)
    (effect : Effect) (plan : Plan Outcome) : Type 0 where
  pub tidy : IsTidy fine who own effect plan
  pub told : sure → Tells says who before free k now plan

-- ---- one turn

itself : (who : ℕ) → (who == who) ≡ true
itself who = grind (arith, nat_tests)

-- the cursors after a turn
abbrev moved : ℕ → List Opened → History → Option What → List Opened
moved who cursors at None = cursors
moved who cursors at (Some what) = opened_after at who cursors what

opened-moved : (h : History) (who : ℕ) (added : Option What) → opened (h ++ made who added) who ≡ moved who (opened h who) h added
opened-moved h who None = ap (λ (log : History). opened log who) (append-nil h)
opened-moved h who (Some what) =
    opened-push h (record { who = who; what = what }) who
    ∙ ap (λ (b : Bool). if b then opened_after h who (opened h who) what else opened h who) (itself who)

some-here : (place : ℕ) (began : Option ℕ) → is_some (or_here place began) ≡ true
some-here place None = refl
some-here place (Some began) = refl

open-behind : (place : ℕ) (began : Option ℕ) (entry : What) → is_some (begun_after place began entry) ≡ open_behind entry (is_some began)
open-behind place began (what.Begin mode) = some-here place began
open-behind place began (what.Write changes) = some-here place began
open-behind place began what.Commit = refl
open-behind place began what.Rollback = refl
open-behind place began _ = refl

open-turned : (h : History) (who : ℕ) (added : Option What) → is_open (h ++ made who added) who ≡ turned (is_open h who) added
open-turned h who None = ap (λ (log : History). is_open log who) (append-nil h)
open-turned h who (Some what) =
    ap is_some
    (begun-push h (record { who = who; what = what }) who
    ∙ ap (λ (b : Bool). if b then begun_after (length h) (begun h who) what else begun h who) (itself who))
    ∙ open-behind (length h) (begun h who) what

-- ---- nobody leaves

moves-stay : (fine : Type 0) (at : History) (who : ℕ) (decides : Bool) (own later : List ℕ) (effect does : Effect) (added : Option What)
    → Moves fine at who decides own effect added later does → IsNoLeave added
moves-stay fine at who _ _ _ _ _ _ (none _ _ _) = tt
moves-stay fine at who _ _ _ _ _ _ (stays _ _ _ what apart) = apart.stays
moves-stay fine at who _ _ _ _ _ _ (opens _ _ cursor table asked is) = refl
moves-stay fine at who _ _ _ _ _ _ (shuts _ _ cursor is) = refl
moves-stay fine at who _ _ _ _ _ _ (keeps cursor bound is) = refl
moves-stay fine at who _ _ _ _ _ _ (closes cursor) = refl

shut-stays : (who cursor : ℕ) (at : History) → IsNoLeave (shut_open who cursor at)
shut-stays who cursor at = by (is_cursor_open at who cursor)
  where
    by : (b : Bool) → IsNoLeave (if b then Some (what.Shut cursor) else None)
    by true = refl
    by false = tt

-- no turn of a tidy plan adds a Leave
pub tidy-stays : (fine : Type 0) (who : ℕ) (own : List ℕ) (effect : Effect) (plan : Plan Outcome) → IsTidy fine who own effect plan → AddsNoLeave plan
tidy-stays fine who own effect (End outcome) tidy = tt
tidy-stays fine who own effect (Turn decides adds on) tidy = λ at.
    let turn = tidy at in
    (moves-stay fine at who decides own turn.0 effect turn.1 (adds at) turn.2, tidy-stays fine who turn.0 turn.1 (on at) turn.3)

-- nor does what amends a line
pub shut-each-stays : (who : ℕ) (cursors : List ℕ) (outcome : Outcome) → AddsNoLeave (shut_each who cursors (End outcome))
shut-each-stays who [] outcome = tt
shut-each-stays who (cursor ∷ cursors) outcome = λ at. (shut-stays who cursor at, shut-each-stays who cursors outcome)

-- ---- what is kept agrees

-- the open cursors of which something is kept, once a line did this
abbrev cursors_after : Effect → List Opened → List Opened
cursors_after Stays base = base
cursors_after (Opens query) base = base ++ record { cursor = query.cursor; view = query.view } ∷ []
cursors_after (Steps cursor) base = base
cursors_after (Closes cursor) base = closed cursor base

-- the open cursors are those, and those of the statement's own
record IsOver (base : List Opened) (own : List ℕ) (effect : Effect) (cursors : List Opened) : Type 0 where
  others : beside is_own cursors ≡ cursors_after effect base
  numbers : numbers_in is_own cursors ≡ own

moves-over : (fine : Type 0) → fine → (at : History) (who : ℕ) (base : List Opened) → list_any (λ other. is_own other.cursor) base ≡ false
    → (decides : Bool) (own later : List ℕ) (effect does : Effect) (added : Option What) (cursors : List Opened)
    → Moves fine at who decides own effect added later does → IsOver base own effect cursors → IsOver base later does (moved who cursors at added)
moves-over fine is at who base shut _ _ _ _ _ _ cursors (none _ _ _) over = over
moves-over fine is at who base shut _ _ _ _ _ _ cursors (stays _ own effect what apart) over =
    subst (IsOver base own effect) (sym (apart.cursors at who cursors)) over
moves-over fine is at who base shut _ _ _ _ _ _ cursors (opens _ own cursor table asked is_one) over = record {
  others = beside-own is_own cursors (record { cursor = cursor; view = view_at at who table asked }) is_one ∙ over.others;
  numbers = numbers-own is_own cursors (record { cursor = cursor; view = view_at at who table asked }) is_one ∙ ap (λ (ns : List ℕ). ns ++ cursor ∷ []) over.numbers;
}
moves-over fine is at who base shut _ _ _ _ _ _ cursors (shuts _ own cursor is_one) over = record {
  others = beside-closed is_own cursor cursors ∙ (ap (closed cursor) over.others ∙ closed-absent is_own cursor base is_one shut);
  numbers = numbers-closed is_own cursor cursors ∙ ap (without cursor) over.numbers;
}
moves-over fine is at who base shut _ _ _ _ _ _ cursors (keeps cursor bound other) over = record {
  others =
      beside-other is_own cursors (record { cursor = cursor; view = view_at at who bound.table bound.asked }) (other is)
      ∙ ap (λ (os : List Opened). os ++ record { cursor = cursor; view = view_at at who bound.table bound.asked } ∷ []) over.others;
  numbers = numbers-other is_own cursors (record { cursor = cursor; view = view_at at who bound.table bound.asked }) (other is) ∙ over.numbers;
}
moves-over fine is at who base shut _ _ _ _ _ _ cursors (closes cursor) over = record {
  others = beside-closed is_own cursor cursors ∙ ap (closed cursor) over.others;
  numbers = numbers-closed is_own cursor cursors ∙ ap (without cursor) over.numbers;
}

-- before the deciding entry nothing was done to what is kept
moves-still : (fine : Type 0) (at : History) (who : ℕ) (decides : Bool) (own later : List ℕ) (effect does : Effect) (added : Option What)
    → Moves fine at who decides own effect added later does → (decides && is_some added) ≡ false → effect ≡ Stays → does ≡ Stays
moves-still fine at who _ _ _ _ _ _ (none _ _ _) free still = still
moves-still fine at who _ _ _ _ _ _ (stays _ _ _ what apart) free still = still
moves-still fine at who _ _ _ _ _ _ (opens _ _ cursor table asked is) free still = refl
moves-still fine at who _ _ _ _ _ _ (shuts _ _ cursor is) free still = refl
moves-still fine at who _ _ _ _ _ _ (keeps cursor bound is) free still = absurd cc
moves-still fine at who _ _ _ _ _ _ (closes cursor) free still = absurd cc

queries-after : (state : State) (base : List Opened) (effect : Effect) → AreQueriesOf state.queries base
    → AreQueriesOf (kept_after effect state).queries (cursors_after effect base)
queries-after state base Stays are = are
queries-after state base (Opens query) are =
    queries-append state.queries base query (record { cursor = query.cursor; view = query.view }) are (record { same = refl; view = refl })
queries-after state base (Steps cursor) are = queries-stepped cursor state.queries base are
queries-after state base (Closes cursor) are = queries-closed cursor state.queries base are

queries-done : (state : State) (base : List Opened) (effect does : Effect) → IsDone effect does → AreQueriesOf state.queries base
    → AreQueriesOf (kept_after does state).queries (cursors_after effect base)
queries-done state base _ _ (done effect) are = queries-after state base effect are
queries-done state base _ _ (steps cursor) are = queries-stepped cursor state.queries base are

-- what is left of the cursors once each of these was closed
record AreShut (base : List Opened) (cursors : List ℕ) (old new : List Opened) : Type 0 where
  others : beside is_own new ≡ base
  fewer : (p : Opened → Bool) → list_any p old ≡ false → list_any p new ≡ false
  shut : list_any (λ other. is_one_of cursors other.cursor) new ≡ false

module _ (mine : ℕ → Bool) (who : ℕ) (is_mine : mine who ≡ true) where
  opened-turn : (h at : History) (cursors : List Opened) (added : Option What) → opened h who ≡ cursors → After (Others mine) h at
      → opened (at ++ made who added) who ≡ moved who cursors at added
  opened-turn h at cursors added is after =
      opened-moved at who added ∙ ap (λ (os : List Opened). moved who os at added) (opened-after mine who h at is_mine after ∙ is)

  -- closing a cursor where it is open leaves the others
  shut-moved : (h at : History) (cursors : List Opened) (cursor : ℕ) → opened h who ≡ cursors → After (Others mine) h at
      → moved who cursors at (shut_open who cursor at) ≡ closed cursor cursors
  shut-moved h at cursors cursor is after = by (is_cursor_open at who cursor) refl
    where
      by : (b : Bool) → is_cursor_open at who cursor ≡ b
          → moved who cursors at (if b then Some (what.Shut cursor) else None) ≡ closed cursor cursors
      by true open_now = refl
      by false shut =
          sym (filter-none (is_cursor cursor) cursors
          (ap (list_any (is_cursor cursor)) (sym (opened-after mine who h at is_mine after ∙ is)) ∙ shut))

  shuts-each : (base : List Opened) → list_any (λ other. is_own other.cursor) base ≡ false → (numbers : List ℕ)
      → AllByRecursion (λ number. is_own number ≡ true) numbers → (h : History) (cursors : List Opened) (value outcome : Outcome) (new : History)
      → opened h who ≡ cursors → beside is_own cursors ≡ base → Goes (Others mine) who h (shut_each who numbers (End value)) outcome new
      → AreShut base numbers cursors (opened new who)
  shuts-each base apart [] own h cursors value outcome new is others goes =
      subst (AreShut base [] cursors) (sym (opened-after mine who h new is_mine goes.after ∙ is))
      (record { others = others; fewer = λ p no. no; shut = any-never cursors })
  shuts-each base apart (number ∷ numbers) own h cursors value outcome new is others goes =
      let later =
      shuts-each base apart numbers own.1 (goes.0 ++ made who (shut_open who number goes.0)) (closed number cursors) value outcome new
      (opened-turn h goes.0 cursors (shut_open who number goes.0) is goes.1 ∙ shut-moved h goes.0 cursors number is goes.1)
      (beside-closed is_own number cursors ∙ (ap (closed number) others ∙ closed-absent is_own number base own.0 apart)) goes.2 in
      record {
        others = later.others;
        fewer = λ p no. later.fewer p (any-filter p (λ other. not (is_cursor number other)) cursors no);
        shut =
            any-both (is_cursor number) (λ (other : Opened). is_one_of numbers other.cursor) (opened new who)
            (later.fewer (is_cursor number) (filter-gone (is_cursor number) cursors)) later.shut;
      }

  shut-value : (numbers : List ℕ) (h : History) (value outcome : Outcome) (new : History)
      → Goes (Others mine) who h (shut_each who numbers (End value)) outcome new → outcome ≡ value
  shut-value [] h value outcome new goes = goes.value_is
  shut-value (number ∷ numbers) h value outcome new goes =
      shut-value numbers (goes.0 ++ made who (shut_open who number goes.0)) value outcome new goes.2

  module _ (fine : Type 0) (is_fine : fine) (state : State) (base : List Opened) (apart : list_any (λ other. is_own other.cursor) base ≡ false)
      (are : AreQueriesOf state.queries base) where
    ended : (own : List ℕ) (effect : Effect) (outcome : Outcome) (new : History) → own ≡ [] → IsEnd effect outcome
        → IsOver base own effect (opened new who) → Agrees (kept_by outcome state) new who
    ended own effect (Replied reply does) new shut is over =
        let closed_now = none-numbers is_own (opened new who) (over.numbers ∙ shut) in
        record {
          closed = closed_now;
          queries =
              subst (AreQueriesOf (kept_after does state).queries) (sym over.others ∙ beside-none is_own (opened new who) closed_now)
              (queries-done state base effect does is are);
        }

    goes-agrees : (own : List ℕ) (effect : Effect) (h : History) (plan : Plan Outcome) (outcome : Outcome) (new : History)
        → IsOver base own effect (opened h who) → IsTidy fine who own effect plan → Goes (Others mine) who h plan outcome new
        → Agrees (kept_by outcome state) new who
    goes-agrees own effect h (End value) outcome new over tidy goes =
        ended own effect outcome new tidy.0 (subst (IsEnd effect) (sym goes.value_is) tidy.1)
        (subst (IsOver base own effect) (sym (opened-after mine who h new is_mine goes.after)) over)
    goes-agrees own effect h (Turn decides adds on) outcome new over tidy goes =
        let turn = tidy goes.0 in
        goes-agrees turn.0 turn.1 (goes.0 ++ made who (adds goes.0)) (on goes.0) outcome new
        (subst (IsOver base turn.0 turn.1) (sym (opened-turn h goes.0 (opened h who) (adds goes.0) refl goes.1))
        (moves-over fine is_fine goes.0 who base apart decides own turn.0 effect turn.1 (adds goes.0) (opened h who) turn.2 over)) turn.3 goes.2

    amends-agrees : (k : ℕ) (own : List ℕ) (h : History) (outcome : Outcome) (new : History) → IsOver base own Stays (opened h who)
        → Goes (Others mine) who h (amends who k) outcome new → Agrees (kept_by outcome state) new who
    amends-agrees k own h outcome new over goes =
        let left = shuts-each base apart own_cursors (refl, tt) h (opened h who) _ outcome new refl over.others goes in
        subst (λ (o : Outcome). Agrees (kept_by o state) new who) (sym (shut-value own_cursors h _ outcome new goes))
        (record {
          closed = left.shut;
          queries = subst (AreQueriesOf state.queries) (sym left.others ∙ beside-none is_own (opened new who) left.shut) are;
        })

    lacks-agrees : (k : ℕ) (own : List ℕ) (effect : Effect) (h : History) (plan : Plan Outcome) (outcome : Outcome) (new : History) → effect ≡ Stays
        → IsOver base own effect (opened h who) → IsTidy fine who own effect plan → Lacks (Others mine) who (amends who) k h plan outcome new
        → Agrees (kept_by outcome state) new who
    lacks-agrees k own effect h (End value) outcome new still over tidy lacks =
        amends-agrees k own h outcome new (subst (λ (e : Effect). IsOver base own e (opened h who)) still over) lacks
    lacks-agrees k own effect h (Turn decides adds on) outcome new still over tidy lacks = elim lacks [
      | inl amended ↦ amends-agrees k own h outcome new (subst (λ (e : Effect). IsOver base own e (opened h who)) still over) amended
      | inr later ↦
          let turn = tidy later.0 in
          lacks-agrees (counted (adds later.0) k) turn.0 turn.1 (later.0 ++ made who (adds later.0)) (on later.0) outcome new
          (moves-still fine later.0 who decides own turn.0 effect turn.1 (adds later.0) turn.2 later.2 still)
          (subst (IsOver base turn.0 turn.1) (sym (opened-turn h later.0 (opened h who) (adds later.0) refl later.1))
          (moves-over fine is_fine later.0 who base apart decides own turn.0 effect turn.1 (adds later.0) (opened h who) turn.2 over)) turn.3 later.3
    ]

  pub line-agrees : (fine : Type 0) → fine → (state : State) (old : History) (plan : Plan Outcome) (outcome : Outcome) (new : History)
      → Agrees state old who → IsTidy fine who [] Stays plan → PlayedLine (Others mine) who (amends who) old plan outcome new
      → Agrees (kept_by outcome state) new who
  line-agrees fine is_fine state old plan outcome new agrees tidy line =
      let over : IsOver (opened old who) [] Stays (opened old who) = record {
        others = beside-none is_own (opened old who) agrees.closed;
        numbers = numbers-none is_own (opened old who) agrees.closed;
      } in
      elim line.whole.played [
        | inl goes ↦ goes-agrees fine is_fine state (opened old who) agrees.closed agrees.queries [] Stays old plan outcome new over tidy goes
        | inr lacks ↦ lacks-agrees fine is_fine state (opened old who) agrees.closed agrees.queries 0 [] Stays old plan outcome new refl over tidy lacks
      ]

-- ---- what replies tell is so

module _ (says : Body → Bool → Bool) (mine : ℕ → Bool) (who : ℕ) (is_mine : mine who ≡ true) (before : Bool) (reply : Reply) (effect : Effect) where
  here : (now : Bool) (h at : History) → is_open h who ≡ now → After (Others mine) h at → is_open at who ≡ now
  here now h at is after = is_open-after mine who h at is_mine after ∙ is

  next : (now : Bool) (h at : History) (added : Option What) → is_open h who ≡ now → After (Others mine) h at
      → is_open (at ++ made who added) who ≡ turned now added
  next now h at added is after = open-turned at who added ∙ ap (λ (b : Bool). turned b added) (here now h at is after)

  ends : (now : Bool) (h new : History) (outcome : Outcome) → is_open h who ≡ now → After (Others mine) h new → Replied reply effect ≡ outcome
      → IsTold says before now outcome → is_open new who ≡ says reply.body before
  ends now h new outcome is after value_is told =
      here now h new is after ∙ subst (λ (o : Outcome). IsTold says before now o) (sym value_is) told

  goes-tells : (free : Bool) (k : ℕ) (now : Bool) (h : History) (plan : Plan Outcome) (new : History) → is_open h who ≡ now
      → Tells says who before free k now plan → Goes (Others mine) who h plan (Replied reply effect) new → is_open new who ≡ says reply.body before
  goes-tells free k now h (End value) new is tells goes = ends now h new value is goes.after goes.value_is tells.1
  goes-tells free k now h (Turn decides adds on) new is tells goes =
      goes-tells (not (decides && is_some (adds goes.0)) && free) (counted (adds goes.0) k) (turned now (adds goes.0))
      (goes.0 ++ made who (adds goes.0)) (on goes.0) new (next now h goes.0 (adds goes.0) is goes.1)
      (tells.1 goes.0 (here now h goes.0 is goes.1)) goes.2

  shut-tells : (cursors : List ℕ) (now : Bool) (h : History) (value : Outcome) (new : History) → is_open h who ≡ now → IsTold says before now value
      → Goes (Others mine) who h (shut_each who cursors (End value)) (Replied reply effect) new → is_open new who ≡ says reply.body before
  shut-tells [] now h value new is told goes = ends now h new value is goes.after goes.value_is told
  shut-tells (cursor ∷ cursors) now h value new is told goes =
      shut-tells cursors now (goes.0 ++ made who (shut_open who cursor goes.0)) value new
      (next now h goes.0 (shut_open who cursor goes.0) is goes.1 ∙ by (is_cursor_open goes.0 who cursor)) told goes.2
    where
      by : (b : Bool) → turned now (if b then Some (what.Shut cursor) else None) ≡ now
      by true = refl
      by false = refl

  lacks-tells : (k : ℕ) (now : Bool) (h : History) (plan : Plan Outcome) (new : History) → is_open h who ≡ now
      → Tells says who before true k now plan → Lacks (Others mine) who (amends who) k h plan (Replied reply effect) new
      → is_open new who ≡ says reply.body before
  lacks-tells k now h (End value) new is tells lacks = shut-tells own_cursors now h _ new is (tells.0 refl) lacks
  lacks-tells k now h (Turn decides adds on) new is tells lacks = elim lacks [
    | inl amended ↦ shut-tells own_cursors now h _ new is (tells.0 refl) amended
    | inr later ↦
        lacks-tells (counted (adds later.0) k) (turned now (adds later.0)) (later.0 ++ made who (adds later.0)) (on later.0) new
        (next now h later.0 (adds later.0) is later.1)
        (subst (λ (b : Bool). Tells says who before (not b && true) (counted (adds later.0) k) (turned now (adds later.0)) (on later.0)) later.2
        (tells.1 later.0 (here now h later.0 is later.1))) later.3
  ]

  pub line-tells : (old : History) (plan : Plan Outcome) (new : History) → is_open old who ≡ before → Tells says who before true 0 before plan
      → PlayedLine (Others mine) who (amends who) old plan (Replied reply effect) new → is_open new who ≡ says reply.body before
  line-tells old plan new is tells line = elim line.whole.played [
    | inl goes ↦ goes-tells true 0 before old plan new is tells goes
    | inr lacks ↦ lacks-tells 0 before old plan new is tells lacks
  ]
