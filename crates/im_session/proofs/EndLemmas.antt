-- The end of a session: its cursors are closed, the least number first, its transaction is rolled back, and it leaves.
use Rattle.std.proofs.Common.{◌≡◌, ℕ, ◌==◌, ◌<◌, ◌≤◌, ◌||◌, Bool, true, false, not, if◌then◌else◌, List, [], ◌∷◌, ◌++◌, filter, map, Option, Some, None, is_some, refl, sym, ap, ◌∙◌, subst, append-nil, length, arith, All}
use Rattle.std.specs.Prelude.{nat_le, Result, Ok, Err, OnOk, OnErr, ⊤}
use Rattle.std.specs.List.{AllByRecursion, list_any}
use Rattle.std.proofs.lemmas.Bool.Decides.{nat_tests}
use Rattle.std.proofs.lemmas.List.Elements.{All-head, All-tail}
use Rattle.im_history.specs.declared.entry.What.{What}
use Rattle.im_history.specs.declared.entry.What.TheVariants.{Leave, Rollback, Shut}
use Rattle.im_history.specs.Cursors.{Opened, is_cursor, is_cursor_open, is_own, opened}
use Rattle.im_history.specs.History.{History}
use Rattle.im_history.specs.Leaves.{has_left}
use Rattle.im_history.specs.Legal.{MayLeave}
use Rattle.im_history.specs.Transactions.{is_open}
use Rattle.im_plan.specs.Goes.{After, Goes, Others}
use Rattle.im_plan.specs.Plan.{Plan, End, Turn, made}
use Rattle.im_plan.proofs.GoesLaws.{after-after, others-go_on}
use Rattle.im_reach.specs.Sides.{Added, Found, Known, StoreSide, speaks}
use Rattle.im_reach.proofs.RestLaws.{here, others-of}
use Rattle.im_session.specs.declared.cursor.Cursor.{Cursor}
use Rattle.im_session.specs.Cursors.{query_of}
use Rattle.im_session.specs.Ends.{IsEnded, close_all, close_each, end_plan, end_without_leave, open_numbers, placed, rising, roll_back_open}
use Rattle.im_session.specs.Sessions.{Agrees, AreApart, Kept, state_of}
use Rattle.im_session.specs.inner.Ends.{IsClosing, IsRolledBack, Leads, kept_numbers}
use Rattle.im_session.specs.inner.Running.{is_number}
use Rattle.im_session.proofs.KeptLemmas.{apart-filter}
use Rattle.im_session.proofs.OtherLemmas.{begun-added, begun-after, left-added, left-after, opened-added, opened-after}
use Rattle.im_statements.specs.Agreement.{AreQueriesOf}

-- ---- numbers in rising order

same-number : (a b : ℕ) → (a == b) ≡ true → a ≡ b
same-number a b is = grind (arith, nat_tests, is)

module _ (P : ℕ → Type 0) where
  all-placed : (number : ℕ) (numbers : List ℕ) → P number → AllByRecursion P numbers → AllByRecursion P (placed number numbers)
  all-placed number [] holds each = (holds, tt)
  all-placed number (other ∷ others) holds each = by (nat_le number other) (all-placed number others holds each.1)
    where
      by : (b : Bool) → AllByRecursion P (placed number others)
          → AllByRecursion P (if b then number ∷ other ∷ others else other ∷ placed number others)
      by true rest = (holds, each)
      by false rest = (each.0, rest)

  all-rising : (numbers : List ℕ) → AllByRecursion P numbers → AllByRecursion P (rising numbers)
  all-rising [] each = tt
  all-rising (number ∷ numbers) each = all-placed number (rising numbers) each.0 (all-rising numbers each.1)

-- the least comes before all others
placed-first : (number : ℕ) (numbers : List ℕ) → AllByRecursion (λ other. number ≤ other) numbers → placed number numbers ≡ number ∷ numbers
placed-first number [] each = refl
placed-first number (other ∷ others) each =
    let before : nat_le number other ≡ true = let below = each.0 in grind (arith, nat_tests, below) in
    rw before refl

-- a greater one comes behind the first
placed-behind : (least number : ℕ) (numbers : List ℕ) → least ≤ number → (number == least) ≡ false
    → placed number (least ∷ numbers) ≡ least ∷ placed number numbers
placed-behind least number numbers below other =
    let behind : nat_le number least ≡ false = grind (arith, nat_tests, below, other) in
    rw behind refl

-- the cursors without one
abbrev pub without : ℕ → List Cursor → List Cursor
without number cursors = filter (λ kept. not (is_number number kept)) cursors

without-none : (number : ℕ) (cursors : List Cursor) → AllByRecursion (λ kept. (kept.number == number) ≡ false) cursors
    → without number cursors ≡ cursors
without-none number [] apart = refl
without-none number (first ∷ others) apart = rw (apart.0, without-none number others apart.1) refl

all-numbers : (number : ℕ) (cursors : List Cursor) → AllByRecursion (λ kept. number ≤ kept.number) cursors
    → AllByRecursion (λ other. number ≤ other) (map (λ (kept : Cursor). kept.number) cursors)
all-numbers number [] each = tt
all-numbers number (first ∷ others) each = (each.0, all-numbers number others each.1)

-- the least of the numbers comes first, and then the others in order
least-first : (number : ℕ) (cursors : List Cursor) → list_any (is_number number) cursors ≡ true
    → AllByRecursion (λ kept. number ≤ kept.number) cursors → AreApart cursors
    → kept_numbers cursors ≡ number ∷ kept_numbers (without number cursors)
least-first number [] among least apart = absurd cc
least-first number (first ∷ others) among least apart =
    by (is_number number first) refl among (λ later. least-first number others later least.1 apart.1)
  where
    by : (b : Bool) → is_number number first ≡ b → (b || list_any (is_number number) others) ≡ true
        → (list_any (is_number number) others ≡ true → kept_numbers others ≡ number ∷ kept_numbers (without number others))
        → placed first.number (kept_numbers others) ≡ number ∷ kept_numbers (if not b then first ∷ without number others else without number others)
    by true is any on =
        let same : first.number ≡ number = same-number first.number number is in
        let none : without number others ≡ others =
        without-none number others (subst (λ (n : ℕ). AllByRecursion (λ kept. (kept.number == n) ≡ false) others) same apart.0) in
        ap (λ (n : ℕ). placed n (kept_numbers others)) same
        ∙ (placed-first number (kept_numbers others)
        (all-rising (λ other. number ≤ other) _ (all-numbers number others least.1))
        ∙ ap (λ (cs : List Cursor). number ∷ kept_numbers cs) (sym none))
    by false is any on =
        ap (placed first.number) (on any) ∙ placed-behind number first.number (kept_numbers (without number others)) least.0 is

-- what holds of each is checked one by one
all-kept : (P : Cursor → Type 0) (cursors : List Cursor) → All P cursors → AllByRecursion P cursors
all-kept P [] all = tt
all-kept P (first ∷ others) all = (All-head P first others all, all-kept P others (All-tail P first others all))

-- the others are fewer
without-few : (number : ℕ) (cursors : List Cursor) → length (without number cursors) ≤ length cursors
without-few number [] = omega arith
without-few number (first ∷ others) = by (is_number number first) (without-few number others)
  where
    by : (b : Bool) → length (without number others) ≤ length others
        → length (if not b then first ∷ without number others else without number others) ≤ length (first ∷ others)
    by true few = omega (arith, few)
    by false few = omega (arith, few)

pub without-less : (number : ℕ) (cursors : List Cursor) → list_any (is_number number) cursors ≡ true
    → length (without number cursors) < length cursors
without-less number [] among = absurd cc
without-less number (first ∷ others) among =
    by (is_number number first) among (without-few number others) (λ later. without-less number others later)
  where
    by : (b : Bool) → (b || list_any (is_number number) others) ≡ true → length (without number others) ≤ length others
        → (list_any (is_number number) others ≡ true → length (without number others) < length others)
        → length (if not b then first ∷ without number others else without number others) < length (first ∷ others)
    by true any few on = omega (arith, few)
    by false any few on = let less = on any in omega (arith, less)

-- ---- cursors that are kept and cursors that are open

-- the numbers are the same
queries-numbers : (cursors : List Cursor) (open_ones : List Opened) → AreQueriesOf (map query_of cursors) open_ones
    → map (λ (kept : Cursor). kept.number) cursors ≡ map (λ (o : Opened). o.cursor) open_ones
queries-numbers [] [] are = refl
queries-numbers [] (o ∷ os) are = absurd are
queries-numbers (kept ∷ others) [] are = absurd are
queries-numbers (kept ∷ others) (o ∷ os) are = rw (are.0.same, queries-numbers others os are.1) refl

-- one that is kept is open
queries-any : (number : ℕ) (cursors : List Cursor) (open_ones : List Opened) → AreQueriesOf (map query_of cursors) open_ones
    → list_any (is_cursor number) open_ones ≡ list_any (is_number number) cursors
queries-any number [] [] are = refl
queries-any number [] (o ∷ os) are = absurd are
queries-any number (kept ∷ others) [] are = absurd are
queries-any number (kept ∷ others) (o ∷ os) are = rw (are.0.same, queries-any number others os are.1) refl

-- one is closed
queries-closed : (number : ℕ) (cursors : List Cursor) (open_ones : List Opened) → AreQueriesOf (map query_of cursors) open_ones
    → AreQueriesOf (map query_of (without number cursors)) (filter (λ other. not (is_cursor number other)) open_ones)
queries-closed number [] [] are = tt
queries-closed number [] (o ∷ os) are = absurd are
queries-closed number (kept ∷ others) [] are = absurd are
queries-closed number (kept ∷ others) (o ∷ os) are =
    by (is_number number kept) (is_cursor number o) (ap (λ (n : ℕ). n == number) (sym are.0.same)) (queries-closed number others os are.1)
  where
    later : List Opened
    later = filter (λ other. not (is_cursor number other)) os

    by : (this that : Bool) → that ≡ this → AreQueriesOf (map query_of (without number others)) later
        → AreQueriesOf (map query_of (if not this then kept ∷ without number others else without number others)) (if not that then o ∷ later else later)
    by true that same rest = rw same rest
    by false that same rest = rw same (are.0, rest)

-- none is kept, so none is open
queries-none : (open_ones : List Opened) → AreQueriesOf [] open_ones → open_ones ≡ []
queries-none [] are = refl
queries-none (o ∷ os) are = absurd are

-- ---- one step of the end

leads-here : (who : ℕ) (old : Known) (plan : Plan ⊤) → Leads who old plan old plan
leads-here who old plan = record { known = refl; goes = λ late goes. goes }

leads-on : (who : ℕ) (old middle new : Known) (plan next last : Plan ⊤) → Leads who old plan middle next → Leads who middle next new last
    → Leads who old plan new last
leads-on who old middle new plan next last first second = record {
  known = second.known ∙ ap (λ (k : Known). record k { log = new.log }) first.known;
  goes = λ late goes.
      first.goes late
      (subst (λ (side : StoreSide). Goes (Others (speaks side)) who middle.log next tt late) side
      (second.goes late (subst (λ (s : StoreSide). Goes (Others (speaks s)) who new.log last tt late) (sym side) goes)));
}
  where
    side : middle.side ≡ old.side
    side = ap (λ (k : Known). k.side) first.known

-- a call added the entry of a turn
leads-added : (who : ℕ) (old new : Known) (decides : Bool) (adds : History → Option What) (entry : History → What) (P : History → Type 0) (on : Plan ⊤)
    → (added : Added old new who entry P) → adds added.at ≡ Some (entry added.at) → Leads who old (Turn decides adds (λ at. on)) new on
leads-added who old new decides adds entry P on added is = record {
  known = added.now ∙ ap (λ (h : History). record old { log = h }) (sym log);
  goes = λ late goes. (
    added.at,
    others-of old.side old.log added.at added.after,
    subst (λ (h : History). Goes (Others (speaks old.side)) who h on tt late) (log ∙ ap (λ (w : Option What). added.at ++ made who w) (sym is)) goes,
  );
}
  where
    log : new.log ≡ added.at ++ record { who = who; what = entry added.at } ∷ []
    log = ap (λ (k : Known). k.log) added.now

-- a turn that reads, and adds nothing
leads-look : (who : ℕ) (old : Known) (adds : History → Option What) (on : History → Plan ⊤) → adds old.log ≡ None
    → Leads who old (Turn false adds on) old (on old.log)
leads-look who old adds on is = record {
  known = refl;
  goes = λ late goes. (
    old.log,
    here old.side old.log,
    subst (λ (h : History). Goes (Others (speaks old.side)) who h (on old.log) tt late)
        (sym (ap (λ (w : Option What). old.log ++ made who w) is ∙ append-nil old.log)) goes,
  );
}

-- ---- the cursors are closed

pub closing-here : (who : ℕ) (cursors : List Cursor) (old : Known) → AreQueriesOf (state_of cursors).queries (opened old.log who) → AreApart cursors
    → IsClosing who cursors old cursors old
closing-here who cursors old queries apart = record {
  leads = λ on. leads-here who old (close_each (kept_numbers cursors) on);
  queries = queries;
  apart = apart;
  transaction = refl;
  stays = refl;
}

module _ (who : ℕ) (before : List Cursor) (old : Known) (left : List Cursor) (now : Known) (mine : speaks old.side who ≡ true)
    (closing : IsClosing who before old left now) where
  side-closing : now.side ≡ old.side
  side-closing = ap (λ (k : Known). k.side) (closing.leads (End tt)).known

  pub speaks-closing : speaks now.side who ≡ true
  speaks-closing = ap (λ (side : StoreSide). speaks side who) side-closing ∙ mine

  -- a cursor that is left is open
  pub open-closing : (number : ℕ) → list_any (is_number number) left ≡ true → is_cursor_open now.log who number ≡ true
  open-closing number among = queries-any number left (opened now.log who) closing.queries ∙ among

  -- the least was closed
  pub closing-next : (number : ℕ) (new : Known) (P : History → Type 0) → list_any (is_number number) left ≡ true
      → All (λ kept. number ≤ kept.number) left → Added now new who (λ at. Shut number) P → IsClosing who before old (without number left) new
  closing-next number new P among least added = record {
    leads = λ on.
        leads-on who old now new (close_each (kept_numbers before) on) (close_each (kept_numbers left) on)
        (close_each (kept_numbers (without number left)) on) (closing.leads on)
        (subst (λ (numbers : List ℕ). Leads who now (close_each numbers on) new (close_each (kept_numbers (without number left)) on))
        (sym (least-first number left among (all-kept (λ kept. number ≤ kept.number) left least) closing.apart))
        (leads-added who now new false (λ at. Some (Shut number)) (λ at. Shut number) P (close_each (kept_numbers (without number left)) on) added refl));
    queries =
        subst (λ (os : List Opened). AreQueriesOf (state_of (without number left)).queries os)
        (sym (opened-added who now new (Shut number) P speaks-closing added)) (queries-closed number left (opened now.log who) closing.queries);
    apart = apart-filter (λ kept. not (is_number number kept)) left closing.apart;
    transaction = ap is_some (begun-added who now new (Shut number) P speaks-closing added) ∙ closing.transaction;
    stays = left-added who now new (Shut number) P speaks-closing added refl ∙ closing.stays;
  }

-- ---- the transaction is rolled back

pub rolled-back : (who : ℕ) (old new : Known) (P : History → Type 0) → speaks old.side who ≡ true → is_open old.log who ≡ true
    → Added old new who (λ at. Rollback) P → IsRolledBack who old new
rolled-back who old new P mine is added = record {
  leads = λ on.
      leads-added who old new false (λ at. if is_open at who then Some Rollback else None) (λ at. Rollback) P on added
      (ap (λ (b : Bool). if b then Some Rollback else None)
      (ap is_some (begun-after old.side who old.log added.at mine added.after) ∙ is));
  cursors = opened-added who old new Rollback P mine added;
  idle = ap is_some (begun-added who old new Rollback P mine added);
  stays = left-added who old new Rollback P mine added refl;
}

pub none-rolled : (who : ℕ) (old : Known) → is_open old.log who ≡ false → IsRolledBack who old old
none-rolled who old is = record {
  leads = λ on.
      leads-look who old (λ at. if is_open at who then Some Rollback else None) (λ at. on)
      (ap (λ (b : Bool). if b then Some Rollback else None) is);
  cursors = refl;
  idle = is;
  stays = refl;
}

-- ---- it leaves

-- the session has nothing open
record IsIdle (who : ℕ) (now : Known) : Type 0 where
  cursors : opened now.log who ≡ []
  transaction : is_open now.log who ≡ false

agrees-idle : (who : ℕ) (now : Known) → IsIdle who now → Agrees (record { who = who; cursors = []; in_transaction = false }) now
agrees-idle who now idle = record {
  cursors = record {
    closed = ap (list_any (λ (other : Opened). is_own other.cursor)) idle.cursors;
    queries = subst (λ (os : List Opened). AreQueriesOf [] os) (sym idle.cursors) tt;
  };
  sound = tt;
  apart = tt;
  transaction = sym idle.transaction;
}

module _ (who : ℕ) (cursors : List Cursor) (old closed now : Known) (mine : speaks old.side who ≡ true)
    (queries : AreQueriesOf (state_of cursors).queries (opened old.log who)) (closing : IsClosing who cursors old [] closed)
    (rolled : IsRolledBack who closed now) where
  idle-now : IsIdle who now
  idle-now = record { cursors = rolled.cursors ∙ queries-none (opened closed.log who) closing.queries; transaction = rolled.idle }

  pub may-leave : has_left old.log who ≡ false → MayLeave now.log who
  may-leave stays = record { idle = idle-now.transaction; closed = idle-now.cursors; once = rolled.stays ∙ (closing.stays ∙ stays) }

  pub speaks-rolled : speaks now.side who ≡ true
  speaks-rolled =
      ap (λ (k : Known). speaks k.side who) (rolled.leads (End tt)).known ∙ speaks-closing who cursors old [] closed mine closing

  -- all is closed, and this is what is left of the end
  leads-left : (on : Plan ⊤) → Leads who old (close_all who on) now on
  leads-left on =
      leads-on who old old now (close_all who on) (close_each (open_numbers old.log who) (roll_back_open who on)) on
      (leads-look who old (λ at. None) (λ at. close_each (open_numbers at who) (roll_back_open who on)) refl)
      (subst (λ (numbers : List ℕ). Leads who old (close_each (rising numbers) (roll_back_open who on)) now on)
      (queries-numbers cursors (opened old.log who) queries)
      (leads-on who old closed now (close_each (kept_numbers cursors) (roll_back_open who on)) (roll_back_open who on) on
      (closing.leads (roll_back_open who on)) (rolled.leads on)))

  ends-here : (new : Known) (plan : Plan ⊤) → Leads who old plan new (End tt) → IsEnded who old plan new
  ends-here new plan leads = record {
    known = leads.known;
    goes = leads.goes new.log
        (record { value_is = refl; after = here old.side new.log });
  }

  module _ (new : Known) (P : History → Type 0) where
    -- the Leave was added
    module _ (added : Added now new who (λ at. Leave) P) where
      pub ended-left : IsEnded who old (end_plan who) new
      ended-left =
          ends-here new (end_plan who)
          (leads-on who old now new (end_plan who) (Turn true (λ at. Some Leave) (λ at. End tt)) (End tt)
          (leads-left (Turn true (λ at. Some Leave) (λ at. End tt)))
          (leads-added who now new true (λ at. Some Leave) (λ at. Leave) P (End tt) added refl))

      pub agrees-left : Agrees (record { who = who; cursors = []; in_transaction = false }) new
      agrees-left =
          agrees-idle who new
          (record {
            cursors = opened-added who now new Leave P speaks-rolled added ∙ idle-now.cursors;
            transaction = ap is_some (begun-added who now new Leave P speaks-rolled added) ∙ idle-now.transaction;
          })

    -- it was not, for want of memory
    module _ (found : Found now new P) where
      log-found : new.log ≡ found.at
      log-found = ap (λ (k : Known). k.log) found.now

      leads-found : Leads who now (End tt) new (End tt)
      leads-found = record {
        known = found.now ∙ ap (λ (h : History). record now { log = h }) (sym log-found);
        goes = λ late goes. record {
          value_is = goes.value_is;
          after =
              after-after (Others (speaks now.side)) (others-go_on (speaks now.side)) now.log new.log late
              (subst (λ (h : History). After (Others (speaks now.side)) now.log h) (sym log-found)
              (others-of now.side now.log found.at found.after)) goes.after;
        };
      }

      pub ended-unleft : IsEnded who old (end_without_leave who) new
      ended-unleft =
          ends-here new (end_without_leave who)
          (leads-on who old now new (end_without_leave who) (End tt) (End tt) (leads-left (End tt)) leads-found)

      pub agrees-unleft : Agrees (record { who = who; cursors = []; in_transaction = false }) new
      agrees-unleft =
          agrees-idle who new
          (record {
            cursors =
                ap (λ (h : History). opened h who) log-found
                ∙ (opened-after now.side who now.log found.at speaks-rolled found.after ∙ idle-now.cursors);
            transaction =
                ap (λ (h : History). is_open h who) log-found
                ∙ (ap is_some (begun-after now.side who now.log found.at speaks-rolled found.after) ∙ idle-now.transaction);
          })

      pub stays-unleft : has_left old.log who ≡ false → has_left new.log who ≡ false
      stays-unleft stays =
          ap (λ (h : History). has_left h who) log-found
          ∙ (left-after now.side who now.log found.at speaks-rolled found.after ∙ (rolled.stays ∙ (closing.stays ∙ stays)))

-- ---- what a call answers

module _ {T E : Type 0} {P Q X : Type 0} where
  -- whatever it answers, something holds
  pub either-way : (result : Result T E) → OnOk result P → OnErr result Q → (P → X) → (Q → X) → X
  either-way (Ok value) holds other left right = left holds
  either-way (Err error) other holds left right = right holds

module _ {T E : Type 0} {P X : Type 0} where
  pub on-ok : (result : Result T E) → OnOk result P → (P → X) → OnOk result X
  on-ok (Ok value) holds on = on holds
  on-ok (Err error) holds on = tt

  pub on-err : (result : Result T E) → OnErr result P → (P → X) → OnErr result X
  on-err (Ok value) holds on = tt
  on-err (Err error) holds on = on holds

-- ---- the same of a session that is seen by its parts

module _ (session : Kept) (who : ℕ) (cursors : List Cursor) (in_transaction : Bool)
    (is : record { who = who; cursors = cursors; in_transaction = in_transaction } ≡ session) (old closed now : Known)
    (session_mine : speaks old.side session.who ≡ true) (agrees : Agrees session old) (closing : IsClosing who cursors old [] closed)
    (rolled : IsRolledBack who closed now) where
  mine : speaks old.side who ≡ true
  mine = ap (λ (k : Kept). speaks old.side k.who) is ∙ session_mine

  queries : AreQueriesOf (state_of cursors).queries (opened old.log who)
  queries = subst (λ (k : Kept). AreQueriesOf (state_of k.cursors).queries (opened old.log k.who)) (sym is) agrees.cursors.queries

  pub session-speaks-rolled : speaks now.side who ≡ true
  session-speaks-rolled = speaks-rolled who cursors old closed now mine queries closing rolled

  pub session-may : has_left old.log session.who ≡ false → MayLeave now.log who
  session-may stays =
      may-leave who cursors old closed now mine queries closing rolled (ap (λ (k : Kept). has_left old.log k.who) is ∙ stays)

  module _ (new : Known) (P : History → Type 0) where
    pub session-left : Added now new who (λ at. Leave) P → IsEnded session.who old (end_plan session.who) new
    session-left added =
        subst (λ (k : Kept). IsEnded k.who old (end_plan k.who) new) is
        (ended-left who cursors old closed now mine queries closing rolled new P added)

    pub session-left-agrees : Added now new who (λ at. Leave) P → Agrees (record { who = who; cursors = []; in_transaction = false }) new
    session-left-agrees added = agrees-left who cursors old closed now mine queries closing rolled new P added

    pub session-unleft : Found now new P → IsEnded session.who old (end_without_leave session.who) new
    session-unleft found =
        subst (λ (k : Kept). IsEnded k.who old (end_without_leave k.who) new) is
        (ended-unleft who cursors old closed now mine queries closing rolled new P found)

    pub session-unleft-agrees : Found now new P → Agrees (record { who = who; cursors = []; in_transaction = false }) new
    session-unleft-agrees found = agrees-unleft who cursors old closed now mine queries closing rolled new P found

    pub session-unleft-stays : Found now new P → has_left old.log session.who ≡ false → has_left new.log session.who ≡ false
    session-unleft-stays found stays =
        subst (λ (k : Kept). has_left new.log k.who ≡ false) is
        (stays-unleft who cursors old closed now mine queries closing rolled new P found (ap (λ (k : Kept). has_left old.log k.who) is ∙ stays))
