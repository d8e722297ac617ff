-- The builds that are held in a legal history: whose they are, and what an entry makes of them.
use Rattle.std.proofs.Common.{◌≡◌, ℕ, ◌+◌, ◌<◌, ◌≤◌, ◌==◌, Bool, true, false, not, List, [], ◌∷◌, ◌++◌, length, map, filter, Some, if◌then◌else◌, refl, sym, ap, ap₂, ◌∙◌, subst, arith}
use Rattle.std.specs.Bool.{⊤}
use Rattle.std.specs.List.{AllByRecursion, find}
use Rattle.std.proofs.lemmas.Bool.Decides.{nat_tests}
use Rattle.std.proofs.lemmas.List.{map-append}
use Rattle.std.proofs.lemmas.List.Elements.{filter-append}
use Rattle.im_history.specs.declared.entry.Entry.{Entry}
use Rattle.im_history.specs.declared.entry.What.{What}
use Rattle.im_history.specs.declared.entry.What.TheVariants.{Build, Switch, Cancel}
use Rattle.im_history.specs.declared.limits.Limits.{Limits}
use Rattle.im_history.specs.declared.task.Held.{Held}
use Rattle.im_history.specs.declared.task.Task.{Task}
use Rattle.im_history.specs.History.{History}
use Rattle.im_history.specs.Legal.{IsAllowed, IsLegal}
use Rattle.im_history.specs.Transactions.{or_here}
use Rattle.im_history.specs.Units.{IsOwn, builds, builds_after, drops, held, held_after, is_id, killed_by}
use Rattle.im_history.proofs.Laws.{IsLegal-pop}
use Rattle.im_history.proofs.RowLaws.{each_history}
use Rattle.im_history.proofs.UnitLaws.{builds-push, held-nil, held-plain, held-push, is_plain}
use Rattle.im_worker.specs.Background.{builds_of}

-- ---- lists

-- a fact of each that follows from another of each
pub all-weaker : {X : Type 0} (P Q : X → Type 0) → ((x : X) → P x → Q x) → (xs : List X) → AllByRecursion P xs → AllByRecursion Q xs
all-weaker P Q weaker [] all = tt
all-weaker P Q weaker (x ∷ xs) all = (weaker x all.0, all-weaker P Q weaker xs all.1)

pub all-append : {X : Type 0} (P : X → Type 0) (xs ys : List X) → AllByRecursion P xs → AllByRecursion P ys → AllByRecursion P (xs ++ ys)
all-append P [] ys all more = more
all-append P (x ∷ xs) ys all more = (all.0, all-append P xs ys all.1 more)

pub all-first : {X : Type 0} (P : X → Type 0) (xs ys : List X) → AllByRecursion P (xs ++ ys) → AllByRecursion P xs
all-first P [] ys all = tt
all-first P (x ∷ xs) ys all = (all.0, all-first P xs ys all.1)

pub all-last : {X : Type 0} (P : X → Type 0) (xs ys : List X) → AllByRecursion P (xs ++ ys) → AllByRecursion P ys
all-last P [] ys all = all
all-last P (x ∷ xs) ys all = all-last P xs ys all.1

all-filter : {X : Type 0} (P : X → Type 0) (p : X → Bool) (xs : List X) → AllByRecursion P xs → AllByRecursion P (filter p xs)
all-filter P p [] all = tt
all-filter P p (x ∷ xs) all = by (p x) (all-filter P p xs all.1)
  where
    by : (b : Bool) → AllByRecursion P (filter p xs) → AllByRecursion P (if b then x ∷ filter p xs else filter p xs)
    by true later = (all.0, later)
    by false later = later

all-map : {X Y : Type 0} (P : Y → Type 0) (f : X → Y) (xs : List X) → AllByRecursion (λ x. P (f x)) xs → AllByRecursion P (map f xs)
all-map P f [] all = tt
all-map P f (x ∷ xs) all = (all.0, all-map P f xs all.1)

pub same_number : (n m : ℕ) → n ≡ m → (n == m) ≡ true
same_number n m same = grind (arith, nat_tests, same)

pub other_number : (n m : ℕ) → n < m → (n == m) ≡ false
other_number n m below = grind (arith, nat_tests, below)

pub above_number : (n m : ℕ) → m < n → (n == m) ≡ false
above_number n m below = grind (arith, nat_tests, below)

-- ---- builds in the order of their numbers

-- each held build has a number above the one before
abbrev pub AreRising : ℕ → List Held → Type 0
AreRising n [] = ⊤
AreRising n (first ∷ rest) = (n < first.task.id) × AreRising first.task.id rest

-- and so for builds
abbrev pub InOrder : ℕ → List Task → Type 0
InOrder n [] = ⊤
InOrder n (first ∷ rest) = (n < first.id) × InOrder first.id rest

rising-lower : (m n : ℕ) (list : List Held) → m ≤ n → AreRising n list → AreRising m list
rising-lower m n [] less rising = tt
rising-lower m n (first ∷ rest) less rising = let above = rising.0 in (omega (arith, less, above), rising.1)

rising-filter : (p : Held → Bool) (n : ℕ) (list : List Held) → AreRising n list → AreRising n (filter p list)
rising-filter p n [] rising = tt
rising-filter p n (first ∷ rest) rising = by (p first) (rising-filter p first.task.id rest rising.1)
  where
    below : n ≤ first.task.id
    below = let above = rising.0 in omega (arith, above)

    by : (b : Bool) → AreRising first.task.id (filter p rest) → AreRising n (if b then first ∷ filter p rest else filter p rest)
    by true later = (rising.0, later)
    by false later = rising-lower n first.task.id (filter p rest) below later

rising-map : (f : Held → Held) → ((held : Held) → (f held).task ≡ held.task) → (n : ℕ) (list : List Held) → AreRising n list → AreRising n (map f list)
rising-map f same n [] rising = tt
rising-map f same n (first ∷ rest) rising = (
  subst (λ (t : Task). n < t.id) (sym (same first)) rising.0,
  subst (λ (t : Task). AreRising t.id (map f rest)) (sym (same first)) (rising-map f same first.task.id rest rising.1),
)

rising-push : (n m : ℕ) (list : List Held) (new : Held) → n ≤ m → m < new.task.id → AreRising n list → AllByRecursion (λ held. held.task.id ≤ m) list
    → AreRising n (list ++ new ∷ [])
rising-push n m [] new less above rising upto = (omega (arith, less, above), tt)
rising-push n m (first ∷ rest) new less above rising upto = (rising.0, rising-push first.task.id m rest new upto.0 above rising.1 upto.1)

order-lower : (m n : ℕ) (list : List Task) → m ≤ n → InOrder n list → InOrder m list
order-lower m n [] less rising = tt
order-lower m n (first ∷ rest) less rising = let above = rising.0 in (omega (arith, less, above), rising.1)

-- a build behind others has a greater number than any of them
pub order-above : (n : ℕ) (before after : List Task) (task : Task) → InOrder n (before ++ task ∷ after) → n < task.id
order-above n [] after task order = order.0
order-above n (first ∷ before) after task order =
    let above = order.0 in
    let more = order-above first.id before after task order.1 in
    omega (arith, above, more)

-- builds with greater numbers than this one are not it
keeps-above : (n id : ℕ) (list : List Task) → id ≤ n → InOrder n list → filter (λ (task : Task). not (task.id == id)) list ≡ list
keeps-above n id [] less order = refl
keeps-above n id (first ∷ rest) less order =
    ap (λ (b : Bool). if not b then first ∷ filter (λ (task : Task). not (task.id == id)) rest else filter (λ (task : Task). not (task.id == id)) rest)
    (let above = order.0 in above_number first.id id (omega (arith, less, above)))
    ∙ ap (λ (list : List Task). first ∷ list) (keeps-above first.id id rest (let above = order.0 in omega (arith, less, above)) order.1)

-- one of them is taken away
pub without-one : (n : ℕ) (before after : List Task) (task : Task) → InOrder n (before ++ task ∷ after)
    → filter (λ (other : Task). not (other.id == task.id)) (before ++ task ∷ after) ≡ before ++ after
without-one n [] after task order =
    ap (λ (b : Bool). if not b then task ∷ filter (λ (other : Task). not (other.id == task.id)) after
    else filter (λ (other : Task). not (other.id == task.id)) after)
    (same_number task.id task.id refl)
    ∙ keeps-above task.id task.id after (omega arith) order.1
without-one n (first ∷ before) after task order =
    ap
    (λ (b : Bool). if not b
    then first ∷ filter (λ (other : Task). not (other.id == task.id)) (before ++ task ∷ after)
    else filter (λ (other : Task). not (other.id == task.id)) (before ++ task ∷ after))
    (other_number first.id task.id (order-above first.id before after task order.1))
    ∙ ap (λ (list : List Task). first ∷ list) (without-one first.id before after task order.1)

-- ---- the builds of a number

-- the builds of a number among those that are held
abbrev pub mine_of : ℕ → List Held → List Task
mine_of who list = map (λ (held : Held). held.task) (filter (λ (held : Held). held.who == who) list)

pub mine-cons : (who : ℕ) (first : Held) (rest : List Held)
    → mine_of who (first ∷ rest) ≡ (if first.who == who then first.task ∷ mine_of who rest else mine_of who rest)
mine-cons who first rest = by (first.who == who)
  where
    by : (b : Bool) → map (λ (held : Held). held.task)
        (if b then first ∷ filter (λ (held : Held). held.who == who) rest else filter (λ (held : Held). held.who == who) rest)
        ≡ (if b then first.task ∷ mine_of who rest else mine_of who rest)
    by true = refl
    by false = refl

pub mine-append : (who : ℕ) (list more : List Held) → mine_of who (list ++ more) ≡ mine_of who list ++ mine_of who more
mine-append who list more =
    ap (map (λ (held : Held). held.task)) (filter-append (λ (held : Held). held.who == who) list more)
    ∙ map-append (λ (held : Held). held.task) (filter (λ (held : Held). held.who == who) list) (filter (λ (held : Held). held.who == who) more)

mine-map : (who : ℕ) (f : Held → Held) → ((held : Held) → (f held).task ≡ held.task) → ((held : Held) → (f held).who ≡ held.who) → (list : List Held)
    → mine_of who (map f list) ≡ mine_of who list
mine-map who f task_is who_is [] = refl
mine-map who f task_is who_is (first ∷ rest) =
    mine-cons who (f first) (map f rest)
    ∙ (ap (λ (w : ℕ). if w == who then (f first).task ∷ mine_of who (map f rest) else mine_of who (map f rest)) (who_is first)
    ∙ (ap₂ (λ (t : Task) (list : List Task). if first.who == who then t ∷ list else list) (task_is first) (mine-map who f task_is who_is rest)
    ∙ sym (mine-cons who first rest)))

-- without the build of a number
abbrev pub without : ℕ → List Task → List Task
without id list = filter (λ (task : Task). not (task.id == id)) list

-- those that do not have this number are left
mine-ended : (who id : ℕ) (list : List Held) → mine_of who (filter (λ (held : Held). not (is_id id held)) list) ≡ without id (mine_of who list)
mine-ended who id [] = refl
mine-ended who id (first ∷ rest) = by (mine-ended who id rest) (first.task.id == id) refl ∙ ap (without id) (sym (mine-cons who first rest))
  where
    left : List Held
    left = filter (λ (held : Held). not (is_id id held)) rest

    more : List Task
    more = mine_of who rest

    dropped : (first.task.id == id) ≡ true → (b : Bool) → without id (if b then first.task ∷ more else more) ≡ without id more
    dropped is true = ap (λ (c : Bool). if not c then first.task ∷ without id more else without id more) is
    dropped is false = refl

    kept : (first.task.id == id) ≡ false → (b : Bool)
        → without id (if b then first.task ∷ more else more) ≡ (if b then first.task ∷ without id more else without id more)
    kept is true = ap (λ (c : Bool). if not c then first.task ∷ without id more else without id more) is
    kept is false = refl

    by : mine_of who left ≡ without id more → (its : Bool) → (first.task.id == id) ≡ its
        → mine_of who (if not its then first ∷ left else left) ≡ without id (if first.who == who then first.task ∷ more else more)
    by later true is = later ∙ sym (dropped is (first.who == who))
    by later false is =
        mine-cons who first left
        ∙ (ap (λ (list : List Task). if first.who == who then first.task ∷ list else list) later ∙ sym (kept is (first.who == who)))

-- they stay in order
order-mine : (who n : ℕ) (list : List Held) → AreRising n list → InOrder n (mine_of who list)
order-mine who n [] rising = tt
order-mine who n (first ∷ rest) rising =
    subst (InOrder n) (sym (mine-cons who first rest)) (by (first.who == who) (order-mine who first.task.id rest rising.1))
  where
    below : n ≤ first.task.id
    below = let above = rising.0 in omega (arith, above)

    by : (b : Bool) → InOrder first.task.id (mine_of who rest) → InOrder n (if b then first.task ∷ mine_of who rest else mine_of who rest)
    by true later = (rising.0, later)
    by false later = order-lower n first.task.id (mine_of who rest) below later

-- a build is found by its number, and is this number's own
record IsFound (who : ℕ) (list : List Held) (task : Task) : Type 0 where
  held : Held
  is : find (is_id task.id) list ≡ Some held
  mine : held.who ≡ who
  same : held.task ≡ task

-- and comes behind this number
record IsFoundAbove (who n : ℕ) (list : List Held) (task : Task) : Type 0 where
  above : n < task.id
  found : IsFound who list task

-- each build of a number is found so
finds-each : (who n : ℕ) (list : List Held) → AreRising n list → AllByRecursion (IsFoundAbove who n list) (mine_of who list)
finds-each who n [] rising = tt
finds-each who n (first ∷ rest) rising =
    subst (AllByRecursion (IsFoundAbove who n (first ∷ rest))) (sym (mine-cons who first rest))
    (by (later (finds-each who first.task.id rest rising.1)) (first.who == who) refl)
  where
    passes : (task : Task) → IsFoundAbove who first.task.id rest task → IsFoundAbove who n (first ∷ rest) task
    passes task one = record {
      above = let low = rising.0 in let high = one.above in omega (arith, low, high);
      found = record {
        held = one.found.held;
        is = ap (λ (b : Bool). if b then Some first else find (is_id task.id) rest) (other_number first.task.id task.id one.above) ∙ one.found.is;
        mine = one.found.mine;
        same = one.found.same;
      };
    }

    later : AllByRecursion (IsFoundAbove who first.task.id rest) (mine_of who rest) → AllByRecursion (IsFoundAbove who n (first ∷ rest)) (mine_of who rest)
    later = all-weaker (IsFoundAbove who first.task.id rest) (IsFoundAbove who n (first ∷ rest)) passes (mine_of who rest)

    by : AllByRecursion (IsFoundAbove who n (first ∷ rest)) (mine_of who rest) → (b : Bool) → (first.who == who) ≡ b
        → AllByRecursion (IsFoundAbove who n (first ∷ rest)) (if b then first.task ∷ mine_of who rest else mine_of who rest)
    by others true is = (
      record {
        above = rising.0;
        found = record {
          held = first;
          is = ap (λ (b : Bool). if b then Some first else find (is_id first.task.id) rest) (same_number first.task.id first.task.id refl);
          mine = grind (arith, nat_tests, is);
          same = refl;
        };
      },
      others,
    )
    by others false is = others

-- ---- legal histories

-- what the empty history has, and each legal entry keeps, each legal history has
pub each_legal : (limits : Limits) (P : History → Type 0) → P []
    → ((h : History) (entry : Entry) → IsLegal limits h → IsAllowed limits h entry.who entry.what → P h → P (h ++ entry ∷ []))
    → (h : History) → IsLegal limits h → P h
each_legal limits P nil step =
    each_history (λ h. IsLegal limits h → P h) (λ legal. nil)
    (λ h entry so_far legal. let before = IsLegal-pop limits h entry legal in step h entry before.0 before.1 (so_far before.0))

-- the held builds have numbers that rise, and that were given to builds
pub record AreNumbered (h : History) : Type 0 where
  pub rising : AreRising 0 (held h)
  pub upto : AllByRecursion (λ held. held.task.id ≤ builds h) (held h)

pub killed-task : (place : ℕ) (what : What) (held : Held) → (killed_by place what held).task ≡ held.task
killed-task place what held = by (drops held.task.table held.task.extent what)
  where
    by : (b : Bool) → (if b then record held { killed = or_here place held.killed } else held).task ≡ held.task
    by true = refl
    by false = refl

pub killed-who : (place : ℕ) (what : What) (held : Held) → (killed_by place what held).who ≡ held.who
killed-who place what held = by (drops held.task.table held.task.extent what)
  where
    by : (b : Bool) → (if b then record held { killed = or_here place held.killed } else held).who ≡ held.who
    by true = refl
    by false = refl

upto-killed : (place n : ℕ) (what : What) (list : List Held) → AllByRecursion (λ held. held.task.id ≤ n) list
    → AllByRecursion (λ held. held.task.id ≤ n) (map (killed_by place what) list)
upto-killed place n what list all =
    all-map (λ (held : Held). held.task.id ≤ n) (killed_by place what) list
    (all-weaker (λ (held : Held). held.task.id ≤ n) (λ (held : Held). (killed_by place what held).task.id ≤ n)
    (λ held less. subst (λ (t : Task). t.id ≤ n) (sym (killed-task place what held)) less) list all)

numbered-push : (limits : Limits) (h : History) (entry : Entry) → IsLegal limits h → IsAllowed limits h entry.who entry.what → AreNumbered h
    → AreNumbered (h ++ entry ∷ [])
numbered-push limits h entry legal allowed so_far = record {
  rising = subst (AreRising 0) (sym (held-push h entry)) (rises entry.what allowed);
  upto =
      subst (λ (n : ℕ). AllByRecursion (λ held. held.task.id ≤ n) (held (h ++ entry ∷ []))) (sym (builds-push h entry))
      (subst (AllByRecursion (λ held. held.task.id ≤ builds_after (builds h) entry.what)) (sym (held-push h entry)) (up entry.what allowed));
}
  where
    rises : (what : What) → IsAllowed limits h entry.who what → AreRising 0 (held_after h entry.who (held h) what)
    rises (Build id table extent trickle) may =
        let numbered = may.numbered in
        rising-push 0 (builds h) (held h) _ (omega arith) (omega (arith, numbered)) so_far.rising so_far.upto
    rises (Switch id) may = rising-filter (λ (held : Held). not (is_id id held)) 0 (held h) so_far.rising
    rises (Cancel id full) may = rising-filter (λ (held : Held). not (is_id id held)) 0 (held h) so_far.rising
    rises what may = rising-map (killed_by (length h) what) (killed-task (length h) what) 0 (held h) so_far.rising

    up : (what : What) → IsAllowed limits h entry.who what
        → AllByRecursion (λ held. held.task.id ≤ builds_after (builds h) what) (held_after h entry.who (held h) what)
    up (Build id table extent trickle) may =
        let numbered = may.numbered in
        all-append (λ (held : Held). held.task.id ≤ builds h + 1) (held h) _
        (all-weaker (λ (held : Held). held.task.id ≤ builds h) (λ (held : Held). held.task.id ≤ builds h + 1) (λ held less. omega (arith, less)) (held h)
        so_far.upto) (omega (arith, numbered), tt)
    up (Switch id) may = all-filter (λ (held : Held). held.task.id ≤ builds h) (λ (held : Held). not (is_id id held)) (held h) so_far.upto
    up (Cancel id full) may = all-filter (λ (held : Held). held.task.id ≤ builds h) (λ (held : Held). not (is_id id held)) (held h) so_far.upto
    up what may = upto-killed (length h) (builds h) what (held h) so_far.upto

numbered-nil : AreNumbered []
numbered-nil = record {
  rising = subst (AreRising 0) (sym held-nil) tt;
  upto = subst (AllByRecursion (λ held. held.task.id ≤ builds [])) (sym held-nil) tt;
}

pub are_numbered : (limits : Limits) (h : History) → IsLegal limits h → AreNumbered h
are_numbered limits = each_legal limits AreNumbered numbered-nil (numbered-push limits)

-- the builds of a number come in the order of their numbers
pub builds-order : (limits : Limits) (h : History) (who : ℕ) → IsLegal limits h → InOrder 0 (builds_of h who)
builds-order limits h who legal = order-mine who 0 (held h) (are_numbered limits h legal).rising

-- each build of a number is its own
pub builds-own : (limits : Limits) (h : History) (who : ℕ) → IsLegal limits h → AllByRecursion (IsOwn h who) (builds_of h who)
builds-own limits h who legal =
    all-weaker (IsFoundAbove who 0 (held h)) (IsOwn h who)
    (λ task one. record { held = one.found.held; is = one.found.is; mine = one.found.mine; same = one.found.same }) (builds_of h who)
    (finds-each who 0 (held h) (are_numbered limits h legal).rising)

-- ---- one more entry

-- an entry that begins no build and ends none
pub builds-plain : (h : History) (entry : Entry) (who : ℕ) → is_plain entry.what ≡ true → builds_of (h ++ entry ∷ []) who ≡ builds_of h who
builds-plain h entry who plain =
    ap (mine_of who) (held-plain h entry plain)
    ∙ mine-map who (killed_by (length h) entry.what) (killed-task (length h) entry.what) (killed-who (length h) entry.what) (held h)

-- the end of a build
pub builds-cancelled : (h : History) (maker who id : ℕ) (full : Bool)
    → builds_of (h ++ record { who = maker; what = Cancel id full } ∷ []) who ≡ without id (builds_of h who)
builds-cancelled h maker who id full =
    ap (mine_of who) (held-push h (record { who = maker; what = Cancel id full })) ∙ mine-ended who id (held h)

pub builds-switched : (h : History) (maker who id : ℕ) → builds_of (h ++ record { who = maker; what = Switch id } ∷ []) who ≡ without id (builds_of h who)
builds-switched h maker who id = ap (mine_of who) (held-push h (record { who = maker; what = Switch id })) ∙ mine-ended who id (held h)
