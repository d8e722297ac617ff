-- What entries make of the builds that the background holds, and which build it left behind.
use Rattle.std.proofs.Common.{◌≡◌, ℕ, ◌*◌, ◌≤◌, ◌==◌, ◌&&◌, ◌||◌, Bool, true, false, not, List, [], ◌∷◌, ◌++◌, map, All, Option, Some, None, if◌then◌else◌, refl, sym, ap, ap₂, ◌∙◌, subst, arith, append-nil, append_assoc}
use Rattle.std.specs.List.{AllByRecursion, find}
use Rattle.std.specs.Option.{option_map, option_or}
use Rattle.std.proofs.lemmas.Bool.{true≢false}
use Rattle.std.proofs.lemmas.Bool.Decides.{nat_tests}
use Rattle.std.proofs.lemmas.List.Elements.{All-head, All-tail, All-weaker}
use Rattle.std.proofs.lemmas.List.Folds.{find-append}
use Rattle.im_history.specs.declared.entry.Entry.{Entry}
use Rattle.im_history.specs.declared.entry.What.{What}
use Rattle.im_history.specs.declared.entry.What.TheVariants.{Build, Switch, Cancel}
use Rattle.im_history.specs.declared.limits.Limits.{Limits}
use Rattle.im_history.specs.declared.task.Choice.{Choice}
use Rattle.im_history.specs.declared.task.Held.{Held}
use Rattle.im_history.specs.declared.task.Task.{Task}
use Rattle.im_history.specs.Commits.{scn}
use Rattle.im_history.specs.History.{History, behind}
use Rattle.im_history.specs.Legal.{Exists, IsAllowed, IsLegal, IsLegalFrom, MayEnd}
use Rattle.im_history.specs.Queue.{build_of, task_of}
use Rattle.im_history.specs.Rows.{Row}
use Rattle.im_history.specs.Tables.{given}
use Rattle.im_history.specs.Units.{Content, IsOwn, held, held_at, rows_of_extent, task_content, unit_row}
use Rattle.im_history.proofs.ContentLaws.{unit_row-push}
use Rattle.im_history.proofs.HeldLaws.{held-within}
use Rattle.im_history.proofs.Laws.{IsLegal-pop, scn-push}
use Rattle.im_history.proofs.RowLaws.{each_longer}
use Rattle.im_history.proofs.TableLaws.{Exists-push}
use Rattle.im_history.proofs.UnitLaws.{held-push, is_plain}
use Rattle.im_plan.specs.Goes.{After}
use Rattle.im_reach.specs.Sides.{AreOthers, StoreSide, speaks}
use Rattle.im_statements.specs.Background.{is_among, stray}
use Rattle.im_worker.specs.Background.{Ready, builds_of, tasks_of}
use Rattle.im_worker.specs.inner.Standing.{Stands}
use Rattle.im_worker.proofs.HoldingLaws.{InOrder, all-append, all-first, all-last, all-weaker, builds-cancelled, builds-order, builds-own, builds-plain, builds-switched, mine-append, mine-cons, mine_of, order-above, other_number, same_number, without, without-one}

-- ---- what a unit is to hold

pub map_same : {X : Type 0} (f g : ℕ → X) → ((k : ℕ) → f k ≡ g k) → (ks : List ℕ) → map f ks ≡ map g ks
map_same f g same [] = refl
map_same f g same (k ∷ ks) = ap₂ (λ x xs. x ∷ xs) (same k) (map_same f g same ks)

abbrev pub content_of : Task → List (Option Row) → Content
content_of task list = record { scn = task.scn; first = task.extent * task.per; columns = task.columns; rows = list }

-- the table of a build exists, and the build's SCN was reached
pub record IsReached (h : History) (task : Task) : Type 0 where
  pub exists : Exists h task.table
  pub scn : task.scn ≤ scn h

IsReached-push : (h : History) (entry : Entry) (task : Task) → IsReached h task → IsReached (h ++ entry ∷ []) task
IsReached-push h entry task reached = record {
  exists = Exists-push h entry task.table reached.exists;
  scn = let before = reached.scn in let moved = scn-push h entry in omega (arith, before, moved);
}

-- a row of its unit stays
record RowStays (h : History) (task : Task) (rid : ℕ) (now : History) : Type 0 where
  reached : IsReached now task
  same : unit_row now task.table task.scn rid ≡ unit_row h task.table task.scn rid

row-later : (h more : History) (task : Task) (rid : ℕ) → IsReached h task
    → unit_row (h ++ more) task.table task.scn rid ≡ unit_row h task.table task.scn rid
row-later h more task rid reached =
    (each_longer (RowStays h task rid)
    (λ now entry so_far. record {
      reached = IsReached-push now entry task so_far.reached;
      same = unit_row-push now entry task.table task.scn rid so_far.reached.exists so_far.reached.scn ∙ so_far.same;
    }) h more (record { reached = reached; same = refl })).same

-- so what it is to hold stays
pub content-later : (h more : History) (task : Task) → IsReached h task → task_content (h ++ more) task ≡ task_content h task
content-later h more task reached =
    ap (content_of task)
    (map_same (unit_row (h ++ more) task.table task.scn) (unit_row h task.table task.scn) (λ rid. row-later h more task rid reached)
    (rows_of_extent task.per task.extent))

pub reached-own : (limits : Limits) (h : History) (who : ℕ) (task : Task) → IsLegal limits h → IsOwn h who task → IsReached h task
reached-own limits h who task legal own =
    let within = held-within limits h task.id own.held legal own.is in
    subst (IsReached h) own.same (record { exists = within.exists; scn = within.scn })

-- ---- entries of others

the_same : {a b : Held} → Some a ≡ Some b → a ≡ b
the_same is = cc

-- a build that another ends is not this number's
pub apart-id : (h : History) (maker who id : ℕ) (task : Task) → (maker == who) ≡ false → MayEnd h maker id → IsOwn h who task → (task.id == id) ≡ false
apart-id h maker who id task other may own = by (task.id == id) refl
  where
    by : (b : Bool) → (task.id == id) ≡ b → (task.id == id) ≡ false
    by false is = is
    by true is =
        let same : task.id ≡ id = grind (arith, nat_tests, is) in
        let one : own.held ≡ may.held = the_same (sym own.is ∙ (ap (held_at h) same ∙ may.is)) in
        let who_is : maker ≡ who = sym may.mine ∙ (sym (ap (λ (held : Held). held.who) one) ∙ own.mine) in
        absurd (true≢false (sym (same_number maker who who_is) ∙ other))

without-none : (id : ℕ) (list : List Task) → AllByRecursion (λ task. (task.id == id) ≡ false) list → without id list ≡ list
without-none id [] all = refl
without-none id (first ∷ rest) all =
    ap (λ (b : Bool). if not b then first ∷ without id rest else without id rest) all.0 ∙ ap (λ (list : List Task). first ∷ list) (without-none id rest all.1)

-- the entries of others leave a number its builds
builds-other : (limits : Limits) (h : History) (entry : Entry) (who : ℕ) → IsLegal limits h → IsAllowed limits h entry.who entry.what
    → (entry.who == who) ≡ false → builds_of (h ++ entry ∷ []) who ≡ builds_of h who
builds-other limits h entry who legal allowed other = by entry.what refl allowed
  where
    ended : (id : ℕ) → MayEnd h entry.who id → without id (builds_of h who) ≡ builds_of h who
    ended id may =
        without-none id (builds_of h who)
        (all-weaker (IsOwn h who) (λ task. (task.id == id) ≡ false) (λ task own. apart-id h entry.who who id task other may own) (builds_of h who)
        (builds-own limits h who legal))

    begun : (held : Held) → held.who ≡ entry.who → mine_of who (held ∷ []) ≡ []
    begun held same =
        mine-cons who held []
        ∙ (ap (λ (w : ℕ). if w == who then held.task ∷ [] else []) same ∙ ap (λ (b : Bool). if b then held.task ∷ [] else []) other)

    by : (what : What) → entry.what ≡ what → IsAllowed limits h entry.who what → builds_of (h ++ entry ∷ []) who ≡ builds_of h who
    by (Build id table extent trickle) same may =
        ap (λ (w : What). builds_of (h ++ record { who = entry.who; what = w } ∷ []) who) same
        ∙ (ap (mine_of who) (held-push h (record { who = entry.who; what = Build id table extent trickle }))
        ∙ (mine-append who (held h) _ ∙ (ap (λ (list : List Task). builds_of h who ++ list) (begun _ refl) ∙ append-nil (builds_of h who))))
    by (Switch id) same may =
        ap (λ (w : What). builds_of (h ++ record { who = entry.who; what = w } ∷ []) who) same
        ∙ (builds-switched h entry.who who id ∙ ended id may.may)
    by (Cancel id full) same may =
        ap (λ (w : What). builds_of (h ++ record { who = entry.who; what = w } ∷ []) who) same
        ∙ (builds-cancelled h entry.who who id full ∙ ended id may.may)
    by what same may = builds-plain h entry who (ap is_plain same)

-- ---- what is held, one entry on

-- the builds that are held were begun by now
reached-ready : (limits : Limits) (h : History) (who : ℕ) (builds : List Ready) (more : List Task) → IsLegal limits h → Stands who builds more h
    → AllByRecursion (λ ready. IsReached h ready.task) builds
reached-ready limits h who builds more legal stands =
    of_tasks builds
    (all-first (IsReached h) (tasks_of builds) more
    (subst (AllByRecursion (IsReached h)) stands.tasks
    (all-weaker (IsOwn h who) (IsReached h) (λ task own. reached-own limits h who task legal own) (builds_of h who)
    (builds-own limits h who legal))))
  where
    of_tasks : (list : List Ready) → AllByRecursion (IsReached h) (tasks_of list) → AllByRecursion (λ ready. IsReached h ready.task) list
    of_tasks [] all = tt
    of_tasks (first ∷ rest) all = (all.0, of_tasks rest all.1)

-- so their units are still what they are to be
ready-push : (h : History) (entry : Entry) (builds : List Ready) → AllByRecursion (λ ready. IsReached h ready.task) builds
    → AllByRecursion (λ ready. ready.content ≡ task_content h ready.task) builds
    → AllByRecursion (λ ready. ready.content ≡ task_content (h ++ entry ∷ []) ready.task) builds
ready-push h entry [] within all = tt
ready-push h entry (first ∷ rest) within all =
    (all.0 ∙ sym (content-later h (entry ∷ []) first.task within.0), ready-push h entry rest within.1 all.1)

-- of the builds that are not ended, each that is held is this number's own
own-ready : (limits : Limits) (h : History) (who : ℕ) (builds : List Ready) (more : List Task) → IsLegal limits h → builds_of h who ≡ tasks_of builds ++ more
    → AllByRecursion (λ ready. IsOwn h who ready.task) builds
own-ready limits h who builds more legal tasks =
    of_tasks builds (all-first (IsOwn h who) (tasks_of builds) more (subst (AllByRecursion (IsOwn h who)) tasks (builds-own limits h who legal)))
  where
    of_tasks : (list : List Ready) → AllByRecursion (IsOwn h who) (tasks_of list) → AllByRecursion (λ ready. IsOwn h who ready.task) list
    of_tasks [] all = tt
    of_tasks (first ∷ rest) all = (all.0, of_tasks rest all.1)

-- the builds after one more entry
made_of : (limits : Limits) (h : History) (entry : Entry) (who : ℕ) (builds : List Ready) (more : List Task) → IsLegal limits (h ++ entry ∷ [])
    → AllByRecursion (λ ready. IsReached h ready.task) builds → AllByRecursion (λ ready. ready.content ≡ task_content h ready.task) builds
    → builds_of (h ++ entry ∷ []) who ≡ tasks_of builds ++ more → Stands who builds more (h ++ entry ∷ [])
made_of limits h entry who builds more legal within ready tasks = record {
  tasks = tasks;
  own = own-ready limits (h ++ entry ∷ []) who builds more legal tasks;
  ready = ready-push h entry builds within ready;
}

-- an entry that leaves the builds as they are
stands-same : (limits : Limits) (h : History) (entry : Entry) (who : ℕ) (builds : List Ready) (more : List Task) → IsLegal limits (h ++ entry ∷ [])
    → builds_of (h ++ entry ∷ []) who ≡ builds_of h who → Stands who builds more h → Stands who builds more (h ++ entry ∷ [])
stands-same limits h entry who builds more legal same stands =
    made_of limits h entry who builds more legal (reached-ready limits h who builds more (IsLegal-pop limits h entry legal).0 stands) stands.ready
    (same ∙ stands.tasks)

-- an entry of the number's own that is of no build
pub stands-plain : (limits : Limits) (h : History) (who maker : ℕ) (what : What) (builds : List Ready) (more : List Task)
    → IsLegal limits (behind h maker what) → is_plain what ≡ true → Stands who builds more h → Stands who builds more (behind h maker what)
stands-plain limits h who maker what builds more legal plain =
    stands-same limits h (record { who = maker; what = what }) who builds more legal
    (builds-plain h (record { who = maker; what = what }) who plain)

-- a build begins
pub stands-begun : (limits : Limits) (h : History) (who : ℕ) (choice : Choice) (builds : List Ready) → IsLegal limits (behind h who (build_of h choice))
    → Stands who builds [] h → Stands who builds (task_of h choice ∷ []) (behind h who (build_of h choice))
stands-begun limits h who choice builds legal stands =
    made_of limits h entry who builds (task_of h choice ∷ []) legal (reached-ready limits h who builds [] before stands) stands.ready
    (ap (mine_of who) (held-push h entry)
    ∙ (mine-append who (held h) _
    ∙ ap₂ (λ (list more : List Task). list ++ more) (stands.tasks ∙ append-nil (tasks_of builds)) (own_one (same_number who who refl))))
  where
    entry : Entry
    entry = record { who = who; what = build_of h choice }

    before : IsLegal limits h
    before = (IsLegal-pop limits h entry legal).0

    begun : Held
    begun = record { who = who; task = task_of h choice; given = given h choice.table; killed = None }

    own_one : (who == who) ≡ true → mine_of who (begun ∷ []) ≡ task_of h choice ∷ []
    own_one is = mine-cons who begun [] ∙ ap (λ (b : Bool). if b then task_of h choice ∷ [] else []) is

-- ---- a build ends

-- the entry ends the build of this number
abbrev pub ends : ℕ → What → Bool
ends id (Switch other) = other == id
ends id (Cancel other full) = other == id
ends id _ = false

builds-ended : (h : History) (who id : ℕ) (what : What) → ends id what ≡ true → builds_of (behind h who what) who ≡ without id (builds_of h who)
builds-ended h who id (Switch other) is =
    builds-switched h who who other ∙ ap (λ (n : ℕ). without n (builds_of h who)) (grind (arith, nat_tests, is))
builds-ended h who id (Cancel other full) is =
    builds-cancelled h who who other full ∙ ap (λ (n : ℕ). without n (builds_of h who)) (grind (arith, nat_tests, is))
builds-ended h who id _ is = absurd (true≢false (sym is))

-- the last build ends, which is held no longer or never was
pub stands-finished : (limits : Limits) (h : History) (who : ℕ) (what : What) (builds : List Ready) (task : Task) → IsLegal limits (behind h who what)
    → ends task.id what ≡ true → Stands who builds (task ∷ []) h → Stands who builds [] (behind h who what)
stands-finished limits h who what builds task legal is stands =
    made_of limits h (record { who = who; what = what }) who builds [] legal (reached-ready limits h who builds (task ∷ []) before stands) stands.ready
    (builds-ended h who task.id what is
    ∙ (ap (without task.id) stands.tasks
    ∙ without-one 0 (tasks_of builds) [] task (subst (InOrder 0) stands.tasks (builds-order limits h who before))))
  where
    before : IsLegal limits h
    before = (IsLegal-pop limits h (record { who = who; what = what }) legal).0

-- the oldest build that is held ends
pub stands-oldest : (limits : Limits) (h : History) (who : ℕ) (what : What) (first : Ready) (rest : List Ready) → IsLegal limits (behind h who what)
    → ends first.task.id what ≡ true → Stands who (first ∷ rest) [] h → Stands who rest [] (behind h who what)
stands-oldest limits h who what first rest legal is stands =
    made_of limits h (record { who = who; what = what }) who rest [] legal (reached-ready limits h who (first ∷ rest) [] before stands).1 stands.ready.1
    (builds-ended h who first.task.id what is
    ∙ (ap (without first.task.id) stands.tasks
    ∙ without-one 0 [] (tasks_of rest ++ []) first.task (subst (InOrder 0) stands.tasks (builds-order limits h who before))))
  where
    before : IsLegal limits h
    before = (IsLegal-pop limits h (record { who = who; what = what }) legal).0

-- the last build is held from now on
pub stands-held : (limits : Limits) (h : History) (who : ℕ) (builds : List Ready) (ready : Ready) → IsLegal limits h → ready.content ≡ task_content h ready.task
    → Stands who builds (ready.task ∷ []) h → Stands who (builds ++ ready ∷ []) [] h
stands-held limits h who builds ready legal content stands = record {
  tasks = tasks;
  own = own-ready limits h who (builds ++ ready ∷ []) [] legal tasks;
  ready = all-append (λ (one : Ready). one.content ≡ task_content h one.task) builds (ready ∷ []) stands.ready (content, tt);
}
  where
    of_tasks : (list : List Ready) → tasks_of list ++ ready.task ∷ [] ≡ tasks_of (list ++ ready ∷ [])
    of_tasks [] = refl
    of_tasks (first ∷ rest) = ap (λ (tasks : List Task). first.task ∷ tasks) (of_tasks rest)

    tasks : builds_of h who ≡ tasks_of (builds ++ ready ∷ []) ++ []
    tasks = stands.tasks ∙ (of_tasks builds ∙ sym (append-nil (tasks_of (builds ++ ready ∷ []))))

-- ---- whose the builds are

-- the build that began last is this number's own
pub own-last : (limits : Limits) (h : History) (who : ℕ) (builds : List Ready) (task : Task) → IsLegal limits h → Stands who builds (task ∷ []) h
    → IsOwn h who task
own-last limits h who builds task legal stands =
    (all-last (IsOwn h who) (tasks_of builds) (task ∷ []) (subst (AllByRecursion (IsOwn h who)) stands.tasks (builds-own limits h who legal))).0

-- ---- the build that is neither held nor ended

-- the build is none of these
abbrev is_left : List Task → Task → Bool
is_left builds task = not (is_among builds task.id)

stray-mine : (who : ℕ) (builds : List Task) (list : List Held)
    → option_map (λ (held : Held). held.task) (find (λ held. (held.who == who) && not (is_among builds held.task.id)) list)
    ≡ find (is_left builds) (mine_of who list)
stray-mine who builds [] = refl
stray-mine who builds (first ∷ rest) =
    by (stray-mine who builds rest) (first.who == who) (is_left builds first.task)
    ∙ (sym (pull (first.who == who)) ∙ ap (find (is_left builds)) (sym (mine-cons who first rest)))
  where
    left : Option Held
    left = find (λ held. (held.who == who) && not (is_among builds held.task.id)) rest

    more : List Task
    more = mine_of who rest

    pull : (mine : Bool) → find (is_left builds) (if mine then first.task ∷ more else more)
        ≡ (if mine then (if is_left builds first.task then Some first.task else find (is_left builds) more) else find (is_left builds) more)
    pull true = refl
    pull false = refl

    by : option_map (λ (held : Held). held.task) left ≡ find (is_left builds) more → (mine apart : Bool)
        → option_map (λ (held : Held). held.task) (if mine && apart then Some first else left)
        ≡ (if mine then (if apart then Some first.task else find (is_left builds) more) else find (is_left builds) more)
    by later true true = refl
    by later true false = later
    by later false true = later
    by later false false = later

find-none : (p : Task → Bool) (list : List Task) → AllByRecursion (λ task. p task ≡ false) list → find p list ≡ None
find-none p [] all = refl
find-none p (first ∷ rest) all = ap (λ (b : Bool). if b then Some first else find p rest) all.0 ∙ find-none p rest all.1

-- each of them is one of them
or-true : (a b : Bool) → b ≡ true → (a || b) ≡ true
or-true true b is = refl
or-true false b is = is

among-each : (list : List Task) → AllByRecursion (λ task. is_among list task.id ≡ true) list
among-each [] = tt
among-each (first ∷ rest) = (
  ap (λ (b : Bool). b || is_among rest first.id) (same_number first.id first.id refl),
  all-weaker (λ (task : Task). is_among rest task.id ≡ true) (λ (task : Task). is_among (first ∷ rest) task.id ≡ true)
      (λ task is. or-true (first.id == task.id) (is_among rest task.id) is) rest (among-each rest),
)

left-none : (list : List Task) → find (is_left list) list ≡ None
left-none list =
    find-none (is_left list) list
    (all-weaker (λ (task : Task). is_among list task.id ≡ true) (λ (task : Task). is_left list task ≡ false) (λ task is. ap not is) list (among-each list))

-- a build with a greater number is none of them
among-below : (n : ℕ) (list : List Task) (task : Task) → InOrder n (list ++ task ∷ []) → is_among list task.id ≡ false
among-below n [] task order = refl
among-below n (first ∷ rest) task order =
    ap (λ (b : Bool). b || is_among rest task.id) (other_number first.id task.id (order-above first.id rest [] task order.1))
    ∙ among-below first.id rest task order.1

left-last : (list : List Task) (task : Task) → InOrder 0 (list ++ task ∷ []) → find (is_left list) (list ++ task ∷ []) ≡ Some task
left-last list task order =
    find-append (is_left list) list (task ∷ [])
    ∙ (ap (λ (o : Option Task). option_or o (find (is_left list) (task ∷ []))) (left-none list)
    ∙ ap (λ (b : Bool). option_or None (if not b then Some task else None)) (among-below 0 list task order))

-- the entry that cancels a build that was left
abbrev cancel_of : Option Held → Option What
cancel_of o = option_map (λ (held : Held). Cancel held.task.id false) o

cancel-task : (o : Option Held) → cancel_of o ≡ option_map (λ (task : Task). Cancel task.id false) (option_map (λ (held : Held). held.task) o)
cancel-task None = refl
cancel-task (Some held) = refl

stray-is : (h : History) (who : ℕ) (builds : List Task) (found : Option Task) → find (is_left builds) (builds_of h who) ≡ found
    → cancel_of (stray h who builds) ≡ option_map (λ (task : Task). Cancel task.id false) found
stray-is h who builds found is =
    cancel-task (stray h who builds)
    ∙ ap (option_map (λ (task : Task). Cancel task.id false)) (stray-mine who builds (held h) ∙ is)

-- where all that are not ended are held, nothing is cancelled
pub stray-none : (h : History) (who : ℕ) (builds : List Ready) → Stands who builds [] h
    → option_map (λ (held : Held). Cancel held.task.id false) (stray h who (tasks_of builds)) ≡ None
stray-none h who builds stands =
    stray-is h who (tasks_of builds) None
    (ap (find (is_left (tasks_of builds))) (stands.tasks ∙ append-nil (tasks_of builds)) ∙ left-none (tasks_of builds))

-- a build that began last and is not held is cancelled
pub stray-last : (limits : Limits) (h : History) (who : ℕ) (builds : List Ready) (task : Task) → IsLegal limits h → Stands who builds (task ∷ []) h
    → option_map (λ (held : Held). Cancel held.task.id false) (stray h who (tasks_of builds)) ≡ Some (Cancel task.id false)
stray-last limits h who builds task legal stands =
    stray-is h who (tasks_of builds) (Some task)
    (ap (find (is_left (tasks_of builds))) stands.tasks
    ∙ left-last (tasks_of builds) task (subst (InOrder 0) stands.tasks (builds-order limits h who legal)))

-- ---- others go on

-- what comes before in a legal history is legal
legal-from : (limits : Limits) (before h more : History) → IsLegalFrom limits before (h ++ more) → IsLegalFrom limits before h
legal-from limits before [] more legal = tt
legal-from limits before (entry ∷ h) more legal = (legal.0, legal-from limits (before ++ entry ∷ []) h more legal.1)

pub legal-before : (limits : Limits) (h more : History) → IsLegal limits (h ++ more) → IsLegal limits h
legal-before limits h more legal = record { each = legal-from limits [] h more legal.each }

-- what each legal entry of others keeps stays
pub legal-behind : (limits : Limits) (who : ℕ) (P : History → Type 0)
    → ((h : History) (entry : Entry) → IsLegal limits (h ++ entry ∷ []) → (entry.who == who) ≡ false → P h → P (h ++ entry ∷ []))
    → (h between : History) → IsLegal limits (h ++ between) → All (λ entry. (entry.who == who) ≡ false) between → P h → P (h ++ between)
legal-behind limits who P step h [] legal apart holds = subst P (sym (append-nil h)) holds
legal-behind limits who P step h (entry ∷ rest) legal apart holds =
    subst P (append_assoc h (entry ∷ []) rest)
    (legal-behind limits who P step (h ++ entry ∷ []) rest whole (All-tail (λ (e : Entry). (e.who == who) ≡ false) entry rest apart)
    (step h entry (legal-before limits (h ++ entry ∷ []) rest whole) (All-head (λ (e : Entry). (e.who == who) ≡ false) entry rest apart) holds))
  where
    whole : IsLegal limits ((h ++ entry ∷ []) ++ rest)
    whole = subst (IsLegal limits) (sym (append_assoc h (entry ∷ []) rest)) legal

unlike : (side : StoreSide) (who number : ℕ) → speaks side who ≡ true → speaks side number ≡ false → (number == who) ≡ false
unlike side who number mine other = by (number == who) refl
  where
    by : (b : Bool) → (number == who) ≡ b → (number == who) ≡ false
    by false is = is
    by true is =
        let same : number ≡ who = grind (arith, nat_tests, is) in
        absurd (true≢false (sym mine ∙ (ap (speaks side) (sym same) ∙ other)))

pub after-legal : (limits : Limits) (side : StoreSide) (who : ℕ) (P : History → Type 0)
    → ((h : History) (entry : Entry) → IsLegal limits (h ++ entry ∷ []) → (entry.who == who) ≡ false → P h → P (h ++ entry ∷ []))
    → (old at : History) → speaks side who ≡ true → IsLegal limits at → After (AreOthers side) old at → P old → P at
after-legal limits side who P step old at mine legal after holds =
    subst P (sym after.log)
    (legal-behind limits who P step old after.between (subst (IsLegal limits) after.log legal)
    (All-weaker (λ (e : Entry). speaks side e.who ≡ false) (λ (e : Entry). (e.who == who) ≡ false) (λ entry. unlike side who entry.who mine) after.between
    after.lawful.apart) holds)

pub stands-other : (limits : Limits) (h : History) (entry : Entry) (who : ℕ) (builds : List Ready) (more : List Task) → IsLegal limits (h ++ entry ∷ [])
    → (entry.who == who) ≡ false → Stands who builds more h → Stands who builds more (h ++ entry ∷ [])
stands-other limits h entry who builds more legal other =
    let parts = IsLegal-pop limits h entry legal in
    stands-same limits h entry who builds more legal (builds-other limits h entry who parts.0 parts.1 other)

-- what is held stays so when others go on
pub stands-after : (limits : Limits) (side : StoreSide) (who : ℕ) (builds : List Ready) (more : List Task) (old at : History) → speaks side who ≡ true
    → IsLegal limits at → After (AreOthers side) old at → Stands who builds more old → Stands who builds more at
stands-after limits side who builds more =
    after-legal limits side who (Stands who builds more)
    (λ h entry legal other stands. stands-other limits h entry who builds more legal other stands)
