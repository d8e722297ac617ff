-- The held build of a number after one more entry.
use Rattle.std.proofs.Common.{◌≡◌, ℕ, ◌==◌, Bool, true, false, not, List, [], ◌∷◌, ◌++◌, length, map, filter, Option, Some, None, if◌then◌else◌, refl, sym, ap, ◌∙◌, ⊎_elim}
use Rattle.std.specs.List.{find}
use Rattle.std.specs.Option.{option_map, option_or}
use Rattle.std.proofs.lemmas.Bool.{true≢false, cases_Bool, eq-eqb, eqb-true}
use Rattle.std.proofs.lemmas.List.Folds.{find-append}
use Rattle.im_history.specs.declared.entry.Entry.{Entry}
use Rattle.im_history.specs.declared.entry.What.{What}
use Rattle.im_history.specs.declared.entry.What.TheVariants.{Build, Switch, Cancel}
use Rattle.im_history.specs.declared.task.Held.{Held}
use Rattle.im_history.specs.History.{History}
use Rattle.im_history.specs.Tables.{given}
use Rattle.im_history.specs.Transactions.{or_here}
use Rattle.im_history.specs.Units.{drops, held, held_at, is_id, killed_by, task_at}
use Rattle.im_history.proofs.UnitLaws.{held-nil, held-plain, held-push, is_plain}

pub held_at-nil : (id : ℕ) → held_at [] id ≡ None
held_at-nil id = ap (find (is_id id)) held-nil

-- ---- a build is killed, or not

same_id : (b : Bool) (place id : ℕ) (held : Held) → is_id id (if b then record held { killed = or_here place held.killed } else held) ≡ is_id id held
same_id true place id held = refl
same_id false place id held = refl

find-by : (b : Bool) (f : Held → Held) (first : Held) (rest all : Option Held) → rest ≡ option_map f all
    → (if b then Some (f first) else rest) ≡ option_map f (if b then Some first else all)
find-by true f first rest all same = refl
find-by false f first rest all same = same

find-killed : (place : ℕ) (what : What) (id : ℕ) (held : List Held)
    → find (is_id id) (map (killed_by place what) held) ≡ option_map (killed_by place what) (find (is_id id) held)
find-killed place what id [] = refl
find-killed place what id (first ∷ held) =
    ap (λ (b : Bool). if b then Some (killed_by place what first) else find (is_id id) (map (killed_by place what) held))
    (same_id (drops first.task.table first.task.extent what) place id first)
    ∙ find-by (is_id id first) (killed_by place what) first _ (find (is_id id) held) (find-killed place what id held)

-- an entry that begins no build and ends none kills it, or does not
pub held_at-plain : (h : History) (entry : Entry) (id : ℕ) → is_plain entry.what ≡ true
    → held_at (h ++ entry ∷ []) id ≡ option_map (killed_by (length h) entry.what) (held_at h id)
held_at-plain h entry id plain = ap (find (is_id id)) (held-plain h entry plain) ∙ find-killed (length h) entry.what id (held h)

-- ---- a build begins

-- what is held of the build that begins
abbrev pub begun_at : History → ℕ → ℕ → ℕ → ℕ → Bool → Held
begun_at h who id table extent trickle = record { who = who; task = task_at h id table extent trickle; given = given h table; killed = None }

pub held_at-build : (h : History) (who id table extent : ℕ) (trickle : Bool) (other : ℕ)
    → held_at (h ++ record { who = who; what = Build id table extent trickle } ∷ []) other
    ≡ option_or (held_at h other) (if id == other then Some (begun_at h who id table extent trickle) else None)
held_at-build h who id table extent trickle other =
    ap (find (is_id other)) (held-push h (record { who = who; what = Build id table extent trickle }))
    ∙ find-append (is_id other) (held h) (begun_at h who id table extent trickle ∷ [])

-- ---- a build ends

find-kept : (mine its : Bool) (id other : ℕ) (first : Held) (rest : List Held) (all : Option Held) → is_id id first ≡ mine → is_id other first ≡ its
    → find (is_id other) rest ≡ (if other == id then None else all)
    → find (is_id other) (if not mine then first ∷ rest else rest) ≡ (if other == id then None else (if its then Some first else all))
find-kept true true id other first rest all one two same =
    let equal : (other == id) ≡ true = eq-eqb other id (sym (eqb-true first.task.id other two) ∙ eqb-true first.task.id id one) in
    same ∙ (ap (λ (b : Bool). if b then None else all) equal ∙ sym (ap (λ (b : Bool). if b then None else Some first) equal))
find-kept true false id other first rest all one two same = same
find-kept false true id other first rest all one two same =
    let apart : (other == id) ≡ false =
    ⊎_elim
    (λ (is : (other == id) ≡ true). absurd (true≢false (sym (eq-eqb first.task.id id (eqb-true first.task.id other two ∙ eqb-true other id is)) ∙ one)))
    (λ (no : (other == id) ≡ false). no)
    (cases_Bool (other == id)) in
    ap (λ (b : Bool). if b then Some first else find (is_id other) rest) two ∙ sym (ap (λ (b : Bool). if b then None else Some first) apart)
find-kept false false id other first rest all one two same = ap (λ (b : Bool). if b then Some first else find (is_id other) rest) two ∙ same

none_either : (b : Bool) → ◌≡◌ {A = Option Held} None (if b then None else None)
none_either true = refl
none_either false = refl

find-ended : (id other : ℕ) (held : List Held)
    → find (is_id other) (filter (λ held. not (is_id id held)) held) ≡ (if other == id then None else find (is_id other) held)
find-ended id other [] = none_either (other == id)
find-ended id other (first ∷ held) =
    find-kept (is_id id first) (is_id other first) id other first (filter (λ held. not (is_id id held)) held) (find (is_id other) held) refl refl
    (find-ended id other held)

pub held_at-switch : (h : History) (who id other : ℕ)
    → held_at (h ++ record { who = who; what = Switch id } ∷ []) other ≡ (if other == id then None else held_at h other)
held_at-switch h who id other = ap (find (is_id other)) (held-push h (record { who = who; what = Switch id })) ∙ find-ended id other (held h)

pub held_at-cancel : (h : History) (who id : ℕ) (full : Bool) (other : ℕ)
    → held_at (h ++ record { who = who; what = Cancel id full } ∷ []) other ≡ (if other == id then None else held_at h other)
held_at-cancel h who id full other = ap (find (is_id other)) (held-push h (record { who = who; what = Cancel id full })) ∙ find-ended id other (held h)
