-- Pending changes are to row numbers that were given.
use Rattle.std.proofs.Common.{◌≡◌, ℕ, ◌+◌, ◌≤◌, Bool, true, false, ◌==◌, max, List, [], ◌∷◌, ◌++◌, ⊎_elim, refl, ap, ◌∙◌, subst, arith, eq-eqb, ne_eqb, append_assoc, append-nil, if◌then◌else◌}
use Rattle.std.proofs.lemmas.Bool.{cases_eq}
use Rattle.std.proofs.lemmas.List.Folds.{list_any-append}
use Rattle.im_history.specs.declared.change.Change.{Change}
use Rattle.im_history.specs.declared.entry.Entry.{Entry}
use Rattle.im_history.specs.declared.entry.What.{What}
use Rattle.im_history.specs.declared.entry.What.TheVariants.{Write, Commit, Rollback}
use Rattle.im_history.specs.History.{History, replay}
use Rattle.im_history.specs.Tables.{given, given_by, given_after}
use Rattle.im_history.specs.Touched.{is_to, touches}
use Rattle.im_history.specs.Transactions.{pending, pending_after}
use Rattle.im_history.proofs.Laws.{pending-push, given-push}

-- nothing that a session has pending is past what was given
record Below (h : History) : Type 0 where
  below : (who table rid : ℕ) → given h table ≤ rid → touches (pending h who) table rid ≡ false

Below-nil : Below []
unfolding pending replay
Below-nil = record { below = λ who table rid past. refl }

step-rises : (b : Bool) (n rid : ℕ) → n ≤ (if b then max n (rid + 1) else n)
step-rises true n rid = omega arith
step-rises false n rid = omega arith

-- the row numbers given only grow
given_by-rises : (table n : ℕ) (changes : List Change) → n ≤ given_by table n changes
given_by-rises table n [] = omega arith
given_by-rises table n (change ∷ changes) =
    omega (arith, step-rises (change.table == table) n change.rid, given_by-rises table (if change.table == table then max n (change.rid + 1) else n) changes)

not_to : (change : Change) (table rid n : ℕ) → (if change.table == table then max n (change.rid + 1) else n) ≤ rid → is_to table rid change ≡ false
not_to change table rid n past =
    ⊎_elim (λ (is : change.table ≡ table).
    let past_it : max n (change.rid + 1) ≤ rid = rw (eq-eqb change.table table is) at past in
    rw (eq-eqb change.table table is) (ne_eqb change.rid rid (λ (e : change.rid ≡ rid). omega (arith, past_it, e))))
    (λ (apart : change.table ≡ table → ⊥). rw (ne_eqb change.table table apart) refl)
    (cases_eq change.table table)

-- changes are to row numbers that they give
given_by-touches : (table rid n : ℕ) (changes : List Change) → given_by table n changes ≤ rid → touches changes table rid ≡ false
given_by-touches table rid n [] past = refl
given_by-touches table rid n (change ∷ changes) past =
    let next : ℕ = if change.table == table then max n (change.rid + 1) else n in
    let rises : next ≤ given_by table next changes = given_by-rises table next changes in
    let here : is_to table rid change ≡ false = not_to change table rid n (omega (arith, rises, past)) in
    rw here (given_by-touches table rid next changes past)

-- what is pending after one more entry is not past what is given then
after-entry : (what : What) (list : List Change) (table rid n : ℕ) → (n ≤ rid → touches list table rid ≡ false) → given_after table n what ≤ rid →
    touches (pending_after list what) table rid ≡ false
after-entry (Write changes) list table rid n below past =
    let rises = given_by-rises table n changes in
    list_any-append (is_to table rid) list changes ∙ rw (below (omega (arith, rises, past))) (given_by-touches table rid n changes past)
after-entry Commit list table rid n below past = refl
after-entry Rollback list table rid n below past = refl
after-entry _ list table rid n below past = below past

given-rises : (what : What) (table n : ℕ) → n ≤ given_after table n what
given-rises (Write changes) table n = given_by-rises table n changes
given-rises _ table n = omega arith

either : (b : Bool) (x y : List Change) (table rid : ℕ) → touches x table rid ≡ false → touches y table rid ≡ false →
    touches (if b then x else y) table rid ≡ false
either true x y table rid first second = first
either false x y table rid first second = second

Below-push : (h : History) (entry : Entry) → Below h → Below (h ++ entry ∷ [])
Below-push h entry below = record {
  below = λ who table rid past.
      let now : given_after table (given h table) entry.what ≤ rid = rw (given-push h entry table) at past in
      let rises : given h table ≤ given_after table (given h table) entry.what = given-rises entry.what table (given h table) in
      let was : touches (pending h who) table rid ≡ false = below.below who table rid (omega (arith, rises, now)) in
      let next : touches (pending_after (pending h who) entry.what) table rid ≡ false =
      after-entry entry.what (pending h who) table rid (given h table) (λ p. below.below who table rid p) now in
      ap (λ (l : List Change). touches l table rid) (pending-push h entry who)
      ∙ either (entry.who == who) (pending_after (pending h who) entry.what) (pending h who) table rid next was;
}

Below-from : (before rest : History) → Below before → Below (before ++ rest)
Below-from before [] below = rw append-nil below
Below-from before (entry ∷ rest) below =
    subst Below (append_assoc before (entry ∷ []) rest) (Below-from (before ++ entry ∷ []) rest (Below-push before entry below))

pub pending-below : (h : History) (who table rid : ℕ) → given h table ≤ rid → touches (pending h who) table rid ≡ false
pending-below h who table rid past = (Below-from [] h Below-nil).below who table rid past
