-- Where open transactions began, one entry on.
use Rattle.std.proofs.Common.{◌≡◌, ◌≢◌, ℕ, ◌+◌, ◌<◌, ◌≤◌, ◌==◌, Bool, true, false, if◌then◌else◌, List, [], ◌∷◌, ◌++◌, length, get_or, set, Option, Some, None, refl, sym, ap, ◌∙◌, subst, arith}
use Rattle.std.proofs.lemmas.Bool.Decides.{nat_tests}
use Rattle.std.proofs.lemmas.List.{length_push, get_or-set_same, get_or-set_other, length-set, take-append-le, take_all}
use Rattle.im_values.specs.declared.limits.TheConstants.{NUMBERS}
use Rattle.im_history.specs.declared.change.Change.{Change}
use Rattle.im_history.specs.declared.entry.Entry.{Entry}
use Rattle.im_history.specs.declared.entry.What.{What}
use Rattle.im_history.specs.declared.entry.What.TheVariants.{Begin, Write}
use Rattle.im_history.specs.Commits.{scn}
use Rattle.im_history.specs.History.{History}
use Rattle.im_history.specs.Rows.{scn_at}
use Rattle.im_history.specs.Transactions.{begun, begun_after}
use Rattle.im_history.proofs.Laws.{begun-push}
use Rattle.im_core.specs.inner.Kept.{Began, beginning_at, beginning_by}

-- the SCN at an earlier place is not changed by what comes
pub scn_at-push : (h : History) (entry : Entry) (place : ℕ) → place ≤ length h → scn_at (h ++ entry ∷ []) place ≡ scn_at h place
scn_at-push h entry place earlier = ap scn (take-append-le place h (entry ∷ []) earlier)

scn_at-end : (h : History) (entry : Entry) → scn_at (h ++ entry ∷ []) (length h) ≡ scn h
scn_at-end h entry = scn_at-push h entry (length h) (omega arith) ∙ ap scn (take_all (length h) h (omega arith))

-- how an entry leaves the beginning of its own session's transaction
pub data Leaves (h : History) (entry : Entry) : Type 0 where
  as_it_was : begun_after (length h) (begun h entry.who) entry.what ≡ begun h entry.who → Leaves h entry
  ended : begun_after (length h) (begun h entry.who) entry.what ≡ None → Leaves h entry

-- an entry that begins no transaction
pub Began-kept : (h : History) (entry : Entry) (beginnings : List ℕ) → Leaves h entry → Began h beginnings → Began (h ++ entry ∷ []) beginnings
Began-kept h entry beginnings leaves b = record {
  numbers = b.numbers;
  earlier = λ who place e. let early = b.earlier who place (was who place leaves e) in let long = length_push h entry in omega arith;
  at = λ who place e. let was_so = was who place leaves e in b.at who place was_so ∙ sym (scn_at-push h entry place (b.earlier who place was_so));
}
  where
    by : (who place : ℕ) (same : Bool) → (entry.who == who) ≡ same → Leaves h entry
        → (if same then begun_after (length h) (begun h who) entry.what else begun h who) ≡ Some place → begun h who ≡ Some place
    by who place false e leaves is = is
    by who place true e (as_it_was left) is =
        let one : entry.who ≡ who = grind (arith, nat_tests) in
        sym (subst (λ (w : ℕ). begun_after (length h) (begun h w) entry.what ≡ begun h w) one left) ∙ is
    by who place true e (ended left) is =
        let one : entry.who ≡ who = grind (arith, nat_tests) in
        absurd (no (sym (subst (λ (w : ℕ). begun_after (length h) (begun h w) entry.what ≡ None) one left) ∙ is))
      where
        no : None ≡ Some place → ⊥
        no e = cc

    was : (who place : ℕ) → Leaves h entry → begun (h ++ entry ∷ []) who ≡ Some place → begun h who ≡ Some place
    was who place leaves e = by who place (entry.who == who) refl leaves (sym (begun-push h entry who) ∙ e)

-- an entry that begins a transaction: it begins at the present SCN
pub Began-begun : (h : History) (entry : Entry) (beginnings : List ℕ) → entry.who < NUMBERS → begun h entry.who ≡ None → Began h beginnings
    → Began (h ++ entry ∷ []) (set beginnings entry.who (scn h))
Began-begun h entry beginnings known none b = record {
  numbers = length-set beginnings entry.who (scn h) ∙ b.numbers;
  earlier = λ who place e. (both who place (entry.who == who) refl (sym (begun-push h entry who) ∙ e)).0;
  at = λ who place e. (both who place (entry.who == who) refl (sym (begun-push h entry who) ∙ e)).1;
}
  where
    Both : ℕ → ℕ → Type 0
    Both who place = (place ≤ length (h ++ entry ∷ [])) × (get_or (set beginnings entry.who (scn h)) who 0 ≡ scn_at (h ++ entry ∷ []) place)

    long : length (h ++ entry ∷ []) ≡ length h + 1
    long = length_push h entry

    here : (what : What) (place : ℕ) → begun_after (length h) None what ≡ Some place → place ≡ length h
    here (Begin mode) place e = cc
    here (Write changes) place e = cc
    here _ place e = cc

    both : (who place : ℕ) (same : Bool) → (entry.who == who) ≡ same
        → (if same then begun_after (length h) (begun h who) entry.what else begun h who) ≡ Some place → Both who place
    both who place false e is =
        let other : who ≢ entry.who = grind (arith, nat_tests) in
        let early = b.earlier who place is in
        (omega (arith, long), get_or-set_other beginnings entry.who who (scn h) 0 other ∙ (b.at who place is ∙ sym (scn_at-push h entry place early)))
    both who place true e is =
        let one : who ≡ entry.who = grind (arith, nat_tests) in
        let began : begun_after (length h) None entry.what ≡ Some place = rw (one, none) at is in
        let at : place ≡ length h = here entry.what place began in
        let set_here : get_or (set beginnings entry.who (scn h)) entry.who 0 ≡ scn h =
        get_or-set_same beginnings entry.who (scn h) 0 (omega (arith, known, b.numbers)) in
        (omega (arith, long), rw (one, at) (set_here ∙ sym (scn_at-end h entry)))

-- a write begins a transaction, or goes on with one
pub Began-set : (h : History) (who : ℕ) (changes : List Change) (beginnings : List ℕ) → who < NUMBERS → Began h beginnings
    → Began (h ++ record { who = who; what = Write changes } ∷ []) (set beginnings who (beginning_at h who))
Began-set h who changes beginnings known b = by (begun h who) refl
  where
    entry : Entry
    entry = record { who = who; what = Write changes }

    get_same : (value other : ℕ) → get_or beginnings who 0 ≡ value → get_or (set beginnings who value) other 0 ≡ get_or beginnings other 0
    get_same value other is = cases (other == who) refl
      where
        cases : (same : Bool) → (other == who) ≡ same → get_or (set beginnings who value) other 0 ≡ get_or beginnings other 0
        cases true e =
            let one : other ≡ who = grind (arith, nat_tests) in rw one (get_or-set_same beginnings who value 0 (omega (arith, known, b.numbers)) ∙ sym is)
        cases false e = let no : other ≢ who = grind (arith, nat_tests) in get_or-set_other beginnings who other value 0 no

    by : (o : Option ℕ) → begun h who ≡ o → Began (h ++ entry ∷ []) (set beginnings who (beginning_by h o))
    by None e = Began-begun h entry beginnings known e b
    by (Some place) e =
        let kept = Began-kept h entry beginnings (as_it_was (rw e refl)) b in
        let same = b.at who place e in
        record {
          numbers = length-set beginnings who (scn_at h place) ∙ b.numbers;
          earlier = kept.earlier;
          at = λ other p is. get_same (scn_at h place) other same ∙ kept.at other p is;
        }
