-- The committed rows, as a history goes on.
use Rattle.std.proofs.Common.{◌≡◌, ℕ, ◌+◌, ◌≤◌, ◌<◌, false, List, [], ◌∷◌, ◌++◌, length, take, Option, None, refl, sym, ap, ◌∙◌, ⊎_elim, arith, le_refl, append_assoc, append-nil}
use Rattle.std.specs.List.{fold, flat_map}
use Rattle.std.proofs.lemmas.Bool.{cases_lt, false≢true}
use Rattle.std.proofs.lemmas.Grind.{flat_map-append}
use Rattle.std.proofs.lemmas.List.{take_all, take-append-le, length_push}
use Rattle.std.proofs.lemmas.List.Sums.{fold-append}
use Rattle.im_history.specs.declared.change.Change.{Change}
use Rattle.im_history.specs.declared.entry.Entry.{Entry}
use Rattle.im_history.specs.declared.entry.What.{What}
use Rattle.im_history.specs.declared.entry.What.TheVariants.{Create, Add, Commit}
use Rattle.im_history.specs.Commits.{commits, committed_by, scn, moves_clock}
use Rattle.im_history.specs.History.{History}
use Rattle.im_history.specs.Rows.{Row, rows, row_after}
use Rattle.im_history.specs.Transactions.{pending}
use Rattle.im_history.proofs.Laws.{commits-push}

-- what is kept by each further entry holds of each longer history
pub each_longer : (P : History → Type 0) → ((h : History) (entry : Entry) → P h → P (h ++ entry ∷ [])) → (before h : History) → P before → P (before ++ h)
each_longer P step before [] holds = rw append-nil holds
each_longer P step before (entry ∷ h) holds =
    rw (append_assoc before (entry ∷ []) h) at (each_longer P step (before ++ entry ∷ []) h (step before entry holds))

-- what holds of the empty history and is kept by each further entry holds of each history
pub each_history : (P : History → Type 0) → P [] → ((h : History) (entry : Entry) → P h → P (h ++ entry ∷ [])) → (h : History) → P h
each_history P empty step h = each_longer P step [] h empty

-- the commits of a longer history are the old ones and then others
pub record GoesOn (h longer : History) : Type 0 where
  pub later : List (List Change)
  pub is : commits longer ≡ commits h ++ later

GoesOn-push : (h longer : History) (entry : Entry) → GoesOn h longer → GoesOn h (longer ++ entry ∷ [])
GoesOn-push h longer entry on = record {
  later = on.later ++ committed_by longer entry.who entry.what;
  is =
      commits-push longer entry
      ∙
      (ap (λ (l : List (List Change)). l ++ committed_by longer entry.who entry.what) on.is
      ∙ append_assoc (commits h) on.later (committed_by longer entry.who entry.what));
}

pub commits-append : (h k : History) → GoesOn h (h ++ k)
commits-append h k = each_longer (GoesOn h) (λ longer entry on. GoesOn-push h longer entry on) h k (record { later = []; is = sym (append-nil (commits h)) })

-- the row that a list of commits leaves after so many of them
abbrev row_after_commits : List (List Change) → ℕ → ℕ → ℕ → Option Row
row_after_commits list table n rid = fold (row_after table rid) None (flat_map (λ changes. changes) (take n list))

-- later entries change no row committed by now
pub rows-append : (h k : History) (table n rid : ℕ) → n ≤ scn h → rows (h ++ k) table n rid ≡ rows h table n rid
unfolding rows
rows-append h k table n rid within =
    let on = commits-append h k in
    ap (λ (list : List (List Change)). row_after_commits list table n rid) on.is
    ∙ ap (λ (list : List (List Change)). fold (row_after table rid) None (flat_map (λ changes. changes) list)) (take-append-le n (commits h) on.later within)

-- at an SCN above the present one the rows are those at the present one
pub rows_past : (h : History) (table n rid : ℕ) → scn h ≤ n → rows h table n rid ≡ rows h table (scn h) rid
unfolding rows
rows_past h table n rid past =
    ap (λ (list : List (List Change)). fold (row_after table rid) None (flat_map (λ changes. changes) list))
    (take_all n (commits h) past ∙ sym (take_all (scn h) (commits h) (le_refl _)))

committed_by_quiet : (h : History) (who : ℕ) (what : What) → moves_clock what ≡ false → committed_by h who what ≡ []
committed_by_quiet h who Commit quiet = absurd (false≢true (sym quiet))
committed_by_quiet h who (Create name schema grid) quiet = absurd (false≢true (sym quiet))
committed_by_quiet h who (Add table column default) quiet = absurd (false≢true (sym quiet))
committed_by_quiet h who _ quiet = refl

pub commits-push_quiet : (h : History) (entry : Entry) → moves_clock entry.what ≡ false → commits (h ++ entry ∷ []) ≡ commits h
commits-push_quiet h entry quiet =
    commits-push h entry ∙ (ap (λ (l : List (List Change)). commits h ++ l) (committed_by_quiet h entry.who entry.what quiet) ∙ append-nil (commits h))

-- an entry that commits nothing changes no committed row
pub rows-push_quiet : (h : History) (entry : Entry) (table n rid : ℕ) → moves_clock entry.what ≡ false → rows (h ++ entry ∷ []) table n rid ≡ rows h table n rid
unfolding rows
rows-push_quiet h entry table n rid quiet = ap (λ (list : List (List Change)). row_after_commits list table n rid) (commits-push_quiet h entry quiet)

-- the row after all commits and one more
row_after-push : (list : List (List Change)) (changes : List Change) (table n rid : ℕ) → length list < n
    → row_after_commits (list ++ changes ∷ []) table n rid ≡ fold (row_after table rid) (fold (row_after table rid) None (flat_map (λ c. c) list)) changes
row_after-push list changes table n rid past =
    let long : length (list ++ changes ∷ []) ≡ length list + 1 = length_push list changes in
    ap (λ (l : List (List Change)). fold (row_after table rid) None (flat_map (λ c. c) l)) (take_all n (list ++ changes ∷ []) (omega arith))
    ∙ (ap (fold (row_after table rid) None) (flat_map-append (λ (c : List Change). c) list (changes ∷ []))
    ∙ (fold-append (row_after table rid) None (flat_map (λ c. c) list) (changes ++ [])
    ∙ ap (fold (row_after table rid) (fold (row_after table rid) None (flat_map (λ c. c) list))) (append-nil changes)))

-- an entry that commits no change changes no committed row
pub rows-push_empty : (h : History) (entry : Entry) (table n rid : ℕ) → committed_by h entry.who entry.what ≡ [] ∷ []
    → rows (h ++ entry ∷ []) table n rid ≡ rows h table n rid
unfolding rows
rows-push_empty h entry table n rid empty =
    ap (λ (list : List (List Change)). row_after_commits list table n rid) (commits-push h entry)
    ∙ (ap (λ (more : List (List Change)). row_after_commits (commits h ++ more) table n rid) empty
    ∙ ⊎_elim
    (λ (past : scn h < n). row_after-push (commits h) [] table n rid past
    ∙ ap (λ (list : List (List Change)). fold (row_after table rid) None (flat_map (λ c. c) list)) (sym (take_all n (commits h) (omega arith))))
    (λ (within : n ≤ scn h). ap (λ (list : List (List Change)). fold (row_after table rid) None (flat_map (λ c. c) list))
    (take-append-le n (commits h) ([] ∷ []) within))
    (cases_lt (scn h) n))

-- after a commit the rows at its SCN, and above it, are those before it, changed by what its session had pending
pub rows-push_commit : (h : History) (who table n rid : ℕ) → scn h < n
    → rows (h ++ record { who = who; what = Commit } ∷ []) table n rid ≡ fold (row_after table rid) (rows h table (scn h) rid) (pending h who)
unfolding rows
rows-push_commit h who table n rid past =
    ap (λ (list : List (List Change)). row_after_commits list table n rid) (commits-push h (record { who = who; what = Commit }))
    ∙ (row_after-push (commits h) (pending h who) table n rid past
    ∙ ap (λ (list : List (List Change)). fold (row_after table rid) (fold (row_after table rid) None (flat_map (λ c. c) list)) (pending h who))
    (sym (take_all (scn h) (commits h) (le_refl _))))
