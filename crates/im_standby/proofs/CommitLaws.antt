-- The versions that commits left of a row, and the row at the last one's SCN.
use Rattle.std.proofs.Common.{◌≡◌, ℕ, suc, ◌+◌, ◌≤◌, Bool, true, false, List, [], ◌∷◌, ◌++◌, length, reverse, Option, Some, None, if◌then◌else◌, refl, sym, ap, ◌∙◌, arith, le-leb, append_assoc, append-nil}
use Rattle.std.specs.List.{fold, flat_map, find}
use Rattle.std.specs.Option.{option_map, option_or, option_to_list, unwrap_or}
use Rattle.std.proofs.lemmas.List.{reverse-append}
use Rattle.std.proofs.lemmas.List.Folds.{find-append}
use Rattle.std.proofs.lemmas.List.Sums.{fold-append}
use Rattle.im_versions.specs.declared.version.Version.{Version}
use Rattle.im_versions.specs.Versions.{row_at}
use Rattle.im_versions.proofs.ForCallers.{row_at-push}
use Rattle.im_history.specs.declared.change.Change.{Change}
use Rattle.im_history.specs.Rows.{Row, row_after}
use Rattle.im_history.specs.Touched.{is_to}
use Rattle.im_blocks.specs.VersionsOf.{last_change, version_by, versions_from}

-- ---- the row that changes leave is that of the last of them to it

abbrev left_by : Option Row → Option Change → Option Row
left_by before change = unwrap_or (option_map (λ (c : Change). c.row) change) before

last_change-cons : (change : Change) (changes : List Change) (table rid : ℕ) →
    last_change (change ∷ changes) table rid ≡ option_or (last_change changes table rid) (if is_to table rid change then Some change else None)
last_change-cons change changes table rid =
    ap (find (is_to table rid)) (reverse-append (change ∷ []) changes) ∙ find-append (is_to table rid) (reverse changes) (change ∷ [])

left_by-or : (before : Option Row) (later : Option Change) (b : Bool) (change : Change) →
    left_by (if b then change.row else before) later ≡ left_by before (option_or later (if b then Some change else None))
left_by-or before None true change = refl
left_by-or before None false change = refl
left_by-or before (Some later) b change = refl

fold_last : (before : Option Row) (changes : List Change) (table rid : ℕ) →
    fold (row_after table rid) before changes ≡ left_by before (last_change changes table rid)
fold_last before [] table rid = refl
fold_last before (change ∷ changes) table rid =
    fold_last (row_after table rid before change) changes table rid
    ∙ (left_by-or before (last_change changes table rid) (is_to table rid change) change
    ∙ ap (left_by before) (sym (last_change-cons change changes table rid)))

-- ---- the row at an SCN that is reached

-- with the version that a change left
row_with : (versions : List Version) (scn n : ℕ) (change : Option Change) → scn ≤ n →
    row_at (versions ++ option_to_list (option_map (λ (c : Change). record { scn = scn; row = c.row }) change)) n ≡ left_by (row_at versions n) change
row_with versions scn n None reached = ap (λ (v : List Version). row_at v n) (append-nil versions)
row_with versions scn n (Some change) reached =
    row_at-push versions (record { scn = scn; row = change.row }) n
    ∙ ap (λ (b : Bool). if b then change.row else row_at versions n) (le-leb scn n reached)

-- with those that further commits left
row_from : (versions : List Version) (scn n : ℕ) (made : List (List Change)) (table rid : ℕ) → scn + length made ≤ n + 1 →
    row_at (versions ++ versions_from scn made table rid) n ≡ fold (row_after table rid) (row_at versions n) (flat_map (λ changes. changes) made)
row_from versions scn n [] table rid reached = ap (λ (v : List Version). row_at v n) (append-nil versions)
row_from versions scn n (changes ∷ later) table rid reached =
    let this = version_by scn changes table rid in
    let here : row_at (versions ++ this) n ≡ fold (row_after table rid) (row_at versions n) changes =
    row_with versions scn n (last_change changes table rid) (omega (arith, reached)) ∙ sym (fold_last (row_at versions n) changes table rid) in
    ap (λ (v : List Version). row_at v n) (sym (append_assoc versions this (versions_from (scn + 1) later table rid)))
    ∙ (row_from (versions ++ this) (scn + 1) n later table rid (omega (arith, reached))
    ∙ (ap (λ (row : Option Row). fold (row_after table rid) row (flat_map (λ c. c) later)) here
    ∙ sym (fold-append (row_after table rid) (row_at versions n) changes (flat_map (λ c. c) later))))

-- the row at the last one's SCN is the one that they all left
pub row_at-made : (made : List (List Change)) (table rid : ℕ) →
    row_at (versions_from 1 made table rid) (length made) ≡ fold (row_after table rid) None (flat_map (λ changes. changes) made)
row_at-made made table rid = row_from [] 1 (length made) made table rid (omega arith)

-- ---- one more commit

push_from : (scn : ℕ) (made : List (List Change)) (changes : List Change) (table rid : ℕ) →
    versions_from scn (made ++ changes ∷ []) table rid ≡ versions_from scn made table rid ++ version_by (scn + length made) changes table rid
push_from scn [] changes table rid =
    let same : scn ≡ scn + 0 = omega arith in
    append-nil (version_by scn changes table rid) ∙ ap (λ (k : ℕ). version_by k changes table rid) same
push_from scn (first ∷ made) changes table rid =
    let same : scn + 1 + length made ≡ scn + suc (length made) = omega arith in
    let this = version_by scn first table rid in
    ap (λ (v : List Version). this ++ v) (push_from (scn + 1) made changes table rid)
    ∙ (sym (append_assoc this (versions_from (scn + 1) made table rid) (version_by (scn + 1 + length made) changes table rid))
    ∙ ap (λ (k : ℕ). (this ++ versions_from (scn + 1) made table rid) ++ version_by k changes table rid) same)

-- behind those that were made, the first of which has the SCN 1
pub versions_from-push : (made : List (List Change)) (changes : List Change) (table rid : ℕ) →
    versions_from 1 (made ++ changes ∷ []) table rid ≡ versions_from 1 made table rid ++ version_by (length made + 1) changes table rid
versions_from-push made changes table rid =
    let next : 1 + length made ≡ length made + 1 = omega arith in
    push_from 1 made changes table rid ∙ ap (λ (k : ℕ). versions_from 1 made table rid ++ version_by k changes table rid) next
