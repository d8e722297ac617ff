-- The versions of a row against the changes that made them.
use Rattle.std.proofs.Common.{◌≡◌, ℕ, suc, ◌+◌, ◌-◌, ◌<◌, ◌≤◌, Bool, true, false, ◌||◌, ◌==◌, ◌⊎◌, inl, inr, List, [], ◌∷◌, ◌++◌, length, take, reverse, nat_le, Option, Some, None, is_some, if◌then◌else◌, refl, sym, ap, ◌∙◌, ⊎_elim, arith, le-leb, append_assoc, append-nil}
use Rattle.std.specs.List.{fold, flat_map, find}
use Rattle.std.specs.Prelude.{slice_get}
use Rattle.std.specs.Option.{option_map, option_or, option_to_list, unwrap_or}
use Rattle.std.proofs.Math.Seq.{take-nil}
use Rattle.std.proofs.lemmas.Bool.{cases_eq, cases_lt, eq-eqb, lt-leb, ne_eqb, true≢false}
use Rattle.std.proofs.lemmas.Grind.{flat_map-append}
use Rattle.std.proofs.lemmas.List.{reverse-append}
use Rattle.std.proofs.lemmas.List.Folds.{find-append}
use Rattle.std.proofs.lemmas.List.Sums.{fold-append}
use Rattle.std.proofs.lemmas.Option.{slice_get-get_or}
use Rattle.im_versions.specs.declared.version.Version.{Version}
use Rattle.im_versions.specs.Versions.{latest, row_at}
use Rattle.im_versions.proofs.ForCallers.{row_at-push, latest-push}
use Rattle.im_history.specs.declared.change.Change.{Change}
use Rattle.im_history.specs.Rows.{Row, row_after}
use Rattle.im_history.specs.Touched.{is_to, touches}
use Rattle.im_history.specs.Puts.{put_from}
use Rattle.im_blocks.specs.declared.ready.Ready.{Ready}
use Rattle.im_blocks.specs.Chains.{newest_scn}
use Rattle.im_blocks.specs.Readied.{changes_of, ready_changes}
use Rattle.im_blocks.specs.Runs.{in_rows, is_in}
use Rattle.im_blocks.proofs.RunLemmas.{in_rows-below, in_rows-from, in_rows-next, not_in_none}
use Rattle.im_blocks.specs.VersionsOf.{last_change, version_by, versions_from}

-- a change, where it is to the row
abbrev pub where_to : ℕ → ℕ → Change → Option Change
where_to table rid change = if is_to table rid change then Some change else None

-- the last change is that of the later ones, or else the first
pub last_change-cons : (change : Change) (changes : List Change) (table rid : ℕ) →
    last_change (change ∷ changes) table rid ≡ option_or (last_change changes table rid) (where_to table rid change)
last_change-cons change changes table rid =
    ap (find (is_to table rid)) (reverse-append (change ∷ []) changes) ∙ find-append (is_to table rid) (reverse changes) (change ∷ [])

-- the row that a change leaves, or one that stood before
abbrev pub left_by : Option Row → Option Change → Option Row
left_by before change = unwrap_or (option_map (λ (c : Change). c.row) change) before

left_by-or : (before : Option Row) (later : Option Change) (b : Bool) (change : Change) →
    left_by (if b then change.row else before) later ≡ left_by before (option_or later (if b then Some change else None))
left_by-or before None true change = refl
left_by-or before None false change = refl
left_by-or before (Some later) b change = refl

-- the row that changes leave is that of the last of them to the row
pub fold_last : (before : Option Row) (changes : List Change) (table rid : ℕ) →
    fold (row_after table rid) before changes ≡ left_by before (last_change changes table rid)
fold_last before [] table rid = refl
fold_last before (change ∷ changes) table rid =
    fold_last (row_after table rid before change) changes table rid
    ∙ (left_by-or before (last_change changes table rid) (is_to table rid change) change
    ∙ ap (left_by before) (sym (last_change-cons change changes table rid)))

any_or : (later : Option Change) (b : Bool) (change : Change) → (b || is_some later) ≡ is_some (option_or later (if b then Some change else None))
any_or None true change = refl
any_or None false change = refl
any_or (Some later) true change = refl
any_or (Some later) false change = refl

-- changes touch a row where there is a last one to it
pub touches_last : (changes : List Change) (table rid : ℕ) → touches changes table rid ≡ is_some (last_change changes table rid)
touches_last [] table rid = refl
touches_last (change ∷ changes) table rid =
    ap (λ (b : Bool). is_to table rid change || b) (touches_last changes table rid)
    ∙ (any_or (last_change changes table rid) (is_to table rid change) change
    ∙ ap is_some (sym (last_change-cons change changes table rid)))

-- the version of a change that was found
abbrev pub version_of : ℕ → Option Change → List Version
version_of scn change = option_to_list (option_map (λ (c : Change). record { scn = scn; row = c.row }) change)

same_either : {X : Type 0} (b : Bool) (x : X) → x ≡ (if b then x else x)
same_either true x = refl
same_either false x = refl

row_at-version_of : (versions : List Version) (scn n : ℕ) (change : Option Change) →
    row_at (versions ++ version_of scn change) n ≡ (if nat_le scn n then left_by (row_at versions n) change else row_at versions n)
row_at-version_of versions scn n None = rw (append-nil versions) (same_either (nat_le scn n) (row_at versions n))
row_at-version_of versions scn n (Some change) = row_at-push versions (record { scn = scn; row = change.row }) n

-- a commit's version changes the row from its SCN on
pub row_at-version_by : (versions : List Version) (scn n : ℕ) (changes : List Change) (table rid : ℕ) →
    row_at (versions ++ version_by scn changes table rid) n ≡
    (if nat_le scn n then fold (row_after table rid) (row_at versions n) changes else row_at versions n)
row_at-version_by versions scn n changes table rid =
    row_at-version_of versions scn n (last_change changes table rid)
    ∙ ap (λ (row : Option Row). if nat_le scn n then row else row_at versions n) (sym (fold_last (row_at versions n) changes table rid))

-- what a list of commits leaves of a row that stood before
abbrev left_by_all : Option Row → List (List Change) → ℕ → ℕ → Option Row
left_by_all before commits table rid = fold (row_after table rid) before (flat_map (λ changes. changes) commits)

-- the versions of further commits change the row as their changes do
pub row_at-versions_from : (versions : List Version) (scn n : ℕ) (commits : List (List Change)) (table rid : ℕ) →
    row_at (versions ++ versions_from scn commits table rid) n ≡ fold (row_after table rid) (row_at versions n)
    (flat_map (λ changes. changes) (take (n + 1 - scn) commits))
row_at-versions_from versions scn n [] table rid =
    ap (λ (v : List Version). row_at v n) (append-nil versions)
    ∙ ap (λ (l : List (List Change)). left_by_all (row_at versions n) l table rid) (sym (take-nil (n + 1 - scn)))
row_at-versions_from versions scn n (changes ∷ later) table rid =
    let with_this : List Version = versions ++ version_by scn changes table rid in
    ap (λ (v : List Version). row_at v n) (sym (append_assoc versions (version_by scn changes table rid) (versions_from (scn + 1) later table rid)))
    ∙ (row_at-versions_from with_this (scn + 1) n later table rid
    ∙ ⊎_elim
    (λ (below : n < scn).
    let none_later : n + 1 - (scn + 1) ≡ 0 = omega arith in
    let none : n + 1 - scn ≡ 0 = omega arith in
    ap (λ (k : ℕ). left_by_all (row_at with_this n) (take k later) table rid) none_later
    ∙ (row_at-version_by versions scn n changes table rid
    ∙ (ap (λ (b : Bool). if b then fold (row_after table rid) (row_at versions n) changes else row_at versions n) (lt-leb scn n below)
    ∙ ap (λ (k : ℕ). left_by_all (row_at versions n) (take k (changes ∷ later)) table rid) (sym none))))
    (λ (from : scn ≤ n).
    let one_more : n + 1 - scn ≡ suc (n + 1 - (scn + 1)) = omega arith in
    ap (λ (row : Option Row). left_by_all row (take (n + 1 - (scn + 1)) later) table rid)
    (row_at-version_by versions scn n changes table rid ∙ ap (λ (b : Bool). if b then fold (row_after table rid)
    (row_at versions n) changes else row_at versions n) (le-leb scn n from))
    ∙ (sym (fold-append (row_after table rid) (row_at versions n) changes (flat_map (λ c. c) (take (n + 1 - (scn + 1)) later)))
    ∙ ap (λ (k : ℕ). left_by_all (row_at versions n) (take k (changes ∷ later)) table rid) (sym one_more)))
    (cases_lt n scn))

-- further commits give further versions
pub versions_from-append : (scn : ℕ) (commits later : List (List Change)) (table rid : ℕ) →
    versions_from scn (commits ++ later) table rid ≡ versions_from scn commits table rid ++ versions_from (scn + length commits) later table rid
versions_from-append scn [] later table rid =
    let same : scn ≡ scn + 0 = omega arith in
    ap (λ (k : ℕ). versions_from k later table rid) same
versions_from-append scn (changes ∷ commits) later table rid =
    let same : scn + 1 + length commits ≡ scn + suc (length commits) = omega arith in
    ap (λ (v : List Version). version_by scn changes table rid ++ v) (versions_from-append (scn + 1) commits later table rid
    ∙ ap (λ (k : ℕ). versions_from (scn + 1) commits table rid ++ versions_from k later table rid) same)
    ∙ sym (append_assoc (version_by scn changes table rid) (versions_from (scn + 1) commits table rid)
    (versions_from (scn + suc (length commits)) later table rid))

pub newest_scn-version_of : (versions : List Version) (scn : ℕ) (change : Option Change) →
    newest_scn (versions ++ version_of scn change) ≡ (if is_some change then scn else newest_scn versions)
newest_scn-version_of versions scn None = ap newest_scn (append-nil versions)
newest_scn-version_of versions scn (Some change) = ap (λ (last : Option ℕ). unwrap_or last 0) (latest-push versions (record { scn = scn; row = change.row }))

-- the newest version is the commit's, where its changes touch the row
pub newest_scn-version_by : (versions : List Version) (scn : ℕ) (changes : List Change) (table rid : ℕ) →
    newest_scn (versions ++ version_by scn changes table rid) ≡ (if touches changes table rid then scn else newest_scn versions)
newest_scn-version_by versions scn changes table rid =
    newest_scn-version_of versions scn (last_change changes table rid)
    ∙ ap (λ (b : Bool). if b then scn else newest_scn versions) (sym (touches_last changes table rid))

-- ---- changes that are ready

pub ready_changes-push : (ready : List Ready) (one : Ready) → ready_changes (ready ++ one ∷ []) ≡ ready_changes ready ++ changes_of one
ready_changes-push ready one =
    flat_map-append changes_of ready (one ∷ []) ∙ ap (λ (last : List Change). ready_changes ready ++ last) (append-nil (changes_of one))

-- the last change to a row is one of the later ones, or else of the first
pub last_change-append : (first later : List Change) (table rid : ℕ) →
    last_change (first ++ later) table rid ≡ option_or (last_change later table rid) (last_change first table rid)
last_change-append first later table rid =
    ap (find (is_to table rid)) (reverse-append first later) ∙ find-append (is_to table rid) (reverse later) (reverse first)

pub or_none : (o : Option Change) → option_or o None ≡ o
or_none None = refl
or_none (Some x) = refl

at_or_past : (first r : ℕ) → first ≤ r → (r ≡ first) ⊎ (first < r)
at_or_past first r from =
    ⊎_elim (λ (is : r ≡ first). inl is) (λ (no : r ≡ first → ⊥). inr (omega (arith, from, no))) (cases_eq r first)

either_table : (table t : ℕ) → (table ≡ t → ⊥) ⊎ (table ≡ t)
either_table table t = ⊎_elim (λ (is : table ≡ t). inr is) (λ (no : table ≡ t → ⊥). inl no) (cases_eq table t)

-- the change that puts the row of a row number
abbrev pub put_of : ℕ → ℕ → List Row → ℕ → Change
put_of table first rows rid = record { table = table; rid = rid; row = slice_get rows (rid - first) }

abbrev put_where : ℕ → ℕ → List Row → ℕ → ℕ → Option Change
put_where table first rows t r = if is_in table first (length rows) t r then Some (put_of table first rows r) else None

none_either : (b : Bool) (o : Option Change) → b ≡ false → (if b then o else None) ≡ None
none_either false o is = refl
none_either true o is = absurd (true≢false is)

some_either : (b : Bool) (o : Option Change) → b ≡ true → (if b then o else None) ≡ o
some_either true o is = refl
some_either false o is = absurd (true≢false (sym is))

-- of rows that are put at row numbers in a row each row number has its own
pub last_change-put_from : (table first : ℕ) (rows : List Row) (t r : ℕ) → last_change (put_from table first rows) t r ≡ put_where table first rows t r
last_change-put_from table first [] t r =
    let none : is_in table first 0 t r ≡ false = not_in_none table first t r in
    sym (none_either (is_in table first 0 t r) (Some (put_of table first [] r)) none)
last_change-put_from table first (row ∷ rows) t r =
    let change : Change = record { table = table; rid = first; row = Some row } in
    last_change-cons change (put_from table (first + 1) rows) t r
    ∙ (ap (λ (o : Option Change). option_or o (where_to t r change)) (last_change-put_from table (first + 1) rows t r)
    ∙ ⊎_elim
    (λ (other : table ≡ t → ⊥). elsewhere (ne_eqb table t other))
    (λ (same : (table ≡ t)). ⊎_elim
    (λ (below : r < first). before same below)
    (λ (from : first ≤ r). ⊎_elim (λ (is : r ≡ first). here same is) (λ (later : first < r). behind same later) (at_or_past first r from))
    (cases_lt r first))
    (either_table table t))
  where
    n : ℕ
    n = length rows

    elsewhere : (table == t) ≡ false →
        option_or (put_where table (first + 1) rows t r) (where_to t r (record { table = table; rid = first; row = Some row })) ≡ put_where table first (row ∷ rows) t r
    elsewhere off = rw off refl

    before : table ≡ t → r < first →
        option_or (put_where table (first + 1) rows t r) (where_to t r (record { table = table; rid = first; row = Some row })) ≡ put_where table first (row ∷ rows) t r
    before same below =
        let one : in_rows (first + 1) n r ≡ false = in_rows-below (first + 1) n r (omega (arith, below)) in
        let two : in_rows first (suc n) r ≡ false = in_rows-below first (suc n) r below in
        let three : (first == r) ≡ false = ne_eqb first r (λ e. omega (arith, e, below)) in
        let four : (table == t) ≡ true = eq-eqb table t same in
        rw (four, one, two, three) refl

    here : table ≡ t → r ≡ first →
        option_or (put_where table (first + 1) rows t r) (where_to t r (record { table = table; rid = first; row = Some row })) ≡ put_where table first (row ∷ rows) t r
    here same is =
        let one : in_rows (first + 1) n r ≡ false = in_rows-below (first + 1) n r (omega (arith, is)) in
        let two : in_rows first (suc n) r ≡ true = in_rows-from first (suc n) r (omega (arith, is)) (omega (arith, is)) in
        let three : (first == r) ≡ true = eq-eqb first r (sym is) in
        let four : (table == t) ≡ true = eq-eqb table t same in
        let none : r - first ≡ 0 = omega (arith, is) in
        rw (four, one, two, three, none) (ap (λ (k : ℕ). Some (record { table = table; rid = k; row = Some row })) (sym is))

    behind : table ≡ t → first < r →
        option_or (put_where table (first + 1) rows t r) (where_to t r (record { table = table; rid = first; row = Some row })) ≡ put_where table first (row ∷ rows) t r
    behind same later =
        let same_test : in_rows (first + 1) n r ≡ in_rows first (suc n) r = in_rows-next first n r later in
        let three : (first == r) ≡ false = ne_eqb first r (λ e. omega (arith, e, later)) in
        let four : (table == t) ≡ true = eq-eqb table t same in
        let next : r - first ≡ suc (r - (first + 1)) = omega (arith, later) in
        let row_is : slice_get rows (r - (first + 1)) ≡ slice_get (row ∷ rows) (r - first) = sym (ap (slice_get (row ∷ rows)) next) in
        rw (four, three)
        (or_none (if in_rows (first + 1) n r then Some (put_of table (first + 1) rows r) else None)
        ∙ (ap (λ (b : Bool). if b then Some (put_of table (first + 1) rows r) else None) same_test
        ∙ ap (λ (x : Option Row). if in_rows first (suc n) r then Some (record { table = table; rid = r; row = x }) else None) row_is))

-- where there is no newest version there is none
pub none_latest : (versions : List Version) → latest versions ≡ None → versions ≡ []
none_latest [] none = refl
none_latest (version ∷ versions) none =
    let last = slice_get-get_or (version ∷ versions) (length (version ∷ versions) - 1) version (omega arith) in
    absurd (true≢false (ap (λ (o : Option Version). is_some (option_map (λ (v : Version). v.scn) o)) (sym last) ∙ ap is_some none))
