-- The versions that a history gave a row: they rise, and how many a floor leaves.
use Rattle.std.proofs.Common.{◌≡◌, ℕ, suc, ◌+◌, ◌-◌, ◌<◌, ◌≤◌, ◌⊎◌, inl, inr, Bool, true, false, List, [], ◌∷◌, ◌++◌, All, drop, is_some, length, nat_lt, Option, Some, None, if◌then◌else◌, refl, sym, ap, ◌∙◌, ⊎_elim, arith}
use Rattle.std.specs.Option.{option_and_then, option_map, unwrap_or}
use Rattle.std.proofs.lemmas.Bool.{cases_lt, le-ltb, lt-ltb}
use Rattle.std.proofs.lemmas.List.{drop_all, length-append}
use Rattle.std.proofs.lemmas.List.Elements.{All-append, All-cons, All-head, All-nil, All-tail, filter-append}
use Rattle.std.proofs.lemmas.List.Sums.{sum_by-cons}
use Rattle.im_versions.specs.declared.version.Version.{Version}
use Rattle.im_versions.specs.Versions.{IsRising, cut, latest, newest, row_at, versions_above, versions_to, with_row}
use Rattle.im_versions.proofs.ForCallers.{IsGone, IsRising-cons, newest-cut}
use Rattle.im_history.specs.declared.change.Change.{Change}
use Rattle.im_history.specs.Horizon.{touching}
use Rattle.im_history.specs.Touched.{touches}
use Rattle.im_blocks.specs.Chains.{newest_scn}
use Rattle.im_blocks.specs.VersionsOf.{last_change, version_by, versions_from}
use Rattle.im_blocks.proofs.VersionLemmas.{touches_last, version_of}

-- ---- versions of commits

-- all of these are above an SCN
abbrev pub AreAbove : ℕ → List Version → Type 0
AreAbove scn versions = All (λ version. scn < version.scn) versions

-- what a commit left is of its SCN
above-of : (floor scn : ℕ) (change : Option Change) → floor < scn → AreAbove floor (version_of scn change)
above-of floor scn None above = All-nil (λ (v : Version). floor < v.scn)
above-of floor scn (Some change) above =
    All-cons (λ (v : Version). floor < v.scn) (record { scn = scn; row = change.row }) [] above (All-nil (λ (v : Version). floor < v.scn))

pub above-by : (floor scn : ℕ) (changes : List Change) (table rid : ℕ) → floor < scn → AreAbove floor (version_by scn changes table rid)
above-by floor scn changes table rid above = above-of floor scn (last_change changes table rid) above

-- and later commits left later ones
pub above-from : (floor scn : ℕ) (commits : List (List Change)) (table rid : ℕ) → floor < scn → AreAbove floor (versions_from scn commits table rid)
above-from floor scn [] table rid above = All-nil (λ (v : Version). floor < v.scn)
above-from floor scn (changes ∷ later) table rid above =
    All-append (λ (v : Version). floor < v.scn) (version_by scn changes table rid) (versions_from (scn + 1) later table rid)
    (above-by floor scn changes table rid above) (above-from floor (scn + 1) later table rid (omega (arith, above)))

rising-behind : (scn : ℕ) (change : Option Change) (versions : List Version) → IsRising versions → AreAbove scn versions
    → IsRising (version_of scn change ++ versions)
rising-behind scn None versions rising later = rising
rising-behind scn (Some change) versions rising later = IsRising-cons (record { scn = scn; row = change.row }) versions rising later

-- so they rise
pub IsRising-from : (scn : ℕ) (commits : List (List Change)) (table rid : ℕ) → IsRising (versions_from scn commits table rid)
IsRising-from scn [] table rid = λ k d h. absurd (omega (arith, h))
IsRising-from scn (changes ∷ later) table rid =
    rising-behind scn (last_change changes table rid) (versions_from (scn + 1) later table rid) (IsRising-from (scn + 1) later table rid)
    (above-from scn (scn + 1) later table rid (omega arith))

-- ---- how many there are

length-of : (scn : ℕ) (change : Option Change) → length (version_of scn change) ≡ (if is_some change then 1 else 0)
length-of scn None = refl
length-of scn (Some change) = refl

-- a commit left a version where it touched the row
length-by : (scn : ℕ) (changes : List Change) (table rid : ℕ) → length (version_by scn changes table rid) ≡ (if touches changes table rid then 1 else 0)
length-by scn changes table rid =
    length-of scn (last_change changes table rid) ∙ ap (λ (b : Bool). if b then 1 else 0) (sym (touches_last changes table rid))

-- above a floor stand those of the commits behind it
above_of : (floor scn : ℕ) (change : Option Change) → versions_above floor (version_of scn change) ≡ (if nat_lt floor scn then version_of scn change else [])
above_of floor scn None = by (nat_lt floor scn)
  where
    by : (b : Bool) → ◌≡◌ {A = List Version} [] (if b then [] else [])
    by true = refl
    by false = refl
above_of floor scn (Some change) = refl

above_by : (floor scn : ℕ) (changes : List Change) (table rid : ℕ) → scn ≤ floor → versions_above floor (version_by scn changes table rid) ≡ []
above_by floor scn changes table rid low =
    above_of floor scn (last_change changes table rid)
    ∙ ap (λ (b : Bool). if b then version_by scn changes table rid else []) (le-ltb floor scn low)

above_by-all : (floor scn : ℕ) (changes : List Change) (table rid : ℕ) → floor < scn
    → versions_above floor (version_by scn changes table rid) ≡ version_by scn changes table rid
above_by-all floor scn changes table rid high =
    above_of floor scn (last_change changes table rid)
    ∙ ap (λ (b : Bool). if b then version_by scn changes table rid else []) (lt-ltb floor scn high)

pub length-above : (floor scn : ℕ) (commits : List (List Change)) (table rid : ℕ)
    → length (versions_above floor (versions_from scn commits table rid)) ≡ touching (drop (floor + 1 - scn) commits) table rid
length-above floor scn [] table rid = ap (λ (l : List (List Change)). touching l table rid) (sym (drop_all (floor + 1 - scn) [] (omega arith)))
length-above floor scn (changes ∷ later) table rid =
    let this = version_by scn changes table rid in
    let rest = versions_from (scn + 1) later table rid in
    let both = filter-append (λ (v : Version). nat_lt floor v.scn) this rest in
    let sum = length-append (versions_above floor this) (versions_above floor rest) in
    let behind = length-above floor (scn + 1) later table rid in
    ap length both
    ∙ (sum
    ∙ ⊎_elim
    (λ (high : floor < scn).
    let none : floor + 1 - scn ≡ 0 = omega (arith, high) in
    let none_later : floor + 1 - (scn + 1) ≡ 0 = omega (arith, high) in
    let here = ap length (above_by-all floor scn changes table rid high) ∙ length-by scn changes table rid in
    let all = ap (λ (n : ℕ). touching (drop n later) table rid) none_later in
    let counted = sum_by-cons (λ (c : List Change). if touches c table rid then 1 else 0) changes later in
    omega (arith, here, behind, all, counted) ∙ ap (λ (n : ℕ). touching (drop n (changes ∷ later)) table rid) (sym none))
    (λ (low : scn ≤ floor).
    let next : floor + 1 - scn ≡ suc (floor + 1 - (scn + 1)) = omega (arith, low) in
    let here = ap length (above_by floor scn changes table rid low) in
    omega (arith, here, behind) ∙ ap (λ (n : ℕ). touching (drop n (changes ∷ later)) table rid) (sym next))
    (cases_lt floor scn))

length-if : (version : Version) (b : Bool) → length (if b then version ∷ [] else []) ≡ (if b then 1 else 0)
length-if version true = refl
length-if version false = refl

length-with_row : (found : Option Version) → length (with_row found) ≡ (if is_some (option_and_then (λ (v : Version). v.row) found) then 1 else 0)
length-with_row None = refl
length-with_row (Some version) = length-if version (is_some version.row)

-- how many of a row's versions a floor leaves: those of the commits behind it, and one where there is a row at it
pub length-left : (floor : ℕ) (versions : List Version) →
    length (cut floor versions) ≡ length (versions_above floor versions) + (if is_some (row_at versions floor) then 1 else 0)
unfolding cut
length-left floor versions =
    let sum = length-append (with_row (newest (versions_to floor versions))) (versions_above floor versions) in
    let one = length-with_row (newest (versions_to floor versions)) in
    omega (arith, sum, one)

-- where no commit touched the row, there are none
pub none-from : (scn : ℕ) (commits : List (List Change)) (table rid : ℕ) → All (λ changes. touches changes table rid ≡ false) commits
    → versions_from scn commits table rid ≡ []
none-from scn [] table rid none = refl
none-from scn (changes ∷ later) table rid none =
    let here : length (version_by scn changes table rid) ≡ 0 =
    length-by scn changes table rid
    ∙ ap (λ (b : Bool). if b then 1 else 0) (All-head (λ (c : List Change). touches c table rid ≡ false) changes later none) in
    ap (λ (l : List Version). l ++ versions_from (scn + 1) later table rid) (empty (version_by scn changes table rid) here)
    ∙ none-from (scn + 1) later table rid (All-tail (λ (c : List Change). touches c table rid ≡ false) changes later none)
  where
    empty : (versions : List Version) → length versions ≡ 0 → versions ≡ []
    empty [] is = refl
    empty (version ∷ versions) is = absurd (omega (arith, is))

-- ---- the newest of what is left

-- no version is left, and the newest one was at or below the floor
pub record NoneLeft (floor : ℕ) (versions : List Version) : Type 0 where
  pub none : newest_scn (cut floor versions) ≡ 0
  pub below : newest_scn versions ≤ floor

pub newest_scn-cut : (floor : ℕ) (versions : List Version) → IsRising versions
    → (newest_scn (cut floor versions) ≡ newest_scn versions) ⊎ NoneLeft floor versions
newest_scn-cut floor versions rising =
    ⊎_elim
    (λ (same : newest (cut floor versions) ≡ newest versions). inl (ap (λ (o : Option Version). unwrap_or (option_map (λ (v : Version). v.scn) o) 0) same))
    (λ (gone : IsGone floor versions). inr (record {
      none = ap (λ (o : Option Version). unwrap_or (option_map (λ (v : Version). v.scn) o) 0) gone.none;
      below = by (latest versions) gone.below refl;
    }))
    (newest-cut floor versions rising)
  where
    by : (found : Option ℕ) → ((last : ℕ) → latest versions ≡ Some last → last ≤ floor) → latest versions ≡ found → unwrap_or found 0 ≤ floor
    by None below is = omega arith
    by (Some last) below is = below last is
