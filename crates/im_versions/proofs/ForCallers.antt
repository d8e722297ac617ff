-- The row at an SCN, one version on, and what is left of versions at a floor.
use Rattle.std.proofs.Common.{◌≡◌, ℕ, zero, suc, get_or, ◌+◌, ◌-◌, ◌<◌, ◌≤◌, ◌⊎◌, Bool, true, false, List, [], ◌∷◌, ◌++◌, length, nat_le, Option, Some, None, is_some, if◌then◌else◌, refl, sym, ap, ◌∙◌, subst, ⊎_elim, arith, append-nil, le-leb}
use Rattle.std.specs.List.{All}
use Rattle.std.specs.Option.{option_map, option_and_then}
use Rattle.std.proofs.lemmas.Bool.{cases_lt, false≢true, le-ltb, lt-leb, lt-ltb}
use Rattle.std.proofs.lemmas.List.{length_push, get_or_push}
use Rattle.std.proofs.lemmas.List.Elements.{All-cons, All-nil, filter-append}
use Rattle.std.proofs.lemmas.Option.{slice_get-get_or}
use Rattle.im_versions.specs.declared.version.Version.{Version}
use Rattle.im_versions.specs.Versions.{IsRising, cut, row_at, latest, newest, versions_to}
pub use Rattle.im_versions.proofs.CutLemmas.{IsGone}
use Rattle.im_versions.proofs.CutLemmas.{IsRising-drop, cut-again_by, cut-append_by, cut-nil, length-cut_by, newest-cut_by, rest_is, row_at-cut_by}

-- a row that was never touched is not there
pub row_at-nil : (scn : ℕ) → row_at [] scn ≡ None
row_at-nil scn = refl

-- the newest version is the one put on last
pub newest-push : (versions : List Version) (version : Version) → newest (versions ++ version ∷ []) ≡ Some version
newest-push versions version =
    let long : length (versions ++ version ∷ []) ≡ length versions + 1 = length_push versions version in
    let place : length (versions ++ version ∷ []) - 1 ≡ length versions = omega arith in
    rw place (slice_get-get_or (versions ++ version ∷ []) (length versions) version (omega arith)
    ∙ ap Some (get_or_push versions version version (length versions) refl))

pub latest-push : (versions : List Version) (version : Version) → latest (versions ++ version ∷ []) ≡ Some version.scn
latest-push versions version = ap (option_map (λ (v : Version). v.scn)) (newest-push versions version)

-- by whether the version is at or below the SCN
row_at-push_by : (b : Bool) (versions : List Version) (version : Version) (scn : ℕ) → nat_le version.scn scn ≡ b →
    row_at (versions ++ version ∷ []) scn ≡ (if b then version.row else row_at versions scn)
row_at-push_by true versions version scn is =
    rw (filter-append (λ (v : Version). nat_le v.scn scn) versions (version ∷ []), is)
    (ap (option_and_then (λ (v : Version). v.row)) (newest-push (versions_to scn versions) version))
row_at-push_by false versions version scn is =
    rw (filter-append (λ (v : Version). nat_le v.scn scn) versions (version ∷ []), is, append-nil (versions_to scn versions)) refl

-- from its SCN on the row is what the new version left, and before as it was
pub row_at-push : (versions : List Version) (version : Version) (scn : ℕ) →
    row_at (versions ++ version ∷ []) scn ≡ (if nat_le version.scn scn then version.row else row_at versions scn)
row_at-push versions version scn = row_at-push_by (nat_le version.scn scn) versions version scn refl

-- a version before later ones
pub IsRising-cons : (version : Version) (versions : List Version) → IsRising versions → All (λ later. version.scn < later.scn) versions
    → IsRising (version ∷ versions)
IsRising-cons version versions rising later zero d h = later 0 d (omega (arith, h))
IsRising-cons version versions rising later (suc k) d h =
    let next : suc (k + 1) ≡ suc k + 1 = omega arith in
    subst (λ (n : ℕ). (get_or versions k d).scn < (get_or (version ∷ versions) n d).scn) next (rising k d (omega (arith, h)))

-- ---- what is left at a floor

-- readings at the floor and above it are as before
pub row_at-cut : (floor scn : ℕ) (versions : List Version) → IsRising versions → floor ≤ scn → row_at (cut floor versions) scn ≡ row_at versions scn
row_at-cut floor scn versions rising above = row_at-cut_by floor scn versions rising above

-- what is left at a floor leaves the same at a later one
pub cut-again : (floor later : ℕ) (versions : List Version) → IsRising versions → floor ≤ later → cut later (cut floor versions) ≡ cut later versions
cut-again floor later versions rising above = cut-again_by floor later versions rising above

-- versions above the floor are left
pub cut-append : (floor : ℕ) (versions later : List Version) → All (λ version. floor < version.scn) later
    → cut floor (versions ++ later) ≡ cut floor versions ++ later
cut-append floor versions later above = cut-append_by floor versions later above

pub cut-push : (floor : ℕ) (versions : List Version) (version : Version) → floor < version.scn
    → cut floor (versions ++ version ∷ []) ≡ cut floor versions ++ version ∷ []
cut-push floor versions version above =
    cut-append floor versions (version ∷ []) (All-cons (λ (v : Version). floor < v.scn) version [] above (All-nil _))

-- where all are, nothing goes
pub cut-nothing : (floor : ℕ) (versions : List Version) → All (λ version. floor < version.scn) versions → cut floor versions ≡ versions
cut-nothing floor versions above = cut-append floor [] versions above ∙ ap (λ (l : List Version). l ++ versions) (cut-nil floor)

-- a version alone is left where it has a row
pub cut-row : (floor : ℕ) (version : Version) → is_some version.row ≡ true → cut floor (version ∷ []) ≡ version ∷ []
unfolding cut
cut-row floor version some =
    ⊎_elim (λ (above : floor < version.scn). rw (lt-leb version.scn floor above, lt-ltb floor version.scn above) refl)
    (λ (below : version.scn ≤ floor). rw (le-leb version.scn floor below, le-ltb floor version.scn below, some) refl)
    (cases_lt floor version.scn)

-- what is left of rising versions rises
pub IsRising-cut : (floor : ℕ) (versions : List Version) → IsRising versions → IsRising (cut floor versions)
IsRising-cut floor versions rising =
    let rest = rest_is floor versions rising in
    subst IsRising rest.is (IsRising-drop rest.many versions rising)

-- none are more than there were
pub length-cut : (floor : ℕ) (versions : List Version) → length (cut floor versions) ≤ length versions
length-cut floor versions = length-cut_by floor versions

-- the newest version is left, or no version is, and the newest one was at or below the floor
pub newest-cut : (floor : ℕ) (versions : List Version) → IsRising versions
    → (newest (cut floor versions) ≡ newest versions) ⊎ IsGone floor versions
newest-cut floor versions rising = newest-cut_by floor versions rising

-- so it is left where it is above the floor
pub latest-cut_above : (floor last : ℕ) (versions : List Version) → IsRising versions → latest versions ≡ Some last → floor < last
    → latest (cut floor versions) ≡ Some last
latest-cut_above floor last versions rising is above =
    ⊎_elim
    (λ (same : newest (cut floor versions) ≡ newest versions). ap (option_map (λ (v : Version). v.scn)) same ∙ is)
    (λ (gone : IsGone floor versions). let below = gone.below last is in absurd (omega (arith, below, above)))
    (newest-cut floor versions rising)

-- and what is left is of the last commit that left a version
pub latest-cut_is : (floor last : ℕ) (versions : List Version) → IsRising versions → latest (cut floor versions) ≡ Some last → latest versions ≡ Some last
latest-cut_is floor last versions rising is =
    ⊎_elim
    (λ (same : newest (cut floor versions) ≡ newest versions). sym (ap (option_map (λ (v : Version). v.scn)) same) ∙ is)
    (λ (gone : IsGone floor versions). absurd (false≢true (sym (ap (λ (o : Option Version). is_some (option_map (λ (v : Version). v.scn) o)) gone.none) ∙ ap is_some is)))
    (newest-cut floor versions rising)
