-- Versions cut at a floor.
use Rattle.std.proofs.Common.{◌≡◌, ℕ, suc, ◌+◌, ◌-◌, ◌<◌, ◌≤◌, ◌⊎◌, inl, inr, Bool, true, false, not, List, [], ◌∷◌, ◌++◌, length, drop, get_or, nat_le, nat_lt, Option, Some, None, is_some, if◌then◌else◌, sym, refl, ap, ◌∙◌, subst, ⊎_elim, arith, le-leb, append_assoc, append-nil}
use Rattle.std.specs.List.{All, slice_get}
use Rattle.std.specs.Option.{option_and_then, option_map}
use Rattle.std.proofs.lemmas.Bool.{cases_lt, false≢true, le-ltb, lt-leb, lt-ltb, leb-true}
use Rattle.std.proofs.lemmas.List.{drop_at, drop_more, get_or-drop, get_or_append_left, length-append, length-drop}
use Rattle.std.proofs.lemmas.List.Elements.{All-head, All-tail, filter-append, filter_passes}
use Rattle.std.proofs.lemmas.List.Filters.{length-filter_both}
use Rattle.std.proofs.lemmas.Option.{get_or_from_slice_get, slice_get-get_or, slice_get_within}
use Rattle.im_values.specs.declared.content.Content.{Content as Value}
use Rattle.im_versions.specs.declared.version.Version.{Version}
use Rattle.im_versions.specs.Versions.{IsRising, cut, latest, newest, newest_row, row_at, versions_above, versions_to, with_row}
use Rattle.im_versions.proofs.VersionLemmas.{rises}

-- ---- versions at or below an SCN, and those above it

-- each version is at or below an SCN, or above it
above_is : (version : Version) (scn : ℕ) → nat_lt scn version.scn ≡ not (nat_le version.scn scn)
above_is version scn =
    ⊎_elim (λ (above : scn < version.scn). rw (lt-ltb scn version.scn above, lt-leb version.scn scn above) refl)
    (λ (below : version.scn ≤ scn). rw (le-ltb scn version.scn below, le-leb version.scn scn below) refl)
    (cases_lt scn version.scn)

-- all of these are above an SCN
abbrev pub AreAbove : ℕ → List Version → Type 0
AreAbove scn versions = All (λ version. scn < version.scn) versions

pub none_to : (scn : ℕ) (versions : List Version) → AreAbove scn versions → versions_to scn versions ≡ []
none_to scn [] above = refl
none_to scn (version ∷ versions) above =
    rw (lt-leb version.scn scn (All-head (λ (v : Version). scn < v.scn) version versions above))
    (none_to scn versions (All-tail (λ (v : Version). scn < v.scn) version versions above))

pub all_above : (scn : ℕ) (versions : List Version) → AreAbove scn versions → versions_above scn versions ≡ versions
all_above scn [] above = refl
all_above scn (version ∷ versions) above =
    rw (lt-ltb scn version.scn (All-head (λ (v : Version). scn < v.scn) version versions above))
    (ap (λ (l : List Version). version ∷ l) (all_above scn versions (All-tail (λ (v : Version). scn < v.scn) version versions above)))

-- those behind the first one are later, and rise too
rising-tail : (version : Version) (versions : List Version) → IsRising (version ∷ versions) → IsRising versions
rising-tail version versions rising k d h =
    let next : suc k + 1 ≡ suc (k + 1) = omega arith in
    subst (λ (n : ℕ). (get_or versions k d).scn < (get_or (version ∷ versions) n d).scn) next (rising (suc k) d (omega (arith, h)))

later_all : (version : Version) (versions : List Version) → IsRising (version ∷ versions) → AreAbove version.scn versions
later_all version versions rising k d h =
    let first : version.scn < (get_or versions 0 d).scn = rising 0 d (omega (arith, h)) in
    let up : (get_or versions 0 d).scn ≤ (get_or versions k d).scn = rises versions (rising-tail version versions rising) 0 k d (omega arith) h in
    omega (arith, first, up)

above_more : (low high : ℕ) (versions : List Version) → low ≤ high → AreAbove high versions → AreAbove low versions
above_more low high versions less above k d h = let past = above k d h in omega (arith, less, past)

-- rising versions are those at or below an SCN, and behind them those above it
pub parted : (scn : ℕ) (versions : List Version) → IsRising versions → versions ≡ versions_to scn versions ++ versions_above scn versions
parted scn [] rising = refl
parted scn (version ∷ versions) rising =
    ⊎_elim
    (λ (above : scn < version.scn).
    let later : AreAbove scn versions = above_more scn version.scn versions (omega (arith, above)) (later_all version versions rising) in
    rw (lt-leb version.scn scn above, lt-ltb scn version.scn above)
    (ap (λ (l : List Version). l ++ version ∷ versions) (sym (none_to scn versions later))
    ∙ ap (λ (l : List Version). versions_to scn versions ++ version ∷ l) (sym (all_above scn versions later))))
    (λ (below : version.scn ≤ scn).
    rw (le-leb version.scn scn below, le-ltb scn version.scn below)
    (ap (λ (l : List Version). version ∷ l) (parted scn versions (rising-tail version versions rising))))
    (cases_lt scn version.scn)

-- what is at or below a floor is at or below each later SCN
to_again : (floor scn : ℕ) (versions : List Version) → floor ≤ scn → versions_to scn (versions_to floor versions) ≡ versions_to floor versions
to_again floor scn [] later = refl
to_again floor scn (version ∷ versions) later =
    ⊎_elim
    (λ (above : floor < version.scn). rw (lt-leb version.scn floor above) (to_again floor scn versions later))
    (λ (below : version.scn ≤ floor).
    rw (le-leb version.scn floor below, le-leb version.scn scn (omega (arith, below, later)))
    (ap (λ (l : List Version). version ∷ l) (to_again floor scn versions later)))
    (cases_lt floor version.scn)

none_above : (floor scn : ℕ) (versions : List Version) → floor ≤ scn → versions_above scn (versions_to floor versions) ≡ []
none_above floor scn [] later = refl
none_above floor scn (version ∷ versions) later =
    ⊎_elim
    (λ (above : floor < version.scn). rw (lt-leb version.scn floor above) (none_above floor scn versions later))
    (λ (below : version.scn ≤ floor).
    rw (le-leb version.scn floor below, le-ltb scn version.scn (omega (arith, below, later))) (none_above floor scn versions later))
    (cases_lt floor version.scn)

-- ---- the newest of two lists

newest-cons : (version : Version) (versions : List Version) → 0 < length versions → newest (version ∷ versions) ≡ newest versions
newest-cons version [] some = absurd (omega (arith, some))
newest-cons version (next ∷ versions) some =
    let two : suc (suc (length versions)) - 1 ≡ suc (length versions) = omega arith in
    let one : length versions ≡ suc (length versions) - 1 = omega arith in
    ap (slice_get (version ∷ next ∷ versions)) two ∙ ap (slice_get (next ∷ versions)) one

pub newest-append : (first later : List Version) → 0 < length later → newest (first ++ later) ≡ newest later
newest-append [] later some = refl
newest-append (version ∷ first) later some =
    let long : length (first ++ later) ≡ length first + length later = length-append first later in
    newest-cons version (first ++ later) (omega (arith, long, some)) ∙ newest-append first later some

newest_is : (version : Version) (versions : List Version) → newest (version ∷ versions) ≡ None → ⊥
newest_is version versions none =
    false≢true (sym (ap is_some none) ∙ ap is_some (slice_get-get_or (version ∷ versions) (length (version ∷ versions) - 1) version (omega arith)))

-- ---- the newest one alone, where it has a row

abbrev shown : List Version → List Version
shown versions = with_row (newest versions)

shown-if : (version : Version) (b : Bool) → is_some version.row ≡ b → shown (if b then version ∷ [] else []) ≡ (if b then version ∷ [] else [])
shown-if version true is = rw is refl
shown-if version false is = refl

shown-with_row : (found : Option Version) → shown (with_row found) ≡ with_row found
shown-with_row None = refl
shown-with_row (Some version) = shown-if version (is_some version.row) refl

-- what is shown of versions is shown of them without those that are not shown
shown-shown : (first later : List Version) → shown (shown first ++ later) ≡ shown (first ++ later)
shown-shown first [] =
    ap shown (append-nil (shown first)) ∙ (shown-with_row (newest first) ∙ ap shown (sym (append-nil first)))
shown-shown first (version ∷ later) =
    ap with_row (newest-append (shown first) (version ∷ later) (omega arith) ∙ sym (newest-append first (version ∷ later) (omega arith)))

no_row : (row : Option (List Value)) → is_some row ≡ false → None ≡ row
no_row None is = refl
no_row (Some row) is = absurd (false≢true (sym is))

newest_row-if : (version : Version) (b : Bool) → is_some version.row ≡ b → newest_row (if b then version ∷ [] else []) ≡ version.row
newest_row-if version true is = refl
newest_row-if version false is = no_row version.row is

-- it shows the same row
newest_row-with_row : (found : Option Version) → newest_row (with_row found) ≡ option_and_then (λ (v : Version). v.row) found
newest_row-with_row None = refl
newest_row-with_row (Some version) = newest_row-if version (is_some version.row) refl

newest_row-shown : (first later : List Version) → newest_row (shown first ++ later) ≡ newest_row (first ++ later)
newest_row-shown first later =
    sym (newest_row-with_row (newest (shown first ++ later)))
    ∙ (ap newest_row (shown-shown first later) ∙ newest_row-with_row (newest (first ++ later)))

-- the newest one at or below a floor is
low : (floor : ℕ) (versions : List Version) (version : Version) → newest (versions_to floor versions) ≡ Some version → version.scn ≤ floor
low floor versions version is =
    let these = versions_to floor versions in
    let place = length these - 1 in
    let inside = slice_get_within these place version is in
    let passes = filter_passes (λ (v : Version). nat_le v.scn floor) versions place version inside in
    leb-true version.scn floor (ap (λ (v : Version). nat_le v.scn floor) (sym (get_or_from_slice_get these place version version is)) ∙ passes)

to_one : (version : Version) (scn : ℕ) (b : Bool) → version.scn ≤ scn → versions_to scn (if b then version ∷ [] else []) ≡ (if b then version ∷ [] else [])
to_one version scn true below = rw (le-leb version.scn scn below) refl
to_one version scn false below = refl

above_one : (version : Version) (scn : ℕ) (b : Bool) → version.scn ≤ scn → versions_above scn (if b then version ∷ [] else []) ≡ []
above_one version scn true below = rw (le-ltb scn version.scn below) refl
above_one version scn false below = refl

-- so what is shown at a floor is at or below each later SCN
shown_to : (floor scn : ℕ) (versions : List Version) → floor ≤ scn
    → versions_to scn (shown (versions_to floor versions)) ≡ shown (versions_to floor versions)
shown_to floor scn versions later = by (newest (versions_to floor versions)) refl
  where
    by : (found : Option Version) → newest (versions_to floor versions) ≡ found → versions_to scn (with_row found) ≡ with_row found
    by None is = refl
    by (Some version) is = let below = low floor versions version is in to_one version scn (is_some version.row) (omega (arith, below, later))

shown_above : (floor scn : ℕ) (versions : List Version) → floor ≤ scn → versions_above scn (shown (versions_to floor versions)) ≡ []
shown_above floor scn versions later = by (newest (versions_to floor versions)) refl
  where
    by : (found : Option Version) → newest (versions_to floor versions) ≡ found → versions_above scn (with_row found) ≡ []
    by None is = refl
    by (Some version) is = let below = low floor versions version is in above_one version scn (is_some version.row) (omega (arith, below, later))

-- ---- what is left

-- the versions at or below a later SCN than the floor, with those below the floor and without them
to_cut : (floor scn : ℕ) (versions : List Version) → floor ≤ scn
    → versions_to scn (cut floor versions) ≡ shown (versions_to floor versions) ++ versions_to scn (versions_above floor versions)
unfolding cut
to_cut floor scn versions later =
    filter-append (λ (v : Version). nat_le v.scn scn) (shown (versions_to floor versions)) (versions_above floor versions)
    ∙ ap (λ (l : List Version). l ++ versions_to scn (versions_above floor versions)) (shown_to floor scn versions later)

to_whole : (floor scn : ℕ) (versions : List Version) → IsRising versions → floor ≤ scn
    → versions_to scn versions ≡ versions_to floor versions ++ versions_to scn (versions_above floor versions)
to_whole floor scn versions rising later =
    ap (versions_to scn) (parted floor versions rising)
    ∙ (filter-append (λ (v : Version). nat_le v.scn scn) (versions_to floor versions) (versions_above floor versions)
    ∙ ap (λ (l : List Version). l ++ versions_to scn (versions_above floor versions)) (to_again floor scn versions later))

-- and those above it
above_cut : (floor scn : ℕ) (versions : List Version) → floor ≤ scn → versions_above scn (cut floor versions) ≡ versions_above scn (versions_above floor versions)
unfolding cut
above_cut floor scn versions later =
    filter-append (λ (v : Version). nat_lt scn v.scn) (shown (versions_to floor versions)) (versions_above floor versions)
    ∙ ap (λ (l : List Version). l ++ versions_above scn (versions_above floor versions)) (shown_above floor scn versions later)

above_whole : (floor scn : ℕ) (versions : List Version) → IsRising versions → floor ≤ scn
    → versions_above scn versions ≡ versions_above scn (versions_above floor versions)
above_whole floor scn versions rising later =
    ap (versions_above scn) (parted floor versions rising)
    ∙ (filter-append (λ (v : Version). nat_lt scn v.scn) (versions_to floor versions) (versions_above floor versions)
    ∙ ap (λ (l : List Version). l ++ versions_above scn (versions_above floor versions)) (none_above floor scn versions later))

pub row_at-cut_by : (floor scn : ℕ) (versions : List Version) → IsRising versions → floor ≤ scn → row_at (cut floor versions) scn ≡ row_at versions scn
row_at-cut_by floor scn versions rising later =
    ap newest_row (to_cut floor scn versions later)
    ∙ (newest_row-shown (versions_to floor versions) (versions_to scn (versions_above floor versions))
    ∙ ap newest_row (sym (to_whole floor scn versions rising later)))

pub cut-again_by : (floor scn : ℕ) (versions : List Version) → IsRising versions → floor ≤ scn → cut scn (cut floor versions) ≡ cut scn versions
unfolding cut
cut-again_by floor scn versions rising later =
    ap (λ (l : List Version). shown (versions_to scn (cut floor versions)) ++ l)
    (above_cut floor scn versions later ∙ sym (above_whole floor scn versions rising later))
    ∙ ap (λ (l : List Version). l ++ versions_above scn versions)
    (ap shown (to_cut floor scn versions later)
    ∙ (shown-shown (versions_to floor versions) (versions_to scn (versions_above floor versions))
    ∙ ap shown (sym (to_whole floor scn versions rising later))))

-- versions above the floor stay behind those that are left
pub cut-append_by : (floor : ℕ) (versions later : List Version) → AreAbove floor later → cut floor (versions ++ later) ≡ cut floor versions ++ later
unfolding cut
cut-append_by floor versions later above =
    ap (λ (l : List Version). shown l ++ versions_above floor (versions ++ later))
    (filter-append (λ (v : Version). nat_le v.scn floor) versions later
    ∙ (ap (λ (l : List Version). versions_to floor versions ++ l) (none_to floor later above) ∙ append-nil (versions_to floor versions)))
    ∙ (ap (λ (l : List Version). shown (versions_to floor versions) ++ l)
    (filter-append (λ (v : Version). nat_lt floor v.scn) versions later
    ∙ ap (λ (l : List Version). versions_above floor versions ++ l) (all_above floor later above))
    ∙ sym (append_assoc (shown (versions_to floor versions)) (versions_above floor versions) later))

-- ---- places

-- what is left where the version at the floor has a row: from that one on
pub drop_to_row : (floor : ℕ) (versions these : List Version) (version : Version) → these ≡ versions_to floor versions → IsRising versions
    → newest these ≡ Some version → is_some version.row ≡ true → drop (length these - 1) versions ≡ cut floor versions
unfolding cut
drop_to_row floor versions these version are rising is some =
    let above = versions_above floor versions in
    let place = length these - 1 in
    let inside = slice_get_within these place version is in
    let whole : length (these ++ above) ≡ length these + length above = length-append these above in
    let next : place + 1 ≡ length these = omega (arith, inside) in
    ap (drop place) (parted floor versions rising ∙ ap (λ (l : List Version). l ++ above) (sym are))
    ∙ (drop_more (these ++ above) place version (omega (arith, inside, whole))
    ∙ (ap (λ (v : Version). v ∷ drop (place + 1) (these ++ above))
    (get_or_append_left these above version place inside ∙ get_or_from_slice_get these place version version is)
    ∙ (ap (λ (l : List Version). version ∷ l) (drop_at these above (place + 1) (sym next))
    ∙ (ap (λ (b : Bool). (if b then version ∷ [] else []) ++ above) (sym some)
    ∙ ap (λ (o : Option Version). with_row o ++ above) (sym is ∙ ap newest are)))))

drop_to_above : (floor : ℕ) (versions these : List Version) → these ≡ versions_to floor versions → IsRising versions
    → with_row (newest these) ≡ [] → drop (length these) versions ≡ cut floor versions
unfolding cut
drop_to_above floor versions these are rising none =
    let above = versions_above floor versions in
    ap (drop (length these)) (parted floor versions rising ∙ ap (λ (l : List Version). l ++ above) (sym are))
    ∙ (drop_at these above (length these) refl
    ∙ ap (λ (l : List Version). l ++ above) (sym none ∙ ap (λ (l : List Version). with_row (newest l)) are))

-- where it has none, and where there is none: from the one behind it on
pub drop_to_none : (floor : ℕ) (versions these : List Version) (version : Version) → these ≡ versions_to floor versions → IsRising versions
    → newest these ≡ Some version → is_some version.row ≡ false → drop (length these) versions ≡ cut floor versions
drop_to_none floor versions these version are rising is none =
    drop_to_above floor versions these are rising (ap with_row is ∙ ap (λ (b : Bool). if b then version ∷ [] else []) none)

pub drop_to_first : (floor : ℕ) (versions these : List Version) → these ≡ versions_to floor versions → IsRising versions
    → newest these ≡ None → drop (length these) versions ≡ cut floor versions
drop_to_first floor versions these are rising is = drop_to_above floor versions these are rising (ap with_row is)

pub few_to : (floor : ℕ) (versions these : List Version) → these ≡ versions_to floor versions → IsRising versions → length these ≤ length versions
few_to floor versions these are rising =
    let whole = ap length (parted floor versions rising) ∙ length-append (versions_to floor versions) (versions_above floor versions) in
    let long = ap length are in
    omega (arith, whole, long)

pub IsRising-drop : (many : ℕ) (versions : List Version) → IsRising versions → IsRising (drop many versions)
IsRising-drop many versions rising k d h =
    let long : length (drop many versions) ≡ length versions - many = length-drop many versions in
    let next : many + (k + 1) ≡ many + k + 1 = omega arith in
    rw (get_or-drop many versions k d, get_or-drop many versions (k + 1) d, next) (rising (many + k) d (omega (arith, h, long)))

-- ---- what is left, seen as a list

-- it is what comes behind so many
pub record IsRest (floor : ℕ) (versions : List Version) : Type 0 where
  pub many : ℕ
  pub is : drop many versions ≡ cut floor versions

pub rest_is : (floor : ℕ) (versions : List Version) → IsRising versions → IsRest floor versions
rest_is floor versions rising = by (newest (versions_to floor versions)) refl
  where
    these : List Version
    these = versions_to floor versions

    by_row : (version : Version) → newest these ≡ Some version → (b : Bool) → is_some version.row ≡ b → IsRest floor versions
    by_row version is true some = record { many = length these - 1; is = drop_to_row floor versions these version refl rising is some }
    by_row version is false none = record { many = length these; is = drop_to_none floor versions these version refl rising is none }

    by : (found : Option Version) → newest these ≡ found → IsRest floor versions
    by None is = record { many = length these; is = drop_to_first floor versions these refl rising is }
    by (Some version) is = by_row version is (is_some version.row) refl

pub cut-nil : (floor : ℕ) → cut floor [] ≡ []
unfolding cut
cut-nil floor = refl

length-if : (version : Version) (b : Bool) → length (if b then version ∷ [] else []) ≤ 1
length-if version true = omega arith
length-if version false = omega arith

length-shown : (versions : List Version) → length (shown versions) ≤ length versions
length-shown [] = omega arith
length-shown (version ∷ versions) = by (newest (version ∷ versions))
  where
    by : (found : Option Version) → length (with_row found) ≤ suc (length versions)
    by None = omega arith
    by (Some newest) = let one = length-if newest (is_some newest.row) in omega (arith, one)

pub length-cut_by : (floor : ℕ) (versions : List Version) → length (cut floor versions) ≤ length versions
unfolding cut
length-cut_by floor versions =
    let both = length-filter_both (λ (v : Version). nat_le v.scn floor) (λ (v : Version). nat_lt floor v.scn) (λ v. above_is v floor) versions in
    let sum = length-append (shown (versions_to floor versions)) (versions_above floor versions) in
    let few = length-shown (versions_to floor versions) in
    omega (arith, both, sum, few)

-- no version is left, and the newest one was at or below the floor
pub record IsGone (floor : ℕ) (versions : List Version) : Type 0 where
  pub none : newest (cut floor versions) ≡ None
  pub below : (last : ℕ) → latest versions ≡ Some last → last ≤ floor

pub newest-cut_by : (floor : ℕ) (versions : List Version) → IsRising versions
    → (newest (cut floor versions) ≡ newest versions) ⊎ IsGone floor versions
unfolding cut
newest-cut_by floor versions rising = by (versions_above floor versions) refl
  where
    these : List Version
    these = versions_to floor versions

    whole : (above : List Version) → versions_above floor versions ≡ above → versions ≡ these ++ above
    whole above is = parted floor versions rising ∙ ap (λ (l : List Version). these ++ l) is

    left : (above : List Version) → versions_above floor versions ≡ above → cut floor versions ≡ shown these ++ above
    left above is = ap (λ (l : List Version). shown these ++ l) is

    newest_left : versions_above floor versions ≡ [] → newest (cut floor versions) ≡ newest (shown these)
    newest_left none = ap newest (left [] none ∙ append-nil (shown these))

    newest_whole : versions_above floor versions ≡ [] → newest versions ≡ newest these
    newest_whole none = ap newest (whole [] none ∙ append-nil these)

    by_row : versions_above floor versions ≡ [] → (version : Version) → newest these ≡ Some version → (b : Bool) → is_some version.row ≡ b
        → (newest (cut floor versions) ≡ newest versions) ⊎ IsGone floor versions
    by_row none version is true some =
        inl (newest_left none
        ∙ (ap (λ (o : Option Version). newest (with_row o)) is
        ∙ (ap (λ (b : Bool). newest (if b then version ∷ [] else [])) some ∙ sym (newest_whole none ∙ is))))
    by_row none version is false absent = inr (record {
      none = newest_left none
          ∙ (ap (λ (o : Option Version). newest (with_row o)) is
          ∙ ap (λ (b : Bool). newest (if b then version ∷ [] else [])) absent);
      below = λ last is_last.
          let same : Some version.scn ≡ Some last = sym (ap (option_map (λ (v : Version). v.scn)) (newest_whole none ∙ is)) ∙ is_last in
          let below = low floor versions version is in
          let scn_is : version.scn ≡ last = cc same in
          omega (arith, below, scn_is);
    })

    alone : versions_above floor versions ≡ [] → (found : Option Version) → newest these ≡ found
        → (newest (cut floor versions) ≡ newest versions) ⊎ IsGone floor versions
    alone none None is =
        inl (newest_left none ∙ (ap (λ (o : Option Version). newest (with_row o)) is ∙ sym (newest_whole none ∙ is)))
    alone none (Some version) is = by_row none version is (is_some version.row) refl

    by : (above : List Version) → versions_above floor versions ≡ above → (newest (cut floor versions) ≡ newest versions) ⊎ IsGone floor versions
    by [] is = alone is (newest these) refl
    by (version ∷ above) is =
        inl (ap newest (left (version ∷ above) is)
        ∙ (newest-append (shown these) (version ∷ above) (omega arith)
        ∙ (sym (newest-append these (version ∷ above) (omega arith)) ∙ ap newest (sym (whole (version ∷ above) is)))))
