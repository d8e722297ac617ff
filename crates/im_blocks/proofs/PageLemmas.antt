-- What pages show, as changes are noted and put in.
use Prim.Native.Nat.{zero, suc}
use Rattle.std.proofs.Common.{◌≡◌, ℕ, ◌+◌, ◌*◌, ◌-◌, ◌/◌, ◌%◌, ◌<◌, ◌≤◌, Bool, true, false, ◌&&◌, ◌==◌, inl, List, [], ◌∷◌, ◌++◌, drop, get_or, length, max, take, Option, Some, None, is_some, if◌then◌else◌, refl, sym, ap, ◌∙◌, subst, ⊎_elim, arith, append-nil}
use Rattle.std.specs.Prelude.{slice_get}
use Rattle.std.specs.List.{All}
use Rattle.std.specs.Option.{option_or}
use Rattle.std.proofs.lemmas.Bool.{cases_Bool, eq-eqb, true≢false}
use Rattle.std.proofs.lemmas.List.Elements.{All-head, All-push, All-tail, All-weaker}
use Rattle.std.proofs.lemmas.Option.{slice_get-get_or}
use Rattle.im_tables.specs.Table.{HasCell, IsGrown, cell_at, row_of, with_cell}
use Rattle.im_tables.proofs.ForCallers.{cell_at-nil, cell_at-past, cell_at-with_cell}
use Rattle.im_tables.proofs.Tests.{and-true, eq-true}
use Rattle.im_values.specs.declared.content.Content.{Content as Value}
use Rattle.im_versions.specs.declared.version.Version.{Version}
use Rattle.im_versions.specs.Versions.{row_at}
use Rattle.im_versions.proofs.ForCallers.{row_at-cut}
use Rattle.im_history.specs.declared.change.Change.{Change}
use Rattle.im_history.specs.Fetched.{run_from}
use Rattle.im_history.specs.Touched.{is_to}
use Rattle.im_blocks.specs.declared.gathered.Gathered.{Gathered}
use Rattle.im_blocks.specs.declared.image.Image.{Image}
use Rattle.im_blocks.specs.declared.pages.Page.{Page}
use Rattle.im_blocks.specs.declared.ready.Ready.{Ready}
use Rattle.im_blocks.specs.declared.version_table.extents.Asked.{Asked}
use Rattle.im_blocks.specs.declared.ready.Ready.TheVariants.{Run, One}
use Rattle.im_blocks.specs.Chains.{AllVersions, no_versions, rows_at, versions_at}
use Rattle.im_blocks.specs.Readied.{HasPlace, changes_of, ready_changes}
use Rattle.im_blocks.specs.Runs.{is_in}
use Rattle.im_blocks.specs.Transitions.{Applied, Purged, SameVersions}
use Rattle.im_blocks.specs.VersionsOf.{last_change, version_by}
use Rattle.im_blocks.specs.inner.Gathering.{Gathers}
use Rattle.im_blocks.specs.inner.Images.{IsForgotten, IsFresh, IsImageOf}
use Rattle.im_blocks.specs.inner.Pages.{AreNoted, AreShown, HidesOne, IsNoted, IsNotedAt, ShowWithin, Shows, ShowsNone, ShowsWithin, StayShown, no_page, page_at, place_in}
use Rattle.im_blocks.specs.inner.Reading.{AreRead, IsReadable, IsShownTo}
use Rattle.im_blocks.proofs.ExtentLemmas.{Gathers-same, drop-got}
use Rattle.im_blocks.proofs.Places.{got, take-next}
use Rattle.im_blocks.proofs.VersionLemmas.{last_change-append, last_change-cons, last_change-put_from, put_of, version_of}

-- ---- one page

pub ShowsWithin-refl : (page : Page) → ShowsWithin page page
ShowsWithin-refl page = record { each = λ place scn row shows. shows }

ShowsWithin-trans : (a b c : Page) → ShowsWithin a b → ShowsWithin b c → ShowsWithin a c
ShowsWithin-trans a b c ab bc = record { each = λ place scn row shows. ab.each place scn row (bc.each place scn row shows) }

-- a page without an image shows nothing
pub ShowsNone-without : (page : Page) (place : ℕ) → page.image ≡ None → ShowsNone page place
ShowsNone-without page place without = record {
  none = λ scn row shows. absurd (true≢false (ap is_some (sym shows.is ∙ without)));
}

some_is : (a b : Image) → Some a ≡ Some b → a ≡ b
some_is a b is = cc is

-- a page whose image forgot a row
pub IsNoted-forgotten : (old new : Page) (before after : Image) (place : ℕ) → old.image ≡ Some before → new.image ≡ Some after
    → IsForgotten before after place → IsNoted old new place
IsNoted-forgotten old new before after place old_is new_is forgotten = record {
  within = record { each = within };
  gone = record { none = gone };
}
  where
    own : (i scn : ℕ) (row : Option (List Value)) (shows : Shows new i scn row) → shows.image ≡ after
    own i scn row shows = some_is shows.image after (sym shows.is ∙ new_is)

    within : (i scn : ℕ) (row : Option (List Value)) → Shows new i scn row → Shows old i scn row
    within i scn row shows =
        let here = own i scn row shows in
        let there = shows.there in
        record {
          image = before;
          is = old_is;
          fresh = forgotten.within i (subst (λ (image : Image). get_or image.fresh.items i false ≡ true) here shows.fresh);
          there = subst (λ (rows : List (List Value)). i < length rows) (ap (λ (image : Image). image.rows) here ∙ forgotten.rows_are) shows.there;
          from = subst (λ (n : ℕ). n ≤ scn) (ap (λ (image : Image). image.scn) here ∙ forgotten.scn_is) shows.from;
          row_is = ap (λ (rows : List (List Value)). slice_get rows i) (sym (ap (λ (image : Image). image.rows) here ∙ forgotten.rows_are)) ∙ shows.row_is;
        }

    gone : (scn : ℕ) (row : Option (List Value)) → Shows new place scn row → ⊥
    gone scn row shows =
        let here = own place scn row shows in
        true≢false (sym (subst (λ (image : Image). get_or image.fresh.items place false ≡ true) here shows.fresh) ∙ forgotten.gone)

-- and one without an image
pub IsNoted-without : (old new : Page) (place : ℕ) → new.image ≡ None → IsNoted old new place
IsNoted-without old new place without = record {
  within = record { each = λ i scn row shows. absurd ((ShowsNone-without new i without).none scn row shows) };
  gone = ShowsNone-without new place without;
}

-- where the image is the same the page shows the same
pub IsNoted-same : (old mid new : Page) (place : ℕ) → new.image ≡ mid.image → IsNoted old mid place → IsNoted old new place
IsNoted-same old mid new place same noted = record {
  within = record { each = λ i scn row shows. noted.within.each i scn row (back i scn row shows) };
  gone = record { none = λ scn row shows. noted.gone.none scn row (back place scn row shows) };
}
  where
    back : (i scn : ℕ) (row : Option (List Value)) → Shows new i scn row → Shows mid i scn row
    back i scn row shows = record {
      image = shows.image;
      is = sym same ∙ shows.is;
      fresh = shows.fresh;
      there = shows.there;
      from = shows.from;
      row_is = shows.row_is;
    }

pub ShowsWithin-same : (old new : Page) → new.image ≡ old.image → ShowsWithin old new
ShowsWithin-same old new same = record {
  each = λ place scn row shows. record {
    image = shows.image;
    is = sym same ∙ shows.is;
    fresh = shows.fresh;
    there = shows.there;
    from = shows.from;
    row_is = shows.row_is;
  };
}

-- ---- all pages

pub ShowWithin-refl : (pages : List (List Page)) → ShowWithin pages pages
ShowWithin-refl pages = record { each = λ table number. ShowsWithin-refl (page_at pages table number) }

pub ShowWithin-trans : (a b c : List (List Page)) → ShowWithin a b → ShowWithin b c → ShowWithin a c
ShowWithin-trans a b c ab bc = record {
  each = λ table number. ShowsWithin-trans (page_at a table number) (page_at b table number) (page_at c table number) (ab.each table number) (bc.each table number);
}

-- what was hidden stays hidden
hides_still : (old new : List (List Page)) (one : Ready) → ShowWithin old new → HidesOne old one → HidesOne new one
hides_still old new (Run table first rows) within hides = hides
hides_still old new (One change) within hides = record {
  none = λ scn row shows. hides.none scn row ((within.each change.table (change.rid / 2048)).each (change.rid % 2048) scn row shows);
}

pub hide_still : (old new : List (List Page)) (ready : List Ready) → ShowWithin old new → All (HidesOne old) ready → All (HidesOne new) ready
hide_still old new ready within hidden =
    All-weaker (HidesOne old) (HidesOne new) (λ one hides. hides_still old new one within hides) ready hidden

-- no pages show anything
pub AreShown-none : (floor : ℕ) → AreShown no_versions floor []
AreShown-none floor = record {
  each = λ table number place scn row small above shows. absurd ((ShowsNone-without (page_at [] table number) place
      (ap (λ (page : Page). page.image) (cell_at-nil no_page table number))).none scn row shows);
}

-- less is shown
pub AreShown-within : (blocks : AllVersions) (floor : ℕ) (old new : List (List Page)) → AreShown blocks floor old → ShowWithin old new → AreShown blocks floor new
AreShown-within blocks floor old new shown within = record {
  each = λ table number place scn row small above shows. shown.each table number place scn row small above ((within.each table number).each place scn row shows);
}

-- the versions are the same
pub AreShown-same : (old new : AllVersions) (floor : ℕ) (pages : List (List Page)) → SameVersions old new → AreShown old floor pages
    → AreShown new floor pages
AreShown-same old new floor pages same shown = record {
  each = λ table number place scn row small above shows. ap (λ (vs : List Version). row_at vs scn) (same.versions table (number * 2048 + place))
      ∙ shown.each table number place scn row small above shows;
}

-- old versions went that are not asked for at a floor and above it
pub AreShown-purged : (old new : AllVersions) (before floor : ℕ) (pages : List (List Page)) → Purged old new floor → AreShown old before pages
    → AreShown new (max before floor) pages
AreShown-purged old new before floor pages purged shown = record {
  each = λ table number place scn row small above shows.
      let rid = number * 2048 + place in
      ap (λ (vs : List Version). row_at vs scn) (purged.versions table rid)
      ∙ (row_at-cut floor scn (versions_at old table rid) (purged.rising table rid) (omega (arith, above))
      ∙ shown.each table number place scn row small (omega (arith, above)) shows);
}

-- growth shows nothing
pub ShowWithin-grown : (old new : List (List Page)) → IsGrown no_page old new → ShowWithin old new
ShowWithin-grown old new grown = record {
  each = λ table number. subst (λ (page : Page). ShowsWithin (page_at old table number) page) (sym (grown.cells table number))
      (ShowsWithin-refl (page_at old table number));
}

-- the page of one number is another one
set_page : (pages : List (List Page)) (table number : ℕ) (page : Page) (t n : ℕ) → HasCell pages table number
    → page_at (with_cell table number page pages) t n ≡ (if (table == t) && (number == n) then page else page_at pages t n)
set_page pages table number page t n has = cell_at-with_cell no_page pages table number page t n (inl has)

either : {X : Type 0} (P : X → Type 0) (b : Bool) (x y : X) → (b ≡ true → P x) → (b ≡ false → P y) → P (if b then x else y)
either P true x y for_true for_false = for_true refl
either P false x y for_true for_false = for_false refl

both_are : (table number t n : ℕ) → ((table == t) && (number == n)) ≡ true → (table ≡ t) × (number ≡ n)
both_are table number t n is =
    let sides = and-true (table == t) (number == n) is in
    (eq-true table t sides.0, eq-true number n sides.1)

pub ShowWithin-set : (pages : List (List Page)) (table number : ℕ) (page : Page) → HasCell pages table number
    → ShowsWithin (page_at pages table number) page → ShowWithin pages (with_cell table number page pages)
ShowWithin-set pages table number page has less = record { each = within }
  where
    within : (t n : ℕ) → ShowsWithin (page_at pages t n) (page_at (with_cell table number page pages) t n)
    within t n =
        subst (λ (p : Page). ShowsWithin (page_at pages t n) p) (sym (set_page pages table number page t n has))
        (either (λ (p : Page). ShowsWithin (page_at pages t n) p) ((table == t) && (number == n)) page (page_at pages t n)
        (λ is. let are = both_are table number t n is in
        subst (λ (k : ℕ). ShowsWithin (page_at pages k n) page) are.0
        (subst (λ (k : ℕ). ShowsWithin (page_at pages table k) page) are.1 less))
        (λ isnt. ShowsWithin-refl (page_at pages t n)))

pub IsNotedAt-set : (pages : List (List Page)) (table rid : ℕ) (page : Page) → HasCell pages table (rid / 2048)
    → IsNoted (page_at pages table (rid / 2048)) page (rid % 2048) → IsNotedAt pages (with_cell table (rid / 2048) page pages) table rid
IsNotedAt-set pages table rid page has noted = record {
  within = ShowWithin-set pages table number page has noted.within;
  gone = subst (λ (p : Page). ShowsNone p (rid % 2048)) (sym here) noted.gone;
}
  where
    number : ℕ
    number = rid / 2048

    here : page_at (with_cell table number page pages) table number ≡ page
    here = set_page pages table number page table number has ∙ rw (eq-eqb table table refl, eq-eqb number number refl) refl

-- a page that is not there
pub IsNotedAt-past : (pages : List (List Page)) (table rid : ℕ) → length (row_of pages table) ≤ rid / 2048 → IsNotedAt pages pages table rid
IsNotedAt-past pages table rid past = record {
  within = ShowWithin-refl pages;
  gone = ShowsNone-without (page_at pages table (rid / 2048)) (rid % 2048)
      (ap (λ (page : Page). page.image) (cell_at-past no_page pages table (rid / 2048) past));
}

-- a page with a new image
pub AreShown-set : (blocks : AllVersions) (floor : ℕ) (pages : List (List Page)) (table number : ℕ) (page : Page) (image : Image) → HasCell pages table number
    → AreShown blocks floor pages → page.image ≡ Some image → IsImageOf blocks table (number * 2048) image
    → AreShown blocks floor (with_cell table number page pages)
AreShown-set blocks floor pages table number page image has shown is made = record { each = each }
  where
    of_page : (place scn : ℕ) (row : Option (List Value)) → Shows page place scn row → row_at (versions_at blocks table (number * 2048 + place)) scn ≡ row
    of_page place scn row shows =
        let own = some_is shows.image image (sym shows.is ∙ is) in
        made.each place scn (subst (λ (i : Image). get_or i.fresh.items place false ≡ true) own shows.fresh) (subst (λ (i : Image). i.scn ≤ scn) own shows.from)
        ∙ (ap (λ (i : Image). slice_get i.rows place) (sym own) ∙ shows.row_is)

    each : (t n place scn : ℕ) (row : Option (List Value)) → place < 2048 → floor ≤ scn → Shows (page_at (with_cell table number page pages) t n) place scn row
        → row_at (versions_at blocks t (n * 2048 + place)) scn ≡ row
    each t n place scn row small above shows =
        either (λ (p : Page). Shows p place scn row → row_at (versions_at blocks t (n * 2048 + place)) scn ≡ row) ((table == t) && (number == n)) page
        (page_at pages t n)
        (λ are_same here. let are = both_are table number t n are_same in
        subst (λ (k : ℕ). row_at (versions_at blocks k (n * 2048 + place)) scn ≡ row) are.0
        (subst (λ (k : ℕ). row_at (versions_at blocks table (k * 2048 + place)) scn ≡ row) are.1 (of_page place scn row here)))
        (λ apart here. shown.each t n place scn row small above here)
        (subst (λ (p : Page). Shows p place scn row) (set_page pages table number page t n has) shows)

-- ---- what is shown from each floor on

pub StayShown-refl : (blocks : AllVersions) (pages : List (List Page)) → StayShown blocks pages pages
StayShown-refl blocks pages = record { each = λ floor shown. shown }

pub StayShown-trans : (blocks : AllVersions) (a b c : List (List Page)) → StayShown blocks a b → StayShown blocks b c → StayShown blocks a c
StayShown-trans blocks a b c ab bc = record { each = λ floor shown. bc.each floor (ab.each floor shown) }

pub StayShown-within : (blocks : AllVersions) (old new : List (List Page)) → ShowWithin old new → StayShown blocks old new
StayShown-within blocks old new within = record { each = λ floor shown. AreShown-within blocks floor old new shown within }

pub StayShown-set : (blocks : AllVersions) (pages : List (List Page)) (table number : ℕ) (page : Page) (image : Image) → HasCell pages table number
    → page.image ≡ Some image → IsImageOf blocks table (number * 2048) image → StayShown blocks pages (with_cell table number page pages)
StayShown-set blocks pages table number page image has is made = record {
  each = λ floor shown. AreShown-set blocks floor pages table number page image has shown is made;
}

-- ---- changes that are put in

none_either : (b : Bool) (o : Option Change) → b ≡ false → (if b then o else None) ≡ None
none_either false o is = refl
none_either true o is = absurd (true≢false is)

-- a row number that is shown is not among those that are touched
not_in : (blocks : AllVersions) (floor : ℕ) (pages : List (List Page)) (one : Ready) (table number place scn : ℕ) (row : Option (List Value))
    → AreShown blocks floor pages → HasPlace blocks one → HidesOne pages one → place < 2048 → floor ≤ scn → Shows (page_at pages table number) place scn row
    → last_change (changes_of one) table (number * 2048 + place) ≡ None
not_in blocks floor pages (Run t first rows) table number place scn row shown has hides small above shows =
    let rid = number * 2048 + place in
    last_change-put_from t first rows table rid
    ∙ none_either (is_in t first (length rows) table rid) (Some (put_of t first rows rid))
    (⊎_elim
    (λ (inside : is_in t first (length rows) table rid ≡ true). absurd (some_row (has.free.each table rid inside)))
    (λ (outside : is_in t first (length rows) table rid ≡ false). outside)
    (cases_Bool (is_in t first (length rows) table rid)))
  where
    some_row : versions_at blocks table (number * 2048 + place) ≡ [] → ⊥
    some_row none =
        let read = shown.each table number place scn row small above shows in
        let found = slice_get-get_or shows.image.rows place [] shows.there in
        let nothing : None ≡ row = ap (λ (vs : List Version). row_at vs scn) (sym none) ∙ read in
        true≢false (sym (ap is_some (nothing ∙ (sym shows.row_is ∙ found))))
not_in blocks floor pages (One change) table number place scn row shown has hides small above shows =
    last_change-cons change [] table (number * 2048 + place)
    ∙ none_either (is_to table (number * 2048 + place) change) (Some change)
    (⊎_elim
    (λ (is : is_to table (number * 2048 + place) change ≡ true). absurd (hidden is))
    (λ (apart : is_to table (number * 2048 + place) change ≡ false). apart)
    (cases_Bool (is_to table (number * 2048 + place) change)))
  where
    hidden : is_to table (number * 2048 + place) change ≡ true → ⊥
    hidden is =
        let sides = and-true (change.table == table) (change.rid == number * 2048 + place) is in
        let table_is = eq-true change.table table sides.0 in
        let rid_is = eq-true change.rid (number * 2048 + place) sides.1 in
        let at : number ≡ change.rid / 2048 = omega (arith, rid_is, small) in
        let in_page : place ≡ change.rid % 2048 = omega (arith, rid_is, small) in
        hides.none scn row
        (subst (λ (k : ℕ). Shows (page_at pages change.table (change.rid / 2048)) k scn row) in_page
        (subst (λ (k : ℕ). Shows (page_at pages change.table k) place scn row) at
        (subst (λ (k : ℕ). Shows (page_at pages k number) place scn row) (sym table_is) shows)))

or_none : (o p : Option Change) → o ≡ None → p ≡ None → option_or o p ≡ None
or_none o p first second = rw (first, second) refl

untouched : (blocks : AllVersions) (floor : ℕ) (pages : List (List Page)) (ready : List Ready) (table number place scn : ℕ) (row : Option (List Value))
    → AreShown blocks floor pages → All (HasPlace blocks) ready → All (HidesOne pages) ready → place < 2048 → floor ≤ scn → Shows (page_at pages table number) place scn row
    → last_change (ready_changes ready) table (number * 2048 + place) ≡ None
untouched blocks floor pages [] table number place scn row shown places hidden small above shows = refl
untouched blocks floor pages (one ∷ ready) table number place scn row shown places hidden small above shows =
    let rid = number * 2048 + place in
    last_change-append (changes_of one) (ready_changes ready) table rid
    ∙ or_none (last_change (ready_changes ready) table rid) (last_change (changes_of one) table rid)
    (untouched blocks floor pages ready table number place scn row shown (All-tail (HasPlace blocks) one ready places) (All-tail (HidesOne pages) one ready hidden) small
    above shows)
    (not_in blocks floor pages one table number place scn row shown (All-head (HasPlace blocks) one ready places) (All-head (HidesOne pages) one ready hidden) small
    above shows)

-- what is still shown is what the versions have once changes are put in
pub AreShown-applied : (old new : AllVersions) (floor scn : ℕ) (before pages : List (List Page)) (ready : List Ready) → AreShown old floor before
    → All (HasPlace old) ready → AreNoted before pages ready → Applied old new scn (ready_changes ready) → AreShown new floor pages
AreShown-applied old new floor scn before pages ready shown places noted applied = record { each = each }
  where
    still : AreShown old floor pages
    still = AreShown-within old floor before pages shown noted.within

    each : (table number place n : ℕ) (row : Option (List Value)) → place < 2048 → floor ≤ n → Shows (page_at pages table number) place n row
        → row_at (versions_at new table (number * 2048 + place)) n ≡ row
    each table number place n row small above shows =
        let rid = number * 2048 + place in
        let none = untouched old floor pages ready table number place n row still places noted.gone small above shows in
        let by_none : version_by scn (ready_changes ready) table rid ≡ [] =
        ap (λ (o : Option Change). version_of scn o) none in
        ap (λ (vs : List Version). row_at vs n)
        (applied.versions table rid
        ∙ (ap (λ (vs : List Version). versions_at old table rid ++ vs) by_none ∙ append-nil (versions_at old table rid)))
        ∙ still.each table number place n row small above shows

-- ---- changes that are noted

pub hides_now : (old new : List (List Page)) (one : Ready) → IsNotedAt old new (place_in one).0 (place_in one).1 → HidesOne new one
hides_now old new (Run table first rows) noted = tt
hides_now old new (One change) noted = noted.gone

-- one change more is noted, or need not be
pub hidden-next : (old new : List (List Page)) (ready : List Ready) (at : ℕ) (one : Ready) → at < length ready → one ≡ get_or ready at one
    → All (HidesOne old) (take at ready) → ShowWithin old new → HidesOne new one → All (HidesOne new) (take (at + 1) ready)
hidden-next old new ready at one within is hidden less hides =
    let next : take (at + 1) ready ≡ take at ready ++ one ∷ [] = take-next ready at one within ∙ ap (λ (r : Ready). take at ready ++ r ∷ []) (sym is) in
    subst (All (HidesOne new)) (sym next)
    (All-push (HidesOne new) (take at ready) one (hide_still old new (take at ready) less hidden) hides)

-- ---- rows that are read from an image

-- the page that was found
pub page_found : (pages : List (List Page)) (table number : ℕ) (page : Page) → slice_get (row_of pages table) number ≡ Some page → page_at pages table number ≡ page
unfolding cell_at
page_found pages table number page is = got (row_of pages table) number page no_page is

-- its image shows what stands there
pub IsReadable-shown : (blocks : AllVersions) (floor : ℕ) (pages : List (List Page)) (table number scn : ℕ) (page : Page) (image : Image)
    → AreShown blocks floor pages → page_at pages table number ≡ page → page.image ≡ Some image → floor ≤ scn → image.scn ≤ scn
    → IsReadable blocks table number scn image
IsReadable-shown blocks floor pages table number scn page image shown found is above from = record {
  each = λ place in_page there fresh. shown.each table number place scn (slice_get image.rows place) in_page above (record {
    image = image;
    is = ap (λ (p : Page). p.image) found ∙ is;
    fresh = fresh;
    there = there;
    from = from;
    row_is = refl;
  });
}

-- and so does a row of it
pub shown-at : (blocks : AllVersions) (table rid scn : ℕ) (image : Image) (row : List Value) → IsReadable blocks table (rid / 2048) scn image
    → IsFresh image (rid % 2048) row → row_at (versions_at blocks table rid) scn ≡ Some row
shown-at blocks table rid scn image row readable fresh =
    let here : rid / 2048 * 2048 + rid % 2048 ≡ rid = omega arith in
    ap (λ (n : ℕ). row_at (versions_at blocks table n) scn) (sym here)
    ∙ (readable.each (rid % 2048) (omega arith) fresh.there fresh.fresh ∙ fresh.is)

rows_at-shown : (b : AllVersions) (table scn first : ℕ) (rows : List (List Value)) (count place : ℕ) → place + count ≤ length rows
    → ((p : ℕ) → place ≤ p → p < place + count → row_at (versions_at b table (first + p)) scn ≡ slice_get rows p)
    → rows_at b table (first + place) count scn ≡ run_from (first + place) (take count (drop place rows))
rows_at-shown b table scn first rows zero place within each = refl
rows_at-shown b table scn first rows (suc count) place within each =
    ap (λ (row : Option (List Value)). (first + place, row) ∷ rows_at b table (first + place + 1) count scn) (each place (omega arith) (omega arith) ∙ found)
    ∙ (ap (λ (n : ℕ). (first + place, Some row) ∷ rows_at b table n count scn) next
    ∙ (ap (λ (l : List (ℕ × Option (List Value))). (first + place, Some row) ∷ l)
    (rows_at-shown b table scn first rows count (place + 1) (omega (arith, within)) (λ p low high. each p (omega (arith, low)) (omega (arith, high)))
    ∙ ap (λ (n : ℕ). run_from n (take count (drop (place + 1) rows))) (sym next))
    ∙ ap (λ (l : List (List Value)). run_from (first + place) (take (suc count) l)) (sym (drop-got rows place row found))))
  where
    row : List Value
    row = get_or rows place []

    found : slice_get rows place ≡ Some row
    found = slice_get-get_or rows place [] (omega (arith, within))

    next : first + place + 1 ≡ first + (place + 1)
    next = omega arith

-- rows of an image, read up to a row number
pub AreRead-shown : (b : AllVersions) (asked : Asked) (rid next : ℕ) (image : Image) (old new : Gathered) → IsReadable b asked.table (rid / 2048) asked.scn image
    → IsShownTo image asked rid next → rid < next → Gathers old new (run_from rid (take (next - rid) (drop (rid % 2048) image.rows)))
    → AreRead b asked rid next old new
AreRead-shown b asked rid next image old new readable shown some gathers = record {
  from = some;
  upto = shown.upto;
  rows = Gathers-same old new _ _ (sym read) gathers;
}
  where
    first : ℕ
    first = rid / 2048 * 2048

    here : first + rid % 2048 ≡ rid
    here = omega arith

    each : (p : ℕ) → rid % 2048 ≤ p → p < rid % 2048 + (next - rid) → row_at (versions_at b asked.table (first + p)) asked.scn ≡ slice_get image.rows p
    each p low high =
        let in_page = shown.in_page in
        let within = shown.within some in
        readable.each p (omega (arith, high, in_page)) (omega (arith, high, within)) (shown.each p low high)

    read : rows_at b asked.table rid (next - rid) asked.scn ≡ run_from rid (take (next - rid) (drop (rid % 2048) image.rows))
    read =
        ap (λ (n : ℕ). rows_at b asked.table n (next - rid) asked.scn) (sym here)
        ∙ (rows_at-shown b asked.table asked.scn first image.rows (next - rid) (rid % 2048) (shown.within some) each
        ∙ ap (λ (n : ℕ). run_from n (take (next - rid) (drop (rid % 2048) image.rows))) here)
