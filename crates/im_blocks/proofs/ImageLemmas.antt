-- Images as they are made.
use Prim.Native.Nat.{zero, suc}
use Rattle.std.proofs.Common.{◌≡◌, ℕ, ◌+◌, ◌*◌, ◌<◌, ◌≤◌, Bool, true, false, List, [], ◌∷◌, ◌++◌, get_or, length, Option, if◌then◌else◌, refl, sym, ap, ◌∙◌, subst, ⊎_elim, arith, le-leb}
use Rattle.std.specs.Prelude.{slice_get}
use Rattle.std.proofs.lemmas.Bool.{cases_eq, cases_lt, true≢false}
use Rattle.std.proofs.lemmas.List.{length-append}
use Rattle.im_values.specs.Stretches.{cut}
use Rattle.im_values.specs.declared.content.Content.{Content as Value}
use Rattle.im_values.proofs.ForCallers.{cut-push}
use Rattle.im_versions.specs.declared.version.Version.{Version}
use Rattle.im_versions.specs.Versions.{newest_row, row_at}
use Rattle.im_versions.proofs.ForCallers.{latest-push, newest-push, row_at-push}
use Rattle.im_blocks.specs.declared.drawing.Draft.{Draft}
use Rattle.im_blocks.specs.declared.image.Image.{Image}
use Rattle.im_blocks.specs.Chains.{AllVersions, newest_scn, versions_at}
use Rattle.im_blocks.specs.inner.Images.{Draws, DrawsRow, IsDrawnTo, IsImageOf, IsWhole, drawn}
use Rattle.im_blocks.proofs.GatherLemmas.{length-cut}
use Rattle.im_blocks.proofs.Places.{push-here}

-- a row put behind the others
pub DrawsRow-put : (old new : Draft) (row : List Value) (fresh : Bool) → IsWhole old → length row ≡ old.width → new.width ≡ old.width
    → new.values.items ≡ old.values.items ++ row → new.fresh.items ≡ old.fresh.items ++ fresh ∷ [] → DrawsRow old new row fresh
DrawsRow-put old new row fresh whole wide width_is values_is flags_is =
    let count = length old.fresh.items in
    let one : length new.fresh.items ≡ suc count = ap length flags_is ∙ (length-append old.fresh.items (fresh ∷ []) ∙ omega arith) in
    record {
      rows = ap (λ (n : ℕ). cut n new.width new.values.items) one
          ∙ (ap (λ (n : ℕ). cut (suc count) n new.values.items) width_is
          ∙ (ap (λ (l : List Value). cut (suc count) old.width l) values_is
          ∙ cut-push count old.width old.values.items row whole wide));
      flags = flags_is;
      whole = longer one;
      width_is = width_is;
    }
  where
    longer : length new.fresh.items ≡ suc (length old.fresh.items) → IsWhole new
    longer one =
        let sum : length new.values.items ≡ length old.values.items + length row = ap length values_is ∙ length-append old.values.items row in
        let product : length new.fresh.items * new.width ≡ suc (length old.fresh.items) * old.width =
        ap (λ (n : ℕ). n * new.width) one ∙ ap (λ (n : ℕ). suc (length old.fresh.items) * n) width_is in
        let all : suc (length old.fresh.items) * old.width ≡ length old.fresh.items * old.width + old.width = grind arith in
        omega (arith, sum, whole, product, all, wide)

-- versions without the newest one, and it
record EndsWith (versions : List Version) : Type 0 where
  pub before : List Version
  pub last : Version
  pub is : versions ≡ before ++ last ∷ []

ends_with : (version : Version) (versions : List Version) → EndsWith (version ∷ versions)
ends_with version [] = record { before = []; last = version; is = refl }
ends_with version (next ∷ versions) =
    let rest = ends_with next versions in
    record { before = version ∷ rest.before; last = rest.last; is = ap (λ (l : List Version). version ∷ l) rest.is }

-- from the newest version on the row is the one that it left
pub row_at-newest : (versions : List Version) (scn : ℕ) → newest_scn versions ≤ scn → row_at versions scn ≡ newest_row versions
row_at-newest [] scn upto = refl
row_at-newest (version ∷ versions) scn upto = by (ends_with version versions)
  where
    by : EndsWith (version ∷ versions) → row_at (version ∷ versions) scn ≡ newest_row (version ∷ versions)
    by ends =
        let newest : newest_scn (version ∷ versions) ≡ ends.last.scn =
        ap newest_scn ends.is ∙ ap (λ (o : Option ℕ). Rattle.std.specs.Option.unwrap_or o 0) (latest-push ends.before ends.last) in
        let low : ends.last.scn ≤ scn = subst (λ (n : ℕ). n ≤ scn) newest upto in
        ap (λ (vs : List Version). row_at vs scn) ends.is
        ∙ (row_at-push ends.before ends.last scn
        ∙ (ap (λ (b : Bool). if b then ends.last.row else row_at ends.before scn) (le-leb ends.last.scn scn low)
        ∙ (sym (ap (λ (o : Option Version). Rattle.std.specs.Option.option_and_then (λ (v : Version). v.row) o) (newest-push ends.before ends.last))
        ∙ ap newest_row (sym ends.is))))

-- no row is drawn yet
pub IsDrawnTo-none : (blocks : AllVersions) (table first : ℕ) (d : Draft) → d.values.items ≡ [] → d.fresh.items ≡ [] → IsDrawnTo blocks table first 0 d
IsDrawnTo-none blocks table first d no_values no_flags = record {
  long = ap length no_flags;
  whole = ap length no_values ∙ (omega arith ∙ ap (λ (n : ℕ). n * d.width) (sym (ap length no_flags)));
  each = λ i fresh. absurd (true≢false (sym fresh ∙ ap (λ (l : List Bool). get_or l i false) no_flags));
}

get_or-before : (flags : List Bool) (flag : Bool) (i : ℕ) → i < length flags → get_or (flags ++ flag ∷ []) i false ≡ get_or flags i false
get_or-before [] flag i within = absurd (omega (arith, within))
get_or-before (f ∷ flags) flag zero within = refl
get_or-before (f ∷ flags) flag (suc i) within = get_or-before flags flag i (omega (arith, within))

get_or-here : (flags : List Bool) (flag : Bool) → get_or (flags ++ flag ∷ []) (length flags) false ≡ flag
get_or-here [] flag = refl
get_or-here (f ∷ flags) flag = get_or-here flags flag

get_or-past : (flags : List Bool) (flag : Bool) (i : ℕ) → length flags < i → get_or (flags ++ flag ∷ []) i false ≡ false
get_or-past [] flag zero past = absurd (omega (arith, past))
get_or-past [] flag (suc i) past = refl
get_or-past (f ∷ flags) flag zero past = absurd (omega (arith, past))
get_or-past (f ∷ flags) flag (suc i) past = get_or-past flags flag i (omega (arith, past))

slice_get-before : (rows : List (List Value)) (row : List Value) (i : ℕ) → i < length rows → slice_get (rows ++ row ∷ []) i ≡ slice_get rows i
slice_get-before [] row i within = absurd (omega (arith, within))
slice_get-before (r ∷ rows) row zero within = refl
slice_get-before (r ∷ rows) row (suc i) within = slice_get-before rows row i (omega (arith, within))

-- the row of the next row number is drawn
pub IsDrawnTo-next : (blocks : AllVersions) (table first count : ℕ) (old new : Draft) (row : Option (List Value)) → IsDrawnTo blocks table first count old
    → Draws old new row → row ≡ newest_row (versions_at blocks table (first + count)) → IsDrawnTo blocks table first (count + 1) new
IsDrawnTo-next blocks table first count old new row so_far draws is = record {
  long = ap length draws.drawn_so.flags ∙ (length-append old.fresh.items (draws.fresh ∷ []) ∙ ap (λ (n : ℕ). n + 1) so_far.long);
  whole = draws.drawn_so.whole;
  each = each;
}
  where
    rows_long : length (drawn old) ≡ count
    rows_long = length-cut (length old.fresh.items) old.width old.values.items ∙ so_far.long

    flag_of : (i : ℕ) → get_or new.fresh.items i false ≡ get_or (old.fresh.items ++ draws.fresh ∷ []) i false
    flag_of i = ap (λ (l : List Bool). get_or l i false) draws.drawn_so.flags

    row_of : (i : ℕ) → slice_get (drawn old ++ draws.put ∷ []) i ≡ slice_get (drawn new) i
    row_of i = ap (λ (l : List (List Value)). slice_get l i) (sym draws.drawn_so.rows)

    before : (i : ℕ) → i < count → get_or new.fresh.items i false ≡ true → newest_row (versions_at blocks table (first + i)) ≡ slice_get (drawn new) i
    before i within fresh =
        let long = so_far.long in
        let was = sym (get_or-before old.fresh.items draws.fresh i (omega (arith, within, long))) ∙ (sym (flag_of i) ∙ fresh) in
        so_far.each i was
        ∙ (sym (slice_get-before (drawn old) draws.put i (omega (arith, within, rows_long))) ∙ row_of i)

    here : get_or new.fresh.items count false ≡ true → newest_row (versions_at blocks table (first + count)) ≡ slice_get (drawn new) count
    here fresh =
        let flag : draws.fresh ≡ true =
        sym (get_or-here old.fresh.items draws.fresh) ∙ (ap (λ (n : ℕ). get_or (old.fresh.items ++ draws.fresh ∷ []) n false) so_far.long
        ∙ (sym (flag_of count) ∙ fresh)) in
        sym is
        ∙ (draws.is flag
        ∙ (sym (push-here (drawn old) draws.put) ∙ (ap (slice_get (drawn old ++ draws.put ∷ [])) rows_long ∙ row_of count)))

    past : (i : ℕ) → count < i → get_or new.fresh.items i false ≡ true → newest_row (versions_at blocks table (first + i)) ≡ slice_get (drawn new) i
    past i behind fresh =
        let long = so_far.long in
        absurd (true≢false (sym fresh ∙ (flag_of i ∙ get_or-past old.fresh.items draws.fresh i (omega (arith, behind, long)))))

    each : (i : ℕ) → get_or new.fresh.items i false ≡ true → newest_row (versions_at blocks table (first + i)) ≡ slice_get (drawn new) i
    each i fresh =
        ⊎_elim (λ (within : i < count). before i within fresh)
        (λ (from : count ≤ i).
        ⊎_elim
        (λ (is_here : i ≡ count).
        subst (λ (n : ℕ). newest_row (versions_at blocks table (first + n)) ≡ slice_get (drawn new) n) (sym is_here)
        (here (subst (λ (n : ℕ). get_or new.fresh.items n false ≡ true) is_here fresh)))
        (λ (apart : i ≡ count → ⊥). past i (omega (arith, from, apart)) fresh)
        (cases_eq i count))
        (cases_lt i count)

get_or-within : (flags : List Bool) (i : ℕ) → get_or flags i false ≡ true → i < length flags
get_or-within [] i fresh = absurd (true≢false (sym fresh))
get_or-within (f ∷ flags) zero fresh = omega arith
get_or-within (f ∷ flags) (suc i) fresh = let less = get_or-within flags i fresh in omega (arith, less)

-- an image of the rows that were drawn
pub IsImageOf-drawn : (blocks : AllVersions) (table first count scn : ℕ) (d : Draft) (image : Image) → IsDrawnTo blocks table first count d
    → ((i : ℕ) → i < count → newest_scn (versions_at blocks table (first + i)) ≤ scn) → image.scn ≡ scn → image.rows ≡ drawn d
    → image.fresh.items ≡ d.fresh.items → IsImageOf blocks table first image
IsImageOf-drawn blocks table first count scn d image drawn_to newest scn_is rows_are flags_are = record { each = each }
  where
    each : (i n : ℕ) → get_or image.fresh.items i false ≡ true → image.scn ≤ n → row_at (versions_at blocks table (first + i)) n ≡ slice_get image.rows i
    each i n fresh from =
        let flag = sym (ap (λ (l : List Bool). get_or l i false) flags_are) ∙ fresh in
        let inside = get_or-within d.fresh.items i flag in
        let long = drawn_to.long in
        let upto = newest i (omega (arith, inside, long)) in
        row_at-newest (versions_at blocks table (first + i)) n (omega (arith, upto, from, scn_is))
        ∙ (drawn_to.each i flag ∙ ap (λ (l : List (List Value)). slice_get l i) (sym rows_are))
