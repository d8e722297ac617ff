-- The part of a query whose condition chooses a range of codes.
use Rattle.std.proofs.Common.{◌≡◌, ℕ, ◌+◌, ◌<◌, ◌≤◌, Bool, List, [], ◌∷◌, length, map, take, get_or, count_by, take_all, refl, sym, ap, subst, ◌∙◌, arith}
use Rattle.std.specs.Prelude.{IfSome, Option, None, Some}
use Rattle.std.proofs.lemmas.List.{length-map}
use Rattle.std.proofs.lemmas.List.FromFn.{get_or-map-range_with_len}
use Rattle.im_values.specs.declared.content.Content.{Content as Value}
use Rattle.im_syntax.specs.declared.bound.Bound.{Bound}
use Rattle.im_history.specs.Rows.{Row}
use Rattle.im_history.specs.Units.{Content}
use Rattle.im_codepred.specs.Tallies.{IsTallyOfAll, chosen}
use Rattle.im_codepred.specs.declared.tally.Tally.{Tally}
use Rattle.im_group.specs.declared.asked.Asked.{Asked}
use Rattle.im_group.specs.MadeGroups.{kept_values, with_sums}
use Rattle.im_group.specs.Partials.{Numbered, Parts}
use Rattle.im_group.specs.Sums as sums
use Rattle.im_group.specs.Tallies.{asked_in, tallied, wanted}
use Rattle.im_unit.specs.Holding.{columns_of, count_present, present_rows, values_in}
use Rattle.im_unit.proofs.ForCallers.{count-present}
use Rattle.im_scan.specs.inner.Left.{IsPartOfChosen, is_left, spots_where}
use Rattle.im_scan.proofs.LeftLemmas.{cut-none, left-where}
use Rattle.im_scan.proofs.SummedLemmas.{unit-tallied}

-- the values of a column of a unit
pub column-values : (content : Content) (column : ℕ) → column < content.columns → get_or (columns_of content) column [] ≡ values_in column (present_rows content.rows)
column-values content column inside =
    get_or-map-range_with_len (λ (k : ℕ). values_in k (present_rows content.rows)) 0 content.columns column column [] inside (omega arith)

-- a list of one element
only-one : {A : Type 0} (xs : List A) (d : A) → length xs ≡ 1 → xs ≡ get_or xs 0 d ∷ []
only-one [] d long = absurd (omega (arith, long))
only-one (x ∷ []) d long = refl
only-one (x ∷ y ∷ xs) d long = absurd (omega (arith, long))

-- what the kept rows of a unit give, by the summary of the one column that is asked
pub one-tallied : (bound : Bound) (content : Content) (keep : Row → Bool) (rows : List Numbered) (n : ℕ) (asked : List Asked) (one d : Asked) (found : sums.SumsOf) →
    length asked ≡ 1 → one ≡ get_or asked 0 d → asked ≡ asked_in (wanted bound) →
    kept_values bound rows ≡ chosen (map keep (present_rows content.rows)) (present_rows content.rows) →
    n ≡ count_by (λ chosen. chosen) (map keep (present_rows content.rows)) →
    found ≡ sums.sums_of one (chosen (map keep (present_rows content.rows)) (values_in one.column (present_rows content.rows))) →
    with_sums n (found ∷ []) ≡ tallied (asked_in (wanted bound)) (kept_values bound rows)
one-tallied bound content keep rows n asked one d found single first asks same counted summed =
    let held = present_rows content.rows in
    let spots = map keep held in
    let only : asked ≡ one ∷ [] = only-one asked d single ∙ ap (λ (a : Asked). a ∷ []) (sym first) in
    unit-tallied bound content spots rows n asked (found ∷ []) (length-map held keep ∙ sym (count-present content.rows)) same counted asks
    (ap (λ (s : sums.SumsOf). s ∷ []) summed ∙ sym (ap (map (λ (a : Asked). sums.sums_of a (chosen spots (values_in a.column held)))) only))

-- of a unit beside which nothing stands all is left
pub all-left : {X : Type 0} (bound : Bound) (content : Content) (test : Row → Bool) (beside : List (ℕ × X)) (count : ℕ) (part : Parts) → length beside ≡ 0 →
    length content.rows ≤ count → IsPartOfChosen bound content (map test (present_rows content.rows)) part →
    IsPartOfChosen bound content (spots_where (is_left (content.first + count) beside) test content.first content.rows) part
all-left {X} bound content test (row ∷ beside) count part none few is = absurd (omega (arith, none))
all-left {X} bound content test [] count part none few is =
    let kept = map test (present_rows content.rows) in
    let whole : take count content.rows ≡ content.rows = take_all count content.rows few in
    let long : length kept ≤ count_present (take count content.rows) =
    omega (arith, length-map (present_rows content.rows) test, count-present content.rows, ap count_present whole) in
    subst (λ (m : List Bool). IsPartOfChosen bound content m part)
    (left-where {X = X} content test [] count kept kept kept refl (cut-none (count_present (take count content.rows)) kept long) refl) is

-- what the values of a column come to, of the rows of a unit that are kept
pub tally-kept : (content : Content) (columns : List (List Value)) (column : ℕ) (mask kept : List Bool) (tally : Tally) → columns ≡ columns_of content → column < content.columns →
    mask ≡ kept → IsTallyOfAll mask (get_or columns column []) tally → IsTallyOfAll kept (values_in column (present_rows content.rows)) tally
tally-kept content columns column mask kept tally are inside same is =
    subst (λ m. IsTallyOfAll m (values_in column (present_rows content.rows)) tally) same
    (subst (λ vs. IsTallyOfAll mask vs tally) (ap (λ cs. get_or cs column []) are ∙ column-values content column inside) is)

-- a fact of what is there, if there is something, where another is known of it
pub if-some : {T : Type 0} (o : Option T) (P Q : T → Type 0) → ((t : T) → P t → Q t) → IfSome o P → IfSome o Q
if-some None P Q next known = known
if-some (Some t) P Q next known = next t known
