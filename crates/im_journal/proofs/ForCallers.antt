-- What is stale, by the rows noted; and why the first note of each row is enough.
use Rattle.std.proofs.Common.{◌≡◌, ℕ, ◌≤◌, Bool, true, false, ◌||◌, ◌==◌, nat_le, List, [], ◌∷◌, ◌++◌, ◌-◌, length, fold, get_or, All, ⊎_elim, sym, refl, ap, ◌∙◌, subst, arith, le_of_eq, Some, append_assoc, append-nil, ne_eqb, le-leb, leb-true, true≢false}
use Rattle.std.specs.List.Sorted.{IsStrictlyIncreasing, IsNonDecreasingBy}
use Rattle.std.proofs.lemmas.Bool.{cases_eq}
use Rattle.std.proofs.lemmas.List.{length-append, length_push, get_or_append_left, get_or_at, get_or_push}
use Rattle.std.proofs.lemmas.Option.{slice_get-get_or}
use Rattle.std.specs.Option.{option_map}
use Rattle.std.proofs.lemmas.List.Elements.{filter-append, All-head, All-tail}
use Rattle.std.proofs.lemmas.List.Folds.{list_any-append}
use Rattle.im_journal.specs.Stale.{Note, last_scn, is_noted, noted, first_notes, notes_to, rows_of, is_in, stale_rows, stale_rows_at}
use Rattle.im_journal.proofs.RisingLemmas as lists

-- the stale rows rise
pub stale_rows-increasing : (notes : List Note) → IsStrictlyIncreasing (stale_rows notes)
stale_rows-increasing notes = lists.increasing_from_rises (stale_rows notes) (lists.rising-rises (rows_of notes))

-- two rising lists of the same numbers are one
pub same_rising : (xs ys : List ℕ) → IsStrictlyIncreasing xs → IsStrictlyIncreasing ys → ((n : ℕ) → is_in xs n ≡ is_in ys n) → xs ≡ ys
same_rising xs ys up_x up_y same = lists.same_rising xs ys (lists.rises_from_increasing xs up_x) (lists.rises_from_increasing ys up_y) same

is_in-rows_of : (notes : List Note) (row : ℕ) → is_in (rows_of notes) row ≡ is_noted notes row
is_in-rows_of [] row = refl
is_in-rows_of (note ∷ notes) row = rw (lists.eqb_sym note.0 row, is_in-rows_of notes row) refl

-- a row is stale where it was noted
pub is_in-stale_rows : (notes : List Note) (row : ℕ) → is_in (stale_rows notes) row ≡ is_noted notes row
is_in-stale_rows notes row = lists.is_in-rising (rows_of notes) row ∙ is_in-rows_of notes row

-- two lists of notes name the same rows, at each SCN and at all
record SameRows (kept all : List Note) : Type 0 where
  ever : (row : ℕ) → is_noted kept row ≡ is_noted all row
  to : (scn row : ℕ) → is_noted (notes_to scn kept) row ≡ is_noted (notes_to scn all) row

or_false : (b : Bool) → b || false ≡ b
or_false true = refl
or_false false = refl

or_absorbs : (b c : Bool) → b ≡ true → b ≡ b || c
or_absorbs true c e = refl
or_absorbs false c e = absurd (true≢false (sym e))

-- a number that is known where it would be added changes nothing
add_known : (known there : Bool) (row n : ℕ) → known ≡ there → (row ≡ n → there ≡ true) → known ≡ there || ((row == n) || false)
add_known known there row n same is_there =
    ⊎_elim (λ (is : row ≡ n). same ∙ or_absorbs there ((row == n) || false) (is_there is))
    (λ (apart : row ≡ n → ⊥). rw (ne_eqb row n apart) (same ∙ sym (or_false there))) (cases_eq row n)

-- all are noted by an SCN that none is above
all_to : (scn : ℕ) (notes : List Note) → All (λ (note : Note). note.1 ≤ scn) notes → notes_to scn notes ≡ notes
all_to scn [] below = refl
all_to scn (note ∷ notes) below =
    rw (le-leb note.1 scn (All-head (λ (n : Note). n.1 ≤ scn) note notes below))
    (ap (λ l. note ∷ l) (all_to scn notes (All-tail (λ (n : Note). n.1 ≤ scn) note notes below)))

again_to : (b : Bool) (kept all : List Note) (note : Note) → SameRows kept all → is_noted kept note.0 ≡ true →
    All (λ (earlier : Note). earlier.1 ≤ note.1) all → (scn row : ℕ) → nat_le note.1 scn ≡ b →
    is_noted (notes_to scn kept) row ≡ is_noted (notes_to scn all ++ notes_to scn (note ∷ [])) row
again_to false kept all note same there earlier scn row after = rw (after, append-nil (notes_to scn all)) (same.to scn row)
again_to true kept all note same there earlier scn row after =
    let upto : All (λ (n : Note). n.1 ≤ scn) all = λ k d h. omega (arith, earlier k d h, leb-true note.1 scn after) in
    let whole = all_to scn all upto in
    let known : row ≡ note.0 → is_noted (notes_to scn all) row ≡ true = λ is. rw whole (sym (same.ever row) ∙ (ap (is_noted kept) is ∙ there)) in
    rw (after, list_any-append (λ (n : Note). row == n.0) (notes_to scn all) (note ∷ []))
    (add_known (is_noted (notes_to scn kept) row) (is_noted (notes_to scn all) row) row note.0 (same.to scn row) known)

-- a note whose row was noted before adds no row
again : (kept all : List Note) (note : Note) → SameRows kept all → is_noted kept note.0 ≡ true → All (λ (earlier : Note). earlier.1 ≤ note.1) all →
    SameRows kept (all ++ note ∷ [])
again kept all note same there earlier = record {
  ever =
      λ row. rw (list_any-append (λ (n : Note). row == n.0) all (note ∷ []))
      (add_known (is_noted kept row) (is_noted all row) row note.0 (same.ever row) (λ is. sym (same.ever row) ∙ (ap (is_noted kept) is ∙ there)));
  to =
      λ scn row. rw (filter-append (λ (n : Note). nat_le n.1 scn) all (note ∷ []))
      (again_to (nat_le note.1 scn) kept all note same there earlier scn row refl);
}

-- the first note of a row adds it to both
fresh : (kept all : List Note) (note : Note) → SameRows kept all → SameRows (kept ++ note ∷ []) (all ++ note ∷ [])
fresh kept all note same = record {
  ever =
      λ row. rw (list_any-append (λ (n : Note). row == n.0) kept (note ∷ []), list_any-append (λ (n : Note). row == n.0) all (note ∷ []), same.ever row) refl;
  to =
      λ scn row. rw (
        filter-append (λ (n : Note). nat_le n.1 scn) kept (note ∷ []),
        filter-append (λ (n : Note). nat_le n.1 scn) all
            (note ∷ []),
        list_any-append (λ (n : Note). row == n.0) (notes_to scn kept) (notes_to scn (note ∷ [])),
        list_any-append (λ (n : Note). row == n.0)
            (notes_to scn all) (notes_to scn (note ∷ [])),
        same.to scn row,
      ) refl;
}

one_more : (b : Bool) (kept all : List Note) (note : Note) → SameRows kept all → is_noted kept note.0 ≡ b →
    All (λ (earlier : Note). earlier.1 ≤ note.1) all → SameRows (noted kept note) (all ++ note ∷ [])
one_more true kept all note same is earlier = rw is (again kept all note same is earlier)
one_more false kept all note same is earlier = rw is (fresh kept all note same)

-- the notes made so far are not above the next
earlier_ones : (done : List Note) (note : Note) (rest : List Note) → IsNonDecreasingBy (λ (n : Note). n.1) (done ++ note ∷ rest) →
    All (λ (earlier : Note). earlier.1 ≤ note.1) done
earlier_ones done note rest up k d inside =
    let long = length-append done (note ∷ rest) in
    let here : get_or (done ++ note ∷ rest) k d ≡ get_or done k d = get_or_append_left done (note ∷ rest) d k inside in
    let next : get_or (done ++ note ∷ rest) (length done) d ≡ note = get_or_at done note rest d (length done) refl in
    let rises : (get_or (done ++ note ∷ rest) k d).1 ≤ (get_or (done ++ note ∷ rest) (length done) d).1 = up k (length done) d (omega arith) (omega arith) in
    rw next at (rw here at rises)

keep_on : (rest kept done : List Note) → SameRows kept done → IsNonDecreasingBy (λ (n : Note). n.1) (done ++ rest) →
    SameRows (fold noted kept rest) (done ++ rest)
keep_on [] kept done same up = rw (append-nil done) same
keep_on (note ∷ rest) kept done same up =
    let joined : (done ++ note ∷ []) ++ rest ≡ done ++ note ∷ rest = append_assoc done (note ∷ []) rest in
    let more = one_more (is_noted kept note.0) kept done note same refl (earlier_ones done note rest up) in
    subst (λ (l : List Note). SameRows (fold noted (noted kept note) rest) l) joined
    (keep_on rest (noted kept note) (done ++ note ∷ []) more (subst (λ (l : List Note). IsNonDecreasingBy (λ (n : Note). n.1) l) (sym joined) up))

first_same : (notes : List Note) → IsNonDecreasingBy (λ (n : Note). n.1) notes → SameRows (first_notes notes) notes
first_same notes up = keep_on notes [] [] (record { ever = λ row. refl; to = λ scn row. refl }) up

-- of notes whose SCNs do not fall, the first of each row number make the same rows stale at each SCN
pub stale_rows_at-first_notes : (notes : List Note) (scn : ℕ) → IsNonDecreasingBy (λ (n : Note). n.1) notes →
    stale_rows_at (first_notes notes) scn ≡ stale_rows_at notes scn
stale_rows_at-first_notes notes scn up =
    same_rising (stale_rows_at (first_notes notes) scn) (stale_rows_at notes scn) (stale_rows-increasing (notes_to scn (first_notes notes)))
    (stale_rows-increasing (notes_to scn notes))
    (λ n. is_in-stale_rows (notes_to scn (first_notes notes)) n ∙ ((first_same notes up).to scn n ∙ sym (is_in-stale_rows (notes_to scn notes) n)))

-- and at all
pub stale_rows-first_notes : (notes : List Note) → IsNonDecreasingBy (λ (n : Note). n.1) notes → stale_rows (first_notes notes) ≡ stale_rows notes
stale_rows-first_notes notes up =
    same_rising (stale_rows (first_notes notes)) (stale_rows notes) (stale_rows-increasing (first_notes notes)) (stale_rows-increasing notes)
    (λ n. is_in-stale_rows (first_notes notes) n ∙ ((first_same notes up).ever n ∙ sym (is_in-stale_rows notes n)))

-- after a note the last SCN is not above it
last_scn-noted_by : (b : Bool) (notes : List Note) (row scn : ℕ) → is_noted notes row ≡ b → ((last : ℕ) → last_scn notes ≡ Some last → last ≤ scn) →
    (last : ℕ) → last_scn (noted notes (row, scn)) ≡ Some last → last ≤ scn
last_scn-noted_by true notes row scn is later last there = later last (rw is at there)
last_scn-noted_by false notes row scn is later last there =
    let long = length_push notes (row, scn) in
    let place : length (notes ++ (row, scn) ∷ []) - 1 ≡ length notes = omega (arith, long) in
    let newest : last_scn (notes ++ (row, scn) ∷ []) ≡ Some scn =
    rw place (ap (option_map (λ (n : Note). n.1)) (slice_get-get_or (notes ++ (row, scn) ∷ []) (length notes) (row, scn) (omega (arith, long))
    ∙ ap Some (get_or_push notes (row, scn) (row, scn) (length notes) refl))) in
    let same : Some scn ≡ Some last = sym newest ∙ (rw is at there) in
    le_of_eq (cc)

pub last_scn-noted : (notes : List Note) (row scn : ℕ) → ((last : ℕ) → last_scn notes ≡ Some last → last ≤ scn) → (last : ℕ) →
    last_scn (noted notes (row, scn)) ≡ Some last → last ≤ scn
last_scn-noted notes row scn later last there = last_scn-noted_by (is_noted notes row) notes row scn refl later last there
