-- Which rows are noted once a commit noted its changes.
use Rattle.std.proofs.Common.{◌≡◌, ℕ, ◌+◌, ◌/◌, ◌≤◌, ◌<◌, Bool, true, false, ◌==◌, ◌&&◌, ◌||◌, nat_le, nat_lt, List, [], ◌∷◌, ◌++◌, map, filter, All, if◌then◌else◌, refl, sym, ap, ap₂, ◌∙◌, ⊎_elim, arith}
use Rattle.std.specs.List.{list_any}
use Rattle.std.proofs.lemmas.Bool.{false≢true, cases_eq, cases_lt, eq-eqb, leb-true, ne_eqb, le-leb, lt-leb, lt-ltb, le-ltb}
use Rattle.std.proofs.lemmas.List.Elements.{All-head, All-push, All-tail, filter-append}
use Rattle.std.proofs.lemmas.List.Folds.{list_any-append}
use Rattle.im_journal.specs.Stale.{Note, is_noted, noted, notes_to}
use Rattle.im_history.specs.declared.change.Change.{Change}
use Rattle.im_history.specs.declared.look.TableInfo.{TableInfo}
use Rattle.im_history.specs.Grid.{per_extent}
use Rattle.im_history.specs.Tables.{table_among}
use Rattle.im_history.specs.Touched.{is_to, touches}
use Rattle.im_history.specs.Views.{grid_of}
use Rattle.im_directory.specs.Effects.{extent_in, is_in_extent, notes_of, with_notes}

-- the notes are of commits up to this one
abbrev pub AreUpTo : ℕ → List Note → Type 0
AreUpTo scn notes = All (λ (note : Note). note.1 ≤ scn) notes

-- all of them are noted by an SCN that none is above
all_to : (to : ℕ) (notes : List Note) → AreUpTo to notes → notes_to to notes ≡ notes
all_to to [] upto = refl
all_to to (note ∷ notes) upto =
    rw (le-leb note.1 to (All-head (λ (n : Note). n.1 ≤ to) note notes upto))
    (ap (λ l. note ∷ l) (all_to to notes (All-tail (λ (n : Note). n.1 ≤ to) note notes upto)))

-- ---- Booleans

or_none : (a l : Bool) → a ≡ a || (l && false)
or_none true l = refl
or_none false true = refl
or_none false false = refl

one_and_more : (a l x y : Bool) → (a || (l && x)) || (l && y) ≡ a || (l && (x || y))
one_and_more true l x y = refl
one_and_more false true x y = refl
one_and_more false false x y = refl

under_extent : (g b l x : Bool) → (g && b) || (l && (g && x)) ≡ g && (b || (l && x))
under_extent true b l x = refl
under_extent false b true x = refl
under_extent false b false x = refl

both_under : (g a b : Bool) → (g && a) || (g && b) ≡ g && (a || b)
both_under true a b = refl
both_under false a b = refl

known_before : (here : Bool) → here ≡ true → (x : Bool) → here ≡ here || x
known_before true is x = refl
known_before false is x = absurd (false≢true is)

or_of : (a b : Bool) → (a || false) || b ≡ a || b
or_of true b = refl
or_of false b = refl

none_here : (g : Bool) → false ≡ g && false
none_here true = refl
none_here false = refl

none_both : (a g t : Bool) → a && false ≡ g && (t && false)
none_both true true true = refl
none_both true true false = refl
none_both true false t = refl
none_both false true true = refl
none_both false true false = refl
none_both false false t = refl

front_true : (t s : Bool) → (t && true) && s ≡ t && s
front_true true s = refl
front_true false s = refl

front_false : (t r : Bool) → (t && false) && r ≡ false
front_false true r = refl
front_false false r = refl

one_by : (t e g r s : Bool) → e ≡ g → r ≡ s → (t && e) && r ≡ g && (t && s)
one_by t e true r s same equal = rw (same, equal) (front_true t s)
one_by t e false r s same equal = rw same (front_false t r)

-- ---- one note more

known_by : (l : Bool) (notes : List Note) (row scn to rid : ℕ) → AreUpTo scn notes → is_noted notes row ≡ true → nat_le scn to ≡ l →
    is_noted (notes_to to notes) rid ≡ is_noted (notes_to to notes) rid || (l && ((rid == row) || false))
known_by false notes row scn to rid upto known after = or_none (is_noted (notes_to to notes) rid) false
known_by true notes row scn to rid upto known after =
    ⊎_elim (λ (is : rid ≡ row).
    let within = leb-true scn to after in
    let whole : notes_to to notes ≡ notes = all_to to notes (λ k d inside. omega (arith, upto k d inside, within)) in
    known_before (is_noted (notes_to to notes) rid) (ap (λ (l : List Note). is_noted l rid) whole ∙ (ap (is_noted notes) is ∙ known)) ((rid == row) || false))
    (λ (other : rid ≡ row → ⊥). rw (ne_eqb rid row other) (or_none (is_noted (notes_to to notes) rid) true))
    (cases_eq rid row)

fresh_by : (l : Bool) (before : List Note) (row scn rid : ℕ) →
    is_noted (before ++ (if l then (row, scn) ∷ [] else [])) rid ≡ is_noted before rid || (l && ((rid == row) || false))
fresh_by true before row scn rid = list_any-append (λ (n : Note). rid == n.0) before ((row, scn) ∷ [])
fresh_by false before row scn rid = list_any-append (λ (n : Note). rid == n.0) before []

noted_by : (b : Bool) (notes : List Note) (row scn to rid : ℕ) → AreUpTo scn notes → is_noted notes row ≡ b →
    is_noted (notes_to to (if b then notes else notes ++ (row, scn) ∷ [])) rid ≡ is_noted (notes_to to notes) rid ||
    (nat_le scn to && ((rid == row) || false))
noted_by true notes row scn to rid upto known = known_by (nat_le scn to) notes row scn to rid upto known refl
noted_by false notes row scn to rid upto fresh =
    ap (λ (l : List Note). is_noted l rid) (filter-append (λ (n : Note). nat_le n.1 to) notes ((row, scn) ∷ []))
    ∙ fresh_by (nat_le scn to) (notes_to to notes) row scn rid

upto_by : (b : Bool) (notes : List Note) (row scn : ℕ) → AreUpTo scn notes → AreUpTo scn (if b then notes else notes ++ (row, scn) ∷ [])
upto_by true notes row scn upto = upto
upto_by false notes row scn upto = All-push (λ (n : Note). n.1 ≤ scn) notes (row, scn) upto (omega arith)

-- ---- all notes of a commit

-- one of the changes that pass is to this row number
abbrev any_to : (Change → Bool) → List Change → ℕ → Bool
any_to p changes rid = list_any (λ (c : Change). p c && (rid == c.rid)) changes

-- the notes that a commit with this SCN makes of the changes that pass
abbrev made_of : (Change → Bool) → ℕ → List Change → List Note
made_of p scn changes = map (λ (c : Change). (c.rid, scn)) (filter p changes)

-- the notes after those of a commit
record AreMade (p : Change → Bool) (scn : ℕ) (changes : List Change) (notes : List Note) : Type 0 where
  upto : AreUpTo scn (with_notes (made_of p scn changes) notes)
  each : (to rid : ℕ) → is_noted (notes_to to (with_notes (made_of p scn changes) notes)) rid ≡ is_noted (notes_to to notes) rid ||
      (nat_le scn to && any_to p changes rid)

-- the same with one change more, which passes or not
record MadeBy (b : Bool) (p : Change → Bool) (scn : ℕ) (change : Change) (changes : List Change) (notes : List Note) : Type 0 where
  upto : AreUpTo scn (with_notes (map (λ (c : Change). (c.rid, scn)) (if b then change ∷ filter p changes else filter p changes)) notes)
  each : (to rid : ℕ) → is_noted (notes_to to (with_notes (map (λ (c : Change). (c.rid, scn))
      (if b then change ∷ filter p changes else filter p changes)) notes)) rid ≡ is_noted (notes_to to notes) rid ||
      (nat_le scn to && ((b && (rid == change.rid)) || any_to p changes rid))

made_by : (b : Bool) (p : Change → Bool) (scn : ℕ) (change : Change) (changes : List Change) (notes : List Note) → AreUpTo scn notes →
    ((other : List Note) → AreUpTo scn other → AreMade p scn changes other) → MadeBy b p scn change changes notes
made_by true p scn change changes notes upto rest =
    let next : List Note = noted notes (change.rid, scn) in
    let after = rest next (upto_by (is_noted notes change.rid) notes change.rid scn upto) in
    record {
      upto = after.upto;
      each = λ to rid.
          after.each to rid
          ∙ (ap (λ (b : Bool). b || (nat_le scn to && any_to p changes rid)) (noted_by (is_noted notes change.rid) notes change.rid scn to rid upto refl)
          ∙ (one_and_more (is_noted (notes_to to notes) rid) (nat_le scn to) ((rid == change.rid) || false) (any_to p changes rid)
          ∙ ap (λ (b : Bool). is_noted (notes_to to notes) rid || (nat_le scn to && b)) (or_of (rid == change.rid) (any_to p changes rid))));
    }
made_by false p scn change changes notes upto rest = let after = rest notes upto in record { upto = after.upto; each = after.each }

made : (p : Change → Bool) (scn : ℕ) (changes : List Change) (notes : List Note) → AreUpTo scn notes → AreMade p scn changes notes
made p scn [] notes upto = record { upto = upto; each = λ to rid. or_none (is_noted (notes_to to notes) rid) (nat_le scn to) }
made p scn (change ∷ changes) notes upto =
    let step = made_by (p change) p scn change changes notes upto (λ other within. made p scn changes other within) in
    record { upto = step.upto; each = step.each }

-- ---- of an extent

-- the changes that pass for an extent and are to a row are those to the row, where it is in the extent
one_to : (tables : List TableInfo) (table extent rid : ℕ) (change : Change) →
    is_in_extent tables table extent change && (rid == change.rid) ≡
    (rid / per_extent (grid_of (table_among tables table)) == extent) && is_to table rid change
one_to tables table extent rid change =
    ⊎_elim (λ (is : change.table ≡ table).
    ⊎_elim (λ (same : rid ≡ change.rid).
    one_by (change.table == table) (extent_in tables change == extent) (rid / per_extent (grid_of (table_among tables table)) == extent) (rid == change.rid)
    (change.rid == rid)
    (ap₂ (λ (r t : ℕ). r / per_extent (grid_of (table_among tables t)) == extent) (sym same) is)
    (eq-eqb rid change.rid same ∙ sym (eq-eqb change.rid rid (sym same))))
    (λ (other : rid ≡ change.rid → ⊥).
    let first : (rid == change.rid) ≡ false = ne_eqb rid change.rid other in
    let second : (change.rid == rid) ≡ false = ne_eqb change.rid rid (λ e. other (sym e)) in
    rw (first, second) (none_both (is_in_extent tables table extent change) (rid / per_extent (grid_of (table_among tables table)) == extent)
    (change.table == table)))
    (cases_eq rid change.rid))
    (λ (other : change.table ≡ table → ⊥). rw (ne_eqb change.table table other) (none_here (rid / per_extent (grid_of (table_among tables table)) == extent)))
    (cases_eq change.table table)

any_to-extent : (tables : List TableInfo) (table extent rid : ℕ) (changes : List Change) →
    any_to (is_in_extent tables table extent) changes rid ≡ (rid / per_extent (grid_of (table_among tables table)) == extent) && touches changes table rid
any_to-extent tables table extent rid [] = none_here (rid / per_extent (grid_of (table_among tables table)) == extent)
any_to-extent tables table extent rid (change ∷ changes) =
    ap₂ (λ (a b : Bool). a || b) (one_to tables table extent rid change) (any_to-extent tables table extent rid changes)
    ∙ both_under (rid / per_extent (grid_of (table_among tables table)) == extent) (is_to table rid change) (touches changes table rid)

-- the notes of a commit go up to its SCN
pub notes_of-upto : (tables : List TableInfo) (scn : ℕ) (changes : List Change) (table extent : ℕ) (notes : List Note) → AreUpTo scn notes →
    AreUpTo scn (with_notes (notes_of tables scn changes table extent) notes)
notes_of-upto tables scn changes table extent notes upto = (made (is_in_extent tables table extent) scn changes notes upto).upto

-- and note the rows of the extent that its changes touch
pub is_noted-commit : (tables : List TableInfo) (scn : ℕ) (changes : List Change) (table extent : ℕ) (notes : List Note) (between : Bool) (to rid : ℕ) →
    AreUpTo scn notes → is_noted (notes_to to notes) rid ≡ (rid / per_extent (grid_of (table_among tables table)) == extent) && between →
    is_noted (notes_to to (with_notes (notes_of tables scn changes table extent) notes)) rid ≡
    (rid / per_extent (grid_of (table_among tables table)) == extent) && (between || (nat_le scn to && touches changes table rid))
is_noted-commit tables scn changes table extent notes between to rid upto before =
    (made (is_in_extent tables table extent) scn changes notes upto).each to rid
    ∙ (ap₂ (λ (a b : Bool). a || (nat_le scn to && b)) before (any_to-extent tables table extent rid changes)
    ∙ under_extent (rid / per_extent (grid_of (table_among tables table)) == extent) between (nat_le scn to) (touches changes table rid))

-- an SCN behind this one is from the next one on
pub nat_lt-next : (n to : ℕ) → nat_lt n to ≡ nat_le (n + 1) to
nat_lt-next n to =
    ⊎_elim (λ (below : n < to). lt-ltb n to below ∙ sym (le-leb (n + 1) to (omega (arith, below))))
    (λ (above : to ≤ n). le-ltb n to above ∙ sym (lt-leb (n + 1) to (omega (arith, above))))
    (cases_lt n to)
