-- Which extents may be built, as a history says it.
use Rattle.std.proofs.Common.{◌≡◌, ℕ, ◌≤◌, ◌&&◌, Bool, not, List, [], ◌∷◌, length, All, Option, Some, None, is_none, refl, sym, ap, ap₂, ◌∙◌, le-leb}
use Rattle.std.specs.Option.{option_map}
use Rattle.std.proofs.lemmas.List.Elements.{All-head, All-tail}
use Rattle.im_journal.specs.Stale.{Note, notes_to, stale_rows, stale_rows_at}
use Rattle.im_history.specs.Commits.{scn}
use Rattle.im_history.specs.Contents.{count_present}
use Rattle.im_history.specs.Extents.{Extent}
use Rattle.im_history.specs.History.{History}
use Rattle.im_history.specs.Queue as Queue
use Rattle.im_history.specs.Queue.{waits}
use Rattle.im_history.specs.Units.{Content, stale, unit}
use Rattle.im_history.specs.Views.{per_at}
use Rattle.im_directory.specs.Agrees.{Agrees, IsStock, scn_of}
use Rattle.im_directory.specs.Lists.{is_due, is_empty, is_free, is_stale, is_unit}
use Rattle.im_directory.specs.Slots.{Growth, Kept, Stock, told_at}
use Rattle.im_directory.proofs.StaleLemmas.{stale-noted}

none_mapped : {X Y : Type 0} (f : X → Y) (o : Option X) → is_none o ≡ is_none (option_map f o)
none_mapped f None = refl
none_mapped f (Some x) = refl

-- notes of which none is of a later commit are all those up to it
all_to : (to : ℕ) (notes : List Note) → All (λ (note : Note). note.1 ≤ to) notes → notes_to to notes ≡ notes
all_to to [] below = refl
all_to to (note ∷ notes) below =
    rw (le-leb note.1 to (All-head (λ (n : Note). n.1 ≤ to) note notes below))
    (ap (λ (l : List Note). note ∷ l) (all_to to notes (All-tail (λ (n : Note). n.1 ≤ to) note notes below)))

-- the extent of this number of a table
abbrev pub extent_at : ℕ → ℕ → Extent
extent_at table extent = record { table = table; number = extent }

module _ {U : Type 0} (content : U → Content) where
  -- a build may begin where the history lets one begin
  pub free-by : (h : History) (kept : Kept U) (table extent : ℕ) → Agrees content h kept →
      is_free (told_at kept table extent) ≡ Queue.is_free h (extent_at table extent)
  free-by h kept table extent agrees =
      ap₂ (λ (a b : Bool). a && not b)
      (none_mapped (λ (g : Growth). g.id) (told_at kept table extent).growing ∙ ap is_none (agrees.living table extent))
      (agrees.waits table extent)

  -- a build may begin and there is no unit where the history has none
  pub empty-by : (h : History) (kept : Kept U) (table extent : ℕ) → Agrees content h kept →
      is_empty (told_at kept table extent) ≡ (Queue.is_free h (extent_at table extent) && is_none (unit h table extent))
  empty-by h kept table extent agrees =
      ap₂ (λ (a b : Bool). a && b) (free-by h kept table extent agrees)
      (none_mapped (λ (s : Stock U). (content s.unit).scn) (told_at kept table extent).current ∙ ap is_none (agrees.units table extent))

  -- a current unit meets the tests that the history's meets
  stock_tested : (test : ℕ → ℕ → Bool) (h : History) (table extent : ℕ) (stock : Stock U) → IsStock content h table extent stock → 1 ≤ per_at h table →
      test (count_present (content stock.unit).rows) (length (stale_rows stock.notes))
      ≡ Queue.is_unit test h (extent_at table extent) (Some (content stock.unit).scn)
  stock_tested test h table extent stock is some =
      let noted : stale h table extent (content stock.unit).scn (scn h) ≡ stale_rows_at stock.notes (scn h) =
      stale-noted h table extent (content stock.unit).scn stock.notes (scn h) is.journal some in
      let all : stale_rows_at stock.notes (scn h) ≡ stale_rows stock.notes = ap stale_rows (all_to (scn h) stock.notes is.journal.to) in
      ap₂ test (ap (λ (c : Content). count_present c.rows) is.holds) (ap length (sym (noted ∙ all)))

  unit_by : (test : ℕ → ℕ → Bool) (h : History) (kept : Kept U) (table extent : ℕ) (current : Option (Stock U)) → Agrees content h kept →
      1 ≤ per_at h table → (told_at kept table extent).current ≡ current →
      is_unit content test current ≡ Queue.is_unit test h (extent_at table extent) (scn_of content current)
  unit_by test h kept table extent None agrees some is = refl
  unit_by test h kept table extent (Some stock) agrees some is = stock_tested test h table extent stock (agrees.stock table extent stock is) some

  -- a build may begin, and the unit meets a test, where the history's does
  tested-by : (test : ℕ → ℕ → Bool) (h : History) (kept : Kept U) (table extent : ℕ) → Agrees content h kept → 1 ≤ per_at h table →
      (is_free (told_at kept table extent) && is_unit content test (told_at kept table extent).current)
      ≡ (Queue.is_free h (extent_at table extent) && Queue.is_unit test h (extent_at table extent) (unit h table extent))
  tested-by test h kept table extent agrees some =
      ap₂ (λ (a b : Bool). a && b) (free-by h kept table extent agrees)
      (unit_by test h kept table extent (told_at kept table extent).current agrees some refl
      ∙ ap (Queue.is_unit test h (extent_at table extent)) (agrees.units table extent))

  -- a unit is past the threshold where the history's is
  pub due-by : (h : History) (kept : Kept U) (table extent : ℕ) → Agrees content h kept → 1 ≤ per_at h table →
      is_due content (told_at kept table extent) ≡ Queue.is_due h (extent_at table extent)
  due-by h kept table extent agrees some = tested-by Queue.is_past_threshold h kept table extent agrees some

  -- a unit has a stale row where the history's has
  pub is_stale-by : (h : History) (kept : Kept U) (table extent : ℕ) → Agrees content h kept → 1 ≤ per_at h table →
      is_stale content (told_at kept table extent) ≡ Queue.is_stale h (extent_at table extent)
  is_stale-by h kept table extent agrees some = tested-by Queue.has_stale h kept table extent agrees some
