-- The parts of one scan, whose extents were pinned at histories of their own, merged to one.
use Rattle.std.specs.Prelude.{◌≡◌, ℕ, ◌+◌, ◌≤◌, List, [], ◌∷◌, ◌++◌, length, Option, ⊤}
use Rattle.im_syntax.specs.declared.bound.Bound.{Bound}
use Rattle.im_history.specs.declared.view.View.{View}
use Rattle.im_history.specs.Commits.{scn}
use Rattle.im_history.specs.Grid.{extents_for}
use Rattle.im_history.specs.History.{History}
use Rattle.im_history.specs.Rows.{Row}
use Rattle.im_history.specs.Units.{Content}
use Rattle.im_group.specs.Partials.{Parts, partial, merged}
use Rattle.im_scan.specs.Parts.{part_of}
use Rattle.im_scan.specs.Pinned.{IsPinned, seen_all}

-- what the pin of an extent gave, and the entries that the history had got by then since the scan was opened
pub record LaterPin : Type 0 where
  pub since : History
  pub unit : Option Content
  pub fetched : List (ℕ × Option Row)

-- the extents from this one on were pinned for a view, each at a history that goes on from the one of the scan's opening
abbrev pub ArePinned : History → View → ℕ → List LaterPin → Type 0
ArePinned opening view extent [] = ⊤
ArePinned opening view extent (pin ∷ pins) =
    IsPinned (opening ++ pin.since) view extent pin.unit pin.fetched × ArePinned opening view (extent + 1) pins

-- the parts of the extents from this one on, each merged into what those before it gave
abbrev pub merged_with : Parts → Bound → View → ℕ → List LaterPin → Parts
merged_with before bound view extent [] = before
merged_with before bound view extent (pin ∷ pins) =
    merged_with (merged before (part_of pin.unit pin.fetched view extent bound)) bound view (extent + 1) pins

-- all extents of a view were pinned, from the first to the last
pub record AreAllPinned (opening : History) (view : View) (pins : List LaterPin) : Type 0 where
  pub known : view.scn ≤ scn opening
  pub some : 1 ≤ view.per
  pub cut : view.extents ≡ extents_for view.rows view.per
  pub all : length pins ≡ view.extents
  pub each : ArePinned opening view 0 pins

-- merged, the parts of all extents are the partial answer over exactly the rows that the view sees, as at the opening
abbrev pub GiveOneAnswer : Type 0
GiveOneAnswer =
    (bound : Bound) (opening : History) (view : View) (pins : List LaterPin) → AreAllPinned opening view pins
    → merged_with (partial bound []) bound view 0 pins ≡ partial bound (seen_all opening view)
