-- The parts of extents that were pinned at histories of their own, merged.
use Rattle.std.proofs.Common.{◌≡◌, ℕ, ◌+◌, ◌≤◌, List, [], ◌∷◌, ◌++◌, length, sym, ap, ◌∙◌, arith}
use Rattle.im_syntax.specs.declared.bound.Bound.{Bound}
use Rattle.im_history.specs.declared.view.View.{View}
use Rattle.im_history.specs.Commits.{scn}
use Rattle.im_history.specs.History.{History}
use Rattle.im_group.specs.Partials.{Parts, partial, merged}
use Rattle.im_scan.specs.Merging.{LaterPin, ArePinned, AreAllPinned, merged_with}
use Rattle.im_scan.specs.Parts.{part_of}
use Rattle.im_scan.specs.Pinned.{seen_to, seen_all}
use Rattle.im_scan.proofs.ForCallers.{merged-later, seen_to-none, seen_to-all}
use Rattle.im_scan.proofs.PinLemmas.{taken-rows_seen}

merged-pins : (bound : Bound) (h : History) (view : View) (extent : ℕ) (before : Parts) (pins : List LaterPin)
    → view.scn ≤ scn h → before ≡ partial bound (seen_to h view extent) → ArePinned h view extent pins
    → merged_with before bound view extent pins ≡ partial bound (seen_to h view (extent + length pins))
merged-pins bound h view extent before [] known is each =
    is ∙ ap (λ (n : ℕ). partial bound (seen_to h view n)) (omega arith)
merged-pins bound h view extent before (pin ∷ pins) known is each =
    let part = part_of pin.unit pin.fetched view extent bound in
    let seen = ap (partial bound) (taken-rows_seen (h ++ pin.since) view extent pin.unit pin.fetched each.0) in
    merged-pins bound h view (extent + 1) (merged before part) pins known
    (merged-later bound h pin.since view extent before part known is seen) each.1
    ∙ ap (λ (n : ℕ). partial bound (seen_to h view n)) (omega arith)

pub give-one-answer : (bound : Bound) (opening : History) (view : View) (pins : List LaterPin)
    → AreAllPinned opening view pins
    → merged_with (partial bound []) bound view 0 pins ≡ partial bound (seen_all opening view)
give-one-answer bound opening view pins are =
    merged-pins bound opening view 0 (partial bound []) pins are.known
    (ap (partial bound) (sym (seen_to-none opening view))) are.each
    ∙ (ap (λ (n : ℕ). partial bound (seen_to opening view n)) (omega arith)
    ∙ ap (partial bound) (seen_to-all opening view (length pins) are.some (are.all ∙ are.cut)))
