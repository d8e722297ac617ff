use Rattle.std.proofs.Common.{◌∙◌, List, Option, ℕ, ap, subst}
use Rattle.std.proofs.lemmas.Result.{IfOk-weaker}
use Rattle.im_history.specs.Rows.{Row}
use Rattle.im_scan.specs.Faces.{unit_of}
use Rattle.im_scan.specs.inner.Steps.{ArePutBehind, as_shown, unit_rows, with_fetched}
use Rattle.im_scan.proofs.PartLemmas.{AreGathered, slots-within, slots-may, slots-part}
use Rattle.im_scan.proofs.SlotLemmas.{gathered-own}
use Rattle.im_scan.proofs.parts.laid_out_part.Goals as goal
use Rattle.im_scan.proofs.parts.laid_out_part.Goals.{In_ok-slots}

-- the slots are what the unit has, what was fetched and what the own changes left
are_gathered : (c : In_ok-slots) → AreGathered (unit_of c.args.face) c.args.fetched.now (as_shown c.args.view.now) c.args.first c.args.count c.in_ok-slots.slots.items
are_gathered c =
    let unit = unit_of c.args.face in
    let view = as_shown c.args.view.now in
    let first = c.args.first in
    let count = c.args.count in
    let put = subst (λ (l : List (ℕ × Option Row)). ArePutBehind view first count l c.put_own.new.rows.items) c.in_ok-rows.ensures c.in_ok-put_own.ensures in
    record {
      is = c.in_ok-slots.ensures
          ∙ (ap (with_fetched first (unit_rows unit first count)) c.as_slice.ensures.value
          ∙ gathered-own unit c.args.fetched.now view first count c.put_own.new.rows.items put);
    }

pub part_of_slots-requires : goal.part_of_slots-requires
part_of_slots-requires c =
    let unit = unit_of c.args.face in
    let view = as_shown c.args.view.now in
    let made = are_gathered (goal.at.part_of_slots-requires c).In_ok-slots in
    let gathered : AreGathered unit c.args.fetched.now view c.args.first c.args.count c.as_slice-2.result.now = record { is = c.as_slice-2.ensures.value ∙ made.is } in
    record {
      within = slots-within unit c.args.fetched.now view c.args.first c.args.count c.as_slice-2.result.now gathered c.requires.within;
      fits = slots-may unit c.args.fetched.now view c.args.first c.args.count c.args.asking.now c.as_slice-2.result.now gathered c.requires.fits;
    }

pub returns : goal.returns
returns c =
    let made = are_gathered (goal.at.returns c).In_ok-slots in
    IfOk-weaker c.part_of_slots.result _ _
    (λ part is. is
    ∙ slots-part (unit_of c.args.face) c.args.fetched.now (as_shown c.args.view.now) c.args.first c.args.count c.args.asking.now c.as_slice-2.result.now
    (record { is = c.as_slice-2.ensures.value ∙ made.is }))
    c.part_of_slots.ensures
