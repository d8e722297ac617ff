use Rattle.std.proofs.Common.{◌≡◌, ℕ, ◌*◌, ◌∙◌, List, Option, ap, sym, subst, arith}
use Rattle.im_syntax.specs.declared.bound.Bound.{Bound}
use Rattle.im_history.specs.declared.view.View.{View}
use Rattle.im_history.specs.History.{History}
use Rattle.im_history.specs.Serving.{rows_in}
use Rattle.im_history.specs.Units.{Content}
use Rattle.im_scan.specs.Pinned.{IsPinned, seen_in}
use Rattle.im_scan.specs.inner.Steps.{MayScanShown}
use Rattle.im_group.specs.Partials.{Parts, partial}
use Rattle.im_history.specs.Rows.{Row, present}
use Rattle.im_scan.specs.Faces.{Shows, unit_of}
use Rattle.im_scan.specs.declared.faces.Face.{Face}
use Rattle.im_scan.specs.Parts.{taken_row}
use Rattle.im_scan.proofs.PartLemmas.{begins}
use Rattle.im_scan.proofs.PrunedLemmas.{part-seen}
use Rattle.im_scan.proofs.parts.part.Goals as goal

pub overflow_mul-first : goal.overflow_mul-first
overflow_mul-first c = let first = begins c.args.view.now c.args.extent c.requires.cut c.requires.within in omega (arith, first)

pub shown_part-requires-clause-within : goal.shown_part-requires-clause-within
shown_part-requires-clause-within c =
    let first = begins c.args.view.now c.args.extent c.requires.cut c.requires.within in
    omega (arith, first, c.min-count.ensures)

pub shown_part-requires-clause-fits : goal.shown_part-requires-clause-fits
shown_part-requires-clause-fits c =
    let may : MayScanShown c.args.bound.now (unit_of c.args.face) c.args.fetched.now c.args.view.now = record
    { unit_fits = c.requires.unit_fits; fetched_fits = c.requires.fetched_fits; own_fits = c.requires.own_fits } in
    subst (λ b. MayScanShown b (unit_of c.args.face) c.args.fetched.now c.args.view.now) (sym c.in_ok-asking.ensures) may

-- the part of the rows that are taken is that of the rows that are seen
seen : (asking bound : Bound) (view : View) (extent count : ℕ) (fetched : List (ℕ × Option Row)) (face : Face) (answer : Parts)
    → answer ≡ partial asking (present (taken_row (unit_of face) fetched view) (extent * view.per) count) → asking ≡ bound → count ≡ rows_in view extent
    → (history : History) (unit : Option Content) → Shows face unit bound → IsPinned history view extent unit fetched
    → answer ≡ partial bound (seen_in history view extent)
seen asking bound view extent count fetched face answer is same long history unit shows pinned =
    is
    ∙ (ap (λ (b : Bound). partial b (present (taken_row (unit_of face) fetched view) (extent * view.per) count)) same
    ∙ (ap (λ (n : ℕ). partial bound (present (taken_row (unit_of face) fetched view) (extent * view.per) n)) long
    ∙ part-seen history view extent unit fetched face bound shows pinned))

pub returns-clause-seen : goal.returns-clause-seen
returns-clause-seen c history unit shows pinned =
    seen c.in_ok-asking.asking c.args.bound.now c.args.view.now c.args.extent c.min-count.result c.args.fetched.now c.args.face c.in_ok-part.part
    c.in_ok-part.ensures c.in_ok-asking.ensures c.min-count.ensures history unit shows pinned
