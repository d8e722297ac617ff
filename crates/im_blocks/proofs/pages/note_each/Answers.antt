use Rattle.std.proofs.Common.{Bool, List, ℕ, subst}
use Rattle.std.specs.Bool.{OnTrue}
use Rattle.std.specs.List.{All}
use Rattle.std.proofs.lemmas.List.{take_all}
use Rattle.im_blocks.specs.declared.pages.Page.{Page}
use Rattle.im_blocks.specs.declared.ready.Ready.{Ready}
use Rattle.im_blocks.specs.inner.Pages.{HidesOne, IsNotedAt}
use Rattle.im_blocks.proofs.PageLemmas.{ShowWithin-refl, ShowWithin-trans, hidden-next, hides_now}
use Rattle.im_blocks.proofs.pages.note_each.Goals as goal

pub loop-one-preserved : goal.loop-one-preserved
loop-one-preserved c =
    let old = c.loop-one.pages in
    let new = c.note.new.pages in
    let noted = subst (λ (place : ℕ × ℕ). IsNotedAt old new place.0 place.1) c.place_of-table.ensures c.note.ensures in
    record {
      within = ShowWithin-trans c.args.pages.now old new c.loop-one.invariant.within noted.within;
      gone = hidden-next old new c.args.ready.now c.loop-one.one-index c.one-item.result c.loop-one-test.true c.one-item.is c.loop-one.invariant.gone noted.within
          (hides_now old new c.one-item.result noted);
    }

pub loop-one-preserved-then-is_long : goal.loop-one-preserved-then-is_long
loop-one-preserved-then-is_long c =
    let pages = c.loop-one.pages in
    record {
      within = c.loop-one.invariant.within;
      gone = hidden-next pages pages c.args.ready.now c.loop-one.one-index c.one-item.result c.loop-one-test.true c.one-item.is c.loop-one.invariant.gone
          (ShowWithin-refl pages) (subst (λ (b : Bool). OnTrue b ((p : List (List Page)) → HidesOne p c.one-item.result)) c.if-is_long.true c.is_long.ensures pages);
    }

pub returns : goal.returns
returns c = record {
  within = c.loop-one.invariant.within;
  gone = subst (λ (l : List Ready). All (HidesOne c.loop-one.pages) l) (take_all c.loop-one.one-index c.args.ready.now c.loop-one-test.false)
      c.loop-one.invariant.gone;
}
