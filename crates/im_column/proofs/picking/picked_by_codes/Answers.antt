use Rattle.std.proofs.Common.{◌≡◌, List, All, subst, sym, ap, ◌∙◌}
use Rattle.std.specs.Prelude.{IfOk, IfSome}
use Rattle.im_values.specs.declared.content.Content.{Content as Value}
use Rattle.im_codes.specs.Dictionary.{coded, lent, values_at}
use Rattle.im_column.specs.Forms.{IsShort}
use Rattle.im_column.specs.Picks.{values_picked}
use Rattle.im_column.specs.inner.Sized.{values_of}
use Rattle.im_column.proofs.picking.picked_by_codes.Goals as goal
use Rattle.im_column.proofs.picking.picked_by_codes.Goals.{In_ok-unpacked-in-Coded, In_ok-codes-in-Runs}

-- the codes stand for the values of the old column
coded_old : (c : In_ok-unpacked-in-Coded) → values_at (coded c.in-Coded.dict) c.in_ok-unpacked-in-Coded.field-0.items ≡ c.args.old.now
coded_old c =
    ap (values_at (coded c.in-Coded.dict)) c.in_ok-unpacked-in-Coded.ensures ∙ (ap values_of (sym c.in-Coded.is) ∙ c.old.view_is)

runs_old : (c : In_ok-codes-in-Runs) → values_at (coded c.in-Runs.dict) c.in_ok-codes-in-Runs.field-0.items ≡ c.args.old.now
runs_old c = ap (values_at (coded c.in-Runs.dict)) c.in_ok-codes-in-Runs.ensures ∙ (ap values_of (sym c.in-Runs.is) ∙ c.old.view_is)

pub picked_codes-requires-clause-short : goal.picked_codes-requires-clause-short
picked_codes-requires-clause-short c =
    subst (λ (old : List Value). All IsShort (values_picked old (lent c.args.fresh.now) c.args.places.now))
    (sym (coded_old (goal.at.picked_codes-requires-clause-short c).In_ok-unpacked-in-Coded)) c.requires.short

pub picked_codes-requires-in-Runs-clause-short : goal.picked_codes-requires-in-Runs-clause-short
picked_codes-requires-in-Runs-clause-short c =
    subst (λ (old : List Value). All IsShort (values_picked old (lent c.args.fresh.now) c.args.places.now))
    (sym (runs_old (goal.at.picked_codes-requires-in-Runs-clause-short c).In_ok-codes-in-Runs)) c.requires.short

pub returns-in_ok-unpacked-in-Coded : goal.returns-in_ok-unpacked-in-Coded
returns-in_ok-unpacked-in-Coded c =
    subst
    (λ (old : List Value). IfOk c.picked_codes.result
    (λ found. IfSome found (λ column. column ≡ values_picked old (lent c.args.fresh.now) c.args.places.now)))
    (coded_old (goal.at.returns-in_ok-unpacked-in-Coded c).In_ok-unpacked-in-Coded) c.picked_codes.ensures

pub returns-in_ok-codes-in-Runs : goal.returns-in_ok-codes-in-Runs
returns-in_ok-codes-in-Runs c =
    subst
    (λ (old : List Value). IfOk c.picked_codes-in-Runs.result
    (λ found. IfSome found (λ column. column ≡ values_picked old (lent c.args.fresh.now) c.args.places.now)))
    (runs_old (goal.at.returns-in_ok-codes-in-Runs c).In_ok-codes-in-Runs) c.picked_codes-in-Runs.ensures
