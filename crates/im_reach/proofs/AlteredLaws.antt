-- Where a call finds that a table has other columns than its caller saw: others added them, behind what was known.
use Rattle.std.proofs.Common.{◌≡◌, ℕ, zero, suc, ◌≤◌, ◌==◌, Bool, true, false, not, All, [], ◌∷◌, ◌++◌, length, slice_get, Some, None, refl, sym, ap, ◌∙◌, subst, append-nil, arith}
use Rattle.std.proofs.lemmas.Bool.{eq-eqb}
use Rattle.std.proofs.lemmas.List.Elements.{All-head, All-tail}
use Rattle.im_history.specs.declared.entry.Entry.{Entry}
use Rattle.im_history.specs.declared.refused.Why.TheVariants.{Altered}
use Rattle.im_history.specs.Columns.{columns_of}
use Rattle.im_history.specs.History.{History}
use Rattle.im_history.specs.Legal.{Exists}
use Rattle.im_history.specs.Refusals.{altered, when}
use Rattle.im_history.specs.Tables.{last_added, table_at}
use Rattle.im_plan.specs.Goes.{After}
use Rattle.im_plan.proofs.AlteredLaws.{got-column}
use Rattle.im_reach.specs.Sides.{AreOthers, GotColumn, StoreSide, speaks}

-- a caller that knew the table's columns, and finds that there are others, finds the last of them at an entry of others
pub others-altered : (side : StoreSide) (old at : History) (table columns place : ℕ) → Exists old table → columns ≡ columns_of (table_at old table)
    → After (AreOthers side) old at → altered at table columns ≡ Some (Altered place) → GotColumn side old at table place
others-altered side old at table columns place exists known after is =
    got-column (speaks side) (AreOthers side) (length old) old at table columns place (omega arith) exists known (λ between others. others.apart) after is

-- a caller that has the store alone finds the columns that it knew
pub alone-unaltered : (side : StoreSide) (old at : History) (table columns : ℕ) → side.alone ≡ true → columns ≡ columns_of (table_at old table)
    → After (AreOthers side) old at → altered at table columns ≡ None
alone-unaltered side old at table columns alone known after =
    let same : at ≡ old = after.log ∙ (ap (λ (h : History). old ++ h) (after.lawful.alone alone) ∙ append-nil old) in
    let width : columns_of (table_at at table) ≡ columns = ap (λ (h : History). columns_of (table_at h table)) same ∙ sym known in
    ap (λ (b : Bool). when (not b) (Altered (last_added at table))) (eq-eqb (columns_of (table_at at table)) columns width)
