-- A condition may cross threads where its columns, its values and its lists may.
use Rattle.std.specs.Prelude.{◌≡◌}
use denote.RattleType.{RattleType}
use denote.Hole.{as_row}
use denote.Model.Cut.{rejoined, split_one}
use denote.Model.Goals.{All, one_law, send, sync, has_of, part_has, tied_goals}
use denote.Model.Local.{Parts, rows}
use denote.Param.Send.{IsSend, IsSync, sendable, view_send, view_sync, recorded_send, recorded_sync}
use denote.Param.SendFields.{as_row_send, as_row_sync, declared_send, declared_sync, variants_send, variants_sync}
use denote.Struct.Field.{row_field, bool-field}
use Rattle.std.proofs.Crossing.{crosses, Box-send, Box-sync, Vec-send, Vec-sync}
use Rattle.im_values.specs.contracts.comparison.Cmp as cmp
use Rattle.im_syntax.specs.contracts.condition.CondOf as condition
use Rattle.im_syntax.specs.contracts.condition.CondOf.TheKnot as knot
use Rattle.im_syntax.specs.declared.condition.CondOf.TheDeep as deep
use Rattle.im_syntax.specs.declared.condition.CondOf.TheDeep.{the_members, member-CondOf, member-ConjOf, member-TermOf}

-- the rows of the members
module _ (C V L : RattleType) (p : Parts (knot.frame C V L)) where
  abbrev row : the_members → RattleType
  row = rows (knot.frame C V L) p

-- a type whose values are a record of what its layer holds
module _ (R : RattleType) (D : Type 0) (split : D → R.Denot) (join : R.Denot → D) (joins : (d : D) → join (split d) ≡ d) where
  rejoined_send : IsSend R → IsSend (rejoined R D split join joins)
  rejoined_send = recorded_send R D split (split_one R D split join joins)

  rejoined_sync : IsSync R → IsSync (rejoined R D split join joins)
  rejoined_sync = recorded_sync R D split (split_one R D split join joins)

cmp_send : IsSend (as_row cmp.the_field)
cmp_send = search (sendable, crosses) depth 60 fits 10000

cmp_sync : IsSync (as_row cmp.the_field)
cmp_sync = search (sendable, crosses) depth 60 fits 10000

flag_send : IsSend (as_row bool-field)
flag_send = search (sendable, crosses) depth 60 fits 10000

flag_sync : IsSync (as_row bool-field)
flag_sync = search (sendable, crosses) depth 60 fits 10000

-- one layer of each member, from the members one layer down: `Send`
module _ (C V L : RattleType) (c : IsSend C) (v : IsSend V) (l : IsSend L) where
  module _ (p : Parts (knot.frame C V L)) (all : All (one_law the_members send) (row C V L p)) where
    part_send : (R : RattleType) → IsSend R → IsSend (as_row (row_field (as_row (row_field R))))
    part_send R s = as_row_send (row_field (as_row (row_field R))) (as_row_send (row_field R) s)

    form_send : IsSend (knot.layer-FormOf C V L (row C V L p member-TermOf) (row C V L p member-CondOf))
    form_send =
        let column = part_send C c in
        let value = part_send V v in
        let sign = as_row_send (row_field (as_row cmp.the_field)) cmp_send in
        let flag = as_row_send (row_field (as_row bool-field)) flag_send in
        variants_send (knot.type-FormOf C V L (row C V L p member-TermOf) (row C V L p member-CondOf)) (
          (as_row_send (row_field _) (Box-send (row C V L p member-TermOf) (all member-TermOf)), tt),
          (
            (as_row_send (row_field _) (Box-send (row C V L p member-CondOf) (all member-CondOf)), tt),
            ((column, (sign, (value, tt))), ((column, (flag, tt)), ((column, (flag, (value, (value, tt)))), ((column, (flag, (part_send L l, tt))), tt)))),
          ),
        )

    term_send : IsSend (knot.at-TermOf C V L p)
    term_send =
        let form = rejoined_send (knot.layer-FormOf C V L (row C V L p member-TermOf) (row C V L p member-CondOf)) _
        (deep.split-FormOf C.Denot V.Denot L.Denot) (deep.join-FormOf C.Denot V.Denot L.Denot) (deep.joins-FormOf C.Denot V.Denot L.Denot) form_send in
        rejoined_send (knot.layer-TermOf C V L (knot.at-FormOf C V L p)) _
        (deep.split-TermOf C.Denot V.Denot L.Denot) (deep.join-TermOf C.Denot V.Denot L.Denot) (deep.joins-TermOf C.Denot V.Denot L.Denot)
        (declared_send (knot.type-TermOf C V L (knot.at-FormOf C V L p)) (as_row_send (row_field (knot.at-FormOf C V L p)) form, tt))

    conj_send : IsSend (knot.at-ConjOf C V L p)
    conj_send = rejoined_send (knot.layer-ConjOf C V L (row C V L p member-TermOf)) _
        (deep.split-ConjOf C.Denot V.Denot L.Denot) (deep.join-ConjOf C.Denot V.Denot L.Denot) (deep.joins-ConjOf C.Denot V.Denot L.Denot)
        (declared_send (knot.type-ConjOf C V L (row C V L p member-TermOf))
        (as_row_send (row_field _) (Vec-send (row C V L p member-TermOf) (all member-TermOf)), tt))

    cond_send : IsSend (knot.at-CondOf C V L p)
    cond_send = rejoined_send (knot.layer-CondOf C V L (row C V L p member-ConjOf)) _
        (deep.split-CondOf C.Denot V.Denot L.Denot) (deep.join-CondOf C.Denot V.Denot L.Denot) (deep.joins-CondOf C.Denot V.Denot L.Denot)
        (declared_send (knot.type-CondOf C V L (row C V L p member-ConjOf))
        (as_row_send (row_field _) (Vec-send (row C V L p member-ConjOf) (all member-ConjOf)), tt))

    step_send : All (one_law the_members send) (rows (knot.frame C V L) (knot.step C V L p))
    step_send member-CondOf = has_of (knot.frame C V L) send (knot.step C V L p) member-CondOf
        (part_has send (knot.view-CondOf C V L p) (view_send (knot.at-CondOf C V L p) _ _ _ _ cond_send))
    step_send member-ConjOf = has_of (knot.frame C V L) send (knot.step C V L p) member-ConjOf
        (part_has send (knot.view-ConjOf C V L p) (view_send (knot.at-ConjOf C V L p) _ _ _ _ conj_send))
    step_send member-TermOf = has_of (knot.frame C V L) send (knot.step C V L p) member-TermOf
        (part_has send (knot.view-TermOf C V L p) (view_send (knot.at-TermOf C V L p) _ _ _ _ term_send))

  pub condition_send : IsSend (condition.the_row C V L)
  condition_send = tied_goals (knot.frame C V L) (knot.step C V L) (knot.sizes C V L) (one_law the_members send) step_send member-CondOf

-- one layer of each member, from the members one layer down: `Sync`
module _ (C V L : RattleType) (c : IsSync C) (v : IsSync V) (l : IsSync L) where
  module _ (p : Parts (knot.frame C V L)) (all : All (one_law the_members sync) (row C V L p)) where
    part_sync : (R : RattleType) → IsSync R → IsSync (as_row (row_field (as_row (row_field R))))
    part_sync R s = as_row_sync (row_field (as_row (row_field R))) (as_row_sync (row_field R) s)

    form_sync : IsSync (knot.layer-FormOf C V L (row C V L p member-TermOf) (row C V L p member-CondOf))
    form_sync =
        let column = part_sync C c in
        let value = part_sync V v in
        let sign = as_row_sync (row_field (as_row cmp.the_field)) cmp_sync in
        let flag = as_row_sync (row_field (as_row bool-field)) flag_sync in
        variants_sync (knot.type-FormOf C V L (row C V L p member-TermOf) (row C V L p member-CondOf)) (
          (as_row_sync (row_field _) (Box-sync (row C V L p member-TermOf) (all member-TermOf)), tt),
          (
            (as_row_sync (row_field _) (Box-sync (row C V L p member-CondOf) (all member-CondOf)), tt),
            ((column, (sign, (value, tt))), ((column, (flag, tt)), ((column, (flag, (value, (value, tt)))), ((column, (flag, (part_sync L l, tt))), tt)))),
          ),
        )

    term_sync : IsSync (knot.at-TermOf C V L p)
    term_sync =
        let form = rejoined_sync (knot.layer-FormOf C V L (row C V L p member-TermOf) (row C V L p member-CondOf)) _
        (deep.split-FormOf C.Denot V.Denot L.Denot) (deep.join-FormOf C.Denot V.Denot L.Denot) (deep.joins-FormOf C.Denot V.Denot L.Denot) form_sync in
        rejoined_sync (knot.layer-TermOf C V L (knot.at-FormOf C V L p)) _
        (deep.split-TermOf C.Denot V.Denot L.Denot) (deep.join-TermOf C.Denot V.Denot L.Denot) (deep.joins-TermOf C.Denot V.Denot L.Denot)
        (declared_sync (knot.type-TermOf C V L (knot.at-FormOf C V L p)) (as_row_sync (row_field (knot.at-FormOf C V L p)) form, tt))

    conj_sync : IsSync (knot.at-ConjOf C V L p)
    conj_sync = rejoined_sync (knot.layer-ConjOf C V L (row C V L p member-TermOf)) _
        (deep.split-ConjOf C.Denot V.Denot L.Denot) (deep.join-ConjOf C.Denot V.Denot L.Denot) (deep.joins-ConjOf C.Denot V.Denot L.Denot)
        (declared_sync (knot.type-ConjOf C V L (row C V L p member-TermOf))
        (as_row_sync (row_field _) (Vec-sync (row C V L p member-TermOf) (all member-TermOf)), tt))

    cond_sync : IsSync (knot.at-CondOf C V L p)
    cond_sync = rejoined_sync (knot.layer-CondOf C V L (row C V L p member-ConjOf)) _
        (deep.split-CondOf C.Denot V.Denot L.Denot) (deep.join-CondOf C.Denot V.Denot L.Denot) (deep.joins-CondOf C.Denot V.Denot L.Denot)
        (declared_sync (knot.type-CondOf C V L (row C V L p member-ConjOf))
        (as_row_sync (row_field _) (Vec-sync (row C V L p member-ConjOf) (all member-ConjOf)), tt))

    step_sync : All (one_law the_members sync) (rows (knot.frame C V L) (knot.step C V L p))
    step_sync member-CondOf = has_of (knot.frame C V L) sync (knot.step C V L p) member-CondOf
        (part_has sync (knot.view-CondOf C V L p) (view_sync (knot.at-CondOf C V L p) _ _ _ _ cond_sync))
    step_sync member-ConjOf = has_of (knot.frame C V L) sync (knot.step C V L p) member-ConjOf
        (part_has sync (knot.view-ConjOf C V L p) (view_sync (knot.at-ConjOf C V L p) _ _ _ _ conj_sync))
    step_sync member-TermOf = has_of (knot.frame C V L) sync (knot.step C V L p) member-TermOf
        (part_has sync (knot.view-TermOf C V L p) (view_sync (knot.at-TermOf C V L p) _ _ _ _ term_sync))

  pub condition_sync : IsSync (condition.the_row C V L)
  condition_sync = tied_goals (knot.frame C V L) (knot.step C V L) (knot.sizes C V L) (one_law the_members sync) step_sync member-CondOf
