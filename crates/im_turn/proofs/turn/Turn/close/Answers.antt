use Rattle.std.proofs.Common.{◌≡◌, ◌∙◌, Option, Some, None, unwrap_or, ap, sym, subst}
use Rattle.im_turn.specs.Passes.{PassState}
use Rattle.im_turn.proofs.SettledLemmas.{free_where_idle}
use Rattle.im_turn.proofs.Ends.{IsWhole, closes_with}
use Rattle.im_turn.proofs.turn.Turn.close.Goals as goal
use Rattle.im_turn.proofs.turn.Turn.close.Goals.{After-free}

-- the slot has the value
at_end : (g : _) (c : After-free g) → (value : g.row.V.Denot) ×
    (c.take-slot.result ≡ Some value) × IsWhole g.V.Logged.log g.V.Logged.who g.V.Logged.fixed c.args.pass value
at_end g c =
    let v = g.V.Logged in
    let seat = c.pass.inside.seat in
    let free = free_where_idle v.who seat.me c.pass.invariant (ap (λ (p : PassState g.row.V-Item.Denot). p.holding) c.pass.view_is ∙ c.requires.idle) in
    closes_with v.log v.who v.fixed seat.table_id seat.id seat.me.0 _ _ c.take-slot.result c.args.pass c.close_with-closed.ensures.values.2
    c.take-slot.ensures.value c.pass.view_is
    free.live free.idle c.requires.first c.requires.all_joined

pub unreachable-requires : goal.unreachable-requires
unreachable-requires g c =
    let end = at_end g (goal.at.unreachable-requires g c).After-free in
    let empty : ◌≡◌ {A = Option g.row.V.Denot} None (Some end.0) = sym c.in-None.is ∙ end.1 in
    absurd cc

pub returns : goal.returns
returns g c =
    let v = g.V.Logged in
    let end = at_end g (goal.at.returns g c).After-free in
    let slots : ◌≡◌ {A = Option g.row.V.Denot} (Some end.0) (Some c.in-Some.v) = sym end.1 ∙ c.in-Some.is in
    let same : end.0 ≡ c.in-Some.v = ap (λ (slot : Option g.row.V.Denot). unwrap_or slot end.0) slots in
    let whole = subst (IsWhole v.log v.who v.fixed c.args.pass) same end.2 in
    record { seen = whole.seen; own = whole.own; olds = whole.olds; no_others = whole.no_others; fixed = whole.same_fixed }
