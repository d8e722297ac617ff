use Rattle.std.proofs.Common.{◌∙◌, sym, subst, Contains, arith}
use Rattle.im_turn.proofs.ShareSteps.{splits_allowed}
use Rattle.im_turn.proofs.share.cut.Goals as goal

pub split_seat-requires : goal.split_seat-requires
split_seat-requires g c =
    let v = g.V.Logged in
    let words = c.requires.sized.0 in (
      c.requires.seat,
      omega arith,
      splits_allowed v.log v.who v.fixed c.args.seat.now.id c.args.seat.now.me.0 g.N.Numbered.number c.requires.live c.requires.first
          (λ z. c.requires.not_first (c.requires.number ∙ z)) (λ h. c.requires.not_given
          (subst (Contains c.args.seat.now.me.0.gave) (sym c.requires.number) h)),
    )
