use Rattle.std.proofs.Common.{refl}
use Rattle.im_blocks.proofs.PageLemmas.{IsNoted-forgotten, IsNoted-without}
use Rattle.im_blocks.proofs.pages.Page.forget.Goals as goal

pub returns-in-Some : goal.returns-in-Some
returns-in-Some c =
    let old = c.args.self.now in
    IsNoted-forgotten old record old { image = Rattle.std.proofs.Common.Some c.forget.new.self } c.in-Some.image c.forget.new.self c.args.place c.in-Some.is refl
    c.forget.ensures

pub returns-in-None : goal.returns-in-None
returns-in-None c = IsNoted-without c.args.self.now c.args.self.now c.args.place c.in-None.is
