use Rattle.std.proofs.Common.{refl}
use Rattle.im_blocks.proofs.PageLemmas.{IsNoted-same}
use Rattle.im_blocks.proofs.pages.Page.note.Goals as goal

pub returns : goal.returns
returns c =
    let forgot = c.forget.new.self in
    IsNoted-same c.args.self.now forgot record forgot { apart = c.saturating_add-self.result; noted = c.args.scn } c.args.place refl c.forget.ensures
