use Rattle.im_script.specs.Forms.{form_of}
use Rattle.im_script.proofs.Once.{kind_once}
use Rattle.im_script.proofs.laws.one_kind.Goals as goal

pub returns : goal.returns
returns c = λ line a b p q na nb. kind_once (form_of line) line a b p q na nb
