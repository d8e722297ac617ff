use Rattle.std.proofs.Common.{◌*◌}
use Rattle.im_codepred.proofs.FormLemmas.{share-is}
use Rattle.im_codepred.proofs.form.share.Goals as goal

pub returns-clause-part : goal.returns-clause-part
returns-clause-part c = share-is c.args.values.now (c.args.place * 64) _ c.min-end.ensures
