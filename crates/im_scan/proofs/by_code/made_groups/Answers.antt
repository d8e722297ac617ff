use Rattle.im_codes.specs.Dictionary.{coded}
use Rattle.im_scan.proofs.CodedLemmas.{codes-in}
use Rattle.im_scan.proofs.by_code.made_groups.Goals as goal

pub groups_in_codes-requires-clause-codes : goal.groups_in_codes-requires-clause-codes
groups_in_codes-requires-clause-codes c =
    codes-in c.args.keys.now (coded c.in-Coded.dict.now) c.in-Coded.field-1.now.codes c.in-Coded.ensures.1.are_codes
