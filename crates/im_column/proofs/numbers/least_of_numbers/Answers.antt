use Rattle.std.proofs.Common.{◌≤◌, ◌<◌, List, min, ap, subst, arith}
use Rattle.std.specs.Prelude.{IfOk}
use Rattle.im_values.specs.declared.content.Content.{Content as Value}
use Rattle.im_values.specs.Sizes.{plain_bytes}
use Rattle.im_codes.specs.Dictionary.{coded, values_at}
use Rattle.im_codes.proofs.ForCallers.{dictionary-is, length-codes}
use Rattle.im_column.specs.Forms.{AreKeptFor}
use Rattle.im_column.specs.inner.Sized.{AreSizes, IsCountedFor}
use Rattle.im_codes.specs.Dictionary.{whole}
use Rattle.im_column.proofs.ColumnLemmas.{own-kept, own-sizes}
use Rattle.im_column.proofs.NumberLemmas.{short-whole}
use Rattle.im_column.proofs.SizeLemmas.{are-sizes, short-dictionary, least-plain}
use Rattle.im_column.proofs.numbers.least_of_numbers.Goals as goal
use Rattle.im_column.proofs.numbers.least_of_numbers.Goals.{After-runs_bytes-runs}

pub coded_bytes-coded-requires-clause-short : goal.coded_bytes-coded-requires-clause-short
coded_bytes-coded-requires-clause-short c = short-dictionary (whole c.args.numbers.now) c.args.dict c.requires.dictionary (short-whole c.args.numbers.now)

pub coded_bytes-coded-requires-clause-few : goal.coded_bytes-coded-requires-clause-few
coded_bytes-coded-requires-clause-few c =
    omega (arith, length-codes (whole c.args.numbers.now) c.args.dict c.args.codes.now c.requires.codes, c.requires.few)

pub runs_bytes-runs-requires-clause-short : goal.runs_bytes-runs-requires-clause-short
runs_bytes-runs-requires-clause-short c = short-dictionary (whole c.args.numbers.now) c.args.dict c.requires.dictionary (short-whole c.args.numbers.now)

pub runs_bytes-runs-requires-clause-few : goal.runs_bytes-runs-requires-clause-few
runs_bytes-runs-requires-clause-few c =
    omega (arith, length-codes (whole c.args.numbers.now) c.args.dict c.args.codes.now c.requires.codes, c.requires.few)

-- what was counted
are_sizes : (c : After-runs_bytes-runs) → AreSizes (whole c.args.numbers.now) c.args.plain c.coded_bytes-coded.result c.runs_bytes-runs.result
are_sizes c =
    are-sizes (whole c.args.numbers.now) c.args.dict c.args.codes.now c.args.plain c.coded_bytes-coded.result c.runs_bytes-runs.result
    c.requires.plain c.requires.dictionary c.requires.codes c.coded_bytes-coded.ensures c.runs_bytes-runs.ensures

are_kept : (c : After-runs_bytes-runs) → AreKeptFor (whole c.args.numbers.now) c.args.dict c.args.codes.now
are_kept c = record { is_dictionary = dictionary-is (whole c.args.numbers.now) c.args.dict c.requires.dictionary; are_codes = c.requires.codes }

pub as_plain-requires : goal.as_plain-requires
as_plain-requires c =
    let most : c.args.plain ≤ min c.coded_bytes-coded.result c.runs_bytes-runs.result = omega (arith, c.min.ensures, c.if-plain-min.true) in
    let is =
    least-plain (whole c.args.numbers.now) c.args.plain c.coded_bytes-coded.result c.runs_bytes-runs.result
    (are_sizes (goal.at.as_plain-requires c).After-runs_bytes-runs) most in
    rw c.in_ok-whole_values.ensures (record { shape = is.0; plain = is.1 })

pub as_codes-requires : goal.as_codes-requires
as_codes-requires c =
    let less : min c.coded_bytes-coded.result c.runs_bytes-runs.result < c.args.plain = omega (arith, c.min.ensures, c.if-plain-min.false) in
    let counted = (goal.at.as_codes-requires c).After-runs_bytes-runs in
    let values = whole c.args.numbers.now in
    let same = c.requires.codes.same in
    record {
      few = omega (arith, length-codes values c.args.dict c.args.codes.now c.requires.codes, c.requires.few);
      kept = own-kept values c.args.dict c.args.codes.now (are_kept counted);
      sizes = own-sizes values (values_at (coded c.args.dict) c.args.codes.now) c.args.plain c.coded_bytes-coded.result c.runs_bytes-runs.result same
          (are_sizes counted);
      less = omega (arith, less, c.requires.plain, ap plain_bytes same);
    }

pub returns : goal.returns
returns c =
    subst (λ (v : List Value). IfOk c.as_codes.result (λ counted. IsCountedFor v counted.kept counted.bytes)) c.requires.codes.same c.as_codes.ensures
