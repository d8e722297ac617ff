use Rattle.std.proofs.Common.{List, count_by, refl, ap, ◌∙◌}
use Rattle.im_values.specs.declared.content.Content.{Content as Value}
use Rattle.im_values.specs.Order.{is_null}
use Rattle.im_values.specs.Sizes.{plain_bytes}
use Rattle.im_codes.specs.Dictionary.{coded, values_at}
use Rattle.im_codes.proofs.ForCallers.{dictionary-is}
use Rattle.im_column.proofs.SizeLemmas.{are-sizes, short-dictionary}
use Rattle.im_column.proofs.ColumnLemmas.{bounded}
use Rattle.im_column.proofs.picking.from_codes.Goals as goal

pub coded_bytes-by_code-requires-clause-short : goal.coded_bytes-by_code-requires-clause-short
coded_bytes-by_code-requires-clause-short c =
    short-dictionary (values_at (coded c.args.dict) c.args.codes.now) c.args.dict c.requires.dictionary c.requires.short

pub runs_bytes-by_run-requires-clause-short : goal.runs_bytes-by_run-requires-clause-short
runs_bytes-by_run-requires-clause-short c =
    short-dictionary (values_at (coded c.args.dict) c.args.codes.now) c.args.dict c.requires.dictionary c.requires.short

pub as_codes-requires-clause-kept : goal.as_codes-requires-clause-kept
as_codes-requires-clause-kept c = record {
  is_dictionary = dictionary-is (values_at (coded c.args.dict) c.args.codes.now) c.args.dict c.requires.dictionary;
  are_codes = record { same = refl; inside = c.requires.codes };
}

pub as_codes-requires-clause-sizes : goal.as_codes-requires-clause-sizes
as_codes-requires-clause-sizes c =
    let values = values_at (coded c.args.dict) c.args.codes.now in
    are-sizes values c.args.dict c.args.codes.now (plain_bytes values) c.coded_bytes-by_code.result c.runs_bytes-by_run.result refl c.requires.dictionary
    (record { same = refl; inside = c.requires.codes }) c.coded_bytes-by_code.ensures c.runs_bytes-by_run.ensures

pub assembled-requires-clause-bounds : goal.assembled-requires-clause-bounds
assembled-requires-clause-bounds c =
    let values = values_at (coded c.args.dict) c.args.codes.now in
    rw c.in_ok-counted.ensures.stands
    (bounded values c.args.dict c.in_ok-bounds.bounds c.summarize_codes-summary.result.nulls (dictionary-is values c.args.dict c.requires.dictionary)
    (c.summarize_codes-summary.ensures.is_nulls ∙ ap (λ (l : List Value). count_by is_null (values_at (coded l) c.args.codes.now)) c.values.ensures.values) (rw c.values-2.ensures.values at c.in_ok-bounds.ensures))
