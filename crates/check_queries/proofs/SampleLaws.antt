-- The query of the sample may be asked of its rows, and its counts are theirs.
use Rattle.std.proofs.Common.{◌≡◌, false, refl, sym, lit<}
use Rattle.std.specs.List.{AllByRecursion}
use Rattle.im_values.specs.declared.content.Content.{Content as Value}
use Rattle.im_syntax.specs.BoundFits.{BoundFits, is_text}
use Rattle.im_syntax.specs.BoundQuery.{IsQuery}
use Rattle.im_group.proofs.ForCallers.{counts-in_order}
use Rattle.check_queries.specs.Sample.{HasCounts, query, row, rows, counts}

pub is_query : IsQuery query
is_query = record { grouped = refl; items = λ _. (refl, (tt, (tt, (tt, tt)))); keys = λ _. tt }

pub row_fits : (key value : Value) → is_text value ≡ false → BoundFits (row key value) query
row_fits key value number = record {
  filter = λ f e. absurd cc;
  items = (lit< tt, (tt, ((lit< tt, λ _. number), ((lit< tt, λ _. number), tt))));
  groups = (lit< tt, tt);
  keys = tt;
}

pub rows_fit : AllByRecursion (λ r. BoundFits r.1 query) rows
rows_fit = (row_fits _ _ refl, (row_fits _ _ refl, (row_fits _ _ refl, tt)))

pub has_counts : HasCounts query counts
has_counts = record {
  rows = rows;
  are = record { width = 2; wide = (refl, (refl, (refl, tt))); fits = rows_fit; are = sym (counts-in_order query 2 rows) };
}
