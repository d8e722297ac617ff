-- The texts that are put one behind another for the orders of a generated script.
use Rattle.std.specs.Prelude.{ℕ, List, ◌++◌, map, flat_map, codes, decimal}
use Rattle.std.specs.List.{range_with_len}
use Rattle.im_script.specs.Generated.{amount, region, order_row, insert_line, pieces, transaction, order_lines, ended, text_of}

-- what stands between the number of an order and its amount
abbrev pub between : ℕ → List ℕ
between order = codes ", '" ++ region order ++ codes "', "

-- the row of an order, but for the bracket before it
abbrev pub order_rest : ℕ → ℕ → List ℕ
order_rest seed order = decimal order ++ between order ++ decimal (amount seed order) ++ codes ")"

-- the row of an order behind another one
abbrev pub further_row : ℕ → ℕ → List ℕ
further_row seed order = codes ", " ++ order_row seed order

-- the rows of so many orders behind another one
abbrev pub further_rows : ℕ → ℕ → ℕ → List ℕ
further_rows seed first count = flat_map (further_row seed) (range_with_len first count)

-- the line that inserts so many orders
abbrev pub insert_text : ℕ → ℕ → ℕ → List ℕ
insert_text seed first count = ended (insert_line seed (range_with_len first count))

-- the lines that insert so many orders
abbrev pub inserts_text : ℕ → ℕ → ℕ → List ℕ
inserts_text seed first count = text_of (map (insert_line seed) (pieces 100 (range_with_len first count)))

-- and commit them
abbrev pub transaction_text : ℕ → ℕ → ℕ → List ℕ
transaction_text seed first count = text_of (transaction seed (range_with_len first count))

-- the lines that insert and commit so many orders
abbrev pub orders_text : ℕ → ℕ → ℕ → List ℕ
orders_text seed first count = text_of (order_lines seed (range_with_len first count))
