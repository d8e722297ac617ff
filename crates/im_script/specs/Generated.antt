-- The script of a table of orders that is made of a seed and a number of rows: its lines, each as a list of bytes.
use Prim.Native.Nat.{zero, suc}
use Rattle.std.specs.Prelude.{ℕ, ◌+◌, ◌*◌, ◌%◌, List, [], ◌∷◌, ◌++◌, length, take, drop, map, flat_map, slice_index_or, codes, decimal}
use Rattle.std.specs.List.{range_with_len, join_by}

-- a list in pieces of so many items, but for the last one, which has what is left; at most so many pieces
abbrev pub some_pieces : {X : Type 0} → ℕ → ℕ → List X → List (List X)
some_pieces zero size items = []
some_pieces (suc most) size [] = []
some_pieces (suc most) size (item ∷ items) =
    take size (item ∷ items) ∷ some_pieces most size (drop size (item ∷ items))

-- a list in pieces of so many items
unfoldable pub pieces : {X : Type 0} → ℕ → List X → List (List X)
pieces size items = some_pieces (length items) size items

-- where orders come from
abbrev pub regions : List (List ℕ)
regions = codes "NORTH" ∷ codes "EAST" ∷ codes "SOUTH" ∷ codes "WEST" ∷ []

-- the region of an order: they go round
abbrev pub region : ℕ → List ℕ
region order = slice_index_or regions (order % 4) []

-- the amount of an order
abbrev pub amount : ℕ → ℕ → ℕ
amount seed order = (37 * order + seed) % 1000

-- the row of an order
abbrev pub order_row : ℕ → ℕ → List ℕ
order_row seed order =
    codes "(" ++ decimal order ++ codes ", '" ++ region order ++ codes "', " ++ decimal (amount seed order) ++ codes ")"

-- the line that inserts these orders
abbrev pub insert_line : ℕ → List ℕ → List ℕ
insert_line seed orders =
    codes "1> INSERT INTO ORDERS VALUES " ++ join_by (order_row seed) (codes ", ") orders

-- the lines that insert these orders, 100 by each, and commit them
abbrev pub transaction : ℕ → List ℕ → List (List ℕ)
transaction seed orders = map (insert_line seed) (pieces 100 orders) ++ codes "1> COMMIT" ∷ []

-- the lines that insert all orders, 500 INSERTs of 100 to a COMMIT
abbrev pub order_lines : ℕ → List ℕ → List (List ℕ)
order_lines seed orders = flat_map (transaction seed) (pieces 50000 orders)

-- what comes first
abbrev pub opening : List ℕ
opening = codes "1> CREATE TABLE ORDERS (ID NUMBER, REGION VARCHAR2(8), AMOUNT NUMBER) INMEMORY PRIORITY HIGH"

-- what comes last: units are built, and read; small amounts are raised; units are built anew, and read
abbrev pub closing : List (List ℕ)
closing =
    codes "bg> RUN"
    ∷ codes "1> SELECT COUNT(*), SUM(AMOUNT) FROM ORDERS"
    ∷ codes "1> SELECT REGION, COUNT(*), SUM(AMOUNT), MIN(AMOUNT), MAX(AMOUNT) FROM ORDERS GROUP BY REGION"
    ∷ codes "1> UPDATE ORDERS SET AMOUNT = 1000 WHERE AMOUNT < 100"
    ∷ codes "1> COMMIT"
    ∷ codes "1> SELECT COUNT(*), SUM(AMOUNT) FROM ORDERS"
    ∷ codes "bg> TRICKLE 1000000"
    ∷ codes "bg> RUN"
    ∷ codes "1> SELECT REGION, SUM(AMOUNT) FROM ORDERS GROUP BY REGION ORDER BY SUM(AMOUNT) DESC"
    ∷ []

-- the lines of the script: orders are numbered from 1
abbrev pub generated_lines : ℕ → ℕ → List (List ℕ)
generated_lines seed rows = opening ∷ (order_lines seed (range_with_len 1 rows) ++ closing)

-- a line with its line feed
abbrev pub ended : List ℕ → List ℕ
ended line = line ++ 10 ∷ []

-- lines, one behind another
abbrev pub text_of : List (List ℕ) → List ℕ
text_of lines = flat_map ended lines

-- the script
unfoldable pub generated : ℕ → ℕ → List ℕ
generated seed rows = text_of (generated_lines seed rows)
