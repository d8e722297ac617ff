-- The options: their names, the numbers that they may be set to, and the number where they are not set.
use Rattle.std.specs.Prelude.{ℕ, List, codes}
use Rattle.im_words.specs.declared.setting.Setting.{Setting}
use Rattle.im_words.specs.declared.setting.Setting.TheVariants.{Area, Workers, Turns, Rows, Seed}

-- the name, without the two hyphens before it
abbrev pub name_of : Setting → List ℕ
name_of Area = codes "area"
name_of Workers = codes "workers"
name_of Turns = codes "turns"
name_of Rows = codes "rows"
name_of Seed = codes "seed"

-- the least number that it may be set to
abbrev pub least_of : Setting → ℕ
least_of Area = 0
least_of Workers = 1
least_of Turns = 1
least_of Rows = 1
least_of Seed = 0

-- the greatest number that it may be set to
abbrev pub most_of : Setting → ℕ
most_of Area = 1073741824
most_of Workers = 8
most_of Turns = 1000000
most_of Rows = 500000
most_of Seed = 4294967295

-- the number where the words do not set it
abbrev pub usual_of : Setting → ℕ
usual_of Area = 67108864
usual_of Workers = 1
usual_of Turns = 100000
usual_of Rows = 5000
usual_of Seed = 1
