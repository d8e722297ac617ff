-- What statements do once their names are found: which of them define tables, and what each reads the blocks for.
use Rattle.std.specs.Prelude.{Bool, true, false}
use Rattle.im_names.specs.declared.resolved.Resolved.{Resolved}
use Rattle.im_names.specs.declared.resolved.Resolved.TheVariants as resolved
use Rattle.im_session.specs.Reads.{Reading, Nothing, Own, Next, Left}

-- the statement defines a table, or changes what one is
abbrev pub defines : Resolved → Bool
defines (resolved.Create name schema grid memory) = true
defines (resolved.Memory table priority) = true
defines (resolved.AddColumn table column default) = true
defines statement = false

-- what the statement reads the blocks for
abbrev pub reading_in : Resolved → Reading
reading_in (resolved.Select bound) = Own
reading_in (resolved.Explain bound) = Own
reading_in (resolved.Update table filter sets) = Own
reading_in (resolved.Delete table filter) = Own
reading_in (resolved.Step cursor) = Next cursor
reading_in (resolved.Fetch cursor) = Left cursor
reading_in statement = Nothing
