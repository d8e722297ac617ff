use Rattle.check_parts.proofs.versions.a_chain_that_lacks_memory_for_a_version_has_the_rows_that_it_had.Given as goal

abbrev pub ghosts-reserve_twice : goal.ghosts-reserve_twice
ghosts-reserve_twice g a = record { name = a.blank.name; parts = a.blank.parts }

abbrev pub ghosts-has_rows : goal.ghosts-has_rows
ghosts-has_rows g a = record { name = a.blank.name; parts = a.blank.parts }
