use Rattle.check_store.proofs.builds.holds.Given as goal

-- the ledger of the count is the blank's
abbrev pub ghosts-holds_anew : goal.ghosts-holds_anew
ghosts-holds_anew g a = record { name = a.blank.name; parts = a.blank.parts }
