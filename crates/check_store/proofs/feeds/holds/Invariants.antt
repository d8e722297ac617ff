use Rattle.check_store.proofs.feeds.holds.Given as goal

-- the ledger of the count is the blank's
abbrev pub ghosts-sent : goal.ghosts-sent
ghosts-sent g a = record { name = a.blank.name; parts = a.blank.parts }
