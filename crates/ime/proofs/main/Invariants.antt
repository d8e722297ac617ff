use Rattle.ime.proofs.main.Given as goal

-- the ledger of the count is the blank's
abbrev pub ghosts-play : goal.ghosts-play
ghosts-play g a = record { name = a.blank.name; parts = a.blank.parts }
