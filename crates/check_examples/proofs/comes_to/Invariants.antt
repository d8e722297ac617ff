use Rattle.check_examples.proofs.comes_to.Given as goal

-- the ledger of the count is the blank's
abbrev pub ghosts-text_of : goal.ghosts-text_of
ghosts-text_of g a = record { name = a.blank.name; parts = a.blank.parts }
