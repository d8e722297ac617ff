use Rattle.im_text.proofs.bodies.put_body.Goals as goal

pub returns-in-Committed : goal.returns-in-Committed
returns-in-Committed c = rw c.in-Committed.is c.put_numbers-in-Committed.ensures

pub returns-in-RolledBack : goal.returns-in-RolledBack
returns-in-RolledBack c = rw c.in-RolledBack.is c.put_numbers-in-RolledBack.ensures
