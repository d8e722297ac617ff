use Rattle.im_session.proofs.ending.leave.Goals as goal

pub returns-in-Ok-clause-ok : goal.returns-in-Ok-clause-ok
returns-in-Ok-clause-ok g c =
    let added = c.in-Ok.ensures.ok in
    record { at = added.at; after = added.after; now = added.now; fact = tt }

pub returns-in-Err-clause-err : goal.returns-in-Err-clause-err
returns-in-Err-clause-err g c =
    let found = c.in-Err.ensures.err in
    record { at = found.at; after = found.after; now = found.now; fact = tt }
