mod GoingLemmas
mod SessionLemmas
mod UnderWayLemmas
