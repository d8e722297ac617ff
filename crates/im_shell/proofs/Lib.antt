mod EndLemmas
mod ModeLemmas
mod PlayLemmas
mod ReportLemmas
mod SentLemmas
