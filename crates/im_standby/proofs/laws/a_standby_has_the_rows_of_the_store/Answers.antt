use Rattle.im_standby.proofs.StandingLemmas.{none-past}
use Rattle.im_standby.proofs.StoreLemmas.{gives-its-numbers, has-its-columns, has-its-rows, has-its-tables, is-reached, shows-its-rows}
use Rattle.im_standby.proofs.laws.a_standby_has_the_rows_of_the_store.Goals as goal

pub returns-clause-rows : goal.returns-clause-rows
returns-clause-rows c = has-its-rows

pub returns-clause-reached : goal.returns-clause-reached
returns-clause-reached c = is-reached

pub returns-clause-tables : goal.returns-clause-tables
returns-clause-tables c = has-its-tables

pub returns-clause-columns : goal.returns-clause-columns
returns-clause-columns c = has-its-columns

pub returns-clause-numbers : goal.returns-clause-numbers
returns-clause-numbers c = gives-its-numbers

pub returns-clause-behind : goal.returns-clause-behind
returns-clause-behind c = none-past

pub returns-clause-shown : goal.returns-clause-shown
returns-clause-shown c = shows-its-rows
