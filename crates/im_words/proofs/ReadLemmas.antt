-- From what `clap` answers to what the words come to.
use Rattle.std.proofs.Common.{◌≡◌, ◌∙◌, ap, ap₂, refl, sym, subst, List, [], ◌∷◌, true, map, inl, inr}
use Rattle.std.specs.Prelude.{Result, Ok, Err, IfErr, IsErrAnd, MatchResult}
use Rattle.clap.specs.Words.{App, HasKind, HasMatchesOf, Text, fault_of, found_of, IsAmong, is_simple, is_simple_and_free, kind_of, matches_of, one_of, rows_of}
use Rattle.clap.specs.declared.error.Error.{Error}
use Rattle.clap.specs.declared.error.kind.ErrorKind.{ErrorKind}
use Rattle.clap.specs.declared.error.kind.ErrorKind.TheVariants.{OutOfMemory}
use Rattle.clap.specs.declared.parser.matches.ArgMatches.{ArgMatches}
use Rattle.im_words.proofs.PlaceLemmas.{fault-same, matches-same}
use Rattle.im_words.proofs.RangeLemmas.{numbers_pass}
use Rattle.im_words.specs.Asked.{HasNumbers, asked_in}
use Rattle.im_words.specs.Setting.{name_of}
use Rattle.im_words.specs.Command.{IsCommand, ModeNames, Refuses, Takes, command, command_with, fault_by, modes}
use Rattle.im_words.specs.declared.asked.Asked.{Asked}
use Rattle.im_words.specs.declared.fault.WordsFault.{WordsFault}
use Rattle.im_words.specs.declared.fault.WordsFault.TheVariants.{NoMemory, Usage}

pub map-same : (ws : List Text) → map (λ w. w) ws ≡ ws
map-same [] = refl
map-same (w ∷ ws) = ap (λ rest. w ∷ rest) (map-same ws)

pub if_err : {T E : Type 0} (r : Result T E) (P Q : E → Type 0) → IsErrAnd r P → ((e : E) → P e → Q e) → IfErr r Q
if_err (Ok x) P Q h so = absurd h
if_err (Err e) P Q h so = so e h

simple_free : (names : ModeNames) → is_simple_and_free (command_with names) ≡ true
simple_free names = refl

simple : (names : ModeNames) → is_simple (command_with names) ≡ true
simple names = refl

not_memory : (kind : ErrorKind) (fault : WordsFault) → kind ≡ OutOfMemory → fault ≡ fault_by kind → fault ≡ Usage → ⊥
not_memory kind fault memory by usage =
    let bad : Usage ≡ fault_by OutOfMemory = sym usage ∙ (by ∙ ap fault_by memory) in
    cc

-- the command that is built is the command, wherever the names of its modes lie
faults_are : (app : App) (ws words : List Text) → IsCommand app → ws ≡ words → fault_of app ws ≡ fault_of command words
faults_are app ws words is same =
    ap₂ fault_of is.2 same ∙ fault-same is.0 modes is.1 refl words

matches_are : (app : App) (ws words : List Text) → IsCommand app → ws ≡ words → matches_of app ws ≡ matches_of command words
matches_are app ws words is same =
    ap₂ matches_of is.2 same ∙ matches-same is.0 modes is.1 refl words

failed : (app : App) (ws words : List Text) (e : Error) → IsCommand app → ws ≡ words
    → (is_simple_and_free app ≡ true → HasKind (fault_of app ws) e) → HasKind (fault_of command words) e
failed app ws words e is same kinds =
    subst (λ faults. HasKind faults e) (faults_are app ws words is same) (kinds (ap is_simple_and_free is.2 ∙ simple_free is.0))

pub refuses : (app : App) (ws words : List Text) (e : Error) (fault : WordsFault) → IsCommand app → ws ≡ words
    → (is_simple_and_free app ≡ true → HasKind (fault_of app ws) e) → fault ≡ fault_by (kind_of e) → fault ≡ Usage → Refuses words
refuses app ws words e fault is same kinds by usage = go (failed app ws words e is same kinds)
  where
    go : HasKind (fault_of command words) e → Refuses words
    go (inl memory) = absurd (not_memory (kind_of e) fault memory by usage)
    go (inr among) = λ none. subst (λ kinds. IsAmong (kind_of e) kinds) none among

pub takes_them : (app : App) (ws words : List Text) (m : ArgMatches) (asked : Asked) → IsCommand app → ws ≡ words
    → (is_simple_and_free app ≡ true → fault_of app ws ≡ []) → HasMatchesOf app ws m
    → asked ≡ asked_in (rows_of (found_of m)) → Takes words asked
takes_them app ws words m asked is same kinds matches read = (
  sym (faults_are app ws words is same) ∙ kinds (ap is_simple_and_free is.2 ∙ simple_free is.0),
  read ∙ ap asked_in ((matches (ap is_simple is.2 ∙ simple is.0)).0 ∙ matches_are app ws words is same),
)

-- good words fail for want of memory alone
pub good_fails : (app : App) (ws words : List Text) (e : Error) (fault : WordsFault) → IsCommand app → ws ≡ words → fault_of command words ≡ []
    → (is_simple_and_free app ≡ true → HasKind (fault_of app ws) e) → fault ≡ fault_by (kind_of e) → fault ≡ NoMemory
good_fails app ws words e fault is same none kinds by =
    go (subst (λ faults. HasKind faults e) none (failed app ws words e is same kinds))
  where
    go : HasKind [] e → fault ≡ NoMemory
    go (inl memory) = by ∙ ap fault_by memory
    go (inr among) = absurd among

pub match_err : {T E : Type 0} (r : Result T E) (P Q : E → Type 0) (R : T → Type 0) → IsErrAnd r P → ((e : E) → P e → Q e) → MatchResult r R Q
match_err (Ok x) P Q R h so = absurd h
match_err (Err e) P Q R h so = so e h

-- the matches of the command have a number of each setting that they have
pub numbers_found : (app : App) (ws words : List Text) (m : ArgMatches) → IsCommand app → ws ≡ words
    → (is_simple_and_free app ≡ true → fault_of app ws ≡ []) → HasMatchesOf app ws m → HasNumbers (rows_of (found_of m))
numbers_found app ws words m is same kinds matches =
    let none = sym (faults_are app ws words is same) ∙ kinds (ap is_simple_and_free is.2 ∙ simple_free is.0) in
    let rows = (matches (ap is_simple is.2 ∙ simple is.0)).0 ∙ matches_are app ws words is same in
    λ s text found. numbers_pass modes words none s text (sym (ap (one_of (name_of s)) rows) ∙ found)
