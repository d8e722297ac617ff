-- Good words are taken, and come to what stands in them.
use Rattle.std.proofs.Common.{◌≡◌, ◌≢◌, ◌∙◌, ap, refl, sym, subst, Bool, true, false, List, [], ◌∷◌, Option, Some, None, arith, codes, cond, map, suc}
use Rattle.std.specs.List.{All, AllByRecursion, AllPairs, flat_map, fold, slice_index_or}
use Rattle.std.specs.Str.{bytes_eq}
use Rattle.std.proofs.lemmas.Option.{same_Some}
use Rattle.std.proofs.lemmas.Slice.Eq.{bytes_eq-Decides}
use Rattle.clap.specs.Faults.{default_fault, defaults_fault, level_fault, walk_fault}
use Rattle.clap.specs.Simple.{built}
use Rattle.clap.specs.Takes.{is_given}
use Rattle.clap.specs.Walk.{Held, Row, Rule, finished, has_row, nothing_held, one_of, walk, walk_from, with_default}
use Rattle.clap.specs.Words.{fault_of, matches_of}
use Rattle.clap.proofs.FaultLemmas.{leaf_fault}
use Rattle.im_words.proofs.GoodLemmas.{AreTaken, Ends, items_walk}
use Rattle.im_words.proofs.ItemLemmas.{row_for}
use Rattle.im_words.proofs.NumberTextLemmas.{items_pass, items_plain, number_is}
use Rattle.im_words.proofs.StepLemmas.{Settles, rules, shape}
use Rattle.im_words.specs.Asked.{asked_in, mode_called, mode_in, number_by, number_in}
use Rattle.im_words.specs.Command.{AreModes, ModeNames, command_with}
use Rattle.im_words.specs.Good.{HasNumber, IsGood, IsNumberFor, Item, Text, about, apart, joined, mode, mode_among, name_of_mode, number_among, said_of, spelled}
use Rattle.im_words.specs.Setting.{name_of}
use Rattle.im_words.specs.declared.asked.Asked.{Asked}
use Rattle.im_words.specs.declared.mode.Mode.{Mode}
use Rattle.im_words.specs.declared.mode.Mode.TheVariants.{Run, Race, Gen}
use Rattle.im_words.specs.declared.setting.Setting.{Setting}
use Rattle.im_words.specs.declared.setting.Setting.TheVariants.{Area, Workers, Turns, Rows, Seed}

-- ---- after the words: no argument has a default of its own

one_default : (rows : List Row) (a : Rule) → a.defaults ≡ [] → with_default rows a ≡ rows
one_default rows a none = go (has_row a.id rows) refl
  where
    go : (b : Bool) → has_row a.id rows ≡ b → with_default rows a ≡ rows
    go true b = rw b refl
    go false b = rw (b, none) refl

one_fault : (rows : List Row) (a : Rule) → a.defaults ≡ [] → default_fault rows a ≡ []
one_fault rows a none = go (has_row a.id rows) refl
  where
    go : (b : Bool) → has_row a.id rows ≡ b → default_fault rows a ≡ []
    go true b = rw b refl
    go false b = rw (b, none) refl

pub no_defaults : (rows : List Row) (rest : List Rule) → AllByRecursion (λ a. a.defaults ≡ []) rest → fold with_default rows rest ≡ rows
no_defaults rows [] h = refl
no_defaults rows (a ∷ rest) h = ap (λ r. fold with_default r rest) (one_default rows a h.0) ∙ no_defaults rows rest h.1

pub no_default_fault : (rows : List Row) (rest : List Rule) → AllByRecursion (λ a. a.defaults ≡ []) rest → defaults_fault rows rest ≡ []
unfolding defaults_fault
no_default_fault rows [] h = refl
no_default_fault rows (a ∷ rest) h = rw (one_fault rows a h.0, one_default rows a h.0) (no_default_fault rows rest h.1)

pub rules_plain : (names : ModeNames) → AllByRecursion (λ a. a.defaults ≡ []) (rules names)
rules_plain names = (refl, (refl, (refl, (refl, (refl, (refl, tt))))))

-- ---- the mode is there

not_mode : (s : Setting) → bytes_eq (name_of s) (codes "mode") ≡ false
not_mode Area = refl
not_mode Workers = refl
not_mode Turns = refl
not_mode Rows = refl
not_mode Seed = refl

mode_given : (items : List Item) (m : Mode) → mode_among items ≡ Some m → is_given (codes "mode") (map row_for items) ≡ true
mode_given [] m h = cc
mode_given (mode k ∷ rest) m h = refl
mode_given (apart s number ∷ rest) m h = rw (not_mode s) (mode_given rest m h)
mode_given (joined s number ∷ rest) m h = rw (not_mode s) (mode_given rest m h)

-- ---- the whole level

level_passes : (names : ModeNames) (ws : List Text) (end : Held) (rows : List Row)
    → walk_fault (shape names) [] (walk_from nothing_held) ws ≡ [] → (walk (rules names) [] nothing_held ws).held ≡ end
    → Settles names end rows → is_given (codes "mode") rows ≡ true
    → level_fault (shape names) [] nothing_held ws false [] ≡ []
level_passes names ws end rows fault is settles given =
    rw (
      fault,
      is,
      settles.fault,
      settles.kept,
      no_default_fault rows (rules names) (rules_plain names),
      no_defaults rows (rules names)
          (rules_plain names),
      given,
    ) refl

rows_kept : (names : ModeNames) (ws : List Text) (end : Held) (rows : List Row) → (walk (rules names) [] nothing_held ws).held ≡ end
    → Settles names end rows → finished (rules names) (walk (rules names) [] nothing_held ws).held ≡ rows
rows_kept names ws end rows is settles =
    ap (finished (rules names)) is ∙ (ap (λ r. fold with_default r (rules names)) settles.kept ∙ no_defaults rows (rules names) (rules_plain names))

-- ---- what the items say

tag : Text → Setting
tag t = cond (bytes_eq t (codes "area")) Area (cond (bytes_eq t (codes "workers")) Workers (cond (bytes_eq t (codes "turns")) Turns
    (cond (bytes_eq t (codes "rows")) Rows Seed)))

tag_of : (s : Setting) → tag (name_of s) ≡ s
unfolding tag
tag_of Area = refl
tag_of Workers = refl
tag_of Turns = refl
tag_of Rows = refl
tag_of Seed = refl

pub one_name : (a b : Setting) → bytes_eq (name_of a) (name_of b) ≡ true → a ≡ b
one_name a b same = sym (tag_of a) ∙ (ap tag ((bytes_eq-Decides (name_of a) (name_of b)).0 same) ∙ tag_of b)

pub not_setting : (s : Setting) → bytes_eq (codes "mode") (name_of s) ≡ false
not_setting Area = refl
not_setting Workers = refl
not_setting Turns = refl
not_setting Rows = refl
not_setting Seed = refl

found_of_items : (id : Text) (items : List Item) → one_of id (map row_for items) ≡ said_of id items
found_of_items id [] = refl
found_of_items id (x ∷ rest) = go (bytes_eq (about x) id) refl (found_of_items id rest)
  where
    go : (b : Bool) → bytes_eq (about x) id ≡ b → one_of id (map row_for rest) ≡ said_of id rest
        → one_of id (map row_for (x ∷ rest)) ≡ said_of id (x ∷ rest)
    go true b same = rw b refl
    go false b same = rw b same

said_number : (s : Setting) (items : List Item) → All HasNumber items → (t : Text) → said_of (name_of s) items ≡ Some t → IsNumberFor s t
said_number s [] numbers t is = cc
said_number s (mode m ∷ rest) numbers t is =
    said_number s rest (λ k d lt. numbers (suc k) d (omega (arith, lt))) t (rw (not_setting s) at is)
said_number s (apart a u ∷ rest) numbers t is =
    go (bytes_eq (name_of a) (name_of s)) refl (said_number s rest (λ k d lt. numbers (suc k) d (omega (arith, lt))) t)
  where
    go : (b : Bool) → bytes_eq (name_of a) (name_of s) ≡ b → (said_of (name_of s) rest ≡ Some t → IsNumberFor s t) → IsNumberFor s t
    go true b later =
        let here : Some u ≡ Some t = rw b at is in
        let number : IsNumberFor a u = numbers 0 (apart a u) (omega arith) in
        subst (λ r. IsNumberFor r t) (one_name a s b) (subst (λ v. IsNumberFor a v) (same_Some u t here) number)
    go false b later = later (rw b at is)
said_number s (joined a u ∷ rest) numbers t is =
    go (bytes_eq (name_of a) (name_of s)) refl (said_number s rest (λ k d lt. numbers (suc k) d (omega (arith, lt))) t)
  where
    go : (b : Bool) → bytes_eq (name_of a) (name_of s) ≡ b → (said_of (name_of s) rest ≡ Some t → IsNumberFor s t) → IsNumberFor s t
    go true b later =
        let here : Some u ≡ Some t = rw b at is in
        let number : IsNumberFor a u = numbers 0 (joined a u) (omega arith) in
        subst (λ r. IsNumberFor r t) (one_name a s b) (subst (λ v. IsNumberFor a v) (same_Some u t here) number)
    go false b later = later (rw b at is)

number_said : (s : Setting) (items : List Item) → All HasNumber items → number_in (map row_for items) s ≡ number_among items s
number_said s items numbers = ap (number_by s) (found_of_items (name_of s) items) ∙ go (said_of (name_of s) items) refl
  where
    go : (o : Option Text) → said_of (name_of s) items ≡ o → number_by s (said_of (name_of s) items) ≡ number_among items s
    go None o = rw o refl
    go (Some t) o = rw o (number_is s t (said_number s items numbers t o))

called_so : (m : Mode) → mode_called (name_of_mode m) ≡ m
called_so Run = refl
called_so Race = refl
called_so Gen = refl

mode_said : (items : List Item) (m : Mode) → mode_among items ≡ Some m → mode_in (map row_for items) ≡ m
mode_said [] m h = cc
mode_said (mode k ∷ rest) m h = called_so k ∙ same_Some k m h
mode_said (apart s number ∷ rest) m h = rw (not_mode s) (mode_said rest m h)
mode_said (joined s number ∷ rest) m h = rw (not_mode s) (mode_said rest m h)

asked_same : (a b : Asked) → a.mode ≡ b.mode → a.area ≡ b.area → a.workers ≡ b.workers → a.turns ≡ b.turns → a.rows ≡ b.rows
    → a.seed ≡ b.seed → a ≡ b
asked_same a b m area workers turns rows seed =
    λ i. record { mode = m i; area = area i; workers = workers i; turns = turns i; rows = rows i; seed = seed i }

-- ---- good words

taken_first : (names : ModeNames) → AreModes names → (items : List Item) → (words : List Text) (asked : Asked) (g : IsGood words asked)
    → g.items ≡ items → AreTaken names [] items
taken_first names are items words asked g same = record {
  fresh = λ k d lt. refl;
  once = subst (λ xs. AllPairs (λ x y. about x ≢ about y) xs) same g.once;
  pass = λ k d lt. items_pass names are (slice_index_or items k d) (subst (λ xs. All HasNumber xs) same g.numbers k d lt);
  plain = λ k d lt. items_plain (slice_index_or items k d) (subst (λ xs. All HasNumber xs) same g.numbers k d lt);
}

walk_of : (names : ModeNames) → AreModes names → (words : List Text) (asked : Asked) (g : IsGood words asked)
    → Ends names (walk_from nothing_held) (flat_map spelled g.items) (map row_for g.items)
walk_of names are words asked g = items_walk names g.items nothing_held 1 [] (record { kept = refl; fault = refl })
    (taken_first names are g.items words asked g refl) (λ none. refl)

pub good_words : (names : ModeNames) → AreModes names → (words : List Text) (asked : Asked) → IsGood words asked
    → (fault_of (command_with names) words ≡ []) × (asked_in (matches_of (command_with names) words) ≡ asked)
good_words names are words asked g =
    let e = walk_of names are words asked g in
    let held = ap (λ w. w.held) e.walks.goes in
    let given = mode_given g.items asked.mode g.mode in
    let level = level_passes names (flat_map spelled g.items) e.walks.held (map row_for g.items) e.walks.fault held e.walks.settles given in
    let rows = rows_kept names (flat_map spelled g.items) e.walks.held (map row_for g.items) held e.walks.settles in (
      ap (fault_of (command_with names)) g.spelling ∙ (leaf_fault (built (command_with names)) nothing_held (flat_map spelled g.items) refl ∙ level),
      ap (λ ws. asked_in (matches_of (command_with names) ws)) g.spelling ∙ (ap asked_in rows ∙ asked_same (asked_in (map row_for g.items)) asked
          (mode_said g.items asked.mode g.mode)
          (number_said Area g.items g.numbers ∙ sym g.area) (number_said Workers g.items g.numbers ∙ sym g.workers)
          (number_said Turns g.items g.numbers ∙ sym g.turns) (number_said Rows g.items g.numbers ∙ sym g.rows)
          (number_said Seed g.items g.numbers ∙ sym g.seed)),
    )
