-- The walk over the words of one item.
use Rattle.std.proofs.Common.{◌≡◌, ◌∙◌, ◌++◌, ap, refl, sym, subst, ℕ, Bool, true, false, List, [], ◌∷◌, Some, None, codes}
use Rattle.std.specs.Bool.{⊤}
use Rattle.std.specs.List.{fold}
use Rattle.std.specs.Str.{bytes_eq}
use Rattle.clap.specs.Faults.{settle_fault, turn_fault, use_fault, walk_fault}
use Rattle.clap.specs.Kinds.{or_else}
use Rattle.clap.specs.Lexer.{long_of, short_of}
use Rattle.clap.specs.Simple.{Shape, built}
use Rattle.clap.specs.ValueTests.{accepts}
use Rattle.clap.specs.Facts.{parser_of_value}
use Rattle.clap.specs.Walk.{Held, Row, Rule, Walk, arg_by_id, has_row, idle, is_pending, option, settled_rows, used, walked}
use Rattle.clap.proofs.OnLiterals.{clap_on_literals}
use Rattle.im_words.proofs.ItemLemmas.{full, full_mode, row_for, rule_for, used_first}
use Rattle.im_words.specs.Command.{ModeNames, command_with}
use Rattle.im_words.specs.Good.{Item, Text, about, apart, joined, mode, name_of_mode, said, spelled}
use Rattle.im_words.specs.Setting.{name_of}
use Rattle.im_words.specs.declared.mode.Mode.{Mode}
use Rattle.im_words.specs.declared.mode.Mode.TheVariants.{Run, Race, Gen}
use Rattle.im_words.specs.declared.setting.Setting.{Setting}
use Rattle.im_words.specs.declared.setting.Setting.TheVariants.{Area, Workers, Turns, Rows, Seed}

-- the command as it is built
abbrev pub rules : ModeNames → List Rule
rules names = full_mode names ∷ full Area ∷ full Workers ∷ full Turns ∷ full Rows ∷ full Seed ∷ []

abbrev pub shape : ModeNames → Shape
shape names = (built (command_with names)).top

pub rules_are : (names : ModeNames) → (shape names).rules ≡ rules names
rules_are names = refl

by_id : (names : ModeNames) (x : Item) → arg_by_id (rules names) (about x) ≡ Some (rule_for names x)
by_id names (mode m) = refl
by_id names (apart Area number) = refl
by_id names (apart Workers number) = refl
by_id names (apart Turns number) = refl
by_id names (apart Rows number) = refl
by_id names (apart Seed number) = refl
by_id names (joined Area number) = refl
by_id names (joined Workers number) = refl
by_id names (joined Turns number) = refl
by_id names (joined Rows number) = refl
by_id names (joined Seed number) = refl

-- the value of an item passes its argument
abbrev pub Passes : ModeNames → Item → Type 0
Passes names x = accepts false (parser_of_value (rule_for names x).parser) (said x) ≡ true

-- a first use of an argument has no fault
use_passes : (names : ModeNames) (x : Item) (rows : List Row) → has_row (about x) rows ≡ false → Passes names x
    → use_fault false (rule_for names x) (said x ∷ []) rows ≡ []
use_passes names (mode m) rows fresh passes = rw (fresh, passes) refl
use_passes names (apart s number) rows fresh passes = rw (fresh, passes) refl
use_passes names (joined s number) rows fresh passes = rw (fresh, passes) refl

-- what is held comes to these rows, with no fault
pub record Settles (names : ModeNames) (h : Held) (rows : List Row) : Type 0 where
  pub kept : settled_rows (rules names) h.pending h.rows ≡ rows
  pub fault : settle_fault (rules names) false h ≡ []

-- an argument is pending with its value
pub settles_pending : (names : ModeNames) (x : Item) (rows : List Row) (skip : ℕ) → has_row (about x) rows ≡ false → Passes names x
    → Settles names (record { rows = rows; pending = Some (about x, said x ∷ []); skip = skip }) (rows ++ row_for x ∷ [])
settles_pending names x rows skip fresh passes = record {
  kept = rw (by_id names x) (used_first names x rows fresh);
  fault = rw (by_id names x) (use_passes names x rows fresh passes);
}

-- the walk between two items
abbrev pub between : Held → ℕ → Walk
between h n = record { held = h; waiting = idle; position = n; is_trailing = false; stopped = None }

abbrev pub waiting_for : Text → Held → ℕ → Walk
waiting_for id h n = record { held = h; waiting = option id; position = n; is_trailing = false; stopped = None }

-- `--area=5`
abbrev joined_held : ModeNames → Setting → Text → Held → Held
joined_held names s number h =
    record h { rows = used (full s) (number ∷ []) (settled_rows (rules names) h.pending h.rows); pending = None }

joined_goes : (names : ModeNames) (s : Setting) (number : Text) (h : Held) (n : ℕ)
    → walked (rules names) [] (between h n) (codes "--" ++ (name_of s ++ (codes "=" ++ number))) ≡ between (joined_held names s number h) n
unfolding clap_on_literals
joined_goes names Area number h n = refl
joined_goes names Workers number h n = refl
joined_goes names Turns number h n = refl
joined_goes names Rows number h n = refl
joined_goes names Seed number h n = refl

joined_fault : (names : ModeNames) (s : Setting) (number : Text) (h : Held) (n : ℕ)
    → turn_fault (shape names) [] (between h n) (codes "--" ++ (name_of s ++ (codes "=" ++ number)))
    ≡ or_else (or_else (settle_fault (rules names) false h) (use_fault false (full s) (number ∷ []) (settled_rows (rules names) h.pending h.rows))) []
joined_fault names Area number h n = refl
joined_fault names Workers number h n = refl
joined_fault names Turns number h n = refl
joined_fault names Rows number h n = refl
joined_fault names Seed number h n = refl

-- `--area`
abbrev option_held : ModeNames → Setting → Held → Held
option_held names s h = record h { rows = settled_rows (rules names) h.pending h.rows; pending = Some (name_of s, []) }

option_goes : (names : ModeNames) (s : Setting) (h : Held) (n : ℕ)
    → walked (rules names) [] (between h n) (codes "--" ++ name_of s) ≡ waiting_for (name_of s) (option_held names s h) n
unfolding clap_on_literals
option_goes names Area h n = refl
option_goes names Workers h n = refl
option_goes names Turns h n = refl
option_goes names Rows h n = refl
option_goes names Seed h n = refl

option_fault : (names : ModeNames) (s : Setting) (h : Held) (n : ℕ)
    → turn_fault (shape names) [] (between h n) (codes "--" ++ name_of s) ≡ or_else (settle_fault (rules names) false h) []
option_fault names Area h n = refl
option_fault names Workers h n = refl
option_fault names Turns h n = refl
option_fault names Rows h n = refl
option_fault names Seed h n = refl

-- a word that does not begin with a hyphen is neither `--` nor a flag
pub record IsPlainWord (word : Text) : Type 0 where
  pub no_end : bytes_eq word (45 ∷ 45 ∷ []) ≡ false
  pub no_long : long_of word ≡ None
  pub no_short : short_of word ≡ None

-- the number behind `--area`
value_goes : (names : ModeNames) (s : Setting) (number : Text) (rows : List Row) (skip n : ℕ) → IsPlainWord number
    → walked (rules names) [] (waiting_for (name_of s) (record { rows = rows; pending = Some (name_of s, []); skip = skip }) n) number
    ≡ between (record { rows = rows; pending = Some (name_of s, number ∷ []); skip = skip }) n
unfolding clap_on_literals
value_goes names Area number rows skip n p = rw (p.no_end, p.no_long, p.no_short) refl
value_goes names Workers number rows skip n p = rw (p.no_end, p.no_long, p.no_short) refl
value_goes names Turns number rows skip n p = rw (p.no_end, p.no_long, p.no_short) refl
value_goes names Rows number rows skip n p = rw (p.no_end, p.no_long, p.no_short) refl
value_goes names Seed number rows skip n p = rw (p.no_end, p.no_long, p.no_short) refl

value_fault : (names : ModeNames) (s : Setting) (number : Text) (h : Held) (n : ℕ) → IsPlainWord number
    → turn_fault (shape names) [] (waiting_for (name_of s) h n) number ≡ []
value_fault names s number h n p = rw (p.no_end, p.no_long, p.no_short) refl

-- the name of a mode
mode_plain : (m : Mode) → IsPlainWord (name_of_mode m)
mode_plain Run = record { no_end = refl; no_long = refl; no_short = refl }
mode_plain Race = record { no_end = refl; no_long = refl; no_short = refl }
mode_plain Gen = record { no_end = refl; no_long = refl; no_short = refl }

abbrev mode_held : ModeNames → Text → Held → Held
mode_held names word h = record h { rows = settled_rows (rules names) h.pending h.rows; pending = Some (codes "mode", word ∷ []) }

mode_goes : (names : ModeNames) (word : Text) (h : Held) → IsPlainWord word
    → walked (rules names) [] (between h 1) word ≡ between (mode_held names word h) 2
unfolding clap_on_literals
mode_goes names word h p = go (is_pending (full_mode names) h.pending) refl
  where
    go : (b : Bool) → is_pending (full_mode names) h.pending ≡ b → walked (rules names) [] (between h 1) word ≡ between (mode_held names word h) 2
    go true b = rw (p.no_end, p.no_long, p.no_short, b) refl
    go false b = rw (p.no_end, p.no_long, p.no_short, b) refl

mode_fault : (names : ModeNames) (word : Text) (h : Held) → IsPlainWord word → settle_fault (rules names) false h ≡ []
    → turn_fault (shape names) [] (between h 1) word ≡ []
mode_fault names word h p none = go (is_pending (full_mode names) h.pending) refl
  where
    go : (b : Bool) → is_pending (full_mode names) h.pending ≡ b → turn_fault (shape names) [] (between h 1) word ≡ []
    go true b = rw (p.no_end, p.no_long, p.no_short, b, none) refl
    go false b = rw (p.no_end, p.no_long, p.no_short, b, none) refl

-- these words take the walk on with no fault, to where all these rows are kept
pub record Walks (names : ModeNames) (from : Walk) (words : List Text) (all : List Row) (n : ℕ) : Type 0 where
  pub held : Held
  pub goes : fold (walked (rules names) []) from words ≡ between held n
  pub fault : walk_fault (shape names) [] from words ≡ []
  pub settles : Settles names held all

-- a number behind a name of its own is no flag
abbrev pub IsPlain : Item → Type 0
IsPlain (mode m) = ⊤
IsPlain (apart s number) = IsPlainWord number
IsPlain (joined s number) = ⊤

-- where the walk looks for a positional after the item
abbrev pub position_after : Item → ℕ → ℕ
position_after (mode m) n = 2
position_after (apart s number) n = n
position_after (joined s number) n = n

abbrev pub IsAtMode : Item → ℕ → Type 0
IsAtMode (mode m) n = n ≡ 1
IsAtMode (apart s number) n = ⊤
IsAtMode (joined s number) n = ⊤

mode_walks : (names : ModeNames) (m : Mode) (h : Held) (rows : List Row) → Settles names h rows → has_row (codes "mode") rows ≡ false
    → Passes names (mode m) → Walks names (between h 1) (spelled (mode m)) (rows ++ row_for (mode m) ∷ []) 2
unfolding clap_on_literals
mode_walks names m h rows settles fresh passes = record {
  held = mode_held names (name_of_mode m) h;
  goes = mode_goes names (name_of_mode m) h (mode_plain m);
  fault = rw (mode_fault names (name_of_mode m) h (mode_plain m) settles.fault) refl;
  settles = subst (λ kept. Settles names (record h { rows = kept; pending = Some (codes "mode", name_of_mode m ∷ []) }) (rows ++ row_for (mode m) ∷ []))
      (sym settles.kept) (settles_pending names (mode m) rows h.skip fresh passes);
}

apart_walks : (names : ModeNames) (s : Setting) (number : Text) (h : Held) (n : ℕ) (rows : List Row) → Settles names h rows
    → has_row (name_of s) rows ≡ false → Passes names (apart s number) → IsPlainWord number
    → Walks names (between h n) (spelled (apart s number)) (rows ++ row_for (apart s number) ∷ []) n
unfolding clap_on_literals
apart_walks names s number h n rows settles fresh passes plain = record {
  held = record h { rows = settled_rows (rules names) h.pending h.rows; pending = Some (name_of s, number ∷ []) };
  goes = ap (λ w. walked (rules names) [] w number) (option_goes names s h n)
      ∙ value_goes names s number (settled_rows (rules names) h.pending h.rows) h.skip n plain;
  fault = rw (option_fault names s h n, settles.fault, option_goes names s h n, value_fault names s number (option_held names s h) n plain) refl;
  settles = subst (λ kept. Settles names (record h { rows = kept; pending = Some (name_of s, number ∷ []) }) (rows ++ row_for (apart s number) ∷ []))
      (sym settles.kept) (settles_pending names (apart s number) rows h.skip fresh passes);
}

joined_walks : (names : ModeNames) (s : Setting) (number : Text) (h : Held) (n : ℕ) (rows : List Row) → Settles names h rows
    → has_row (name_of s) rows ≡ false → Passes names (joined s number)
    → Walks names (between h n) (spelled (joined s number)) (rows ++ row_for (joined s number) ∷ []) n
unfolding clap_on_literals
joined_walks names s number h n rows settles fresh passes = record {
  held = joined_held names s number h;
  goes = joined_goes names s number h n;
  fault = rw (joined_fault names s number h n, settles.fault, settles.kept, use_passes names (joined s number) rows fresh passes) refl;
  settles = record {
    kept = ap (used (full s) (number ∷ [])) settles.kept ∙ used_first names (joined s number) rows fresh;
    fault = refl;
  };
}

-- the words of one item
pub item_walks : (names : ModeNames) (x : Item) (h : Held) (n : ℕ) (rows : List Row) → Settles names h rows
    → has_row (about x) rows ≡ false → Passes names x → IsPlain x → IsAtMode x n
    → Walks names (between h n) (spelled x) (rows ++ row_for x ∷ []) (position_after x n)
item_walks names (mode m) h n rows settles fresh passes plain at =
    subst (λ k. Walks names (between h k) (spelled (mode m)) (rows ++ row_for (mode m) ∷ []) 2) (sym at)
    (mode_walks names m h rows settles fresh passes)
item_walks names (apart s number) h n rows settles fresh passes plain at = apart_walks names s number h n rows settles fresh passes plain
item_walks names (joined s number) h n rows settles fresh passes plain at = joined_walks names s number h n rows settles fresh passes
