-- Where the command takes the words, each value that it found of a setting is a number that the setting may be set to.
use Rattle.std.proofs.Common.{◌≡◌, ◌⊎◌, ◌∙◌, ◌&&◌, ◌==◌, ◌++◌, ap, refl, sym, subst, ℕ, Bool, true, false, List, [], ◌∷◌, Option, Some, None, codes, arith, drop, inl, inr, length, suc, zero}
use Rattle.std.specs.List.{AllByRecursion, fold}
use Rattle.std.specs.Prelude.{IfSome, encode_utf8, find, if◌then◌else◌, is_some, not, slice_get}
use Rattle.std.specs.Str.{bytes_eq, chars}
use Rattle.std.proofs.lemmas.Option.{same_Some}
use Rattle.clap.specs.Faults.{flag_word_fault, option_fault, long_fault, other_fault, positional_fault, react_fault, repeat_fault, settle_fault, step_fault, turn_fault, set_fault, level_fault, use_fault, walk_fault, word_fault}
use Rattle.clap.specs.Kinds.{Kinds, range_kinds, value_kinds, values_kinds}
use Rattle.clap.specs.Lexer.{long_of, short_of}
use Rattle.clap.specs.Simple.{built}
use Rattle.clap.specs.ValueTests.{is_unsigned_in}
use Rattle.clap.specs.Walk.{Held, Outcome, Row, Rule, Step, Waiting, Walk, after_flag, after_step, arg_by_id, arg_by_long, bundle_met, done, finished, flag_met, has_long, has_row, idle, is_pending, more_values, long_met, long_or_other, next, nothing_held, one_of, option, option_met, option_word, plain, plain_word, positional, positional_held, refused, row_text, settled_rows, short_or_plain, subcommand, subcommand_or_other, takes_values, trailing, used, value, values_or_missing, waits, walk, walk_from, walked, walked_from, word_met}
use Rattle.clap.specs.Words.{fault_of, matches_of}
use Rattle.clap.specs.declared.builder.value_parser.Reading.TheVariants.{AsWritten}
use Rattle.clap.specs.declared.error.kind.ErrorKind.{ErrorKind}
use Rattle.clap.specs.declared.error.kind.ErrorKind.TheVariants.{TooManyValues}
use Rattle.clap.specs.declared.builder.value_parser.ValueParser.TheVariants as parsers
use Rattle.clap.specs.declared.parser.matches.ValueSource.TheVariants.{CommandLine}
use Rattle.clap.proofs.FaultLemmas.{leaf_fault}
use Rattle.im_words.proofs.GoodLemmas.{or_none}
use Rattle.im_words.proofs.ItemLemmas.{full, full_mode, no_row}
use Rattle.im_words.proofs.StepLemmas.{rules, shape}
use Rattle.im_words.proofs.TakenLemmas.{no_defaults, not_setting, one_name, rules_plain}
use Rattle.im_words.specs.Command.{ModeNames, command_with}
use Rattle.im_words.specs.Good.{Text}
use Rattle.im_words.specs.Setting.{least_of, most_of, name_of}
use Rattle.im_words.specs.declared.setting.Setting.{Setting}
use Rattle.im_words.specs.declared.setting.Setting.TheVariants.{Area, Workers, Turns, Rows, Seed}

module _ (names : ModeNames) where
  some_kind : {k : ErrorKind} {rest : Kinds} → k ∷ rest ≡ [] → ⊥
  some_kind {k} {rest} e =
      let bad : suc (length rest) ≡ 0 = ap length e in
      omega (arith, bad)

  -- the row of a setting has a number of it
  RowPasses : Row → Type 0
  RowPasses r = (s : Setting) → bytes_eq r.id (name_of s) ≡ true → (t : Text) → row_text r ≡ Some t → is_unsigned_in (least_of s) (most_of s) t ≡ true

  Pass : List Row → Type 0
  Pass = AllByRecursion RowPasses

  one-more : (rows : List Row) (r : Row) → Pass rows → RowPasses r → Pass (rows ++ r ∷ [])
  unfolding Pass
  one-more [] r all this = (this, tt)
  one-more (x ∷ xs) r all this = (all.0, one-more xs r all.1 this)

  -- the argument is one of the command's
  Ours : Rule → Type 0
  Ours a = (a ≡ full_mode names) ⊎ ((s : Setting) × (a ≡ full s))

  all-ours : AllByRecursion Ours (rules names)
  unfolding Ours
  all-ours = (inl refl, (inr (Area, refl), (inr (Workers, refl), (inr (Turns, refl), (inr (Rows, refl), (inr (Seed, refl), tt))))))

  found-ours : (p : Rule → Bool) (rest : List Rule) → AllByRecursion Ours rest → IfSome (find p rest) Ours
  found-ours p [] all = tt
  found-ours p (a ∷ rest) all = go (p a) refl (found-ours p rest all.1)
    where
      go : (b : Bool) → p a ≡ b → IfSome (find p rest) Ours → IfSome (find p (a ∷ rest)) Ours
      go true b later = rw b all.0
      go false b later = rw b later

  -- ---- one use of an argument

  set_row : Text → List Text → Row
  set_row id values = record { id = id; values = values; count = None; source = Some CommandLine; reading = AsWritten }

  setting-passes : (s : Setting) (values : List Text) → values_kinds false (parsers.Unsigned (least_of s) (most_of s)) values ≡ []
      → RowPasses (set_row (name_of s) values)
  unfolding RowPasses set_row
  setting-passes s [] none r same t is = cc
  setting-passes s (v ∷ vs) none r same t is = go (is_unsigned_in (least_of s) (most_of s) v) refl
    where
      go : (b : Bool) → is_unsigned_in (least_of s) (most_of s) v ≡ b → is_unsigned_in (least_of r) (most_of r) t ≡ true
      go true b = subst (λ x. is_unsigned_in (least_of x) (most_of x) t ≡ true) (one_name s r same)
          (subst (λ u. is_unsigned_in (least_of s) (most_of s) u ≡ true) (same_Some v t is) b)
      go false b =
          let refused = (or_none (value_kinds false (parsers.Unsigned (least_of s) (most_of s)) v)
          (values_kinds false (parsers.Unsigned (least_of s) (most_of s)) vs) none).0 in
          absurd (some_kind (rw b at refused))

  setting-used : (s : Setting) (values : List Text) (rows : List Row) → use_fault false (full s) values rows ≡ [] → Pass rows → Pass (used (full s) values rows)
  unfolding set_row
  setting-used s values rows none all = go (has_row (name_of s) rows) refl values none
    where
      go : (b : Bool) → has_row (name_of s) rows ≡ b → (vs : List Text) → use_fault false (full s) vs rows ≡ [] → Pass (used (full s) vs rows)
      go true b vs none =
          let again = (or_none (repeat_fault false (name_of s) rows)
          (values_kinds false (parsers.Unsigned (least_of s) (most_of s)) (values_or_missing (full s) vs))
          (or_none (range_kinds 1 1 (length vs)) (set_fault false (full s) (values_or_missing (full s) vs) rows) none).1).0 in
          absurd (some_kind (rw b at again))
      go false b [] none = subst Pass (sym (no_row (name_of s) (more_values CommandLine []) (set_row (name_of s) [] ∷ []) rows b))
          (one-more rows (set_row (name_of s) []) all (setting-passes s [] refl))
      go false b (v ∷ vs) none =
          let passes = (or_none (repeat_fault false (name_of s) rows) (values_kinds false (parsers.Unsigned (least_of s) (most_of s)) (v ∷ vs))
          (or_none (range_kinds 1 1 (length (v ∷ vs))) (set_fault false (full s) (v ∷ vs) rows) none).1).1 in
          subst Pass (sym (no_row (name_of s) (more_values CommandLine (v ∷ vs)) (set_row (name_of s) (v ∷ vs) ∷ []) rows b))
          (one-more rows (set_row (name_of s) (v ∷ vs)) all (setting-passes s (v ∷ vs) passes))

  mode-passes : (values : List Text) → RowPasses (set_row (codes "mode") values)
  unfolding RowPasses set_row
  mode-passes values r same t is =
      let bad : false ≡ true = sym (not_setting r) ∙ same in
      cc

  mode-used : (values : List Text) (rows : List Row) → use_fault false (full_mode names) values rows ≡ [] → Pass rows →
      Pass (used (full_mode names) values rows)
  unfolding set_row
  mode-used values rows none all = go (has_row (codes "mode") rows) refl values none
    where
      go : (b : Bool) → has_row (codes "mode") rows ≡ b → (vs : List Text) → use_fault false (full_mode names) vs rows ≡ [] →
          Pass (used (full_mode names) vs rows)
      go true b vs none =
          let again = (or_none (repeat_fault false (codes "mode") rows) (values_kinds false (parsers.Names names) (values_or_missing (full_mode names) vs))
          (or_none (range_kinds 1 1 (length vs)) (set_fault false (full_mode names) (values_or_missing (full_mode names) vs) rows) none).1).0 in
          absurd (some_kind (rw b at again))
      go false b [] none = subst Pass (sym (no_row (codes "mode") (more_values CommandLine []) (set_row (codes "mode") [] ∷ []) rows b))
          (one-more rows (set_row (codes "mode") []) all (mode-passes []))
      go false b (v ∷ vs) none = subst Pass (sym (no_row (codes "mode") (more_values CommandLine (v ∷ vs)) (set_row (codes "mode") (v ∷ vs) ∷ []) rows b))
          (one-more rows (set_row (codes "mode") (v ∷ vs)) all (mode-passes (v ∷ vs)))

  our-use : (a : Rule) (values : List Text) (rows : List Row) → Ours a → use_fault false a values rows ≡ [] → Pass rows → Pass (used a values rows)
  unfolding Ours
  our-use a values rows (inl is) none all =
      subst (λ r. Pass (used r values rows)) (sym is) (mode-used values rows (subst (λ r. use_fault false r values rows ≡ []) is none) all)
  our-use a values rows (inr is) none all =
      subst (λ r. Pass (used r values rows)) (sym is.1) (setting-used is.0 values rows (subst (λ r. use_fault false r values rows ≡ []) is.1 none) all)

  -- ---- the walk

  settled-pass : (h : Held) → settle_fault (rules names) false h ≡ [] → Pass h.rows → Pass (settled_rows (rules names) h.pending h.rows)
  settled-pass h none all = pending h.pending none
    where
      pending : (u : Option (Text × List Text)) → settle_fault (rules names) false (record h { pending = u }) ≡ [] → Pass (settled_rows (rules names) u h.rows)
      pending None none = all
      pending (Some u) none = go (arg_by_id (rules names) u.0) refl (found-ours (λ a. bytes_eq a.id u.0) (rules names) all-ours)
        where
          go : (found : Option Rule) → arg_by_id (rules names) u.0 ≡ found → IfSome (arg_by_id (rules names) u.0) Ours →
              Pass (settled_rows (rules names) (Some u) h.rows)
          go None is ours = rw is all
          go (Some a) is ours =
              rw is (our-use a u.1 h.rows (rw is at ours) (rw is at none) all)

  react-pass : (a : Rule) (values : List Text) (h : Held) → Ours a → react_fault (rules names) false a values h ≡ [] → Pass h.rows
      → Pass (used a values (settled_rows (rules names) h.pending h.rows))
  react-pass a values h ours none all =
      let parts = or_none (settle_fault (rules names) false h) (use_fault false a values (settled_rows (rules names) h.pending h.rows)) none in
      our-use a values (settled_rows (rules names) h.pending h.rows) ours parts.1 (settled-pass h parts.0 all)

  option-pass : (a : Rule) (v : Option Text) (h : Held) → Ours a → option_fault (rules names) false a v h ≡ [] → Pass h.rows →
      Pass (option_met (rules names) a v h).0.rows
  option-pass a None h ours none all = settled-pass h none all
  option-pass a (Some v) h ours none all = react-pass a (v ∷ []) h ours none all

  flag-pass : (a : Rule) (v : Option Text) (h : Held) → Ours a → (if is_some v then TooManyValues ∷ [] else react_fault (rules names) false a [] h) ≡ []
      → Pass h.rows → Pass (flag_met (rules names) a v h).0.rows
  flag-pass a None h ours none all = react-pass a [] h ours none all
  flag-pass a (Some v) h ours none all = all

  long-pass : (found : Option Rule) (v : Option Text) (h : Held) → IfSome found Ours → long_fault (rules names) false found v h ≡ [] → Pass h.rows
      → Pass (long_met (rules names) found v h).0.rows
  long-pass None v h ours none all = all
  long-pass (Some a) v h ours none all = go (takes_values a) refl
    where
      go : (b : Bool) → takes_values a ≡ b → Pass (long_met (rules names) (Some a) v h).0.rows
      go true b = rw b (option-pass a v h ours (rw b at none) all)
      go false b = rw b (flag-pass a v h ours (rw b at none) all)

  pushed-pass : (found : Option Rule) (id word : Text) (h : Held) → Pass h.rows → Pass (option_word found id word h).0.rows
  pushed-pass None id word h all = all
  pushed-pass (Some a) id word h all = all

  plain-pass : (w : Waiting) (word : Text) (h : Held) → Pass h.rows → Pass (plain_word (rules names) w word h).0.rows
  plain-pass idle word h all = all
  plain-pass (option id) word h all = pushed-pass (arg_by_id (rules names) id) id word h all
  plain-pass positional word h all = all

  after-pass : (w : Waiting) (word : Text) (h : Held) (o : Outcome) → Pass h.rows → Pass (after_flag (rules names) w word h o).0.rows
  after-pass w word h done all = all
  after-pass w word h (waits id) all = all
  after-pass w word h plain all = plain-pass w word h all
  after-pass w word h refused all = plain-pass w word h all

  bundle-pass : (k : ℕ) (flags : Text) (skip : ℕ) (so_far : Outcome) (h : Held) → Pass h.rows → Pass (bundle_met (rules names) k flags skip so_far h).0.rows
  unfolding bundle_met
  bundle-pass zero flags skip so_far h all = all
  bundle-pass (suc k) flags skip so_far h all = go (slice_get (chars flags) 0) refl skip (λ f s. bundle-pass k f s so_far h all)
    where
      go : (x : Option ℕ) → slice_get (chars flags) 0 ≡ x → (s : ℕ) → ((f : Text) (n : ℕ) → Pass (bundle_met (rules names) k f n so_far h).0.rows)
          → Pass (bundle_met (rules names) (suc k) flags s so_far h).0.rows
      go None e s rec = rw e all
      go (Some x) e zero rec = rw e all
      go (Some x) e (suc s) rec = rw e (rec (drop (length (encode_utf8 x)) flags) s)

  short-pass : (w : Waiting) (word : Text) (flags : Option Text) (h : Held) → Pass h.rows → Pass (short_or_plain (rules names) w word flags h).0.rows
  short-pass w word None h all = plain-pass w word h all
  short-pass w word (Some flags) h all =
      let met = bundle_met (rules names) (length flags) flags h.skip plain (record h { skip = 0 }) in
      after-pass w word met.0 met.1 (bundle-pass (length flags) flags h.skip plain (record h { skip = 0 }) all)

  other-pass : (w : Waiting) (word : Text) (parts : Option (Text × Option Text)) (h : Held) → flag_word_fault (rules names) false parts word h ≡ []
      → Pass h.rows → Pass (long_or_other (rules names) w word parts h).0.rows
  other-pass w word None h none all = short-pass w word (short_of word) h all
  other-pass w word (Some u) h none all =
      let met = long_met (rules names) (arg_by_long (rules names) u.0) u.1 h in
      after-pass w word met.0 met.1
      (long-pass (arg_by_long (rules names) u.0) u.1 h (found-ours (λ a. not (is_some a.index) && has_long a u.0) (rules names) all-ours) none all)

  word-pass : (w : Waiting) (n : ℕ) (word : Text) (h : Held) → other_fault (shape names) None word h ≡ [] → Pass h.rows
      → Pass (subcommand_or_other (rules names) None w n word h).0.rows
  word-pass w n word h none all = go (bytes_eq word (45 ∷ 45 ∷ [])) refl
    where
      go : (b : Bool) → bytes_eq word (45 ∷ 45 ∷ []) ≡ b → Pass (subcommand_or_other (rules names) None w n word h).0.rows
      go true b = rw b all
      go false b = rw b (other-pass w word (long_of word) h (rw b at none) all)

  met-pass : (t : Bool) (w : Waiting) (n : ℕ) (word : Text) (h : Held) → word_fault (shape names) [] t w word h ≡ [] → Pass h.rows
      → Pass (word_met (rules names) [] t w n word h).0.rows
  met-pass true w n word h none all = all
  met-pass false idle n word h none all = word-pass idle n word h none all
  met-pass false (option id) n word h none all = word-pass (option id) n word h none all
  met-pass false positional n word h none all = word-pass positional n word h none all

  held-pass : (word : Text) (h : Held) → positional_fault (rules names) false (full_mode names) h ≡ [] → Pass h.rows
      → Pass (positional_held (rules names) (full_mode names) word h).rows
  held-pass word h none all = go (is_pending (full_mode names) h.pending) refl
    where
      go : (t : Bool) → is_pending (full_mode names) h.pending ≡ t → Pass (positional_held (rules names) (full_mode names) word h).rows
      go true t = rw t (settled-pass h (rw t at none) all)
      go false t = rw t (settled-pass h (rw t at none) all)

  step-pass : (word : Text) (w : Walk) (h : Held) (step : Step) → step_fault (shape names) w.position h step ≡ [] → Pass h.rows
      → Pass (after_step (rules names) word w h step).held.rows
  step-pass word w h (next waiting) none all = all
  step-pass word w h (trailing m) none all = all
  step-pass word w h (subcommand name) none all = all
  step-pass word w h value none all = go (1 == w.position) refl
    where
      go : (b : Bool) → (1 == w.position) ≡ b → Pass (after_step (rules names) word w h value).held.rows
      go true b = rw b (held-pass word h (rw b at none) all)
      go false b = rw b all

  from-pass : (stopped : Option (Text × List Text)) (w : Walk) (word : Text) → turn_fault (shape names) [] (record w { stopped = stopped }) word ≡ []
      → Pass w.held.rows → Pass (walked_from (rules names) [] stopped w word).held.rows
  from-pass (Some u) w word none all = all
  from-pass None w word none all =
      let met = word_met (rules names) [] w.is_trailing w.waiting w.position word w.held in
      let parts = or_none (word_fault (shape names) [] w.is_trailing w.waiting word w.held) (step_fault (shape names) w.position met.0 met.1) none in
      step-pass word w met.0 met.1 parts.1 (met-pass w.is_trailing w.waiting w.position word w.held parts.0 all)

  walked-pass : (w : Walk) (word : Text) → turn_fault (shape names) [] w word ≡ [] → Pass w.held.rows → Pass (walked (rules names) [] w word).held.rows
  unfolding walked
  walked-pass w word none all = from-pass w.stopped w word none all

  walk-pass : (w : Walk) (words : List Text) → walk_fault (shape names) [] w words ≡ [] → Pass w.held.rows
      → Pass (fold (walked (rules names) []) w words).held.rows
  unfolding walk_fault
  walk-pass w [] none all = all
  walk-pass w (word ∷ rest) none all =
      let parts = or_none (turn_fault (shape names) [] w word) (walk_fault (shape names) [] (walked (rules names) [] w word) rest) none in
      walk-pass (walked (rules names) [] w word) rest parts.1 (walked-pass w word parts.0 all)

  -- ---- the rows at the end

  one-passes : (rows : List Row) → Pass rows → (s : Setting) (t : Text) → one_of (name_of s) rows ≡ Some t → is_unsigned_in (least_of s) (most_of s) t ≡ true
  unfolding Pass RowPasses
  one-passes [] all s t is = cc
  one-passes (r ∷ rows) all s t is = go (bytes_eq r.id (name_of s)) refl (one-passes rows all.1 s t)
    where
      go : (b : Bool) → bytes_eq r.id (name_of s) ≡ b → (one_of (name_of s) rows ≡ Some t → is_unsigned_in (least_of s) (most_of s) t ≡ true)
          → is_unsigned_in (least_of s) (most_of s) t ≡ true
      go true b later = all.0 s b t (rw b at is)
      go false b later = later (rw b at is)

  rows-pass : (words : List Text) → level_fault (shape names) [] nothing_held words false [] ≡ []
      → Pass (finished (rules names) (walk (rules names) [] nothing_held words).held)
  unfolding Pass
  rows-pass words none =
      let end = (walk (rules names) [] nothing_held words).held in
      let first = or_none (walk_fault (shape names) [] (walk_from nothing_held) words) _ none in
      let second = or_none (settle_fault (rules names) false end) _ first.1 in
      subst Pass (sym (no_defaults (settled_rows (rules names) end.pending end.rows) (rules names) (rules_plain names)))
      (settled-pass end second.0 (walk-pass (walk_from nothing_held) words first.0 tt))

  pub numbers_pass : (words : List Text) → fault_of (command_with names) words ≡ [] → (s : Setting) (t : Text)
      → one_of (name_of s) (matches_of (command_with names) words) ≡ Some t → is_unsigned_in (least_of s) (most_of s) t ≡ true
  numbers_pass words none =
      one-passes (matches_of (command_with names) words)
      (rows-pass (drop 1 words) (sym (leaf_fault (built (command_with names)) nothing_held (drop 1 words) refl) ∙ none))
