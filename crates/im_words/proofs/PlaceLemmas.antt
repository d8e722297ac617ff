-- What a parse finds, and how it fails, does not depend on where the names of the modes lie in memory.
use Rattle.std.proofs.Common.{◌≡◌, ◌∙◌, ◌||◌, ◌==◌, ◌+◌, ap, ap₂, refl, sym, ℕ, Bool, true, false, List, [], ◌∷◌, Option, Some, None, codes, length, suc, zero, drop, min}
use Rattle.std.specs.List.{fold, list_any}
use Rattle.std.specs.Option.{option_map_or}
use Rattle.std.specs.Prelude.{encode_utf8, if◌then◌else◌, is_some, slice_get}
use Rattle.std.specs.Str.{bytes_eq, chars}
use Rattle.clap.specs.Faults.{bundle_fault, check_fault, defaults_fault, flag_word_fault, flags_fault, level_fault, long_fault, option_fault, other_fault, positional_fault, react_fault, repeat_fault, settle_fault, step_fault, turn_fault, use_fault, walk_fault, word_fault}
use Rattle.clap.specs.Kinds.{or_else, range_kinds, values_kinds}
use Rattle.clap.specs.Lexer.{long_of, short_of, usize_max}
use Rattle.clap.specs.ValueTests.{accepts}
use Rattle.clap.specs.Simple.{built}
use Rattle.clap.specs.Words.{fault_of, matches_of}
use Rattle.clap.specs.Walk.{Held, Outcome, Row, Rule, Step, Waiting, Walk, after_flag, after_step, arg_by_id, arg_by_index, arg_by_long, bundle_met, done, idle, is_pending, long_met, long_or_other, option, option_met, flag_met, option_word, plain, plain_word, positional, positional_held, pushed, refused, settled, settled_rows, short_or_plain, takes_values, to_positional, used, values_or_missing, waits, walk, walk_from, walked, walked_from, word_met, finished, nothing_held, next, trailing, subcommand, value}
use Rattle.clap.specs.declared.builder.value_parser.ValueParser.TheVariants as parsers
use Rattle.clap.specs.declared.error.kind.ErrorKind.TheVariants.{InvalidValue, TooManyValues}
use Rattle.clap.proofs.FaultLemmas.{leaf_fault}
use Rattle.clap.proofs.WalkLemmas.{list_any-map}
use Rattle.im_words.proofs.ItemLemmas.{full, full_mode}
use Rattle.im_words.proofs.StepLemmas.{rules, shape}
use Rattle.im_words.proofs.TakenLemmas.{no_default_fault, no_defaults, rules_plain}
use Rattle.im_words.specs.Command.{AreModes, ModeNames, command_with}
use Rattle.im_words.specs.Good.{Text}
use Rattle.im_words.specs.declared.setting.Setting.TheVariants.{Area, Workers, Turns, Rows, Seed}

module _ (p q : ModeNames) (are-p : AreModes p) (are-q : AreModes q) where
  settings : List Rule
  settings = full Area ∷ full Workers ∷ full Turns ∷ full Rows ∷ full Seed ∷ []

  kept-same : (pending : Option (Text × List Text)) (rows : List Row) → settled_rows (rules p) pending rows ≡ settled_rows (rules q) pending rows
  kept-same None rows = refl
  kept-same (Some u) rows = go (bytes_eq (codes "mode") u.0) refl
    where
      go : (b : Bool) → bytes_eq (codes "mode") u.0 ≡ b → settled_rows (rules p) (Some u) rows ≡ settled_rows (rules q) (Some u) rows
      go true b = rw b refl
      go false b = rw b refl

  settled-same : (h : Held) → settled (rules p) h ≡ settled (rules q) h
  settled-same h = ap (λ rows. record h { rows = rows; pending = None }) (kept-same h.pending h.rows)

  option-same : (a : Rule) (v : Option Text) (h : Held) → option_met (rules p) a v h ≡ option_met (rules q) a v h
  option-same a None h = ap (λ (s : Held). (record s { pending = Some (a.id, []) }, waits a.id)) (settled-same h)
  option-same a (Some v) h = ap (λ rows. (record h { rows = used a (v ∷ []) rows; pending = None }, done)) (kept-same h.pending h.rows)

  flag-same : (a : Rule) (v : Option Text) (h : Held) → flag_met (rules p) a v h ≡ flag_met (rules q) a v h
  flag-same a None h = ap (λ rows. (record h { rows = used a [] rows; pending = None }, done)) (kept-same h.pending h.rows)
  flag-same a (Some v) h = refl

  long-same : (found : Option Rule) (v : Option Text) (h : Held) → long_met (rules p) found v h ≡ long_met (rules q) found v h
  long-same None v h = refl
  long-same (Some a) v h = ap₂ (λ x y. if takes_values a then x else y) (option-same a v h) (flag-same a v h)

  word-same : (id word : Text) (h : Held) → option_word (arg_by_id (rules p) id) id word h ≡ option_word (arg_by_id (rules q) id) id word h
  word-same id word h = go (bytes_eq (codes "mode") id) refl
    where
      go : (b : Bool) → bytes_eq (codes "mode") id ≡ b → option_word (arg_by_id (rules p) id) id word h ≡ option_word (arg_by_id (rules q) id) id word h
      go true b = rw b refl
      go false b = rw b refl

  plain-same : (w : Waiting) (word : Text) (h : Held) → plain_word (rules p) w word h ≡ plain_word (rules q) w word h
  plain-same idle word h = refl
  plain-same (option id) word h = ap (λ r. (r.0, next r.1)) (word-same id word h)
  plain-same positional word h = refl

  after-same : (w : Waiting) (word : Text) (h : Held) (o : Outcome) → after_flag (rules p) w word h o ≡ after_flag (rules q) w word h o
  after-same w word h done = refl
  after-same w word h (waits id) = refl
  after-same w word h plain = plain-same w word h
  after-same w word h refused = plain-same w word h

  bundle-same : (k : ℕ) (flags : Text) (skip : ℕ) (so_far : Outcome) (h : Held) →
      bundle_met (rules p) k flags skip so_far h ≡ bundle_met (rules q) k flags skip so_far h
  unfolding bundle_met
  bundle-same zero flags skip so_far h = refl
  bundle-same (suc k) flags skip so_far h = go (slice_get (chars flags) 0) refl skip (λ f s. bundle-same k f s so_far h)
    where
      go : (x : Option ℕ) → slice_get (chars flags) 0 ≡ x → (s : ℕ)
          → ((f : Text) (n : ℕ) → bundle_met (rules p) k f n so_far h ≡ bundle_met (rules q) k f n so_far h) →
          bundle_met (rules p) (suc k) flags s so_far h ≡ bundle_met (rules q) (suc k) flags s so_far h
      go None e s rec = rw e refl
      go (Some x) e zero rec = rw e refl
      go (Some x) e (suc s) rec = rw e (rec (drop (length (encode_utf8 x)) flags) s)

  flagged-same : (w : Waiting) (word : Text) (a b : Held × Outcome) → a ≡ b → after_flag (rules p) w word a.0 a.1 ≡ after_flag (rules q) w word b.0 b.1
  flagged-same w word a b same = after-same w word a.0 a.1 ∙ ap (λ (r : Held × Outcome). after_flag (rules q) w word r.0 r.1) same

  short-same : (w : Waiting) (word : Text) (flags : Option Text) (h : Held) → short_or_plain (rules p) w word flags h ≡ short_or_plain (rules q) w word flags h
  short-same w word None h = plain-same w word h
  short-same w word (Some flags) h = flagged-same w word _ _ (bundle-same (length flags) flags h.skip plain (record h { skip = 0 }))

  other-same : (w : Waiting) (word : Text) (parts : Option (Text × Option Text)) (h : Held) →
      long_or_other (rules p) w word parts h ≡ long_or_other (rules q) w word parts h
  other-same w word None h = short-same w word (short_of word) h
  other-same w word (Some u) h = flagged-same w word _ _ (long-same (arg_by_long (rules q) u.0) u.1 h)

  met-same : (t : Bool) (w : Waiting) (n : ℕ) (word : Text) (h : Held) → word_met (rules p) [] t w n word h ≡ word_met (rules q) [] t w n word h
  met-same true w n word h = refl
  met-same false idle n word h = ap (λ r. if bytes_eq word (45 ∷ 45 ∷ []) then (h, trailing n) else r) (other-same idle word (long_of word) h)
  met-same false (option id) n word h = ap (λ r. if bytes_eq word (45 ∷ 45 ∷ []) then (h, trailing n) else r) (other-same (option id) word (long_of word) h)
  met-same false positional n word h = ap (λ r. if bytes_eq word (45 ∷ 45 ∷ []) then (h, trailing n) else r) (other-same positional word (long_of word) h)

  positional-held : (word : Text) (h : Held) → positional_held (rules p) (full_mode p) word h ≡ positional_held (rules q) (full_mode q) word h
  positional-held word h = go (is_pending (full_mode p) h.pending) refl
    where
      go : (t : Bool) → is_pending (full_mode p) h.pending ≡ t → positional_held (rules p) (full_mode p) word h ≡ positional_held (rules q) (full_mode q) word h
      go true t = rw t (ap (pushed (codes "mode") word) (settled-same h))
      go false t = rw t (ap (pushed (codes "mode") word) (settled-same h))

  positional-same : (word : Text) (w : Walk) (h : Held) → to_positional (rules p) (arg_by_index (rules p) w.position) word w h
      ≡ to_positional (rules q) (arg_by_index (rules q) w.position) word w h
  positional-same word w h = go (1 == w.position) refl
    where
      go : (b : Bool) → (1 == w.position) ≡ b
          → to_positional (rules p) (arg_by_index (rules p) w.position) word w h ≡ to_positional (rules q) (arg_by_index (rules q) w.position) word w h
      go true b = rw b (ap (λ (held : Held). record {
        held = held;
        waiting = idle;
        position = min (w.position + 1) usize_max;
        is_trailing = w.is_trailing || false;
        stopped = None;
      }) (positional-held word h))
      go false b = rw b refl

  step-same : (word : Text) (w : Walk) (h : Held) (step : Step) → after_step (rules p) word w h step ≡ after_step (rules q) word w h step
  step-same word w h (next waiting) = refl
  step-same word w h (trailing n) = refl
  step-same word w h (subcommand name) = refl
  step-same word w h value = positional-same word w h

  from-same : (stopped : Option (Text × List Text)) (w : Walk) (word : Text) → walked_from (rules p) [] stopped w word ≡ walked_from (rules q) [] stopped w word
  from-same (Some u) w word = refl
  from-same None w word =
      step-same word w (word_met (rules p) [] w.is_trailing w.waiting w.position word w.held).0
      (word_met (rules p) [] w.is_trailing w.waiting w.position word w.held).1
      ∙ ap (λ (met : Held × Step). after_step (rules q) word w met.0 met.1) (met-same w.is_trailing w.waiting w.position word w.held)

  pub walked-same : (w : Walk) (word : Text) → walked (rules p) [] w word ≡ walked (rules q) [] w word
  unfolding walked
  walked-same w word = from-same w.stopped w word

  -- ---- faults

  accepts-same : (text : Text) → accepts false (parsers.Names p) text ≡ accepts false (parsers.Names q) text
  accepts-same text =
      let is = λ (names : ModeNames). list_any-map (λ name. bytes_eq name text) (λ name. name.now) names.now in
      is p ∙ (ap (list_any (λ name. bytes_eq name text)) (are-p ∙ sym are-q) ∙ sym (is q))

  values-same : (values : List Text) → values_kinds false (parsers.Names p) values ≡ values_kinds false (parsers.Names q) values
  values-same [] = refl
  values-same (v ∷ vs) =
      ap₂ (λ ok rest. or_else (if ok then [] else InvalidValue ∷ []) rest) (accepts-same v) (values-same vs)

  use-same : (values : List Text) (rows : List Row) → use_fault false (full_mode p) values rows ≡ use_fault false (full_mode q) values rows
  use-same values rows = ap (λ last. or_else (range_kinds 1 1 (length values)) (or_else (repeat_fault false (codes "mode") rows) last))
      (values-same (values_or_missing (full_mode p) values))

  settle-same : (h : Held) → settle_fault (rules p) false h ≡ settle_fault (rules q) false h
  settle-same h = pending h.pending
    where
      pending : (u : Option (Text × List Text)) →
          settle_fault (rules p) false (record h { pending = u }) ≡ settle_fault (rules q) false (record h { pending = u })
      pending None = refl
      pending (Some u) = go (bytes_eq (codes "mode") u.0) refl
        where
          go : (b : Bool) → bytes_eq (codes "mode") u.0 ≡ b
              → settle_fault (rules p) false (record h { pending = Some u }) ≡ settle_fault (rules q) false (record h { pending = Some u })
          go true b = rw b (use-same u.1 h.rows)
          go false b = rw b refl

  react-same : (a : Rule) (values : List Text) (h : Held) → react_fault (rules p) false a values h ≡ react_fault (rules q) false a values h
  react-same a values h = ap₂ (λ first rows. or_else first (use_fault false a values rows)) (settle-same h) (kept-same h.pending h.rows)

  option-fault : (a : Rule) (v : Option Text) (h : Held) → option_fault (rules p) false a v h ≡ option_fault (rules q) false a v h
  option-fault a None h = settle-same h
  option-fault a (Some v) h = react-same a (v ∷ []) h

  long-fault : (found : Option Rule) (v : Option Text) (h : Held) → long_fault (rules p) false found v h ≡ long_fault (rules q) false found v h
  long-fault None v h = refl
  long-fault (Some a) v h = ap₂ (λ x y. if takes_values a then x else (if is_some v then TooManyValues ∷ [] else y)) (option-fault a v h) (react-same a [] h)

  bundle-fault : (k : ℕ) (flags : Text) (skip : ℕ) (h : Held) → flags_fault (rules p) false k flags skip h ≡ flags_fault (rules q) false k flags skip h
  unfolding flags_fault
  bundle-fault zero flags skip h = refl
  bundle-fault (suc k) flags skip h = go (slice_get (chars flags) 0) refl skip (λ f s. bundle-fault k f s h)
    where
      go : (x : Option ℕ) → slice_get (chars flags) 0 ≡ x → (s : ℕ)
          → ((f : Text) (n : ℕ) → flags_fault (rules p) false k f n h ≡ flags_fault (rules q) false k f n h) →
          flags_fault (rules p) false (suc k) flags s h ≡ flags_fault (rules q) false (suc k) flags s h
      go None e s rec = rw e refl
      go (Some x) e zero rec = rw e refl
      go (Some x) e (suc s) rec = rw e (rec (drop (length (encode_utf8 x)) flags) s)

  short-fault : (flags : Option Text) (h : Held) → option_map_or (λ f. bundle_fault (rules p) false f h) flags []
      ≡ option_map_or (λ f. bundle_fault (rules q) false f h) flags []
  short-fault None h = refl
  short-fault (Some flags) h = bundle-fault (length flags) flags h.skip (record h { skip = 0 })

  flag-fault : (parts : Option (Text × Option Text)) (word : Text) (h : Held) →
      flag_word_fault (rules p) false parts word h ≡ flag_word_fault (rules q) false parts word h
  flag-fault None word h = short-fault (short_of word) h
  flag-fault (Some u) word h = long-fault (arg_by_long (rules q) u.0) u.1 h

  plain-fault : (word : Text) (h : Held) → other_fault (shape p) None word h ≡ other_fault (shape q) None word h
  plain-fault word h = ap (λ kinds. if bytes_eq word (45 ∷ 45 ∷ []) then [] else kinds) (flag-fault (long_of word) word h)

  word-fault : (t : Bool) (w : Waiting) (word : Text) (h : Held) → word_fault (shape p) [] t w word h ≡ word_fault (shape q) [] t w word h
  word-fault true w word h = refl
  word-fault false idle word h = plain-fault word h
  word-fault false (option id) word h = plain-fault word h
  word-fault false positional word h = plain-fault word h

  positional-fault : (h : Held) → positional_fault (rules p) false (full_mode p) h ≡ positional_fault (rules q) false (full_mode q) h
  positional-fault h = go (is_pending (full_mode p) h.pending) refl
    where
      go : (t : Bool) → is_pending (full_mode p) h.pending ≡ t →
          positional_fault (rules p) false (full_mode p) h ≡ positional_fault (rules q) false (full_mode q) h
      go true t = rw t (settle-same h)
      go false t = rw t (settle-same h)

  value-fault : (n : ℕ) (h : Held) → step_fault (shape p) n h value ≡ step_fault (shape q) n h value
  value-fault n h = go (1 == n) refl
    where
      go : (b : Bool) → (1 == n) ≡ b → step_fault (shape p) n h value ≡ step_fault (shape q) n h value
      go true b = rw b (positional-fault h)
      go false b = rw b refl

  step-fault : (n : ℕ) (h : Held) (step : Step) → step_fault (shape p) n h step ≡ step_fault (shape q) n h step
  step-fault n h (next waiting) = refl
  step-fault n h (trailing m) = refl
  step-fault n h (subcommand name) = refl
  step-fault n h value = value-fault n h

  met-fault : (n : ℕ) (a b : Held × Step) → a ≡ b → step_fault (shape p) n a.0 a.1 ≡ step_fault (shape q) n b.0 b.1
  met-fault n a b same = step-fault n a.0 a.1 ∙ ap (λ (met : Held × Step). step_fault (shape q) n met.0 met.1) same

  turn-same : (w : Walk) (word : Text) → turn_fault (shape p) [] w word ≡ turn_fault (shape q) [] w word
  turn-same w word = ap₂ (λ x y. if is_some w.stopped then [] else or_else x y) (word-fault w.is_trailing w.waiting word w.held)
      (met-fault w.position _ _ (met-same w.is_trailing w.waiting w.position word w.held))

  faults-same : (w : Walk) (words : List Text) → walk_fault (shape p) [] w words ≡ walk_fault (shape q) [] w words
  unfolding walk_fault
  faults-same w [] = refl
  faults-same w (word ∷ rest) = ap₂ or_else (turn-same w word)
      (faults-same (walked (rules p) [] w word) rest ∙ ap (λ v. walk_fault (shape q) [] v rest) (walked-same w word))

  -- ---- the whole parse

  walk-same : (w : Walk) (words : List Text) → fold (walked (rules p) []) w words ≡ fold (walked (rules q) []) w words
  walk-same w [] = refl
  walk-same w (word ∷ rest) = walk-same (walked (rules p) [] w word) rest ∙ ap (λ v. fold (walked (rules q) []) v rest) (walked-same w word)

  finished-same : (h : Held) → finished (rules p) h ≡ finished (rules q) h
  finished-same h = no_defaults (settled (rules p) h).rows (rules p) (rules_plain p)
      ∙ (kept-same h.pending h.rows ∙ sym (no_defaults (settled (rules q) h).rows (rules q) (rules_plain q)))

  end-same : (words : List Text) → (walk (rules p) [] nothing_held words).held ≡ (walk (rules q) [] nothing_held words).held
  end-same words = ap (λ (w : Walk). w.held) (walk-same (walk_from nothing_held) words)

  rows-same : (words : List Text) → finished (rules p) (walk (rules p) [] nothing_held words).held
      ≡ finished (rules q) (walk (rules q) [] nothing_held words).held
  rows-same words = finished-same (walk (rules p) [] nothing_held words).held ∙ ap (finished (rules q)) (end-same words)

  defaults-same : (h : Held) → defaults_fault (settled (rules p) h).rows (rules p) ≡ defaults_fault (settled (rules q) h).rows (rules q)
  defaults-same h = no_default_fault (settled (rules p) h).rows (rules p) (rules_plain p)
      ∙ sym (no_default_fault (settled (rules q) h).rows (rules q) (rules_plain q))

  after-words : (h k : Held) → h ≡ k → (rows all : List Row) → rows ≡ all → check_fault (shape p) rows false ≡ check_fault (shape q) all false
  after-words h k same rows all is = ap (λ r. check_fault (shape q) r false) is

  level-same : (words : List Text) → level_fault (shape p) [] nothing_held words false [] ≡ level_fault (shape q) [] nothing_held words false []
  level-same words =
      let end-p = (walk (rules p) [] nothing_held words).held in
      let end-q = (walk (rules q) [] nothing_held words).held in
      ap₂ or_else (faults-same (walk_from nothing_held) words)
      (ap₂ or_else (settle-same end-p ∙ ap (settle_fault (rules q) false) (end-same words))
      (ap₂ or_else (defaults-same end-p ∙ ap (λ h. defaults_fault (settled (rules q) h).rows (rules q)) (end-same words))
      (after-words end-p end-q (end-same words) _ _ (rows-same words))))

  pub fault-same : (words : List Text) → fault_of (command_with p) words ≡ fault_of (command_with q) words
  fault-same words =
      leaf_fault (built (command_with p)) nothing_held (drop 1 words) refl
      ∙ (level-same (drop 1 words) ∙ sym (leaf_fault (built (command_with q)) nothing_held (drop 1 words) refl))

  pub matches-same : (words : List Text) → matches_of (command_with p) words ≡ matches_of (command_with q) words
  matches-same words = rows-same (drop 1 words)
