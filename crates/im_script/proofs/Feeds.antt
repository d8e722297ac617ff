-- The first line feed of a text, as the search for a byte finds it.
use Rattle.std.proofs.Common.{◌≡◌, ◌==◌, ℕ, zero, suc, ◌+◌, ◌<◌, Bool, true, false, List, [], ◌∷◌, length, refl, sym, ap, ◌∙◌, arith}
use Rattle.std.specs.Prelude.{slice_index}
use Rattle.memchr.specs.Find.{NoneBefore, Nowhere, Passes, is_byte}
use Rattle.im_script.proofs.Cuts.{line_len}

-- no byte before this place is a line feed
abbrev Clear : List ℕ → ℕ → Type 0
Clear text n = (k : ℕ) → k < n → (slice_index text k == 10) ≡ false

len-step : (byte : ℕ) (rest : List ℕ) → (byte == 10) ≡ false → line_len (byte ∷ rest) ≡ suc (line_len rest)
len-step byte rest e = rw e (let next : 1 + line_len rest ≡ suc (line_len rest) = omega arith in next)

clear_behind : (byte : ℕ) (rest : List ℕ) (n : ℕ) → Clear (byte ∷ rest) (suc n) → Clear rest n
clear_behind byte rest n clear k lt = clear (suc k) (omega arith)

-- a line feed at this place, and none before it
len_at : (text : List ℕ) (n : ℕ) → n < length text → Clear text n → (slice_index text n == 10) ≡ true → n ≡ line_len text
len_at [] n lt clear feed = absurd (omega arith)
len_at (byte ∷ rest) zero lt clear feed = rw feed refl
len_at (byte ∷ rest) (suc n) lt clear feed =
    ap suc (len_at rest n (omega arith) (clear_behind byte rest n clear) feed) ∙ sym (len-step byte rest (clear 0 (omega arith)))

-- no line feed at all
len_whole : (text : List ℕ) → Clear text (length text) → length text ≡ line_len text
len_whole [] clear = refl
len_whole (byte ∷ rest) clear = ap suc (len_whole rest (clear_behind byte rest (length rest) clear)) ∙ sym (len-step byte rest (clear 0 (omega arith)))

not_feed : (b : Bool) → ¬ (b ≡ true) → b ≡ false
not_feed true denied = absurd (denied refl)
not_feed false denied = refl

clear_by : (text : List ℕ) (n : ℕ) → Nowhere (Passes (is_byte 10) text) 0 n → Clear text n
clear_by text n nowhere k lt = not_feed (slice_index text k == 10) (nowhere k (omega arith) lt)

pub feed_at : (text : List ℕ) (n : ℕ) → NoneBefore (Passes (is_byte 10) text) 0 (length text) n × Passes (is_byte 10) text n → n ≡ line_len text
feed_at text n found = len_at text n found.0.high (clear_by text n found.0.before) found.1

pub no_feed : (text : List ℕ) → Nowhere (Passes (is_byte 10) text) 0 (length text) → length text ≡ line_len text
no_feed text nowhere = len_whole text (clear_by text (length text) nowhere)
