-- What is read straight from the bytes of a line.
use Rattle.std.proofs.Common.{◌≡◌, ℕ, zero, suc, ◌+◌, ◌*◌, ◌<◌, ◌≤◌, Bool, true, false, ◌&&◌, ◌||◌, cond, List, [], ◌∷◌, ◌++◌, length, take, drop, map, length-append, length-drop, drop-cons, get_or, refl, sym, ap, subst, ◌∙◌, append_assoc, add-one, arith}
use Rattle.std.specs.Prelude.{◌==◌, nat_le, Option, Some, None, Result, Ok, Err, IfOk, IfSome}
use Rattle.std.specs.List.{list_all, AllByRecursion}
use Rattle.std.specs.Char.{is_ascii_alphabetic, is_ascii_digit}
use Rattle.std.proofs.lemmas.Bool.{eqb-true}
use Rattle.std.proofs.lemmas.Bool.Decides.{nat_tests}
use Rattle.std.proofs.lemmas.List.{append-nil, drop-drop, map-append, length-map, take_all}
use Rattle.std.proofs.lemmas.List.Folds.{list_all-append}
use Rattle.im_readers.specs.Grammar.{spell_joined, spell_others, GoodJoined, IsFilled, Any}
use Rattle.im_values.specs.declared.content.Content.{Content as Value}
use Rattle.im_values.specs.declared.content.Content.TheVariants as value
use Rattle.im_values.specs.Stretches.{cut}
use Rattle.im_values.proofs.ForCallers.{cut-push}
use Rattle.im_syntax.specs.declared.keyword.Keyword.{Keyword}
use Rattle.im_syntax.specs.declared.keyword.Keyword.TheVariants as key
use Rattle.im_syntax.specs.declared.token.Token.{Token}
use Rattle.im_syntax.specs.declared.token.Token.TheVariants as token
use Rattle.im_syntax.specs.declared.token.Sign.{Sign}
use Rattle.im_syntax.specs.declared.token.Sign.TheVariants as sign
use Rattle.im_syntax.specs.declared.literal.Lit.{Lit}
use Rattle.im_syntax.specs.declared.statement.Side.TheVariants as side
use Rattle.im_syntax.specs.declared.statement.Stmt.TheVariants as stmt
use Rattle.im_syntax.specs.Keywords.{keyword_of}
use Rattle.im_syntax.specs.Rules.{IsTuple, IsStmtOf}
use Rattle.im_syntax.specs.Spelling.{word, comma, lit_token, spell_tuple, spelling}
use Rattle.im_syntax.specs.Tuples.{lit_of, written, is_proper}
use Rattle.im_syntax.specs.Words.{IsName}
use Rattle.im_lex.specs.declared.front.Front.{Front}
use Rattle.im_lex.specs.declared.front.Front.TheVariants.{Stop, Blank, Bad, Lexed}
use Rattle.im_lex.specs.Bytes.{is_blank, is_word_part, run, first, front, front_at, only_ends, word_front, positive_front, minus_front, text_of, text_found}
use Rattle.im_lex.specs.Lexing.{Lexes, ends, AreLexed, tokens_of}
use Rattle.im_lex.specs.inner.Straight.{Reads, ReadsLetters, ReadsName, ReadsHead, ReadsValue, ReadsValues, ReadsTuple, ReadsTuples, HasTuples, EndsAt, spell_lits}
use Rattle.im_lex.proofs.Rounds.{Tokens, skip, one_token, token_room, blank_room, further}

-- ---- tokens between two places

pub read_none : (line : List ℕ) (at : ℕ) → at ≤ length line → Reads line at at []
read_none line at within = record { pairs = []; are = refl; within = within; goes_on = λ ts l. l }

pub read_on : (line : List ℕ) (a b c : ℕ) (xs ys : List Token) → Reads line a b xs → Reads line b c ys → Reads line a c (xs ++ ys)
read_on line a b c xs ys p q = record {
  pairs = p.pairs ++ q.pairs;
  are = rw (p.are, q.are) (sym (map-append (λ (t : Token × ℕ). t.0) p.pairs q.pairs));
  within = q.within;
  goes_on = λ ts l. rw (append_assoc p.pairs q.pairs ts) (p.goes_on (q.pairs ++ ts) (q.goes_on ts l));
}

pub read_blank : (line : List ℕ) (at : ℕ) → at ≤ length line → front (drop at line) ≡ Blank → Reads line at (at + 1) []
read_blank line at within e = record {
  pairs = [];
  are = refl;
  within = blank_room at line within e;
  goes_on = λ ts l. skip at (drop at line) ts e (subst (λ (x : List ℕ). Lexes (at + 1) x ts) (sym (drop-drop 1 at line)) l);
}

pub read_token : (line : List ℕ) (at : ℕ) (t : Token) (more : ℕ) → at ≤ length line → front (drop at line) ≡ Lexed t more
    → Reads line at (at + 1 + more) (t ∷ [])
read_token line at t more within e = record {
  pairs = (t, at) ∷ [];
  are = refl;
  within = token_room at line t more within e;
  goes_on = λ ts l. one_token at (drop at line) t more ts e (subst (λ (x : List ℕ). Lexes (at + 1 + more) x ts) (further at more line) l);
}

pub all_read : (line : List ℕ) (next : ℕ) (tokens : List Token) → Reads line 0 next tokens → front (drop next line) ≡ Stop → AreLexed line tokens
all_read line next tokens r e = record {
  pairs = r.pairs;
  lexes = subst (λ (x : Tokens). Lexes 0 line x) (append-nil r.pairs) (r.goes_on [] (ends next (drop next line) e));
  tokens_are = r.are;
}

-- ---- what stands at the front, by its first byte

pub begins : (bs : List ℕ) (b : ℕ) → 1 ≤ b → first bs ≡ b → bs ≡ b ∷ drop 1 bs
begins [] b some e = absurd (omega (arith, e))
begins (c ∷ bs) b some e = ap (λ (x : ℕ). x ∷ bs) e

pub sign_reads : (line : List ℕ) (at b : ℕ) (s : Sign) → at ≤ length line → 1 ≤ b → first (drop at line) ≡ b
    → ((rest : List ℕ) → front (b ∷ rest) ≡ Lexed (token.Sign s) 0) → Reads line at (at + 1) (token.Sign s ∷ [])
sign_reads line at b s within some e is =
    let place : at + 1 + 0 ≡ at + 1 = omega arith in
    subst (λ (next : ℕ). Reads line at next (token.Sign s ∷ [])) place
    (read_token line at (token.Sign s) 0 within (ap front (begins (drop at line) b some e) ∙ is (drop 1 (drop at line))))

pub left_front : (rest : List ℕ) → front (40 ∷ rest) ≡ Lexed (token.Sign sign.LeftParen) 0
unfolding front
left_front rest = refl

pub right_front : (rest : List ℕ) → front (41 ∷ rest) ≡ Lexed (token.Sign sign.RightParen) 0
unfolding front
right_front rest = refl

pub comma_front : (rest : List ℕ) → front (44 ∷ rest) ≡ Lexed comma 0
unfolding front
comma_front rest = refl

pub quote_front : (rest : List ℕ) → front (39 ∷ rest) ≡ text_found (text_of rest)
unfolding front
quote_front rest = refl

pub minus_first : (rest : List ℕ) → front (45 ∷ rest) ≡ minus_front rest
unfolding front
minus_first rest = refl

-- a byte that passes a test is none that fails it
other : (test : ℕ → Bool) (b n : ℕ) → test b ≡ true → test n ≡ false → (b == n) ≡ false
other test b n holds fails = go (b == n) refl
  where
    go : (is : Bool) → (b == n) ≡ is → is ≡ false
    go false e = refl
    go true e = let same : test n ≡ true = ap test (sym (eqb-true b n e)) ∙ holds in absurd cc

no_blank : (test : ℕ → Bool) (b : ℕ) → test b ≡ true → test 32 ≡ false → test 9 ≡ false → test 13 ≡ false → is_blank b ≡ false
no_blank test b holds space tab cr = rw (other test b 32 holds space, other test b 9 holds tab, other test b 13 holds cr) refl

digit_first : (b : ℕ) (rest : List ℕ) → is_ascii_digit b ≡ true → front (b ∷ rest) ≡ positive_front (run is_ascii_digit (b ∷ rest))
unfolding front
digit_first b rest holds = pick (is_blank b) (is_ascii_alphabetic b) (is_ascii_digit b) _ _ _ _ (no_blank is_ascii_digit b holds refl refl refl) (no_letter b holds) holds
  where
    pick : (x y z : Bool) (p q r s : Front) → x ≡ false → y ≡ false → z ≡ true → cond x p (cond y q (cond z r s)) ≡ r
    pick false false true p q r s e f g = refl
    pick false false false p q r s e f g = absurd cc
    pick false true z p q r s e f g = absurd cc
    pick true y z p q r s e f g = absurd cc

    no_letter : (b : ℕ) → is_ascii_digit b ≡ true → is_ascii_alphabetic b ≡ false
    no_letter b holds = grind (arith, nat_tests)

pub digit_front : (bs : List ℕ) → is_ascii_digit (first bs) ≡ true → front bs ≡ positive_front (run is_ascii_digit bs)
digit_front [] holds = absurd cc
digit_front (b ∷ bs) holds = digit_first b bs holds

letter_first : (b : ℕ) (rest : List ℕ) → is_ascii_alphabetic b ≡ true → front (b ∷ rest) ≡ word_front (run is_word_part (b ∷ rest))
unfolding front
letter_first b rest holds = pick (is_blank b) (is_ascii_alphabetic b) _ _ _ (no_blank is_ascii_alphabetic b holds refl refl refl) holds
  where
    pick : (x y : Bool) (p q r : Front) → x ≡ false → y ≡ true → cond x p (cond y q r) ≡ q
    pick false true p q r e f = refl
    pick false false p q r e f = absurd cc
    pick true y p q r e f = absurd cc

pub letter_front : (bs : List ℕ) → is_ascii_alphabetic (first bs) ≡ true → front bs ≡ word_front (run is_word_part bs)
letter_front [] holds = absurd cc
letter_front (b ∷ bs) holds = letter_first b bs holds

-- ---- words by their letters

no_more : (bs : List ℕ) → is_word_part (first bs) ≡ false → run is_word_part bs ≡ []
no_more [] e = refl
no_more (b ∷ bs) e = rw e refl

both : (a b : Bool) → (a && b) ≡ true → (a ≡ true) × (b ≡ true)
both true true e = (refl, refl)
both true false e = absurd cc
both false b e = absurd cc

letters_run : (letters bs : List ℕ) → take (length letters) bs ≡ letters → list_all is_word_part letters ≡ true
    → is_word_part (first (drop (length letters) bs)) ≡ false → run is_word_part bs ≡ letters
letters_run [] bs is parts over = no_more bs over
letters_run (c ∷ letters) [] is parts over = absurd cc
letters_run (c ∷ letters) (b ∷ bs) is parts over =
    let two = both (is_word_part c) (list_all is_word_part letters) parts in
    let same : b ≡ c = cc in
    let part : is_word_part b ≡ true = ap is_word_part same ∙ two.0 in
    let rest : take (length letters) bs ≡ letters = cc in
    rw part (rw same (ap (λ (x : List ℕ). c ∷ x) (letters_run letters bs rest two.1 over)))

first_letter : (c : ℕ) (letters bs : List ℕ) → take (suc (length letters)) bs ≡ c ∷ letters → first bs ≡ c
first_letter c letters [] e = absurd cc
first_letter c letters (b ∷ bs) e = cc

pub keyword_reads : (line : List ℕ) (at next c : ℕ) (letters : List ℕ) (k : Keyword) → ReadsLetters line at next (c ∷ letters)
    → list_all is_word_part (c ∷ letters) ≡ true → is_ascii_alphabetic c ≡ true → word_front (c ∷ letters) ≡ Lexed (word k) (length letters)
    → Reads line at next (word k ∷ [])
keyword_reads line at next c letters k r parts letter is =
    let bs = drop r.place line in
    let stands : first bs ≡ c = first_letter c letters bs r.stands in
    let e : front bs ≡ Lexed (word k) (length letters) =
    letter_front bs (ap is_ascii_alphabetic stands ∙ letter) ∙ ap word_front (letters_run (c ∷ letters) bs r.stands parts r.over) ∙ is in
    let place : r.place + 1 + length letters ≡ next = omega (arith, r.next_is) in
    subst (λ (x : ℕ). Reads line at x (word k ∷ [])) place
    (read_on line at r.place _ [] (word k ∷ []) r.blanks (read_token line r.place (word k) (length letters) r.blanks.within e))

pub null_reads : (line : List ℕ) (at next : ℕ) → ReadsLetters line at next (78 ∷ 85 ∷ 76 ∷ 76 ∷ []) → Reads line at next (word key.Null ∷ [])
unfolding keyword_of
null_reads line at next r = keyword_reads line at next 78 (85 ∷ 76 ∷ 76 ∷ []) key.Null r refl refl refl

pub insert_reads : (line : List ℕ) (at next : ℕ) → ReadsLetters line at next (73 ∷ 78 ∷ 83 ∷ 69 ∷ 82 ∷ 84 ∷ []) → Reads line at next (word key.Insert ∷ [])
unfolding keyword_of
insert_reads line at next r = keyword_reads line at next 73 (78 ∷ 83 ∷ 69 ∷ 82 ∷ 84 ∷ []) key.Insert r refl refl refl

pub into_reads : (line : List ℕ) (at next : ℕ) → ReadsLetters line at next (73 ∷ 78 ∷ 84 ∷ 79 ∷ []) → Reads line at next (word key.Into ∷ [])
unfolding keyword_of
into_reads line at next r = keyword_reads line at next 73 (78 ∷ 84 ∷ 79 ∷ []) key.Into r refl refl refl

pub values_reads : (line : List ℕ) (at next : ℕ) → ReadsLetters line at next (86 ∷ 65 ∷ 76 ∷ 85 ∷ 69 ∷ 83 ∷ []) → Reads line at next (word key.Values ∷ [])
unfolding keyword_of
values_reads line at next r = keyword_reads line at next 86 (65 ∷ 76 ∷ 85 ∷ 69 ∷ 83 ∷ []) key.Values r refl refl refl

-- ---- values and tuples

pub value_behind : (line : List ℕ) (at place next : ℕ) (old new : List Value) → Reads line at place [] → ReadsValue line place next old new
    → ReadsValue line at next old new
value_behind line at place next old new blanks r =
    record { value = r.value; grown = r.grown; proper = r.proper; reads = read_on line at place next [] _ blanks r.reads }

pub value_reads : (line : List ℕ) (at : ℕ) (v : Value) (more : ℕ) (old new : List Value) → at ≤ length line
    → front (drop at line) ≡ Lexed (lit_token (lit_of v)) more → is_proper v ≡ true → new ≡ old ++ v ∷ [] → ReadsValue line at (at + 1 + more) old new
value_reads line at v more old new within e proper grown =
    record { value = v; grown = grown; proper = proper; reads = read_token line at (lit_token (lit_of v)) more within e }

pub proper_text : (t : List ℕ) → 1 ≤ length t → is_proper (value.Text t) ≡ true
proper_text [] some = absurd (omega arith)
proper_text (b ∷ bs) some = refl

-- one more part behind parts with commas between them
others_push : {A : Type 0} (spell : A → List Token) (xs : List A) (x : A)
    → spell_others comma spell (xs ++ x ∷ []) ≡ spell_others comma spell xs ++ comma ∷ spell x
others_push spell [] x = ap (λ (ts : List Token). comma ∷ ts) (append-nil (spell x))
others_push spell (y ∷ ys) x =
    ap (λ (ts : List Token). comma ∷ (spell y ++ ts)) (others_push spell ys x)
    ∙ ap (λ (ts : List Token). comma ∷ ts) (sym (append_assoc (spell y) (spell_others comma spell ys) (comma ∷ spell x)))

joined_push : {A : Type 0} (spell : A → List Token) (xs : List A) (x : A) → 1 ≤ length xs
    → spell_joined comma spell (xs ++ x ∷ []) ≡ spell_joined comma spell xs ++ comma ∷ spell x
joined_push spell [] x some = absurd (omega arith)
joined_push spell (y ∷ ys) x some =
    ap (λ (ts : List Token). spell y ++ ts) (others_push spell ys x) ∙ sym (append_assoc (spell y) (spell_others comma spell ys) (comma ∷ spell x))

some_map : (vs : List Value) → 1 ≤ length vs → 1 ≤ length (map lit_of vs)
some_map [] some = some
some_map (v ∷ vs) some = omega arith

pub values_begin : (line : List ℕ) (at place next : ℕ) (old new : List Value) → Reads line at place [] → place ≤ length line → first (drop place line) ≡ 40
    → ReadsValue line (place + 1) next old new → ReadsValues line at next old new
values_begin line at place next old new blanks within paren r = record {
  values = r.value ∷ [];
  grown = r.grown;
  some = omega arith;
  proper = rw r.proper refl;
  reads = read_on line at place next [] _ blanks
      (read_on line place (place + 1) next (token.Sign sign.LeftParen ∷ []) _
      (sign_reads line place 40 sign.LeftParen within (omega arith) paren left_front) r.reads);
}

module _ (line : List ℕ) (at next place : ℕ) (old new : List Value) (so_far : ReadsValues line at next old new) (blanks : Reads line next place []) where
  before : Reads line at place (token.Sign sign.LeftParen ∷ spell_lits (map lit_of so_far.values))
  before = subst (λ (ts : List Token). Reads line at place ts) (append-nil (token.Sign sign.LeftParen ∷ spell_lits (map lit_of so_far.values)))
      (read_on line at next place _ [] so_far.reads blanks)

  pub values_go : (end : ℕ) (newer : List Value) → first (drop place line) ≡ 44 → ReadsValue line (place + 1) end new newer → ReadsValues line at end old newer
  values_go end newer is r = record {
    values = so_far.values ++ r.value ∷ [];
    grown = rw (r.grown, so_far.grown) (append_assoc old so_far.values (r.value ∷ []));
    some = let more = length-append so_far.values (r.value ∷ []) in omega (arith, more);
    proper = rw (list_all-append is_proper so_far.values (r.value ∷ []), so_far.proper, r.proper) refl;
    reads =
        let all = read_on line at place end _ _ before
        (read_on line place (place + 1) end (comma ∷ []) _ (sign_reads line place 44 sign.Comma blanks.within (omega arith) is comma_front) r.reads) in
        let lits = map-append lit_of so_far.values (r.value ∷ []) in
        let joined = joined_push (λ (v : Lit). lit_token v ∷ []) (map lit_of so_far.values) (lit_of r.value) (some_map so_far.values so_far.some) in
        rw (lits, joined) all;
  }

  pub tuple_ends : first (drop place line) ≡ 41 → ReadsTuple line at (place + 1) old new
  tuple_ends is = record {
    values = so_far.values;
    grown = so_far.grown;
    some = so_far.some;
    proper = so_far.proper;
    reads = read_on line at place (place + 1) _ _ before (sign_reads line place 41 sign.RightParen blanks.within (omega arith) is right_front);
  }

pub tuples_begin : (line : List ℕ) (at next : ℕ) (values : List Value) → ReadsTuple line at next [] values → ReadsTuples line at next (length values) 1 values
tuples_begin line at next values r = record {
  some = omega arith;
  wide = let same : length values ≡ length r.values = ap length r.grown in omega (arith, same, r.some);
  long = grind arith;
  proper = subst (λ (vs : List Value). list_all is_proper vs ≡ true) (sym r.grown) r.proper;
  reads =
      let one : spell_joined comma spell_tuple (written (cut 1 (length values) values)) ≡ spell_tuple (map lit_of values) =
      append-nil (spell_tuple (map lit_of (take (length values) values)))
      ∙ ap (λ (vs : List Value). spell_tuple (map lit_of vs)) (take_all (length values) values (omega arith)) in
      subst (λ (ts : List Token). Reads line at next ts) (sym one)
      (subst (λ (vs : List Value). Reads line at next (spell_tuple (map lit_of vs))) (sym r.grown) r.reads);
}

grown_by : (width count : ℕ) → (count + 1) * width ≡ count * width + width
grown_by width count = grind arith

length-cut : (count width : ℕ) (values : List Value) → length (cut count width values) ≡ count
length-cut zero width values = refl
length-cut (suc count) width values = ap suc (length-cut count width (drop width values))

written_push : (count width : ℕ) (values row newer : List Value) → 1 ≤ count → length values ≡ count * width → length row ≡ width → newer ≡ values ++ row
    → spell_joined comma spell_tuple (written (cut (count + 1) width newer))
    ≡ spell_joined comma spell_tuple (written (cut count width values)) ++ comma ∷ spell_tuple (map lit_of row)
written_push count width values row newer some long wide grown =
    let next : count + 1 ≡ suc count = omega arith in
    let many : 1 ≤ length (written (cut count width values)) = omega (arith, some, length-map (cut count width values) (map lit_of), length-cut count width values) in
    ap (λ (n : ℕ). spell_joined comma spell_tuple (written (cut n width newer))) next
    ∙ ap (λ (vs : List Value). spell_joined comma spell_tuple (written (cut (suc count) width vs))) grown
    ∙ ap (λ (ts : List (List Value)). spell_joined comma spell_tuple (written ts)) (cut-push count width values row long wide)
    ∙ ap (spell_joined comma spell_tuple) (map-append (map lit_of) (cut count width values) (row ∷ []))
    ∙ joined_push spell_tuple (written (cut count width values)) (map lit_of row) many

pub tuples_go : (line : List ℕ) (at next place end width count : ℕ) (values newer : List Value) → ReadsTuples line at next width count values
    → Reads line next place [] → first (drop place line) ≡ 44 → ReadsTuple line (place + 1) end values newer → length newer ≡ length values + width
    → ReadsTuples line at end width (count + 1) newer
tuples_go line at next place end width count values newer so_far blanks is r more =
    let total : length newer ≡ length values + length r.values = ap length r.grown ∙ length-append values r.values in
    let wide : length r.values ≡ width = omega (arith, total, more) in
    let long = so_far.long in
    let before = subst (λ (ts : List Token). Reads line at place ts) (append-nil (spell_joined comma spell_tuple (written (cut count width values))))
    (read_on line at next place _ [] so_far.reads blanks) in
    record {
      some = omega arith;
      wide = so_far.wide;
      long = omega (arith, more, long, grown_by width count);
      proper = rw (r.grown, list_all-append is_proper values r.values, so_far.proper, r.proper) refl;
      reads = subst (λ (ts : List Token). Reads line at end ts) (sym (written_push count width values r.values newer so_far.some long wide r.grown))
          (read_on line at place end _ _ before
          (read_on line place (place + 1) end (comma ∷ []) _ (sign_reads line place 44 sign.Comma blanks.within (omega arith) is comma_front) r.reads));
    }

any_lits : (ls : List Lit) → AllByRecursion Any ls
any_lits [] = tt
any_lits (l ∷ ls) = (tt, any_lits ls)

is_tuple : (width : ℕ) (values : List Value) → 1 ≤ width → width ≤ length values → IsTuple (map lit_of (take width values))
is_tuple zero values wide enough = absurd (omega (arith, wide))
is_tuple (suc width) [] wide enough = absurd (omega (arith, enough))
is_tuple (suc width) (v ∷ vs) wide enough = (tt, any_lits (map lit_of (v ∷ take width vs)))

one_more : (width count : ℕ) → suc count * width ≡ width + count * width
one_more width count = grind arith

each_tuple : (count width : ℕ) (values : List Value) → 1 ≤ width → length values ≡ count * width → AllByRecursion IsTuple (written (cut count width values))
each_tuple zero width values wide long = tt
each_tuple (suc count) width values wide long =
    let more = one_more width count in
    let left = length-drop width values in
    (is_tuple width values wide (omega (arith, long, more)), each_tuple count width (drop width values) wide (omega (arith, long, more, left)))

some_tuple : (count width : ℕ) (values : List Value) → 1 ≤ count → IsFilled (written (cut count width values))
some_tuple zero width values some = absurd (omega (arith, some))
some_tuple (suc count) width values some = tt

pub tuples_end : (line : List ℕ) (at next width count : ℕ) (values : List Value) → ReadsTuples line at next width count values → EndsAt line next
    → HasTuples line at (written (cut count width values))
tuples_end line at next width count values so_far end = record {
  good = (some_tuple count width values so_far.some, each_tuple count width values so_far.wide so_far.long);
  place = end.place;
  reads = subst (λ (ts : List Token). Reads line at end.place ts) (append-nil (spell_joined comma spell_tuple (written (cut count width values))))
      (read_on line at next end.place _ [] so_far.reads end.blanks);
  stop = end.stop;
}

pub ended_has : {E : Type 0} (line : List ℕ) (at next place width count : ℕ) (values : List Value) (r : Result (Option (List (List Lit))) E)
    → ReadsTuples line at next width count values → Reads line next place []
    → IfOk r (λ found. IfSome found (λ tuples. tuples ≡ written (cut count width values))) → IfOk r (λ found. IfSome found (λ tuples. EndsAt line place))
    → IfOk r (λ found. IfSome found (λ tuples. HasTuples line at tuples))
ended_has line at next place width count values (Ok (Some tuples)) so_far blanks is end =
    let behind : EndsAt line next = record { place = end.place; blanks = read_on line next place end.place [] [] blanks end.blanks; stop = end.stop } in
    subst (λ (ts : List (List Lit)). HasTuples line at ts) (sym is) (tuples_end line at next width count values so_far behind)
ended_has line at next place width count values (Ok None) so_far blanks is end = tt
ended_has line at next place width count values (Err e) so_far blanks is end = tt

-- ---- the statement

pub statement_lexed : (line : List ℕ) (at : ℕ) (name : List ℕ) (tuples : List (List Lit)) → ReadsHead line at name → HasTuples line at tuples
    → AreLexed line (spelling (stmt.Insert name [] tuples))
statement_lexed line at name tuples head r = all_read line r.place _ (read_on line 0 at r.place _ _ head.reads r.reads) r.stop

pub statement_is : (line : List ℕ) (at : ℕ) (name : List ℕ) (tuples : List (List Lit)) → ReadsHead line at name → HasTuples line at tuples
    → IsStmtOf side.Session (stmt.Insert name [] tuples)
statement_is line at name tuples head r =
    record { is_stmt = record { name = head.named; columns = tt; tuples = r.good }; is_of = refl }

-- ---- blanks

blank_first : (b : ℕ) (rest : List ℕ) → is_blank b ≡ true → front (b ∷ rest) ≡ Blank
unfolding front
blank_first b rest e = rw e refl

pub blank_reads : (line : List ℕ) (at place : ℕ) → Reads line at place [] → place < length line → is_blank (get_or line place 0) ≡ true
    → Reads line at (place + 1) []
blank_reads line at place before lt blank =
    let e : front (drop place line) ≡ Blank = ap front (drop-cons line place 0 lt) ∙ blank_first (get_or line place 0) (drop (suc place) line) blank in
    read_on line at place (place + 1) [] [] before (read_blank line place (omega (arith, lt)) e)

-- ---- ends

pub empty_stops : (bs : List ℕ) → length bs ≡ 0 → front bs ≡ Stop
unfolding front
empty_stops [] e = refl
empty_stops (b ∷ bs) e = absurd (omega (arith, e))

pub some_bytes : (bs : List ℕ) (b : ℕ) → 1 ≤ b → first bs ≡ b → 1 ≤ length bs
some_bytes [] b some e = absurd (omega (arith, e))
some_bytes (c ∷ bs) b some e = omega arith

semicolon_stops : (rest : List ℕ) → only_ends rest ≡ true → front (59 ∷ rest) ≡ Stop
unfolding front
semicolon_stops rest e = rw e refl

pub end_stops : (bs : List ℕ) → first bs ≡ 59 → only_ends (drop 1 bs) ≡ true → front bs ≡ Stop
end_stops bs e over = ap front (begins bs 59 (omega arith) e) ∙ semicolon_stops (drop 1 bs) over

-- ---- numbers and texts

pub minus_front_is : (bs : List ℕ) → first bs ≡ 45 → front bs ≡ minus_front (drop 1 bs)
minus_front_is bs e = ap front (begins bs 45 (omega arith) e) ∙ minus_first (drop 1 bs)

pub quote_front_is : (bs : List ℕ) → first bs ≡ 39 → front bs ≡ text_found (text_of (drop 1 bs))
quote_front_is bs e = ap front (begins bs 39 (omega arith) e) ∙ quote_front (drop 1 bs)

pub text_reads : (line : List ℕ) (at : ℕ) (t : List ℕ) (more : ℕ) (old new : List Value) → at ≤ length line → first (drop at line) ≡ 39
    → text_found (text_of (drop (at + 1) line)) ≡ Lexed (token.Text t) more → 1 ≤ length t → new ≡ old ++ value.Text t ∷ []
    → ReadsValue line at (at + more + 1) old new
text_reads line at t more old new within quote found some grown =
    let place : at + 1 + more ≡ at + more + 1 = omega arith in
    subst (λ (next : ℕ). ReadsValue line at next old new) place
    (value_reads line at (value.Text t) more old new within
    (quote_front_is (drop at line) quote ∙ ap (λ (bs : List ℕ). text_found (text_of bs)) (drop-drop 1 at line) ∙ found) (proper_text t some) grown)

pub text_within : (line : List ℕ) (at : ℕ) (t : List ℕ) (more : ℕ) → at ≤ length line → first (drop at line) ≡ 39
    → text_found (text_of (drop (at + 1) line)) ≡ Lexed (token.Text t) more → at + more + 1 ≤ length line
text_within line at t more within quote found =
    let ends = token_room at line (token.Text t) more within
    (quote_front_is (drop at line) quote ∙ ap (λ (bs : List ℕ). text_found (text_of bs)) (drop-drop 1 at line) ∙ found) in
    omega (arith, ends)

pub null_value : (line : List ℕ) (at next : ℕ) (old new : List Value) → ReadsLetters line at next (78 ∷ 85 ∷ 76 ∷ 76 ∷ []) → new ≡ old ++ value.Null ∷ []
    → ReadsValue line at next old new
null_value line at next old new r grown = record { value = value.Null; grown = grown; proper = refl; reads = null_reads line at next r }

-- ---- names and the head

pub name_reads : (line : List ℕ) (at place : ℕ) (name : List ℕ) (more : ℕ) → Reads line at place [] → is_ascii_alphabetic (first (drop place line)) ≡ true
    → word_front (run is_word_part (drop place line)) ≡ Lexed (token.Word name) more → IsName name → ReadsName line at (place + 1 + more) name
name_reads line at place name more blanks letter found named = record {
  named = named;
  reads = read_on line at place (place + 1 + more) [] _ blanks
      (read_token line place (token.Word name) more blanks.within (letter_front (drop place line) letter ∙ found));
}

pub head_reads : (line : List ℕ) (insert into named next : ℕ) (name : List ℕ) → ReadsLetters line 0 insert (73 ∷ 78 ∷ 83 ∷ 69 ∷ 82 ∷ 84 ∷ [])
    → ReadsLetters line insert into (73 ∷ 78 ∷ 84 ∷ 79 ∷ []) → ReadsName line into named name
    → ReadsLetters line named next (86 ∷ 65 ∷ 76 ∷ 85 ∷ 69 ∷ 83 ∷ []) → ReadsHead line next name
head_reads line insert into named next name first second third fourth = record {
  named = third.named;
  reads = read_on line 0 insert next _ _ (insert_reads line 0 insert first)
      (read_on line insert into next _ _ (into_reads line insert into second)
      (read_on line into named next _ _ third.reads (values_reads line named next fourth)));
}
