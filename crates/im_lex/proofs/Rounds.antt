-- The tokens of a line, round by round, and that a line has its tokens or its first bad byte once.
use Rattle.std.proofs.Common.{◌≡◌, ℕ, zero, suc, ◌+◌, ◌<◌, ◌≤◌, List, [], ◌∷◌, ◌++◌, length, drop, length-drop, Option, Some, None, Result, Ok, Err, refl, sym, ap, subst, ◌∙◌, append_assoc, inl, inr, arith}
use Rattle.std.proofs.lemmas.List.{append-nil, drop-drop, drop_all, length-map, map_push}
use Rattle.std.proofs.lemmas.Bool.{cases_lt}
use Rattle.std.specs.Prelude.{IfSome, slice_get}
use Rattle.std.specs.Global.{Vec}
use Rattle.im_syntax.specs.declared.token.Token.{Token}
use Rattle.im_lex.specs.declared.front.Front.{Front}
use Rattle.im_lex.specs.declared.front.Front.TheVariants.{Stop, Blank, Bad, Lexed}
use Rattle.im_lex.specs.Bytes.{front}
use Rattle.im_lex.specs.Lexing.{Lexes, ends, skips, takes, IsBadAt, is_bad, behind_blank, behind_token, BeginsWith, is_over, meets_bad, passes_blank, passes_token}
use Rattle.im_lex.specs.Lexing.{IsPlaceOf, IsLexed, IsFaultAt, IsBadByte, AreLexed, tokens_of, places_of}
use Rattle.im_lex.specs.declared.lexing.LexFault.{LexFault}
use Rattle.im_lex.specs.declared.lexing.LexFault.TheVariants as fault
use Rattle.im_lex.specs.inner.Rounds.{AreFollowed, AreFirst}
use Rattle.im_lex.proofs.Fits.{token_all_fits, blank_all_fits}

abbrev pub Tokens : Type 0
Tokens = List (Token × ℕ)

-- ---- a line computed, in so many rounds

with_token : Token → ℕ → Result Tokens ℕ → Result Tokens ℕ
with_token t at (Ok ts) = Ok ((t, at) ∷ ts)
with_token t at (Err n) = Err n

-- one round: what stands at the front, and then the rest
round_of : (ℕ → List ℕ → Result Tokens ℕ) → ℕ → Front → List ℕ → Result Tokens ℕ
round_of rest at Stop bs = Ok []
round_of rest at Bad bs = Err at
round_of rest at Blank bs = rest (at + 1) (drop 1 bs)
round_of rest at (Lexed t more) bs = with_token t at (rest (at + 1 + more) (drop (suc more) bs))

lexed_in : ℕ → ℕ → List ℕ → Result Tokens ℕ
lexed_in zero at bs = Ok []
lexed_in (suc k) at bs = round_of (lexed_in k) at (front bs) bs

-- a round goes on with what stands at the front
first_round : (k at : ℕ) (bs : List ℕ) {f : Front} → front bs ≡ f → lexed_in (suc k) at bs ≡ round_of (lexed_in k) at f bs
unfolding lexed_in
first_round k at bs e = ap (λ x. round_of (lexed_in k) at x bs) e

-- a line's tokens, or its first bad byte
abbrev Yields : ℕ → List ℕ → Result Tokens ℕ → Type 0
Yields at bs (Ok ts) = Lexes at bs ts
Yields at bs (Err n) = IsBadAt at bs n

from_yields : (k at : ℕ) (bs : List ℕ) (r : Result Tokens ℕ) → Yields at bs r → length bs < k → lexed_in k at bs ≡ r
unfolding lexed_in round_of with_token
from_yields zero at bs r is lt = absurd (omega arith)
from_yields (suc k) at bs (Ok ts) (ends at2 bs2 e) lt = first_round k at2 bs2 e
from_yields (suc k) at bs (Ok ts) (skips at2 b cs us e rest) lt =
    first_round k at2 (b ∷ cs) e ∙ from_yields k (at2 + 1) cs (Ok us) rest (omega arith)
from_yields (suc k) at bs (Ok ts) (takes at2 b cs t more us e rest) lt =
    first_round k at2 (b ∷ cs) e
    ∙ ap (with_token t at2) (from_yields k (at2 + 1 + more) (drop more cs) (Ok us) rest (omega (arith, length-drop more cs)))
from_yields (suc k) at bs (Err n) (is_bad at2 bs2 e) lt = first_round k at2 bs2 e
from_yields (suc k) at bs (Err n) (behind_blank at2 b cs m e rest) lt =
    first_round k at2 (b ∷ cs) e ∙ from_yields k (at2 + 1) cs (Err m) rest (omega arith)
from_yields (suc k) at bs (Err n) (behind_token at2 b cs t more m e rest) lt =
    first_round k at2 (b ∷ cs) e
    ∙ ap (with_token t at2) (from_yields k (at2 + 1 + more) (drop more cs) (Err m) rest (omega (arith, length-drop more cs)))

-- ---- a line has its tokens or its first bad byte, once

yields_once : (bs : List ℕ) (r s : Result Tokens ℕ) → Yields 0 bs r → Yields 0 bs s → r ≡ s
yields_once bs r s first second =
    sym (from_yields (suc (length bs)) 0 bs r first (omega arith)) ∙ from_yields (suc (length bs)) 0 bs s second (omega arith)

pub lexes_once : (bs : List ℕ) (ts us : Tokens) → Lexes 0 bs ts → Lexes 0 bs us → ts ≡ us
lexes_once bs ts us l m = let same = yields_once bs (Ok ts) (Ok us) l m in cc

pub bad_once : (bs : List ℕ) (n m : ℕ) → IsBadAt 0 bs n → IsBadAt 0 bs m → n ≡ m
bad_once bs n m b c = let same = yields_once bs (Err n) (Err m) b c in cc

pub lexes_or_bad : (bs : List ℕ) (ts : Tokens) (n : ℕ) → Lexes 0 bs ts → IsBadAt 0 bs n → ⊥
lexes_or_bad bs ts n l b = let same = yields_once bs (Ok ts) (Err n) l b in cc

-- ---- one round, and what stands behind it

pub skip : (at : ℕ) (bs : List ℕ) (ts : Tokens) → front bs ≡ Blank → Lexes (at + 1) (drop 1 bs) ts → Lexes at bs ts
unfolding front
skip at [] ts e l = absurd cc
skip at (b ∷ bs) ts e l = skips at b bs ts e l

skip_bad : (at : ℕ) (bs : List ℕ) (n : ℕ) → front bs ≡ Blank → IsBadAt (at + 1) (drop 1 bs) n → IsBadAt at bs n
unfolding front
skip_bad at [] n e l = absurd cc
skip_bad at (b ∷ bs) n e l = behind_blank at b bs n e l

pub one_token : (at : ℕ) (bs : List ℕ) (t : Token) (more : ℕ) (ts : Tokens) → front bs ≡ Lexed t more → Lexes (at + 1 + more) (drop (suc more) bs) ts
    → Lexes at bs ((t, at) ∷ ts)
unfolding front
one_token at [] t more ts e l = absurd cc
one_token at (b ∷ bs) t more ts e l = takes at b bs t more ts e l

token_bad : (at : ℕ) (bs : List ℕ) (t : Token) (more n : ℕ) → front bs ≡ Lexed t more → IsBadAt (at + 1 + more) (drop (suc more) bs) n → IsBadAt at bs n
unfolding front
token_bad at [] t more n e l = absurd cc
token_bad at (b ∷ bs) t more n e l = behind_token at b bs t more n e l

begin_blank : (at : ℕ) (bs : List ℕ) (ts : Tokens) → front bs ≡ Blank → BeginsWith (at + 1) (drop 1 bs) ts → BeginsWith at bs ts
unfolding front
begin_blank at [] ts e l = absurd cc
begin_blank at (b ∷ bs) ts e l = passes_blank at b bs ts e l

begin_token : (at : ℕ) (bs : List ℕ) (t : Token) (more : ℕ) (ts : Tokens) → front bs ≡ Lexed t more → BeginsWith (at + 1 + more) (drop (suc more) bs) ts
    → BeginsWith at bs ((t, at) ∷ ts)
unfolding front
begin_token at [] t more ts e l = absurd cc
begin_token at (b ∷ bs) t more ts e l = passes_token at b bs t more ts e l

-- ---- all bytes begin with some tokens, a line that has its tokens with these

record Begun (at : ℕ) (bs : List ℕ) : Type 0 where
  tokens : Tokens
  begins : BeginsWith at bs tokens

begun_by : (at : ℕ) (bs : List ℕ) (f : Front) → front bs ≡ f → ((next : ℕ) (rest : List ℕ) → length rest < length bs → Begun next rest) → Begun at bs
begun_by at bs Stop e rest = record { tokens = []; begins = is_over at bs e }
begun_by at bs Bad e rest = record { tokens = []; begins = meets_bad at bs e }
begun_by at bs Blank e rest =
    let some = blank_all_fits bs e in
    let left = length-drop 1 bs in
    let r = rest (at + 1) (drop 1 bs) (omega arith) in
    record { tokens = r.tokens; begins = begin_blank at bs r.tokens e r.begins }
begun_by at bs (Lexed t more) e rest =
    let some = token_all_fits bs t more e in
    let left = length-drop (suc more) bs in
    let r = rest (at + 1 + more) (drop (suc more) bs) (omega arith) in
    record { tokens = (t, at) ∷ r.tokens; begins = begin_token at bs t more r.tokens e r.begins }

begun_in : (k at : ℕ) (bs : List ℕ) → length bs < k → Begun at bs
begun_in zero at bs lt = absurd (omega arith)
begun_in (suc k) at bs lt = begun_by at bs (front bs) refl (λ next rest less. begun_in k next rest (omega arith))

begun : (at : ℕ) (bs : List ℕ) → Begun at bs
begun at bs = begun_in (suc (length bs)) at bs (omega arith)

lexes_begins : (at : ℕ) (bs : List ℕ) (ts : Tokens) → Lexes at bs ts → BeginsWith at bs ts
lexes_begins at bs ts (ends at2 bs2 e) = is_over at2 bs2 e
lexes_begins at bs ts (skips at2 b cs us e rest) = passes_blank at2 b cs us e (lexes_begins (at2 + 1) cs us rest)
lexes_begins at bs ts (takes at2 b cs t more us e rest) =
    passes_token at2 b cs t more us e (lexes_begins (at2 + 1 + more) (drop more cs) us rest)

-- a token past the last one has no place
none_past : (ts : Tokens) (n : ℕ) → length ts ≤ n → slice_get (places_of ts) n ≡ None
none_past [] n le = refl
none_past (t ∷ ts) zero le = absurd (omega arith)
none_past (t ∷ ts) (suc n) le = none_past ts n (omega arith)

-- ---- the same the other way: what a line's tokens are behind one round

none_left : (at : ℕ) (bs : List ℕ) (ts : Tokens) → front bs ≡ Stop → Lexes at bs ts → ts ≡ []
none_left at bs ts e (ends at2 bs2 f) = refl
none_left at bs ts e (skips at2 b cs us f rest) = absurd cc
none_left at bs ts e (takes at2 b cs t more us f rest) = absurd cc

behind_skip : (at : ℕ) (bs : List ℕ) (ts : Tokens) → front bs ≡ Blank → Lexes at bs ts → Lexes (at + 1) (drop 1 bs) ts
behind_skip at bs ts e (ends at2 bs2 f) = absurd cc
behind_skip at bs ts e (skips at2 b cs us f rest) = rest
behind_skip at bs ts e (takes at2 b cs t more us f rest) = absurd cc

record Taken (at : ℕ) (bs : List ℕ) (t : Token) (more : ℕ) (ts : Tokens) : Type 0 where
  rest : Tokens
  are : ts ≡ (t, at) ∷ rest
  lexes : Lexes (at + 1 + more) (drop (suc more) bs) rest

behind_one : (at : ℕ) (bs : List ℕ) (t : Token) (more : ℕ) (ts : Tokens) → front bs ≡ Lexed t more → Lexes at bs ts → Taken at bs t more ts
behind_one at bs t more ts e (ends at2 bs2 f) = absurd cc
behind_one at bs t more ts e (skips at2 b cs us f rest) = absurd cc
behind_one at bs t more ts e (takes at2 b cs u less us f rest) =
    let same : u ≡ t = cc in
    let long : less ≡ more = cc in
    record { rest = us; are = ap (λ (x : Token). (x, at2) ∷ us) same; lexes = subst (λ (k : ℕ). Lexes (at2 + 1 + k) (drop k cs) us) long rest }

-- ---- the tokens that were read up to a place

-- the line's tokens are those that were read, and then those of the rest
pub record GoOn (at : ℕ) (line : List ℕ) (pairs ts : Tokens) : Type 0 where
  pub rest : Tokens
  pub lexes : Lexes at (drop at line) rest
  pub are : ts ≡ pairs ++ rest

-- what was read so far: behind it the tokens of the rest go on, both ways, also where a byte is bad, and its first bad byte is the line's
pub record SoFar (at : ℕ) (line : List ℕ) (tokens : List Token) : Type 0 where
  pub pairs : Tokens
  pub tokens_are : tokens ≡ tokens_of pairs
  pub goes_on : (ts : Tokens) → Lexes at (drop at line) ts → Lexes 0 line (pairs ++ ts)
  pub back : (ts : Tokens) → Lexes 0 line ts → GoOn at line pairs ts
  pub begins : (ts : Tokens) → BeginsWith at (drop at line) ts → BeginsWith 0 line (pairs ++ ts)
  pub bad : (n : ℕ) → IsBadAt at (drop at line) n → IsBadAt 0 line n
  pub within : at ≤ length line

-- one more than fewer are at most so many
pub below_most : (n most : ℕ) {more : ℕ} → n ≤ most → (n ≡ most → ⊥) → more ≡ n + 1 → more ≤ most
below_most n most le other is =
    elim (cases_lt n most) [
      | inl less ↦ omega arith
      | inr not_less ↦ let same : n ≡ most = omega arith in absurd (other same)
    ]

pub so_far_none : (line : List ℕ) → SoFar 0 line []
so_far_none line = record {
  pairs = [];
  tokens_are = refl;
  goes_on = λ ts l. l;
  back = λ ts l. record { rest = ts; lexes = l; are = refl };
  begins = λ ts b. b;
  bad = λ n b. b;
  within = omega arith;
}

pub token_room : (at : ℕ) (line : List ℕ) (t : Token) (more : ℕ) → at ≤ length line → front (drop at line) ≡ Lexed t more → at + 1 + more ≤ length line
token_room at line t more within e =
    let room = token_all_fits (drop at line) t more e in
    let left = length-drop at line in
    omega arith

pub blank_room : (at : ℕ) (line : List ℕ) → at ≤ length line → front (drop at line) ≡ Blank → at + 1 ≤ length line
blank_room at line within e =
    let room = blank_all_fits (drop at line) e in
    let left = length-drop at line in
    omega arith

-- so many bytes further on in a line
pub further : (at more : ℕ) (line : List ℕ) → drop (at + 1 + more) line ≡ drop (suc more) (drop at line)
further at more line =
    let place : at + 1 + more ≡ at + suc more = omega arith in
    ap (λ (k : ℕ). drop k line) place ∙ sym (drop-drop (suc more) at line)

-- the token behind so many others
next_place : (before : Tokens) (p : Token × ℕ) (rest : Tokens) → slice_get (places_of (before ++ p ∷ rest)) (length before) ≡ Some (p.1)
next_place [] p rest = refl
next_place (q ∷ before) p rest = next_place before p rest

module _ (at : ℕ) (line : List ℕ) (tokens : List Token) (so_far : SoFar at line tokens) where
  pub found_at_stop : front (drop at line) ≡ Stop → AreLexed line tokens
  found_at_stop e = record {
    pairs = so_far.pairs;
    lexes = subst (λ (x : Tokens). Lexes 0 line x) (append-nil so_far.pairs) (so_far.goes_on [] (ends at (drop at line) e));
    tokens_are = so_far.tokens_are;
  }

  pub found_at_end : length line ≤ at → AreLexed line tokens
  unfolding front
  found_at_end le = found_at_stop (ap front (drop_all at line le))

  pub bad_here : front (drop at line) ≡ Bad → IsBadAt 0 line at
  bad_here e = so_far.bad at (is_bad at (drop at line) e)

  pub so_far-blank : front (drop at line) ≡ Blank → SoFar (at + 1) line tokens
  so_far-blank e = record {
    pairs = so_far.pairs;
    tokens_are = so_far.tokens_are;
    goes_on = λ ts l. so_far.goes_on ts (skip at (drop at line) ts e (subst (λ (x : List ℕ). Lexes (at + 1) x ts) (sym (drop-drop 1 at line)) l));
    back = λ ts l.
        let b = so_far.back ts l in
        record {
          rest = b.rest;
          lexes = subst (λ (x : List ℕ). Lexes (at + 1) x b.rest) (drop-drop 1 at line) (behind_skip at (drop at line) b.rest e b.lexes);
          are = b.are;
        };
    begins = λ ts b.
        so_far.begins ts (begin_blank at (drop at line) ts e (subst (λ (x : List ℕ). BeginsWith (at + 1) x ts) (sym (drop-drop 1 at line)) b));
    bad = λ n b. so_far.bad n (skip_bad at (drop at line) n e (subst (λ (x : List ℕ). IsBadAt (at + 1) x n) (sym (drop-drop 1 at line)) b));
    within = blank_room at line so_far.within e;
  }

  pub so_far-token : (t : Token) (more : ℕ) → front (drop at line) ≡ Lexed t more → SoFar (at + 1 + more) line (tokens ++ t ∷ [])
  so_far-token t more e = record {
    pairs = so_far.pairs ++ (t, at) ∷ [];
    tokens_are = ap (λ (x : List Token). x ++ t ∷ []) so_far.tokens_are ∙ sym (map_push (λ (p : Token × ℕ). p.0) so_far.pairs (t, at));
    goes_on = λ ts l.
        subst (λ (x : Tokens). Lexes 0 line x) (sym (append_assoc so_far.pairs ((t, at) ∷ []) ts))
        (so_far.goes_on ((t, at) ∷ ts) (one_token at (drop at line) t more ts e (subst (λ (x : List ℕ). Lexes (at + 1 + more) x ts) (further at more line) l)));
    back = λ ts l.
        let b = so_far.back ts l in
        let taken = behind_one at (drop at line) t more b.rest e b.lexes in
        record {
          rest = taken.rest;
          lexes = subst (λ (x : List ℕ). Lexes (at + 1 + more) x taken.rest) (sym (further at more line)) taken.lexes;
          are = b.are ∙ ap (λ (x : Tokens). so_far.pairs ++ x) taken.are ∙ sym (append_assoc so_far.pairs ((t, at) ∷ []) taken.rest);
        };
    begins = λ ts b.
        subst (λ (x : Tokens). BeginsWith 0 line x) (sym (append_assoc so_far.pairs ((t, at) ∷ []) ts))
        (so_far.begins ((t, at) ∷ ts)
        (begin_token at (drop at line) t more ts e (subst (λ (x : List ℕ). BeginsWith (at + 1 + more) x ts) (further at more line) b)));
    bad = λ n b. so_far.bad n (token_bad at (drop at line) t more n e (subst (λ (x : List ℕ). IsBadAt (at + 1 + more) x n) (further at more line) b));
    within = token_room at line t more so_far.within e;
  }

  -- so many tokens were read as there are places
  count_is : length tokens ≡ length so_far.pairs
  count_is = ap length so_far.tokens_are ∙ length-map so_far.pairs (λ (p : Token × ℕ). p.0)

  pub met_before : (most : ℕ) → front (drop at line) ≡ Bad → length tokens ≤ most → IsPlaceOf most line None
  met_before most e few =
      let count = count_is in
      let pairs : Tokens = so_far.pairs ++ [] in
      record {
        pairs = pairs;
        begins = so_far.begins [] (meets_bad at (drop at line) e);
        is = sym (none_past pairs most (let same = ap length (append-nil so_far.pairs) in omega arith));
      }

  stands_at : (most : ℕ) (t : Token) (more : ℕ) → front (drop at line) ≡ Lexed t more → length tokens ≡ most → IsPlaceOf most line (Some at)
  stands_at most t more e count =
      let rest = begun (at + 1 + more) (drop (suc more) (drop at line)) in
      let pairs : Tokens = so_far.pairs ++ (t, at) ∷ rest.tokens in
      let first : most ≡ length so_far.pairs = sym count ∙ count_is in
      record {
        pairs = pairs;
        begins = so_far.begins ((t, at) ∷ rest.tokens) (begin_token at (drop at line) t more rest.tokens e rest.begins);
        is = sym (ap (λ (k : ℕ). slice_get (places_of pairs) k) first ∙ next_place so_far.pairs (t, at) rest.tokens);
      }

  pub followed : (most : ℕ) (t : Token) (more : ℕ) → front (drop at line) ≡ Lexed t more → length tokens ≡ most → most ≤ at → AreFollowed most at line
  followed most t more e count few = record {
    place = λ ts l.
        let b = so_far.back ts l in
        let taken = behind_one at (drop at line) t more b.rest e b.lexes in
        let whole = b.are ∙ ap (λ (x : Tokens). so_far.pairs ++ x) taken.are in
        let first : most ≡ length so_far.pairs = sym count ∙ count_is in
        ap (λ (x : Tokens). slice_get (places_of x) most) whole
        ∙ ap (λ (k : ℕ). slice_get (places_of (so_far.pairs ++ (t, at) ∷ taken.rest)) k) first
        ∙ next_place so_far.pairs (t, at) taken.rest;
    stands = stands_at most t more e count;
    within = so_far.within;
    fewer = let room = token_room at line t more so_far.within e in omega arith;
  }

-- ---- what the code gives, and nothing else

-- where no token follows there are all, and so many are more than the bytes
pub all_found : (bs : List ℕ) (tokens : List Token) (next : Option ℕ) → AreFirst (length bs) bs tokens next → AreLexed bs tokens
all_found bs tokens None are = are.0
all_found bs tokens (Some at) are = let fewer = are.fewer in absurd (omega arith)

pub next_is : (n : ℕ) (bs : List ℕ) (tokens : List Token) (next : Option ℕ) → AreFirst n bs tokens next → (ts : Tokens) → Lexes 0 bs ts
    → next ≡ slice_get (places_of ts) n
next_is n bs tokens None are ts l =
    let same : tokens ≡ tokens_of ts = are.0.tokens_are ∙ ap tokens_of (lexes_once bs are.0.pairs ts are.0.lexes l) in
    let count = ap length same ∙ length-map ts (λ (p : Token × ℕ). p.0) in
    let few = are.1 in
    sym (none_past ts n (omega arith))
next_is n bs tokens (Some at) are ts l = sym (are.place ts l)

pub next_stands : (n : ℕ) (bs : List ℕ) (tokens : List Token) (next : Option ℕ) → AreFirst n bs tokens next → IsPlaceOf n bs next
next_stands n bs tokens None are =
    let pairs = are.0.pairs in
    let count = ap length are.0.tokens_are ∙ length-map pairs (λ (p : Token × ℕ). p.0) in
    let few = are.1 in
    record { pairs = pairs; begins = lexes_begins 0 bs pairs are.0.lexes; is = sym (none_past pairs n (omega arith)) }
next_stands n bs tokens (Some at) are = are.stands

pub next_within : (n : ℕ) (bs : List ℕ) (tokens : List Token) (next : Option ℕ) → AreFirst n bs tokens next → IfSome next (λ at. at ≤ length bs)
next_within n bs tokens None are = tt
next_within n bs tokens (Some at) are = are.within

pub found_is : (bs : List ℕ) (tokens : List Token) → AreLexed bs tokens → (ts : Tokens) → Lexes 0 bs ts → tokens ≡ tokens_of ts
found_is bs tokens are ts l = are.tokens_are ∙ ap tokens_of (lexes_once bs are.pairs ts are.lexes l)

pub found_never_bad : (bs : List ℕ) (tokens : List Token) → AreLexed bs tokens → (n : ℕ) → IsBadAt 0 bs n → ⊥
found_never_bad bs tokens are n b = lexes_or_bad bs are.pairs n are.lexes b

pub fault_only : (bs : List ℕ) (f : LexFault) → IsBadByte bs f → (ts : Tokens) → Lexes 0 bs ts → IsLexed ts (Err f)
fault_only bs (fault.At n) bad ts l = lexes_or_bad bs ts n l bad
fault_only bs fault.NoMemory bad ts l = tt

pub fault_is : (bs : List ℕ) (f : LexFault) → IsBadByte bs f → (n : ℕ) → IsBadAt 0 bs n → IsFaultAt {T = Vec Token} n (Err f)
fault_is bs (fault.At m) bad n b = bad_once bs m n bad b
fault_is bs fault.NoMemory bad n b = tt
