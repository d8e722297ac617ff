-- Where the codes lie in whole words.
use Rattle.std.proofs.Common.{◌≡◌, ℕ, ◌*◌, ◌/◌, ◌%◌, ◌^◌, ◌<◌, List, length, get_or, All}
use Rattle.im_bits.specs.Packed.{word_of, words_of, words_for, share_of}
use Rattle.im_bits.proofs.PackedLemmas as lemma

-- there are as many words as the codes fill
pub length-words_of : (width : ℕ) (codes : List ℕ) → length (words_of width codes) ≡ words_for (length codes) width
length-words_of = lemma.length-words_of

-- the word at a place holds its share of the codes
pub get_or-words_of : (width : ℕ) (codes : List ℕ) (k d : ℕ) → k < words_for (length codes) width →
    get_or (words_of width codes) k d ≡ word_of width (share_of width codes k)
get_or-words_of = lemma.get_or-words_of

-- the field at a place of a word is the code at that place of its share, and 0 past the last
pub field-word_of : (width : ℕ) (codes : List ℕ) (j : ℕ) → All (λ code. code < 2 ^ width) codes →
    word_of width codes / 2 ^ (j * width) % 2 ^ width ≡ get_or codes j 0
field-word_of = lemma.field-word_of

-- a share of fitting codes fits
pub share_of-fit : (width : ℕ) (codes : List ℕ) (k : ℕ) → All (λ code. code < 2 ^ width) codes → All (λ code. code < 2 ^ width) (share_of width codes k)
share_of-fit = lemma.share-fit
