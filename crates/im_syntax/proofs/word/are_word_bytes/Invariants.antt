use Rattle.std.proofs.Common.{◌≡◌, drop}
use Rattle.std.specs.List.{list_all}
use Rattle.im_syntax.specs.Words as words
use Rattle.im_syntax.proofs.word.are_word_bytes.Given as goal

abbrev pub invariant-loop-byte : goal.invariant-loop-byte
invariant-loop-byte l = list_all words.is_word_byte (drop l.byte-index l.bytes) ≡ list_all words.is_word_byte l.bytes
