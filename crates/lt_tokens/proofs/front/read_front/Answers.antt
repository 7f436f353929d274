use Rattle.lt_tokens.proofs.Ascii.{ascii_word}
use Rattle.lt_tokens.proofs.Digits.{digits_ahead}
use Rattle.lt_tokens.proofs.front.read_front.Goals as goal

pub word_of-requires : goal.word_of-requires
word_of-requires c = rw c.word_length-n.ensures (ascii_word c.args.bytes.now)

pub number-requires-clause-digits : goal.number-requires-clause-digits
number-requires-clause-digits c = rw c.digits_length.ensures (digits_ahead c.args.bytes.now)
