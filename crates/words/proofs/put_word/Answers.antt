-- `words::put_word` meets its contract. Assumes nothing.
use Rattle.std.proofs.Common.{rules}
use Rattle.words.specs.Tables.{with_word}
use Rattle.words.proofs.put_word.Goals as goal

pub returns : goal.returns
unfolding with_word
returns c = search rules
