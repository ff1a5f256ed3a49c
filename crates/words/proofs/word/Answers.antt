-- `words::word` meets its contract. Assumes nothing.
use Rattle.std.proofs.Common.{rules}
use Rattle.rules.specs.Words.{u16}
use Rattle.words.proofs.word.Goals as goal

pub returns : goal.returns
unfolding u16
returns c = search rules
