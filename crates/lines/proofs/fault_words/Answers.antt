-- `lines::fault_words` meets its contract: each arm gives the words of its number. Assumes nothing.
use native.Mathlib.Omega.{arith}
use Rattle.rules.specs.Listing.{saying, ascii}
use Rattle.lines.proofs.Said.{words_at}
use Rattle.lines.proofs.fault_words.Goals as goal

pub returns-in-2 : goal.returns-in-2
unfolding saying ascii
returns-in-2 c = words_at 2 (omega arith)

pub returns-in-3 : goal.returns-in-3
unfolding saying ascii
returns-in-3 c = words_at 3 (omega arith)

pub returns-in-4 : goal.returns-in-4
unfolding saying ascii
returns-in-4 c = words_at 4 (omega arith)

pub returns-in-5 : goal.returns-in-5
unfolding saying ascii
returns-in-5 c = words_at 5 (omega arith)

pub returns-in-6 : goal.returns-in-6
unfolding saying ascii
returns-in-6 c = words_at 6 (omega arith)

pub returns-in-7 : goal.returns-in-7
unfolding saying ascii
returns-in-7 c = words_at 7 (omega arith)

pub returns-in_default : goal.returns-in_default
unfolding saying ascii
returns-in_default c = words_at 8 (omega arith)
