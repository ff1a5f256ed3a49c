use Rattle.std.proofs.Common.{◌/◌, length}
use Rattle.rules.specs.Words.{words}
use Rattle.cuts.proofs.Marking.{Marking}
use Rattle.cuts.proofs.list_fits.Given as goal

abbrev pub invariant-loop-i : goal.invariant-loop-i
invariant-loop-i l = Marking l.initial.poles (words l.body 0 (length l.body / 2)) l.poles l.from l.i
